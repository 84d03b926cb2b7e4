-- A value with '00' in front, as an iterator gives it.
use Rattle.std.proofs.Common.{◌≡◌, ℕ, ◌-◌, false, List, length}
use Rattle.std.specs.declared.iter.Chain.{Chain}
use Rattle.std.specs.declared.iter.Copied.{Copied}
use Rattle.std.specs.declared.iter.RepeatN.{RepeatN}
use Rattle.std.specs.declared.slice.Iter.{Iter}
use Rattle.std.specs.Iterator.Adapters.{chain_first, chain_second, chain_first_done, chain_second_done, chain_steps, copied_source, repeat_n_item, repeat_n_count, repeat_n_steps}
use Rattle.std.specs.Slice.Iter.{iter_rest}
use Rattle.std.proofs.iter.Yields.{copies, fronts}
use Rattle.std.proofs.lemmas.Iterator.{YieldsList, YieldsList-from_slice}
use Rattle.std.proofs.lemmas.Iterator.Adapters.{YieldsList-from_repeat_n}
use Rattle.std.proofs.lemmas.Iterator.Consumers.{YieldsList-from_chain, YieldsList-from_copied}
use Rattle.decision.specs.Amounts.{padded}

pub padded_items : {s : Chain (RepeatN ℕ) (Copied (Iter ℕ))} (n : ℕ) (v : List ℕ) →
    repeat_n_count (chain_first s) ≡ n - length v → repeat_n_item (chain_first s) ≡ 0 →
    iter_rest (copied_source (chain_second s)) ≡ v → chain_first_done s ≡ false → chain_second_done s ≡ false →
    YieldsList (chain_steps (repeat_n_steps (λ x y. y ≡ x)) (copies fronts)) (λ x. x) s (padded n v)
padded_items n v count item rest first second =
    YieldsList-from_chain
    (YieldsList-from_repeat_n (λ x y. y ≡ x) (n - length v) 0 count item (λ y k. k))
    (YieldsList-from_copied (YieldsList-from_slice v rest)) first second
