-- The reader's own two objects are put: ours stay, and the store keeps its room. Assumes nothing.
use Rattle.std.proofs.Common.{◌≡◌, ℕ, ◌≤◌, Bool, true, false, List, length, Some, Option, sym, refl, ◌∙◌, subst}
use Rattle.dictionary.specs.declared.entry.Writer.{Writer}
use Rattle.dictionary.specs.Dictionary.{dictionary, entry_of}
use Rattle.store.specs.Map.{Map, changed}
use Rattle.judge.specs.declared.kind.TextKind.{TextKind}
use Rattle.judge.specs.declared.kind.TextKind.TheVariants.{Configuration, TerminalWrite, CardAnswer}
use Rattle.judge.specs.Kinds.{writes}
use Rattle.judge.specs.Writers.{by_writer}
use Rattle.keeping.specs.declared.shares.Shares.{Shares}
use Rattle.keeping.specs.Shares.{share_of}
use Rattle.keeping.specs.Room.{verification_results, error_indication, Roomy}
use Rattle.keeping.specs.Own.{own_writer, SameOwn}
use Rattle.run.proofs.Maps.{of, unlisted_of, changed_apart, changed_other, total_changed}

abbrev readers : Writer → Bool
readers w = by_writer false false false false true w

results_apart : (k : TextKind) → of (writes k) verification_results ≡ false
unfolding entry_of dictionary
results_apart Configuration = refl
results_apart (TerminalWrite begun) = refl
results_apart CardAnswer = refl

indication_apart : (k : TextKind) → of (writes k) error_indication ≡ false
unfolding entry_of dictionary
indication_apart Configuration = refl
indication_apart (TerminalWrite begun) = refl
indication_apart CardAnswer = refl

pub results_own : (held : Map) (v : Option (List ℕ)) → SameOwn (changed held verification_results v) held
unfolding entry_of dictionary
results_own held v = λ t o. changed_apart own_writer held verification_results t v refl o

pub indication_own : (held : Map) (v : Option (List ℕ)) → SameOwn (changed held error_indication v) held
unfolding entry_of dictionary
indication_own held v = λ t o. changed_apart own_writer held error_indication t v refl o

pub results_roomy : (s : Shares) (o b : ℕ) (held : Map) (v : List ℕ) → length v ≤ 5 → Roomy s o b held → Roomy s o b (changed held verification_results (Some v))
unfolding entry_of dictionary
results_roomy s o b held v short r = record {
  known = λ t u. changed_other readers held verification_results t (Some v) refl (unlisted_of readers t u) ∙ r.known t u;
  within = λ k. subst (λ n. n ≤ share_of s k) (sym (total_changed k held verification_results (Some v) (results_apart k))) (r.within k);
  verification = short;
  indication = r.indication;
  slots = r.slots;
  space = r.space;
}

pub indication_roomy : (s : Shares) (o b : ℕ) (held : Map) (v : List ℕ) → length v ≤ 6 → Roomy s o b held → Roomy s o b (changed held error_indication (Some v))
unfolding entry_of dictionary
indication_roomy s o b held v short r = record {
  known = λ t u. changed_other readers held error_indication t (Some v) refl (unlisted_of readers t u) ∙ r.known t u;
  within = λ k. subst (λ n. n ≤ share_of s k) (sym (total_changed k held error_indication (Some v) (indication_apart k))) (r.within k);
  verification = r.verification;
  indication = short;
  slots = r.slots;
  space = r.space;
}
