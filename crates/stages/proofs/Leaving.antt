-- The records left to be read. Assumes nothing.
use Rattle.std.proofs.Common.{◌≡◌, ℕ, zero, suc, ◌<◌, List, [], ◌∷◌, length, get_or, take, Some, refl, ap, arith}
use Rattle.keyed.specs.declared.record.Record.{Record}
use Rattle.store.specs.Map.{Map}
use Rattle.commands.specs.Commands.{read_record}
use Rattle.run.specs.Run.{hands_out, unless, missing, first_missing, first_record, verified, decides, after_record}
use Rattle.stages.specs.Nexts.{awaiting}

pub first_of : (rs : List Record) (n : ℕ) (d : Record) (held : Map) → 0 < n → 0 < length rs
    → hands_out (read_record (get_or rs 0 d)) (awaiting (take n rs)) held ≡ first_record held (Some (take n rs))
first_of [] n d held a b = absurd (omega (arith, b))
first_of (r ∷ rs) zero d held a b = absurd (omega (arith, a))
first_of (r ∷ rs) (suc n) d held a b = refl

take_whole : (rs : List Record) → take (length rs) rs ≡ rs
take_whole [] = refl
take_whole (r ∷ rs) = ap (λ l. r ∷ l) (take_whole rs)

pub next_of : (rs : List Record) (d : Record) (held brought : Map) → 0 < length rs
    → hands_out (read_record (get_or rs 0 d)) (awaiting (take (length rs) rs)) held ≡ after_record rs held brought
unfolding after_record
next_of [] d held brought a = absurd (omega (arith, a))
next_of (r ∷ rs) d held brought a = ap (λ l. hands_out (read_record r) (awaiting (r ∷ l)) held) (take_whole rs)

pub none_left : (rs : List Record) (held brought : Map) → length rs ≡ 0
    → unless (missing (first_missing (0x5A ∷ 0x5F24 ∷ []) held)) held (decides (verified held)) ≡ after_record rs held brought
unfolding after_record
none_left [] held brought e = refl
none_left (r ∷ rs) held brought e = absurd (omega (arith, e))
