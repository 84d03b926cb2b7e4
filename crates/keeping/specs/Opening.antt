-- Whether a store serves at opening.
use Rattle.std.specs.Prelude.{ℕ, cond, not, ◌||◌, Ok, Err, Result, ◌==◌, nat_lt}
use Rattle.keeping.specs.declared.shares.Shares.{Shares}
use Rattle.keeping.specs.declared.refusal.StoreRefusal.{StoreRefusal}
use Rattle.keeping.specs.declared.refusal.StoreRefusal.TheVariants.{HoldsObjects, TooSmall}
use Rattle.keeping.specs.Room.{needed_objects, needed_bytes}

-- it holds nothing, and its limits are those needed or more
abbrev pub admit_answer : Shares → ℕ → ℕ → ℕ → Result (Unit {0}) StoreRefusal
admit_answer s objects bytes held =
    cond (not (held == 0)) (Err HoldsObjects)
    (cond (nat_lt objects needed_objects || nat_lt bytes (needed_bytes s)) (Err TooSmall) (Ok tt))
