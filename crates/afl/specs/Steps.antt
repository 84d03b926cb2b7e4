-- An AFL read entry by entry into a list that takes each record once.
use Rattle.std.specs.Prelude.{ℕ, ◌+◌, ◌-◌, ◌/◌, cond, List, [], ◌∷◌, ◌++◌, Some, None, Ok, Err, Option, Result}
use Rattle.keyed.specs.declared.record.Record.{Record}
use Rattle.keyed.specs.declared.list.NotAdded.{NotAdded}
use Rattle.keyed.specs.Elements.{answer}
use Rattle.keyed.specs.Records.{record_same}
use Rattle.afl.specs.declared.locator.Span.{Span}
use Rattle.afl.specs.declared.locator.AflFault.{AflFault}
use Rattle.afl.specs.Afl.{good, run}

abbrev pub span_of : ℕ → ℕ → ℕ → ℕ → Option Span
span_of f a z n = cond (good f a z n) (Some (record { sfi = f / 8; first = a; last = z })) None

abbrev pub run_of : Span → List Record
run_of p = run p.sfi p.first (p.last + 1 - p.first)

abbrev pub on_added : Result (Unit {0}) NotAdded → Option (List Record) → Option (List Record)
on_added (Ok _) next = next
on_added (Err _) next = None

-- the list once each of the records has been added; none where one is there already or there is no room
abbrev pub gather : ℕ → List Record → List Record → Option (List Record)
gather room held [] = Some held
gather room held (r ∷ rs) = let next = gather room (held ++ r ∷ []) rs in on_added (answer record_same room held r) next

abbrev pub then : Option (List Record) → (List Record → Option (List Record)) → Option (List Record)
then None next = None
then (Some xs) next = next xs

-- entry by entry
abbrev pub afl_from : ℕ → List Record → List ℕ → Option (List Record)
afl_from room held [] = Some held
afl_from room held (f ∷ []) = None
afl_from room held (f ∷ a ∷ []) = None
afl_from room held (f ∷ a ∷ z ∷ []) = None
afl_from room held (f ∷ a ∷ z ∷ n ∷ bs) =
    let next = then (gather room held (run (f / 8) a (z + 1 - a))) (λ held'. afl_from room held' bs) in
    cond (good f a z n) next None

abbrev pub told : Result (Unit {0}) AflFault → List Record → Option (List Record)
told (Ok x) xs = Some xs
told (Err e) xs = None
