-- What is written depends on the tags written alone.
use Rattle.std.specs.Prelude.{◌≡◌, ℕ, List, [], ◌∷◌}
use Rattle.std.specs.List.{AllByRecursion}
use Rattle.store.specs.Map.{Map}
use Rattle.readout.specs.declared.object.Absent.{Absent}
use Rattle.readout.specs.declared.object.Absent.TheVariants.{LeftOut}
use Rattle.readout.specs.Shown.{objects_at}
use Rattle.readout.specs.Output.{record_tags}

-- Two maps that hold the same under these tags have the same objects, whatever else they hold.
abbrev pub OnlyAt : Absent → List ℕ → Type 0
OnlyAt a ts = (m n : Map) → AllByRecursion (λ t. m t ≡ n t) ts → objects_at a ts m ≡ objects_at a ts n

-- One object depends on what is held under its tag.
abbrev pub OnlyHeld : ℕ → Type 0
OnlyHeld t = OnlyAt LeftOut (t ∷ [])

-- The Data Record depends on what is held under its tags.
abbrev pub OnlyRecord : Type 0
OnlyRecord = OnlyAt LeftOut record_tags
