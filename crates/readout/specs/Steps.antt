-- What the functions below the public ones tell.
use Rattle.std.specs.Prelude.{ℕ, cond, List, [], ◌∷◌, Some, None, Option}
use Rattle.std.specs.Borrow.{Bor}
use Rattle.tlv.specs.Written.{is_tag}
use Rattle.readout.specs.Shown.{Object, object_of}

-- a value in a buffer, if there is one
abbrev pub fetched : Option (Bor (List ℕ)) → Option (List ℕ)
fetched None = None
fetched (Some v) = Some v.now

-- an object, if the number is a tag's
abbrev pub whole : ℕ → List ℕ → List Object
whole t v = cond (is_tag t) (object_of t v ∷ []) []
