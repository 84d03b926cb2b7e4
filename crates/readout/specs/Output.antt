-- What writing out answers, and what the buffer holds after.
use Rattle.std.specs.Prelude.{ℕ, Bool, true, false, cond, List, [], ◌∷◌, length, Ok, Err, Result, nat_lt}
use Rattle.tlv.specs.Written.{at_front}
use Rattle.readout.specs.declared.refusal.ReadoutRefusal.{ReadoutRefusal}
use Rattle.readout.specs.declared.refusal.ReadoutRefusal.TheVariants.{Short, NotHeld}
use Rattle.readout.specs.declared.object.Absent.TheVariants.{LeftOut}
use Rattle.readout.specs.Shown.{Object, objects_at, bytes_of}
use Rattle.store.specs.Map.{Map}

-- the tags of the Data Record, in its order
unfoldable pub record_tags : List ℕ
record_tags = 0x9F02 ∷ 0x9F03 ∷ 0x9F26 ∷ 0x5F24 ∷ 0x82 ∷ 0x50 ∷ 0x5A ∷ 0x5F34 ∷ 0x9F12 ∷ 0x9F36 ∷ 0x9F07 ∷ 0x9F09 ∷ 0x9F27 ∷ 0x84 ∷ 0x9F1E ∷ 0x9F10 ∷ 0x9F_8109 ∷ 0x9F11 ∷ 0x9F24 ∷ 0x9F33 ∷ 0x9F1A ∷ 0x9F35 ∷ 0x95 ∷ 0x57 ∷ 0x5F2A ∷ 0x9A ∷ 0x9C ∷ 0x9F37 ∷ []

-- the object held under one tag, if any
abbrev pub held_objects : ℕ → Map → List Object
held_objects t m = objects_at LeftOut (t ∷ []) m

-- the objects of the Data Record: those held under its tags
abbrev pub record_objects : Map → List Object
record_objects m = objects_at LeftOut record_tags m

-- bytes for a buffer of n bytes
abbrev pub fit_answer : List ℕ → ℕ → Result ℕ ReadoutRefusal
fit_answer bs n = cond (nat_lt n (length bs)) (Err Short) (Ok (length bs))

-- whether there is an object
abbrev pub some : List Object → Bool
some [] = false
some (x ∷ xs) = true

-- the object of one tag for a buffer of n bytes: not held comes first
abbrev pub held_answer : List Object → ℕ → Result ℕ ReadoutRefusal
held_answer xs n = cond (some xs) (fit_answer (bytes_of xs) n) (Err NotHeld)

-- the bytes at the buffer's front, and nothing after a refusal
abbrev pub write_after : Result ℕ ReadoutRefusal → List ℕ → List ℕ → List ℕ
write_after (Ok n) bs out = at_front bs out
write_after (Err e) bs out = out
