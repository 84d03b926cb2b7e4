-- What reading a text for its judgement gives.
use Rattle.std.specs.Prelude.{◌≡◌, ℕ, ◌≤◌, List, length, take, Ok, Err, Result}
use Rattle.tlv.specs.declared.place.Place.{Place}
use Rattle.tlv.specs.Series.{found, meaning}
use Rattle.store.specs.Map.{Map}
use Rattle.judge.specs.declared.fault.JudgeRefusal.{JudgeRefusal}
use Rattle.judge.specs.declared.kind.TextKind.{TextKind}
use Rattle.judge.specs.Judge.{judged, judgement, refused_for}

-- n places stand at the front of the work list, and what is left to judge are the objects
pub record ReadWell (room : ℕ) (text : List ℕ) (list : List Place) (n : ℕ) : Type 0 where
  pub few : n ≤ 64
  pub within : n ≤ length list
  pub places : meaning text ≡ found (take n list)
  pub answer : (k : TextKind) (m : Map) → judgement room k m text ≡ refused_for (judged k m text)

-- or the text is refused already, whosever it is and whatever is held
abbrev pub ReadFor : ℕ → List ℕ → List Place → Result ℕ JudgeRefusal → Type 0
ReadFor room text list (Ok n) = ReadWell room text list n
ReadFor room text list (Err e) = (k : TextKind) (m : Map) → Err e ≡ judgement room k m text
