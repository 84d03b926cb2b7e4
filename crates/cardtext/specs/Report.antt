-- What is printed of a text, as characters by their ASCII codes.
use Rattle.std.specs.Prelude.{◌≡◌, ℕ, ◌/◌, ◌%◌, false, cond, List, [], ◌∷◌, ◌++◌, length, Ok, Err, codes, decimal, Result, nat_lt}
use Rattle.hexadecimal.specs.Digits.{shown, written}
use Rattle.dictionary.specs.Dictionary.{entry_of}
use Rattle.dictionary.specs.Names.{name_of}
use Rattle.tlv.specs.declared.fault.FaultKind.{FaultKind}
use Rattle.tlv.specs.declared.place.Place.{Place}
use Rattle.tlv.specs.Objects.{fault_number}
use Rattle.tlv.specs.Series.{Reading, wrong, found, meaning, most_objects}
use Rattle.tlv.specs.Values.{value_at}
use Rattle.store.specs.Map.{empty}
use Rattle.judge.specs.declared.fault.ObjectFault.TheVariants as fault
use Rattle.judge.specs.declared.fault.ObjectFaultKind.{ObjectFaultKind}
use Rattle.judge.specs.declared.fault.JudgeRefusal.{JudgeRefusal}
use Rattle.judge.specs.declared.fault.JudgeRefusal.TheVariants.{ListShort, Fault}
use Rattle.judge.specs.declared.kind.TextKind.{TextKind}
use Rattle.judge.specs.declared.kind.TextKind.TheVariants.{Configuration, TerminalWrite, CardAnswer}
use Rattle.judge.specs.Faults as object
use Rattle.judge.specs.Judge.{judgement}
use Rattle.cardtext.specs.Words.{with_entry}

-- the bytes of a tag: one to three, the highest first
abbrev pub bytes_of_tag : ℕ → List ℕ
bytes_of_tag t =
    cond (nat_lt t 256) (t % 256 ∷ [])
    (cond (nat_lt t 65536) (t / 256 % 256 ∷ t % 256 ∷ []) (t / 65536 % 256 ∷ t / 256 % 256 ∷ t % 256 ∷ []))

-- a tag: two digits for each of its bytes
abbrev pub tag_digits : ℕ → List ℕ
tag_digits t = shown (bytes_of_tag t)

-- the line of a primitive object: its place, its tag and its value, and what the dictionary has of the tag
abbrev pub object_line : List ℕ → Place → List ℕ
object_line text p =
    codes "  " ++ (decimal p.at ++ (codes " " ++ (tag_digits p.tag ++ (codes " " ++ (written (value_at text p) ++ (codes "  " ++
    (with_entry [] (entry_of p.tag) (name_of p.tag) ++ codes "\n")))))))

-- a line for each
abbrev pub object_lines : List ℕ → List Place → List ℕ
object_lines text [] = []
object_lines text (p ∷ ps) = object_line text p ++ object_lines text ps

-- the line that tells how many there are
abbrev pub count_line : ℕ → List ℕ
count_line n = codes "ok " ++ (decimal n ++ codes "\n")

-- the line of a text fault
abbrev pub fault_line : FaultKind → ℕ → List ℕ
fault_line k p = codes "fault " ++ (decimal (fault_number k) ++ (codes " place " ++ (decimal p ++ codes "\n")))

-- an object fault: its number, and the place and the tag of its object
unfoldable pub object_fault : ObjectFaultKind → ℕ → ℕ → List ℕ
object_fault k p t =
    codes "object fault " ++ (decimal (object.fault_number k) ++ (codes " place " ++ (decimal p ++ (codes " tag " ++ tag_digits t))))

-- how a text is judged; nothing for a text that cannot be read, which is told by its fault line
abbrev pub verdict : Result (Unit {0}) JudgeRefusal → List ℕ
verdict (Ok x) = codes "ok"
verdict (Err ListShort) = []
verdict (Err (Fault (fault.Text f))) = []
verdict (Err (Fault (fault.Object k p t))) = object_fault k p t

-- the line of a judgement, behind its label
abbrev pub verdict_line : List ℕ → Result (Unit {0}) JudgeRefusal → List ℕ
verdict_line name r = name ++ (codes ": " ++ (verdict r ++ codes "\n"))

-- how the text would be taken as one of that kind, nothing being held, judged with a work list of so many places
abbrev pub taking_line : List ℕ → ℕ → TextKind → List ℕ → List ℕ
taking_line name room k text = verdict_line name (judgement room k empty text)

-- behind what is there: how the text would be taken as a configuration, from the terminal before begin and from a card
abbrev pub with_takings : List ℕ → ℕ → List ℕ → List ℕ
with_takings out room text =
    ((out ++ taking_line (codes "configuration") room Configuration text)
    ++ taking_line (codes "terminal") room (TerminalWrite false) text)
    ++ taking_line (codes "card") room CardAnswer text

-- the line with the bytes of the text
abbrev pub heading : List ℕ → List ℕ
heading text = (codes "text " ++ written text) ++ codes "\n"

-- what is printed behind it: the line of the fault, or the objects, their number, and how the text would be taken
abbrev pub reading_lines : List ℕ → Reading → List ℕ
reading_lines text (wrong k p) = fault_line k p
reading_lines text (found ps) = object_lines text ps ++ (count_line (length ps) ++ with_takings [] most_objects text)

-- all that is printed of a text
abbrev pub report_of : List ℕ → List ℕ
report_of text = heading text ++ reading_lines text (meaning text)

-- A judgement is told: the text is accepted, or an object has a fault.
abbrev pub Told : Result (Unit {0}) JudgeRefusal → Type 0
Told (Ok x) = Unit {0}
Told (Err ListShort) = ⊥
Told (Err (Fault (fault.Text f))) = ⊥
Told (Err (Fault (fault.Object k p t))) = Unit {0}

-- Of a text that is read, whosever it is, the judgement is told.
pub record EachTold (text : List ℕ) : Type 0 where
  pub told : (k : TextKind) (ps : List Place) → meaning text ≡ found ps → Told (judgement most_objects k empty text)
