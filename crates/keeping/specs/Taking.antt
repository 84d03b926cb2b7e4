-- Taking a text: what is answered, and what is held after.
use Rattle.std.specs.Prelude.{ℕ, cond, List, Ok, Err, Result, nat_lt}
use Rattle.tlv.specs.Series.{most_objects}
use Rattle.store.specs.Map.{Map}
use Rattle.judge.specs.declared.fault.ObjectFault.{ObjectFault}
use Rattle.judge.specs.declared.kind.TextKind.{TextKind}
use Rattle.judge.specs.Judge.{judged}
use Rattle.keeping.specs.declared.shares.Shares.{Shares}
use Rattle.keeping.specs.declared.refusal.TakeRefusal.{TakeRefusal}
use Rattle.keeping.specs.declared.refusal.TakeRefusal.TheVariants.{ListShort, Fault, Share}
use Rattle.keeping.specs.Keeping.{stored_text}
use Rattle.keeping.specs.Shares.{writer_total, share_of}

-- an accepted text goes on, and a fault is carried whole
abbrev pub on_judged : Result (Unit {0}) ObjectFault → Result (Unit {0}) TakeRefusal → Result (Unit {0}) TakeRefusal
on_judged (Ok x) next = next
on_judged (Err f) next = Err (Fault f)

-- the values of the text's writer, together and after the text, may not pass its share
abbrev pub share_answer : Shares → TextKind → Map → List ℕ → Result (Unit {0}) TakeRefusal
share_answer s k m text = cond (nat_lt (share_of s k) (writer_total k (stored_text text m))) (Err Share) (Ok tt)

-- in this order: a work list that is too short, the fault of the text or of its objects, the share
abbrev pub take_answer : Shares → TextKind → ℕ → Map → List ℕ → Result (Unit {0}) TakeRefusal
take_answer s k room m text = cond (nat_lt room most_objects) (Err ListShort) (on_judged (judged k m text) (share_answer s k m text))

-- a text that is taken is stored, and a refused one changes nothing
abbrev pub take_after : Result (Unit {0}) TakeRefusal → List ℕ → Map → Map
take_after (Ok x) text m = stored_text text m
take_after (Err e) text m = m
