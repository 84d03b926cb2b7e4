-- Which call of the definitions a call is, with the lengths of the buffer and the work list that are lent to it.
use Rattle.std.specs.Prelude.{ℕ, min, List, [], ◌∷◌}
use Rattle.run.specs.Calls.{Call, write, begin, answer, link_fault, stop, clear}
use Rattle.isolation.specs.declared.call.Call.{Call as CodeCall}
use Rattle.isolation.specs.declared.call.Call.TheVariants.{Write, Begin, Answer, LinkFault, Stop, Clear}
use Rattle.isolation.specs.declared.call.Asked.{Asked}

abbrev pub meant : ℕ → ℕ → CodeCall → Call
meant buffer work (Write text) = write text.now work
meant buffer work (Begin fci) = begin fci.now buffer work
meant buffer work (Answer bytes) = answer bytes.now buffer work
meant buffer work (LinkFault code) = link_fault code
meant buffer work Stop = stop
meant buffer work Clear = clear

-- what is lent of a buffer and a work list of these lengths
abbrev pub asks : ℕ → ℕ → Asked → Call
asks buffer work a = meant (min a.buffer buffer) (min a.list work) a.call

-- some more, one after the other, the latest first
abbrev pub latest : {A B : Type 0} → (A → B) → List A → List B → List B
latest f [] past = past
latest f (x ∷ xs) past = latest f xs (f x ∷ past)
