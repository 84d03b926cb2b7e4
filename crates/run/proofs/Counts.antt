-- What a call keeps of the count.
use Rattle.std.proofs.Common.{◌≡◌, ℕ, ◌+◌, true, List, ◌∷◌, Some, None, Option, sym, refl, ap, ◌∙◌, arith}
use Rattle.store.specs.Map.{Map}
use Rattle.run.specs.declared.refusal.Refusal.{Refusal}
use Rattle.run.specs.State.{waits, Meaning, holding}
use Rattle.run.specs.Run.{Course, hands_out, fails, comes_to}
use Rattle.run.specs.Calls.{Call, write, begin, answer, link_fault, stop, clear, taken, refused, Done, checked, follow, beginning, ready_again}
use Rattle.run.specs.History.{History, turn, commands, since, replies_taken, one_if, command_waits}
use Rattle.run.specs.Law.{left, Counted}
use Rattle.run.proofs.Courses.{Sane}

pub counted_refused : (past : History) (m : Meaning) (c : Call) (e : Refusal) → Counted past m → Counted (turn c (refused e) ∷ past) m
unfolding since commands replies_taken command_waits
counted_refused past m (write text work) e s = record { told = s.told; paired = s.paired; few = s.few; waiting = s.waiting }
counted_refused past m (begin fci buffer work) e s = record { told = s.told; paired = s.paired; few = s.few; waiting = s.waiting }
counted_refused past m (answer bytes buffer work) e s = record { told = s.told; paired = omega (arith, s.paired); few = s.few; waiting = s.waiting }
counted_refused past m (link_fault code) e s = record { told = s.told; paired = omega (arith, s.paired); few = s.few; waiting = s.waiting }
counted_refused past m stop e s = record { told = s.told; paired = omega (arith, s.paired); few = s.few; waiting = s.waiting }
counted_refused past m clear e s = record { told = s.told; paired = s.paired; few = s.few; waiting = s.waiting }

pub counted_checked : (past : History) (o : Option Refusal) (m : Meaning) (c : Call) (next : Done) → Counted past m → (o ≡ None → Counted (turn c next.reply ∷ past) next.after) → Counted (turn c (checked o m next).reply ∷ past) (checked o m next).after
counted_checked past None m c next s goes = goes refl
counted_checked past (Some e) m c next s goes = counted_refused past m c e s

pub counted_write : (past : History) (m : Meaning) (text : List ℕ) (work : ℕ) (held : Map) → Counted past m → Counted (turn (write text work) taken ∷ past) (holding m held)
unfolding since commands replies_taken command_waits
counted_write past m text work held s = record { told = s.told; paired = s.paired; few = s.few; waiting = s.waiting }

pub counted_clear : (past : History) (m : Meaning) → Counted (turn clear taken ∷ past) (ready_again m)
unfolding since commands replies_taken command_waits
counted_clear past m = record { told = refl; paired = refl; few = omega arith; waiting = refl }

pub counted_begin : (past : History) (m : Meaning) (fci : List ℕ) (buffer work : ℕ) (c : Course) → Sane m.shares.card m.held 66 c → Counted (turn (begin fci buffer work) (follow (beginning m) c).reply ∷ past) (follow (beginning m) c).after
unfolding since commands replies_taken command_waits
counted_begin past m fci buffer work (hands_out bs phase held) s = record { told = refl; paired = refl; few = omega (arith, s.fewer); waiting = s.waiting }
counted_begin past m fci buffer work (fails c held) s = record { told = refl; paired = refl; few = omega arith; waiting = refl }
counted_begin past m fci buffer work (comes_to o held) s = record { told = refl; paired = refl; few = omega arith; waiting = refl }

-- the number of turns is one more, and the command that waited no longer does
abbrev Step : Call → Type 0
Step c = (past : History) (m : Meaning) (k : Course) → waits m.phase ≡ true → Sane m.shares.card m.held (left m.phase) k → Counted past m → Counted (turn c (follow m k).reply ∷ past) (follow m k).after

one_waits : (past : History) (m : Meaning) → waits m.phase ≡ true → Counted past m → m.count ≡ replies_taken (since past) + 1
one_waits past m w s = s.paired ∙ ap (λ b. replies_taken (since past) + one_if b) (sym s.waiting ∙ w)

pub counted_answer : (bytes : List ℕ) (buffer work : ℕ) → Step (answer bytes buffer work)
unfolding since commands replies_taken command_waits
counted_answer bytes buffer work past m (hands_out bs phase held) w s k =
    let p = one_waits past m w k in record { told = omega (arith, k.told); paired = omega (arith, p); few = omega (arith, k.few, s.fewer); waiting = s.waiting }
counted_answer bytes buffer work past m (fails c held) w s k =
    let p = one_waits past m w k in record { told = k.told; paired = omega (arith, p); few = omega (arith, k.few); waiting = refl }
counted_answer bytes buffer work past m (comes_to o held) w s k =
    let p = one_waits past m w k in record { told = k.told; paired = omega (arith, p); few = omega (arith, k.few); waiting = refl }

pub counted_link : (code : ℕ) → Step (link_fault code)
unfolding since commands replies_taken command_waits
counted_link code past m (hands_out bs phase held) w s k =
    let p = one_waits past m w k in record { told = omega (arith, k.told); paired = omega (arith, p); few = omega (arith, k.few, s.fewer); waiting = s.waiting }
counted_link code past m (fails c held) w s k =
    let p = one_waits past m w k in record { told = k.told; paired = omega (arith, p); few = omega (arith, k.few); waiting = refl }
counted_link code past m (comes_to o held) w s k =
    let p = one_waits past m w k in record { told = k.told; paired = omega (arith, p); few = omega (arith, k.few); waiting = refl }

pub counted_stop : Step stop
unfolding since commands replies_taken command_waits
counted_stop past m (hands_out bs phase held) w s k =
    let p = one_waits past m w k in record { told = omega (arith, k.told); paired = omega (arith, p); few = omega (arith, k.few, s.fewer); waiting = s.waiting }
counted_stop past m (fails c held) w s k =
    let p = one_waits past m w k in record { told = k.told; paired = omega (arith, p); few = omega (arith, k.few); waiting = refl }
counted_stop past m (comes_to o held) w s k =
    let p = one_waits past m w k in record { told = k.told; paired = omega (arith, p); few = omega (arith, k.few); waiting = refl }
