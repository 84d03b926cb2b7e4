-- What holds of a text that is taken, and that taking keeps the room. Assumes nothing.
use Rattle.std.proofs.Common.{◌≡◌, ℕ, ◌≤◌, Bool, true, false, cond, ltb, List, Ok, Err, Result, refl, arith}
use Rattle.std.proofs.lemmas.Bool.{ltb-false}
use Rattle.tlv.specs.Series.{most_objects}
use Rattle.store.specs.Map.{Map}
use Rattle.judge.specs.declared.fault.ObjectFault.{ObjectFault}
use Rattle.judge.specs.declared.kind.TextKind.{TextKind}
use Rattle.judge.specs.Judge.{judged}
use Rattle.keeping.specs.declared.shares.Shares.{Shares}
use Rattle.keeping.specs.declared.refusal.TakeRefusal.TheVariants.{ListShort, Share}
use Rattle.keeping.specs.Keeping.{stored_text}
use Rattle.keeping.specs.Shares.{writer_total, share_of}
use Rattle.keeping.specs.Taking.{on_judged, take_answer}

-- a text that is taken was accepted, and its writer keeps its share
pub record Passed (s : Shares) (k : TextKind) (room : ℕ) (m : Map) (text : List ℕ) : Type 0 where
  pub list : most_objects ≤ room
  pub accepted : judged k m text ≡ Ok tt
  pub share : writer_total k (stored_text text m) ≤ share_of s k

tests : (b : Bool) (j : Result (Unit {0}) ObjectFault) (c : Bool) → cond b (Err ListShort) (on_judged j (cond c (Err Share) (Ok tt))) ≡ Ok tt → (b ≡ false) × (j ≡ Ok tt) × (c ≡ false)
tests true j c h = let z : ◌≡◌ {A = ℕ} 0 1 = cc in absurd (omega arith)
tests false (Err f) c h = let z : ◌≡◌ {A = ℕ} 0 1 = cc in absurd (omega arith)
tests false (Ok x) true h = let z : ◌≡◌ {A = ℕ} 0 1 = cc in absurd (omega arith)
tests false (Ok x) false h = (refl, refl, refl)

module _ (s : Shares) (k : TextKind) (room : ℕ) (m : Map) (text : List ℕ) where
  pub passed : take_answer s k room m text ≡ Ok tt → Passed s k room m text
  passed h =
      let q = tests (ltb room most_objects) (judged k m text) (ltb (share_of s k) (writer_total k (stored_text text m))) h in
      record { list = ltb-false room most_objects q.0; accepted = q.1; share = ltb-false (share_of s k) (writer_total k (stored_text text m)) q.2 }
