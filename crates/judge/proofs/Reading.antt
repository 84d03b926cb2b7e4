-- Reading a text for its judgement.
use Rattle.std.proofs.Common.{◌≡◌, ℕ, ◌≤◌, Bool, true, false, cond, ltb, List, length, take, Ok, Err, sym, refl, ap, ◌∙◌, arith}
use Rattle.std.proofs.lemmas.Bool.{ltb-false, cond-true, cond-false}
use Rattle.tlv.specs.declared.place.Place.{Place}
use Rattle.tlv.specs.declared.fault.TextFault.{TextFault}
use Rattle.tlv.specs.declared.text.ReadRefusal.{ReadRefusal}
use Rattle.tlv.specs.declared.text.ReadRefusal.TheVariants as read
use Rattle.tlv.specs.Series.{wrong, found, meaning}
use Rattle.tlv.specs.Told as told
use Rattle.store.specs.Map.{Map}
use Rattle.judge.specs.declared.fault.JudgeRefusal.TheVariants.{ListShort}
use Rattle.judge.specs.declared.kind.TextKind.{TextKind}
use Rattle.judge.specs.Faults.{refused_as}
use Rattle.judge.specs.Judge.{judged_by, judged, judgement, refused_for}
use Rattle.judge.specs.Reads.{ReadWell}

module _ (room : ℕ) (text : List ℕ) (list : List Place) where
  well : (n : ℕ) (b : Bool) → ltb room 64 ≡ b → told.reading (found (take n list)) ≡ cond b told.short (told.reading (meaning text)) → n ≤ 64 → length list ≡ room → ReadWell room text list n
  well n true e h few same = let z : ◌≡◌ {A = ℕ} 0 1 = cc in absurd (omega arith)
  well n false e h few same =
      let long = ltb-false room 64 e in
      record { few = few; within = omega arith; places = cc; answer = λ k m. cond-false (ltb room 64) (Err ListShort) (refused_for (judged k m text)) e }

  pub read_well : (n : ℕ) → told.answered (Ok n) list ≡ told.answer_to room text → n ≤ 64 → length list ≡ room → ReadWell room text list n
  read_well n h few same = well n (ltb room 64) refl h few same

  short : (b : Bool) → ltb room 64 ≡ b → told.short ≡ cond b told.short (told.reading (meaning text)) → (k : TextKind) (m : Map) → Err ListShort ≡ judgement room k m text
  short true e h k m = sym (cond-true (ltb room 64) (Err ListShort) (refused_for (judged k m text)) e)
  short false e h k m = let z : ◌≡◌ {A = ℕ} 0 1 = cc in absurd (omega arith)

  faulty : (f : TextFault) (b : Bool) → ltb room 64 ≡ b → told.reading (wrong f.kind f.at) ≡ cond b told.short (told.reading (meaning text)) → (k : TextKind) (m : Map) → Err (refused_as (read.Fault f)) ≡ judgement room k m text
  unfolding judged
  faulty f true e h k m = let z : ◌≡◌ {A = ℕ} 0 1 = cc in absurd (omega arith)
  faulty f false e h k m =
      let same : wrong f.kind f.at ≡ meaning text = cc in
      ap (λ x. refused_for (judged_by k m text x)) same ∙ sym (cond-false (ltb room 64) (Err ListShort) (refused_for (judged k m text)) e)

  pub read_refused : (e : ReadRefusal) → told.answered (Err e) list ≡ told.answer_to room text → (k : TextKind) (m : Map) → Err (refused_as e) ≡ judgement room k m text
  read_refused read.ListShort h k m = short (ltb room 64) refl h k m
  read_refused (read.Fault f) h k m = faulty f (ltb room 64) refl h k m
