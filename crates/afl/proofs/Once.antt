-- Each record that an accepted AFL names stands once in its list, in a file of SFI 1 to 30.
use Rattle.std.proofs.Common.{◌≡◌, ℕ, zero, suc, ◌+◌, ◌-◌, ◌*◌, ◌/◌, ◌%◌, ◌<◌, ◌≤◌, Bool, true, false, cond, not, ◌&&◌, ◌||◌, eqb, ltb, leb, List, [], ◌∷◌, ◌++◌, sym, refl, ap, ◌∙◌, subst, ⊎_elim, arith}
use Rattle.std.specs.List.{AllByRecursion}
use Rattle.std.proofs.ByRecursion.{All-append}
use Rattle.std.proofs.lemmas.Bool.{false≢true, true≢false, eqb-true, eq-eqb, leb-true, and_parts, and_from, or_cases, or_parts, not-true, le-leb, cond-true, cases_eq}
use Rattle.keyed.specs.declared.record.Record.{Record}
use Rattle.keyed.specs.Keys.{holds}
use Rattle.keyed.specs.Records.{record_same}
use Rattle.afl.specs.Afl.{good, record_at, run, well_made, named, distinct}
use Rattle.afl.specs.Laws.{within, names, times, EachOnce, Files}
use Rattle.afl.proofs.Naming.{accepted_is}

-- the same record is one record
same_record : (r x : Record) → record_same r x ≡ true → r ≡ x
same_record r x h =
    let parts = and_parts (eqb r.sfi x.sfi) (eqb r.number x.number) h in
    ap (λ s. record_at s r.number) (eqb-true r.sfi x.sfi parts.0) ∙ ap (record_at x.sfi) (eqb-true r.number x.number parts.1)

module _ (x : Record) where
  times_append : (rs qs : List Record) → times x (rs ++ qs) ≡ times x rs + times x qs
  times_append [] qs = omega arith
  times_append (r ∷ rs) qs = ap (λ m. cond (record_same r x) 1 0 + m) (times_append rs qs) ∙ omega arith

  not_held : (rs : List Record) → holds record_same rs x ≡ false → times x rs ≡ 0
  not_held [] h = refl
  not_held (r ∷ rs) h = by (not_held rs) (record_same r x) h
    where
      by : (holds record_same rs x ≡ false → times x rs ≡ 0) → (b : Bool) → (b || holds record_same rs x) ≡ false → cond b 1 0 + times x rs ≡ 0
      by again true q = absurd (true≢false q)
      by again false q = let none = again q in omega (arith, none)

  -- where no record stands twice, none stands more than once
  once : (rs : List Record) → distinct rs ≡ true → times x rs ≤ 1
  once [] h = omega arith
  once (r ∷ rs) h = by (record_same r x) refl (once rs parts.1)
    where
      parts : (not (holds record_same rs r) ≡ true) × (distinct rs ≡ true)
      parts = and_parts (not (holds record_same rs r)) (distinct rs) h

      by : (b : Bool) → record_same r x ≡ b → times x rs ≤ 1 → cond b 1 0 + times x rs ≤ 1
      by true e le =
          let none = not_held rs (ap (holds record_same rs) (sym (same_record r x e)) ∙ not-true (holds record_same rs r) parts.0) in
          omega (arith, none)
      by false e le = omega arith

  -- a run has the record if its number lies within it, and no other
  abbrev here : ℕ → ℕ → ℕ
  here s n = cond (record_same (record_at s n) x) 1 0

  run_more : (s n k : ℕ) → times x (run s n (suc k)) ≡ here s n + times x (run s (n + 1) k)
  run_more s n k = refl

  here_one : (s n : ℕ) → x.sfi ≡ s → x.number ≡ n → here s n ≡ 1
  here_one s n e f =
      let same : record_same (record_at s n) x ≡ true = ap (λ b. b && eqb n x.number) (eq-eqb s x.sfi (sym e)) ∙ eq-eqb n x.number (sym f) in
      cond-true (record_same (record_at s n) x) 1 0 same

  here_none : (s n : ℕ) → (x.sfi ≡ s → x.number ≡ n → ⊥) → here s n ≡ 0
  here_none s n out = by (record_same (record_at s n) x) refl
    where
      by : (b : Bool) → record_same (record_at s n) x ≡ b → cond {A = ℕ} b 1 0 ≡ 0
      by true e = let same = same_record (record_at s n) x e in absurd (out (ap (λ r. r.sfi) (sym same)) (ap (λ r. r.number) (sym same)))
      by false e = refl

  run_has : (s n k : ℕ) → x.sfi ≡ s → n ≤ x.number → x.number < n + k → 1 ≤ times x (run s n k)
  run_has s n zero e le lt = absurd (omega arith)
  run_has s n (suc k) e le lt =
      ⊎_elim
      (λ f. omega (arith, run_more s n k, here_one s n e f))
      (λ ne. omega (arith, run_more s n k, run_has s (n + 1) k e (omega arith) (omega arith)))
      (cases_eq x.number n)

  run_none : (s n k : ℕ) → (x.sfi ≡ s → n ≤ x.number → x.number < n + k → ⊥) → times x (run s n k) ≡ 0
  run_none s n zero out = refl
  run_none s n (suc k) out =
      let none = here_none s n (λ e f. out e (omega arith) (omega arith)) in
      let rest = run_none s (n + 1) k (λ e le lt. out e (omega arith) (omega arith)) in
      omega (arith, run_more s n k, none, rest)

  -- an entry's run has the record exactly if the entry names it
  module _ (f a z n : ℕ) (g : good f a z n ≡ true) where
    whole : f / 8 * 8 ≡ f
    whole =
        let parts = and_parts (eqb (f % 8) 0 && (leb 8 f && leb f 240)) (ltb 0 a && (leb a z && leb n (z - a + 1))) g in
        let file = and_parts (eqb (f % 8) 0) (leb 8 f && leb f 240) parts.0 in
        omega (arith, eqb-true (f % 8) 0 file.0)

    entry_has : within f a z x ≡ true → 1 ≤ times x (run (f / 8) a (z + 1 - a))
    entry_has h =
        let parts = and_parts (eqb (x.sfi * 8) f) (leb a x.number && leb x.number z) h in
        let ends = and_parts (leb a x.number) (leb x.number z) parts.1 in
        let low = leb-true a x.number ends.0 in
        let high = leb-true x.number z ends.1 in
        let file : x.sfi ≡ f / 8 = omega (arith, whole, eqb-true (x.sfi * 8) f parts.0) in
        run_has (f / 8) a (z + 1 - a) file low (omega (arith, low, high))

    entry_none : within f a z x ≡ false → times x (run (f / 8) a (z + 1 - a)) ≡ 0
    entry_none h =
        run_none (f / 8) a (z + 1 - a) (λ e le lt.
        let file : x.sfi * 8 ≡ f = omega (arith, whole, e) in
        true≢false (sym (and_from (eqb (x.sfi * 8) f) (leb a x.number && leb x.number z) (eq-eqb (x.sfi * 8) f file)
        (and_from (leb a x.number) (leb x.number z) (le-leb a x.number le) (le-leb x.number z (omega arith)))) ∙ h))

  named_times : (f a z n : ℕ) (bs : List ℕ) → times x (named (f ∷ a ∷ z ∷ n ∷ bs)) ≡ times x (run (f / 8) a (z + 1 - a)) + times x (named bs)
  named_times f a z n bs = times_append (run (f / 8) a (z + 1 - a)) (named bs)

  named_has : (bs : List ℕ) → well_made bs ≡ true → names bs x ≡ true → 1 ≤ times x (named bs)
  named_has [] w h = absurd (false≢true h)
  named_has (f ∷ []) w h = absurd (false≢true h)
  named_has (f ∷ a ∷ []) w h = absurd (false≢true h)
  named_has (f ∷ a ∷ z ∷ []) w h = absurd (false≢true h)
  named_has (f ∷ a ∷ z ∷ n ∷ bs) w h =
      let parts = and_parts (good f a z n) (well_made bs) w in
      ⊎_elim
      (λ in'. omega (arith, named_times f a z n bs, entry_has f a z n parts.0 in'))
      (λ later. omega (arith, named_times f a z n bs, named_has bs parts.1 later))
      (or_cases (within f a z x) (names bs x) h)

  named_none : (bs : List ℕ) → well_made bs ≡ true → names bs x ≡ false → times x (named bs) ≡ 0
  named_none [] w h = refl
  named_none (f ∷ []) w h = refl
  named_none (f ∷ a ∷ []) w h = refl
  named_none (f ∷ a ∷ z ∷ []) w h = refl
  named_none (f ∷ a ∷ z ∷ n ∷ bs) w h =
      let parts = and_parts (good f a z n) (well_made bs) w in
      let out = or_parts (within f a z x) (names bs x) h in
      omega (arith, named_times f a z n bs, entry_none f a z n parts.0 out.0, named_none bs parts.1 out.1)

pub each_once : (bs : List ℕ) → EachOnce bs
each_once bs rs e x = by (names bs x) refl
  where
    is : (well_made bs ≡ true) × (rs ≡ named bs) × (distinct rs ≡ true)
    is = accepted_is bs rs e

    by : (b : Bool) → names bs x ≡ b → times x rs ≡ cond b 1 0
    by true h =
        let some = named_has x bs is.0 h in
        let most = once x rs is.2 in
        omega (arith, some, most, ap (times x) is.1)
    by false h = ap (times x) is.1 ∙ named_none x bs is.0 h

abbrev InFile : Record → Type 0
InFile r = (1 ≤ r.sfi) × (r.sfi ≤ 30)

run_files : (s n k : ℕ) → 1 ≤ s → s ≤ 30 → AllByRecursion InFile (run s n k)
run_files s n zero low high = tt
run_files s n (suc k) low high = ((low, high), run_files s (n + 1) k low high)

named_files : (bs : List ℕ) → well_made bs ≡ true → AllByRecursion InFile (named bs)
named_files [] w = tt
named_files (f ∷ []) w = tt
named_files (f ∷ a ∷ []) w = tt
named_files (f ∷ a ∷ z ∷ []) w = tt
named_files (f ∷ a ∷ z ∷ n ∷ bs) w =
    let parts = and_parts (good f a z n) (well_made bs) w in
    let entry = and_parts (eqb (f % 8) 0 && (leb 8 f && leb f 240)) (ltb 0 a && (leb a z && leb n (z - a + 1))) parts.0 in
    let file = and_parts (leb 8 f) (leb f 240) (and_parts (eqb (f % 8) 0) (leb 8 f && leb f 240) entry.0).1 in
    let low = leb-true 8 f file.0 in
    let high = leb-true f 240 file.1 in
    All-append InFile (run (f / 8) a (z + 1 - a)) (named bs) (run_files (f / 8) a (z + 1 - a) (omega (arith, low)) (omega (arith, high))) (named_files bs parts.1)

pub in_files : (bs : List ℕ) → Files bs
in_files bs rs e = let is = accepted_is bs rs e in subst (AllByRecursion InFile) (sym is.1) (named_files bs is.0)
