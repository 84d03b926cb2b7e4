-- Records added one after the other are those that the locator names, each once. Assumes nothing.
use Rattle.std.proofs.Common.{◌≡◌, ℕ, zero, suc, ◌+◌, ◌-◌, ◌/◌, ◌<◌, ◌≤◌, Bool, true, false, cond, not, ◌&&◌, ◌||◌, eqb, ltb, leb, List, [], ◌∷◌, ◌++◌, length, get_or, Some, None, Ok, Err, Option, sym, refl, ap, ◌∙◌, subst, arith}
use Rattle.std.proofs.lemmas.List.{append-nil, append_assoc, length-append, length_push, get_or_append_left, get_or_at}
use Rattle.std.proofs.lemmas.Bool.{false≢true, true≢false, ltb-true, ltb-false, eqb-true, eq-eqb, and_parts, and_from, not-true, leb-true, le-leb, cond-true}
use Rattle.keyed.specs.declared.record.Record.{Record}
use Rattle.keyed.specs.declared.list.NotAdded.TheVariants.{AlreadyThere, Full}
use Rattle.keyed.specs.Keys.{holds, Distinct}
use Rattle.keyed.specs.Records.{record_same}
use Rattle.keyed.proofs.Apart.{distinct_push, other_keys}
use Rattle.afl.specs.Afl.{good, run, well_made, named, distinct, accepted, records_of}
use Rattle.afl.specs.Steps.{on_added, gather, then, afl_from}

symmetric : (x y : Record) → record_same x y ≡ true → record_same y x ≡ true
symmetric x y h = by (eqb x.sfi y.sfi) refl h
  where
    by : (b : Bool) → eqb x.sfi y.sfi ≡ b → (b && eqb x.number y.number) ≡ true → record_same y x ≡ true
    by true e q =
        ap (λ c. c && eqb y.number x.number) (eq-eqb y.sfi x.sfi (sym (eqb-true x.sfi y.sfi e)))
        ∙ eq-eqb y.number x.number (sym (eqb-true x.number y.number q))
    by false e q = absurd (false≢true q)

contrary : (a b : Bool) → (a ≡ true → b ≡ true) → b ≡ false → a ≡ false
contrary true b f h = sym (f refl) ∙ h
contrary false b f h = refl

-- a record that is held stands somewhere
found : (xs : List Record) (x : Record) → holds record_same xs x ≡ true → (k : ℕ) × (k < length xs) × ((d : Record) → record_same (get_or xs k d) x ≡ true)
found [] x h = absurd (false≢true h)
found (y ∷ ys) x h = by (found ys x) (record_same y x) refl h
  where
    by : (holds record_same ys x ≡ true → (k : ℕ) × (k < length ys) × ((d : Record) → record_same (get_or ys k d) x ≡ true)) → (b : Bool) → record_same y x ≡ b → (b || holds record_same ys x) ≡ true → (k : ℕ) × (k < length (y ∷ ys)) × ((d : Record) → record_same (get_or (y ∷ ys) k d) x ≡ true)
    by again true e q = (0, omega arith, λ d. e)
    by again false e q = let r = again q in (suc r.0, omega (arith, r.1), λ d. r.2 d)

clash : (xs zs : List Record) (x : Record) → holds record_same xs x ≡ true → Distinct record_same (xs ++ x ∷ zs) → ⊥
clash xs zs x h apart =
    let r = found xs x h in
    let l = length-append xs (x ∷ zs) in
    let a = get_or_append_left xs (x ∷ zs) x r.0 r.1 in
    let b = get_or_at xs x zs x (length xs) refl in
    let no-two = apart r.0 (length xs) x (omega (arith, r.1)) (omega arith) (λ e. omega (arith, r.1)) in
    true≢false (sym (r.2 x) ∙ ap (λ y. record_same y x) (sym a) ∙ ap (record_same (get_or (xs ++ x ∷ zs) r.0 x)) (sym b) ∙ no-two)

-- what adding one record answers
ways : (h l : Bool) (next : Option (List Record)) (xs : List Record) → on_added (cond h (Err AlreadyThere) (cond l (Ok tt) (Err Full))) next ≡ Some xs → (h ≡ false) × (l ≡ true) × (next ≡ Some xs)
ways true l next xs e = let z : ◌≡◌ {A = ℕ} 0 1 = cc in absurd (omega arith)
ways false true next xs e = (refl, refl, e)
ways false false next xs e = let z : ◌≡◌ {A = ℕ} 0 1 = cc in absurd (omega arith)

module _ (room : ℕ) where
  gather_is : (held rs xs : List Record) → gather room held rs ≡ Some xs → xs ≡ held ++ rs
  gather_is held [] xs e = let q : held ≡ xs = cc in sym q ∙ sym (append-nil held)
  gather_is held (r ∷ rs) xs e =
      let w = ways (holds record_same held r) (ltb (length held) room) (gather room (held ++ r ∷ []) rs) xs e in
      gather_is (held ++ r ∷ []) rs xs w.2 ∙ append_assoc held (r ∷ []) rs

  gather_fine : (held rs xs : List Record) → gather room held rs ≡ Some xs → length held ≤ room → Distinct record_same held → (length xs ≤ room) × Distinct record_same xs
  gather_fine held [] xs e l apart =
      let q : held ≡ xs = cc in
      let D : List Record → Type 0 = λ ys. (length ys ≤ room) × Distinct record_same ys in
      subst D q (l, apart)
  gather_fine held (r ∷ rs) xs e l apart =
      let w = ways (holds record_same held r) (ltb (length held) room) (gather room (held ++ r ∷ []) rs) xs e in
      let n = length_push held r in
      gather_fine (held ++ r ∷ []) rs xs w.2 (omega (arith, ltb-true (length held) room w.1)) (distinct_push record_same symmetric held r apart w.0)

  gather_none : (held rs more : List Record) → gather room held rs ≡ None → length (held ++ (rs ++ more)) ≤ room → Distinct record_same (held ++ (rs ++ more)) → ⊥
  gather_none held [] more e l apart = let z : ◌≡◌ {A = ℕ} 0 1 = cc in omega arith
  gather_none held (r ∷ rs) more e l apart = by (gather_none (held ++ r ∷ []) rs more) (holds record_same held r) (ltb (length held) room) refl refl e
    where
      same : (held ++ r ∷ []) ++ (rs ++ more) ≡ held ++ (r ∷ (rs ++ more))
      same = append_assoc held (r ∷ []) (rs ++ more)

      by : (gather room (held ++ r ∷ []) rs ≡ None → length ((held ++ r ∷ []) ++ (rs ++ more)) ≤ room → Distinct record_same ((held ++ r ∷ []) ++ (rs ++ more)) → ⊥) → (h b : Bool) → holds record_same held r ≡ h → ltb (length held) room ≡ b → on_added (cond h (Err AlreadyThere) (cond b (Ok tt) (Err Full))) (gather room (held ++ r ∷ []) rs) ≡ None → ⊥
      by again true b p q f = clash held (rs ++ more) r p apart
      by again false true p q f =
          let D : List Record → Type 0 = λ ys. Distinct record_same ys in
          again f (omega (arith, ap length same)) (subst D (sym same) apart)
      by again false false p q f = omega (arith, ltb-false (length held) room q, length-append held (r ∷ (rs ++ more)))

  -- what an entry gives
  entry_some : (b : Bool) (o : Option (List Record)) (F : List Record → Option (List Record)) (xs : List Record) → cond b (then o F) None ≡ Some xs
      → (b ≡ true) × ((ys : List Record) × (o ≡ Some ys) × (F ys ≡ Some xs))
  entry_some true None F xs e = let z : ◌≡◌ {A = ℕ} 0 1 = cc in absurd (omega arith)
  entry_some true (Some ys) F xs e = (refl, (ys, refl, e))
  entry_some false o F xs e = let z : ◌≡◌ {A = ℕ} 0 1 = cc in absurd (omega arith)

  afl_some : (held : List Record) (bs : List ℕ) (xs : List Record) → afl_from room held bs ≡ Some xs → length held ≤ room → Distinct record_same held
      → (well_made bs ≡ true) × (xs ≡ held ++ named bs) × (length xs ≤ room) × Distinct record_same xs
  afl_some held [] xs e l apart =
      let f = gather_fine held [] xs e l apart in
      (refl, gather_is held [] xs e, f.0, f.1)
  afl_some held (f ∷ []) xs e l apart = let z : ◌≡◌ {A = ℕ} 0 1 = cc in absurd (omega arith)
  afl_some held (f ∷ a ∷ []) xs e l apart = let z : ◌≡◌ {A = ℕ} 0 1 = cc in absurd (omega arith)
  afl_some held (f ∷ a ∷ z ∷ []) xs e l apart = let q : ◌≡◌ {A = ℕ} 0 1 = cc in absurd (omega arith)
  afl_some held (f ∷ a ∷ z ∷ n ∷ bs) xs e l apart =
      let rs = run (f / 8) a (z + 1 - a) in
      let w = entry_some (good f a z n) (gather room held rs) (λ ys. afl_from room ys bs) xs e in
      let ys = w.1.0 in
      let g = gather_fine held rs ys w.1.1 l apart in
      let r = afl_some ys bs xs w.1.2 g.0 g.1 in (
        ap (λ b. b && well_made bs) w.0 ∙ r.0,
        r.1 ∙ ap (λ zs. zs ++ named bs) (gather_is held rs ys w.1.1) ∙ append_assoc held rs (named bs),
        r.2,
        r.3,
      )

  afl_none : (held : List Record) (bs : List ℕ) → afl_from room held bs ≡ None → well_made bs ≡ true → length (held ++ named bs) ≤ room → Distinct record_same (held ++ named bs) → ⊥
  afl_none held [] e w l apart = let z : ◌≡◌ {A = ℕ} 0 1 = cc in omega arith
  afl_none held (f ∷ []) e w l apart = false≢true w
  afl_none held (f ∷ a ∷ []) e w l apart = false≢true w
  afl_none held (f ∷ a ∷ z ∷ []) e w l apart = false≢true w
  afl_none held (f ∷ a ∷ z ∷ n ∷ bs) e w l apart = by (λ ys. afl_none ys bs) (gather room held (run (f / 8) a (z + 1 - a))) refl (sym made ∙ e)
    where
      parts : (good f a z n ≡ true) × (well_made bs ≡ true)
      parts = and_parts (good f a z n) (well_made bs) w

      made : cond (good f a z n) (then (gather room held (run (f / 8) a (z + 1 - a))) (λ ys. afl_from room ys bs)) None ≡ then (gather room held (run (f / 8) a (z + 1 - a))) (λ ys. afl_from room ys bs)
      made = ap (λ b. cond b (then (gather room held (run (f / 8) a (z + 1 - a))) (λ ys. afl_from room ys bs)) None) parts.0

      by : ((ys : List Record) → afl_from room ys bs ≡ None → well_made bs ≡ true → length (ys ++ named bs) ≤ room → Distinct record_same (ys ++ named bs) → ⊥) → (o : Option (List Record)) → gather room held (run (f / 8) a (z + 1 - a)) ≡ o → then o (λ ys. afl_from room ys bs) ≡ None → ⊥
      by again None g q = gather_none held (run (f / 8) a (z + 1 - a)) (named bs) g l apart
      by again (Some ys) g q =
          let same : held ++ (run (f / 8) a (z + 1 - a) ++ named bs) ≡ ys ++ named bs =
          sym (append_assoc held (run (f / 8) a (z + 1 - a)) (named bs)) ∙ ap (λ zs. zs ++ named bs) (sym (gather_is held (run (f / 8) a (z + 1 - a)) ys g)) in
          let D : List Record → Type 0 = λ zs. Distinct record_same zs in
          again ys q parts.1 (omega (arith, ap length same)) (subst D same apart)

distinct_from : (rs : List Record) → Distinct record_same rs → distinct rs ≡ true
distinct_from [] apart = refl
distinct_from (r ∷ rs) apart = by (holds record_same rs r) refl (distinct_from rs (λ i j d hi hj ne. apart (suc i) (suc j) d (omega arith) (omega arith) (λ e. ne (omega arith))))
  where
    by : (b : Bool) → holds record_same rs r ≡ b → distinct rs ≡ true → (not b && distinct rs) ≡ true
    by true h rest =
        let at = found rs r h in
        absurd (true≢false (sym (at.2 r) ∙ apart (suc at.0) 0 r (omega (arith, at.1)) (omega arith) (λ e. absurd (omega arith))))
    by false h rest = rest

distinct_to : (rs : List Record) → distinct rs ≡ true → Distinct record_same rs
distinct_to [] h i j d hi hj ne = absurd (omega arith)
distinct_to (r ∷ rs) h zero zero d hi hj ne = absurd (ne refl)
distinct_to (r ∷ rs) h zero (suc j) d hi hj ne =
    let parts = and_parts (not (holds record_same rs r)) (distinct rs) h in
    contrary (record_same r (get_or rs j d)) (record_same (get_or rs j d) r) (symmetric r (get_or rs j d)) (other_keys record_same rs r (not-true (holds record_same rs r) parts.0) j d (omega arith))
distinct_to (r ∷ rs) h (suc i) zero d hi hj ne =
    let parts = and_parts (not (holds record_same rs r)) (distinct rs) h in
    other_keys record_same rs r (not-true (holds record_same rs r) parts.0) i d (omega arith)
distinct_to (r ∷ rs) h (suc i) (suc j) d hi hj ne =
    let parts = and_parts (not (holds record_same rs r)) (distinct rs) h in
    distinct_to rs parts.1 i j d (omega arith) (omega arith) (λ e. ne (ap suc e))

-- what is read entry by entry is what the AFL names
pub afl_is : (bs : List ℕ) → afl_from 64 [] bs ≡ records_of bs
unfolding records_of
afl_is bs = by (afl_from 64 [] bs) refl
  where
    none : (b : Bool) → accepted bs ≡ b → afl_from 64 [] bs ≡ None → None ≡ cond b (Some (named bs)) None
    none true a e =
        let parts = and_parts (well_made bs) (leb (length (named bs)) 64 && distinct (named bs)) a in
        let more = and_parts (leb (length (named bs)) 64) (distinct (named bs)) parts.1 in
        absurd (afl_none 64 [] bs e parts.0 (leb-true (length (named bs)) 64 more.0) (distinct_to (named bs) more.1))
    none false a e = refl

    by : (o : Option (List Record)) → afl_from 64 [] bs ≡ o → o ≡ cond (accepted bs) (Some (named bs)) None
    by None e = none (accepted bs) refl e
    by (Some xs) e =
        let s = afl_some 64 [] bs xs e (omega arith) (λ i j d hi hj ne. absurd (omega arith)) in
        let D : List Record → Type 0 = λ ys. (length ys ≤ 64) × Distinct record_same ys in
        let d = subst D s.1 (s.2, s.3) in
        let yes : accepted bs ≡ true = and_from (well_made bs) (leb (length (named bs)) 64 && distinct (named bs)) s.0
        (and_from (leb (length (named bs)) 64) (distinct (named bs)) (le-leb (length (named bs)) 64 d.0) (distinct_from (named bs) d.1)) in
        ap Some s.1 ∙ sym (cond-true (accepted bs) (Some (named bs)) None yes)

-- what an accepted AFL gives
pub accepted_is : (bs : List ℕ) (rs : List Record) → records_of bs ≡ Some rs → (well_made bs ≡ true) × (rs ≡ named bs) × (distinct rs ≡ true)
unfolding records_of
accepted_is bs rs e = by (accepted bs) refl e
  where
    by : (b : Bool) → accepted bs ≡ b → cond b (Some (named bs)) None ≡ Some rs → (well_made bs ≡ true) × (rs ≡ named bs) × (distinct rs ≡ true)
    by true a e =
        let parts = and_parts (well_made bs) (leb (length (named bs)) 64 && distinct (named bs)) a in
        let more = and_parts (leb (length (named bs)) 64) (distinct (named bs)) parts.1 in
        let same : rs ≡ named bs = cc in
        (parts.0, same, ap distinct same ∙ more.1)
    by false a e = let z : ◌≡◌ {A = ℕ} 0 1 = cc in absurd (omega arith)
