-- Putting one of the reader's own objects. Assumes nothing.
use Rattle.std.proofs.Common.{◌≡◌, ℕ, ◌≤◌, true, eqb, List, length, Some, None, Ok, sym, refl, ap, ◌∙◌, subst, ⊎_elim, arith}
use Rattle.std.proofs.lemmas.Bool.{both_ways, eqb-true, or_cases}
use Rattle.dictionary.specs.declared.entry.Entry.{Entry}
use Rattle.dictionary.specs.declared.entry.Writer.TheVariants.{Reader}
use Rattle.dictionary.specs.Dictionary.{dictionary, entry_of}
use Rattle.store.specs.Map.{Map, changed, size}
use Rattle.store.specs.Maps.{changed_here, changed_other}
use Rattle.store.specs.Answer.{put_answer, put_after}
use Rattle.judge.specs.declared.kind.TextKind.{TextKind}
use Rattle.judge.specs.Kinds.{writes}
use Rattle.keeping.specs.declared.shares.Shares.{Shares}
use Rattle.keeping.specs.Shares.{writer_total}
use Rattle.keeping.specs.Room.{verification_results, error_indication, reader_tag, reader_length, Roomy}
use Rattle.keeping.proofs.Keepings.{put_taken}
use Rattle.keeping.proofs.Rooms.{roomy_holds}
use Rattle.keeping.proofs.Kept.{verification_entry, indication_entry, verification_entry_lem, indication_entry_lem, reader_none, parts_same, all_listed, roomy_moved}

-- what is put under a tag of the reader's changes no other tag's part of a sum, and no unknown tag
module _ (m : Map) (t : ℕ) (e : Entry) (known : entry_of t ≡ Some e) (reader : e.writer ≡ Reader) (v : List ℕ) where
  total_same : (k : TextKind) → writer_total k (changed m t (Some v)) ≡ writer_total k m
  unfolding writer_total
  total_same k =
      parts_same m (changed m t (Some v)) k dictionary all_listed
      (λ x listed wrote. changed_other m t x.tag (Some v) (λ same.
      let one : x ≡ e = let q = sym listed ∙ ap entry_of same ∙ known in cc in
      both_ways (writes k x.writer) (ap (λ y. writes k y.writer) one ∙ ap (writes k) reader ∙ reader_none k) wrote))

  unknown_same : (u : ℕ) → entry_of u ≡ None → changed m t (Some v) u ≡ m u
  unknown_same u none = changed_other m t u (Some v) (λ same. let q = sym none ∙ ap entry_of same ∙ known in let z : ◌≡◌ {A = ℕ} 0 1 = cc in omega arith)

module _ (s : Shares) (o b : ℕ) (m : Map) (v : List ℕ) (r : Roomy s o b m) where
  roomy_verification : length v ≤ 5 → Roomy s o b (changed m verification_results (Some v))
  roomy_verification short =
      record {
        known = λ u none. unknown_same m verification_results verification_entry verification_entry_lem refl v u none ∙ r.known u none;
        within = λ k. omega (arith, total_same m verification_results verification_entry verification_entry_lem refl v k, r.within k);
        verification = omega (arith, ap size (changed_here m verification_results (Some v)));
        indication = omega (arith, ap size (changed_other m verification_results error_indication (Some v) (λ q. omega arith)), r.indication);
        slots = r.slots;
        space = r.space;
      }

  roomy_indication : length v ≤ 6 → Roomy s o b (changed m error_indication (Some v))
  roomy_indication short =
      record {
        known = λ u none. unknown_same m error_indication indication_entry indication_entry_lem refl v u none ∙ r.known u none;
        within = λ k. omega (arith, total_same m error_indication indication_entry indication_entry_lem refl v k, r.within k);
        verification = omega (arith, ap size (changed_other m error_indication verification_results (Some v) (λ q. omega arith)), r.verification);
        indication = omega (arith, ap size (changed_here m error_indication (Some v)));
        slots = r.slots;
        space = r.space;
      }

  -- putting it keeps the room
  pub roomy_own : (t : ℕ) → reader_tag t ≡ true → length v ≤ reader_length t → (length v ≤ 255) × Roomy s o b (changed m t (Some v))
  roomy_own t own short = ⊎_elim
      (λ yes.
      let R : ℕ → Type 0 = λ u. Roomy s o b (changed m u (Some v)) in
      let l : length v ≤ 5 = omega (arith, short, ap reader_length (eqb-true t verification_results yes)) in
      (omega arith, subst R (sym (eqb-true t verification_results yes)) (roomy_verification l)))
      (λ yes.
      let R : ℕ → Type 0 = λ u. Roomy s o b (changed m u (Some v)) in
      let l : length v ≤ 6 = omega (arith, short, ap reader_length (eqb-true t error_indication yes)) in
      (omega arith, subst R (sym (eqb-true t error_indication yes)) (roomy_indication l)))
      (or_cases (eqb t verification_results) (eqb t error_indication) own)

-- it is not refused
pub own_put : (s : Shares) (o b : ℕ) (m : Map) (t : ℕ) (v : List ℕ) → reader_tag t ≡ true → length v ≤ reader_length t → Roomy s o b m → put_answer o b m t v ≡ Ok tt
own_put s o b m t v own short r =
    let got = roomy_own s o b m v r t own short in
    put_taken o b m t v got.0 (roomy_holds s o b (changed m t (Some v)) got.1)

pub own_after : (s : Shares) (o b : ℕ) (m n : Map) (t : ℕ) (v : List ℕ) → reader_tag t ≡ true → length v ≤ reader_length t → n ≡ put_after (put_answer o b m t v) m t v → Roomy s o b m → n ≡ changed m t (Some v)
own_after s o b m n t v own short after r = after ∙ ap (λ x. put_after x m t v) (own_put s o b m t v own short r)

pub own_roomy : (s : Shares) (o b o' b' : ℕ) (m n : Map) (t : ℕ) (v : List ℕ) → reader_tag t ≡ true → length v ≤ reader_length t → n ≡ put_after (put_answer o b m t v) m t v → o' ≡ o → b' ≡ b → Roomy s o b m → Roomy s o' b' n
own_roomy s o b o' b' m n t v own short after p q r =
    roomy_moved s o b o' b' (changed m t (Some v)) n (own_after s o b m n t v own short after r) p q (roomy_own s o b m v r t own short).1

-- each tag of the reader's has an entry, which says so
pub own_reader : (t : ℕ) → reader_tag t ≡ true → (e : Entry) × (entry_of t ≡ Some e) × (e.writer ≡ Reader)
own_reader t own = ⊎_elim
    (λ yes. (verification_entry, ap entry_of (eqb-true t verification_results yes) ∙ verification_entry_lem, refl))
    (λ yes. (indication_entry, ap entry_of (eqb-true t error_indication yes) ∙ indication_entry_lem, refl))
    (or_cases (eqb t verification_results) (eqb t error_indication) own)
