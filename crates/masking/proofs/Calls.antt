-- The calls of a masked store: their answers are those of the store below.
use Rattle.std.proofs.Common.{◌≡◌, ℕ, Bool, true, false, cond, ltb, List, ◌++◌, length, take, drop, Some, None, Ok, Err, Option, Result, sym, refl, ap, ◌∙◌, ⊎_elim, arith}
use Rattle.std.specs.Option.{option_map}
use Rattle.store.specs.declared.writing.Refused.{Refused}
use Rattle.store.specs.declared.reading.NotCopied.{NotCopied}
use Rattle.store.specs.declared.reading.NotCopied.TheVariants.{Short}
use Rattle.store.specs.Answer.{copy_answer, copy_after, put_answer, put_after}
use Rattle.std.proofs.lemmas.Bool.{cond-true, cond-false, cases_Bool}
use Rattle.std.proofs.lemmas.List.{take_at, drop_at}
use Rattle.store.specs.Map.{Map, changed, count, total}
use Rattle.store.specs.Maps.{changed_is, changed_here, changed_other}
use Rattle.masking.specs.Mask.{masked, unmasked}
use Rattle.masking.specs.Masks.{length_masked, count_unmasked, total_unmasked}
use Rattle.masking.proofs.Bytes.{masked_masked}

pub unmasked_changed : (pad : List ℕ) (m : Map) (t : ℕ) (w : Option (List ℕ))
    → unmasked pad (changed m t w) ≡ changed (unmasked pad m) t (option_map (masked pad t) w)
unmasked_changed pad m t w =
    changed_is (unmasked pad m) (unmasked pad (changed m t w)) t (option_map (masked pad t) w)
    (ap (option_map (masked pad t)) (changed_here m t w))
    (λ k ne. ap (option_map (masked pad k)) (changed_other m t k w ne))

pub lengths_masked : (pad : List ℕ) (t : ℕ) (o : Option (List ℕ)) → option_map length (option_map (masked pad t) o) ≡ option_map length o
lengths_masked pad t None = refl
lengths_masked pad t (Some v) = ap Some (length_masked pad t v)

-- Copying out: the answer is that of the store below.
pub copy_answer_masked : (pad : List ℕ) (t : ℕ) (o : Option (List ℕ)) (n : ℕ)
    → copy_answer (option_map (masked pad t) o) n ≡ copy_answer o n
copy_answer_masked pad t None n = refl
copy_answer_masked pad t (Some v) n = ap (λ k. cond {A = Result ℕ NotCopied} (ltb n k) (Err Short) (Ok k)) (length_masked pad t v)

filled_is : (b : Bool) (k n : ℕ) → Ok n ≡ cond {A = Result ℕ NotCopied} b (Err Short) (Ok k) → (b ≡ false) × (n ≡ k)
filled_is true k n e = let z : ◌≡◌ {A = ℕ} 0 1 = cc in absurd (omega arith)
filled_is false k n e = (refl, cc)

pub copy_filled_masked : (pad : List ℕ) (t : ℕ) (o : Option (List ℕ)) (d out text : List ℕ) (l n : ℕ)
    → n ≡ l → Ok l ≡ copy_answer o (length d) → out ≡ copy_after o d → text ≡ masked pad t (take n out)
    → text ++ drop n out ≡ copy_after (option_map (masked pad t) o) d
copy_filled_masked pad t None d out text l n i r a e = let z : ◌≡◌ {A = ℕ} 0 1 = cc in absurd (omega arith)
copy_filled_masked pad t (Some v) d out text l n i r a e =
    let f = filled_is (ltb (length d) (length v)) (length v) l r in
    let m = length_masked pad t v in
    let w : out ≡ v ++ drop (length v) d = a ∙ cond-false (ltb (length d) (length v)) d (v ++ drop (length v) d) f.0 in
    let p : take n out ≡ v = ap (take n) w ∙ take_at v (drop (length v) d) n (sym (i ∙ f.1)) in
    let q : drop n out ≡ drop (length v) d = ap (drop n) w ∙ drop_at v (drop (length v) d) n (sym (i ∙ f.1)) in
    let b : ltb (length d) (length (masked pad t v)) ≡ false = ap (ltb (length d)) m ∙ f.0 in
    ap (λ zs. zs ++ drop n out) (e ∙ ap (masked pad t) p)
    ∙ ap (λ zs. masked pad t v ++ zs) (q ∙ ap (λ k. drop k d) (sym m))
    ∙ sym (cond-false (ltb (length d) (length (masked pad t v))) d (masked pad t v ++ drop (length (masked pad t v)) d) b)

pub copy_rest_masked : (pad : List ℕ) (t : ℕ) (o : Option (List ℕ)) (d out : List ℕ) (f : NotCopied)
    → Err f ≡ copy_answer o (length d) → out ≡ copy_after o d
    → out ≡ copy_after (option_map (masked pad t) o) d
copy_rest_masked pad t None d out f r a = a
copy_rest_masked pad t (Some v) d out f r a =
    ⊎_elim
    (λ e. a ∙ cond-true (ltb (length d) (length v)) d (v ++ drop (length v) d) e
    ∙ sym (cond-true (ltb (length d) (length (masked pad t v))) d (masked pad t v ++ drop (length (masked pad t v)) d)
    (ap (ltb (length d)) (length_masked pad t v) ∙ e)))
    (λ e. let q : Err f ≡ Ok (length v) = r ∙ cond-false {A = Result ℕ NotCopied} (ltb (length d) (length v)) (Err Short) (Ok (length v)) e in cc)
    (cases_Bool (ltb (length d) (length v)))

-- Putting a masked value below is putting the value here.
put_masked_map : (pad : List ℕ) (m : Map) (t : ℕ) (v x : List ℕ) → x ≡ masked pad t v
    → unmasked pad (changed m t (Some x)) ≡ changed (unmasked pad m) t (Some v)
put_masked_map pad m t v x e =
    unmasked_changed pad m t (Some x)
    ∙ ap (λ w. changed (unmasked pad m) t (Some w)) (ap (masked pad t) e ∙ masked_masked pad t v)

pub put_answer_masked : (pad : List ℕ) (o b : ℕ) (m : Map) (t : ℕ) (v x : List ℕ) → x ≡ masked pad t v
    → put_answer o b m t x ≡ put_answer o b (unmasked pad m) t v
put_answer_masked pad o b m t v x e =
    let n : length x ≡ length v = ap length e ∙ length_masked pad t v in
    let c : count (changed m t (Some x)) ≡ count (changed (unmasked pad m) t (Some v)) =
    sym (count_unmasked pad (changed m t (Some x))) ∙ ap count (put_masked_map pad m t v x e) in
    let s : total (changed m t (Some x)) ≡ total (changed (unmasked pad m) t (Some v)) =
    sym (total_unmasked pad (changed m t (Some x))) ∙ ap total (put_masked_map pad m t v x e) in
    cc

pub put_after_masked : (pad : List ℕ) (r : Result (Unit {0}) Refused) (m n : Map) (t : ℕ) (v x : List ℕ) → x ≡ masked pad t v
    → n ≡ put_after r m t x → unmasked pad n ≡ put_after r (unmasked pad m) t v
put_after_masked pad (Ok y) m n t v x e a = ap (unmasked pad) a ∙ put_masked_map pad m t v x e
put_after_masked pad (Err y) m n t v x e a = ap (unmasked pad) a
