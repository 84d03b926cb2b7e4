-- The entries of a list, one after the other.
use Rattle.std.proofs.Common.{◌≡◌, ℕ, ◌+◌, ◌*◌, ◌%◌, ◌<◌, ◌≤◌, Bool, true, false, cond, eqb, ltb, leb, List, [], ◌∷◌, length, Some, None, Ok, Err, Option, Result, sym, refl, ap, ◌∙◌, not-suc-le-zero, add-zero, add_assoc, zero-add, arith}
use Rattle.std.proofs.lemmas.List.{nil_from_length}
use Rattle.std.proofs.lemmas.Bool.{cond-true, cond-false, le-leb, lt-leb}
use Rattle.dol.specs.declared.size.DolFault.{DolFault}
use Rattle.dol.specs.Dol.{Asked, second, third, size, more, entries_from, entries, total, size_of}
use Rattle.dol.specs.Steps.{Front, front, sized, second_byte, third_byte}

-- the entries of a list, from its first one
abbrev pub taken : Option Front → Option (List Asked)
taken None = None
taken (Some f) = more (record { tag = f.tag; size = f.size }) (entries f.rest)

taken_cond : (t : Bool) (x y : Option Front) → cond t (taken x) (taken y) ≡ taken (cond t x y)
taken_cond true x y = refl
taken_cond false x y = refl

at_size : (t : ℕ) (bs : List ℕ) → entries_from (size t) bs ≡ taken (sized t bs)
at_size t [] = refl
at_size t (n ∷ bs) = refl

at_third : (t : ℕ) (bs : List ℕ) → entries_from (third t) bs ≡ taken (third_byte t bs)
at_third t [] = refl
at_third t (b ∷ bs) = ap (λ o. cond (ltb b 128) o None) (at_size (t * 256 + b) bs) ∙ taken_cond (ltb b 128) (sized (t * 256 + b) bs) None

at_second : (t : ℕ) (bs : List ℕ) → entries_from (second t) bs ≡ taken (second_byte t bs)
at_second t [] = refl
at_second t (b ∷ bs) =
    ap (λ o. cond (ltb b 128) o (entries_from (third (t * 256 + b)) bs)) (at_size (t * 256 + b) bs)
    ∙ ap (λ o. cond (ltb b 128) (taken (sized (t * 256 + b) bs)) o) (at_third (t * 256 + b) bs)
    ∙ taken_cond (ltb b 128) (sized (t * 256 + b) bs) (third_byte (t * 256 + b) bs)

pub entries_front : (bs : List ℕ) → 0 < length bs → entries bs ≡ taken (front bs)
entries_front [] h = absurd (not-suc-le-zero h)
entries_front (b ∷ bs) h =
    ap (λ o. cond (eqb (b % 32) 31) o (entries_from (size b) bs)) (at_second b bs)
    ∙ ap (λ o. cond (eqb (b % 32) 31) (taken (second_byte b bs)) o) (at_size b bs)
    ∙ taken_cond (eqb (b % 32) 31) (second_byte b bs) (sized b bs)

-- what follows the first entry is shorter
abbrev pub Shorter : Option Front → ℕ → Type 0
Shorter None n = Unit {0}
Shorter (Some f) n = length f.rest < n

shorter_more : (o : Option Front) (m n : ℕ) → m ≤ n → Shorter o m → Shorter o n
shorter_more None m n le h = tt
shorter_more (Some f) m n le h = omega arith

shorter_cond : (t : Bool) (x y : Option Front) (n : ℕ) → Shorter x n → Shorter y n → Shorter (cond t x y) n
shorter_cond true x y n h k = h
shorter_cond false x y n h k = k

shorter_sized : (t : ℕ) (bs : List ℕ) → Shorter (sized t bs) (length bs)
shorter_sized t [] = tt
shorter_sized t (n ∷ bs) = omega arith

shorter_third : (t : ℕ) (bs : List ℕ) → Shorter (third_byte t bs) (length bs)
shorter_third t [] = tt
shorter_third t (b ∷ bs) = shorter_cond (ltb b 128) _ _ _ (shorter_more _ (length bs) _ (omega arith) (shorter_sized (t * 256 + b) bs)) tt

shorter_second : (t : ℕ) (bs : List ℕ) → Shorter (second_byte t bs) (length bs)
shorter_second t [] = tt
shorter_second t (b ∷ bs) =
    shorter_cond (ltb b 128) _ _ _ (shorter_more _ (length bs) _ (omega arith) (shorter_sized (t * 256 + b) bs)) (shorter_more _ (length bs) _ (omega arith) (shorter_third (t * 256 + b) bs))

shorter_front : (bs : List ℕ) → Shorter (front bs) (length bs)
shorter_front [] = tt
shorter_front (b ∷ bs) =
    shorter_cond (eqb (b % 32) 31) _ _ _ (shorter_more _ (length bs) _ (omega arith) (shorter_second b bs)) (shorter_more _ (length bs) _ (omega arith) (shorter_sized b bs))

pub rest_shorter : (bs : List ℕ) (f : Front) → Some f ≡ front bs → length f.rest < length bs
rest_shorter bs f e = let P : Option Front → Type 0 = λ o. Shorter o (length bs) in rw (sym e) at (shorter_front bs)

-- how long the data is, where n bytes have been counted already
abbrev pub after : ℕ → ℕ → Option (List Asked) → Result ℕ DolFault
after n limit None = Err (record {})
after n limit (Some es) = cond (leb (n + total es) limit) (Ok (n + total es)) (Err (record {}))

after_more : (n limit : ℕ) (a : Asked) (o : Option (List Asked)) → after n limit (more a o) ≡ after (n + a.size) limit o
after_more n limit a None = refl
after_more n limit a (Some es) = ap (λ m. cond (leb m limit) (Ok m) (Err (record {}))) (sym (add_assoc n a.size (total es)))

after_over : (n limit : ℕ) (o : Option (List Asked)) → limit < n → Err (record {}) ≡ after n limit o
after_over n limit None h = refl
after_over n limit (Some es) h = sym (cond-false _ _ _ (lt-leb (n + total es) limit (omega arith)))

-- one entry more, one too many, a faulty one, and the end
module _ (n limit : ℕ) (bs : List ℕ) where
  pub counted : (f : Front) → 0 < length bs → Some f ≡ front bs → after (n + f.size) limit (entries f.rest) ≡ after n limit (entries bs)
  counted f h e = sym (ap (after n limit) (entries_front bs h ∙ ap taken (sym e)) ∙ after_more n limit (record { tag = f.tag; size = f.size }) (entries f.rest))

  pub over : (f : Front) → 0 < length bs → Some f ≡ front bs → limit < n + f.size → Err (record {}) ≡ after n limit (entries bs)
  over f h e l = after_over (n + f.size) limit (entries f.rest) l ∙ counted f h e

  pub faulty : 0 < length bs → None ≡ front bs → Err (record {}) ≡ after n limit (entries bs)
  faulty h e = sym (ap (after n limit) (entries_front bs h ∙ ap taken (sym e)))
