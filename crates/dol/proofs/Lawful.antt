-- The laws of a list's data, and that what is written is that data.
use Rattle.std.proofs.Common.{◌≡◌, ℕ, ◌+◌, ◌≤◌, Bool, true, false, cond, eqb, leb, List, [], ◌∷◌, ◌++◌, length, take, drop, replicate, Some, None, Ok, Err, Option, Result, sym, refl, ap, ◌∙◌, arith, length-append, length-drop, length-take}
use Rattle.std.proofs.lemmas.List.{length-replicate, take_at, drop_at, append_assoc}
use Rattle.std.proofs.lemmas.Bool.{cond-true, le-leb, leb-true, eq-eqb, or_left, or_right, both_ways}
use Rattle.store.specs.Map.{Map}
use Rattle.dictionary.specs.declared.entry.Entry.{Entry}
use Rattle.dictionary.specs.declared.entry.Format.{Format}
use Rattle.dictionary.specs.declared.entry.Format.TheVariants.{Numeric, CompressedNumeric, Alphanumeric, AlphanumericSpecial, Binary}
use Rattle.dictionary.specs.Dictionary.{entry_of, constructed}
use Rattle.dictionary.proofs.Order.{entry_sound}
use Rattle.dol.specs.declared.size.DolFault.{DolFault}
use Rattle.dol.specs.Fit.{from_left, from_right, fitted}
use Rattle.dol.specs.Dol.{Asked, entries, total, value_for, data_for, data_of, within, dol_data, size_of, filled}
use Rattle.dol.specs.Steps.{Room, Planned}
use Rattle.dol.specs.Laws.{Lawful, Sized, EachAlone, asks_for, named_by, OnlyNamed, Zeros}
use Rattle.dol.proofs.Fills.{written}

-- the data is as long as it is asked to be
length_right : (v : List ℕ) (n : ℕ) → length (from_right v n) ≡ n
length_right v n = simp (length-append, length-replicate, length-drop) (omega arith)

length_left : (pad : ℕ) (v : List ℕ) (n : ℕ) → length (from_left pad v n) ≡ n
length_left pad v n = simp (length-append, length-replicate, length-take) (omega arith)

length_fitted : (f : Format) (v : List ℕ) (n : ℕ) → length (fitted f v n) ≡ n
length_fitted Numeric v n = length_right v n
length_fitted CompressedNumeric v n = length_left 0xFF v n
length_fitted Alphanumeric v n = length_left 0 v n
length_fitted AlphanumericSpecial v n = length_left 0 v n
length_fitted Binary v n = length_left 0 v n

length_cond : (t : Bool) (xs ys : List ℕ) (n : ℕ) → length xs ≡ n → length ys ≡ n → length (cond t xs ys) ≡ n
length_cond true xs ys n h k = h
length_cond false xs ys n h k = k

length_value : (e : Option Entry) (o : Option (List ℕ)) (n : ℕ) → length (value_for e o n) ≡ n
length_value None o n = length-replicate n 0
length_value (Some e) None n = length-replicate n 0
length_value (Some e) (Some v) n = length_cond (eqb (length v) 0) _ _ n (length-replicate n 0) (length_fitted e.format v n)

pub length_data : (held : Map) (es : List Asked) → length (data_of held es) ≡ total es
length_data held [] = refl
length_data held (a ∷ es) =
    length-append (data_for held a.tag a.size) (data_of held es)
    ∙ ap (λ m. m + length (data_of held es)) (length_value (entry_of a.tag) (held a.tag) a.size)
    ∙ ap (λ m. a.size + m) (length_data held es)

-- what is written is the data
pub written_is : (held : Map) (dol buf : List ℕ) → Room 0 (entries dol) (length buf) → written held (entries dol) buf ≡ filled (dol_data held (length buf) dol) buf
unfolding dol_data
written_is held dol buf room = by (entries dol) room
  where
    by : (o : Option (List Asked)) → Room 0 o (length buf) → written held o buf ≡ filled (within held (length buf) o) buf
    by None r = absurd r
    by (Some es) r =
        ap (λ n. data_of held es ++ drop n buf) (sym (length_data held es))
        ∙ ap (λ o. filled o buf) (sym (cond-true (leb (total es) (length buf)) (Some (data_of held es)) None (le-leb (total es) (length buf) (omega arith))))

-- the data of a list that is taken is that of its entries
pub taken_data : (held : Map) (limit : ℕ) (dol : List ℕ) (es : List Asked) (ds : List ℕ) → entries dol ≡ Some es → dol_data held limit dol ≡ Some ds → (ds ≡ data_of held es) × (total es ≤ limit)
unfolding dol_data
taken_data held limit dol es ds e d = by (leb (total es) limit) refl (ap (within held limit) (sym e) ∙ d)
  where
    by : (b : Bool) → leb (total es) limit ≡ b → cond b (Some (data_of held es)) None ≡ Some ds → (ds ≡ data_of held es) × (total es ≤ limit)
    by true t q = let same : ds ≡ data_of held es = cc in (same, omega (arith, leb-true (total es) limit t))
    by false t q = let z : ◌≡◌ {A = ℕ} 0 1 = cc in absurd (omega arith)

sized_exactly : (dol : List ℕ) → Sized dol
sized_exactly dol held limit es ds e d = ap length (taken_data held limit dol es ds e d).0 ∙ length_data held es

data_append : (held : Map) (xs ys : List Asked) → data_of held (xs ++ ys) ≡ data_of held xs ++ data_of held ys
data_append held [] ys = refl
data_append held (x ∷ xs) ys =
    ap (λ l. data_for held x.tag x.size ++ l) (data_append held xs ys) ∙ sym (append_assoc (data_for held x.tag x.size) (data_of held xs) (data_of held ys))

own_slice : (dol : List ℕ) → EachAlone dol
own_slice dol held limit before a after ds e d =
    let own = data_for held a.tag a.size in
    let is : ds ≡ data_of held before ++ (own ++ data_of held after) = (taken_data held limit dol (before ++ a ∷ after) ds e d).0 ∙ data_append held before (a ∷ after) in
    ap (λ l. take a.size (drop (total before) l)) is
    ∙ ap (take a.size) (drop_at (data_of held before) (own ++ data_of held after) (total before) (length_data held before))
    ∙ take_at own (data_of held after) a.size (length_value (entry_of a.tag) (held a.tag) a.size)

data_agrees : (held other : Map) (es : List Asked) → ((t : ℕ) → asks_for es t ≡ true → held t ≡ other t) → data_of held es ≡ data_of other es
data_agrees held other [] same = refl
data_agrees held other (a ∷ es) same =
    ap (λ o. value_for (entry_of a.tag) o a.size ++ data_of held es) (same a.tag (or_left (eqb a.tag a.tag) (asks_for es a.tag) (eq-eqb a.tag a.tag refl)))
    ∙ ap (λ l. data_for other a.tag a.size ++ l) (data_agrees held other es (λ t h. same t (or_right (eqb a.tag t) (asks_for es t) h)))

named_only : (dol : List ℕ) → OnlyNamed dol
unfolding dol_data
named_only dol limit held other same = by (entries dol) same
  where
    by : (o : Option (List Asked)) → ((t : ℕ) → named_by o t ≡ true → held t ≡ other t) → within held limit o ≡ within other limit o
    by None h = refl
    by (Some es) h = ap (λ ds. cond (leb (total es) limit) (Some ds) None) (data_agrees held other es h)

none_constructed : Zeros
none_constructed held t n h = by (entry_of t) refl
  where
    by : (o : Option Entry) → entry_of t ≡ o → value_for o (held t) n ≡ replicate n 0
    by None e = refl
    by (Some x) e = absurd (both_ways (constructed t) (entry_sound t x e).primitive h)

pub lawful : (dol : List ℕ) → Lawful dol
lawful dol = record { sized = sized_exactly dol; each_alone = own_slice dol; only_named = named_only dol; zeros = none_constructed }

-- what the size of a list says of its data
pub planned : (limit : ℕ) (dol : List ℕ) (r : Result ℕ DolFault) → r ≡ size_of limit (entries dol) → Planned limit dol r
unfolding dol_data
planned limit dol (Ok n) is = by (entries dol) is
  where
    by_test : (es : List Asked) (b : Bool) → leb (total es) limit ≡ b → Ok n ≡ cond {A = Result ℕ DolFault} b (Ok (total es)) (Err (record {})) → 0 + total es ≤ limit
    by_test es true t q = omega (arith, leb-true (total es) limit t)
    by_test es false t q = let z : ◌≡◌ {A = ℕ} 0 1 = cc in absurd (omega arith)

    by : (o : Option (List Asked)) → Ok n ≡ size_of limit o → Room 0 o limit
    by None q = let z : ◌≡◌ {A = ℕ} 0 1 = cc in absurd (omega arith)
    by (Some es) q = by_test es (leb (total es) limit) refl q
planned limit dol (Err e) is = λ held buf. by held buf (entries dol) is
  where
    by_test : (held : Map) (buf : List ℕ) (es : List Asked) (b : Bool) → Err e ≡ cond {A = Result ℕ DolFault} b (Ok (total es)) (Err (record {})) → buf ≡ filled (cond b (Some (data_of held es)) None) buf
    by_test held buf es true q = let z : ◌≡◌ {A = ℕ} 0 1 = cc in absurd (omega arith)
    by_test held buf es false q = refl

    by : (held : Map) (buf : List ℕ) (o : Option (List Asked)) → Err e ≡ size_of limit o → buf ≡ filled (within held limit o) buf
    by held buf None q = refl
    by held buf (Some es) q = by_test held buf es (leb (total es) limit) q
