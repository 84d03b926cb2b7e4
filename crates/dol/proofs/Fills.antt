-- The fill of a list's data, one entry after the other.
use Rattle.std.proofs.Common.{◌≡◌, ℕ, ◌+◌, ◌-◌, ◌<◌, ◌≤◌, List, [], ◌∷◌, ◌++◌, length, take, drop, Some, None, Option, sym, refl, ap, ◌∙◌, subst, append_assoc, add-zero, add_assoc, zero-add, arith, take-append-drop}
use borrow.Rule.Slice.PartMut.{put_mid}
use Rattle.std.proofs.lemmas.Slice.{take-put_mid, drop-put_mid}
use Rattle.std.proofs.lemmas.List.Edits.{length-between}
use Rattle.store.specs.Map.{Map}
use Rattle.dol.specs.Dol.{Asked, more, entries, total, data_for, data_of}
use Rattle.dol.specs.Steps.{Room, Front, front}
use Rattle.dol.proofs.Entries.{taken, entries_front}

-- a buffer after the data has been written to its front
abbrev pub written : Map → Option (List Asked) → List ℕ → List ℕ
written held None buf = buf
written held (Some es) buf = data_of held es ++ drop (total es) buf

-- the buffer once the entries that are left have been written from a place on
abbrev pub onward : Map → ℕ → Option (List Asked) → List ℕ → List ℕ
onward held at None buf = buf
onward held at (Some es) buf = take at buf ++ (data_of held es ++ drop (at + total es) buf)

pub onward_start : (held : Map) (o : Option (List Asked)) (buf : List ℕ) → onward held 0 o buf ≡ written held o buf
onward_start held None buf = refl
onward_start held (Some es) buf = ap (λ n. data_of held es ++ drop n buf) (zero-add (total es))

-- one entry more: `part` is what it was given
module _ (held : Map) (at : ℕ) (buf part : List ℕ) where
  room_some : (a : Asked) (o : Option (List Asked)) → Room at (more a o) (length buf) → Room (at + a.size) o (length buf)
  room_some a None r = r
  room_some a (Some es) r = omega arith

  onward_more : (a : Asked) (o : Option (List Asked)) → Room at (more a o) (length buf) → part ≡ data_for held a.tag a.size → length part ≡ a.size →
      onward held (at + a.size) o (put_mid at (at + a.size - at) buf part) ≡ onward held at (more a o) buf
  onward_more a None r e n = absurd r
  onward_more a (Some es) r e n =
      let k : at + a.size - at ≡ a.size = omega arith in
      let buf' = put_mid at (at + a.size - at) buf part in
      let front' : take (at + a.size) buf' ≡ take at buf ++ part = take-put_mid at (at + a.size - at) buf part (at + a.size) (omega arith) (omega arith) in
      let back' : drop (at + a.size + total es) buf' ≡ drop (at + a.size + total es) buf = drop-put_mid at (at + a.size - at) buf part (at + a.size + total es) (omega arith) (omega arith) (omega arith) in
      ap (λ l. l ++ (data_of held es ++ drop (at + a.size + total es) buf')) front'
      ∙ ap (λ l. (take at buf ++ part) ++ (data_of held es ++ l)) back'
      ∙ append_assoc (take at buf) part (data_of held es ++ drop (at + a.size + total es) buf)
      ∙ ap (λ l. take at buf ++ l) (sym (append_assoc part (data_of held es) (drop (at + a.size + total es) buf)))
      ∙ ap (λ l. take at buf ++ ((l ++ data_of held es) ++ drop (at + a.size + total es) buf)) e
      ∙ ap (λ m. take at buf ++ ((data_for held a.tag a.size ++ data_of held es) ++ drop m buf)) (add_assoc at a.size (total es))

some_bytes : (bs : List ℕ) (f : Front) → Some f ≡ front bs → 0 < length bs
some_bytes [] f e = absurd (let z : ◌≡◌ {A = ℕ} 0 1 = cc in omega arith)
some_bytes (b ∷ bs) f e = omega arith

-- the entries of a list whose first entry is f
from_front : (bs : List ℕ) (f : Front) → Some f ≡ front bs → entries bs ≡ more (record { tag = f.tag; size = f.size }) (entries f.rest)
from_front bs f e = entries_front bs (some_bytes bs f e) ∙ ap taken (sym e)

room_size : (at n : ℕ) (a : Asked) (o : Option (List Asked)) → Room at (more a o) n → at + a.size ≤ n
room_size at n a None r = absurd r
room_size at n a (Some es) r = omega arith

-- there is room for the first entry
pub fits_first : (at n : ℕ) (bs : List ℕ) (f : Front) → Some f ≡ front bs → Room at (entries bs) n → at + f.size ≤ n
fits_first at n bs f e r = room_size at n (record { tag = f.tag; size = f.size }) (entries f.rest) (subst (λ o. Room at o n) (from_front bs f e) r)

-- and once it is written, the rest is left; k is its size
pub filled_one : (held : Map) (at n k : ℕ) (buf part : List ℕ) (bs : List ℕ) (f : Front) → k ≡ f.size → Some f ≡ front bs → length buf ≡ n → Room at (entries bs) n →
    length part ≡ length (take (at + k - at) (drop at buf)) → part ≡ data_for held f.tag (length (take (at + k - at) (drop at buf))) →
    (onward held (at + k) (entries f.rest) (put_mid at (at + k - at) buf part) ≡ onward held at (entries bs) buf)
    × Room (at + k) (entries f.rest) n
filled_one held at n k buf part bs f size e same r =
    let P : ℕ → Type 0 = λ k. length part ≡ length (take (at + k - at) (drop at buf)) → part ≡ data_for held f.tag (length (take (at + k - at) (drop at buf))) →
    (onward held (at + k) (entries f.rest) (put_mid at (at + k - at) buf part) ≡ onward held at (entries bs) buf)
    × Room (at + k) (entries f.rest) n in
    let a : Asked = record { tag = f.tag; size = f.size } in
    let r' : Room at (more a (entries f.rest)) (length buf) = subst (λ o. Room at o (length buf)) (from_front bs f e) (subst (λ m. Room at (entries bs) m) (sym same) r) in
    let fits : at + f.size ≤ length buf = room_size at (length buf) a (entries f.rest) r' in
    let long : length (take (at + f.size - at) (drop at buf)) ≡ f.size = length-between buf at (at + f.size) fits ∙ omega arith in
    subst P (sym size) (λ len p. (
      onward_more held at buf part a (entries f.rest) r' (p ∙ ap (data_for held f.tag) long) (len ∙ long) ∙ ap (λ o. onward held at o buf) (sym (from_front bs f e)),
      subst (λ m. Room (at + f.size) (entries f.rest) m) same (room_some held at buf part a (entries f.rest) r'),
    ))

-- at the end nothing is left
pub filled_all : (held : Map) (at n : ℕ) (buf bs : List ℕ) → None ≡ front bs → Room at (entries bs) n → buf ≡ onward held at (entries bs) buf
filled_all held at n buf [] e r = sym (ap (λ m. take at buf ++ drop m buf) (add-zero at) ∙ take-append-drop at buf)
filled_all held at n buf (b ∷ bs) e r = absurd (subst (λ o. Room at o n) (entries_front (b ∷ bs) (omega arith) ∙ ap taken (sym e)) r)
