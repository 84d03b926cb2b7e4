-- What is written is an object, and reads back as the same one.
use Rattle.std.proofs.Common.{◌≡◌, ℕ, ◌+◌, ◌-◌, ◌*◌, ◌/◌, ◌%◌, ◌≤◌, Bool, true, false, cond, not, ◌&&◌, eqb, ltb, List, [], ◌∷◌, ◌++◌, length, get_or, drop, Ok, Err, Result, take, OnOk, OnErr, IfOk, sym, refl, ap, ◌∙◌, subst, append_assoc, arith, length-append, ltb-false, ltb-true}
use borrow.Author.Tests.{eqb-false}
use Rattle.std.proofs.lemmas.Bool.{le-ltb}
use Rattle.std.proofs.lemmas.List.{take_at}
use Rattle.tlv.specs.declared.write.WriteRefusal.{WriteRefusal}
use Rattle.tlv.specs.declared.write.WriteRefusal.TheVariants.{Short}
use Rattle.tlv.specs.Objects.{marks_more, marks_constructed, bit8, object, seen, next_at}
use Rattle.tlv.specs.Grammar.{TagBytes, one, two, three, LengthBytes, short, long}
use Rattle.tlv.specs.Written.{is_tag, tag_bytes, length_bytes, head_bytes, object_bytes, at_front, write_answer, write_after, ReadsBack}
use Rattle.tlv.proofs.Steps.{by_cond}
use Rattle.tlv.proofs.Accepts.{object_made}

and_left : (a b : Bool) → a && b ≡ true → a ≡ true
and_left true b h = refl
and_left false b h = h

and_right : (a b : Bool) → a && b ≡ true → b ≡ true
and_right true b h = h
and_right false b h = absurd (let z : ◌≡◌ {A = ℕ} 0 1 = cc in omega arith)

not_true : (b : Bool) → not b ≡ true → b ≡ false
not_true true h = sym h
not_true false h = refl

-- a first byte that marks a second is not 0
more_some : (a : ℕ) → marks_more a ≡ true → a ≡ 0 → ⊥
more_some a h z = let f : marks_more 0 ≡ true = subst (λ b. marks_more b ≡ true) z h in let w : ◌≡◌ {A = ℕ} 0 1 = cc in omega arith

-- the bytes of a tag, and that the first is no filler
pub record Tagged (t : ℕ) (bs : List ℕ) : Type 0 where
  pub bytes : TagBytes bs t
  pub some : get_or bs 0 0 ≡ 0 → ⊥

tagged_two : (t : ℕ) → marks_more (t / 256) && not (bit8 (t % 256)) ≡ true → Tagged t (t / 256 ∷ t % 256 ∷ [])
tagged_two t h =
    let m = and_left (marks_more (t / 256)) _ h in
    let l = ltb-false 127 (t % 256) (not_true _ (and_right (marks_more (t / 256)) _ h)) in
    let whole : t / 256 * 256 + t % 256 ≡ t = omega arith in
    record { bytes = subst (TagBytes (t / 256 ∷ t % 256 ∷ [])) whole (two (t / 256) (t % 256) m (omega arith)); some = more_some (t / 256) m }

tagged_three : (t : ℕ) → ltb t 16777216 && (marks_more (t / 65536) && (bit8 (t / 256 % 256) && not (bit8 (t % 256)))) ≡ true → Tagged t (t / 65536 ∷ t / 256 % 256 ∷ t % 256 ∷ [])
tagged_three t h =
    let g = and_right (ltb t 16777216) _ h in
    let m = and_left (marks_more (t / 65536)) _ g in
    let k = and_right (marks_more (t / 65536)) _ g in
    let u = ltb-true 127 (t / 256 % 256) (and_left (bit8 (t / 256 % 256)) _ k) in
    let l = ltb-false 127 (t % 256) (not_true _ (and_right (bit8 (t / 256 % 256)) _ k)) in
    let whole : t / 65536 * 65536 + t / 256 % 256 * 256 + t % 256 ≡ t = omega arith in
    record {
      bytes = subst (TagBytes (t / 65536 ∷ t / 256 % 256 ∷ t % 256 ∷ [])) whole (three (t / 65536) (t / 256 % 256) (t % 256) m (omega arith) (omega arith));
      some = more_some (t / 65536) m;
    }

tagged_one : (t : ℕ) → not (eqb t 0) && not (marks_more t) ≡ true → Tagged t (t ∷ [])
tagged_one t h = record {
  bytes = one t (not_true _ (and_right (not (eqb t 0)) _ h));
  some = eqb-false t 0 (not_true _ (and_left (not (eqb t 0)) _ h));
}

tag_made : (t : ℕ) → is_tag t ≡ true → Tagged t (tag_bytes t)
tag_made t h = go (ltb t 256) (ltb t 65536) h
  where
    go : (a b : Bool) →
        cond a (not (eqb t 0) && not (marks_more t)) (cond b (marks_more (t / 256) && not (bit8 (t % 256))) (ltb t 16777216 && (marks_more (t / 65536) && (bit8 (t / 256 % 256) && not (bit8 (t % 256)))))) ≡ true →
        Tagged t (cond a (t ∷ []) (cond b (t / 256 ∷ t % 256 ∷ []) (t / 65536 ∷ t / 256 % 256 ∷ t % 256 ∷ [])))
    go true b h = tagged_one t h
    go false true h = tagged_two t h
    go false false h = tagged_three t h

length_made : (n : ℕ) → LengthBytes (length_bytes n) n
length_made n = by_cond (λ bs. LengthBytes bs n) (ltb n 128) _ _ (λ h. short n (ltb-true n 128 h)) (λ h. long n)

pub reads_back : (t : ℕ) (v : List ℕ) → is_tag t ≡ true → ReadsBack t v (object_bytes t v)
unfolding head_bytes
reads_back t v h rest =
    let tags = tag_made t h in
    let tb = tag_bytes t in
    let lb = length_bytes (length v) in
    let split : ((tb ++ lb) ++ v) ++ rest ≡ tb ++ (lb ++ (v ++ rest)) = simp append_assoc in
    let start : length ((tb ++ lb) ++ v) - length v ≡ 0 + length tb + length lb = omega (arith, length-append (tb ++ lb) v, length-append tb lb) in
    ap (λ bs. next_at (length bs) bs) split
    ∙ object_made 0 (length (tb ++ (lb ++ (v ++ rest)))) v rest tags.bytes (length_made (length v)) tags.some (omega arith)
    ∙ ap (λ s. seen (object (marks_constructed (get_or tb 0 0)) t 0 s v) rest) (sym start)

-- what writing answers, where tag and value can be written
pub answers : (t room size : ℕ) (v : List ℕ) → is_tag t ≡ true → length v ≤ 255 → size ≡ length (object_bytes t v) → write_answer t v room ≡ cond (ltb room size) (Err Short) (Ok size)
answers t room size v tag few is = rw (tag, le-ltb 255 (length v) few, is)

-- what an answer and the buffer after it say of a written object
pub record Put (t : ℕ) (v out left : List ℕ) (r : Result ℕ WriteRefusal) : Type 0 where
  pub answer : r ≡ write_answer t v (length out)
  pub after : left ≡ write_after r t v out
  pub back : IfOk r (λ n. ReadsBack t v (take n left))

-- the bytes of the object are put to the buffer's front, or the buffer is short of them
put_bytes : (t : ℕ) (v out left : List ℕ) (b : Bool) (r : Result ℕ WriteRefusal) → is_tag t ≡ true → length v ≤ 255 → ltb (length out) (length (object_bytes t v)) ≡ b
    → r ≡ cond b (Err Short) (Ok (length (object_bytes t v))) → OnOk r (left ≡ at_front (object_bytes t v) out) → OnErr r (left ≡ out) → Put t v out left r
put_bytes t v out left true (Ok n) tag few l e put kept = let z : ◌≡◌ {A = ℕ} 0 1 = cc in absurd (omega arith)
put_bytes t v out left false (Err f) tag few l e put kept = let z : ◌≡◌ {A = ℕ} 0 1 = cc in absurd (omega arith)
put_bytes t v out left true (Err f) tag few l e put kept =
    record { answer = e ∙ sym (answers t (length out) _ v tag few refl ∙ ap (λ b. cond b (Err Short) (Ok (length (object_bytes t v)))) l); after = kept; back = tt }
put_bytes t v out left false (Ok n) tag few l e put kept =
    let n-is : n ≡ length (object_bytes t v) = cc in
    let front : take n left ≡ object_bytes t v = ap (take n) put ∙ take_at (object_bytes t v) (drop (length (object_bytes t v)) out) n (sym n-is) in
    record {
      answer = e ∙ sym (answers t (length out) _ v tag few refl ∙ ap (λ b. cond b (Err Short) (Ok (length (object_bytes t v)))) l);
      after = put;
      back = subst (ReadsBack t v) (sym front) (reads_back t v tag);
    }

pub put_parts : (t : ℕ) (xs ys v out left : List ℕ) (r : Result ℕ WriteRefusal) → is_tag t ≡ true → length v ≤ 255 → xs ≡ tag_bytes t → ys ≡ length_bytes (length v)
    → r ≡ cond (ltb (length out) (length ((xs ++ ys) ++ v))) (Err Short) (Ok (length ((xs ++ ys) ++ v))) → OnOk r (left ≡ at_front ((xs ++ ys) ++ v) out) → OnErr r (left ≡ out) → Put t v out left r
unfolding head_bytes
put_parts t xs ys v out left r tag few a b =
    let is : (xs ++ ys) ++ v ≡ object_bytes t v = ap (λ zs. (zs ++ ys) ++ v) a ∙ ap (λ zs. (tag_bytes t ++ zs) ++ v) b in
    subst (λ bs. r ≡ cond (ltb (length out) (length bs)) (Err Short) (Ok (length bs)) → OnOk r (left ≡ at_front bs out) → OnErr r (left ≡ out) → Put t v out left r) (sym is)
    (λ e put kept. put_bytes t v out left _ r tag few refl e put kept)
