-- Objects written one after the other.
use Rattle.std.proofs.Common.{◌≡◌, ℕ, suc, ◌+◌, ◌<◌, ◌≤◌, ltb, List, ◌++◌, length, get_or, take, drop, Some, Ok, Err, sym, ap, ◌∙◌, arith}
use Rattle.std.proofs.lemmas.List.{at_drop_more, at_drop_all, length-append, append_assoc, append-nil, take-append-drop, take_at, drop-drop}
use Rattle.std.proofs.lemmas.Bool.{cond-true, cond-false, le-ltb, lt-ltb}
use Rattle.store.specs.Map.{Map}
use Rattle.tlv.specs.Written.{at_front}
use Rattle.readout.specs.declared.object.Absent.{Absent}
use Rattle.readout.specs.declared.refusal.ReadoutRefusal.TheVariants.{Short}
use Rattle.readout.specs.Shown.{shown, objects_at, bytes_of, objects_in}
use Rattle.readout.specs.Output.{fit_answer}
use Rattle.readout.proofs.Written.{bytes_append, all_tags, reads}

-- an object written at a place: the place after it, and the buffer before and after that
pub record Wrote (at r : ℕ) (object out out' : List ℕ) : Type 0 where
  pub after : r ≡ at + length object
  pub front : take r out' ≡ take at out ++ object
  pub back : drop r out' ≡ drop r out

abbrev pub series : Absent → List ℕ → Map → List ℕ
series a ts m = bytes_of (objects_at a ts m)

-- what is written so far, and what is still to come, is the whole
pub record Onward (at i : ℕ) (a : Absent) (ts : List ℕ) (m : Map) (out now : List ℕ) : Type 0 where
  pub whole : take at now ++ series a (drop i ts) m ≡ series a ts m
  pub sizes : at + length (series a (drop i ts) m) ≡ length (series a ts m)
  pub back : drop at now ≡ drop at out

module _ (i : ℕ) (a : Absent) (ts : List ℕ) (m : Map) (h : i < length ts) where
  pub more : series a (drop i ts) m ≡ bytes_of (shown a (get_or ts i 0) (m (get_or ts i 0))) ++ series a (drop (i + 1) ts) m
  more = at_drop_more (λ xs. series a xs m) ts i 0 h ∙ bytes_append (shown a (get_or ts i 0) (m (get_or ts i 0))) (objects_at a (drop (i + 1) ts) m)

  pub size_more : length (series a (drop i ts) m) ≡ length (bytes_of (shown a (get_or ts i 0) (m (get_or ts i 0)))) + length (series a (drop (i + 1) ts) m)
  size_more = ap length more ∙ length-append (bytes_of (shown a (get_or ts i 0) (m (get_or ts i 0)))) (series a (drop (i + 1) ts) m)

  pub onward : (at r : ℕ) (out now now' : List ℕ) → Onward at i a ts m out now → Wrote at r (bytes_of (shown a (get_or ts i 0) (m (get_or ts i 0)))) now now' → Onward r (i + 1) a ts m out now'
  onward at r out now now' o w =
      let x = bytes_of (shown a (get_or ts i 0) (m (get_or ts i 0))) in
      let s = size_more in
      let f = w.after in
      let b = o.sizes in
      let k : r ≡ at + length x = omega arith in
      record {
        whole = ap (λ w. w ++ series a (drop (i + 1) ts) m) w.front ∙ append_assoc (take at now) x (series a (drop (i + 1) ts) m)
            ∙ ap (λ w. take at now ++ w) (sym more) ∙ o.whole;
        sizes = omega arith;
        back = w.back ∙ ap (λ j. drop j now) k ∙ sym (drop-drop (length x) at now) ∙ ap (drop (length x)) o.back ∙ drop-drop (length x) at out ∙ ap (λ j. drop j out) (sym k);
      }

pub done : (at i : ℕ) (a : Absent) (ts : List ℕ) (m : Map) (out now : List ℕ) → length ts ≤ i → Onward at i a ts m out now → now ≡ at_front (series a ts m) out
done at i a ts m out now h o =
    let e = at_drop_all (λ xs. series a xs m) ts i h in
    let l = ap length e in
    let s = o.sizes in
    let k : at ≡ length (series a ts m) = omega arith in
    sym (take-append-drop at now)
    ∙ ap (λ w. w ++ drop at now) (sym (append-nil (take at now)) ∙ ap (λ w. take at now ++ w) (sym e) ∙ o.whole)
    ∙ ap (λ w. series a ts m ++ w) o.back ∙ ap (λ j. series a ts m ++ drop j out) k

pub fit : (n k : ℕ) (bs : List ℕ) → k ≡ length bs → k ≤ n → Ok k ≡ fit_answer bs n
fit n k bs e h = ap Ok e ∙ sym (cond-false (ltb n (length bs)) (Err Short) (Ok (length bs)) (le-ltb n (length bs) (omega arith)))

pub short : (n k : ℕ) (bs : List ℕ) → k ≡ length bs → n < k → Err Short ≡ fit_answer bs n
short n k bs e h = sym (cond-true (ltb n (length bs)) (Err Short) (Ok (length bs)) (lt-ltb n (length bs) (omega arith)))

pub read_back : (n : ℕ) (a : Absent) (ts : List ℕ) (m : Map) (out out' : List ℕ) → n ≡ length (series a ts m) → out' ≡ at_front (series a ts m) out → objects_in (take n out') ≡ Some (objects_at a ts m)
read_back n a ts m out out' e f =
    ap objects_in (ap (take n) f ∙ take_at (series a ts m) (drop (length (series a ts m)) out) n (sym e))
    ∙ reads (objects_at a ts m) (suc (length (series a ts m))) (all_tags a ts m) (omega arith)
