-- Every text has one reading, which is the one that its definition gives.
use Rattle.std.proofs.Common.{◌≡◌, ℕ, ◌+◌, Bool, List, [], ◌∷◌, ◌++◌, length, take, drop, sym, refl, ap, ◌∙◌, append_assoc, append-nil, zero-add, arith, length-append}
use Rattle.std.specs.List.{AllByRecursion}
use Rattle.std.proofs.lemmas.List.{take_at, drop_at}
use Rattle.tlv.specs.declared.place.Place.{Place}
use Rattle.tlv.specs.Series.{found, meaning}
use Rattle.tlv.specs.Values.{value_at}
use Rattle.tlv.specs.Grammar.{Object, Item, item, place_of, places_of, Series, nothing, filler, primitive, constructed, Text}
use Rattle.tlv.specs.Laws.{Exact}
use Rattle.tlv.proofs.Sounds.{meanings_sound}
use Rattle.tlv.proofs.Accepts.{reads}
use Rattle.tlv.proofs.Refuses.{refuses}
use Rattle.tlv.proofs.Found.{finds_objects, finds_fault}

-- bs stands in the text, at the place p
record At (text : List ℕ) (p : ℕ) (bs : List ℕ) : Type 0 where
  before : List ℕ
  behind : List ℕ
  whole : text ≡ before ++ (bs ++ behind)
  long : length before ≡ p

abbrev Stands : List ℕ → Item → Type 0
Stands text i = value_at text (place_of i) ≡ i.value

every_append : {X : Type 0} (P : X → Type 0) (xs ys : List X) → AllByRecursion P xs → AllByRecursion P ys → AllByRecursion P (xs ++ ys)
every_append P [] ys h k = k
every_append P (x ∷ xs) ys h k = (h.0, every_append P xs ys h.1 k)

module _ {text : List ℕ} {p : ℕ} {bs : List ℕ} {c : Bool} {t start : ℕ} {v rest : List ℕ} (o : Object p bs c t start v rest) (a : At text p bs) where
  front : List ℕ
  front = a.before ++ (o.tag_bytes ++ o.length_bytes)

  whole : text ≡ front ++ (v ++ (rest ++ a.behind))
  unfolding front
  whole =
      a.whole ∙ ap (λ l. a.before ++ (l ++ a.behind)) o.made
      ∙ simp append_assoc

  long : length front ≡ start
  unfolding front
  long = omega (arith, length-append a.before (o.tag_bytes ++ o.length_bytes), length-append o.tag_bytes o.length_bytes, a.long, o.starts)

  value_at_lem : At text start v
  value_at_lem = record { before = front; behind = rest ++ a.behind; whole = whole; long = long }

  rest_at : At text (start + length v) rest
  rest_at = record {
    before = front ++ v;
    behind = a.behind;
    whole = whole ∙ sym (append_assoc front v (rest ++ a.behind));
    long = length-append front v ∙ ap (λ n. n + length v) long;
  }

  value_stands : take (length v) (drop start text) ≡ v
  value_stands =
      ap (λ l. take (length v) (drop start l)) whole
      ∙ ap (take (length v)) (drop_at front (v ++ (rest ++ a.behind)) start long)
      ∙ take_at v (rest ++ a.behind) (length v) refl

values : {text : List ℕ} {d p : ℕ} {bs : List ℕ} {is : List Item} → Series d p bs is → At text p bs → AllByRecursion (Stands text) is
values (nothing d p) a = tt
values {text} (filler d p bs is s) a =
    values s (record {
      before = a.before ++ 0 ∷ [];
      behind = a.behind;
      whole = a.whole ∙ sym (append_assoc a.before (0 ∷ []) (bs ++ a.behind));
      long = omega (arith, length-append a.before (0 ∷ []), a.long);
    })
values (primitive d p t start bs v rest is deep o s) a = (value_stands o a, values s (rest_at o a))
values {text} (constructed d p t start bs v rest inside is deep o i s) a =
    every_append (Stands text) inside is (values i (value_at_lem o a)) (values s (rest_at o a))

-- objects with the same places, whose values stand there, are the same
same_items : (text : List ℕ) (is js : List Item) → AllByRecursion (Stands text) is → AllByRecursion (Stands text) js → places_of is ≡ places_of js → is ≡ js
same_items text [] [] h k e = refl
same_items text [] (j ∷ js) h k e = absurd (omega (arith, ap length e))
same_items text (i ∷ is) [] h k e = absurd (omega (arith, ap length e))
same_items text (i ∷ is) (j ∷ js) h k e =
    let first : place_of i ≡ place_of j = cc in
    let others : places_of is ≡ places_of js = cc in
    let value : i.value ≡ j.value = sym h.0 ∙ ap (value_at text) first ∙ k.0 in
    let same : item i.tag i.at i.start i.value ≡ item j.tag j.at j.start j.value =
    ap (λ (q : Place). item q.tag q.at q.start i.value) first ∙ ap (item j.tag j.at j.start) value in
    ap (λ l. i ∷ l) (same_items text is js h.1 k.1 others) ∙ ap (λ x. x ∷ js) same

module _ (text : List ℕ) where
  complete : (is : List Item) → Text text is → meaning text ≡ found (places_of is)
  complete is t = rw zero-add at (reads t.series [] (omega (arith, t.few)))

  stand : (is : List Item) → Text text is → AllByRecursion (Stands text) is
  stand is t = values t.series (record { before = []; behind = []; whole = sym (append-nil text); long = refl })

  pub exact : Exact text (meaning text)
  exact = record {
    sound = finds_objects text;
    complete = complete;
    one = λ is js t u.
        let same : found (places_of is) ≡ found (places_of js) = sym (complete is t) ∙ complete js u in
        same_items text is js (stand is t) (stand js u) cc;
    values = stand;
    refused = finds_fault text;
    refuses = λ k at f. rw zero-add at (refuses f [] refl);
    inside = meanings_sound text;
  }
