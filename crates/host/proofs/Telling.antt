-- What is told of our own tags is what the account holds.
use Rattle.std.proofs.Common.{◌≡◌, ℕ, Bool, true, false, cond, ltb, List, [], ◌∷◌, ◌++◌, length, Some, None, Ok, Err, Option, Result, sym, refl, ap, ◌∙◌}
use Rattle.std.proofs.lemmas.List.{append-nil}
use Rattle.std.proofs.lemmas.Bool.{cond-true, cond-false}
use Rattle.std.specs.Option.{option_map}
use Rattle.store.specs.Map.{Map}
use Rattle.tlv.specs.Written.{is_tag}
use Rattle.dictionary.specs.Dictionary.{dictionary, entry_of}
use Rattle.keeping.specs.Own.{own_tag, SameOwn}
use Rattle.readout.specs.declared.refusal.ReadoutRefusal.TheVariants.{Short}
use Rattle.readout.specs.Shown.{Object, object_of}
use Rattle.readout.specs.Output.{record_tags, held_objects, record_objects}
use Rattle.readout.specs.Wanted.{wanted_tags, value_of, wanted_by, tags_in, wanted_at, each_of, wanted_objects, on_tags}
use Rattle.run.specs.declared.refusal.Refusal.{Refusal}
use Rattle.run.specs.declared.refusal.Refusal.TheVariants.{NotOpen}
use Rattle.run.specs.State.{Meaning}
use Rattle.host.specs.Refused.{handed}
use Rattle.host.specs.Replies.{wanted_in, wanted_reply, left_by, ReadsBack}
use Rattle.host.specs.Own.{account_holds, own_of, OwnBack, AllOwn, WantedAs, LawOfWanted, LawOfRecord}

-- the own objects of one series and another
own_append : (xs ys : List Object) → own_of (xs ++ ys) ≡ own_of xs ++ own_of ys
own_append [] ys = refl
own_append (x ∷ xs) ys = by (own_tag x.tag) (own_append xs ys)
  where
    by : (b : Bool) → own_of (xs ++ ys) ≡ own_of xs ++ own_of ys
        → cond b (x ∷ own_of (xs ++ ys)) (own_of (xs ++ ys)) ≡ cond b (x ∷ own_of xs) (own_of xs) ++ own_of ys
    by true e = ap (λ zs. x ∷ zs) e
    by false e = e

-- an object held under a tag that is not our own
others : (t : ℕ) (o : Option (List ℕ)) → own_tag t ≡ false → own_of (held_objects t (λ _. o)) ≡ []
others t (Some v) h = by (is_tag t)
  where
    by : (b : Bool) → own_of (cond b (object_of t v ∷ []) [] ++ []) ≡ []
    by true = cond-false (own_tag t) (object_of t v ∷ []) [] h
    by false = refl
others t None h = by (is_tag t)
  where
    by : (b : Bool) → own_of (cond b [] [] ++ []) ≡ []
    by true = refl
    by false = refl

own_held : (t : ℕ) (o p : Option (List ℕ)) → (own_tag t ≡ true → o ≡ p) → own_of (held_objects t (λ _. o)) ≡ own_of (held_objects t (λ _. p))
own_held t o p f = by (own_tag t) refl
  where
    by : (b : Bool) → own_tag t ≡ b → own_of (held_objects t (λ _. o)) ≡ own_of (held_objects t (λ _. p))
    by true h = ap (λ x. own_of (held_objects t (λ _. x))) (f h)
    by false h = others t o h ∙ sym (others t p h)

-- the objects held under some tags, one after the other
abbrev each_held : List ℕ → Map → List Object
each_held [] m = []
each_held (t ∷ ts) m = held_objects t m ++ each_held ts m

record_each : (m : Map) → each_held record_tags m ≡ record_objects m
unfolding record_tags
record_each m = simp append-nil

-- two maps that hold the same own objects: those held under some tags
own_each_held : (ts : List ℕ) (m n : Map) → SameOwn m n → own_of (each_held ts m) ≡ own_of (each_held ts n)
own_each_held [] m n s = refl
own_each_held (t ∷ ts) m n s =
    own_append (held_objects t m) (each_held ts m)
    ∙ ap (λ xs. xs ++ own_of (each_held ts m)) (own_held t (m t) (n t) (s t))
    ∙ ap (λ xs. own_of (held_objects t n) ++ xs) (own_each_held ts m n s)
    ∙ sym (own_append (held_objects t n) (each_held ts n))

own_record : (m n : Map) → SameOwn m n → own_of (record_objects m) ≡ own_of (record_objects n)
own_record m n s = ap own_of (sym (record_each m)) ∙ own_each_held record_tags m n s ∙ ap own_of (record_each n)

-- those wanted by some tags
own_each : (ts : List ℕ) (m n : Map) → SameOwn m n → own_of (each_of ts m) ≡ own_of (each_of ts n)
own_each [] m n s = refl
own_each (t ∷ ts) m n s = by (own_tag t) (s t) (own_each ts m n s)
  where
    by : (b : Bool) → (b ≡ true → m t ≡ n t) → own_of (each_of ts m) ≡ own_of (each_of ts n)
        → cond b (object_of t (value_of (m t)) ∷ own_of (each_of ts m)) (own_of (each_of ts m)) ≡ cond b (object_of t (value_of (n t)) ∷ own_of (each_of ts n)) (own_of (each_of ts n))
    by true f e = ap (λ o. object_of t (value_of o) ∷ own_of (each_of ts m)) (f refl) ∙ ap (λ xs. object_of t (value_of (n t)) ∷ xs) e
    by false f e = e

-- and all objects wanted by own tags
all_own : (ts : List ℕ) (m n : Map) → SameOwn m n → AllOwn ts → each_of ts m ≡ each_of ts n
all_own [] m n s h = refl
all_own (t ∷ ts) m n s h =
    ap (λ o. object_of t (value_of o) ∷ each_of ts m) (s t h.0)
    ∙ ap (λ xs. object_of t (value_of (n t)) ∷ xs) (all_own ts m n s h.1)

-- what was read back, of our own tags
own_back : (r : Result ℕ Refusal) (out : List ℕ) (xs ys : List Object) → ReadsBack r out xs → own_of xs ≡ own_of ys → OwnBack r out ys
own_back (Ok n) out xs ys h e = ap (option_map own_of) h ∙ ap Some e
own_back (Err x) out xs ys h e = tt

-- the list of wanted tags is our own
list_own : own_tag 0xDF_8112 ≡ true
unfolding entry_of dictionary
list_own = refl

module _ (m n : Map) (s : SameOwn m n) where
  same_tags : wanted_by m ≡ wanted_by n
  same_tags = ap (λ o. wanted_tags (value_of o)) (s 0xDF_8112 list_own)

  own_wanted : own_of (wanted_objects m) ≡ own_of (wanted_objects n)
  own_wanted = own_each (wanted_at m) m n s ∙ ap (λ r. own_of (each_of (tags_in r) n)) same_tags

  all_wanted : AllOwn (wanted_at n) → wanted_objects m ≡ wanted_objects n
  all_wanted h = ap (λ r. each_of (tags_in r) m) same_tags ∙ all_own (wanted_at n) m n s h

  same_reply : (list k : ℕ) → AllOwn (wanted_at n) → wanted_in m list k ≡ wanted_in n list k
  same_reply list k h =
      ap (λ r. handed (cond (ltb list 64) (Err Short) (on_tags r (wanted_objects m) k))) same_tags
      ∙ ap (λ xs. handed (cond (ltb list 64) (Err Short) (on_tags (wanted_by n) xs k))) (all_wanted h)

pub law_of_record_lem : LawOfRecord
law_of_record_lem m r out' h = record {
  told = λ config past s.
      own_back r out' (record_objects m.held) (record_objects (account_holds config past)) h
      (own_record m.held (account_holds config past) s.accounted.agrees.objects);
}

wanted_of : (m : Meaning) (list : ℕ) (r : Result ℕ Refusal) (out out' : List ℕ)
    → r ≡ wanted_reply m list (length out) → out' ≡ left_by r (wanted_objects m.held) out
    → ReadsBack r out' (wanted_objects m.held)
    → (own : Map) → m.opened ≡ true → SameOwn m.held own → WantedAs m.held own list r out out'
wanted_of m list r out out' e f b own o s = record {
  tags = same_tags m.held own s;
  back = own_back r out' (wanted_objects m.held) (wanted_objects own) b (own_wanted m.held own s);
  reply = λ h. e ∙ cond-true m.opened (wanted_in m.held list (length out)) (Err NotOpen) o ∙ same_reply m.held own s list (length out) h;
  bytes = λ h. f ∙ ap (λ xs. left_by r xs out) (all_wanted m.held own s h);
}

pub law_of_wanted_lem : LawOfWanted
law_of_wanted_lem m list r out out' e f b = record {
  told = λ config past s. wanted_of m list r out out' e f b (account_holds config past) s.is_open s.accounted.agrees.objects;
}
