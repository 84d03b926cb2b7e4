-- What taking and clearing have to do with the objects that are our own: the configuration's and the terminal's. Assumes
-- nothing.
use Rattle.std.proofs.Common.{◌≡◌, ℕ, Bool, true, false, cond, ltb, List, [], Some, None, Ok, Err, Option, Result, sym, refl, ap, ◌∙◌, subst}
use Rattle.std.proofs.lemmas.Bool.{both_ways, false≢true}
use Rattle.dictionary.specs.declared.entry.Entry.{Entry}
use Rattle.dictionary.specs.declared.entry.Writer.{Writer}
use Rattle.dictionary.specs.declared.entry.Writer.TheVariants.{Configuration, TerminalBeforeBegin, Terminal, Card, Reader}
use Rattle.dictionary.specs.Dictionary.{dictionary, entry_of}
use Rattle.tlv.specs.declared.place.Place.{Place}
use Rattle.tlv.specs.Series.{Reading, wrong, found, most_objects, meaning}
use Rattle.store.specs.Map.{Map, changed}
use Rattle.store.specs.Maps.{changed_other}
use Rattle.judge.specs.declared.fault.ObjectFault.{ObjectFault}
use Rattle.judge.specs.declared.kind.TextKind.{TextKind}
use Rattle.judge.specs.declared.kind.TextKind.TheVariants.{TerminalWrite, CardAnswer}
use Rattle.judge.specs.declared.kind.TextKind.TheVariants as kind
use Rattle.judge.specs.Kinds.{writes, own}
use Rattle.judge.specs.Rules.{listed_and}
use Rattle.judge.specs.Writers.{by_writer}
use Rattle.judge.specs.Accepted.{AllFit}
use Rattle.judge.specs.Judge.{judged}
use Rattle.judge.proofs.Fitting.{accepted_fits}
use Rattle.judge.proofs.Holding.{own_judged}
use Rattle.keeping.specs.declared.shares.Shares.{Shares}
use Rattle.keeping.specs.declared.refusal.TakeRefusal.{TakeRefusal}
use Rattle.keeping.specs.declared.refusal.TakeRefusal.TheVariants.{ListShort, Share}
use Rattle.keeping.specs.Keeping.{stored, places_read, stored_text}
use Rattle.keeping.specs.Shares.{writer_total, share_of}
use Rattle.keeping.specs.Room.{reader_tag}
use Rattle.keeping.specs.Clearing.{stays, cleared}
use Rattle.keeping.specs.Taking.{on_judged, share_answer, take_answer, take_after}
use Rattle.keeping.specs.Steps.{Weighed}
use Rattle.keeping.specs.Own.{own_writer, SameOwn}
use Rattle.keeping.proofs.Refills.{last_of, stored_at}
use Rattle.keeping.proofs.Kept.{all_listed, parts_same, stays_for}
use Rattle.keeping.proofs.Owns.{own_reader}

-- holding the same objects of our own is an equality
pub same_refl : (m : Map) → SameOwn m m
same_refl m t o = refl

pub same_sym : (m n : Map) → SameOwn m n → SameOwn n m
same_sym m n h t o = sym (h t o)

pub same_trans : (m n l : Map) → SameOwn m n → SameOwn n l → SameOwn m l
same_trans m n l h k t o = h t o ∙ k t o

-- what our own texts may have is our own
own_writes : (k : TextKind) → own k ≡ true → (w : Writer) → writes k w ≡ true → own_writer w ≡ true
own_writes kind.Configuration h Configuration e = refl
own_writes kind.Configuration h TerminalBeforeBegin e = refl
own_writes kind.Configuration h Terminal e = refl
own_writes kind.Configuration h Card e = e
own_writes kind.Configuration h Reader e = e
own_writes (TerminalWrite b) h Configuration e = refl
own_writes (TerminalWrite b) h TerminalBeforeBegin e = refl
own_writes (TerminalWrite b) h Terminal e = refl
own_writes (TerminalWrite b) h Card e = e
own_writes (TerminalWrite b) h Reader e = e
own_writes CardAnswer h w e = absurd (false≢true h)

-- and what a card's may have is not
card_apart : (w : Writer) → own_writer w ≡ true → writes CardAnswer w ≡ false
card_apart Configuration h = refl
card_apart TerminalBeforeBegin h = refl
card_apart Terminal h = refl
card_apart Card h = absurd (false≢true h)
card_apart Reader h = refl

-- The bytes of our own writers depend on our own objects only.
pub same_total : (k : TextKind) → own k ≡ true → (m n : Map) → SameOwn m n → writer_total k m ≡ writer_total k n
unfolding writer_total
same_total k h m n same =
    parts_same n m k dictionary all_listed
    (λ e listed w. same e.tag (ap (λ x. listed_and x (λ y. own_writer y.writer)) listed ∙ own_writes k h e.writer w))

-- What a tag holds after a text depends on what it held and on the text only.
pub same_at : (text : List ℕ) (ps : List Place) (m n : Map) (t : ℕ) → m t ≡ n t → stored text ps m t ≡ stored text ps n t
same_at text ps m n t h = stored_at text ps m t ∙ ap (last_of text ps t) h ∙ sym (stored_at text ps n t)

pub same_stored : (text : List ℕ) (m n : Map) → SameOwn m n → SameOwn (stored_text text m) (stored_text text n)
same_stored text m n h t o = same_at text (places_read (meaning text)) m n t (h t o)

-- An own text is answered by our own objects only.
pub same_answer : (s : Shares) (k : TextKind) → own k ≡ true → (room : ℕ) (m n : Map) (text : List ℕ) → SameOwn m n → take_answer s k room m text ≡ take_answer s k room n text
same_answer s k h room m n text same =
    ap (λ j. cond (ltb room most_objects) (Err ListShort) (on_judged j (share_answer s k m text))) (own_judged k h m n text)
    ∙ ap (λ x. cond (ltb room most_objects) (Err ListShort) (on_judged (judged k n text) (cond (ltb (share_of s k) x) (Err Share) (Ok tt))))
    (same_total k h (stored_text text m) (stored_text text n) (same_stored text m n same))

-- and leaves the same objects of our own
pub same_after : (r : Result (Unit {0}) TakeRefusal) (text : List ℕ) (m n : Map) → SameOwn m n → SameOwn (take_after r text m) (take_after r text n)
same_after (Ok x) text m n h = same_stored text m n h
same_after (Err e) text m n h = h

-- An accepted text changes no tag of another writer.
pub others_stay : (k : TextKind) (m : Map) (text : List ℕ) → judged k m text ≡ Ok tt → (t : ℕ) (e : Entry) → entry_of t ≡ Some e → writes k e.writer ≡ false → stored_text text m t ≡ m t
others_stay k m text j t e known other = by (meaning text) refl
  where
    by : (x : Reading) → meaning text ≡ x → stored text (places_read x) m t ≡ m t
    by (wrong w at) is = refl
    by (found ps) is = stays_for k m text ps (accepted_fits k m text ps is j) t e known other

-- the entry of a tag of our own
own_entry : (t : ℕ) (x : Option Entry) → listed_and x (λ e. own_writer e.writer) ≡ true → (e : Entry) × (x ≡ Some e) × (own_writer e.writer ≡ true)
own_entry t None h = absurd (false≢true h)
own_entry t (Some e) h = (e, refl, h)

-- A card's text that is accepted changes no object of our own.
pub card_fits : (k : TextKind) → k ≡ CardAnswer → (m : Map) (text : List ℕ) (ps : List Place) → AllFit k m text [] ps → SameOwn m (stored text ps m)
card_fits k is m text ps a t o =
    let q = own_entry t (entry_of t) o in
    sym (stays_for k m text ps a t q.0 q.1 (ap (λ x. writes x q.0.writer) is ∙ card_apart q.0.writer q.2))

pub card_stored : (m : Map) (text : List ℕ) → judged CardAnswer m text ≡ Ok tt → SameOwn m (stored_text text m)
card_stored m text j = by (meaning text) refl
  where
    by : (x : Reading) → meaning text ≡ x → SameOwn m (stored text (places_read x) m)
    by (wrong w at) is = same_refl m
    by (found ps) is = card_fits CardAnswer refl m text ps (accepted_fits CardAnswer m text ps is j)

-- Taking a card's text, or refusing it, changes none.
pub card_taken : (s : Shares) (room : ℕ) (m : Map) (text : List ℕ) → SameOwn m (take_after (take_answer s CardAnswer room m text) text m)
card_taken s room m text = by (ltb room most_objects) (judged CardAnswer m text) refl
  where
    share : (b : Bool) → judged CardAnswer m text ≡ Ok tt → SameOwn m (take_after (cond b (Err Share) (Ok tt)) text m)
    share true j = same_refl m
    share false j = card_stored m text j

    by : (b : Bool) (j : Result (Unit {0}) ObjectFault) → judged CardAnswer m text ≡ j → SameOwn m (take_after (cond b (Err ListShort) (on_judged j (share_answer s CardAnswer m text))) text m)
    by true j is = same_refl m
    by false (Err f) is = same_refl m
    by false (Ok x) is = share (ltb (share_of s CardAnswer) (writer_total CardAnswer (stored_text text m))) is

-- Clearing leaves the configuration's objects,
pub cleared_configuration : (m : Map) (t : ℕ) (e : Entry) → entry_of t ≡ Some e → e.writer ≡ Configuration → cleared m t ≡ m t
cleared_configuration m t e known w = ap (stays (m t)) known ∙ ap (by_writer (m t) None None None None) w

-- no other,
pub cleared_others : (m : Map) (t : ℕ) (e : Entry) → entry_of t ≡ Some e → (e.writer ≡ Configuration → ⊥) → cleared m t ≡ None
cleared_others m t e known w = ap (stays (m t)) known ∙ by e.writer w
  where
    by : (x : Writer) → (x ≡ Configuration → ⊥) → by_writer (m t) None None None None x ≡ None
    by Configuration h = absurd (h refl)
    by TerminalBeforeBegin h = refl
    by Terminal h = refl
    by Card h = refl
    by Reader h = refl

-- and the same of our own, where the same were held.
pub same_cleared : (m n : Map) → SameOwn m n → SameOwn (cleared m) (cleared n)
same_cleared m n h t o = ap (λ x. stays x (entry_of t)) (h t o)

-- Putting an object of the reader's changes none of our own.
pub reader_put : (m : Map) (t : ℕ) (v : List ℕ) → reader_tag t ≡ true → SameOwn m (changed m t (Some v))
reader_put m t v r u o =
    let q = own_entry u (entry_of u) o in
    let k = own_reader t r in
    sym (changed_other m t u (Some v) (λ same.
    let one : q.0 ≡ k.0 = let c = sym q.1 ∙ ap entry_of same ∙ k.1 in cc in
    both_ways (own_writer q.0.writer) (ap (λ y. own_writer y.writer) one ∙ ap own_writer k.2) q.2))

-- The objects of our own that a weighed text of a card leaves.
pub card_kept : (s : Shares) (k : TextKind) (m n : Map) (text : List ℕ) (ps : List Place) → Weighed s k m text ps → n ≡ stored_text text m → k ≡ CardAnswer → SameOwn m n
card_kept s k m n text ps w after is =
    let F : List Place → Type 0 = λ x. AllFit k m text [] x in
    let S : Map → Type 0 = λ x. SameOwn m x in
    subst S (sym after) (card_fits k is m text (places_read (meaning text)) (subst F w.places w.fits))
