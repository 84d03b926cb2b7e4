-- What storing a text, or a change at one tag, does to the objects of others. Assumes nothing.
use Rattle.std.proofs.Common.{◌≡◌, ℕ, suc, ◌+◌, ◌<◌, Bool, true, false, cond, not, ◌&&◌, eqb, List, [], ◌∷◌, ◌++◌, length, get_or, Some, None, Ok, Option, sym, refl, ap, ◌∙◌, ap₂, ⊎_elim, arith}
use Rattle.std.specs.List.{AllByRecursion}
use Rattle.std.proofs.lemmas.Bool.{cases_eq, ne_eqb, cond-false, both_ways}
use Rattle.std.proofs.lemmas.Bool.Decides.{nat_tests}
use Rattle.dictionary.specs.declared.entry.Entry.{Entry}
use Rattle.dictionary.specs.declared.entry.Writer.{Writer}
use Rattle.dictionary.specs.declared.entry.Writer.TheVariants.{Configuration, TerminalBeforeBegin, Terminal, Card, Reader}
use Rattle.dictionary.specs.Dictionary.{dictionary, entry_of}
use Rattle.dictionary.proofs.Order.{entry_at}
use Rattle.tlv.specs.declared.place.Place.{Place}
use Rattle.tlv.specs.Series.{Reading, wrong, found, meaning}
use Rattle.tlv.specs.Values.{value_at}
use Rattle.store.specs.Map.{Map, changed, size}
use Rattle.judge.specs.declared.kind.TextKind.{TextKind}
use Rattle.judge.specs.declared.kind.TextKind.TheVariants.{TerminalWrite, CardAnswer}
use Rattle.judge.specs.Kinds.{writes}
use Rattle.judge.specs.Rules.{listed_and, has_value}
use Rattle.judge.specs.Judge.{judged}
use Rattle.judge.specs.Accepted.{FitsBy, AllFit}
use Rattle.judge.proofs.Fitting.{accepted_fits}
use Rattle.keeping.specs.Keeping.{stored_by, stored_one, stored, places_read, stored_text}
use Rattle.keeping.specs.Shares.{parts_of, writer_total}
use Rattle.keeping.specs.Own.{own_writer, own_tag, SameOwn}
use Rattle.run.specs.Run.{first_missing}

-- the tag is one of these writers'
abbrev pub of : (Writer → Bool) → ℕ → Bool
of w t = listed_and (entry_of t) (λ e. w e.writer)

of_entry : (w : Writer → Bool) (t : ℕ) (e : Entry) → entry_of t ≡ Some e → of w t ≡ w e.writer
of_entry w t e is = ap (λ o. listed_and o (λ x. w x.writer)) is

pub unlisted_of : (w : Writer → Bool) (t : ℕ) → entry_of t ≡ None → of w t ≡ false
unlisted_of w t is = ap (λ o. listed_and o (λ x. w x.writer)) is

-- a change at another's tag leaves these writers' objects alone, and a change at theirs leaves the others'
pub changed_apart : (w : Writer → Bool) (m : Map) (k t : ℕ) (v : Option (List ℕ)) → of w k ≡ false → of w t ≡ true → changed m k v t ≡ m t
changed_apart w m k t v theirs own = ⊎_elim
    (λ e. absurd (both_ways (of w k) theirs (sym (ap (of w) e) ∙ own)))
    (λ ne. cond-false (eqb t k) v (m t) (ne_eqb t k ne))
    (cases_eq t k)

pub changed_other : (w : Writer → Bool) (m : Map) (k t : ℕ) (v : Option (List ℕ)) → of w k ≡ true → of w t ≡ false → changed m k v t ≡ m t
changed_other w m k t v here other = ⊎_elim
    (λ e. absurd (both_ways (of w t) other (ap (of w) e ∙ here)))
    (λ ne. cond-false (eqb t k) v (m t) (ne_eqb t k ne))
    (cases_eq t k)

-- what a text leaves under a tag depends on what was there under that tag alone
pub stored_agree : (text : List ℕ) (ps : List Place) (m m' : Map) (t : ℕ) → m t ≡ m' t → stored text ps m t ≡ stored text ps m' t
stored_agree text [] m m' t e = e
stored_agree text (p ∷ ps) m m' t e = stored_agree text ps (stored_one text m p) (stored_one text m' p) t (by (entry_of p.tag))
  where
    by : (x : Option Entry) → stored_by text m p x t ≡ stored_by text m' p x t
    by None = e
    by (Some y) = ap (cond (eqb t p.tag) (Some (value_at text p))) e

-- an accepted text leaves others' objects alone
one_apart : (k : TextKind) (held : Map) (text : List ℕ) (passed : List Place) (p : Place) (m : Map) (t : ℕ) → FitsBy k held text passed p (entry_of p.tag) → of (writes k) t ≡ false → stored_one text m p t ≡ m t
one_apart k held text passed p m t f other = by (entry_of p.tag) refl f
  where
    by : (x : Option Entry) → entry_of p.tag ≡ x → FitsBy k held text passed p x → stored_by text m p x t ≡ m t
    by None is g = refl
    by (Some e) is g = changed_other (writes k) m p.tag t (Some (value_at text p)) (of_entry (writes k) p.tag e is ∙ g.writer) other

stored_apart : (k : TextKind) (held : Map) (text : List ℕ) (passed ps : List Place) (m : Map) (t : ℕ) → AllFit k held text passed ps → of (writes k) t ≡ false → stored text ps m t ≡ m t
stored_apart k held text passed [] m t f other = refl
stored_apart k held text passed (p ∷ ps) m t f other =
    stored_apart k held text (passed ++ p ∷ []) ps (stored_one text m p) t f.1 other ∙ one_apart k held text passed p m t f.0 other

pub accepted_places : (k : TextKind) (m : Map) (text : List ℕ) → judged k m text ≡ Ok tt → AllFit k m text [] (places_read (meaning text))
accepted_places k m text a = by (meaning text) refl
  where
    by : (r : Reading) → meaning text ≡ r → AllFit k m text [] (places_read r)
    by (wrong kind at) is = tt
    by (found ps) is = accepted_fits k m text ps is a

pub text_apart : (k : TextKind) (held : Map) (text : List ℕ) (m : Map) (t : ℕ) → judged k held text ≡ Ok tt → of (writes k) t ≡ false → stored_text text m t ≡ m t
text_apart k held text m t a other = stored_apart k held text [] (places_read (meaning text)) m t (accepted_places k held text a) other

-- no card's text has a tag of ours
card_own : (x : Option Entry) → listed_and x (λ e. own_writer e.writer) ≡ true → listed_and x (λ e. writes CardAnswer e.writer) ≡ false
card_own None h = refl
card_own (Some e) h = by e.writer h
  where
    by : (w : Writer) → own_writer w ≡ true → writes CardAnswer w ≡ false
    by Configuration q = refl
    by TerminalBeforeBegin q = refl
    by Terminal q = refl
    by Card q = sym q
    by Reader q = refl

pub card_text_apart : (held : Map) (text : List ℕ) → judged CardAnswer held text ≡ Ok tt → SameOwn (stored_text text held) held
card_text_apart held text a = λ t o. text_apart CardAnswer held text held t a (card_own (entry_of t) o)

-- a terminal's tag is one of ours
pub terminal_own : (begun : Bool) (t : ℕ) → of (writes (TerminalWrite begun)) t ≡ true → own_tag t ≡ true
terminal_own begun t h = by (entry_of t) h
  where
    writer : (w : Writer) → writes (TerminalWrite begun) w ≡ true → own_writer w ≡ true
    writer Configuration q = refl
    writer TerminalBeforeBegin q = refl
    writer Terminal q = refl
    writer Card q = q
    writer Reader q = q

    by : (x : Option Entry) → listed_and x (λ e. writes (TerminalWrite begun) e.writer) ≡ true → listed_and x (λ e. own_writer e.writer) ≡ true
    by None q = q
    by (Some e) q = writer e.writer q

-- the value bytes of a writer are those under its tags
abbrev Listed : Entry → Type 0
Listed e = entry_of e.tag ≡ Some e

every_from : (es : List Entry) → ((i : ℕ) (d : Entry) → i < length es → Listed (get_or es i d)) → AllByRecursion Listed es
every_from [] h = tt
every_from (e ∷ es) h = (h 0 e (omega arith), every_from es (λ i d l. h (suc i) d (omega arith)))

all_listed : AllByRecursion Listed dictionary
all_listed = every_from dictionary (λ i d l. entry_at i d (get_or dictionary i d).tag l refl)

parts_agree : (k : TextKind) (es : List Entry) (m m' : Map) → AllByRecursion Listed es → ((t : ℕ) → of (writes k) t ≡ true → m t ≡ m' t) → parts_of k es m ≡ parts_of k es m'
parts_agree k [] m m' l agree = refl
parts_agree k (e ∷ es) m m' l agree = ap₂ ◌+◌ (by (writes k e.writer) refl) (parts_agree k es m m' l.1 agree)
  where
    by : (b : Bool) → writes k e.writer ≡ b → cond b (size (m e.tag)) 0 ≡ cond b (size (m' e.tag)) 0
    by true is = ap size (agree e.tag (of_entry (writes k) e.tag e l.0 ∙ is))
    by false is = refl

pub total_agree : (k : TextKind) (m m' : Map) → ((t : ℕ) → of (writes k) t ≡ true → m t ≡ m' t) → writer_total k m ≡ writer_total k m'
unfolding writer_total
total_agree k m m' agree = parts_agree k dictionary m m' all_listed agree

pub total_changed : (k : TextKind) (m : Map) (t : ℕ) (v : Option (List ℕ)) → of (writes k) t ≡ false → writer_total k (changed m t v) ≡ writer_total k m
total_changed k m t v theirs = total_agree k (changed m t v) m (λ q h. changed_apart (writes k) m t q v theirs h)

-- what is missing of ours is the same where ours is the same
abbrev pub all_own : List ℕ → Bool
all_own [] = true
all_own (t ∷ ts) = own_tag t && all_own ts

pub missing_agree : (ts : List ℕ) (m m' : Map) → all_own ts ≡ true → SameOwn m m' → first_missing ts m ≡ first_missing ts m'
missing_agree [] m m' own same = refl
missing_agree (t ∷ ts) m m' own same =
    let here : own_tag t ≡ true = grind (arith, nat_tests, own) in
    let rest : all_own ts ≡ true = grind (arith, nat_tests, own) in
    ap₂ (λ o r. cond (not (has_value o)) (Some t) r) (same t here) (missing_agree ts m m' rest same)
