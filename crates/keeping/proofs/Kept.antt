-- Storing an accepted text keeps the room. Assumes nothing.
use Rattle.std.proofs.Common.{◌≡◌, ℕ, suc, ◌+◌, ◌<◌, ◌≤◌, Bool, true, false, cond, eqb, List, [], ◌∷◌, ◌++◌, length, get_or, Some, None, Option, sym, refl, ap, ◌∙◌, subst, ⊎_elim, arith}
use Rattle.std.specs.List.{AllByRecursion}
use Rattle.std.proofs.lemmas.Bool.{cases_Bool, eqb-true, cond-false, cond-true, false≢true, both_ways}
use Rattle.dictionary.specs.declared.entry.Entry.{Entry}
use Rattle.dictionary.specs.declared.entry.Format.TheVariants.{Binary}
use Rattle.dictionary.specs.declared.entry.Writer.{Writer}
use Rattle.dictionary.specs.declared.entry.Writer.TheVariants.{Configuration, TerminalBeforeBegin, Terminal, Card, Reader}
use Rattle.dictionary.specs.Dictionary.{dictionary, entry_of}
use Rattle.dictionary.proofs.Order.{entry_at}
use Rattle.tlv.specs.declared.place.Place.{Place}
use Rattle.tlv.specs.Values.{value_at}
use Rattle.store.specs.Map.{Map, size}
use Rattle.judge.specs.declared.kind.TextKind.{TextKind}
use Rattle.judge.specs.declared.kind.TextKind.TheVariants.{TerminalWrite, CardAnswer}
use Rattle.judge.specs.declared.kind.TextKind.TheVariants as kind
use Rattle.keeping.specs.declared.shares.Shares.{Shares}
use Rattle.judge.specs.Kinds.{writes}
use Rattle.judge.specs.Accepted.{FitsBy, AllFit}
use Rattle.keeping.specs.Keeping.{stored, stored_text}
use Rattle.keeping.specs.Shares.{part_of, parts_of, writer_total, share_of}
use Rattle.keeping.specs.Room.{verification_results, error_indication, Roomy}
use Rattle.keeping.specs.Replacing.{Replaced}
use Rattle.keeping.specs.Steps.{Holds, Weighed}
use Rattle.keeping.proofs.Refills.{last_by, last_of, stored_at}
use Rattle.keeping.proofs.Rooms.{roomy_holds}
use Rattle.keeping.proofs.Replacings.{replaced}

-- a known object of an accepted text is of that kind's writers
abbrev Own : TextKind → Place → Type 0
Own k p = (e : Entry) → entry_of p.tag ≡ Some e → writes k e.writer ≡ true

own_by : (k : TextKind) (m : Map) (text : List ℕ) (passed : List Place) (p : Place) (e : Entry) → FitsBy k m text passed p (entry_of p.tag) → entry_of p.tag ≡ Some e → writes k e.writer ≡ true
own_by k m text passed p e f known = let F : Option Entry → Type 0 = λ x. FitsBy k m text passed p x in (subst F known f).writer

own_all : (k : TextKind) (m : Map) (text : List ℕ) (passed ps : List Place) → AllFit k m text passed ps → AllByRecursion (Own k) ps
own_all k m text passed [] a = tt
own_all k m text passed (p ∷ ps) a = ((λ e known. own_by k m text passed p e a.0 known), own_all k m text (passed ++ p ∷ []) ps a.1)

-- so a tag that is unknown, or another writer's, holds what it held
module _ (k : TextKind) (text : List ℕ) (t : ℕ) where
  untouched : (x : Option Entry) → entry_of t ≡ x → (ps : List Place) → AllByRecursion (Own k) ps → ((e : Entry) → x ≡ Some e → writes k e.writer ≡ false) → (o : Option (List ℕ)) → last_of text ps t o ≡ o
  untouched x known [] a other o = refl
  untouched x known (p ∷ ps) a other o = ap (last_of text ps t) (by (entry_of p.tag) refl) ∙ untouched x known ps a.1 other o
    where
      if_here : (b : Bool) (e : Entry) → eqb t p.tag ≡ b → entry_of p.tag ≡ Some e → cond b (Some (value_at text p)) o ≡ o
      if_here false e q f = refl
      if_here true e q f =
          absurd (both_ways (writes k e.writer) (other e (sym known ∙ ap entry_of (eqb-true t p.tag q) ∙ f)) (a.0 e f))

      by : (y : Option Entry) → entry_of p.tag ≡ y → last_by text p t o y ≡ o
      by None f = refl
      by (Some e) f = if_here (eqb t p.tag) e refl f

every_from : {X : Type 0} (P : X → Type 0) (xs : List X) → ((i : ℕ) (d : X) → i < length xs → P (get_or xs i d)) → AllByRecursion P xs
every_from P [] h = tt
every_from P (x ∷ xs) h = (h 0 x (omega arith), every_from P xs (λ i d l. h (suc i) d (omega arith)))

abbrev pub Listed : Entry → Type 0
Listed e = entry_of e.tag ≡ Some e

pub all_listed : AllByRecursion Listed dictionary
all_listed = every_from Listed dictionary (λ i d l. entry_at i d (get_or dictionary i d).tag l refl)

-- sums over untouched tags
module _ (m n : Map) where
  pub parts_same : (k : TextKind) (es : List Entry) → AllByRecursion Listed es → ((e : Entry) → Listed e → writes k e.writer ≡ true → n e.tag ≡ m e.tag) → parts_of k es n ≡ parts_of k es m
  parts_same k [] l h = refl
  parts_same k (e ∷ es) l h =
      let a : part_of k n e ≡ part_of k m e = ⊎_elim
      (λ w. cond-true (writes k e.writer) (size (n e.tag)) 0 w ∙ ap size (h e l.0 w) ∙ sym (cond-true (writes k e.writer) (size (m e.tag)) 0 w))
      (λ w. cond-false (writes k e.writer) (size (n e.tag)) 0 w ∙ sym (cond-false (writes k e.writer) (size (m e.tag)) 0 w))
      (cases_Bool (writes k e.writer)) in
      let b = parts_same k es l.1 h in
      omega arith

terminal_same : (b c : Bool) (es : List Entry) (m : Map) → parts_of (TerminalWrite b) es m ≡ parts_of (TerminalWrite c) es m
terminal_same b c [] m = refl
terminal_same b c (e ∷ es) m = ap (λ x. part_of (TerminalWrite b) m e + x) (terminal_same b c es m)

pub reader_none : (k : TextKind) → writes k Reader ≡ false
reader_none kind.Configuration = refl
reader_none (TerminalWrite b) = refl
reader_none CardAnswer = refl

module _ (k : TextKind) (m : Map) (text : List ℕ) (ps : List Place) (a : AllFit k m text [] ps) where
  stays : (t : ℕ) (x : Option Entry) → entry_of t ≡ x → ((e : Entry) → x ≡ Some e → writes k e.writer ≡ false) → stored text ps m t ≡ m t
  stays t x known other = stored_at text ps m t ∙ untouched k text t x known ps (own_all k m text [] ps a) other (m t)

  unknown_stays : (t : ℕ) → entry_of t ≡ None → stored text ps m t ≡ m t
  unknown_stays t known = stays t None known (λ e q. let z : ◌≡◌ {A = ℕ} 0 1 = cc in absurd (omega arith))

  pub stays_for : (t : ℕ) (e : Entry) → entry_of t ≡ Some e → writes k e.writer ≡ false → stored text ps m t ≡ m t
  stays_for t e known w = stays t (Some e) known (λ e' q. let same : e ≡ e' = cc in ap (λ y. writes k y.writer) (sym same) ∙ w)

  other_total : (j : TextKind) → ((w : Writer) → writes j w ≡ true → writes k w ≡ false) → writer_total j (stored text ps m) ≡ writer_total j m
  unfolding writer_total
  other_total j apart = parts_same m (stored text ps m) j dictionary all_listed (λ e l w. stays_for e.tag e l (apart e.writer w))

  reader_same : (t : ℕ) (e : Entry) → entry_of t ≡ Some e → e.writer ≡ Reader → stored text ps m t ≡ m t
  reader_same t e known w = stays_for t e known (ap (writes k) w ∙ reader_none k)

apart_go : (w : Writer) → writes CardAnswer w ≡ true → writes kind.Configuration w ≡ false
apart_go Configuration h = absurd (false≢true h)
apart_go TerminalBeforeBegin h = refl
apart_go Terminal h = refl
apart_go Card h = refl
apart_go Reader h = refl

apart_to : (b : Bool) (w : Writer) → writes (TerminalWrite b) w ≡ true → writes kind.Configuration w ≡ false
apart_to b Configuration h = absurd (false≢true h)
apart_to b TerminalBeforeBegin h = refl
apart_to b Terminal h = refl
apart_to b Card h = refl
apart_to b Reader h = refl

apart_tc : (b : Bool) (w : Writer) → writes (TerminalWrite b) w ≡ true → writes CardAnswer w ≡ false
apart_tc b Configuration h = refl
apart_tc b TerminalBeforeBegin h = refl
apart_tc b Terminal h = refl
apart_tc b Card h = absurd (false≢true h)
apart_tc b Reader h = refl

turned : (j k : TextKind) → ((w : Writer) → writes j w ≡ true → writes k w ≡ false) → (w : Writer) → writes k w ≡ true → writes j w ≡ false
turned j k h w y = ⊎_elim (λ q. absurd (both_ways (writes k w) (h w q) y)) (λ q. q) (cases_Bool (writes j w))

terminal_total : (b c : Bool) (m : Map) → writer_total (TerminalWrite b) m ≡ writer_total (TerminalWrite c) m
unfolding writer_total
terminal_total b c m = terminal_same b c dictionary m

module _ (s : Shares) (m : Map) (text : List ℕ) (ps : List Place) where
  within_all : (k : TextKind) → AllFit k m text [] ps → ((j : TextKind) → writer_total j m ≤ share_of s j) → writer_total k (stored text ps m) ≤ share_of s k
      → (j : TextKind) → writer_total j (stored text ps m) ≤ share_of s j
  within_all kind.Configuration a w l kind.Configuration = l
  within_all kind.Configuration a w l (TerminalWrite b) = let e = other_total kind.Configuration m text ps a (TerminalWrite b) (apart_to b) in omega (arith, w (TerminalWrite b))
  within_all kind.Configuration a w l CardAnswer = let e = other_total kind.Configuration m text ps a CardAnswer apart_go in omega (arith, w CardAnswer)
  within_all (TerminalWrite c) a w l kind.Configuration = let e = other_total (TerminalWrite c) m text ps a kind.Configuration (turned (TerminalWrite c) kind.Configuration (apart_to c)) in omega (arith, w kind.Configuration)
  within_all (TerminalWrite c) a w l (TerminalWrite b) = let e = terminal_total b c (stored text ps m) in omega arith
  within_all (TerminalWrite c) a w l CardAnswer = let e = other_total (TerminalWrite c) m text ps a CardAnswer (turned (TerminalWrite c) CardAnswer (apart_tc c)) in omega (arith, w CardAnswer)
  within_all CardAnswer a w l kind.Configuration = let e = other_total CardAnswer m text ps a kind.Configuration (turned CardAnswer kind.Configuration apart_go) in omega (arith, w kind.Configuration)
  within_all CardAnswer a w l (TerminalWrite b) = let e = other_total CardAnswer m text ps a (TerminalWrite b) (apart_tc b) in omega (arith, w (TerminalWrite b))
  within_all CardAnswer a w l CardAnswer = l

abbrev pub verification_entry : Entry
verification_entry = record { tag = verification_results; least = 5; most = 5; format = Binary; writer = Reader }

abbrev pub indication_entry : Entry
indication_entry = record { tag = error_indication; least = 6; most = 6; format = Binary; writer = Reader }

pub verification_entry_lem : entry_of verification_results ≡ Some verification_entry
unfolding entry_of dictionary
verification_entry_lem = refl

pub indication_entry_lem : entry_of error_indication ≡ Some indication_entry
unfolding entry_of dictionary
indication_entry_lem = refl

-- An accepted text that keeps its writer's share keeps the room.
pub roomy_stored : (s : Shares) (o b : ℕ) (k : TextKind) (m : Map) (text : List ℕ) (ps : List Place) → AllFit k m text [] ps → writer_total k (stored text ps m) ≤ share_of s k → Roomy s o b m → Roomy s o b (stored text ps m)
roomy_stored s o b k m text ps a l r =
    record {
      known = λ t u. unknown_stays k m text ps a t u ∙ r.known t u;
      within = within_all s m text ps k a r.within l;
      verification = omega (arith, ap size (reader_same k m text ps a verification_results _ verification_entry_lem refl), r.verification);
      indication = omega (arith, ap size (reader_same k m text ps a error_indication _ indication_entry_lem refl), r.indication);
      slots = r.slots;
      space = r.space;
    }

-- the room stays where neither the map nor the limits change
pub roomy_moved : (s : Shares) (o b o' b' : ℕ) (m n : Map) → n ≡ m → o' ≡ o → b' ≡ b → Roomy s o b m → Roomy s o' b' n
roomy_moved s o b o' b' m n is p q r =
    let R : Map → Type 0 = λ x. Roomy s o b x in
    let got = subst R (sym is) r in
    record {
      known = got.known;
      within = got.within;
      verification = got.verification;
      indication = got.indication;
      slots = omega (arith, got.slots);
      space = omega (arith, got.space);
    }

-- what storing a weighed text gives
pub record Stored (s : Shares) (o b : ℕ) (text : List ℕ) (m n : Map) : Type 0 where
  pub map : n ≡ stored_text text m
  pub roomy : Roomy s o b n
  pub replaced : Replaced text m n

pub kept : (s : Shares) (o b o' b' : ℕ) (k : TextKind) (m M : Map) (text : List ℕ) (ps : List Place) → Weighed s k m text ps
    → (Holds o b (stored text ps m) → M ≡ stored text ps m) → o' ≡ o → b' ≡ b → Roomy s o b m → Stored s o' b' text m M
kept s o b o' b' k m M text ps w after p q r =
    let roomy = roomy_stored s o b k m text ps w.fits w.share r in
    let is : M ≡ stored text ps m = after (roomy_holds s o b (stored text ps m) roomy) in
    let whole : M ≡ stored_text text m = is ∙ ap (λ x. stored text x m) w.places in
    let F : List Place → Type 0 = λ x. AllFit k m text [] x in
    let R : Map → Type 0 = λ x. Replaced text m x in
    record {
      map = whole;
      roomy = roomy_moved s o b o' b' (stored text ps m) M is p q roomy;
      replaced = subst R (sym whole) (replaced k m text (subst F w.places w.fits));
    }
