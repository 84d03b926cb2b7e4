-- A map of known tags within the shares can be held. Assumes nothing.
use Rattle.std.proofs.Common.{◌≡◌, ℕ, zero, suc, ◌+◌, ◌<◌, ◌≤◌, Bool, true, false, cond, not, ◌&&◌, eqb, ltb, List, [], ◌∷◌, length, Some, None, Option, sym, refl, ap, ◌∙◌, ⊎_elim, arith}
use Rattle.std.proofs.lemmas.Bool.{cases_eq, cases_lt, ne_eqb, cond-false, and_parts, ltb-true}
use Rattle.dictionary.specs.declared.entry.Entry.{Entry}
use Rattle.dictionary.specs.declared.entry.Writer.{Writer}
use Rattle.dictionary.specs.declared.entry.Writer.TheVariants.{Configuration, TerminalBeforeBegin, Terminal, Card, Reader}
use Rattle.dictionary.specs.Dictionary.{dictionary, entry_of, find, rises, constructed}
use Rattle.dictionary.proofs.Order.{sound, all_sound, dictionary_rises, long}
use Rattle.store.specs.Map.{Map, Kept, changed, empty, one, size, count, total, sum_below, sum_below_suc}
use Rattle.store.specs.Maps.{count_changed, total_changed, changed_here, changed_other, count_same, total_same, count_empty, total_empty}
use Rattle.judge.specs.declared.kind.TextKind.{TextKind}
use Rattle.judge.specs.declared.kind.TextKind.TheVariants.{TerminalWrite, CardAnswer}
use Rattle.judge.specs.declared.kind.TextKind.TheVariants as kind
use Rattle.keeping.specs.declared.shares.Shares.{Shares}
use Rattle.judge.specs.Writers.{by_writer}
use Rattle.judge.specs.Kinds.{writes}
use Rattle.keeping.specs.Clearing.{stays, cleared}
use Rattle.keeping.specs.Steps.{Holds}
use Rattle.keeping.specs.Shares.{parts_of, writer_total}
use Rattle.keeping.specs.Room.{verification_results, error_indication, needed_objects, needed_bytes, Roomy}

-- a sum over the entries' tags
abbrev sums : (Option (List ℕ) → ℕ) → List Entry → Map → ℕ
sums f [] m = 0
sums f (e ∷ es) m = f (m e.tag) + sums f es m

-- entries above t do not see a change at t
unseen : (f : Option (List ℕ) → ℕ) (t : ℕ) (es : List Entry) (m : Map) → rises t es ≡ true → (b : ℕ) → b ≤ t → sums f es (changed m b None) ≡ sums f es m
unseen f t [] m r b l = refl
unseen f t (e ∷ es) m r b l =
    let parts = and_parts (ltb t e.tag) (rises e.tag es) r in
    let up : t < e.tag = ltb-true t e.tag parts.0 in
    let here = ap f (changed_other m b e.tag None (λ q. omega arith)) in
    let rest = unseen f e.tag es m parts.1 b (omega arith) in
    omega arith

-- counts and totals of a map that holds tags of these entries only
module _ (f : Option (List ℕ) → ℕ) (F : Map → ℕ) (none : f None ≡ 0)
    (at-empty : (m : Map) → ((k : ℕ) → m k ≡ None) → F m ≡ 0)
    (at-change : (m : Map) (t : ℕ) → t < 16777216 → F (changed m t None) + f (m t) ≡ F m + f None) where
  pub over : (b : ℕ) (es : List Entry) → rises b es ≡ true → sound es ≡ true → (m : Map) → ((t : ℕ) → find t es ≡ None → m t ≡ None) → F m ≡ sums f es m
  over b [] r s m only = at-empty m (λ k. only k refl)
  over b (e ∷ es) r s m only =
      let parts = and_parts (ltb b e.tag) (rises e.tag es) r in
      let sounds = and_parts (not (constructed e.tag) && (ltb e.tag 16777216 && ltb e.most 256)) (sound es) s in
      let both = and_parts (not (constructed e.tag)) (ltb e.tag 16777216 && ltb e.most 256) sounds.0 in
      let low : e.tag < 16777216 = ltb-true e.tag 16777216 (and_parts (ltb e.tag 16777216) (ltb e.most 256) both.1).0 in
      let rest = over e.tag es parts.1 sounds.1 (changed m e.tag None)
      (λ t n. ⊎_elim
      (λ same. ap (changed m e.tag None) same ∙ changed_here m e.tag None)
      (λ ne. changed_other m e.tag t None ne
      ∙ only t (cond-false (eqb e.tag t) (Some e) (find t es) (ne_eqb e.tag t (λ q. ne (sym q))) ∙ n))
      (cases_eq t e.tag)) in
      let seen = unseen f e.tag es m parts.1 e.tag (omega arith) in
      let step = at-change m e.tag low in
      let z = none in
      omega arith

all_none : (m : Map) → ((k : ℕ) → m k ≡ None) → (count m ≡ 0) × (total m ≡ 0)
all_none m h = (count_same m empty (λ k. ap one (h k)) ∙ count_empty, total_same m empty (λ k. ap size (h k)) ∙ total_empty)

few : (es : List Entry) (m : Map) → sums one es m ≤ length es
few [] m = omega arith
few (e ∷ es) m = let a = at_most (m e.tag) in let b = few es m in omega arith
  where
    at_most : (o : Option (List ℕ)) → one o ≤ 1
    at_most None = omega arith
    at_most (Some v) = omega arith

-- each object is one writer's
shared : (n : ℕ) (w : Writer) → n ≡ cond (writes kind.Configuration w) n 0 + cond (writes (TerminalWrite false) w) n 0 + cond (writes CardAnswer w) n 0 + by_writer 0 0 0 0 n w
shared n Configuration = omega arith
shared n TerminalBeforeBegin = omega arith
shared n Terminal = omega arith
shared n Card = omega arith
shared n Reader = omega arith

-- the reader's own objects
abbrev reader_parts : List Entry → Map → ℕ
reader_parts [] m = 0
reader_parts (e ∷ es) m = by_writer 0 0 0 0 (size (m e.tag)) e.writer + reader_parts es m

two_objects : (m : Map) → reader_parts dictionary m ≡ size (m verification_results) + size (m error_indication)
unfolding dictionary
two_objects m = omega arith

by_writers : (es : List Entry) (m : Map) → sums size es m ≡ parts_of kind.Configuration es m + parts_of (TerminalWrite false) es m + parts_of CardAnswer es m + reader_parts es m
by_writers [] m = refl
by_writers (e ∷ es) m = let a = shared (size (m e.tag)) e.writer in let b = by_writers es m in omega arith

pub roomy_holds : (s : Shares) (o b : ℕ) (m : Map) → Roomy s o b m → Holds o b m
unfolding writer_total entry_of
roomy_holds s o b m r =
    let c = over one count refl (λ n h. (all_none n h).0) (λ n t l. count_changed n t None l) 0 dictionary dictionary_rises all_sound m r.known in
    let t = over size total refl (λ n h. (all_none n h).1) (λ n t l. total_changed n t None l) 0 dictionary dictionary_rises all_sound m r.known in
    let f = few dictionary m in
    let n = long in
    let w = by_writers dictionary m in
    let own = two_objects m in
    record { few = omega (arith, r.slots); small = omega (arith, r.within kind.Configuration, r.within (TerminalWrite false), r.within CardAnswer, r.verification, r.indication, r.space) }

-- a map that holds no more at each tag has no more room
module _ (m n : Map) (less : (t : ℕ) → size (n t) ≤ size (m t)) where
  parts_less : (k : TextKind) (es : List Entry) → parts_of k es n ≤ parts_of k es m
  parts_less k [] = omega arith
  parts_less k (e ∷ es) = let a = by (writes k e.writer) in let b = parts_less k es in omega arith
    where
      by : (b : Bool) → cond b (size (n e.tag)) 0 ≤ cond b (size (m e.tag)) 0
      by true = less e.tag
      by false = omega arith

  pub roomy_less : ((t : ℕ) → m t ≡ None → n t ≡ None) → (s : Shares) (o b o' b' : ℕ) → o' ≡ o → b' ≡ b → Roomy s o b m → Roomy s o' b' n
  unfolding writer_total
  roomy_less none s o b o' b' p q r =
      record {
        known = λ t u. none t (r.known t u);
        within = λ k. omega (arith, parts_less k dictionary, r.within k);
        verification = omega (arith, less verification_results, r.verification);
        indication = omega (arith, less error_indication, r.indication);
        slots = omega (arith, r.slots);
        space = omega (arith, r.space);
      }

clear_none : (x : Option Entry) (o : Option (List ℕ)) → o ≡ None → stays o x ≡ None
clear_none None o h = h
clear_none (Some e) o h = by e.writer
  where
    by : (w : Writer) → by_writer o None None None None w ≡ None
    by Configuration = h
    by TerminalBeforeBegin = refl
    by Terminal = refl
    by Card = refl
    by Reader = refl

clear_less : (x : Option Entry) (o : Option (List ℕ)) → size (stays o x) ≤ size o
clear_less None o = omega arith
clear_less (Some e) o = by e.writer
  where
    by : (w : Writer) → size (by_writer o None None None None w) ≤ size o
    by Configuration = omega arith
    by TerminalBeforeBegin = omega arith
    by Terminal = omega arith
    by Card = omega arith
    by Reader = omega arith

pub roomy_cleared : (m n : Map) → n ≡ cleared m → (s : Shares) (o b o' b' : ℕ) → o' ≡ o → b' ≡ b → Roomy s o b m → Roomy s o' b' n
roomy_cleared m n e =
    roomy_less m n (λ t. let q = ap (λ f. size (f t)) e in omega (arith, clear_less (entry_of t) (m t))) (λ t h. ap (λ f. f t) e ∙ clear_none (entry_of t) (m t) h)

-- an empty store
module _ (m : Map) (none : (t : ℕ) → m t ≡ None) where
  zero_part : (t : ℕ) (b : Bool) → cond b (size (m t)) 0 ≡ 0
  zero_part t true = ap size (none t)
  zero_part t false = refl

  zero_parts : (k : TextKind) (es : List Entry) → parts_of k es m ≡ 0
  zero_parts k [] = refl
  zero_parts k (e ∷ es) = let c = zero_part e.tag (writes k e.writer) in let d = zero_parts k es in omega arith

  pub roomy_empty : (s : Shares) (o b : ℕ) → needed_objects ≤ o → needed_bytes s ≤ b → Roomy s o b m
  unfolding writer_total
  roomy_empty s o b p q =
      record { known = λ t _. none t; within = λ k. omega (arith, zero_parts k dictionary); verification = omega (arith, ap size (none verification_results)); indication = omega (arith, ap size (none error_indication)); slots = p; space = q }

-- a store that counts no object holds none
part_le : (f : ℕ → ℕ) (n k : ℕ) → k < n → f k ≤ sum_below n f
part_le f zero k l = absurd (omega arith)
part_le f (suc n) k l =
    let s = sum_below_suc n f in
    ⊎_elim (λ e. let q = ap f e in omega arith) (λ ne. let r = part_le f n k (omega arith) in omega arith) (cases_eq k n)

no_one : (o : Option (List ℕ)) → one o ≤ 0 → o ≡ None
no_one None h = refl
no_one (Some v) h = absurd (omega arith)

pub none_held : (m : Map) (o b : ℕ) → Kept m o b → count m ≡ 0 → (t : ℕ) → m t ≡ None
unfolding count
none_held m o b k c t = ⊎_elim
    (λ l. no_one (m t) (let p = part_le (λ j. one (m j)) 16777216 t l in omega arith))
    (λ l. k.tags t l)
    (cases_lt t 16777216)
