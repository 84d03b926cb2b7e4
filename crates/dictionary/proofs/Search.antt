-- Looking a tag up by halves.
use Rattle.std.proofs.Common.{◌≡◌, ℕ, ◌<◌, ◌≤◌, List, length, get_or, Some, None, Ok, Err, Result, sym, subst, ap, ◌∙◌, ⊎_elim, arith}
use Rattle.std.specs.Cmp.{ranks}
use Rattle.std.specs.Ordering.{nat_cmp, ordering_index, MatchOrdering}
use Rattle.std.specs.declared.cmp.Ordering.TheVariants.{Less, Equal, Greater}
use Rattle.std.specs.List.Sorted.{IsBinarySearchResult, IsSearchInRange, IsNonDecreasingBy}
use Rattle.std.specs.Result.{MatchResult, result_ok}
use Rattle.std.proofs.lemmas.List.{get_or_default}
use Rattle.std.proofs.lemmas.Bool.{cases_lt}
use borrow.Author.Tests.{tests}
use Rattle.dictionary.specs.declared.entry.Entry.{Entry}
use Rattle.dictionary.specs.Dictionary.{dictionary}
use Rattle.dictionary.specs.Places.{StandsAt, Nowhere}
use Rattle.dictionary.proofs.Order.{ordered, long, entry_at, entry_none, entry_sound}
use Rattle.dictionary.proofs.Naming.{name_at_lem, name_none}

pub stands_at : (k : ℕ) (d : Entry) (t : ℕ) → k < 48 → (get_or dictionary k d).tag ≡ t → StandsAt t k (get_or dictionary k d)
stands_at k d t h e =
    let n = long in
    let lt : k < length dictionary = omega arith in
    let found = entry_at k d t lt e in
    let sound = entry_sound t (get_or dictionary k d) found in
    record {
      within = h;
      entry = sym found;
      listed = record { listed = (k, lt, λ x. get_or_default dictionary k x d lt); tagged = e };
      primitive = sound.primitive;
      small = sound.tag;
      name = name_at_lem k d t lt h e;
    }

-- how the tag of an entry compares
same : (t n : ℕ) → nat_cmp n t ≡ Equal → n ≡ t
same t n e = subst (λ o. MatchOrdering o (n < t) (n ≡ t) (t < n)) e (ranks n t)

less : (t n : ℕ) → nat_cmp n t ≡ Less → n < t
less t n e = subst (λ o. MatchOrdering o (n < t) (n ≡ t) (t < n)) e (ranks n t)

more : (t n : ℕ) → nat_cmp n t ≡ Greater → t < n
more t n e = subst (λ o. MatchOrdering o (n < t) (n ≡ t) (t < n)) e (ranks n t)

higher : (t a b : ℕ) → a ≤ b → ordering_index (nat_cmp a t) ≤ ordering_index (nat_cmp b t)
higher t a b le = grind (arith, tests)

rising : (t : ℕ) → IsNonDecreasingBy (λ (e : Entry). ordering_index (nat_cmp e.tag t)) dictionary
rising t i j d le lt = higher t _ _ (⊎_elim (λ l. omega (arith, ordered i j d l lt)) (λ l. let e : i ≡ j = omega arith in omega (arith, ap (λ k. (get_or dictionary k d).tag) e)) (cases_lt i j))

none_stands : (t : ℕ) → ((k : ℕ) (d : Entry) → k < length dictionary → (get_or dictionary k d).tag ≡ t → ⊥) → Nowhere t
none_stands t none = record {
  entry = sym (entry_none t none);
  unlisted = λ e has same. none has.0 e has.1 (ap (λ x. x.tag) (has.2 e) ∙ same);
  name = name_none t none;
}

-- what the search by halves says of the tag t, since the tags rise
module _ (t : ℕ) (es : List Entry) (is : es ≡ dictionary) where
  searched : (r : Result ℕ ℕ) → IsSearchInRange r (length dictionary) → IsBinarySearchResult (λ (e : Entry). nat_cmp e.tag t) dictionary r →
      MatchResult r (λ k. (d : Entry) → StandsAt t k (get_or dictionary k d)) (λ _. Nowhere t)
  searched (Ok k) bound at = λ d. let n = long in stands_at k d t (omega arith) (same t _ (at d))
  searched (Err k) bound parted = none_stands t (λ i d lt e. let p = parted (rising t) in
      ⊎_elim
      (λ l. omega (arith, less t _ (p.0 i d (omega arith) l)))
      (λ l. omega (arith, more t _ (p.1 i d l lt)))
      (cases_lt i k))

  pub found_some : (r : Result ℕ ℕ) → IsSearchInRange r (length es) → IsBinarySearchResult (λ (e : Entry). nat_cmp e.tag t) es r →
      (k : ℕ) (d : Entry) → Some k ≡ result_ok r → (i : ℕ) × StandsAt t i (get_or es k d)
  found_some (Ok i) bound at k d e =
      let P : ℕ → Type 0 = λ j. (i : ℕ) × StandsAt t i (get_or es j d) in
      let i' : i ≡ k = cc in
      subst P i' (i, rw is (searched (Ok i) (rw is at bound) (rw is at at) d))
  found_some (Err i) bound at k d e = absurd (let z : ◌≡◌ {A = ℕ} 0 1 = cc in omega arith)

  pub found_none : (r : Result ℕ ℕ) → IsSearchInRange r (length es) → IsBinarySearchResult (λ (e : Entry). nat_cmp e.tag t) es r →
      None ≡ result_ok r → Nowhere t
  found_none (Ok i) bound at e = absurd (let z : ◌≡◌ {A = ℕ} 0 1 = cc in omega arith)
  found_none (Err i) bound at e = searched (Err i) (rw is at bound) (rw is at at)
