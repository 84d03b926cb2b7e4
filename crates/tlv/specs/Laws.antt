-- What the reading of a text has to do with what a text is.
use Rattle.std.specs.Prelude.{◌≡◌, ℕ, ◌+◌, ◌<◌, ◌≤◌, List, length}
use Rattle.std.specs.List.{AllByRecursion}
use Rattle.tlv.specs.declared.fault.FaultKind.{FaultKind}
use Rattle.tlv.specs.declared.place.Place.{Place}
use Rattle.tlv.specs.Series.{Reading, wrong, found, most_objects}
use Rattle.tlv.specs.Values.{value_at}
use Rattle.tlv.specs.Grammar.{Item, place_of, places_of, Text}
use Rattle.tlv.specs.Faults.{Faulty}

-- An object lies inside a text of n bytes: its value comes after its first byte, and ends in the text.
pub record Inside (n : ℕ) (p : Place) : Type 0 where
  pub ordered : p.at < p.start
  pub ends : p.start + p.len ≤ n

-- At most 64 objects are found, each inside the text, and a fault is at a byte of the text.
abbrev pub Sound : ℕ → Reading → Type 0
Sound n (wrong k at) = at < n
Sound n (found ps) = (length ps ≤ most_objects) × AllByRecursion (Inside n) ps

-- r is the one reading of the text.
pub record Exact (text : List ℕ) (r : Reading) : Type 0 where
  -- what is found are the places of the text's objects, in order
  pub sound : (ps : List Place) → r ≡ found ps → (is : List Item) × Text text is × (ps ≡ places_of is)
  -- every text is read
  pub complete : (is : List Item) → Text text is → r ≡ found (places_of is)
  -- bytes are a text in at most one way
  pub one : (is js : List Item) → Text text is → Text text js → is ≡ js
  -- an object's value stands at its place
  pub values : (is : List Item) → Text text is → AllByRecursion (λ i. value_at text (place_of i) ≡ i.value) is
  -- a refusal names the first fault
  pub refused : (k : FaultKind) (at : ℕ) → r ≡ wrong k at → Faulty 1 0 text 0 k at
  -- every faulty text is refused
  pub refuses : (k : FaultKind) (at : ℕ) → Faulty 1 0 text 0 k at → r ≡ wrong k at
  pub inside : Sound (length text) r
