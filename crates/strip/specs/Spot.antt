-- Where a search finds an entry.
use Rattle.std.specs.Prelude.{◌≡◌, ℕ, ◌+◌, ◌≤◌, List, ◌∷◌, ◌++◌, length, take, drop, Some}
use Rattle.entries.specs.Entries.{Entry, lookup}
use Rattle.strip.specs.Strip.{entry_bytes, written, front_length}

-- the entry of the tag t, among the entries es that bs is, starts at the place at, and its value has n bytes
pub record Spot (bs : List ℕ) (es : List Entry) (t at n : ℕ) : Type 0 where
  pub pre : List Entry
  pub v : List ℕ
  pub post : List Entry
  pub split : es ≡ pre ++ (t, v) ∷ post
  pub place : at ≡ length (written pre)
  pub here : lookup es t ≡ Some v
  pub text : bs ≡ written pre ++ (entry_bytes t v ++ written post)
  pub len : front_length (drop at bs) ≡ length v
  pub long : length v ≡ n
  pub room : at + (5 + n) ≤ length bs
  pub value : take n (drop (at + 5) bs) ≡ v
