-- Every text's meaning is sound.
use Rattle.std.proofs.Common.{ℕ, zero, suc, ◌+◌, ◌≤◌, ltb, List, [], length, arith, length-append, ltb-true}
use Rattle.std.proofs.slice.Lists.{all_by_recursion_push}
use Rattle.tlv.specs.declared.place.Place.{Place}
use Rattle.tlv.specs.Objects.{end, primitive, constructed, Next, fault, seen, next_at}
use Rattle.tlv.specs.Series.{Reading, wrong, found, deepest, most_objects, Reader, and_then, read_next, series_by, series, meaning}
use Rattle.tlv.specs.Laws.{Inside, Sound}
use Rattle.tlv.proofs.Steps.{Shorter, shorter, by_cond}

-- a reader that keeps what was found sound, on a series inside a text of n bytes
abbrev Keeps : ℕ → Reader → Type 0
Keeps n f = (d e : ℕ) (bs : List ℕ) (before : List Place) → length bs ≤ e → e ≤ n → Sound n (found before) → Sound n (f d e bs before)

module _ (n : ℕ) where
  and_then_sound : (r : Reading) (f : List Place → Reading) → Sound n r → ((ps : List Place) → Sound n (found ps) → Sound n (f ps)) → Sound n (and_then r f)
  and_then_sound (wrong k at) f h g = h
  and_then_sound (found ps) f h g = g ps h

  read_next_sound :
      (f : Reader) (d e m : ℕ) (before : List Place) (x : Next) → Keeps n f → Shorter e m x → m ≤ e → e ≤ n →
      Sound n (found before) → Sound n (read_next f d e before x)
  read_next_sound f d e m before (fault k at) keeps s h i b = omega (arith, s h)
  read_next_sound f d e m before (seen end rest) keeps s h i b = b
  read_next_sound f d e m before (seen (primitive t at start v) rest) keeps s h i b =
      let o = s.ordered h in
      let q = s.ends h in
      and_then_sound _ (f d e rest)
      (by_cond (Sound n) (ltb deepest d) _ _ (λ _. omega arith)
      (λ _. by_cond (Sound n) (ltb (length before) most_objects) _ _
      (λ room.
      let few = ltb-true _ _ room in
      (simp length-append (omega arith), all_by_recursion_push (Inside n) before _ b.1 (record { ordered = o; ends = omega arith })))
      (λ _. omega arith)))
      (λ ps b'. keeps d e rest ps (omega (arith, s.rest_less)) i b')
  read_next_sound f d e m before (seen (constructed t at start v) rest) keeps s h i b =
      let o = s.ordered h in
      let q = s.ends h in
      and_then_sound _ (f d e rest)
      (by_cond (Sound n) (ltb deepest d) _ _ (λ _. omega arith) (λ _. keeps (d + 1) (start + length v) v before (omega arith) (omega arith) b))
      (λ ps b'. keeps d e rest ps (omega (arith, s.rest_less)) i b')

  series_by_sound : (k : ℕ) → Keeps n (series_by k)
  unfolding series_by
  series_by_sound zero d e bs before h i b = b
  series_by_sound (suc k) d e bs before h i b = read_next_sound (series_by k) d e (length bs) before (next_at e bs) (series_by_sound k) (shorter e bs) h i b

pub meanings_sound : (text : List ℕ) → Sound (length text) (meaning text)
unfolding series
meanings_sound text = series_by_sound (length text) (suc (length text)) 1 (length text) text [] (omega arith) (omega arith) (omega arith, tt)
