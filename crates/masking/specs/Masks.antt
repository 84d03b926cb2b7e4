-- Laws of masking: a masked map has the same tags at the same lengths, so it keeps what every store keeps.
use Rattle.std.specs.Prelude.{◌≡◌, ℕ, suc, ◌+◌, ◌≤◌, List, [], ◌∷◌, length, IfSome, Some, None, Option, refl}
use Rattle.std.proofs.Common.{ap, arith}
use Rattle.std.specs.Option.{option_map}
use Rattle.store.specs.Map.{Kept, Map, one, size, count, total}
use Rattle.store.specs.Maps.{count_same, total_same}
use Rattle.masking.specs.Mask.{masked, unmasked}

pub length_masked : (pad : List ℕ) (t : ℕ) (xs : List ℕ) → length (masked pad t xs) ≡ length xs
length_masked pad t [] = refl
length_masked pad t (x ∷ xs) = ap suc (length_masked pad (t + 1) xs)

one_mapped : (f : List ℕ → List ℕ) (o : Option (List ℕ)) → one (option_map f o) ≡ one o
one_mapped f None = refl
one_mapped f (Some v) = refl

size_mapped : (f : List ℕ → List ℕ) → ((v : List ℕ) → length (f v) ≡ length v) → (o : Option (List ℕ)) → size (option_map f o) ≡ size o
size_mapped f h None = refl
size_mapped f h (Some v) = h v

pub count_unmasked : (pad : List ℕ) (m : Map) → count (unmasked pad m) ≡ count m
count_unmasked pad m = count_same (unmasked pad m) m (λ k. one_mapped (masked pad k) (m k))

pub total_unmasked : (pad : List ℕ) (m : Map) → total (unmasked pad m) ≡ total m
total_unmasked pad m = total_same (unmasked pad m) m (λ k. size_mapped (masked pad k) (length_masked pad k) (m k))

pub short_masked : (pad : List ℕ) (t : ℕ) (o : Option (List ℕ))
    → IfSome o (λ v. length v ≤ 255) → IfSome (option_map (masked pad t) o) (λ v. length v ≤ 255)
short_masked pad t None h = tt
short_masked pad t (Some v) h = omega (arith, length_masked pad t v)

pub kept_masked : (pad : List ℕ) (m : Map) (o b : ℕ) → Kept m o b → Kept (unmasked pad m) o b
kept_masked pad m o b k =
    record {
      tags = λ t l. ap (option_map (masked pad t)) (k.tags t l);
      values = λ t. short_masked pad t (m t) (k.values t);
      few = omega (arith, count_unmasked pad m, k.few);
      small = omega (arith, total_unmasked pad m, k.small);
    }
