-- Values masked with a pad of 256 bytes.
use Rattle.std.specs.Prelude.{◌≡◌, ℕ, ◌+◌, ◌%◌, ◌<◌, List, [], ◌∷◌, length, bit_xor, slice_index}
use Rattle.std.specs.Option.{option_map}
use Rattle.store.specs.Map.{Map}

-- the value of the tag t, masked: the first byte with pad byte t mod 256, each next byte with the next pad byte
abbrev pub masked : List ℕ → ℕ → List ℕ → List ℕ
masked pad t [] = []
masked pad t (x ∷ xs) = bit_xor x (slice_index pad (t % 256)) ∷ masked pad (t + 1) xs

-- the map whose values are those of m, masked
abbrev pub unmasked : List ℕ → Map → Map
unmasked pad m = λ t. option_map (masked pad t) (m t)

-- a masked value of the tag t has the value's length, its byte i is the value's XORed with pad byte (i + t) mod 256, and masking it again gives the value back
pub record MaskedBytes (pad : List ℕ) (t : ℕ) (v : List ℕ) : Type 0 where
  pub long : length (masked pad t v) ≡ length v
  pub bytes : (i : ℕ) → i < length v → slice_index (masked pad t v) i ≡ bit_xor (slice_index v i) (slice_index pad ((i + t) % 256))
  pub again : masked pad t (masked pad t v) ≡ v

-- that of every tag and value
abbrev pub MasksEachByte : List ℕ → Type 0
MasksEachByte pad = (t : ℕ) (v : List ℕ) → MaskedBytes pad t v
