-- The bytes of a written object, and what they are to a reader.
use Rattle.std.proofs.Common.{◌≡◌, ℕ, ◌<◌, ◌≤◌, ltb, [], ◌∷◌}
use Rattle.std.proofs.lemmas.Bool.{lt-ltb, le-ltb, cond-true, cond-false}
use Rattle.tlv.specs.Written.{length_bytes}

pub length1 : (n : ℕ) → n < 128 → length_bytes n ≡ (n ∷ [])
length1 n h = cond-true (ltb n 128) _ _ (lt-ltb n 128 h)

pub length2 : (n : ℕ) → 128 ≤ n → length_bytes n ≡ (129 ∷ n ∷ [])
length2 n h = cond-false (ltb n 128) _ _ (le-ltb n 128 h)
