-- A strip: entries back to back, each a tag in three bytes, a length in two, and the value.
use Rattle.std.specs.Prelude.{◌≡◌, ℕ, zero, suc, ◌+◌, ◌-◌, ◌*◌, ◌/◌, ◌%◌, ◌≤◌, true, cond, List, [], ◌∷◌, ◌++◌, length, take, drop, nat_le, slice_index}
use Rattle.store.specs.Map.{Map}
use Rattle.entries.specs.Entries.{Entry, lookup, good}

-- the object limit in an area of so many bytes, where so many objects are allowed: none if their tags and lengths do not fit
abbrev pub object_room : ℕ → ℕ → ℕ
object_room len objects = cond (nat_le (5 * objects) len) objects 0

-- the byte limit there: what their tags and lengths leave
abbrev pub byte_room : ℕ → ℕ → ℕ
byte_room len objects = cond (nat_le (5 * objects) len) (len - 5 * objects) 0

-- the bytes of an entry: tag in three, length in two, the highest first, and the value
abbrev pub entry_bytes : ℕ → List ℕ → List ℕ
entry_bytes t v = t / 65536 % 256 ∷ t / 256 % 256 ∷ t % 256 ∷ length v / 256 % 256 ∷ length v % 256 ∷ v

-- the bytes of several, back to back
abbrev pub written : List Entry → List ℕ
written [] = []
written (e ∷ es) = entry_bytes e.0 e.1 ++ written es

-- the tag of the entry at the front
abbrev pub front_tag : List ℕ → ℕ
front_tag bs = slice_index bs 0 * 65536 + slice_index bs 1 * 256 + slice_index bs 2

-- the length of its value
abbrev pub front_length : List ℕ → ℕ
front_length bs = slice_index bs 3 * 256 + slice_index bs 4

-- the first n entries
abbrev pub entries : ℕ → List ℕ → List Entry
entries zero bs = []
entries (suc n) bs = (front_tag bs, take (front_length bs) (drop 5 bs)) ∷ entries n (drop (5 + front_length bs) bs)

-- bs is the n good entries that can be read from it
abbrev pub Laid : ℕ → List ℕ → Type 0
Laid n bs = (bs ≡ written (entries n bs)) × (good (entries n bs) ≡ true)

-- an area whose first u bytes are n entries, within the limits o on objects and b on value bytes
abbrev pub Sound : ℕ → ℕ → ℕ → ℕ → List ℕ → Type 0
Sound o b n u a = (5 * o + b ≤ length a) × (n ≤ o) × (u ≤ 5 * n + b) × (u ≤ length a) × Laid n (take u a)

-- the map that those bytes hold
abbrev pub contents : ℕ → ℕ → List ℕ → Map
contents n u a = lookup (entries n (take u a))
