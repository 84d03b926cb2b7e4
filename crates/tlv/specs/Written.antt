-- The bytes of an object as it is written: its tag, the shortest length, its value.
use Rattle.std.specs.Prelude.{◌≡◌, ℕ, ◌-◌, ◌/◌, ◌%◌, Bool, cond, not, ◌&&◌, List, [], ◌∷◌, ◌++◌, length, drop, Ok, Err, Result, ◌==◌, nat_lt, slice_index}
use Rattle.tlv.specs.declared.write.WriteRefusal.{WriteRefusal}
use Rattle.tlv.specs.declared.write.WriteRefusal.TheVariants.{NoTag, TooLong, Short}
use Rattle.tlv.specs.Objects.{marks_more, marks_constructed, bit8, object, seen, next_at}

-- whether a number is that of a tag: its bytes, the highest first, are those of one tag, and no filler
abbrev pub is_tag : ℕ → Bool
is_tag t =
    cond (nat_lt t 256) (not (t == 0) && not (marks_more t))
    (cond (nat_lt t 65536) (marks_more (t / 256) && not (bit8 (t % 256)))
    (nat_lt t 16777216 && (marks_more (t / 65536) && (bit8 (t / 256 % 256) && not (bit8 (t % 256))))))

abbrev pub tag_bytes : ℕ → List ℕ
tag_bytes t = cond (nat_lt t 256) (t ∷ []) (cond (nat_lt t 65536) (t / 256 ∷ t % 256 ∷ []) (t / 65536 ∷ t / 256 % 256 ∷ t % 256 ∷ []))

abbrev pub length_bytes : ℕ → List ℕ
length_bytes n = cond (nat_lt n 128) (n ∷ []) (129 ∷ n ∷ [])

unfoldable pub head_bytes : ℕ → ℕ → List ℕ
head_bytes t n = tag_bytes t ++ length_bytes n

-- the object of a tag and a value
abbrev pub object_bytes : ℕ → List ℕ → List ℕ
object_bytes t v = head_bytes t (length v) ++ v

-- bytes at a buffer's front, the rest unchanged
abbrev pub at_front : List ℕ → List ℕ → List ℕ
at_front bs out = bs ++ drop (length bs) out

-- what writing an object into a buffer of so many bytes answers
abbrev pub write_answer : ℕ → List ℕ → ℕ → Result ℕ WriteRefusal
write_answer t v room =
    cond (not (is_tag t)) (Err NoTag)
    (cond (nat_lt 255 (length v)) (Err TooLong)
    (cond (nat_lt room (length (object_bytes t v))) (Err Short) (Ok (length (object_bytes t v)))))

-- what the buffer holds after that answer
abbrev pub write_after : Result ℕ WriteRefusal → ℕ → List ℕ → List ℕ → List ℕ
write_after (Ok n) t v out = at_front (object_bytes t v) out
write_after (Err e) t v out = out

-- Whatever stands behind it, what stands next is the object of that tag and value, and then what stands behind.
abbrev pub ReadsBack : ℕ → List ℕ → List ℕ → Type 0
ReadsBack t v bs =
    (rest : List ℕ) → next_at (length (bs ++ rest)) (bs ++ rest) ≡ seen (object (marks_constructed (slice_index (tag_bytes t) 0)) t 0 (length bs - length v) v) rest
