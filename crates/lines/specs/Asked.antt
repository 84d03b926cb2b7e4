-- What the words of a line ask for.
use Rattle.std.specs.Prelude.{◌≡◌, ℕ, ◌+◌, Bool, true, false, List, [], length, Some, vec_items, codes, slice_index_or}
use Rattle.lines.specs.Numbers.{number_in, byte_in, all_digits}
use Rattle.lines.specs.Words.{word_bytes, tag_in, kind_word, sized, one_byte}
use Rattle.lines.specs.declared.line.Kind.{Kind}
use Rattle.lines.specs.declared.line.Kind.TheVariants.{Directory, Strip}
use Rattle.lines.specs.declared.line.Line.{Line}
use Rattle.lines.specs.declared.line.Line.TheVariants.{Blank, Store, Limits, Held, Put, Drop, Length, Copy, Dol, Options, Afl, Verify, Decide, Generate, Given, Lend, Open, Write, Begin, Answer, Fault, Stop, Clear, Outcome, State, Wanted, Object, Record}

-- a word of a line
abbrev pub word : List (List ℕ) → ℕ → List ℕ
word ws i = slice_index_or ws i []

-- n words, the first of which is the name of what is asked for
abbrev pub Words : List (List ℕ) → ℕ → List ℕ → Type 0
Words ws n name = (length ws ≡ n) × (word ws 0 ≡ name)

-- the three words at i name a make and its two sizes
abbrev pub Sizes : List (List ℕ) → ℕ → Kind → Type 0
Sizes ws i (Directory e b) = (word ws i ≡ codes "directory") × (Some e ≡ number_in (word ws (i + 1))) × (Some b ≡ number_in (word ws (i + 2)))
Sizes ws i (Strip o l) = (word ws i ≡ codes "strip") × (Some o ≡ number_in (word ws (i + 1))) × (Some l ≡ number_in (word ws (i + 2)))

-- a store of that make, masked or not
abbrev pub Makes : List (List ℕ) → Bool → Kind → Type 0
Makes ws true k = Words ws 5 (codes "store") × (word ws 1 ≡ codes "masked") × Sizes ws 2 k
Makes ws false k = Words ws 4 (codes "store") × Sizes ws 1 k

-- What the words are, of a line that is understood so.
abbrev pub Asks : List (List ℕ) → Line → Type 0
Asks ws Blank = ws ≡ []
Asks ws (Store m) = Makes ws m.masked m.kind
Asks ws Limits = Words ws 1 (codes "limits")
Asks ws Held = Words ws 1 (codes "held")
Asks ws (Put t v) = Words ws 3 (codes "put") × (Some t.value ≡ tag_in (word_bytes (word ws 1))) × (Some (vec_items v) ≡ word_bytes (word ws 2))
Asks ws (Drop t) = Words ws 2 (codes "drop") × (Some t.value ≡ tag_in (word_bytes (word ws 1)))
Asks ws (Length t) = Words ws 2 (codes "length") × (Some t.value ≡ tag_in (word_bytes (word ws 1)))
Asks ws (Copy t n) = Words ws 3 (codes "copy") × (Some t.value ≡ tag_in (word_bytes (word ws 1))) × (Some n ≡ number_in (word ws 2))
Asks ws (Dol d m) = Words ws 3 (codes "dol") × (Some (vec_items d) ≡ word_bytes (word ws 1)) × (Some m ≡ number_in (word ws 2))
Asks ws Options = Words ws 1 (codes "gpo")
Asks ws (Afl v) = Words ws 2 (codes "afl") × (Some (vec_items v) ≡ word_bytes (word ws 1))
Asks ws (Verify a f) =
    Words ws 3 (codes "tvr") × (true ≡ all_digits (word ws 1)) × (true ≡ all_digits (word ws 2))
    × (Some (vec_items a) ≡ sized 6 (word_bytes (word ws 1))) × (Some (vec_items f) ≡ sized 6 (word_bytes (word ws 2)))
Asks ws (Decide t d o b) =
    Words ws 5 (codes "decide") × (Some (vec_items t) ≡ sized 5 (word_bytes (word ws 1))) × (Some (vec_items d) ≡ sized 5 (word_bytes (word ws 2)))
    × (Some (vec_items o) ≡ sized 5 (word_bytes (word ws 3))) × (Some b ≡ one_byte (word_bytes (word ws 4)))
Asks ws (Generate k) = Words ws 2 (codes "generate") × (word ws 1 ≡ kind_word k)
Asks ws (Given k b) = Words ws 3 (codes "given") × (word ws 1 ≡ kind_word k) × (Some b ≡ one_byte (word_bytes (word ws 2)))
Asks ws (Lend b l) = Words ws 3 (codes "lend") × (Some b ≡ number_in (word ws 1)) × (Some l ≡ number_in (word ws 2))
Asks ws (Open s v) =
    Words ws 5 (codes "open") × (Some s.configuration ≡ number_in (word ws 1)) × (Some s.terminal ≡ number_in (word ws 2))
    × (Some s.card ≡ number_in (word ws 3)) × (Some (vec_items v) ≡ word_bytes (word ws 4))
Asks ws (Write v) = Words ws 2 (codes "write") × (Some (vec_items v) ≡ word_bytes (word ws 1))
Asks ws (Begin v) = Words ws 2 (codes "begin") × (Some (vec_items v) ≡ word_bytes (word ws 1))
Asks ws (Answer v) = Words ws 2 (codes "answer") × (Some (vec_items v) ≡ word_bytes (word ws 1))
Asks ws (Fault c) = Words ws 2 (codes "fault") × (Some c ≡ byte_in (number_in (word ws 1)))
Asks ws Stop = Words ws 1 (codes "stop")
Asks ws Clear = Words ws 1 (codes "clear")
Asks ws Outcome = Words ws 1 (codes "outcome")
Asks ws State = Words ws 1 (codes "state")
Asks ws Wanted = Words ws 1 (codes "wanted")
Asks ws (Object t) = Words ws 2 (codes "object") × (Some t.value ≡ tag_in (word_bytes (word ws 1)))
Asks ws Record = Words ws 1 (codes "record")
