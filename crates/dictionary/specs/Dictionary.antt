-- The dictionary of data objects: for each tag the least and the most bytes of a value, the format and the writer.
use Rattle.std.specs.Prelude.{◌≡◌, ℕ, ◌/◌, ◌%◌, ◌<◌, Bool, true, cond, ◌&&◌, List, [], ◌∷◌, length, Some, None, Option, ◌==◌, ◌≢◌, nat_lt, slice_index_or}
use Rattle.std.specs.List.{ContainsAt as Has}
use Rattle.dictionary.specs.declared.entry.Entry.{Entry}
use Rattle.dictionary.specs.declared.entry.Format.{Format}
use Rattle.dictionary.specs.declared.entry.Format.TheVariants.{Numeric, CompressedNumeric, Alphanumeric, AlphanumericSpecial, Binary}
use Rattle.dictionary.specs.declared.entry.Writer.{Writer}
use Rattle.dictionary.specs.declared.entry.Writer.TheVariants.{Configuration, TerminalBeforeBegin, Terminal, Card, Reader}

-- a row of the table
abbrev row : ℕ → ℕ → ℕ → Format → Writer → Entry
row t lo hi f w = record { tag = t; least = lo; most = hi; format = f; writer = w }

-- the table, its tags rising
unfoldable pub dictionary : List Entry
dictionary =
    row 0x50 1 16 AlphanumericSpecial Card ∷
    row 0x57 1 19 Binary Card ∷
    row 0x5A 1 10 CompressedNumeric Card ∷
    row 0x82 2 2 Binary Card ∷
    row 0x84 5 16 Binary Card ∷
    row 0x8C 1 250 Binary Card ∷
    row 0x94 4 248 Binary Card ∷
    row 0x95 5 5 Binary Reader ∷
    row 0x9A 3 3 Numeric TerminalBeforeBegin ∷
    row 0x9C 1 1 Numeric TerminalBeforeBegin ∷
    row 0x5F24 3 3 Numeric Card ∷
    row 0x5F2A 2 2 Numeric TerminalBeforeBegin ∷
    row 0x5F34 1 1 Numeric Card ∷
    row 0x9F02 6 6 Numeric TerminalBeforeBegin ∷
    row 0x9F03 6 6 Numeric TerminalBeforeBegin ∷
    row 0x9F07 2 2 Binary Card ∷
    row 0x9F09 2 2 Binary Configuration ∷
    row 0x9F10 1 32 Binary Card ∷
    row 0x9F11 1 1 Numeric Card ∷
    row 0x9F12 1 16 AlphanumericSpecial Card ∷
    row 0x9F1A 2 2 Numeric Configuration ∷
    row 0x9F1E 8 8 Alphanumeric Configuration ∷
    row 0x9F24 29 29 Alphanumeric Card ∷
    row 0x9F26 8 8 Binary Card ∷
    row 0x9F27 1 1 Binary Card ∷
    row 0x9F33 3 3 Binary Configuration ∷
    row 0x9F35 1 1 Numeric Configuration ∷
    row 0x9F36 2 2 Binary Card ∷
    row 0x9F37 4 4 Binary TerminalBeforeBegin ∷
    row 0x9F38 1 250 Binary Card ∷
    row 0x9F4E 1 64 AlphanumericSpecial Terminal ∷
    row 0x9F_8109 8 8 Binary Card ∷
    row 0x9F_8111 1 243 Binary Card ∷
    row 0x9F_8112 1 243 Binary Card ∷
    row 0x9F_8113 1 243 Binary Card ∷
    row 0x9F_8114 1 243 Binary Card ∷
    row 0x9F_8115 1 243 Binary Card ∷
    row 0x9F_8116 1 243 Binary Card ∷
    row 0x9F_8117 1 243 Binary Card ∷
    row 0x9F_8118 1 243 Binary Card ∷
    row 0x9F_8119 1 243 Binary Card ∷
    row 0x9F_811A 1 243 Binary Card ∷
    row 0xDF_8112 1 252 Binary Terminal ∷
    row 0xDF_8115 6 6 Binary Reader ∷
    row 0xDF_8121 5 5 Binary Configuration ∷
    row 0xDF_8122 5 5 Binary Configuration ∷
    row 0xDF_8123 6 6 Numeric Configuration ∷
    row 0xDF_856C 1 250 Binary Configuration ∷
    []

-- the first entry of the list that has the tag
abbrev pub find : ℕ → List Entry → Option Entry
find t [] = None
find t (e ∷ es) = cond (e.tag == t) (Some e) (find t es)

-- the entry of a tag, where the dictionary has one
unfoldable pub entry_of : ℕ → Option Entry
entry_of t = find t dictionary

-- each tag of the list is above b and above the tags before it: the test that is computed over the whole table
abbrev pub rises : ℕ → List Entry → Bool
rises b [] = true
rises b (e ∷ es) = nat_lt b e.tag && rises e.tag es

-- the tags are in order, so no tag stands twice
abbrev pub Ordered : List Entry → Type 0
Ordered es = (i j : ℕ) (d : Entry) → i < j → j < length es → (slice_index_or es i d).tag < (slice_index_or es j d).tag

-- an entry of the dictionary that has the tag t
pub record Listed (t : ℕ) (e : Entry) : Type 0 where
  pub listed : Has dictionary e
  pub tagged : e.tag ≡ t

-- no entry of the dictionary has the tag t
abbrev pub Unlisted : ℕ → Type 0
Unlisted t = (e : Entry) → Has dictionary e → e.tag ≢ t

-- a tag's first byte, and whether its bit 6 marks a constructed object
abbrev pub first_byte : ℕ → ℕ
first_byte t = cond (nat_lt t 256) t (cond (nat_lt t 65536) (t / 256) (t / 65536))

abbrev pub constructed : ℕ → Bool
constructed t = first_byte t / 32 % 2 == 1
