-- The data that a data object list asks for.
use Rattle.std.specs.Prelude.{ℕ, ◌+◌, ◌*◌, ◌%◌, cond, List, [], ◌∷◌, ◌++◌, length, drop, replicate, Some, None, Ok, Err, Option, Result, ◌==◌, nat_le, nat_lt}
use Rattle.store.specs.Map.{Map}
use Rattle.dictionary.specs.declared.entry.Entry.{Entry}
use Rattle.dictionary.specs.Dictionary.{entry_of}
use Rattle.dol.specs.declared.size.DolFault.{DolFault}
use Rattle.dol.specs.Fit.{fitted}

-- n bytes for an entry of the dictionary and a value: zeros where the tag is unknown, not held or empty
abbrev pub value_for : Option Entry → Option (List ℕ) → ℕ → List ℕ
value_for None o n = replicate n 0
value_for (Some e) None n = replicate n 0
value_for (Some e) (Some v) n = cond (length v == 0) (replicate n 0) (fitted e.format v n)

-- n bytes for a tag, from what is held
abbrev pub data_for : Map → ℕ → ℕ → List ℕ
data_for held tag n = value_for (entry_of tag) (held tag) n

-- an entry of a list: a tag, and how many bytes of it are asked for
pub record Asked : Type 0 where
  pub tag : ℕ
  pub size : ℕ

-- where the next byte of a list stands: at the start of an entry, at a tag's second or third byte, or at the length.
-- Past the start, the tag so far is known.
pub data Stage : Type 0 where
  first : Stage
  second : ℕ → Stage
  third : ℕ → Stage
  size : ℕ → Stage

abbrev pub more : Asked → Option (List Asked) → Option (List Asked)
more a None = None
more a (Some es) = Some (a ∷ es)

-- the entries of a list from a stage on: a first byte whose low five bits are all ones has a second byte after it, a
-- second byte with bit 8 set has a third, and one length byte follows the tag. None where the list is cut short, or
-- a third byte has bit 8 set.
abbrev pub entries_from : Stage → List ℕ → Option (List Asked)
entries_from first [] = Some []
entries_from first (b ∷ bs) = cond (b % 32 == 31) (entries_from (second b) bs) (entries_from (size b) bs)
entries_from (second t) [] = None
entries_from (second t) (b ∷ bs) = cond (nat_lt b 128) (entries_from (size (t * 256 + b)) bs) (entries_from (third (t * 256 + b)) bs)
entries_from (third t) [] = None
entries_from (third t) (b ∷ bs) = cond (nat_lt b 128) (entries_from (size (t * 256 + b)) bs) None
entries_from (size t) [] = None
entries_from (size t) (n ∷ bs) = more (record { tag = t; size = n }) (entries_from first bs)

abbrev pub entries : List ℕ → Option (List Asked)
entries bs = entries_from first bs

-- how many bytes the entries ask for, and which
abbrev pub total : List Asked → ℕ
total [] = 0
total (a ∷ es) = a.size + total es

abbrev pub data_of : Map → List Asked → List ℕ
data_of held [] = []
data_of held (a ∷ es) = data_for held a.tag a.size ++ data_of held es

-- the data, or none where the list is faulty or asks for more than the limit
abbrev pub within : Map → ℕ → Option (List Asked) → Option (List ℕ)
within held limit None = None
within held limit (Some es) = cond (nat_le (total es) limit) (Some (data_of held es)) None

unfoldable pub dol_data : Map → ℕ → List ℕ → Option (List ℕ)
dol_data held limit dol = within held limit (entries dol)

-- how long it is, or the fault
abbrev pub size_of : ℕ → Option (List Asked) → Result ℕ DolFault
size_of limit None = Err (record {})
size_of limit (Some es) = cond (nat_le (total es) limit) (Ok (total es)) (Err (record {}))

-- a buffer once some bytes, if any, have been written to its front
abbrev pub filled : Option (List ℕ) → List ℕ → List ℕ
filled None buf = buf
filled (Some ds) buf = ds ++ drop (length ds) buf
