-- What the search over the table answers: where a tag's entry and name stand, or that there are none.
use Rattle.std.specs.Prelude.{◌≡◌, ℕ, ◌<◌, false, [], Some, None, slice_index_or}
use Rattle.dictionary.specs.declared.entry.Entry.{Entry}
use Rattle.dictionary.specs.Dictionary.{entry_of, Listed, Unlisted, constructed}
use Rattle.dictionary.specs.Names.{names, name_of}

-- the entry e and the name of the tag t stand at k
pub record StandsAt (t k : ℕ) (e : Entry) : Type 0 where
  pub within : k < 48
  pub entry : Some e ≡ entry_of t
  pub listed : Listed t e
  pub primitive : constructed t ≡ false
  pub small : t < 16777216
  pub name : Some (slice_index_or names k []) ≡ name_of t

-- they stand nowhere
pub record Nowhere (t : ℕ) : Type 0 where
  pub entry : None ≡ entry_of t
  pub unlisted : Unlisted t
  pub name : None ≡ name_of t
