-- What a store holds after a text was stored, and after its tags were removed.
use Rattle.std.specs.Prelude.{ℕ, List, [], ◌∷◌, Some, None, Option}
use Rattle.dictionary.specs.declared.entry.Entry.{Entry}
use Rattle.dictionary.specs.Dictionary.{entry_of}
use Rattle.tlv.specs.declared.place.Place.{Place}
use Rattle.tlv.specs.Series.{Reading, wrong, found, meaning}
use Rattle.tlv.specs.Values.{value_at}
use Rattle.store.specs.Map.{Map, changed}

-- one object more, where its tag is known
abbrev pub stored_by : List ℕ → Map → Place → Option Entry → Map
stored_by text m p None = m
stored_by text m p (Some e) = changed m p.tag (Some (value_at text p))

-- by the entry of its tag
abbrev pub stored_one : List ℕ → Map → Place → Map
stored_one text m p = stored_by text m p (entry_of p.tag)

-- the objects at these places of a text, each in place of what its tag held
abbrev pub stored : List ℕ → List Place → Map → Map
stored text [] m = m
stored text (p ∷ ps) m = stored text ps (stored_one text m p)

-- the places of the primitive objects that reading gives
abbrev pub places_read : Reading → List Place
places_read (wrong kind at) = []
places_read (found ps) = ps

-- the objects of a text, each in place of what its tag held
abbrev pub stored_text : List ℕ → Map → Map
stored_text text m = stored text (places_read (meaning text)) m

-- the tag of one object removed, where it is known
abbrev pub removed_by : Map → Place → Option Entry → Map
removed_by m p None = m
removed_by m p (Some e) = changed m p.tag None

-- by the entry of its tag
abbrev pub removed_one : Map → Place → Map
removed_one m p = removed_by m p (entry_of p.tag)

-- the known tags of these objects removed
abbrev pub removed : List Place → Map → Map
removed [] m = m
removed (p ∷ ps) m = removed ps (removed_one m p)
