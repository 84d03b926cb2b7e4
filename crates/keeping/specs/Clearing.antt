-- Clearing: of what is held, the configuration's objects stay.
use Rattle.std.specs.Prelude.{Some, None, Option}
use Rattle.dictionary.specs.declared.entry.Entry.{Entry}
use Rattle.dictionary.specs.Dictionary.{entry_of}
use Rattle.store.specs.Map.{Map}
use Rattle.judge.specs.Writers.{by_writer}

-- what a tag of that entry, if any, holds after: nothing, unless it is the configuration's
abbrev pub stays : {X : Type 0} → Option X → Option Entry → Option X
stays o None = o
stays o (Some e) = by_writer o None None None None e.writer

-- so at each tag; an unknown tag holds what it held
abbrev pub cleared : Map → Map
cleared m = λ t. stays (m t) (entry_of t)
