-- The tags that are our own: the configuration's and the terminal's.
use Rattle.std.specs.Prelude.{◌≡◌, ℕ, Bool, true, false}
use Rattle.dictionary.specs.declared.entry.Writer.{Writer}
use Rattle.dictionary.specs.Dictionary.{entry_of}
use Rattle.store.specs.Map.{Map}
use Rattle.judge.specs.Writers.{by_writer}
use Rattle.judge.specs.Rules.{listed_and}

-- the configuration and the terminal are our own writers
abbrev pub own_writer : Writer → Bool
own_writer w = by_writer true true true false false w

-- a tag of one of them
abbrev pub own_tag : ℕ → Bool
own_tag t = listed_and (entry_of t) (λ e. own_writer e.writer)

-- the same objects of our own are held
abbrev pub SameOwn : Map → Map → Type 0
SameOwn m n = (t : ℕ) → own_tag t ≡ true → m t ≡ n t
