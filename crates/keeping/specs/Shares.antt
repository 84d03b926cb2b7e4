-- How many value bytes a writer has.
use Rattle.std.specs.Prelude.{ℕ, ◌+◌, cond, List, [], ◌∷◌}
use Rattle.dictionary.specs.declared.entry.Entry.{Entry}
use Rattle.dictionary.specs.Dictionary.{dictionary}
use Rattle.store.specs.Map.{Map, size}
use Rattle.judge.specs.declared.kind.TextKind.{TextKind}
use Rattle.judge.specs.declared.kind.TextKind.TheVariants.{Configuration, TerminalWrite, CardAnswer}
use Rattle.judge.specs.Kinds.{writes}
use Rattle.keeping.specs.declared.shares.Shares.{Shares}

-- the bytes held at an entry's tag, if such texts may have its objects
abbrev pub part_of : TextKind → Map → Entry → ℕ
part_of k m e = cond (writes k e.writer) (size (m e.tag)) 0

-- the sum over these entries
abbrev pub parts_of : TextKind → List Entry → Map → ℕ
parts_of k [] m = 0
parts_of k (e ∷ es) m = part_of k m e + parts_of k es m

-- the bytes held of all the objects that such texts may have
unfoldable pub writer_total : TextKind → Map → ℕ
writer_total k m = parts_of k dictionary m

-- the share of those who write such texts
abbrev pub share_of : Shares → TextKind → ℕ
share_of s Configuration = s.configuration
share_of s (TerminalWrite begun) = s.terminal
share_of s CardAnswer = s.card
