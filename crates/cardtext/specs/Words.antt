-- What is printed of a tag by the dictionary.
use Rattle.std.specs.Prelude.{ℕ, List, ◌++◌, Some, None, codes, Option}
use Rattle.dictionary.specs.declared.entry.Entry.{Entry}
use Rattle.dictionary.specs.declared.entry.Writer.{Writer}
use Rattle.dictionary.specs.declared.entry.Writer.TheVariants.{Configuration, TerminalBeforeBegin, Terminal, Card, Reader}

-- the words for a writer
abbrev pub words_of : Writer → List ℕ
words_of Configuration = codes "configuration"
words_of TerminalBeforeBegin = codes "terminal before begin"
words_of Terminal = codes "terminal"
words_of Card = codes "card"
words_of Reader = codes "reader"

-- behind what is there: the name of a known tag, a comma, and its writer
abbrev pub with_entry : List ℕ → Option Entry → Option (List ℕ) → List ℕ
with_entry out None n = out ++ codes "unknown"
with_entry out (Some e) None = out ++ codes "unknown"
with_entry out (Some e) (Some n) = ((out ++ n) ++ codes ", ") ++ words_of e.writer
