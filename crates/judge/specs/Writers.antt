-- A choice by writer.
use Rattle.dictionary.specs.declared.entry.Writer.{Writer}
use Rattle.dictionary.specs.declared.entry.Writer.TheVariants.{Configuration, TerminalBeforeBegin, Terminal, Card, Reader}

-- g for the configuration, t for the terminal before begin, d for the terminal at any time, c for the card, k for the reader
abbrev pub by_writer : {X : Type 0} → X → X → X → X → X → Writer → X
by_writer g t d c k Configuration = g
by_writer g t d c k TerminalBeforeBegin = t
by_writer g t d c k Terminal = d
by_writer g t d c k Card = c
by_writer g t d c k Reader = k
