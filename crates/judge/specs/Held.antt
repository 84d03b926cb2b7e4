-- What of that which is held a judgement depends on.
use Rattle.std.specs.Prelude.{◌≡◌, ℕ, true, false, Some}
use Rattle.dictionary.specs.declared.entry.Entry.{Entry}
use Rattle.dictionary.specs.Dictionary.{entry_of}
use Rattle.store.specs.Map.{Map}
use Rattle.judge.specs.declared.kind.TextKind.{TextKind}
use Rattle.judge.specs.Kinds.{writes, own}
use Rattle.judge.specs.Rules.{has_value}

-- Two maps are the same for the judgement of a text: any two for an own text, and for a card's text those in which the
-- same of the card's objects have a value.
pub record SameFor (k : TextKind) (m n : Map) : Type 0 where
  pub valued : own k ≡ false → (t : ℕ) (e : Entry) → entry_of t ≡ Some e → writes k e.writer ≡ true → has_value (m t) ≡ has_value (n t)
