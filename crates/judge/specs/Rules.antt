-- The rules for one object of a text.
use Rattle.std.specs.Prelude.{ℕ, Bool, true, false, cond, not, ◌&&◌, ◌||◌, List, length, Some, None, Option, ◌==◌, nat_lt}
use Rattle.std.specs.List.{list_any}
use Rattle.dictionary.specs.declared.entry.Entry.{Entry}
use Rattle.dictionary.specs.Dictionary.{entry_of}
use Rattle.dictionary.specs.Checks.{fits_length, fits_format}
use Rattle.tlv.specs.declared.place.Place.{Place}
use Rattle.tlv.specs.Values.{value_at}
use Rattle.store.specs.Map.{Map}
use Rattle.judge.specs.declared.fault.ObjectFaultKind.{ObjectFaultKind}
use Rattle.judge.specs.declared.fault.ObjectFaultKind.TheVariants.{UnknownTag, OtherWriter, BadLength, BadDigits, TagTwice, HeldWithValue, AfterBegin}
use Rattle.judge.specs.declared.kind.TextKind.{TextKind}
use Rattle.judge.specs.Kinds.{writes, late, own}
use Rattle.judge.specs.Objects.{Object}

-- one of the objects has the tag
abbrev pub named : ℕ → List Place → Bool
named t ps = list_any (λ p. p.tag == t) ps

-- held with a value, which is not empty
abbrev pub has_value : Option (List ℕ) → Bool
has_value None = false
has_value (Some v) = nat_lt 0 (length v)

-- there is no entry
abbrev pub unlisted : Option Entry → Bool
unlisted None = true
unlisted (Some e) = false

-- there is an entry, and it is so
abbrev pub listed_and : Option Entry → (Entry → Bool) → Bool
listed_and None f = false
listed_and (Some e) f = f e

-- Whether an object breaks a rule: k is whose text it is, m is what is held, and the objects before it stand at
-- `earlier`. All rules but the first are for known tags alone, so a card's unknown objects break none.
abbrev pub breaks_by : TextKind → Map → List ℕ → List Place → Object → Option Entry → ObjectFaultKind → Bool
breaks_by k m text earlier o e UnknownTag = own k && (o.built || unlisted e)
breaks_by k m text earlier o e OtherWriter = listed_and e (λ x. not (writes k x.writer))
breaks_by k m text earlier o e BadLength = listed_and e (λ x. not (fits_length x (length (value_at text o.place))))
breaks_by k m text earlier o e BadDigits = listed_and e (λ x. not (fits_format x.format (value_at text o.place)))
breaks_by k m text earlier o e TagTwice = listed_and e (λ x. named o.place.tag earlier)
breaks_by k m text earlier o e HeldWithValue = listed_and e (λ x. not (own k) && has_value (m o.place.tag))
breaks_by k m text earlier o e AfterBegin = listed_and e (λ x. late k x.writer)

abbrev pub breaks : TextKind → Map → List ℕ → List Place → Object → ObjectFaultKind → Bool
breaks k m text earlier o r = breaks_by k m text earlier o (entry_of o.place.tag) r

-- the first rule, by its number, that is broken
abbrev pub lowest : (ObjectFaultKind → Bool) → Option ObjectFaultKind
lowest b =
    cond (b UnknownTag) (Some UnknownTag)
    (cond (b OtherWriter) (Some OtherWriter)
    (cond (b BadLength) (Some BadLength)
    (cond (b BadDigits) (Some BadDigits)
    (cond (b TagTwice) (Some TagTwice)
    (cond (b HeldWithValue) (Some HeldWithValue)
    (cond (b AfterBegin) (Some AfterBegin) None))))))
