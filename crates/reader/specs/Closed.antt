-- Puts and drops in the store of a reader, which an open reader refuses.
use Rattle.std.specs.Prelude.{ℕ, Bool, cond, List, is_some, Some, None, Ok, Err, Result}
use Rattle.store.specs.Map.{Map, changed}
use Rattle.store.specs.Answer.{put_answer}
use Rattle.store.specs.declared.writing.Refused.{Refused}
use Rattle.run.specs.declared.refusal.Refusal.{Refusal}
use Rattle.run.specs.declared.refusal.Refusal.TheVariants.{AlreadyOpen}
use Rattle.run.specs.State.{Meaning}
use Rattle.reader.specs.declared.reader.closed.PutRefusal.{PutRefusal}
use Rattle.reader.specs.declared.reader.closed.PutRefusal.TheVariants.{Open, Store}

-- the store's answer
abbrev pub closed_put_told : Result (Unit {0}) Refused → Result (Unit {0}) PutRefusal
closed_put_told (Ok x) = Ok x
closed_put_told (Err e) = Err (Store e)

-- what a put answers: an open reader refuses, and else the store answers
abbrev pub closed_put_answer : Meaning → ℕ → List ℕ → Result (Unit {0}) PutRefusal
closed_put_answer m t v = cond m.opened (Err Open) (closed_put_told (put_answer m.limits.objects m.limits.bytes m.held t v))

-- what is held after that answer
abbrev pub closed_put_after : Result (Unit {0}) PutRefusal → Map → ℕ → List ℕ → Map
closed_put_after (Ok x) held t v = changed held t (Some v)
closed_put_after (Err e) held t v = held

-- what a drop answers: an open reader refuses, and else whether the tag was held
abbrev pub remove_answer : Meaning → ℕ → Result Bool Refusal
remove_answer m t = cond m.opened (Err AlreadyOpen) (Ok (is_some (m.held t)))

-- what is held after that answer
abbrev pub remove_after : Result Bool Refusal → Map → ℕ → Map
remove_after (Ok b) held t = changed held t None
remove_after (Err e) held t = held
