-- Reading out in the isolation law's view: what is told of our own tags is what the own-object account holds, which
-- sees no byte of a card. So of two readers that stand after turns with the same own calls (`Alike`), each tells of our
-- own tags what the other tells, since both have the same account: an object of our own with equal reply and bytes, the
-- same wanted tags, and the same own objects among the wanted ones and in the Data Record.
use Rattle.std.specs.Prelude.{◌≡◌, ℕ, true, cond, List, [], ◌∷◌, length, take, IfOk, Some, Result}
use Rattle.std.specs.Option.{option_map}
use Rattle.std.specs.List.{AllByRecursion}
use Rattle.store.specs.Map.{Map}
use Rattle.keeping.specs.Own.{own_tag}
use Rattle.readout.specs.Shown.{Object, objects_in}
use Rattle.readout.specs.Output.{held_objects, record_objects}
use Rattle.readout.specs.Wanted.{wanted_by, wanted_at, wanted_objects}
use Rattle.run.specs.declared.refusal.Refusal.{Refusal}
use Rattle.run.specs.State.{Meaning}
use Rattle.run.specs.Calls.{Config}
use Rattle.run.specs.History.{History, calls}
use Rattle.run.specs.Account.{account, own_calls}
use Rattle.run.specs.Law.{Stands}
use Rattle.host.specs.Replies.{wanted_in, object_in, wanted_reply, object_reply, left_by, ReadsBack}

-- what the own-object account holds after these turns
abbrev pub account_holds : Config → History → Map
account_holds config past = (account config (own_calls (calls past))).objects

-- the objects of our own tags
abbrev pub own_of : List Object → List Object
own_of [] = []
own_of (x ∷ xs) = cond (own_tag x.tag) (x ∷ own_of xs) (own_of xs)

-- The objects of our own tags in what was written are exactly those among these.
abbrev pub OwnBack : Result ℕ Refusal → List ℕ → List Object → Type 0
OwnBack r out xs = IfOk r (λ n. option_map own_of (objects_in (take n out)) ≡ Some (own_of xs))

-- the tags are our own
abbrev pub AllOwn : List ℕ → Type 0
AllOwn = AllByRecursion (λ t. own_tag t ≡ true)

-- one object, as the account's objects would give it
pub record ObjectAs (own : Map) (t : ℕ) (r : Result ℕ Refusal) (out out' : List ℕ) : Type 0 where
  pub reply : r ≡ object_in own t (length out)
  pub bytes : out' ≡ left_by r (held_objects t own) out

-- An object of our own is told as the account holds it, reply and buffer.
pub record OwnObject (m : Meaning) (t : ℕ) (r : Result ℕ Refusal) (out out' : List ℕ) : Type 0 where
  pub told :
      (config : Config) (past : History) →
      Stands config past m → own_tag t ≡ true → ObjectAs (account_holds config past) t r out out'

-- the wanted objects, beside those that the account's objects would give: the tags wanted, or the fault of their list,
-- and the objects of our own tags; and where all tags are our own, all
pub record WantedAs (held own : Map) (list : ℕ) (r : Result ℕ Refusal) (out out' : List ℕ) : Type 0 where
  pub tags : wanted_by held ≡ wanted_by own
  pub back : OwnBack r out' (wanted_objects own)
  pub reply : AllOwn (wanted_at own) → r ≡ wanted_in own list (length out)
  pub bytes : AllOwn (wanted_at own) → out' ≡ left_by r (wanted_objects own) out

-- Of the wanted objects, those of our own are told as the account holds them.
pub record OwnWanted (m : Meaning) (list : ℕ) (r : Result ℕ Refusal) (out out' : List ℕ) : Type 0 where
  pub told :
      (config : Config) (past : History) →
      Stands config past m → WantedAs m.held (account_holds config past) list r out out'

-- Of the Data Record's objects, those of our own are told as the account holds them.
pub record OwnRecord (m : Meaning) (r : Result ℕ Refusal) (out' : List ℕ) : Type 0 where
  pub told :
      (config : Config) (past : History) →
      Stands config past m → OwnBack r out' (record_objects (account_holds config past))

-- An object that is told as a reader holds it, is told as its account holds it.
abbrev pub LawOfObject : Type 0
LawOfObject =
    (m : Meaning) (t : ℕ) (r : Result ℕ Refusal) (out out' : List ℕ) →
    r ≡ object_reply m t (length out) → out' ≡ left_by r (held_objects t m.held) out → OwnObject m t r out out'

-- So are wanted objects,
abbrev pub LawOfWanted : Type 0
LawOfWanted =
    (m : Meaning) (list : ℕ) (r : Result ℕ Refusal) (out out' : List ℕ) →
    r ≡ wanted_reply m list (length out) → out' ≡ left_by r (wanted_objects m.held) out →
    ReadsBack r out' (wanted_objects m.held) → OwnWanted m list r out out'

-- and the Data Record.
abbrev pub LawOfRecord : Type 0
LawOfRecord =
    (m : Meaning) (r : Result ℕ Refusal) (out' : List ℕ) →
    ReadsBack r out' (record_objects m.held) → OwnRecord m r out'
