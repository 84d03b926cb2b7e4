use Rattle.std.proofs.Common.{ℕ, ◌<◌, length, IfOk, Ok, Err, Result, ◌∙◌, arith}
use Rattle.run.specs.declared.fault.Cause.{Cause}
use Rattle.stages.specs.declared.next.Next.{Next}
use Rattle.stages.specs.declared.next.Next.TheVariants.{Options, Record, Cryptogram, End}
use Rattle.stages.specs.Nexts.{IsRecord, IsOnward}
use Rattle.stages.proofs.Leaving.{next_of}
use Rattle.stages.proofs.record.ask_next.Goals as goal

-- a record that is asked for, of some that are left
onward : (r : Result Next Cause) (k : ℕ) → 0 < k → IfOk r (IsRecord k) → IfOk r (IsOnward k)
onward (Err x) k some h = tt
onward (Ok (Options n)) k some h = h
onward (Ok (Record n left)) k some h = (h, some)
onward (Ok (Cryptogram n requested)) k some h = absurd h
onward (Ok (End o)) k some h = h

pub returns : goal.returns
returns c =
    let e = c.ask_first.ensures in
    record {
      course = λ wide held brought. e.course wide c.args.left.now held ∙ next_of c.args.left.now _ held brought (omega (arith, c.requires));
      rest = e.rest;
      fits = e.fits;
      shape = onward c.ask_first.result (length c.args.left.now) (omega (arith, c.requires)) e.shape;
    }
