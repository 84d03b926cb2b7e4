use Rattle.std.proofs.Common.{◌≡◌, ℕ, List, length, Some, None, Ok, Err, Result, is_err, ap, ◌∙◌, refl, true, rules}
use Rattle.std.proofs.lemmas.Bool.{false≢true}
use Rattle.keyed.specs.declared.record.Record.{Record}
use Rattle.keyed.specs.Elements.{elements, memory}
use Rattle.afl.specs.declared.locator.AflFault.{AflFault}
use Rattle.afl.specs.Afl.{records_of, counted, front}
use Rattle.afl.specs.Steps.{afl_from}
use Rattle.afl.proofs.Gathering.{some_of}
use Rattle.afl.proofs.Naming.{afl_is}
use Rattle.afl.proofs.Once.{each_once, in_files}
use Rattle.afl.proofs.locator.read_afl.Goals as goal
use Rattle.afl.proofs.locator.read_afl.Goals.{After-new-list}

-- what is read into the new list is what the AFL names
read : (c : After-new-list) → afl_from (length (memory c.new-list.result)) (elements c.new-list.result) c.args.afl.now ≡ records_of c.args.afl.now
read c =
    let room : length c.args.records.now ≡ 64 = search rules in
    ap (λ xs. afl_from (length xs) (elements c.new-list.result) c.args.afl.now) c.new-list.ensures.memory
    ∙ ap (λ n. afl_from n (elements c.new-list.result) c.args.afl.now) room
    ∙ ap (λ xs. afl_from 64 xs c.args.afl.now) c.new-list.ensures.elements
    ∙ afl_is c.args.afl.now

failed : (r : Result ℕ AflFault) (xs : List Record) → is_err r ≡ true → (r ≡ counted None) × (front r xs ≡ None)
failed (Ok n) xs e = absurd (false≢true e)
failed (Err f) xs e = (refl, refl)

pub returns : goal.returns
returns c =
    let is : Some (elements c.add_spans.new.list) ≡ records_of c.args.afl.now = c.in_ok-add_spans.ensures.added ∙ read (goal.at.returns c).After-new-list in
    record {
      value = ap Ok c.len.ensures.value ∙ ap counted is;
      front = some_of _ (elements c.add_spans.new.list) _ (search rules) is;
      once = each_once c.args.afl.now;
      files = in_files c.args.afl.now;
    }

pub returns-in_err-add_spans : goal.returns-in_err-add_spans
returns-in_err-add_spans c =
    let is : None ≡ records_of c.args.afl.now = c.in_err-add_spans.ensures.added ∙ read (goal.at.returns-in_err-add_spans c).After-new-list in
    let f = failed c.from_residual.result _ c.from_residual.ensures.0 in
    record {
      value = f.0 ∙ ap counted is;
      front = f.1 ∙ is;
      once = each_once c.args.afl.now;
      files = in_files c.args.afl.now;
    }
