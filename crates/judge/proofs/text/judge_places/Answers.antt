use Rattle.std.proofs.Common.{◌≡◌, ℕ, List, [], IfOk, Ok, Err, Result, sym, ap, ◌∙◌}
use Rattle.tlv.specs.declared.place.Place.{Place}
use Rattle.tlv.specs.Series.{found, meaning}
use Rattle.store.specs.Map.{Map}
use Rattle.judge.specs.declared.fault.ObjectFault.{ObjectFault}
use Rattle.judge.specs.declared.kind.TextKind.{TextKind}
use Rattle.judge.specs.Judge.{judged}
use Rattle.judge.specs.Walk.{walked}
use Rattle.judge.specs.Accepted.{AllFit}
use Rattle.judge.proofs.Judging.{walk_judges}
use Rattle.judge.proofs.Fitting.{accepted_fits}
use Rattle.judge.proofs.text.judge_places.Goals as goal

fit : (k : TextKind) (m : Map) (text : List ℕ) (ps : List Place) → meaning text ≡ found ps → (r : Result (Unit {0}) ObjectFault) → r ≡ judged k m text → IfOk r (λ x. AllFit k m text [] ps)
fit k m text ps read (Ok tt) h = accepted_fits k m text ps read (sym h)
fit k m text ps read (Err f) h = tt

pub returns : goal.returns
returns g c =
    let k = c.args.kind in
    let m = g.S.ReadStore.held c.args.store.now in
    let text = c.args.text.now in
    let ps = c.args.places.now in
    let answer : c.walk.result ≡ judged k m text =
    c.walk.ensures ∙ ap (λ b. walked k m text b [] ps) c.constructed_in.ensures ∙ walk_judges k m text ps c.requires in
    record { answer = answer; accepted = fit k m text ps c.requires c.walk.result answer }
