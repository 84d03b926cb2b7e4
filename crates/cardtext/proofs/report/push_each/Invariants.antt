use Rattle.std.proofs.Common.{◌≡◌, ◌++◌, drop, vec_items}
use Rattle.cardtext.specs.Report.{object_lines}
use Rattle.cardtext.proofs.report.push_each.Given as goal

abbrev pub invariant-loop-place : goal.invariant-loop-place
invariant-loop-place l = vec_items l.out ++ object_lines l.text (drop l.place-index l.places) ≡ vec_items l.initial.out ++ object_lines l.text l.places
