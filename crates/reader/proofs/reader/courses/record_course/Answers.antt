use Rattle.std.proofs.Common.{sym, ◌∙◌}
use Rattle.store.specs.Map.{empty}
use Rattle.run.specs.Run.{after_record}
use Rattle.keeping.specs.Keeping.{stored_text}
use Rattle.reader.proofs.reader.courses.record_course.Goals as goal

pub returns-clause-course : goal.returns-clause-course
returns-clause-course g c = λ roomy.
    let t = c.in_ok-card_text.ensures in
    c.after_record.ensures.course c.requires.wide c.args.shares.now (t.roomy roomy) (stored_text c.args.text.now empty) ∙ sym (t.course c.requires.long roomy (after_record c.args.left.now))
