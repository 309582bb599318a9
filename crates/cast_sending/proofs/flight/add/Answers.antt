use Rattle.cast_sending.specs.Marks.{mark_of, marks_of}
use Rattle.cast_sending.proofs.Parts.{part_added}
use Rattle.cast_sending.proofs.flight.add.Goals as goal

pub returns-then-len-ge-MOST-clause-part : goal.returns-then-len-ge-MOST-clause-part
returns-then-len-ge-MOST-clause-part c =
    part_added (marks_of c.args.line.now.items) (marks_of c.forget_first.new.line.items) (marks_of c.push.new.line.items)
    (mark_of c.args.sent)
    c.forget_first.ensures.part c.push.ensures.part
