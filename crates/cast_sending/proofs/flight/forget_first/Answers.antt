use Rattle.std.proofs.Common.{ap}
use Rattle.cast_sending.specs.Marks.{mark_of, marks_of}
use Rattle.cast_sending.proofs.Parts.{part_popped}
use Rattle.cast_sending.proofs.flight.forget_first.Goals as goal

pub returns-in-Some-clause-part : goal.returns-in-Some-clause-part
returns-in-Some-clause-part c =
    part_popped (marks_of c.args.line.now.items) (marks_of c.pop_front.new.self.items) (mark_of c.in-Some.sent)
    (ap marks_of c.in-Some.ensures.items)
