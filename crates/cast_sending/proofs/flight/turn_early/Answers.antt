use Rattle.std.proofs.Common.{refl, ap}
use Rattle.cast_sending.specs.Flights.{Mark}
use Rattle.cast_sending.specs.Marks.{mark_of, marks_of}
use Rattle.cast_sending.proofs.Parts.{known_last, known_moved, known_popped, known_turned}
use Rattle.cast_sending.proofs.flight.turn_early.Goals as goal

pub returns-then-ne-clause-known : goal.returns-then-ne-clause-known
returns-then-ne-clause-known c =
    known_last (marks_of c.args.sent.now.items) (marks_of c.add.new.line.items) (marks_of c.args.early.now.items)
    (known_turned (marks_of c.args.early.now.items) (marks_of c.pop_front.new.self.items) (marks_of c.add.new.line.items)
    (mark_of c.in-Some.kept)
    (mark_of c.in-Some.kept) (ap marks_of c.in-Some.ensures.items) refl c.add.ensures.part)

pub returns-then-id-view-2-clause-known : goal.returns-then-id-view-2-clause-known
returns-then-id-view-2-clause-known c =
    known_moved (marks_of c.args.sent.now.items) (marks_of c.args.early.now.items) (marks_of c.pop_front.new.self.items)
    (marks_of c.add-then-id-view-2.new.line.items) (mark_of c.in-Some.kept) (mark_of c.begin_anew.result)
    (ap marks_of c.in-Some.ensures.items)
    (ap (λ (m : Mark). m.0) c.begin_anew.ensures) c.add-then-id-view-2.ensures.part

pub returns-clause-known : goal.returns-clause-known
returns-clause-known c =
    known_last (marks_of c.args.sent.now.items) (marks_of c.pop_front.new.self.items) (marks_of c.args.early.now.items)
    (known_popped (marks_of c.args.early.now.items) (marks_of c.pop_front.new.self.items) (mark_of c.in-Some.kept)
    (ap marks_of c.in-Some.ensures.items))
