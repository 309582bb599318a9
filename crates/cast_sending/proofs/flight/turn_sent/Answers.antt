use Rattle.std.proofs.Common.{refl, ap}
use Rattle.cast_sending.specs.Flights.{Mark}
use Rattle.cast_sending.specs.Marks.{mark_of, marks_of}
use Rattle.cast_sending.proofs.Parts.{known_popped, known_turned}
use Rattle.cast_sending.proofs.flight.turn_sent.Goals as goal

pub returns-then-id-view-clause-known : goal.returns-then-id-view-clause-known
returns-then-id-view-clause-known c =
    known_popped (marks_of c.args.line.now.items) (marks_of c.pop_front.new.self.items) (mark_of c.in-Some.sent)
    (ap marks_of c.in-Some.ensures.items)

pub returns-then-sent-lt-REPEATS-clause-known : goal.returns-then-sent-lt-REPEATS-clause-known
returns-then-sent-lt-REPEATS-clause-known c =
    known_turned (marks_of c.args.line.now.items) (marks_of c.pop_front.new.self.items) (marks_of c.add.new.line.items)
    (mark_of c.in-Some.sent)
    (mark_of c.begin_anew.result) (ap marks_of c.in-Some.ensures.items) (ap (λ (m : Mark). m.0) c.begin_anew.ensures) c.add.ensures.part

pub returns-clause-known : goal.returns-clause-known
returns-clause-known c =
    known_turned (marks_of c.args.line.now.items) (marks_of c.pop_front.new.self.items) (marks_of c.add-2.new.line.items)
    (mark_of c.in-Some.sent)
    (mark_of c.in-Some.sent) (ap marks_of c.in-Some.ensures.items) refl c.add-2.ensures.part
