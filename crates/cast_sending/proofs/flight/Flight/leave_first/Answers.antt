use Rattle.std.proofs.Common.{[], refl, ap, subst}
use Rattle.cast_sending.specs.Flights.{Flying, Repeats}
use Rattle.cast_sending.specs.Marks.{mark_of, marks_of}
use Rattle.cast_sending.proofs.Parts.{first_left, flying}
use Rattle.cast_sending.proofs.flight.Flight.leave_first.Goals as goal

pub returns : goal.returns
returns c =
    let inside = c.self.inside in
    let old = flying inside.domain inside.site inside.sent.items inside.early.items in
    let between = flying inside.domain inside.site c.pop_front.new.self.items inside.early.items in
    subst (λ (f : Flying). Repeats f c.leave.new.self []) c.self.view_is
    (first_left old between c.leave.new.self (mark_of c.in-Some.sent) (ap marks_of c.in-Some.ensures.items) refl refl refl c.leave.ensures)
