use Rattle.std.proofs.Common.{refl, subst}
use Rattle.cast_sending.specs.Flights.{Flying, GoesAgain}
use Rattle.cast_sending.specs.Marks.{mark_of}
use Rattle.cast_sending.proofs.Parts.{again_sent, again_left, flying}
use Rattle.cast_sending.proofs.flight.Flight.go_again.Goals as goal

pub returns-then-sent-gt0 : goal.returns-then-sent-gt0
returns-then-sent-gt0 c =
    let inside = c.self.inside in
    let old = flying inside.domain inside.site inside.sent.items inside.early.items in
    let new = flying inside.domain inside.site c.add.new.line.items inside.early.items in
    subst (λ (f : Flying). GoesAgain f (mark_of c.args.sent) new) c.self.view_is
    (again_sent old new (mark_of c.args.sent) refl refl c.add.ensures.part refl)

pub returns : goal.returns
returns c = again_left c.args.self.now c.leave.new.self (mark_of c.args.sent) c.leave.ensures
