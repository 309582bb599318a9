use Rattle.cast_sending.specs.Marks.{mark_of}
use Rattle.cast_sending.proofs.Parts.{left_out}
use Rattle.cast_sending.proofs.flight.Flight.leave.Goals as goal

pub returns-then-has_entered : goal.returns-then-has_entered
returns-then-has_entered c = left_out c.args.self.now c.note_trip.new.self (mark_of c.args.sent) c.note_trip.ensures
