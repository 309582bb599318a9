use Rattle.std.proofs.Common.{[], subst}
use Rattle.cast_sending.specs.Flights.{Flying, Repeats}
use Rattle.cast_sending.proofs.Parts.{ticks_answer}
use Rattle.cast_sending.proofs.flight.Flight.tick.Goals as goal

pub returns : goal.returns
returns c =
    ticks_answer c.args.self.now c.forget.new.self c.repeat_late.new.self c.new-outs.result c.repeat_late.new.outs
    (subst (λ (f : Flying). Repeats f c.forget.new.self []) c.self.view_is c.forget.ensures) c.new-outs.ensures c.repeat_late.ensures
