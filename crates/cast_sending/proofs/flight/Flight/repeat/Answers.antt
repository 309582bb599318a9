use Rattle.std.proofs.Common.{ap}
use Rattle.cast_sending.specs.Flights.{Flying}
use Rattle.cast_sending.proofs.Parts.{answers_sent}
use Rattle.cast_sending.proofs.flight.Flight.repeat.Goals as goal

pub returns : goal.returns
returns c =
    let inside = c.self.inside in
    answers_sent c.args.self.now c.take.new.self c.args.outs.now c.send.new.outs inside.domain inside.site c.in-Some.message c.send.result
    (ap (λ (f : Flying). f.domain) c.self.view_is) (ap (λ (f : Flying). f.site) c.self.view_is) c.in-Some.ensures c.send.ensures.frames
    c.send.ensures.rest
