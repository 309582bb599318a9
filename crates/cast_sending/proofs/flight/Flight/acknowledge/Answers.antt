use Rattle.std.proofs.Common.{subst}
use Rattle.cast_sending.specs.Flights.{Flying, Acknowledges}
use Rattle.cast_sending.proofs.Parts.{nothing_acknowledged, flying}
use Rattle.cast_sending.proofs.flight.Flight.acknowledge.Goals as goal

pub returns-in_default : goal.returns-in_default
returns-in_default c =
    let inside = c.self.inside in
    let old = flying inside.domain inside.site inside.sent.items inside.early.items in
    subst (λ (f : Flying). Acknowledges f c.args.id c.new-outs.result old) c.self.view_is
    (nothing_acknowledged old c.args.id c.new-outs.result c.in_default.ensures c.new-outs.ensures)
