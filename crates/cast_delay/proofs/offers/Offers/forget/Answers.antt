use Rattle.cast_delay.proofs.Orderly.{orderly_left}
use Rattle.cast_delay.proofs.offers.Offers.forget.Goals as goal

pub invariant_of-self : goal.invariant_of-self
invariant_of-self c =
    orderly_left c.self.inside.above c.args.key c.self.inside.messages.items c.forget_found.new.messages.items c.self.invariant
    c.forget_found.ensures.items
