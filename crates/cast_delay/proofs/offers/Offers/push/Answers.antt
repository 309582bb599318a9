use Rattle.cast_delay.proofs.Orderly.{orderly_more}
use Rattle.cast_delay.proofs.offers.Offers.push.Goals as goal

pub invariant_of-self-2 : goal.invariant_of-self-2
invariant_of-self-2 c =
    rw c.in_ok-push_back.ensures.items (orderly_more c.self.inside.above c.above_with-above.result c.self.inside.messages.items
    c.args.offered c.self.invariant c.above_with-above.ensures)
