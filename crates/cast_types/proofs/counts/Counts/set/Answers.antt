use Rattle.cast_types.proofs.CountLists.{counts-put}
use Rattle.cast_types.proofs.counts.Counts.set.Goals as goal

pub invariant_of-self-2 : goal.invariant_of-self-2
invariant_of-self-2 c =
    rw c.in_ok-put.ensures.ok
    (counts-put c.self.inside.entries.items c.args.process c.args.count c.self.invariant c.requires.positive
    (rw (← c.self.view_is) at c.requires.room))
