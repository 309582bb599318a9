use Rattle.std.proofs.Common.{false}
use Rattle.cast_timer.proofs.Rows.{holds_dropped, holds_filled}
use Rattle.cast_timer.proofs.moments.take.Goals as goal

pub returns-then-take_key : goal.returns-then-take_key
returns-then-take_key c =
    holds_dropped c.args.moment.now c.args.key.now c.args.moments.now.entries c.take_key.new.moments.entries c.remove.new.self.entries
    c.take_key.ensures.taken (c.take_key.ensures.empty c.if-take_key.true) c.remove.ensures.updates.0 c.remove.ensures.ordered

pub returns-else-take_key : goal.returns-else-take_key
returns-else-take_key c =
    holds_filled c.args.moment.now c.args.key.now false c.args.moments.now.entries c.take_key.new.moments.entries c.take_key.ensures.taken
    (c.take_key.ensures.left c.if-take_key.false)
