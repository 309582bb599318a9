use Rattle.std.proofs.Common.{◌≡◌, Some, rules}
use Rattle.cast_delay.specs.Queue.{offered_under}
use Rattle.cast_delay.proofs.rows.deliver_in.Goals as goal

pub deliver_found-requires-clause-low : goal.deliver_found-requires-clause-low
deliver_found-requires-clause-low c = λ row there.
    let at : offered_under c.args.offered.now c.args.key ≡ Some c.in-Some.message.now = search rules in
    c.requires.low row there c.in-Some.message.now at
