use Rattle.std.proofs.Common.{rules}
use Rattle.cast_types.specs.declared.names.Standing.TheVariants.{Outside}
use Rattle.cast_delay.proofs.Queues.{standing_is}
use Rattle.cast_delay.proofs.queue.Delay.standing.Goals as goal

pub returns-in-Some-clause-meaning : goal.returns-in-Some-clause-meaning
returns-in-Some-clause-meaning c = standing_is c.args.self.now c.args.process c.args.group c.standing.result (search rules)

pub returns-in-None-clause-meaning : goal.returns-in-None-clause-meaning
returns-in-None-clause-meaning c = standing_is c.args.self.now c.args.process c.args.group Outside (search rules)
