use Rattle.std.proofs.Common.{rules}
use Rattle.cast_delay.proofs.Queues.{passed_is}
use Rattle.cast_delay.proofs.queue.Delay.delivered_prefix.Goals as goal

pub returns-in-None-clause-meaning : goal.returns-in-None-clause-meaning
returns-in-None-clause-meaning c = passed_is c.args.self.now c.args.process c.args.group c.args.view c.args.ids.now 0 (search rules)

pub returns-in-Some-clause-meaning : goal.returns-in-Some-clause-meaning
returns-in-Some-clause-meaning c =
    passed_is c.args.self.now c.args.process c.args.group c.args.view c.args.ids.now c.delivered_prefix.result (search rules)
