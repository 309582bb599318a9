use Rattle.std.proofs.Common.{rules}
use Rattle.cast_delay.proofs.Queues.{time_is, no_row_is}
use Rattle.cast_delay.proofs.queue.Delay.time.Goals as goal

pub returns-in-Some-clause-meaning : goal.returns-in-Some-clause-meaning
returns-in-Some-clause-meaning c = time_is c.args.self.now c.args.process c.in-Some.row.now (search rules)

pub returns-in-None-clause-meaning : goal.returns-in-None-clause-meaning
returns-in-None-clause-meaning c = no_row_is c.args.self.now c.args.process (search rules)
