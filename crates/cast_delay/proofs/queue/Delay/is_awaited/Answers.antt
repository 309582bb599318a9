use Rattle.std.proofs.Common.{rules}
use Rattle.cast_delay.proofs.Queues.{awaited_means}
use Rattle.cast_delay.proofs.queue.Delay.is_awaited.Goals as goal

pub returns-clause-meaning : goal.returns-clause-meaning
returns-clause-meaning c = awaited_means c.args.self.now c.args.id c.is_awaited.result (search rules)
