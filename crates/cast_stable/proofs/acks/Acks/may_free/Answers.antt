use Rattle.std.proofs.Common.{rules}
use Rattle.cast_stable.proofs.Meanings.{may_free_means}
use Rattle.cast_stable.proofs.acks.Acks.may_free.Goals as goal

pub returns-then-is_stable-clause-meaning : goal.returns-then-is_stable-clause-meaning
returns-then-is_stable-clause-meaning c = may_free_means c.args.self.now c.args.id c.args.is_awaited _ (search rules)

pub returns-else-is_stable-clause-meaning : goal.returns-else-is_stable-clause-meaning
returns-else-is_stable-clause-meaning c = may_free_means c.args.self.now c.args.id c.args.is_awaited _ (search rules)
