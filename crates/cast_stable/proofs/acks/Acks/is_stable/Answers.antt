use Rattle.std.proofs.Common.{rules}
use Rattle.cast_stable.proofs.Meanings.{is_stable_means}
use Rattle.cast_stable.proofs.acks.Acks.is_stable.Goals as goal

pub returns-then-eq-clause-meaning : goal.returns-then-eq-clause-meaning
returns-then-eq-clause-meaning c = is_stable_means c.args.self.now c.args.id _ (search rules)

pub returns-clause-meaning : goal.returns-clause-meaning
returns-clause-meaning c = is_stable_means c.args.self.now c.args.id _ (search rules)
