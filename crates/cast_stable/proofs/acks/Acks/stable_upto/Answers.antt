use Rattle.std.proofs.Common.{rules}
use Rattle.cast_stable.proofs.Meanings.{upto_means}
use Rattle.cast_stable.proofs.acks.Acks.stable_upto.Goals as goal

pub returns-clause-meaning : goal.returns-clause-meaning
returns-clause-meaning c = upto_means c.args.self.now c.args.id _ (search rules)
