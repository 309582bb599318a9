use Rattle.cast_stable.proofs.Meanings.{upto_meant, stable_meant}
use Rattle.cast_stable.proofs.laws.records_mean_the_rule.Goals as goal

pub returns-clause-upto : goal.returns-clause-upto
returns-clause-upto c = upto_meant

pub returns-clause-stable : goal.returns-clause-stable
returns-clause-stable c = stable_meant
