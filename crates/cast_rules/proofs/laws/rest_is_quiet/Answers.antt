use Rattle.cast_rules.proofs.Quiet.{rest_is_quiet}
use Rattle.cast_rules.proofs.Still.{computed_rest, quiet_stays}
use Rattle.cast_rules.proofs.laws.rest_is_quiet.Goals as goal

pub returns-clause-quiet : goal.returns-clause-quiet
returns-clause-quiet c = rest_is_quiet

pub returns-clause-stays : goal.returns-clause-stays
returns-clause-stays c = quiet_stays

pub returns-clause-computed : goal.returns-clause-computed
returns-clause-computed c = computed_rest
