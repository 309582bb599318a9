use Rattle.cast_record.proofs.Apart.{domains_are_apart}
use Rattle.cast_record.proofs.Selections.{one_of_all}
use Rattle.cast_record.proofs.laws.domains_are_apart.Goals as goal

pub returns-clause-one : goal.returns-clause-one
returns-clause-one c = one_of_all

pub returns-clause-apart : goal.returns-clause-apart
returns-clause-apart c = domains_are_apart
