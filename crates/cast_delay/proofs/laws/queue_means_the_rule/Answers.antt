use Rattle.cast_delay.proofs.Queues.{row_rules, turn_rules, next_rules, awaited_by, delivered_by}
use Rattle.cast_delay.proofs.laws.queue_means_the_rule.Goals as goal

pub returns-clause-row : goal.returns-clause-row
returns-clause-row c = row_rules

pub returns-clause-turn : goal.returns-clause-turn
returns-clause-turn c = turn_rules

pub returns-clause-next : goal.returns-clause-next
returns-clause-next c = next_rules

pub returns-clause-awaited : goal.returns-clause-awaited
returns-clause-awaited c = awaited_by

pub returns-clause-delivered : goal.returns-clause-delivered
returns-clause-delivered c = delivered_by
