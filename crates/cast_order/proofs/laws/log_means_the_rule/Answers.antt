use Rattle.cast_order.proofs.Meanings.{next_rules, length_rules, past_rules, assign_rules, whole_rules, tail_rules}
use Rattle.cast_order.proofs.laws.log_means_the_rule.Goals as goal

pub returns-clause-next : goal.returns-clause-next
returns-clause-next c = next_rules

pub returns-clause-length : goal.returns-clause-length
returns-clause-length c = length_rules

pub returns-clause-past : goal.returns-clause-past
returns-clause-past c = past_rules

pub returns-clause-assign : goal.returns-clause-assign
returns-clause-assign c = assign_rules

pub returns-clause-whole : goal.returns-clause-whole
returns-clause-whole c = whole_rules

pub returns-clause-tail : goal.returns-clause-tail
returns-clause-tail c = tail_rules
