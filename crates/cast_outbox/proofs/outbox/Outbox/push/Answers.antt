use Rattle.std.proofs.Common.{rules}
use Rattle.cast_outbox.proofs.outbox.Outbox.push.Goals as goal

pub returns-in_ok-push_back-2-clause-value : goal.returns-in_ok-push_back-2-clause-value
returns-in_ok-push_back-2-clause-value c = search rules

pub returns-in_ok-push_back-2-clause-ok : goal.returns-in_ok-push_back-2-clause-ok
returns-in_ok-push_back-2-clause-ok c = search rules

pub returns-in_ok-push_back-clause-value : goal.returns-in_ok-push_back-clause-value
returns-in_ok-push_back-clause-value c = search rules

pub returns-in_ok-push_back-clause-ok : goal.returns-in_ok-push_back-clause-ok
returns-in_ok-push_back-clause-ok c = search rules
