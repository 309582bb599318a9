use Rattle.cast_rules.proofs.RaisingSteps.{members_counted, raised_after, raised_within, runs_passed}
use Rattle.cast_rules.proofs.laws.counts_can_be_raised.Goals as goal

pub returns : goal.returns
returns c = record { raised = raised_after; within = raised_within; counted = members_counted; passed = runs_passed }
