use Rattle.cast_isolation.proofs.Agreeing.{own_events_decide}
use Rattle.cast_isolation.proofs.laws.own_events_decide.Goals as goal

pub returns : goal.returns
returns c = own_events_decide
