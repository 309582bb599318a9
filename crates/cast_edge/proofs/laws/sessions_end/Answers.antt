use Rattle.cast_edge.proofs.Staying.{no_end_is_forgotten}
use Rattle.cast_edge.proofs.Once.{none_is_asked_twice}
use Rattle.cast_edge.proofs.laws.sessions_end.Goals as goal

pub returns : goal.returns
returns c = record { kept = no_end_is_forgotten; once = none_is_asked_twice }
