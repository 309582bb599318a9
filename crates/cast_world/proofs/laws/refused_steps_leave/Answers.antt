use Rattle.cast_world.proofs.Refused as lemma
use Rattle.cast_world.proofs.laws.refused_steps_leave.Goals as goal

pub returns : goal.returns
returns c = record { leaves = lemma.all_refused_leave; replies = lemma.all_refused_reply }
