use Rattle.cast_rules.proofs.Refusing.{refused_leaves, replies_alone}
use Rattle.cast_rules.proofs.laws.refused_leaves.Goals as goal

pub returns : goal.returns
returns c = record { leaves = refused_leaves; replies = replies_alone }
