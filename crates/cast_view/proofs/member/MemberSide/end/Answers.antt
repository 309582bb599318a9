use Rattle.cast_view.specs.contracts.member.MemberSide.{the_view}
use Rattle.cast_view.proofs.Sides.{sound_with_end}
use Rattle.cast_view.proofs.member.MemberSide.end.Goals as goal

pub invariant_of-self : goal.invariant_of-self
invariant_of-self c = sound_with_end (the_view c.self.inside) c.args.number c.args.view c.self.invariant
