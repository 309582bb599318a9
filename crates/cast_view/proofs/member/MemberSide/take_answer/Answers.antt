use Rattle.cast_view.specs.contracts.member.MemberSide.{the_view}
use Rattle.cast_view.proofs.Sides.{sound_with_answer}
use Rattle.cast_view.proofs.member.MemberSide.take_answer.Goals as goal

pub invariant_of-self : goal.invariant_of-self
invariant_of-self c =
    rw (c.from_vec.ensures, c.remove.ensures.items, c.into_vec-requests.ensures, c.replace.ensures.value)
    (sound_with_answer (the_view c.self.inside) c.self.invariant)
