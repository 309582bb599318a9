use Rattle.cast_view.specs.contracts.member.MemberSide.{the_view}
use Rattle.cast_view.proofs.Sides.{sound_with_request}
use Rattle.cast_view.proofs.member.MemberSide.ask.Goals as goal

pub invariant_of-self : goal.invariant_of-self
invariant_of-self c = rw c.in_err-push.ensures.err c.self.invariant

pub invariant_of-self-2 : goal.invariant_of-self-2
invariant_of-self-2 c =
    rw c.in_ok-push.ensures.ok (sound_with_request (the_view c.self.inside) c.args.change c.args.proc c.self.invariant)
