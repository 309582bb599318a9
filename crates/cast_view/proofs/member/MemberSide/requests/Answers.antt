use Rattle.std.proofs.Common.{subst, ◌≡◌, true}
use Rattle.cast_view.specs.MemberSide.{are_numbered_to}
use Rattle.cast_view.specs.contracts.member.MemberSide.{the_view}
use Rattle.cast_view.proofs.Sides.{sound_parts}
use Rattle.cast_view.proofs.member.MemberSide.requests.Goals as goal

pub returns-clause-numbered : goal.returns-clause-numbered
returns-clause-numbered c =
    subst (λ g. are_numbered_to g.asked g.requests ≡ true) c.self.view_is (sound_parts (the_view c.self.inside) c.self.invariant).2
