use Rattle.std.proofs.Common.{subst, ◌<◌, ◌≡◌, true, IfSome}
use Rattle.cast_types.specs.declared.limits.TheConstants.{MAX_NUMBER}
use Rattle.cast_view.specs.contracts.member.MemberSide.{the_view}
use Rattle.cast_view.proofs.Sides.{pending_next, pending_frozen}
use Rattle.cast_view.proofs.member.MemberSide.pending_install.Goals as goal

pub returns-clause-next : goal.returns-clause-next
returns-clause-next c =
    subst (λ g. IfSome g.pending (λ _. g.number < MAX_NUMBER)) c.self.view_is (pending_next (the_view c.self.inside) c.self.invariant)

pub returns-clause-frozen : goal.returns-clause-frozen
returns-clause-frozen c =
    subst (λ g. IfSome g.pending (λ _. g.frozen ≡ true)) c.self.view_is (pending_frozen (the_view c.self.inside) c.self.invariant)
