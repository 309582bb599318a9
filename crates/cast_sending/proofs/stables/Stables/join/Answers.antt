use Rattle.std.proofs.Common.{◌≡◌, true, subst, sym}
use Rattle.cast_sending.specs.Stables.{are_stables}
use Rattle.cast_sending.proofs.Waits.{joined_stables}
use Rattle.cast_sending.proofs.stables.Stables.join.Goals as goal

pub invariant_of-self : goal.invariant_of-self
invariant_of-self c =
    joined_stables c.join_all-others.ensures
    (subst (λ v. are_stables v.items ≡ true) (sym c.replace-waiting.ensures.value) c.self.invariant)
