use Rattle.std.proofs.Common.{◌≡◌, false, subst, sym}
use Rattle.cast_view.specs.Home.{is_crowded}
use Rattle.cast_view.specs.contracts.home.HomeSide.{the_view}
use Rattle.cast_view.proofs.Rooms.{sound_joined}
use Rattle.cast_view.proofs.home.HomeSide.join.Goals as goal

-- a process that is not crowded has room
pub invariant_of-self-2 : goal.invariant_of-self-2
invariant_of-self-2 c =
    rw c.in_ok-insert.ensures.ok
    (sound_joined (the_view c.self.inside) c.args.process (subst (λ h. is_crowded h c.args.process ≡ false) (sym c.self.view_is) c.requires)
    c.self.invariant)
