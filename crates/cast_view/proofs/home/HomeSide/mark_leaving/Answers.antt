use Rattle.cast_types.specs.Names.{proc_cmp}
use Rattle.cast_types.specs.Sets.{with_item}
use Rattle.cast_view.specs.contracts.home.HomeSide.{the_view}
use Rattle.cast_view.proofs.Rooms.{sound_leaving, with_more}
use Rattle.cast_view.proofs.home.HomeSide.mark_leaving.Goals as goal

-- where more are leaving there is still room
pub invariant_of-self : goal.invariant_of-self
invariant_of-self c =
    rw c.in_ok-insert.ensures.ok
    (sound_leaving (the_view c.self.inside) (with_item proc_cmp c.args.process c.self.inside.leavings)
    (λ p. with_more c.args.process p c.self.inside.leavings) c.self.invariant)
