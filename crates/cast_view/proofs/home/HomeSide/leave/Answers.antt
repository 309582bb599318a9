use Rattle.cast_types.specs.Names.{proc_eq}
use Rattle.cast_types.specs.Sets.{without}
use Rattle.cast_view.specs.contracts.home.HomeSide.{the_view}
use Rattle.cast_view.proofs.Rooms.{sound_joins, without_fewer}
use Rattle.cast_view.proofs.home.HomeSide.leave.Goals as goal

-- where fewer are to come there is still room
pub invariant_of-self : goal.invariant_of-self
invariant_of-self c =
    rw c.remove.ensures
    (sound_joins (the_view c.self.inside) (without proc_eq c.args.process c.self.inside.joins)
    (λ p. without_fewer c.args.process p c.self.inside.joins) c.self.invariant)
