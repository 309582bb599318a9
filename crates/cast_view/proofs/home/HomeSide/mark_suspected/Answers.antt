use Rattle.cast_types.specs.Names.{site_cmp}
use Rattle.cast_types.specs.Sets.{with_item}
use Rattle.cast_view.specs.contracts.home.HomeSide.{the_view}
use Rattle.cast_view.proofs.Rooms.{sound_suspected, with_more_sites}
use Rattle.cast_view.proofs.home.HomeSide.mark_suspected.Goals as goal

-- where more sites are suspected there is still room
pub invariant_of-self : goal.invariant_of-self
invariant_of-self c =
    rw c.in_ok-insert_site.ensures.ok
    (sound_suspected (the_view c.self.inside) (with_item site_cmp c.args.site c.self.inside.suspected.items)
    (λ s. with_more_sites c.args.site s c.self.inside.suspected.items) c.self.invariant)
