use Rattle.std.proofs.Common.{◌≡◌, false, subst, sym}
use Rattle.cast_view.specs.Home.{is_crowded, is_refused}
use Rattle.cast_view.proofs.Rooms.{join_fits}
use Rattle.cast_view.proofs.home.HomeSide.change.Goals as goal

-- for a join that is not refused there is room, also once the process is marked
pub join-requires : goal.join-requires
join-requires c =
    subst (λ h. is_crowded h c.args.process ≡ false) (sym c.in_ok-mark_leaving.ensures)
    (join_fits c.args.self.now c.args.process
    (subst (λ what. is_refused c.args.self.now c.args.process.site what c.args.process ≡ false) c.in-Join.is c.requires))
