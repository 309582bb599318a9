use Rattle.std.proofs.Common.{◌≡◌, ◌<◌, true, List, length, get_or, Option, unwrap_or, ap, sym, ◌∙◌}
use Rattle.std.specs.FinMap.Entries.{find}
use Rattle.std.proofs.lemmas.List.{get_or_default}
use Rattle.cast_types.specs.declared.names.GroupNo.{GroupNo}
use Rattle.cast_types.specs.declared.names.Standing.{Standing}
use Rattle.cast_types.specs.declared.names.Standing.TheVariants.{Outside}
use Rattle.cast_types.specs.Names.{group_cmp}
use Rattle.cast_clock.proofs.News.{all_goes}
use Rattle.cast_ready.specs.Ready.{is_member}
use Rattle.cast_ready.specs.Rows.{standing_in}
use Rattle.cast_ready.proofs.row.Row.is_member_of_all.Goals as goal

-- the process is a member of the group that is looked at
pub loop-group-preserved : goal.loop-group-preserved
loop-group-preserved c =
    let row = c.args.self.now in
    let groups = c.args.groups.now in
    let i = c.loop-group.group-index in
    let none : GroupNo = record { 0 = 0 } in
    let g : GroupNo = get_or groups i none in
    let at : i < length groups = c.loop-group-test.true in
    let held : is_member (standing_in row g) ≡ true =
    ap (λ (l : List (GroupNo × Standing)). is_member (unwrap_or (find group_cmp g l) Outside)) (sym c.entries-standings.ensures)
    ∙ ap (λ (o : Option Standing). is_member (unwrap_or o Outside)) (sym c.find_near-next.ensures)
    ∙ sym c.is_membership.ensures
    ∙ c.if-not-is_membership.false in
    all_goes (λ x. is_member (standing_in row x)) groups i g at (get_or_default groups i none g at) c.loop-group.invariant held
