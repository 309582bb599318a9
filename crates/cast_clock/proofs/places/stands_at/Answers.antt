use Rattle.std.proofs.Common.{◌≡◌, ◌<◌, get_or, length, sym, ◌∙◌, arith}
use Rattle.std.proofs.lemmas.List.{get_or_default}
use Rattle.cast_types.specs.declared.names.GroupNo.{GroupNo}
use Rattle.cast_types.proofs.Orders.{same_group}
use Rattle.cast_clock.proofs.places.stands_at.Goals as goal

pub returns-then-place-groups-clause-listed : goal.returns-then-place-groups-clause-listed
returns-then-place-groups-clause-listed c = λ equal.
    let groups = c.args.groups.now in
    let none : GroupNo = record { 0 = 0 } in
    let within : c.args.place < length groups = omega arith in
    let same : get_or groups c.args.place none ≡ c.args.group =
    same_group (get_or groups c.args.place none) c.args.group (sym c.eq.ensures ∙ equal) in
    (c.args.place, within, get_or_default groups c.args.place c.args.group none within ∙ same)
