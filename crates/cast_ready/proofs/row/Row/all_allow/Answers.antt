use Rattle.std.proofs.Common.{get_or}
use Rattle.std.specs.Option.{option_copied}
use Rattle.cast_types.specs.declared.names.Standing.TheVariants.{Outside}
use Rattle.cast_ready.proofs.Lows.{low_counted}
use Rattle.cast_ready.proofs.row.Row.all_allow.Goals as goal

-- of a low group all is delivered that its clock counts
pub allows-requires : goal.allows-requires
allows-requires c = λ low.
    let entry = get_or c.entries-group-items.result.now c.loop-group.group-index (record { 0 = 0 }, Outside) in
    let listed = c.stands_at-is_low.ensures.listed low in
    low_counted c.args.self.now c.args.times.now c.args.low.now entry.0 (option_copied c.clock_near-next.result.0) c.requires.low
    c.clock_near-next.ensures listed (c.requires.members entry.0 listed)
