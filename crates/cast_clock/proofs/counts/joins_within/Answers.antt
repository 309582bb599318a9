use Rattle.std.proofs.Common.{◌≤◌, ◌+◌, length, sym, ◌∙◌, arith}
use Rattle.std.specs.List.{count_by}
use Rattle.std.proofs.lemmas.List.Sums.{count_by-le-length}
use Rattle.cast_clock.specs.Times.{join_counts}
use Rattle.cast_clock.proofs.Entries.{as_T}
use Rattle.cast_clock.proofs.Rooms.{lacks, length-join_counts}
use Rattle.cast_clock.proofs.Valid.{le_as, valid_counts}
use Rattle.cast_clock.proofs.counts.joins_within.Goals as goal

pub returns-then-mine-theirs-le-MAX_MEMBERS : goal.returns-then-mine-theirs-le-MAX_MEMBERS
returns-then-mine-theirs-le-MAX_MEMBERS c =
    let mine = c.args.mine.now in
    let theirs = c.args.theirs.now in
    let joined =
    length-join_counts mine theirs (as_T _ (valid_counts mine c.requires.mine).in_order)
    (as_T _ (valid_counts theirs c.requires.theirs).in_order) in
    let few : count_by (lacks mine) theirs ≤ length theirs = count_by-le-length (lacks mine) theirs in
    let room : length mine + length theirs ≤ 64 = c.if-mine-theirs-le-MAX_MEMBERS.true in
    le_as (length mine + length theirs) 64 room
    ∙ sym (le_as (length (join_counts mine theirs)) 64 (omega (arith, joined, few, room)))
