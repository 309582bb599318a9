use Rattle.std.proofs.Common.{length, sym, ap, ◌∙◌, ◌+◌}
use Rattle.cast_clock.proofs.Entries.{as_T}
use Rattle.cast_clock.proofs.Valid.{valid_counts}
use Rattle.cast_clock.proofs.Rooms.{length-join_counts}
use Rattle.cast_clock.proofs.counts.joined_len.Goals as goal

pub returns : goal.returns
returns c =
    let joined =
    length-join_counts c.args.mine.now c.args.theirs.now (as_T _ (valid_counts c.args.mine.now c.requires.mine).in_order)
    (as_T _ (valid_counts c.args.theirs.now c.requires.theirs).in_order) in
    ap (λ n. length c.args.mine.now + n) c.lacking_count.ensures ∙ sym joined
