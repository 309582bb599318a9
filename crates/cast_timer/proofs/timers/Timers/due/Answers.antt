use Rattle.std.specs.Prelude.{nat_le}
use Rattle.cast_types.proofs.Rising.{rising_kept}
use Rattle.cast_timer.specs.Owed.{owed_cmp}
use Rattle.cast_timer.specs.Rows.{owed_in}
use Rattle.cast_timer.proofs.Rows.{owed_rises}
use Rattle.cast_timer.proofs.timers.Timers.due.Goals as goal

pub due_keys-requires : goal.due_keys-requires
due_keys-requires c = (c.self.invariant c.args.domain).shaped

pub returns-clause-rising : goal.returns-clause-rising
returns-clause-rising c =
    let rows = c.self.inside.moments.entries in
    let d = c.args.domain in
    rw (← c.self.view_is)
    (rising_kept owed_cmp (λ o. nat_le o.due c.args.now) (owed_in rows d) (owed_rises rows d (c.self.invariant d).shaped))
