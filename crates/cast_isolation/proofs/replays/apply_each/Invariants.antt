use Rattle.std.proofs.Common.{take}
use Rattle.cast_table.specs.Tables.{AreApplied, domains_of, lent_of}
use Rattle.cast_isolation.proofs.replays.apply_each.Given as goal

-- what the events so far did
abbrev pub invariant-loop-event : goal.invariant-loop-event
invariant-loop-event g l =
    AreApplied l.answers (take l.event-index l.events) (domains_of l.fn.table) (domains_of l.table) (lent_of l.fn.table l.fn.outs)
    (lent_of l.table l.outs)
