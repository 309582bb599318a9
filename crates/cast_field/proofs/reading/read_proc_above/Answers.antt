use Rattle.std.proofs.Common.{sym, ap, ◌∙◌}
use Rattle.std.specs.Ordering.{is_lt}
use Rattle.cast_field.specs.Reading.{proc_above}
use Rattle.cast_field.proofs.Lists.{above_refused, above_passed, above_first}
use Rattle.cast_types.specs.Names.{proc_cmp}
use Rattle.cast_field.proofs.reading.read_proc_above.Goals.{in_default-via-in-Some+else-not-is_lt, in_default-via-in_default}
use Rattle.cast_field.proofs.reading.read_proc_above.Goals as goal

pub returns-in-Some : goal.returns-in-Some
unfolding proc_above
returns-in-Some c =
    λ other. rw c.in_ok-proc.ensures
    (above_refused proc_cmp c.args.last c.in-Some.last (c.in_ok-proc.proc, c.in_ok-proc.rest.now) c.in-Some.is
    (rw (← c.in-Some.last-is) (ap is_lt (sym c.cmp.ensures) ∙ sym c.if-not-is_lt.ensures)))

pub returns-in_default : goal.returns-in_default
unfolding proc_above
returns-in_default c =
    elim c.in_default.branch [
      | in_default-via-in-Some+else-not-is_lt w ↦
          rw c.in_ok-proc.ensures
          (above_passed proc_cmp c.args.last w.in-Some.last (c.in_ok-proc.proc, c.in_ok-proc.rest.now) w.in-Some.is
          (rw (← w.in-Some.last-is) (ap is_lt (sym w.cmp.ensures) ∙ sym w.if-not-is_lt.ensures)))
      | in_default-via-in_default w ↦
          rw c.in_ok-proc.ensures (above_first proc_cmp c.args.last (c.in_ok-proc.proc, c.in_ok-proc.rest.now) w.in_default.is)
    ]
