use Rattle.std.proofs.Common.{sym, eqb-true}
use Rattle.cast_script.proofs.ScriptLines.{end_empty, end_full, end_none}
use Rattle.cast_script.proofs.script.end_of.Goals as goal
use Rattle.cast_script.proofs.script.end_of.Goals.{in_default-via-in-Some+else-is_empty, in_default-via-in_default}

pub returns-in-Some : goal.returns-in-Some
returns-in-Some c = end_empty c.args.lines.now c.in-Some.last.now (sym c.in-Some.ensures.value) (eqb-true _ _ (sym c.if-is_empty.ensures))

pub returns-in_default : goal.returns-in_default
returns-in_default c =
    elim c.in_default.branch [
      | in_default-via-in-Some+else-is_empty w ↦
          end_full c.args.lines.now w.in-Some.last.now (sym w.in-Some.ensures.value) (sym w.if-is_empty.ensures)
      | in_default-via-in_default w ↦ end_none c.args.lines.now (sym w.in_default.ensures.value)
    ]
