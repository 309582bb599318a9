use Rattle.std.proofs.Common.{[], ◌∷◌, map}
use Rattle.std.proofs.lemmas.Result.{err_from_is_err_and}
use Rattle.cast_script.specs.WordReadings.{each}
use Rattle.cast_script.specs.Readings.{event_at, numbered_line}
use Rattle.cast_script.proofs.Each.{ends, goes_on, is_done, with_front}
use Rattle.cast_script.proofs.ScriptLines.{fault_ends}
use Rattle.cast_script.proofs.script.events_from.Goals as goal

pub returns-in_err-event_at : goal.returns-in_err-event_at
returns-in_err-event_at c =
    let p = err_from_is_err_and c.from_residual-in_err-event_at.result c.from_residual-in_err-event_at.ensures.1 in
    let all = with_front (c.args.first ∷ []) (each event_at (map numbered_line c.args.lines.now)) in
    rw (p.1, p.2) (fault_ends c.in_err-event_at.field-0.0 _ all (λ e read. ends numbered_line event_at c.loop-line.events c.args.lines.now
    c.loop-line.line-index _ e all c.loop-line-test.true read c.loop-line.invariant) c.in_err-event_at.ensures)

pub loop-line-preserved : goal.loop-line-preserved
loop-line-preserved c =
    let all = with_front (c.args.first ∷ []) (each event_at (map numbered_line c.args.lines.now)) in
    rw c.in_ok-push-2.ensures.ok (goes_on numbered_line event_at c.loop-line.events c.args.lines.now c.loop-line.line-index _
    c.in_ok-event_at.field-0 all c.loop-line-test.true c.in_ok-event_at.ensures c.loop-line.invariant)

pub returns : goal.returns
returns c =
    let all = with_front (c.args.first ∷ []) (each event_at (map numbered_line c.args.lines.now)) in
    is_done numbered_line event_at c.loop-line.events c.args.lines.now c.loop-line.line-index all c.loop-line-test.false
    c.loop-line.invariant
