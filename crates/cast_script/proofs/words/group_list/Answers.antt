use Rattle.std.proofs.Common.{sym}
use Rattle.std.proofs.lemmas.Result.{err_from_is_err_and}
use Rattle.cast_script.specs.Words.{parts_at}
use Rattle.cast_script.specs.WordReadings.{each, group_of}
use Rattle.cast_script.proofs.Each.{ends, goes_on, is_done}
use Rattle.cast_script.proofs.words.group_list.Goals as goal

pub returns-in_err-group_word : goal.returns-in_err-group_word
returns-in_err-group_word c =
    let p = err_from_is_err_and c.from_residual-in_err-group_word.result c.from_residual-in_err-group_word.ensures.1 in
    rw (p.1, p.2) (ends (λ w. w.now) group_of c.loop-piece.groups.items c.as_slice-piece-items.result.now c.loop-piece.piece-index _
    c.in_err-group_word.field-0.0 (each group_of (parts_at 44 c.args.word.now)) c.loop-piece-test.true (sym c.in_err-group_word.ensures)
    c.loop-piece.invariant)

pub loop-piece-preserved : goal.loop-piece-preserved
loop-piece-preserved c =
    rw c.in_ok-push.ensures.items (goes_on (λ w. w.now)
    group_of c.loop-piece.groups.items c.as_slice-piece-items.result.now c.loop-piece.piece-index _ c.in_ok-group_word.field-0
    (each group_of (parts_at 44 c.args.word.now)) c.loop-piece-test.true (sym c.in_ok-group_word.ensures) c.loop-piece.invariant)

pub returns : goal.returns
returns c =
    is_done (λ w. w.now) group_of c.loop-piece.groups.items c.as_slice-piece-items.result.now c.loop-piece.piece-index
    (each group_of (parts_at 44 c.args.word.now)) c.loop-piece-test.false c.loop-piece.invariant
