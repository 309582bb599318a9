use Rattle.std.proofs.Common.{sym}
use Rattle.std.proofs.lemmas.Result.{err_from_is_err_and}
use Rattle.cast_script.specs.Words.{parts_at}
use Rattle.cast_script.specs.WordReadings.{each, site_of}
use Rattle.cast_script.proofs.Each.{ends, goes_on, is_done}
use Rattle.cast_script.proofs.words.site_list.Goals as goal

pub returns-in_err-site_word : goal.returns-in_err-site_word
returns-in_err-site_word c =
    let p = err_from_is_err_and c.from_residual-in_err-site_word.result c.from_residual-in_err-site_word.ensures.1 in
    rw (p.1, p.2) (ends (λ w. w.now) site_of c.loop-piece.sites.items c.as_slice-piece-items.result.now c.loop-piece.piece-index _
    c.in_err-site_word.field-0.0 (each site_of (parts_at 44 c.args.word.now)) c.loop-piece-test.true (sym c.in_err-site_word.ensures)
    c.loop-piece.invariant)

pub loop-piece-preserved : goal.loop-piece-preserved
loop-piece-preserved c =
    rw c.in_ok-push.ensures.items (goes_on (λ w. w.now)
    site_of c.loop-piece.sites.items c.as_slice-piece-items.result.now c.loop-piece.piece-index _ c.in_ok-site_word.field-0
    (each site_of (parts_at 44 c.args.word.now)) c.loop-piece-test.true (sym c.in_ok-site_word.ensures) c.loop-piece.invariant)

pub returns : goal.returns
returns c =
    is_done (λ w. w.now) site_of c.loop-piece.sites.items c.as_slice-piece-items.result.now c.loop-piece.piece-index
    (each site_of (parts_at 44 c.args.word.now)) c.loop-piece-test.false c.loop-piece.invariant
