use Rattle.std.proofs.Common.{◌<◌, length, sym, subst, ◌∙◌, refl, arith}
use Rattle.std.proofs.lemmas.Bool.{false≢true}
use Rattle.std.proofs.lemmas.Option.{slice_get_read}
use Rattle.cast_sending.specs.Frames.{Frame, Covers}
use Rattle.cast_sending.proofs.Waits.{none_upto}
use Rattle.cast_sending.proofs.stables.covered_place.Goals as goal

pub returns-then-says_all : goal.returns-then-says_all
returns-then-says_all c =
    let old = c.index-waiting-place.result in
    let waiting = c.args.waiting.now in
    let within : c.loop-place.place < length c.args.waiting.now = c.loop-place-test.true in (
      old,
      slice_get_read waiting (length waiting) c.loop-place.place old refl within c.index-waiting-place.is,
      c.says_all.ensures.0 c.if-says_all.true,
    )

pub loop-place-preserved : goal.loop-place-preserved
loop-place-preserved c =
    let waiting = c.args.waiting.now in
    none_upto waiting c.loop-place.place c.args.frame.now c.index-waiting-place.result c.loop-place.invariant c.loop-place-test.true
    c.index-waiting-place.is (λ covers. false≢true (sym c.if-says_all.false ∙ c.says_all.ensures.1 covers))

pub returns : goal.returns
returns c waits there covers =
    c.loop-place.invariant there.0 waits (omega (arith, there.1, c.loop-place-test.false))
    (subst (λ (frame : Frame). Covers c.args.frame.now frame) (sym there.2) covers)
