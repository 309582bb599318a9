use Rattle.std.proofs.Common.{◌<◌, None, length, arith}
use Rattle.cast_types.specs.declared.names.SiteNo.{SiteNo}
use Rattle.cast_sending.specs.declared.silence.Silence.{Silence}
use Rattle.cast_sending.specs.Silences.{ticked}
use Rattle.cast_sending.proofs.Passing.{all_ticked}
use Rattle.cast_sending.proofs.silence.all_ticked.Goals as goal

pub loop-one-preserved : goal.loop-one-preserved
loop-one-preserved c =
    let none : SiteNo × Silence = (record { 0 = 0 }, record { waited = None; room = 0 }) in
    let inside : c.loop-one.one-index < length c.loop-one.sites = omega arith in
    let more =
    all_ticked (λ (one : SiteNo × Silence). (one.0, ticked one.1))
    c.args.sites.now c.loop-one.sites c.loop-one.one-index none c.loop-one-test.true
    inside c.loop-one.invariant.before c.loop-one.invariant.after in
    record { before = rw c.ticked-one.ensures more.0; after = rw c.ticked-one.ensures more.1 }
