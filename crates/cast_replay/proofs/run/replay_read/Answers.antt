use Rattle.std.proofs.Common.{Err, ap, refl, subst}
use Rattle.cast_device.specs.Watching.{HasFailedOrStalled}
use Rattle.cast_replay.specs.Ends.{Ends}
use Rattle.cast_replay.proofs.Told.{told_nothing}
use Rattle.cast_replay.proofs.run.replay_read.Goals as goal

pub returns-in-Ok-clause-ended : goal.returns-in-Ok-clause-ended
returns-in-Ok-clause-ended g c =
    let ended = c.run_script.ensures.ended in
    (ended.0, rw c.in-Ok.is (subst (λ bytes. Ends bytes ended.0) c.deref.ensures.value ended.1), ended.2)

pub returns-in-Err-clause-ended : goal.returns-in-Err-clause-ended
returns-in-Err-clause-ended g c = (
  Err c.unread.result,
  rw c.in-Err.is (ap Err c.unread.ensures),
  (
    c.complain.ensures.status,
    told_nothing g.O.Write.contents c.args.out.now.device c.args.out.now.device (HasFailedOrStalled c.args.out.now) refl,
    c.complain.ensures.told,
  ),
)
