use Rattle.std.proofs.Common.{Ok, Err, refl, subst}
use Rattle.std.proofs.lemmas.List.{append-nil}
use Rattle.std.specs.String.{string_bytes}
use Rattle.cast_device.specs.Watching.{HasFailedOrStalled}
use Rattle.cast_device.specs.Writing.{IsTold}
use Rattle.cast_replay.specs.Ends.{fault_text}
use Rattle.cast_replay.proofs.Told.{told_nothing}
use Rattle.cast_replay.proofs.run.run_script.Goals as goal

pub returns-in-Ok-clause-ended : goal.returns-in-Ok-clause-ended
returns-in-Ok-clause-ended g c = (
  Ok (string_bytes c.in-Ok.text),
  c.in-Ok.ensures.ends,
  (
    refl,
    subst (λ d. IsTold (g.O.Write.contents d) (g.O.Write.contents c.tell.new.writer.device) (string_bytes c.in-Ok.text)
        (HasFailedOrStalled c.tell.new.writer)) c.begin.ensures.device
        (subst (λ text. IsTold (g.O.Write.contents c.begin.new.self.device) (g.O.Write.contents c.tell.new.writer.device)
        text (HasFailedOrStalled c.tell.new.writer)) c.as_str.ensures.value (simp append-nil at c.tell.ensures)),
    told_nothing g.E.Write.contents c.args.err.now.device c.begin-2.new.self.device (HasFailedOrStalled c.begin-2.new.self)
        c.begin-2.ensures.device,
  ),
)

pub returns-in-Err-clause-ended : goal.returns-in-Err-clause-ended
returns-in-Err-clause-ended g c = (
  Err c.in-Err.fault,
  c.in-Err.ensures.ends,
  (
    c.complain.ensures.status,
    told_nothing g.O.Write.contents c.args.out.now.device c.begin.new.self.device (HasFailedOrStalled c.begin.new.self)
        c.begin.ensures.device,
    subst (λ d. IsTold (g.E.Write.contents d) (g.E.Write.contents c.complain.new.err.device) (fault_text c.args.name.now c.in-Err.fault)
        (HasFailedOrStalled c.complain.new.err)) c.begin-2.ensures.device
        c.complain.ensures.told,
  ),
)
