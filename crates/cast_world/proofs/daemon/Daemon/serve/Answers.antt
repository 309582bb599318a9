use Rattle.std.proofs.Common.{◌≡◌, ◌++◌, ◌∙◌, Ok, ap, subst}
use Rattle.std.proofs.lemmas.Result.{IfOk-weaker}
use Rattle.cast_events.specs.declared.event.Outs.{Outs}
use Rattle.cast_table.specs.Tables.{InTable, IsApplied}
use Rattle.cast_world.specs.declared.daemon.Daemon.{Daemon}
use Rattle.cast_world.specs.Worlds.{Serves}
use Rattle.cast_world.proofs.Standing.{packets_from, serves}
use Rattle.cast_world.proofs.daemon.Daemon.serve.Goals as goal

pub returns : goal.returns
returns c =
    let old : Daemon = c.args.self.now in
    let made : Daemon = c.apply.new.self in
    let e = c.args.event.now in
    let taken = c.in_ok-apply.field-0 in
    let outs = c.apply.new.outs in
    let sent = c.args.sent.now.items in
    let more = c.send_all.new.sent.items in
    let rest = c.apply.ensures.rest in
    let applied =
    subst (λ (o : Outs). InTable (IsApplied (Ok taken) e) old.table o made.table outs) c.new-outs.ensures c.in_ok-apply.ensures.applied in
    IfOk-weaker c.send_all.result (λ _. more ≡ sent ++ packets_from made.site outs.frames) (λ _. Serves e old _ sent more)
    (λ _ added. serves e taken old _ outs c.requires applied rest.0 rest.1
    (c.in_ok-append.ensures.ok ∙ ap (λ ds. ds ++ outs.delivered) rest.2) sent more
    (added ∙ ap (λ s. sent ++ packets_from s outs.frames) rest.0)) c.send_all.ensures
