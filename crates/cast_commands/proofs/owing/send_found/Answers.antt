use Rattle.std.proofs.Common.{Option, ◌∙◌, sym, ap}
use Rattle.std.specs.Option.{option_map_or}
use Rattle.std.proofs.lemmas.Result.{on_ok_weaker}
use Rattle.cast_message.specs.declared.site.SiteFrame.{SiteFrame}
use Rattle.cast_timer.specs.declared.key.OwedKey.{OwedKey}
use Rattle.cast_domain.specs.Records.{records_in}
use Rattle.cast_domain.specs.PartCalls.{send_in}
use Rattle.cast_commands.proofs.owing.send_found.Goals as goal

pub returns-in_ok-copy-in-Some-clause-made : goal.returns-in_ok-copy-in-Some-clause-made
returns-in_ok-copy-in-Some-clause-made c =
    let r = records_in c.args.domain.now c.args.lent.now in
    on_ok_weaker c.send.result (λ made.
    made r.part
    ∙ ap (send_in r c.args.to) c.in_ok-copy-in-Some.ensures
    ∙ ap (λ (o : Option (OwedKey × SiteFrame)). option_map_or (λ l. send_in r c.args.to l.1) o r) (sym c.in-Some.is)) c.send.ensures
