use Rattle.std.proofs.Common.{Option, ◌∙◌, sym, ap}
use Rattle.std.specs.Option.{option_map_or}
use Rattle.std.proofs.lemmas.Result.{on_ok_weaker}
use Rattle.cast_message.specs.declared.site.SiteFrame.{SiteFrame}
use Rattle.cast_domain.specs.Records.{records_in}
use Rattle.cast_domain.specs.PartCalls.{send_in}
use Rattle.cast_domain.proofs.domain.Domain.send_for.Goals as goal

pub returns-in-Some-clause-made : goal.returns-in-Some-clause-made
returns-in-Some-clause-made c =
    let r = records_in c.args.self.now c.args.lent.now in
    on_ok_weaker c.send.result (λ made.
    made r.part
    ∙ ap (λ (f : Option SiteFrame). option_map_or (send_in r c.args.key.now.site) f r) (sym c.in-Some.is ∙ c.in_ok-frame.ensures))
    c.send.ensures

pub returns-in-None-clause-made : goal.returns-in-None-clause-made
returns-in-None-clause-made c =
    let r = records_in c.args.self.now c.args.lent.now in
    ap (λ (f : Option SiteFrame). option_map_or (send_in r c.args.key.now.site) f r) (sym c.in-None.is ∙ c.in_ok-frame.ensures)
