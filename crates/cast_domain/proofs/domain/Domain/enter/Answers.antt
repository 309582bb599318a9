use Rattle.std.proofs.Common.{◌∙◌, ap}
use Rattle.std.proofs.lemmas.Result.{on_ok_weaker}
use Rattle.cast_types.specs.declared.names.Standing.TheVariants.{Member}
use Rattle.cast_ready.specs.declared.row.ProcessUpdate.TheVariants as fact
use Rattle.cast_domain.specs.Records.{records_of}
use Rattle.cast_domain.specs.PartCalls.{tell_in}
use Rattle.cast_domain.proofs.domain.Domain.enter.Goals as goal

pub returns-clause-made : goal.returns-clause-made
returns-clause-made c =
    let p = c.args.process in
    on_ok_weaker c.tell-2.result (λ made o part.
    made o part
    ∙ ap (λ r. tell_in r p (fact.Standing c.args.group Member))
    (c.in_ok-tell.ensures.made o part ∙ ap (λ t. tell_in (records_of c.args.self.now part o) p (fact.Time t)) c.in_ok-entered.ensures))
    c.tell-2.ensures.made
