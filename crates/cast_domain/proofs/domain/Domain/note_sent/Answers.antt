use Rattle.std.proofs.Common.{◌∙◌, sym}
use Rattle.std.proofs.lemmas.Result.{on_ok_weaker}
use Rattle.cast_ready.specs.declared.row.ProcessUpdate.TheVariants as fact
use Rattle.cast_domain.specs.PartCalls.{tell_in}
use Rattle.cast_domain.proofs.domain.Domain.note_sent.Goals as goal

pub returns-clause-made : goal.returns-clause-made
returns-clause-made c =
    let p = c.args.process in
    on_ok_weaker c.tell.result
    (λ made o part.
    made o part
    ∙ (λ j. tell_in (c.in_ok-note_order.ensures.made o part j) p (fact.Time (sym c.requires j))))
    c.tell.ensures.made
