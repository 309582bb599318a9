use Rattle.std.proofs.Common.{◌∙◌, ◌+◌, ap, drop, arith}
use Rattle.std.specs.List.{fold}
use Rattle.cast_rules.specs.Rules.Stability.{tell_stable}
use Rattle.cast_domain.specs.Records.{records_of}
use Rattle.cast_domain.specs.Calls.{records}
use Rattle.cast_domain.proofs.Loops.{fold_item}
use Rattle.cast_handlers.proofs.stability.tell_sites.Goals as goal

pub loop-site-preserved : goal.loop-site-preserved
loop-site-preserved c part =
    let i = c.loop-site.site-index in
    ap (λ x. fold (tell_stable records c.args.id c.args.count) x (drop (i + 1) c.args.sites.now)) (c.in_ok-tell_stable.ensures part)
    ∙ fold_item (tell_stable records c.args.id c.args.count) (records_of c.args.domain.now part c.loop-site.outs)
    c.args.sites.now i _ (omega arith)
    ∙ c.loop-site.invariant part
