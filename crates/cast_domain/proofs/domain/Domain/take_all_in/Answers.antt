use Rattle.std.proofs.Common.{◌∙◌, ◌+◌, ap, drop, arith}
use Rattle.std.specs.List.{fold}
use Rattle.cast_domain.specs.Records.{records_of}
use Rattle.cast_domain.specs.ViewCalls.{take_in}
use Rattle.cast_domain.proofs.Loops.{keeps_then, fold_item}
use Rattle.cast_domain.proofs.domain.Domain.take_all_in.Goals as goal

pub loop-process-preserved : goal.loop-process-preserved
loop-process-preserved c = record {
  same = keeps_then _ _ _ c.loop-process.invariant.same c.in_ok-take_in.ensures.same;
  left = λ o part.
      ap (λ x. fold (take_in c.args.group c.args.view c.args.request) x (drop (c.loop-process.process-index + 1) c.args.members.now))
      (c.in_ok-take_in.ensures.made o part)
      ∙ fold_item (take_in c.args.group c.args.view c.args.request) (records_of c.loop-process.self part o)
      c.args.members.now c.loop-process.process-index _ (omega arith)
      ∙ c.loop-process.invariant.left o part;
}
