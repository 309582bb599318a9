use Rattle.std.proofs.Common.{◌<◌, ◌+◌, ◌-◌, ◌∙◌, ap, length, sym, arith}
use Rattle.std.specs.List.{fold, range_with_len}
use Rattle.cast_domain.specs.Records.{records_of}
use Rattle.cast_domain.specs.Trims.{trim_in}
use Rattle.cast_domain.proofs.Loops.{keeps_then, fold_more}
use Rattle.cast_domain.proofs.Untrimmed.{none_trimmed}
use Rattle.cast_commands.proofs.trim.trim_orders.Goals as goal

pub loop-place-preserved : goal.loop-place-preserved
loop-place-preserved c =
    let kept = c.args.kept.now in
    let i = c.loop-place.place in
    let n = length c.args.domain.now.groups.items in
    let within : i < n = omega arith in
    record {
      same = keeps_then c.args.domain.now c.loop-place.domain c.trim_order.new.domain c.loop-place.invariant.same c.trim_order.ensures.same;
      groups = c.trim_order.ensures.groups ∙ c.loop-place.invariant.groups;
      left = λ o part.
          ap (λ x. fold (trim_in kept) x (range_with_len (i + 1) (n - (i + 1)))) (c.trim_order.ensures.made o part)
          ∙ fold_more (trim_in kept) (records_of c.loop-place.domain part o) i n within ∙ c.loop-place.invariant.left o part;
    }

-- no order is long
pub returns-then-not-some_are_long-clause-made : goal.returns-then-not-some_are_long-clause-made
returns-then-not-some_are_long-clause-made c = λ o part.
    let r = records_of c.args.domain.now part o in
    sym (none_trimmed c.args.kept.now r (range_with_len 0 (length c.args.domain.now.groups.items))
    (sym c.some_are_long.ensures ∙ c.if-not-some_are_long.true))
