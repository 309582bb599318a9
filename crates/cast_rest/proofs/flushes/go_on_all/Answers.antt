use Rattle.std.proofs.Common.{◌<◌, ◌+◌, ◌-◌, ◌∙◌, ap, length, arith}
use Rattle.std.specs.List.{fold, range_with_len}
use Rattle.std.proofs.lemmas.Bool.{or_parts}
use Rattle.cast_domain.specs.Records.{records_in}
use Rattle.cast_rules.specs.Rules.Flushes.{go_on}
use Rattle.cast_domain.specs.Calls.{records}
use Rattle.cast_domain.specs.RestCalls.{resting_records}
use Rattle.cast_domain.specs.Flags.{goes_on}
use Rattle.cast_domain.proofs.Flagged.{more_changes}
use Rattle.cast_domain.proofs.Loops.{beside_then, fold_more}
use Rattle.cast_rest.proofs.flushes.go_on_all.Goals as goal

pub loop-place-preserved : goal.loop-place-preserved
loop-place-preserved c =
    let r = records_in c.loop-place.domain c.loop-place.lent in
    let i = c.loop-place.place in
    let n = length c.args.domain.now.groups.items in
    let within : i < n = omega arith in
    record {
      stays = beside_then c.loop-place.invariant.stays c.in_ok-gone_on.ensures.stays;
      clear = λ none. c.in_ok-gone_on.ensures.none (c.loop-place.invariant.clear none);
      left =
          ap (λ x. fold (go_on records resting_records) x (range_with_len (i + 1) (n - (i + 1)))) c.in_ok-gone_on.ensures.made
          ∙ fold_more (go_on records resting_records) r i n within ∙ c.loop-place.invariant.left;
      told =
          more_changes goes_on (go_on records resting_records)
          r _ c.loop-place.changed c.in_ok-gone_on.gone_on i n within c.in_ok-gone_on.ensures.told c.in_ok-gone_on.ensures.made
          ∙ c.loop-place.invariant.told;
      still = λ e.
          let parts = or_parts c.loop-place.changed c.in_ok-gone_on.gone_on e in
          c.in_ok-gone_on.ensures.still parts.1 ∙ c.loop-place.invariant.still parts.0;
    }
