use Rattle.std.proofs.Common.{◌<◌, ◌+◌, ◌-◌, ◌∙◌, ap, length, sym, arith}
use Rattle.std.specs.List.{fold, range_with_len}
use Rattle.std.proofs.lemmas.Bool.{or_parts}
use Rattle.cast_domain.specs.Records.{records_in}
use Rattle.cast_rules.specs.Rules.Order.{set_order}
use Rattle.cast_domain.specs.Calls.{records}
use Rattle.cast_domain.specs.RestCalls.{resting_records}
use Rattle.cast_domain.specs.Flags.{orders_at}
use Rattle.cast_domain.proofs.Flagged.{more_changes}
use Rattle.cast_domain.proofs.Loops.{beside_then, fold_more}
use Rattle.cast_domain.proofs.Idle.{idle_groups, idle_groups_told}
use Rattle.cast_rest.proofs.order.set_orders.Goals as goal

pub loop-place-preserved : goal.loop-place-preserved
loop-place-preserved c =
    let r = records_in c.loop-place.domain c.loop-place.lent in
    let i = c.loop-place.place in
    let n = length c.args.domain.now.groups.items in
    let within : i < n = omega arith in
    record {
      stays = beside_then c.loop-place.invariant.stays c.in_ok-set.ensures.stays;
      clear = λ none. c.in_ok-set.ensures.none (c.loop-place.invariant.clear none);
      len = c.in_ok-set.ensures.len ∙ c.loop-place.invariant.len;
      left =
          ap (λ x. fold (set_order records resting_records) x (range_with_len (i + 1) (n - (i + 1)))) c.in_ok-set.ensures.made
          ∙ fold_more (set_order records resting_records) r i n within ∙ c.loop-place.invariant.left;
      told =
          more_changes orders_at (set_order records resting_records)
          r _ c.loop-place.changed c.in_ok-set.set i n within c.in_ok-set.ensures.told c.in_ok-set.ensures.made
          ∙ c.loop-place.invariant.told;
      still = λ e.
          let parts = or_parts c.loop-place.changed c.in_ok-set.set e in
          c.in_ok-set.ensures.still parts.1 ∙ c.loop-place.invariant.still parts.0;
    }

-- nothing is to be listed
pub returns-then-not-some_wait-clause-made : goal.returns-then-not-some_wait-clause-made
returns-then-not-some_wait-clause-made c =
    let r = records_in c.args.domain.now c.args.lent.now in
    sym (idle_groups r (records.places r) (sym c.some_wait.ensures ∙ c.if-not-some_wait.true))

pub returns-then-not-some_wait-clause-told : goal.returns-then-not-some_wait-clause-told
returns-then-not-some_wait-clause-told c =
    let r = records_in c.args.domain.now c.args.lent.now in
    sym (idle_groups_told r (records.places r) (sym c.some_wait.ensures ∙ c.if-not-some_wait.true))
