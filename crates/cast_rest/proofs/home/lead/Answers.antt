use Rattle.std.proofs.Common.{◌<◌, ◌+◌, ◌-◌, ◌∙◌, ap, vec_len, arith}
use Rattle.std.specs.List.{fold, range_with_len}
use Rattle.std.proofs.lemmas.Bool.{or_parts}
use Rattle.cast_rules.specs.Rules.Home.{lead_group}
use Rattle.cast_domain.specs.Records.{records_in}
use Rattle.cast_domain.specs.Calls.{records}
use Rattle.cast_domain.specs.Flags.{leads_in}
use Rattle.cast_domain.proofs.Flagged.{more_changes}
use Rattle.cast_domain.proofs.Loops.{beside_then, fold_more}
use Rattle.cast_rest.proofs.home.lead.Goals as goal

pub loop-place-preserved : goal.loop-place-preserved
loop-place-preserved c =
    let r = records_in c.loop-place.domain c.loop-place.lent in
    let i = c.loop-place.place in
    let n = vec_len c.args.domain.now.groups in
    let within : i < n = omega arith in
    record {
      stays = beside_then c.loop-place.invariant.stays c.in_ok-led.ensures.stays;
      len = c.in_ok-led.ensures.len ∙ c.loop-place.invariant.len;
      left =
          ap (λ x. fold (lead_group records) x (range_with_len (i + 1) (n - (i + 1)))) c.in_ok-led.ensures.made
          ∙ fold_more (lead_group records) r i n within ∙ c.loop-place.invariant.left;
      told =
          more_changes leads_in (lead_group records)
          r _ c.loop-place.changed c.in_ok-led.led i n within c.in_ok-led.ensures.told c.in_ok-led.ensures.made
          ∙ c.loop-place.invariant.told;
      still = λ e.
          let parts = or_parts c.loop-place.changed c.in_ok-led.led e in
          c.in_ok-led.ensures.still parts.1 ∙ c.loop-place.invariant.still parts.0;
    }
