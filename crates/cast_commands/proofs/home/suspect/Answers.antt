use Rattle.std.proofs.Common.{◌<◌, ◌+◌, ◌-◌, ◌∙◌, ap, vec_len, arith}
use Rattle.std.specs.List.{fold, range_with_len}
use Rattle.cast_rules.specs.Rules.Home.{suspect_in}
use Rattle.cast_domain.specs.Records.{records_in}
use Rattle.cast_domain.specs.Calls.{records}
use Rattle.cast_domain.proofs.Loops.{beside_then, fold_more}
use Rattle.cast_commands.proofs.home.suspect.Goals as goal

pub loop-place-preserved : goal.loop-place-preserved
loop-place-preserved c =
    let r = records_in c.loop-place.domain c.loop-place.lent in
    let i = c.loop-place.place in
    let n = vec_len c.args.domain.now.groups in
    let site = c.args.site in
    let within : i < n = omega arith in
    record {
      stays = beside_then c.loop-place.invariant.stays c.in_ok-suspect_in.ensures.stays;
      len = c.in_ok-suspect_in.ensures.len ∙ c.loop-place.invariant.len;
      left =
          ap (λ x. fold (suspect_in records site) x (range_with_len (i + 1) (n - (i + 1)))) c.in_ok-suspect_in.ensures.made
          ∙ fold_more (suspect_in records site) r i n within ∙ c.loop-place.invariant.left;
    }
