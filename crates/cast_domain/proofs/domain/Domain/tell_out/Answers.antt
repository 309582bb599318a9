use Rattle.std.proofs.Common.{◌+◌, ◌∙◌, sym, ap, drop, arith}
use Rattle.std.specs.List.{fold}
use Rattle.std.proofs.lemmas.List.{drop_all}
use Rattle.cast_rules.specs.Rules.Views.{tell_out}
use Rattle.cast_domain.specs.Records.{records_in}
use Rattle.cast_domain.specs.Calls.{records}
use Rattle.cast_domain.proofs.Loops.{beside_then, fold_item}
use Rattle.cast_domain.proofs.domain.Domain.tell_out.Goals as goal

pub loop-serial-preserved : goal.loop-serial-preserved
loop-serial-preserved c =
    let told = tell_out records c.args.group c.args.view in
    let i = c.loop-serial.serial-index in
    record {
      stays = beside_then c.loop-serial.invariant.stays c.in_ok-push.ensures.stays;
      len = c.in_ok-push.ensures.len ∙ c.loop-serial.invariant.len;
      left =
          ap (λ x. fold told x (drop (i + 1) c.args.serials.now)) c.in_ok-push.ensures.made
          ∙ fold_item told (records_in c.loop-serial.self c.loop-serial.lent) c.args.serials.now i _ (omega arith)
          ∙ c.loop-serial.invariant.left;
    }

pub returns-clause-made : goal.returns-clause-made
returns-clause-made c =
    sym (ap (fold (tell_out records c.args.group c.args.view) (records_in c.loop-serial.self c.loop-serial.lent))
    (drop_all c.loop-serial.serial-index c.args.serials.now c.loop-serial-test.false))
    ∙ c.loop-serial.invariant.left
