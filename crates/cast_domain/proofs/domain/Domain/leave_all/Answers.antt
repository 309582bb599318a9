use Rattle.std.proofs.Common.{◌≡◌, ◌<◌, ◌+◌, ◌-◌, ◌∙◌, ap, vec_len, arith}
use Rattle.std.specs.List.{fold, range_with_len}
use Rattle.cast_rules.specs.Rules.Leaving.{leave_at, leave_each}
use Rattle.cast_domain.specs.declared.record.GroupRecord.{GroupRecord}
use Rattle.cast_domain.specs.Records.{records_in}
use Rattle.cast_domain.specs.Calls.{records}
use Rattle.cast_domain.proofs.Loops.{beside_then, fold_more}
use Rattle.cast_domain.proofs.domain.Domain.leave_all.Goals as goal

pub loop-place-preserved : goal.loop-place-preserved
loop-place-preserved c =
    let r = records_in c.loop-place.self c.loop-place.lent in
    let i = c.loop-place.place in
    let n = vec_len c.args.self.now.groups in
    let k = c.args.serial in
    let within : i < n = omega arith in
    let left : records_in c.leave_at.new.self c.leave_at.new.lent ≡ leave_each records k r i =
    ap (λ x. x.0) c.in_ok-leave_at.ensures.made ∙ ap (λ (x : GroupRecord). (leave_at records r k x.name i).0) c.record.ensures in
    record {
      stays = beside_then c.loop-place.invariant.stays c.in_ok-leave_at.ensures.stays;
      len = c.in_ok-leave_at.ensures.len ∙ c.loop-place.invariant.len;
      left =
          ap (λ x. fold (leave_each records k) x (range_with_len (i + 1) (n - (i + 1)))) left
          ∙ fold_more (leave_each records k) r i n within ∙ c.loop-place.invariant.left;
    }
