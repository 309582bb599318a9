use Rattle.std.proofs.Common.{◌+◌, ◌∙◌, sym, ap, drop, arith}
use Rattle.std.specs.List.{fold}
use Rattle.std.proofs.lemmas.List.{drop_all}
use Rattle.cast_domain.specs.Records.{records_in}
use Rattle.cast_domain.specs.ReleaseCalls.{release_in}
use Rattle.cast_domain.proofs.Loops.{beside_then, fold_item}
use Rattle.cast_domain.proofs.domain.Domain.release_ended.Goals as goal

pub loop-key-preserved : goal.loop-key-preserved
loop-key-preserved c =
    let keys = c.as_slice-key-items.result.now in
    let i = c.loop-key.key-index in
    record {
      stays = beside_then c.loop-key.invariant.stays c.release.ensures.stays;
      left =
          ap (λ x. fold release_in x (drop (i + 1) keys)) c.release.ensures.made
          ∙ fold_item release_in (records_in c.loop-key.self c.loop-key.lent) keys i _ (omega arith)
          ∙ c.loop-key.invariant.left;
    }

pub returns-clause-made : goal.returns-clause-made
returns-clause-made c =
    sym (ap (fold release_in (records_in c.loop-key.self c.loop-key.lent))
    (drop_all c.loop-key.key-index c.as_slice-key-items.result.now c.loop-key-test.false))
    ∙ c.loop-key.invariant.left
