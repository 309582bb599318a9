use Rattle.std.proofs.Common.{◌≡◌, ◌∙◌, sym, ap, true, length, ◌<◌, subst}
use Rattle.cast_types.specs.declared.names.Uid.{Uid}
use Rattle.cast_rules.specs.Rules.Release as release
use Rattle.cast_domain.specs.Records.{Records, records_in}
use Rattle.cast_domain.specs.Freed.{AreNotFreeBut}
use Rattle.cast_domain.specs.Calls.{records}
use Rattle.cast_domain.specs.RestCalls.{resting_records}
use Rattle.cast_domain.proofs.Loops.{beside_then}
use Rattle.cast_domain.proofs.Freeing.{but_released, let_go_first, none_let_go, fewer_kept}
use Rattle.cast_domain.proofs.domain.Domain.let_go_of.Goals as goal

pub loop-key-preserved : goal.loop-key-preserved
loop-key-preserved c =
    let r = records_in c.loop-key.self c.loop-key.lent in
    record {
      stays = beside_then c.loop-key.invariant.stays c.release.ensures.stays;
      left =
          ap (release.let_go records resting_records) c.release.ensures.made
          ∙ let_go_first r c.in-Some.key c.in-Some.ensures.some
          ∙ c.loop-key.invariant.left;
      but = λ none. subst (AreNotFreeBut c.args.source) (sym c.release.ensures.made)
          (but_released c.args.source r c.in-Some.key (c.loop-key.invariant.but none));
    }

pub returns-clause-made : goal.returns-clause-made
returns-clause-made c none =
    let r = records_in c.loop-key.self c.loop-key.lent in
    sym (none_let_go r (c.in_default.ensures.none (c.loop-key.invariant.but none))) ∙ c.loop-key.invariant.left

pub returns-clause-none : goal.returns-clause-none
returns-clause-none c none = c.in_default.ensures.none (c.loop-key.invariant.but none)

pub loop-key-smaller : goal.loop-key-smaller
loop-key-smaller c =
    let r = records_in c.loop-key.self c.loop-key.lent in
    subst (λ (x : Records). length x.part.kept < length r.part.kept) (sym c.release.ensures.made)
    (fewer_kept r c.in-Some.key (λ (id : Uid). release.is_free records resting_records r id ≡ true) c.in-Some.ensures.some)
