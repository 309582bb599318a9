use Rattle.std.proofs.Common.{◌≡◌, ◌<◌, ◌+◌, ◌-◌, ◌∙◌, true, false, refl, sym, ap, subst, length, arith}
use Rattle.std.proofs.lemmas.Bool.{true≢false}
use Rattle.cast_types.specs.Repeat.{iterate}
use Rattle.cast_types.proofs.Iterates.{iterate_still}
use Rattle.cast_rules.specs.Rules.Rest.{deliver_first}
use Rattle.cast_domain.specs.Shared.{part_of}
use Rattle.cast_domain.specs.Records.{records_in}
use Rattle.cast_domain.specs.Calls.{records}
use Rattle.cast_domain.specs.RestCalls.{resting_records}
use Rattle.cast_domain.specs.Flags.{has_ready}
use Rattle.cast_domain.proofs.Flagged.{none_ready}
use Rattle.cast_domain.proofs.Loops.{beside_then, turn_more}
use Rattle.cast_rest.proofs.rest.deliver_all.Goals as goal

pub loop-turn-preserved : goal.loop-turn-preserved
loop-turn-preserved c =
    let r = records_in c.loop-turn.domain c.loop-turn.lent in
    let first = deliver_first records resting_records c.args.serial in
    let i = c.loop-turn._turn in
    let n = length (part_of c.args.domain.now.config.domain c.args.lent.now.shared.now).kept in
    let within : i < n = omega (arith, c.held_count-turn-end.ensures) in
    record {
      stays = beside_then c.loop-turn.invariant.stays c.in_ok-deliver_first.ensures.stays;
      clear = λ none. c.in_ok-deliver_first.ensures.none (c.loop-turn.invariant.clear none);
      left = λ none. ap (iterate (n - (i + 1)) first) (c.in_ok-deliver_first.ensures.made (c.loop-turn.invariant.clear none))
          ∙ turn_more first r i n within
          ∙ c.loop-turn.invariant.left none;
      told = λ _.
          elim c.loop-turn.changed
          as (λ b. c.loop-turn.changed ≡ b → has_ready (records_in c.args.domain.now c.args.lent.now) c.args.serial ≡ true) [
            | true ↦ λ e. c.loop-turn.invariant.told e
            | false ↦ λ e.
                subst (λ x. has_ready x c.args.serial ≡ true) (c.loop-turn.invariant.still e)
                (sym c.in_ok-deliver_first.ensures.told ∙ c.if-not-branch.false)
          ] refl;
      none = λ e. absurd (true≢false e);
      still = λ e. absurd (true≢false e);
    }

-- a process that delivered nothing has nothing to deliver
pub returns-then-not-branch-clause-made : goal.returns-then-not-branch-clause-made
returns-then-not-branch-clause-made c none =
    let r = records_in c.loop-turn.domain c.loop-turn.lent in
    let first = deliver_first records resting_records c.args.serial in
    let n = length (part_of c.args.domain.now.config.domain c.args.lent.now.shared.now).kept in
    let same = c.in_ok-deliver_first.ensures.still c.if-not-branch.true in
    let still : first r ≡ r = sym (c.in_ok-deliver_first.ensures.made (c.loop-turn.invariant.clear none)) ∙ same in
    same ∙ sym (iterate_still (n - c.loop-turn._turn) first r still) ∙ c.loop-turn.invariant.left none

-- it tells whether something was ready at first: it delivered, or nothing was
pub returns-then-not-branch-clause-told : goal.returns-then-not-branch-clause-told
returns-then-not-branch-clause-told c =
    elim c.loop-turn.changed
    as (λ b. c.loop-turn.changed ≡ b → b ≡ has_ready (records_in c.args.domain.now c.args.lent.now) c.args.serial) [
      | true ↦ λ e. sym (c.loop-turn.invariant.told e)
      | false ↦ λ e.
          sym (subst (λ x. has_ready x c.args.serial ≡ false) (c.loop-turn.invariant.still e)
          (sym c.in_ok-deliver_first.ensures.told ∙ c.if-not-branch.true))
    ] refl

pub returns-clause-told : goal.returns-clause-told
returns-clause-told c =
    let first = records_in c.args.domain.now c.args.lent.now in
    elim c.loop-turn.changed as (λ b. c.loop-turn.changed ≡ b → b ≡ has_ready first c.args.serial) [
      | true ↦ λ e. sym (c.loop-turn.invariant.told e)
      | false ↦ λ e. sym (none_ready first c.args.serial (omega (arith, c.loop-turn.invariant.none e, c.held_count-turn-end.ensures)))
    ] refl
