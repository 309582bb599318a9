use Rattle.cast_domain.specs.Records.{records_in}
use Rattle.std.proofs.Common.{sym, subst}
use Rattle.cast_domain.specs.Fits.{AreDismissed}
use Rattle.cast_domain.proofs.Dismissals.{dismissed_pass}
use Rattle.cast_domain.proofs.Loops.{beside_then}
use Rattle.cast_domain.proofs.Passes.{led_pass, led_end}
use Rattle.cast_rest.proofs.rest.rest.Goals as goal

pub returns-then-not-branch-clause-rests : goal.returns-then-not-branch-clause-rests
returns-then-not-branch-clause-rests c none s fits lawful =
    let before = records_in c.loop-turn.domain c.loop-turn.lent in
    let after = records_in c.pass.new.domain c.pass.new.lent in
    led_end before after (c.in_ok-pass.ensures.made (c.loop-turn.invariant.clear none)) (c.in_ok-pass.ensures.still c.if-not-branch.true)
    s (c.loop-turn.invariant.led none s fits lawful)

pub returns-then-not-branch-clause-dismissed : goal.returns-then-not-branch-clause-dismissed
returns-then-not-branch-clause-dismissed c none dismissed =
    let before = records_in c.loop-turn.domain c.loop-turn.lent in
    subst AreDismissed (sym (c.in_ok-pass.ensures.made (c.loop-turn.invariant.clear none)))
    (dismissed_pass before (c.loop-turn.invariant.dismissed none dismissed))

pub loop-turn-preserved : goal.loop-turn-preserved
loop-turn-preserved c =
    let before = records_in c.loop-turn.domain c.loop-turn.lent in
    let after = records_in c.pass.new.domain c.pass.new.lent in
    record {
      stays = beside_then c.loop-turn.invariant.stays c.in_ok-pass.ensures.stays;
      clear = λ none. c.in_ok-pass.ensures.none (c.loop-turn.invariant.clear none);
      dismissed = λ none dismissed. subst AreDismissed (sym (c.in_ok-pass.ensures.made (c.loop-turn.invariant.clear none)))
          (dismissed_pass before (c.loop-turn.invariant.dismissed none dismissed));
      led = λ none s fits lawful. led_pass before after (c.in_ok-pass.ensures.made (c.loop-turn.invariant.clear none))
          s (c.loop-turn.invariant.led none s fits lawful);
    }
