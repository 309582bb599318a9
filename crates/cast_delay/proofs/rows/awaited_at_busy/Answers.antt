use Rattle.std.proofs.Common.{◌∙◌, ◌-◌, get_or, sym, ap, inl, inr, arith}
use Rattle.std.proofs.lemmas.Bool.{cases_eq}
use Rattle.cast_ready.specs.Rows.{awaits_row}
use Rattle.cast_delay.proofs.Busy.{are_within, awaited_at, none_awaits}
use Rattle.cast_delay.proofs.rows.awaited_at_busy.Goals as goal

pub awaits_at-requires : goal.awaits_at-requires
awaits_at-requires c =
    are_within c.args.rows.now c.args.busy.now c.requires (c.loop-left.left - 1)
    0 (omega (arith, c.loop-left.invariant.within, c.loop-left-test.true))

pub returns-then-awaits_at : goal.returns-then-awaits_at
returns-then-awaits_at c =
    let last = c.loop-left.left - 1 in
    let within =
    are_within c.args.rows.now c.args.busy.now c.requires last 0 (omega (arith, c.loop-left.invariant.within, c.loop-left-test.true)) in
    sym (awaited_at c.args.rows.now (get_or c.args.busy.now last 0)
    c.args.id within (λ row. sym (c.awaits_at.ensures row) ∙ c.if-awaits_at.true))

pub loop-left-preserved : goal.loop-left-preserved
loop-left-preserved c =
    let last = c.loop-left.left - 1 in
    record {
      within = omega (arith, c.loop-left.invariant.within);
      none = λ j row le within.
          elim (cases_eq j last) [
            | inl same ↦
                ap (λ k. awaits_row (get_or c.args.rows.now (get_or c.args.busy.now k 0) row) c.args.id) same
                ∙ sym (c.awaits_at.ensures row)
                ∙ c.if-awaits_at.false
            | inr other ↦ c.loop-left.invariant.none j row (omega (arith, le, other)) within
          ];
    }

-- no other row than the busy ones awaits it
pub returns : goal.returns
returns c =
    sym (none_awaits c.args.rows.now c.args.busy.now c.requires c.args.id
    (λ j row within. c.loop-left.invariant.none j row (omega (arith, c.loop-left-test.false)) within))
