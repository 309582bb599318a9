use Rattle.std.proofs.Common.{◌≡◌, ◌∙◌, true, false, Ok, refl, sym, ap}
use Rattle.cast_events.specs.declared.event.Outs.{Outs}
use Rattle.cast_events.specs.declared.event.Taken.TheVariants.{Refused}
use Rattle.cast_types.specs.declared.refusal.Refusal.TheVariants as refusal
use Rattle.cast_domain.specs.Records.{is_halted}
use Rattle.cast_table.specs.Tables.{lending}
use Rattle.cast_table.proofs.table.turn.Goals as goal

pub returns-in-Ok-clause-turn : goal.returns-in-Ok-clause-turn
returns-in-Ok-clause-turn c = record {
  number = c.step.ensures.number;
  halted =
      elim (is_halted c.args.domain.now) as (λ b. is_halted c.args.domain.now ≡ b → is_halted c.step.new.domain ≡ b) [
        | true ↦ λ stopped. ap is_halted (c.step.ensures.halted stopped).1 ∙ stopped
        | false ↦ λ ran. c.in-Ok.ensures.running ran
      ] refl;
  steps = λ ran s means.
      let x = c.in-Ok.ensures.steps ran s means in
      record {
        end = x.end;
        steps = x.steps;
        means = x.means;
        outs = ap (λ (o : Outs). record o { halted = c.args.halted.now.items }) x.outs;
      };
  refuses = λ stopped.
      let x = c.step.ensures.halted stopped in
      let same : Ok c.in-Ok.taken ≡ Ok (Refused refusal.Halted) = sym c.in-Ok.is ∙ x.0 in (
        cc,
        x.1,
        λ j. lending (x.2 j) (x.3 j) c.args.halted.now.items,
      );
  others = c.step.ensures.others;
}
