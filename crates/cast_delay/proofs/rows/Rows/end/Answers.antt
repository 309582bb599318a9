use Rattle.std.proofs.Common.{◌∙◌, refl, sym, ap}
use Rattle.cast_ready.specs.Rows.{ended_row}
use Rattle.cast_delay.specs.Admitted.{are_of, busy_places, rise}
use Rattle.cast_delay.proofs.Admitted.{rise_each}
use Rattle.cast_delay.proofs.Busy.{are_of_each, places_each}
use Rattle.cast_delay.proofs.rows.Rows.end.Goals as goal

-- each row is of the process that it was of, and of its groups nothing is told
pub invariant_of-self : goal.invariant_of-self
invariant_of-self c =
    let rows = c.self.inside.rows.items in (
      λ rising. (
        ap rise c.end_in.ensures ∙ rise_each (ended_row c.args.group c.args.number) (λ r. refl) rows ∙ (c.self.invariant.0 rising).0,
        ap (are_of c.self.inside.site) c.end_in.ensures
            ∙ are_of_each c.self.inside.site (ended_row c.args.group c.args.number) (λ r. refl) rows
            ∙ (c.self.invariant.0 rising).1,
      ),
      λ kept. c.self.invariant.1 kept
          ∙ sym (ap (busy_places 0) c.end_in.ensures ∙ places_each (ended_row c.args.group c.args.number) (λ r. refl) 0 rows),
    )
