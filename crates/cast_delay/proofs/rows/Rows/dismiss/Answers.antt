use Rattle.std.proofs.Common.{◌≡◌, ◌∙◌, ap, rules}
use Rattle.std.specs.Prelude.{not}
use Rattle.cast_types.specs.Names.{proc_eq}
use Rattle.cast_types.proofs.Rising.{rising_kept}
use Rattle.cast_delay.specs.Admitted.{are_of, busy_places, row_cmp, rise}
use Rattle.cast_delay.proofs.Busy.{are_of_left}
use Rattle.cast_delay.proofs.rows.Rows.dismiss.Goals as goal

-- rows rise without some of them, and the places of busy ones are found anew
pub invariant_of-self : goal.invariant_of-self
invariant_of-self c =
    let same : c.deref.result.now ≡ c.dismiss_in.new.rows.items = search rules in (
      λ rising. (
        ap rise c.dismiss_in.ensures
            ∙ rising_kept row_cmp (λ r. not (proc_eq r.process c.args.process)) c.self.inside.rows.items (c.self.invariant.0 rising).0,
        ap (are_of c.self.inside.site) c.dismiss_in.ensures ∙ are_of_left c.self.inside.site (λ r. not (proc_eq r.process c.args.process))
            c.self.inside.rows.items (c.self.invariant.0 rising).1,
      ),
      λ kept. c.note_busy-self-inside.ensures kept ∙ ap (busy_places 0) same,
    )
