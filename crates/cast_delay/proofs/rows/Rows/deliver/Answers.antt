use Rattle.std.proofs.Common.{◌≡◌, ◌∙◌, List, Contains, sym, ap, subst, true, rules}
use Rattle.cast_ready.specs.declared.row.Row.{Row}
use Rattle.std.proofs.lemmas.Bool.{false≢true}
use Rattle.cast_delay.specs.Queue.{after_delivery}
use Rattle.cast_delay.specs.Admitted.{are_of, busy_places, rise}
use Rattle.cast_delay.proofs.Admitted.{rise_delivered}
use Rattle.cast_delay.proofs.Busy.{are_of_delivered, places_delivered}
use Rattle.cast_delay.proofs.rows.Rows.deliver.Goals as goal
use Rattle.cast_delay.proofs.rows.Rows.deliver.Goals.{then-is_err, else-is_err}

-- each row is of the process that it was of, and of its groups nothing is told
pub invariant_of-self-2 : goal.invariant_of-self-2
invariant_of-self-2 c =
    let rows = c.self.inside.rows.items in
    let delivered : c.if-is_err.self-inside.rows.items ≡ after_delivery c.args.offered.now c.args.process c.args.key rows = search rules in
    let site : are_of c.if-is_err.self-inside.site c.if-is_err.self-inside.rows.items
    ≡ are_of c.self.inside.site c.if-is_err.self-inside.rows.items = search rules in (
      λ rising. (
        ap rise delivered ∙ rise_delivered c.args.offered.now c.args.process c.args.key rows ∙ (c.self.invariant.0 rising).0,
        site
            ∙ ap (are_of c.self.inside.site) delivered
            ∙ are_of_delivered c.self.inside.site c.args.offered.now c.args.process c.args.key rows
            ∙ (c.self.invariant.0 rising).1,
      ),
      λ kept. elim c.if-is_err.branch [
        | then-is_err w ↦ absurd (false≢true (sym (ap (λ s. s.kept_up) w.self-inside-is) ∙ kept))
        | else-is_err w ↦
            let was : c.self.inside.kept_up ≡ true = search (rules, kept) in
            let same : c.if-is_err.self-inside.busy.items ≡ c.self.inside.busy.items = search rules in
            same
            ∙ c.self.invariant.1 was
            ∙ sym (ap (busy_places 0) delivered ∙ places_delivered c.args.offered.now c.args.process c.args.key rows)
      ],
    )

pub deliver_in-delivered-requires-clause-low : goal.deliver_in-delivered-requires-clause-low
deliver_in-delivered-requires-clause-low c = λ row there o at.
    c.requires row (subst (λ (rs : List Row). Contains rs row) c.self.view_is there) o at
