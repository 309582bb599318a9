use Rattle.std.proofs.Common.{◌≡◌, ◌∙◌, sym, ap, true, refl, rules}
use Rattle.cast_ready.specs.declared.row.ProcessUpdate.TheVariants as fact
use Rattle.cast_ready.specs.Rows.{told_row}
use Rattle.cast_delay.specs.Queue.{change_row}
use Rattle.cast_delay.specs.Admitted.{are_of, busy_places, rise}
use Rattle.cast_delay.proofs.Admitted.{rise_changed, told_process}
use Rattle.cast_delay.proofs.Busy.{are_of_changed, places_changed}
use Rattle.cast_delay.proofs.rows.Rows.tell.Goals as goal
use Rattle.cast_delay.proofs.rows.Rows.tell.Goals.{in-Ok-Time, in_default}

-- each row is of the process that it was of; the places of busy ones are found anew, where they are told of a group
pub invariant_of-self-2 : goal.invariant_of-self-2
invariant_of-self-2 c =
    let rows = c.self.inside.rows.items in
    let told : c.match-told.self-inside.rows.items ≡ change_row c.args.process (told_row c.args.fact.now) rows = search rules in
    let site : are_of c.match-told.self-inside.site c.match-told.self-inside.rows.items
    ≡ are_of c.self.inside.site c.match-told.self-inside.rows.items = search rules in (
      λ rising. (
        ap rise told
            ∙ rise_changed (told_row c.args.fact.now) (told_process c.args.fact.now) c.args.process rows
            ∙ (c.self.invariant.0 rising).0,
        site
            ∙ ap (are_of c.self.inside.site) told
            ∙ are_of_changed c.self.inside.site (told_row c.args.fact.now) (told_process c.args.fact.now) c.args.process rows
            ∙ (c.self.invariant.0 rising).1,
      ),
      λ kept. elim c.match-told.branch [
        | in-Ok-Time w ↦
            let time : told_row c.args.fact.now ≡ told_row (fact.Time w.in-Ok-Time.field-0-1) = search rules in
            let still : busy_places 0 c.match-told.self-inside.rows.items ≡ busy_places 0 rows =
            ap (busy_places 0) told
            ∙ ap (λ f. busy_places 0 (change_row c.args.process f rows)) time
            ∙ places_changed (told_row (fact.Time w.in-Ok-Time.field-0-1)) (λ r. refl) c.args.process rows in
            let was : c.self.inside.kept_up ≡ true = search (rules, kept) in
            let same : c.match-told.self-inside.busy.items ≡ c.self.inside.busy.items = search rules in
            same ∙ c.self.invariant.1 was ∙ sym still
        | in_default w ↦
            let anew : w.note_busy-self-inside.result ≡ true = search (rules, kept) in
            let same : w.deref.result.now ≡ c.match-told.self-inside.rows.items = search rules in
            let busy : c.match-told.self-inside.busy.items ≡ w.note_busy-self-inside.new.busy.items = search rules in
            busy ∙ w.note_busy-self-inside.ensures anew ∙ ap (busy_places 0) same
      ],
    )
