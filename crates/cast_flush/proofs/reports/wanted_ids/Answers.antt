use Rattle.std.proofs.Common.{◌≡◌, rules, ap, ◌∙◌}
use Rattle.std.specs.Prelude.{not, filter}
use Rattle.std.proofs.lemmas.Fn.{filter_same}
use Rattle.cast_flush.specs.Reports.{has_body, is_needed}
use Rattle.cast_flush.proofs.reports.wanted_ids.Goals as goal

-- what is kept of all that sites keep, and of that what is not there
pub returns : goal.returns
returns c =
    let needed : c.retain.new.self.items ≡ filter (is_needed c.args.cut.now c.args.reports.now) c.in_ok-ids.ids.items =
    filter_same _ _ _ (λ x b f' k. search rules) c.in_ok-ids.ids.items c.retain.new.self.items c.retain.ensures.filtered in
    let lacking : c.retain-2.new.self.items
    ≡ filter (λ e. not (has_body c.args.group c.args.view c.args.bodies.now e)) c.retain.new.self.items =
    filter_same _ _ _ (λ x b f' k. search rules) c.retain.new.self.items c.retain-2.new.self.items c.retain-2.ensures.filtered in
    lacking
    ∙ ap (filter (λ e. not (has_body c.args.group c.args.view c.args.bodies.now e)))
    (needed ∙ ap (filter (is_needed c.args.cut.now c.args.reports.now)) c.in_ok-ids.ensures)
