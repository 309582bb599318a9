use Rattle.std.proofs.Common.{◌≡◌, ◌++◌, List, rules, take, ap, ◌∙◌}
use Rattle.std.specs.Prelude.{filter}
use Rattle.std.proofs.lemmas.Fn.{filter_same}
use Rattle.cast_types.specs.Names.{Entry, entry_eq}
use Rattle.cast_types.specs.Sets.{apart_from}
use Rattle.cast_types.specs.Counts.{is_within}
use Rattle.cast_flush.specs.Decisions.{added_entries}
use Rattle.cast_flush.proofs.decisions.order_behind.Goals as goal

-- the ids of the tail that are within the cut, and what is added to them
pub returns : goal.returns
returns c =
    let kept : c.retain.new.self.items ≡ filter (is_within c.args.cut.now) c.in_ok-ids.ids.items =
    filter_same _ _ _ (λ x b f' k. search rules) _ _ c.retain.ensures.filtered in
    let placed : c.retain.new.self.items ≡ filter (is_within c.args.cut.now) c.args.tail.now.ids =
    kept ∙ ap (filter (is_within c.args.cut.now)) (c.in_ok-ids.ensures.items ∙ c.ids.ensures.value) in
    let more : c.added_ids-more.result.items ≡ added_entries c.args.cut.now c.args.reports.now c.retain.new.self.items =
    c.added_ids-more.ensures
    ∙ ap (λ (es : List Entry). take 64 (apart_from entry_eq (filter (is_within c.args.cut.now) es) c.deref.result.now))
    c.in_ok-unplaced_ids.ensures
    ∙ ap (added_entries c.args.cut.now c.args.reports.now) c.deref.ensures.value in
    let whole : c.extend_from_slice.new.self.items
    ≡ c.retain.new.self.items ++ added_entries c.args.cut.now c.args.reports.now c.retain.new.self.items =
    c.in_ok-extend_from_slice.ensures.items ∙ ap (λ (es : List Entry). c.retain.new.self.items ++ es) (c.deref-2.ensures.value ∙ more) in
    let first : c.truncate.new.self.items ≡ take 576 (filter (is_within c.args.cut.now) c.args.tail.now.ids
    ++ added_entries c.args.cut.now c.args.reports.now (filter (is_within c.args.cut.now) c.args.tail.now.ids)) =
    c.truncate.ensures.items
    ∙ ap (take 576) (whole ∙ ap (λ (es : List Entry). es ++ added_entries c.args.cut.now c.args.reports.now es) placed) in
    c.from_parts.ensures ∙ (λ i. record { start = c.start.ensures.value i; ids = first i })
