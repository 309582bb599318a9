use Rattle.std.proofs.Common.{◌≡◌, rules, ap, take, ◌∙◌}
use Rattle.std.specs.Prelude.{not, filter}
use Rattle.std.proofs.lemmas.Fn.{filter_same}
use Rattle.cast_types.specs.Names.{entry_eq}
use Rattle.cast_types.specs.Sets.{is_among}
use Rattle.cast_types.specs.Counts.{is_within}
use Rattle.cast_flush.proofs.decisions.added_ids.Goals as goal

-- what is kept of the ids, and of that the first
pub returns : goal.returns
returns c =
    let fits : c.retain.new.self.items ≡ filter (is_within c.args.cut.now) c.args.unplaced.items =
    filter_same _ _ _ (λ x b f' k. search rules) c.args.unplaced.items c.retain.new.self.items c.retain.ensures.filtered in
    let lacking : c.retain-2.new.self.items ≡ filter (λ x. not (is_among entry_eq x c.args.placed.now)) c.retain.new.self.items =
    filter_same _ _ _ (λ x b f' k. search rules) c.retain.new.self.items c.retain-2.new.self.items c.retain-2.ensures.filtered in
    c.truncate.ensures.items
    ∙ ap (take 64) (lacking ∙ ap (filter (λ x. not (is_among entry_eq x c.args.placed.now))) fits)
