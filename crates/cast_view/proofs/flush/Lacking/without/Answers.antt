use Rattle.std.proofs.Common.{rules}
use Rattle.std.proofs.lemmas.Fn.{filter_same}
use Rattle.cast_view.proofs.flush.Lacking.without.Goals as goal

pub returns-clause-ids : goal.returns-clause-ids
returns-clause-ids c = filter_same _ _ _ (λ x b f' k. search rules) c.args.self.ids.items c.retain.new.self.items c.retain.ensures.filtered
