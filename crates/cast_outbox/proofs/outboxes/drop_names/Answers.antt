use Rattle.std.proofs.Common.{rules}
use Rattle.indexmap.proofs.CallerLemmas.{filter-RetainsPairs}
use Rattle.cast_outbox.proofs.outboxes.drop_names.Goals as goal

pub returns : goal.returns
returns c = filter-RetainsPairs _ _ _ (λ k v b w g called. search rules) _ _ c.retain.ensures.filtered
