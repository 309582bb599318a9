use Rattle.std.proofs.Common.{rules}
use Rattle.std.proofs.lemmas.Map.Made.{map_same_pairs}
use Rattle.cast_timer.specs.Index.{renewed_due}
use Rattle.cast_timer.proofs.frames.renew_dues.Goals as goal

pub returns : goal.returns
returns c =
    map_same_pairs _ (renewed_due c.args.now c.args.due) _ (λ k v b w f' t. (search rules, search rules, search rules))
    _ _ c.retain.ensures.filtered
