use Rattle.std.proofs.Common.{rules}
use Rattle.std.proofs.lemmas.Map.Made.{filter_same_pairs}
use Rattle.cast_stable.proofs.acks.end_in.Goals as goal

pub returns : goal.returns
returns g c = filter_same_pairs _ _ _ (λ s v b w f' k. (search rules, search rules, search rules)) _ _ c.retain.ensures.filtered
