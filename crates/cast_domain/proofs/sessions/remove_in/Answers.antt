use Rattle.std.proofs.Common.{◌==◌, not, rules}
use Rattle.indexmap.proofs.CallerLemmas.{filter-RetainsPairs}
use Rattle.cast_domain.proofs.sessions.remove_in.Goals as goal

-- the closure keeps what is of other serials, as it is
pub returns : goal.returns
returns c =
    filter-RetainsPairs _ (λ e. not (e.0 == c.args.serial)) _ (λ k v b w f' t. (search rules, search rules, search rules))
    _ _ c.retain.ensures.filtered
