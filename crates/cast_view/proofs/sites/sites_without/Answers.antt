use Rattle.std.proofs.Common.{rules}
use Rattle.std.proofs.lemmas.Fn.{filter_same}
use Rattle.cast_view.proofs.sites.sites_without.Goals as goal

pub returns : goal.returns
returns c = rw (c.from_vec.ensures, ← c.into_vec-rest.ensures) (filter_same _ _ _ (λ x b f' k. search rules) _ _ c.retain.ensures.filtered)
