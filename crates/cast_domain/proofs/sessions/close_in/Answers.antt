use Rattle.std.proofs.Common.{rules}
use Rattle.cast_domain.proofs.Serials.{closed_each}
use Rattle.cast_domain.proofs.sessions.close_in.Goals as goal

-- the closure closes the session of the serial, and keeps all
pub returns : goal.returns
returns c = closed_each _ c.args.serial _ (λ k v b w f' t. (search rules, search rules, search rules)) _ _ c.retain.ensures.filtered
