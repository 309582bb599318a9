use Rattle.std.proofs.Common.{◌<◌, subst}
use Rattle.cast_pool.specs.Kept.{IsLed, Seen, events_of}
use Rattle.cast_pool.proofs.kept.Kept.trace_leads.Goals as goal

pub returns-clause-leads : goal.returns-clause-leads
returns-clause-leads g c = subst IsLed c.self.view_is c.self.invariant.0

pub returns-clause-counted : goal.returns-clause-counted
returns-clause-counted g c = subst (λ (s : Seen). events_of s < 18446744073709551616) c.self.view_is c.self.invariant.2
