use Rattle.cast_trust.proofs.Seals.{sealed_deliveries_are_causal, sealed_runs_are_networks}
use Rattle.cast_trust.proofs.laws.sealed_runs_are_networks.Goals as goal

pub returns-clause-networks : goal.returns-clause-networks
returns-clause-networks c = sealed_runs_are_networks

pub returns-clause-causal : goal.returns-clause-causal
returns-clause-causal c = sealed_deliveries_are_causal
