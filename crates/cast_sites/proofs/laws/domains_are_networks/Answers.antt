use Rattle.cast_sites.proofs.Domains as lemma
use Rattle.cast_sites.proofs.laws.domains_are_networks.Goals as goal

pub returns : goal.returns
returns c =
    record {
      networks = lemma.domains_are_networks;
      go_on = lemma.domains_go_on;
      causal = lemma.domains_deliver_causally;
      agree = lemma.domains_agree;
      told = lemma.domains_are_told;
    }
