use Rattle.cast_premises.proofs.Premises as lemma
use Rattle.cast_premises.proofs.laws.installations_obey_the_laws.Goals as goal

pub returns : goal.returns
returns c =
    record {
      causal = lemma.installations_deliver_causally;
      agree = lemma.installations_agree;
      told = lemma.installations_are_told;
      wired = lemma.installations_read_their_frames;
    }
