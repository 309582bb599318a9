use Rattle.cast_premises.proofs.Premises as lemma
use Rattle.cast_premises.proofs.laws.one_text_meets_the_premises.Goals as goal

pub returns : goal.returns
returns c = record { home = lemma.one_text_names_one_home; numbered = lemma.one_text_numbers_from_one }
