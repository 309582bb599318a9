use Rattle.cast_world.proofs.Properties as lemma
use Rattle.cast_world.proofs.laws.views_have_one_membership.Goals as goal

pub returns : goal.returns
returns c = record {
  installed = lemma.enter_by_installs;
  self_inclusion = lemma.enter_as_members;
  same = lemma.installs_agree;
}
