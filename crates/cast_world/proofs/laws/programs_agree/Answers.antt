use Rattle.cast_world.proofs.Memberships as members
use Rattle.cast_world.proofs.Programs as lemma
use Rattle.cast_world.proofs.laws.programs_agree.Goals as goal

pub returns : goal.returns
returns c = record {
  installed = members.show_installed;
  same_members = members.show_one_membership;
  same_messages = lemma.told_the_same;
  same_order = lemma.told_in_one_order;
  prefix = lemma.orders_told_agree;
}
