use Rattle.cast_world.proofs.Told as lemma
use Rattle.cast_world.proofs.laws.answers_agree.Goals as goal

pub returns : goal.returns
returns c = record {
  networks = lemma.runs_are_networks;
  lists = lemma.answers_are_lists;
  causal = lemma.told_in_order;
  same_messages = lemma.tell_the_same;
  same_order = lemma.tell_one_order;
  prefix = lemma.told_orders_agree;
}
