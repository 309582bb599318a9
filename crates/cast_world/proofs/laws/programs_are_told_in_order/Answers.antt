use Rattle.cast_world.proofs.Programs as lemma
use Rattle.cast_world.proofs.laws.programs_are_told_in_order.Goals as goal

pub returns : goal.returns
returns c = record {
  causal = lemma.told_causally;
  due = lemma.told_when_due;
  first_in_first_out = lemma.told_first_in_first_out;
  once = lemma.each_told_once;
  sending_view = lemma.told_in_sending_view;
  views_rise = lemma.show_rising_views;
}
