use Rattle.cast_world.proofs.Properties as lemma
use Rattle.cast_world.proofs.laws.messages_keep_to_views.Goals as goal

pub returns : goal.returns
returns c = record {
  sent = lemma.send_in_view;
  delivered = lemma.deliver_in_view;
  sending_view = lemma.deliver_in_sending_view;
}
