use Rattle.cast_world.proofs.Casts as lemma
use Rattle.cast_world.proofs.laws.deliveries_were_cast.Goals as goal

pub returns : goal.returns
returns c = record {
  delivered = lemma.deliveries_were_cast;
  sent = lemma.sent_were_cast;
  apart = lemma.casts_are_apart;
  once = lemma.send_once;
}
