use Rattle.cast_domain.proofs.shared.Shared.new.Goals as goal

pub returns : goal.returns
returns c d = λ i. record {
  kept = c.new.ensures.kept d i;
  next = c.new.ensures.next d i;
  owed = c.new-2.ensures d i;
  outboxes = c.new-3.ensures d i;
}
