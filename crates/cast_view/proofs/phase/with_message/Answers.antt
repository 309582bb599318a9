use Rattle.cast_view.proofs.phase.with_message.Goals as goal

pub returns : goal.returns
returns c = c.in_ok-push.ensures.ok
