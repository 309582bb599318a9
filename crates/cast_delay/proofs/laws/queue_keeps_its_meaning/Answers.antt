use Rattle.cast_delay.proofs.Queues.{new_fits, admit_fits, dismiss_fits, tell_fits, view_fits}
use Rattle.cast_delay.proofs.Queues.{freeze_fits, pend_fits, offer_fits, forget_fits, delivery_fits}
use Rattle.cast_delay.proofs.laws.queue_keeps_its_meaning.Goals as goal

pub returns-clause-new : goal.returns-clause-new
returns-clause-new c = new_fits

pub returns-clause-admit : goal.returns-clause-admit
returns-clause-admit c = admit_fits

pub returns-clause-dismiss : goal.returns-clause-dismiss
returns-clause-dismiss c = dismiss_fits

pub returns-clause-tell : goal.returns-clause-tell
returns-clause-tell c = tell_fits

pub returns-clause-view_changed : goal.returns-clause-view_changed
returns-clause-view_changed c = view_fits

pub returns-clause-freeze : goal.returns-clause-freeze
returns-clause-freeze c = freeze_fits

pub returns-clause-pend : goal.returns-clause-pend
returns-clause-pend c = pend_fits

pub returns-clause-offer : goal.returns-clause-offer
returns-clause-offer c = offer_fits

pub returns-clause-forget : goal.returns-clause-forget
returns-clause-forget c = forget_fits

pub returns-clause-delivered : goal.returns-clause-delivered
returns-clause-delivered c = delivery_fits
