use Rattle.std.proofs.Common.{sym}
use Rattle.cast_console.proofs.answers.serve_event.Goals as goal

pub returns-clause-text : goal.returns-clause-text
returns-clause-text g c = rw (sym c.outcome.ensures) c.outcome_text-text.ensures

pub returns-clause-done : goal.returns-clause-done
returns-clause-done g c = c.serve-done.ensures.done
