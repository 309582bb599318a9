use Rattle.std.proofs.Common.{rules}
use Rattle.cast_delay.proofs.queue.Delay.note_view.Goals as goal

pub returns : goal.returns
returns c = search rules
