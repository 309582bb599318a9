use Rattle.cast_print.proofs.Spelled as spelled
use Rattle.cast_print.proofs.laws.printed_is_read.Goals as goal

pub returns : goal.returns
returns c = spelled.printed_is_read
