use Rattle.cast_print.proofs.Read as read
use Rattle.cast_print.proofs.laws.read_is_printable.Goals as goal

pub returns : goal.returns
returns c = read.read_is_printable
