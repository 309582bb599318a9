use Rattle.cast_pen.proofs.Bytes.{bytes_are_kept, all_is_written}
use Rattle.cast_pen.proofs.Ends.{nothing_behind_the_end}
use Rattle.cast_pen.proofs.Puts.{putting_is_writing}
use Rattle.cast_pen.proofs.laws.bytes_keep_their_order.Goals as goal

pub returns-clause-kept : goal.returns-clause-kept
returns-clause-kept c = bytes_are_kept

pub returns-clause-all : goal.returns-clause-all
returns-clause-all c = all_is_written

pub returns-clause-end : goal.returns-clause-end
returns-clause-end c = nothing_behind_the_end

pub returns-clause-put : goal.returns-clause-put
returns-clause-put c = putting_is_writing
