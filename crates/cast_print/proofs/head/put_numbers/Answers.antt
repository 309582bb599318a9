use Rattle.std.proofs.Common.{refl}
use Rattle.cast_print.proofs.Joined.{numbers_written}
use Rattle.cast_print.proofs.head.put_numbers.Goals as goal

pub returns : goal.returns
returns c =
    numbers_written c.args.numbers.now _ c.loop-number.number-index _ _ _ c.in-len1-up.len_at_least refl c.loop-number-test.false
    (c.in_ok-write.ensures.bytes) c.loop-number.invariant
