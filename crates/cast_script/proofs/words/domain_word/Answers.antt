use Rattle.std.proofs.Common.{sym, arith}
use Rattle.cast_script.proofs.Numbers.{limited_is}
use Rattle.cast_script.proofs.words.domain_word.Goals as goal

pub overflow_cast-result : goal.overflow_cast-result
overflow_cast-result c =
    omega (arith, (limited_is _ _ c.args.word.now c.in_ok-number_between.field-0 (sym c.in_ok-number_between.ensures)).1.1)
