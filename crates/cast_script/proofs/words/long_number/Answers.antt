use Rattle.std.proofs.Common.{sym, ap, ◌∙◌, arith}
use Rattle.cast_script.specs.WordReadings.{number_of}
use Rattle.cast_script.proofs.Numbers.{number_again, number_not, number_read, number_not_read, odd_no_number}
use Rattle.cast_script.proofs.words.long_number.Goals as goal

pub returns-then-not-is_plain : goal.returns-then-not-is_plain
returns-then-not-is_plain c =
    sym (number_not c.args.word.now
    (odd_no_number c.args.word.now (rw c.as_bytes.ensures.value at (c.is_plain.ensures.other c.if-not-is_plain.true))))

pub returns-in-Ok : goal.returns-in-Ok
returns-in-Ok c =
    let plain = rw c.as_bytes.ensures.value at (c.is_plain.ensures.plain c.if-not-is_plain.false) in
    let digits = number_read c.args.word.now c.in-Ok.value c.in-Ok.ensures.value.0 plain.0 plain.1 in
    sym (ap number_of digits ∙ number_again c.in-Ok.value (omega arith))

pub returns-in-Err : goal.returns-in-Err
returns-in-Err c = sym (number_not c.args.word.now (number_not_read c.args.word.now c.in-Err.ensures.value.0))
