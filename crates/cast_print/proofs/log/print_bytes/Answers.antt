use Rattle.std.proofs.Common.{sym, ◌∙◌}
use Rattle.std.specs.String.{string_bytes}
use Rattle.cast_print.proofs.Digits.{all_written, part_written}
use Rattle.cast_print.proofs.log.print_bytes.Goals as goal

pub loop-rest-preserved : goal.loop-rest-preserved
loop-rest-preserved c =
    rw (c.in_ok-push_str.ensures.bytes, c.as_str.ensures.value, c.in_ok-encode.ensures, c.split_at.ensures.front, c.split_at.ensures.back)
    (part_written (string_bytes c.loop-rest.text) c.loop-rest.rest.now _ ∙ c.loop-rest.invariant)

pub returns : goal.returns
returns c = all_written _ c.loop-rest.rest.now _ (sym c.is_empty.ensures ∙ c.loop-rest-test.false) c.loop-rest.invariant
