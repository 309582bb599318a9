use Rattle.std.proofs.Common.{◌+◌, sym, ap, ◌∙◌, arith}
use Rattle.std.specs.String.{string_bytes}
use Rattle.cast_console.proofs.Numbers.{lines_on, lines_over}
use Rattle.cast_console.proofs.answers.domains_text.Goals as goal
use Rattle.cast_console.proofs.answers.domains_text.Goals.{else-loop-number-test, then-loop-number-test+in_ok-put_line_at+else-number-lt255}

pub loop-number-preserved : goal.loop-number-preserved
loop-number-preserved c =
    let table = c.args.table.now in
    let n = c.loop-number.number in
    let text = string_bytes c.loop-number.text in
    rw c.in_ok-put_line_at.ensures (lines_on table text n (omega (arith, c.loop-number-test.true)) ∙ c.loop-number.invariant)

pub returns : goal.returns
returns c =
    let table = c.args.table.now in
    let n = c.loop-number.number in
    let text = string_bytes c.loop-number.text in
    elim c.loop-number-test.branch [
      | else-loop-number-test w ↦ ap string_bytes w.text-is ∙ (sym (lines_over table text n (omega arith)) ∙ c.loop-number.invariant)
      | then-loop-number-test+in_ok-put_line_at+else-number-lt255 w ↦
          ap string_bytes w.text-is
          ∙ (sym (lines_over table (string_bytes w.put_line_at.new.text) (n + 1) (omega arith))
          ∙ rw w.in_ok-put_line_at.ensures (lines_on table text n (omega (arith, w.loop-number-test.true)) ∙ c.loop-number.invariant))
    ]
