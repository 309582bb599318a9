use Rattle.std.proofs.Common.{sym, ◌∙◌, inl, inr, arith}
use Rattle.std.proofs.lemmas.Result.{err_from_is_err_and}
use Rattle.cast_script.proofs.Numbers.{narrowed_err, narrowed_ok, within_again, within_not}
use Rattle.cast_script.proofs.words.number_between.Goals as goal

pub returns-in_err-value : goal.returns-in_err-value
returns-in_err-value c =
    let p = err_from_is_err_and c.from_residual.result c.from_residual.ensures.1 in
    rw (p.1, p.2) (sym
    (narrowed_err 4294967295 c.args.least c.args.most c.args.word.now c.in_err-value.field-0.0 (omega arith) (sym c.in_err-value.ensures)))

pub returns-then-value-most : goal.returns-then-value-most
returns-then-value-most c =
    let n = c.in_ok-value.value in
    sym (narrowed_ok 4294967295 c.args.least c.args.most c.args.word.now n (sym c.in_ok-value.ensures)
    ∙ within_again c.args.least c.args.most n (omega arith, omega arith))

pub returns-else-least-value : goal.returns-else-least-value
returns-else-least-value c =
    let n = c.in_ok-value.value in
    sym (narrowed_ok 4294967295 c.args.least c.args.most c.args.word.now n (sym c.in_ok-value.ensures)
    ∙ within_not c.args.least c.args.most n (λ low high.
    elim c.else-least-value.either [ inl below ↦ omega arith | inr above ↦ omega arith ]))
