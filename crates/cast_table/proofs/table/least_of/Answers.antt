use Rattle.std.proofs.Common.{◌≡◌, ◌++◌, ◌∷◌, [], ◌+◌, take, get_or, sym, subst}
use Rattle.std.proofs.lemmas.List.{take_more}
use Rattle.cast_table.specs.Tables.{IsLeast}
use Rattle.cast_table.proofs.Turns.{least_more}
use Rattle.cast_table.proofs.table.least_of.Goals as goal

pub loop-number-preserved : goal.loop-number-preserved
loop-number-preserved c =
    let i = c.loop-number.number-index in
    let number = get_or c.args.numbers.now i (record { 0 = 0 }) in
    let more : take i c.args.numbers.now ++ number ∷ [] ≡ take (i + 1) c.args.numbers.now =
    sym (take_more c.args.numbers.now i (record { 0 = 0 }) c.loop-number-test.true) in
    subst (IsLeast c.lower.result) more
    (subst (λ d. IsLeast d (take i c.args.numbers.now ++ number ∷ [])) (sym c.lower.ensures)
    (least_more c.loop-number.least number (take i c.args.numbers.now) c.loop-number.invariant))
