use Rattle.std.proofs.Common.{◌+◌, ◌==◌, ap, ◌∙◌, take, drop}
use Rattle.std.proofs.lemmas.List.{take_rest}
use Rattle.cast_record.proofs.Places.{found, none}
use Rattle.cast_record.proofs.line.split_once.Goals as goal

pub returns-in-Some-clause-before : goal.returns-in-Some-clause-before
returns-in-Some-clause-before c =
    ap (λ n. take n c.args.bytes.now) (found (λ b. b == c.args.byte) c.args.bytes.now c.in-Some.at c.in-Some.ensures.place).0

pub returns-in-Some-clause-behind : goal.returns-in-Some-clause-behind
returns-in-Some-clause-behind c =
    take_rest c.args.bytes.now (c.in-Some.at + 1)
    ∙ ap (λ n. drop (n + 1) c.args.bytes.now)
    (found (λ b. b == c.args.byte) c.args.bytes.now c.in-Some.at c.in-Some.ensures.place).0

pub returns-in-Some-clause-found : goal.returns-in-Some-clause-found
returns-in-Some-clause-found c =
    (found (λ b. b == c.args.byte) c.args.bytes.now c.in-Some.at c.in-Some.ensures.place).1

pub returns-in-None-clause-none : goal.returns-in-None-clause-none
returns-in-None-clause-none c = none (λ b. b == c.args.byte) c.args.bytes.now c.in-None.ensures.place
