use Rattle.std.proofs.Common.{◌≤◌, ◌+◌, length, sym, arith}
use Rattle.std.proofs.lemmas.List.{take_all, drop_all}
use Rattle.std.specs.List.{position_or_len}
use Rattle.cast_record.specs.Lines.{is_space}
use Rattle.cast_record.proofs.line.split_word.Goals as goal

pub returns-in-None-clause-first : goal.returns-in-None-clause-first
returns-in-None-clause-first c = sym (take_all _ _ c.in-None.ensures.none)

pub returns-in-None-clause-rest : goal.returns-in-None-clause-rest
returns-in-None-clause-rest c =
    let past : length c.args.line.now ≤ position_or_len is_space c.args.line.now = c.in-None.ensures.none in
    let further : length c.args.line.now ≤ position_or_len is_space c.args.line.now + 1 = omega arith in
    sym (drop_all _ _ further)
