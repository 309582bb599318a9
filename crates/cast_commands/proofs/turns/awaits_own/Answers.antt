use Rattle.std.proofs.Common.{◌≡◌, length, sym, rules, arith}
use Rattle.cast_domain.specs.Records.{records_in}
use Rattle.cast_domain.proofs.Own.{none_awaited}
use Rattle.cast_commands.proofs.turns.awaits_own.Goals as goal

pub returns : goal.returns
returns c =
    let groups = c.args.domain.now.groups in
    let all : length groups.items ≡ c.loop-place.place = search rules in
    sym (none_awaited (records_in c.args.domain.now c.args.lent.now)
    c.args.process (λ i within. c.loop-place.invariant i (omega (arith, within, all))))
