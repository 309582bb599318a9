use Rattle.std.proofs.Common.{◌≡◌, false, rules, sym, ◌∙◌}
use Rattle.cast_timer.proofs.Tables.{opened}
use Rattle.cast_timer.proofs.timers.open.Goals as goal

pub returns-in_ok-insert-clause-same : goal.returns-in_ok-insert-clause-same
returns-in_ok-insert-clause-same c =
    let unfound : c.contains_key.result ≡ false = search rules in
    opened c.args.domain c.new.result c.args.tables.now.entries c.insert.new.self.entries c.new.ensures.empty
    (sym c.contains_key.ensures ∙ unfound) c.in_ok-insert.ensures.updates.0
