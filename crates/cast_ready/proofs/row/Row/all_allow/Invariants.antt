use Rattle.std.proofs.Common.{◌≡◌, drop}
use Rattle.std.specs.List.{list_all}
use Rattle.cast_ready.specs.Rows.{gate_in, row_allows}
use Rattle.cast_ready.proofs.row.Row.all_allow.Given as goal

-- what is left of the groups decides
abbrev pub invariant-loop-group : goal.invariant-loop-group
invariant-loop-group l =
    list_all (λ s. row_allows l.self (gate_in l.gates s.0).number l.id l.times s.0 s.1) (drop l.group-index l.self.standings)
    ≡ list_all (λ s. row_allows l.self (gate_in l.gates s.0).number l.id l.times s.0 s.1) l.self.standings
