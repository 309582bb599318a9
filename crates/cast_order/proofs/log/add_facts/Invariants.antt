use Rattle.std.proofs.Common.{◌≡◌, ◌+◌, drop}
use Rattle.std.specs.List.{enumerate_from}
use Rattle.cast_order.specs.Log.{with_facts}
use Rattle.cast_order.proofs.log.add_facts.Given as goal

-- what is left is told of the places from here on
abbrev pub invariant-loop-id : goal.invariant-loop-id
invariant-loop-id l = record {
  here : l.place ≡ l.first + l.id-index;
  rest : with_facts l.known l.facts.entries (enumerate_from l.place (drop l.id-index l.ids))
      ≡ with_facts l.known l.fn.facts.entries (enumerate_from l.first l.ids);
}
