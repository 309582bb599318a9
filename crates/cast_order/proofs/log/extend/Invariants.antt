use Rattle.std.proofs.Common.{◌≡◌, ◌+◌, ◌-◌, ◌++◌, length}
use Rattle.cast_types.specs.declared.limits.TheConstants.{MAX_POSITION}
use Rattle.cast_order.specs.Order.{order_from}
use Rattle.cast_order.proofs.log.extend.Given as goal

-- what follows is told from the next place on
abbrev pub invariant-loop-place : goal.invariant-loop-place
invariant-loop-place l = record {
  here : l.place ≡ l.base + length l.window.items + 1;
  rest : l.window.items ++ order_from (MAX_POSITION + 1 - l.place) l.place l.facts.entries ≡ l.fn.window.items
      ++ order_from (MAX_POSITION - (l.base + length l.fn.window.items)) (l.base + length l.fn.window.items + 1) l.facts.entries;
}
