-- What a state does of itself after each event: release, deliveries, passes, until nothing changes.
-- These are the rules of rest for a history.
use Rattle.std.specs.Prelude.{ℕ, Bool}
use Rattle.cast_types.specs.declared.names.GroupNo.{GroupNo}
use Rattle.cast_types.specs.declared.names.Uid.{Uid}
use Rattle.cast_types.specs.Repeat.{ComesToRest}
use Rattle.cast_rules.specs.State.{State}
use Rattle.cast_rules.specs.History.{history}
use Rattle.cast_rules.specs.Resting.{resting}
use Rattle.cast_rules.specs.Rules.Release as release
use Rattle.cast_rules.specs.Rules.Order as order
use Rattle.cast_rules.specs.Rules.Rest as rest

abbrev pub is_free : State → Uid → Bool
is_free = release.is_free history resting

abbrev pub let_go : State → State
let_go = release.let_go history resting

abbrev pub deliver_first : ℕ → State → State
deliver_first = rest.deliver_first history resting

abbrev pub deliver_all : State → ℕ → State
deliver_all = rest.deliver_all history resting

abbrev pub settle : State → State
settle = rest.settle history resting

abbrev pub set_order_by : State → GroupNo → ℕ → State
set_order_by = order.set_order_by history resting

abbrev pub set_order : State → GroupNo → State
set_order = order.set_order history resting

abbrev pub set_orders : State → State
set_orders = order.set_orders history resting

abbrev pub pass : State → State
pass = rest.pass history resting

-- from s the state comes to rest at t: some number of passes leads there, and one more changes
-- nothing
abbrev pub RestsAt : State → State → Type 0
RestsAt s t = ComesToRest pass s t
