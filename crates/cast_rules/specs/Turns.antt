-- Whether it is an ABCAST's turn, and when a message is ready for a process.
use Rattle.std.specs.Prelude.{ℕ, Bool, ◌&&◌, nat_lt, if◌then◌else◌, length}
use Rattle.cast_types.specs.declared.names.GroupNo.{GroupNo}
use Rattle.cast_types.specs.declared.limits.TheConstants.{MAX_UNSETTLED}
use Rattle.cast_types.specs.Names.{uid_in}
use Rattle.cast_message.specs.declared.message.Message.{Message}
use Rattle.cast_order.specs.Order.{next_of}
use Rattle.cast_ready.specs.declared.turn.Turn.{Turn}
use Rattle.cast_ready.specs.declared.turn.Turn.TheVariants.{Holding, Following}
use Rattle.cast_ready.specs.Ready.{has_delivered, is_ready}
use Rattle.cast_rules.specs.State.{State, gate_of}
use Rattle.cast_rules.specs.Order.{order_of, order_by, unsettled_ids, has_place, sets_order}
use Rattle.cast_rules.specs.Rules.Room.{may_order}
use Rattle.cast_rules.specs.History.{history}

-- who holds the token may deliver one more ABCAST: the site has room for a set-order message, fewer
-- than 512 are unsettled, and there is a place for it
abbrev pub has_room_for_order : State → GroupNo → ℕ → Bool
has_room_for_order s g k =
    may_order history s
    && (nat_lt (length (unsettled_ids s g k)) MAX_UNSETTLED
    && has_place (order_by s g k))

-- who holds the token gives ABCASTs their places as it delivers them; any other process, and
-- whoever holds that of a frozen group, delivers the one whose place is next
abbrev pub turn_of : State → ℕ → GroupNo → Turn
turn_of s k g =
    if sets_order s g k then Holding (has_room_for_order s g k)
    else Following
    (next_of (λ e. has_delivered (s.process k) (uid_in g (s.group g).number e)) (order_of s g))

abbrev pub is_ready_for : State → ℕ → Message → Bool
is_ready_for s k m = is_ready s.config.groups (gate_of s) (turn_of s k) (s.process k) m
