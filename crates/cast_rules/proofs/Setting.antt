-- When who holds the token of a view sends a set-order message, and what it sends.
use Rattle.std.proofs.Common.{◌≡◌, ℕ, Bool, true, false, not, Some, None, refl}
use Rattle.std.specs.Prelude.{◌&&◌, if◌then◌else◌}
use Rattle.std.specs.Option.{option_map_or}
use Rattle.cast_types.specs.declared.names.GroupNo.{GroupNo}
use Rattle.cast_message.specs.declared.message.Body.TheVariants as body
use Rattle.cast_message.specs.Placement.{Placement}
use Rattle.cast_ready.specs.Ready.{is_member}
use Rattle.cast_view.specs.Home.{is_empty}
use Rattle.cast_rules.specs.State.{State, local}
use Rattle.cast_rules.specs.History.{history}
use Rattle.cast_rules.specs.Order.{order_told, unlisted_ids, has_place}
use Rattle.cast_rules.specs.Resting.{places_of}
use Rattle.cast_rules.specs.Effects.{sending}
use Rattle.cast_rules.specs.Rest.{set_order_by, let_go}
use Rattle.cast_rules.specs.Rules.Room.{may_order}
use Rattle.cast_rules.specs.Rules.Sending.{may_raise}

-- it is a member here and has ABCASTs to list, no flush has frozen the group, there is room for one more message and a place for
-- them, and its count may be raised
abbrev pub may_set_order : State → GroupNo → ℕ → Bool
may_set_order s g k =
    is_member ((s.process k).standing g)
    && (not (s.group g).frozen
    && (may_order history s
    && (not (is_empty (unlisted_ids s g k))
    && (has_place (order_told s g)
    && may_raise (s.process k).time g (local s k)))))

-- six tests, one after another
six_tests : (m w o e h y : Bool) (f : Placement → State) (q : Placement) (s : State) →
    (if m && (w && o) then option_map_or (λ p. if y then f p else s) (if e && h then Some q else None) s
    else s) ≡ (if m && (w && (o && (e && (h && y)))) then f q else s)
six_tests false w o e h y f q s = refl
six_tests true false o e h y f q s = refl
six_tests true true false e h y f q s = refl
six_tests true true true false h y f q s = refl
six_tests true true true true false y f q s = refl
six_tests true true true true true true f q s = refl
six_tests true true true true true false f q s = refl

pub set_order_is : (s : State) (g : GroupNo) (k : ℕ) →
    set_order_by s g k ≡ (if may_set_order s g k then let_go (sending s g k (body.Order (places_of s g k))) else s)
set_order_is s g k =
    six_tests (is_member ((s.process k).standing g)) (not (s.group g).frozen) (may_order history s) (not (is_empty (unlisted_ids s g k)))
    (has_place (order_told s g)) (may_raise (s.process k).time g (local s k))
    (λ q. let_go (sending s g k (body.Order q))) (places_of s g k) s
