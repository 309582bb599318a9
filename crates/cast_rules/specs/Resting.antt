-- What a history does of itself after an event, as the rules see it.
use Rattle.std.specs.Prelude.{ℕ, not, ◌&&◌, if◌then◌else◌, length, Option, Some, None}
use Rattle.std.specs.List.{find}
use Rattle.cast_types.specs.declared.names.GroupNo.{GroupNo}
use Rattle.cast_message.specs.Placement.{Placement}
use Rattle.cast_order.specs.Order.{ids_to_list, place_after}
use Rattle.cast_view.specs.Home.{is_empty}
use Rattle.cast_view.specs.MemberSide.{is_open_to}
use Rattle.cast_rules.specs.State.{State, serials, is_delivered, with_delivery, releasing}
use Rattle.cast_rules.specs.Order.{order_told, unlisted_ids, has_place, holders}
use Rattle.cast_rules.specs.Turns.{is_ready_for}
use Rattle.cast_rules.specs.Reports.{has_delivered_cut, missing_in}
use Rattle.cast_rules.specs.Rules.Interface.{Resting}

-- a process of this site lists the first of the ABCASTs that it has to list, at the places after
-- the order told
abbrev pub places_of : State → GroupNo → ℕ → Placement
places_of s g k = record {
  first = place_after (order_told s g);
  ids = ids_to_list (unlisted_ids s g k);
  holder = None;
}

-- where there are some, and a place for them
abbrev pub next_places : State → GroupNo → ℕ → Option Placement
next_places s g k =
    if not (is_empty (unlisted_ids s g k)) && has_place (order_told s g)
    then Some (places_of s g k)
    else None

-- it delivers no message twice
abbrev pub resting : Resting State GroupNo
resting = record {
  serials = serials;
  turns = λ s. length s.got;
  next_ready = λ s k. find (is_ready_for s k) s.got;
  is_open = λ s u. is_open_to (s.group u.group) u.view;
  is_delivered = is_delivered;
  has_cut = has_delivered_cut;
  missing = missing_in;
  holders = holders;
  next_places = next_places;
  note_delivered = with_delivery;
  release = releasing;
}
