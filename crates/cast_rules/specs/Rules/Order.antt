-- The rules of set-order messages: who holds the token gives ABCASTs their places.
-- It is the token of a group's view.
use Rattle.std.specs.Prelude.{ℕ, Bool, not, ◌&&◌, if◌then◌else◌}
use Rattle.std.specs.List.{fold}
use Rattle.std.specs.Option.{option_map_or}
use Rattle.cast_message.specs.declared.message.Body.TheVariants as body
use Rattle.cast_message.specs.Placement.{Placement}
use Rattle.cast_ready.specs.Ready.{is_member}
use Rattle.cast_rules.specs.Rules.Interface.{Site, Resting}
use Rattle.cast_rules.specs.Rules.Release.{let_go}
use Rattle.cast_rules.specs.Rules.Room.{may_order}
use Rattle.cast_rules.specs.Rules.Sending.{may_raise}
use Rattle.cast_rules.specs.Rules.Leaving.{named_here}
use Rattle.cast_rules.specs.Rules.Commands.{message_sent, send_own}

-- each rule is of the group that stands at h, and of the local process of serial k
module _ {S H : Type 0} (d : Site S H) (q : Resting S H) where
  -- the holder is a member, no flush has frozen the group, and there is room for one more set-order
  -- message
  abbrev pub may_list : S → H → ℕ → Bool
  may_list s h k =
      is_member (d.standing s k (d.name s h)) && (not (d.group s h).frozen && may_order d s)

  -- the holder lists ABCASTs at these places in a set-order message
  abbrev pub send_places : S → H → ℕ → Placement → S
  send_places s h k places = send_own d s k (message_sent d s k (d.name s h) h (body.Order places))

  -- where its count may be raised; what is free then is let go
  abbrev pub list_places : S → H → ℕ → Placement → S
  list_places s h k places =
      if may_raise (d.time s k) (d.name s h) (named_here d s k)
      then let_go d q (send_places s h k places)
      else s

  -- where it has some to list
  abbrev pub set_order_by : S → H → ℕ → S
  set_order_by s h k =
      if may_list s h k then option_map_or (list_places s h k) (q.next_places s h k) s else s

  -- each that is a process of this site
  abbrev pub set_order : S → H → S
  set_order s h = fold (λ t k. set_order_by t h k) s (q.holders s h)

  -- for each group
  abbrev pub set_orders : S → S
  set_orders s = fold set_order s (d.places s)
