-- What the calls of a domain that deliver and set the order do to its records, exactly.
use Rattle.std.specs.Prelude.{ℕ, Bool, false, not, ◌&&◌, nat_lt, if◌then◌else◌, List, []}
use Rattle.std.specs.Prelude.{◌∷◌, ◌++◌, length, map, slice_get, Option, Some, None, is_some}
use Rattle.std.specs.Option.{option_map_or}
use Rattle.cast_types.specs.declared.names.GroupNo.{GroupNo}
use Rattle.cast_types.specs.declared.names.Proc.{Proc}
use Rattle.cast_types.specs.declared.names.Uid.{Uid}
use Rattle.cast_types.specs.declared.names.Key.{Key}
use Rattle.cast_types.specs.declared.limits.TheConstants.{MAX_POSITION, MAX_UNSETTLED}
use Rattle.cast_types.specs.Names.{Entry, proc_eq, entry_eq, entry_of}
use Rattle.cast_types.specs.Sets.{is_among}
use Rattle.cast_types.specs.Stamps.{ClockList}
use Rattle.cast_clock.specs.Times.{with_bump}
use Rattle.cast_message.specs.declared.message.Body.{Body}
use Rattle.cast_message.specs.declared.message.Body.TheVariants as body
use Rattle.cast_message.specs.declared.message.Message.{Message}
use Rattle.cast_ready.specs.Ready.{is_member}
use Rattle.cast_ready.specs.declared.turn.Turn.{Turn}
use Rattle.cast_ready.specs.declared.turn.Turn.TheVariants.{Holding, Following}
use Rattle.cast_delay.specs.Queue.{next_key, queue_delivering, is_awaited, passed_in}
use Rattle.cast_order.specs.Hand.{hold_from, note_unlisted}
use Rattle.cast_order.specs.Log.{Log, log_of, change_log, next_in, pass_ids}
use Rattle.cast_order.specs.Log.{hand_here, with_hand, next_places, places_by}
use Rattle.cast_message.specs.Receipts.{message_under}
use Rattle.cast_domain.specs.declared.record.GroupRecord.{GroupRecord}
use Rattle.cast_view.specs.MemberSide.{MemberSide}
use Rattle.cast_rules.specs.Rules.Interface.{Resting}
use Rattle.cast_rules.specs.Rules.Rest.{tell_if, told_of}
use Rattle.cast_rules.specs.Rules.Room.{may_order}
use Rattle.cast_domain.specs.declared.rest.Delivery.{Delivery}
use Rattle.cast_domain.specs.declared.rest.Weight.{Weight}
use Rattle.cast_domain.specs.declared.rest.Weight.TheVariants.{Nothing, Placed, Hands}
use Rattle.cast_domain.specs.Records.{Records}
use Rattle.cast_domain.specs.PartCalls.{local_in, serials_in, place_in}
use Rattle.cast_domain.specs.PartCalls.{record_at, standing_of, time_of}
use Rattle.cast_domain.specs.FlushCalls.{holders_in, has_cut_in, missing_in, is_open_in}
use Rattle.cast_domain.specs.ReleaseCalls.{release_all_in, log_in, unsettled_at}
use Rattle.cast_domain.specs.Calls.{records}

-- The order of a view

-- a process holds the token of a group's view, and sets its order, while no flush has frozen it
abbrev pub sets_order_at : Log → Proc → MemberSide → Bool
sets_order_at l p here = is_some (hand_here l p).first && not here.frozen

abbrev pub sets_order_in : Records → GroupNo → Proc → Bool
sets_order_in r g p =
    option_map_or
    (λ i. sets_order_at (log_in r (record_at r.groups i).name) p (record_at r.groups i).here)
    (place_in r g) false

abbrev pub has_room_at : Records → Proc → GroupRecord → Bool
has_room_at r p x =
    may_order records r
    && (nat_lt (unsettled_at r p x) MAX_UNSETTLED
    && nat_lt (places_by (log_in r x.name) p) MAX_POSITION)

-- the turn of a process in a group
abbrev pub turn_at : Records → Proc → GroupRecord → Turn
turn_at r p x =
    if sets_order_at (log_in r x.name) p x.here then Holding (has_room_at r p x)
    else Following (slice_get (next_in (log_in r x.name) p)
    (passed_in r.delay p x.name x.here.number (next_in (log_in r x.name) p)))

abbrev pub turns_in : Records → Proc → List (GroupNo × Turn)
turns_in r p = map (λ x. (x.name, turn_at r p x)) r.groups

-- the order's log notes that a process delivered an ABCAST: who holds the token has one more to
-- list, if it is not in the order known, another process may have passed places
abbrev pub told_in : GroupNo → Proc → Entry → List Log → List Log
told_in g p e orders =
    if is_among entry_eq e (log_of orders g).window then orders
    else change_log g (with_hand p (note_unlisted e)) orders

abbrev pub note_delivery_in : Records → Proc → Uid → Records
note_delivery_in r p u =
    record r {
      orders =
          if sets_order_in r u.group p then told_in u.group p (entry_of u) r.orders
          else change_log u.group
          (pass_ids p (passed_in r.delay p u.group u.view (next_in (log_in r u.group) p))) r.orders;
    }

-- The rest, as the rules see it

-- a process has delivered the message under a key
abbrev pub take_delivery_in : Records → Proc → Key → Uid → Records
take_delivery_in r p key u =
    record r {
      delay = queue_delivering p key r.delay;
      delivered = r.delivered ++ (r.config.domain, p, u) ∷ [];
    }

-- what a delivery is to the order of its view: an ABCAST was delivered, or the token may be handed
-- over, from a place on
abbrev pub weight_of : Body → Weight
weight_of (body.Causal payload) = Nothing
weight_of (body.Atomic payload) = Placed
weight_of (body.Order s) = elim s.holder [ Some p ↦ Hands p s.first | None ↦ Nothing ]

abbrev pub note_weight_in : Weight → Records → Proc → Uid → Records
note_weight_in Nothing r p u = r
note_weight_in Placed r p u = note_delivery_in r p u
note_weight_in (Hands q first) r p u =
    record r {
      orders = if proc_eq q p then change_log u.group (with_hand p (hold_from first)) r.orders
          else r.orders;
    }

-- and that is noted for the order of its view
abbrev pub note_delivered_under : Records → Proc → Key → Message → Records
note_delivered_under r p key m =
    note_weight_in (weight_of m.body) (take_delivery_in r p key m.id) p m.id

-- what the delivery of a message is to a domain
abbrev pub delivery_of : Message → Delivery
delivery_of m = record { id = m.id; weight = weight_of m.body; push = told_of m.id m.body }

-- and its program is told
abbrev pub deliver_as : Records → Proc → Key → Delivery → Records
deliver_as r p key d =
    tell_if records (note_weight_in d.weight (take_delivery_in r p key d.id) p d.id) p.serial d.push

-- the key of the first message that is ready for a process
abbrev pub ready_key_in : Records → Proc → Option Key
ready_key_in r p = next_key (turns_in r p) r.delay p

abbrev pub next_ready_in : Records → ℕ → Option Message
next_ready_in r k = option_map_or (message_under r.part.kept) (ready_key_in r (local_in r k)) None

abbrev pub note_delivered_in : Records → ℕ → Message → Records
note_delivered_in r k m =
    option_map_or (λ key. note_delivered_under r (local_in r k) key m)
    (ready_key_in r (local_in r k)) r

-- the time of a local process, with its count in the group at a place raised
abbrev pub raised_at : Records → ℕ → ℕ → ClockList
raised_at r i k =
    with_bump (time_of r.delay (local_in r k)) (record_at r.groups i).name (local_in r k)

-- a process is a member of a group, which no flush has frozen, and there is room for one more
-- set-order message
abbrev pub may_list_of : Records → GroupRecord → Proc → Bool
may_list_of r x p =
    is_member (standing_of r.delay p x.name) && (not x.here.frozen && may_order records r)

abbrev pub resting_records : Resting Records ℕ
resting_records = record {
  serials = serials_in;
  turns = λ r. length r.part.kept;
  next_ready = next_ready_in;
  is_open = is_open_in;
  is_delivered = λ r u. not (is_awaited r.delay.rows u);
  has_cut = has_cut_in;
  missing = missing_in;
  holders = λ r i. holders_in r (record_at r.groups i).name;
  next_places = λ r i k. next_places (log_in r (record_at r.groups i).name) (local_in r k);
  note_delivered = note_delivered_in;
  release = release_all_in;
}
