-- What the calls of a domain for a flush do to its records, and answer, exactly.
use Rattle.std.specs.Prelude.{ℕ, min, Bool, false, not, ◌&&◌, ◌||◌, ◌==◌, if◌then◌else◌}
use Rattle.std.specs.Prelude.{List, [], ◌∷◌, ◌++◌, take, map, filter, Option, is_some}
use Rattle.std.specs.List.{find, list_all}
use Rattle.std.specs.Option.{option_map, option_map_or}
use Rattle.cast_types.specs.declared.names.GroupNo.{GroupNo}
use Rattle.cast_types.specs.declared.names.Proc.{Proc}
use Rattle.cast_types.specs.declared.names.Uid.{Uid}
use Rattle.cast_types.specs.declared.limits.TheConstants.{MAX_PLACED, MAX_POSITION}
use Rattle.cast_types.specs.Names.{Entry, site_eq, group_eq, proc_eq, entry_eq}
use Rattle.cast_types.specs.Names.{entry_cmp, is_atomic, uid_in, entry_of}
use Rattle.cast_types.specs.Sets.{is_among, with_item}
use Rattle.cast_types.specs.Places.{update}
use Rattle.cast_types.specs.Counts.{CountList, is_within}
use Rattle.cast_types.specs.Sources.{source}
use Rattle.cast_message.specs.declared.message.Message.{Message}
use Rattle.cast_message.specs.declared.message.Received.{Received}
use Rattle.cast_message.specs.Bodies.{kind_of}
use Rattle.cast_message.specs.Membership.{Membership}
use Rattle.cast_message.specs.Tail.{Tail}
use Rattle.cast_flush.specs.declared.report.Report.{Report}
use Rattle.cast_ready.specs.Ready.{frozen_gate, pending_gate, first_of, covered_entries}
use Rattle.cast_ready.specs.DeliveredCounts.{counts_in}
use Rattle.cast_delay.specs.Queue.{queue_gating, is_awaited}
use Rattle.cast_order.specs.Hand.{Hand}
use Rattle.cast_order.specs.Log.{Log, log_of, change_log, hand_here, closed_by}
use Rattle.cast_order.specs.Log.{whole_kept, tail_start_in, tail_ids_in}
use Rattle.cast_stable.specs.Acks.{last_received_in, is_received_in}
use Rattle.cast_message.specs.Receipts.{messages}
use Rattle.cast_domain.specs.declared.record.GroupRecord.{GroupRecord}
use Rattle.cast_view.specs.declared.member.Pending.{Pending}
use Rattle.cast_view.specs.MemberSide.{members_of, is_open_to, frozen_side, report_of, with_pending}
use Rattle.cast_view.specs.Sites.{is_at}
use Rattle.cast_rules.specs.State.{was_given}
use Rattle.cast_rules.specs.Reports.{is_unplaced, kept_list}
use Rattle.cast_domain.specs.Records.{Records}
use Rattle.cast_domain.specs.PartCalls.{local_in, place_in, record_at}

-- a flush has frozen the group at a place
abbrev pub freeze_in : Records → ℕ → Records
freeze_in r i =
    let g : GroupNo = (record_at r.groups i).name in
    record r {
      groups = update r.groups i (λ x. record x { here = frozen_side x.here });
      delay = queue_gating g frozen_gate r.delay;
    }

-- an Install that waits, by the parts of its frame
abbrev pub pending_of : Membership → ℕ → CountList → Pending
pending_of members request cut = record { members = members; request = request; cut = cut }

-- it waits at a group
abbrev pub with_install : Pending → GroupRecord → GroupRecord
with_install p x = record x { here = with_pending x.here p }

-- the Install of its next view waits, and its order is closed
abbrev pub pend_in : Records → ℕ → Pending → Tail → Records
pend_in r i p tail =
    let g : GroupNo = (record_at r.groups i).name in
    record r {
      groups = update r.groups i (with_install p);
      delay = queue_gating g (pending_gate p.cut) r.delay;
      orders = change_log g (closed_by (is_within p.cut) tail.start tail.ids) r.orders;
    }

-- the last message of the view of a group that a process here sent
abbrev pub last_sent_of : Records → GroupRecord → Proc → Entry
last_sent_of r x p = (p, last_received_in r.acks (source x.name x.here.number p))

-- how far the messages of each process were delivered here in the view of a group, and the last
-- ones that members here sent
abbrev pub had_of : Records → GroupRecord → List Entry
had_of r x =
    counts_in x.name x.here.number r.delay.reached
    ++ map (last_sent_of r x) (filter (is_at r.site) (members_of x.here))

-- a kept message of the group's view
abbrev pub is_kept_of : GroupRecord → Message → Bool
is_kept_of x m = group_eq m.id.group x.name && (m.id.view == x.here.number)

abbrev pub kept_of_view : GroupRecord → List Received → List Message
kept_of_view x kept = filter (is_kept_of x) (messages kept)

-- names with that of a kept message, if it is of the group's view
abbrev pub with_name_of : GroupRecord → Message → List Entry → List Entry
with_name_of x m names = if is_kept_of x m then with_item entry_cmp (entry_of m.id) names else names

-- a message is an ABCAST of this name
abbrev pub is_abcast_named : Entry → Message → Bool
is_abcast_named e m = is_atomic (kind_of m.body) && entry_eq (entry_of m.id) e

-- a process here holds the token of a group's view; the serials of those that do, and the first of
-- them
abbrev pub first_in : Records → GroupNo → ℕ → Option ℕ
first_in r g k = (hand_here (log_of r.orders g) (local_in r k)).first

-- what is kept of a process is of one that was let in here, and that holds the token
abbrev pub holds_here : Records → Hand → Bool
holds_here r h = is_some h.first && was_given r.used h.process.serial

-- the processes here that hold the token of a group's view, in the order in which they are kept
abbrev pub holders_among : Records → List Hand → List ℕ
holders_among r hands = map (λ h. h.process.serial) (filter (holds_here r) hands)

abbrev pub holders_in : Records → GroupNo → List ℕ
holders_in r g = holders_among r (log_of r.orders g).hands

-- the first of them
abbrev pub holder_in : Records → GroupNo → Option Proc
holder_in r g =
    option_map (λ h. local_in r h.process.serial) (find (holds_here r) (log_of r.orders g).hands)

-- a kept message of the group's view is an ABCAST of this name, for which the view's order has no
-- place
abbrev pub is_unplaced_of : Records → GroupRecord → Option Proc → List Received → Entry → Bool
is_unplaced_of r x holder kept e =
    is_unplaced (kept_of_view x kept) (whole_kept (log_of r.orders x.name) holder) e

-- the end of the order that a log has
abbrev pub tail_in : Log → Option Proc → Tail
tail_in l o = record { start = min MAX_POSITION (tail_start_in l o); ids = tail_ids_in l o }

abbrev pub report_at : Records → GroupRecord → Report
report_at r x =
    report_of x.here (had_of r x) (tail_in (log_of r.orders x.name) (holder_in r x.name))
    (kept_list (kept_of_view x r.part.kept)
    (whole_kept (log_of r.orders x.name) (holder_in r x.name)))

-- some member here has not delivered a message of the view of a group
abbrev pub is_awaited_of : Records → GroupRecord → Entry → Bool
is_awaited_of r x e = is_awaited r.delay.rows (uid_in x.name x.here.number e)

-- it was received: of a process that is no member, and of another site, nothing was
abbrev pub is_received_of : Records → GroupRecord → Entry → Bool
is_received_of r x e =
    (is_among proc_eq e.0 (members_of x.here) || site_eq e.0.site r.site)
    && is_received_in r.acks (uid_in x.name x.here.number e)

abbrev pub has_cut_of : Records → GroupRecord → CountList → Bool
has_cut_of r x cut = list_all (λ e. not (is_awaited_of r x e)) cut

-- names with that of a message, unless it was received
abbrev pub with_unreceived : Records → GroupRecord → Entry → List Entry → List Entry
with_unreceived r x e names = if is_received_of r x e then names else names ++ e ∷ []

-- some member here has not delivered it, and it was not received
abbrev pub is_missing_of : Records → GroupRecord → Entry → Bool
is_missing_of r x e = is_awaited_of r x e && not (is_received_of r x e)

-- of the first messages of a process
abbrev pub missing_upto : Records → GroupRecord → Entry → List Entry
missing_upto r x e = filter (is_missing_of r x) (first_of e)

-- of those that a cut covers
abbrev pub missing_of : Records → GroupRecord → CountList → List Entry
missing_of r x cut = take MAX_PLACED (filter (is_missing_of r x) (covered_entries cut))

-- of the group at a place
abbrev pub has_cut_in : Records → ℕ → CountList → Bool
has_cut_in r i cut = has_cut_of r (record_at r.groups i) cut

abbrev pub missing_in : Records → ℕ → CountList → List Entry
missing_in r i cut = missing_of r (record_at r.groups i) cut

-- a message is of the view that its group has here, which no flush has frozen
abbrev pub is_open_in : Records → Uid → Bool
is_open_in r u =
    option_map_or (λ i. is_open_to (record_at r.groups i).here u.view) (place_in r u.group) false
