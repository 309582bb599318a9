-- What the calls of a domain that change one part of its records do, exactly.
use Rattle.std.specs.Prelude.{ℕ, ◌+◌, ◌-◌, min, max, Bool, false, not, ◌&&◌, ◌==◌}
use Rattle.std.specs.Prelude.{nat_le, if◌then◌else◌, List, [], ◌∷◌, ◌++◌, length}
use Rattle.std.specs.Prelude.{map, filter, get_or, Option, Some, None, is_some}
use Rattle.std.specs.List.{find, list_any}
use Rattle.std.specs.Option.{option_map, option_map_or}
use Rattle.cast_types.specs.declared.names.SiteNo.{SiteNo}
use Rattle.cast_types.specs.declared.names.GroupNo.{GroupNo}
use Rattle.cast_types.specs.declared.names.Proc.{Proc}
use Rattle.cast_types.specs.declared.names.Uid.{Uid}
use Rattle.cast_types.specs.declared.names.Standing.{Standing}
use Rattle.cast_types.specs.declared.names.Standing.TheVariants.{Outside, Joining}
use Rattle.cast_types.specs.declared.refusal.Refusal.{Refusal}
use Rattle.cast_types.specs.declared.refusal.Refusal.TheVariants.{Slow}
use Rattle.cast_types.specs.declared.limits.TheConstants.{MAX_NUMBER, MAX_MOMENT}
use Rattle.cast_types.specs.Names.{group_eq, proc_eq, uid_eq, is_atomic, uid_in}
use Rattle.cast_types.specs.Places.{update}
use Rattle.cast_types.specs.Counts.{CountList}
use Rattle.cast_types.specs.Stamps.{ClockList}
use Rattle.cast_clock.specs.Times.{no_time, with_bump}
use Rattle.cast_message.specs.declared.message.Body.{Body}
use Rattle.cast_message.specs.declared.message.Body.TheVariants as body
use Rattle.cast_message.specs.declared.message.Message.{Message}
use Rattle.cast_message.specs.declared.site.Change.{Change}
use Rattle.cast_message.specs.declared.site.SiteFrame.{SiteFrame}
use Rattle.cast_message.specs.declared.client.Push.{Push}
use Rattle.cast_message.specs.declared.client.Push.TheVariants as push
use Rattle.cast_message.specs.Bodies.{kind_of}
use Rattle.cast_message.specs.Tail.{Tail}
use Rattle.cast_message.specs.Placement.{Placement}
use Rattle.cast_message.specs.KeptIds.{KeptList}
use Rattle.cast_flush.specs.declared.report.Report.{Report}
use Rattle.cast_ready.specs.Ready.{is_member}
use Rattle.cast_delay.specs.Fits.{offer_of}
use Rattle.cast_ready.specs.Rows.{standing_in, told_row}
use Rattle.cast_ready.specs.declared.row.ProcessUpdate.{ProcessUpdate}
use Rattle.cast_ready.specs.declared.row.ProcessUpdate.TheVariants as fact
use Rattle.cast_delay.specs.Queue.{Queue, row_of, change_row, delivered_in}
use Rattle.cast_order.specs.Hand.{Hand, hand_over, note_order_sent}
use Rattle.cast_order.specs.Log.{Log, change_log, with_placement, with_hand}
use Rattle.cast_stable.specs.Acks.{others_in, upto_in, received_ledger, acked_ledger, learnt_ledger}
use Rattle.cast_timer.specs.declared.key.OwedKey.{OwedKey}
use Rattle.cast_domain.specs.declared.record.GroupRecord.{GroupRecord}
use Rattle.cast_quota.specs.declared.quotas.QuotaName.{QuotaName}
use Rattle.cast_quota.specs.Quotas.{with_quota}
use Rattle.cast_events.specs.declared.limits.TheConstants.{MAX_CASTS}
use Rattle.cast_events.specs.declared.session.Status.{Status}
use Rattle.cast_events.specs.declared.session.Status.TheVariants.{Closed}
use Rattle.cast_domain.specs.GivenSessions.{SessionRecord}
use Rattle.cast_view.specs.MemberSide.{no_group, is_current, with_request, with_answer}
use Rattle.cast_view.specs.Home.{HomeMove, first_home, is_empty, apply_move}
use Rattle.cast_domain.specs.Shared.{part_boxing, part_pushing, part_taking, part_with}
use Rattle.cast_domain.specs.Shared.{part_owing, part_renewing, part_paying, part_paying_upto}
use Rattle.cast_rules.specs.Rules.Sending.{may_raise}
use Rattle.cast_domain.specs.Records.{Records}

-- a list with one more item where a fact holds
abbrev pub added_if : {A : Type 0} → Bool → A → List A → List A
added_if holds x xs = if holds then xs ++ x ∷ [] else xs

-- Names

abbrev pub local_in : Records → ℕ → Proc
local_in r k = record { site = r.site; serial = k }

-- the serials whose processes have a row in the queue, in its order
abbrev pub serials_in : Records → List ℕ
serials_in r = map (λ row. row.process.serial) r.delay.rows

-- where a group stands
abbrev pub place_among : GroupNo → List GroupRecord → Option ℕ
place_among g [] = None
place_among g (x ∷ groups) =
    if group_eq x.name g then Some 0 else option_map (λ i. i + 1) (place_among g groups)

abbrev pub place_in : Records → GroupNo → Option ℕ
place_in r g = place_among g r.groups

abbrev pub no_record : GroupRecord
no_record = record { name = record { 0 = 0 }; here = no_group; home = first_home }

-- the group at a place
abbrev pub record_at : List GroupRecord → ℕ → GroupRecord
record_at groups i = get_or groups i no_record

abbrev pub standing_of : Queue → Proc → GroupNo → Standing
standing_of q p g = option_map_or (λ row. standing_in row g) (row_of q.rows p) Outside

abbrev pub time_of : Queue → Proc → ClockList
time_of q p = option_map_or (λ row. row.time) (row_of q.rows p) no_time

-- the time of a process with one more message of its own, and the stamp of that; none where the
-- count cannot be raised
abbrev pub raised_in : Queue → Proc → GroupNo → Option (ClockList × ClockList)
raised_in q p g =
    if may_raise (time_of q p) g p
    then Some (with_bump (time_of q p) g p, with_bump (time_of q p) g p)
    else None

-- Changes of one part

abbrev pub send_in : Records → SiteNo → SiteFrame → Records
send_in r to f = record r { frames = r.frames ++ (r.config.domain, to, f) ∷ [] }

-- an entry is pushed to the session of a serial
abbrev pub push_in : Records → ℕ → Push → Records
push_in r k p = record r {
  part = part_pushing r.part k p;
  pushed = r.pushed ++ (r.config.domain, k, p) ∷ [];
}

-- the session of a serial has another status
abbrev pub with_status : ℕ → Status → SessionRecord → SessionRecord
with_status k status x = if x.serial == k then record x { status = status } else x

abbrev pub close_in : Records → ℕ → Refusal → Records
close_in r k refusal =
    record (push_in r k (push.Closed refusal)) { sessions = map (with_status k Closed) r.sessions }

-- it is gone, and its outbox
abbrev pub go_in : Records → ℕ → Records
go_in r k = record r {
  sessions = filter (λ x. not (x.serial == k)) r.sessions;
  part = part_boxing r.part k [];
}

-- its outbox has as many entries as it may have
abbrev pub is_full_in : Records → ℕ → Bool
is_full_in r k = nat_le r.quotas.outbox (length (r.part.outboxes k))

-- why a session is closed: where its outbox is full its program is too slow, whatever else is the
-- matter
abbrev pub reason_in : Records → ℕ → Refusal → Refusal
reason_in r k refusal = if is_full_in r k then Slow else refusal

abbrev pub take_entries_in : Records → ℕ → ℕ → Records
take_entries_in r k most = record r { part = part_taking r.part k most }

abbrev pub set_quota_in : Records → QuotaName → ℕ → Records
set_quota_in r name value = record r { quotas = with_quota name value r.quotas }

abbrev pub count_cast_in : Records → Records
count_cast_in r = record r { casts = min MAX_CASTS (r.casts + 1) }

abbrev pub tell_in : Records → Proc → ProcessUpdate → Records
tell_in r p f = record r {
  delay = record r.delay { rows = change_row p (told_row f) r.delay.rows };
}

-- Owed frames

-- the kept message of an id
abbrev pub message_in : Records → Uid → Option Message
message_in r u = option_map (λ x. x.message) (find (λ x. uid_eq x.message.id u) r.part.kept)

abbrev pub next_due_in : Records → ℕ
next_due_in r = r.moment + r.quotas.resend

abbrev pub note_owed_in : Records → OwedKey → Records
note_owed_in r key = record r { part = part_owing r.part key (next_due_in r) }

abbrev pub note_resent_in : Records → OwedKey → Records
note_resent_in r key = record r { part = part_renewing r.part key (next_due_in r) }

abbrev pub pay_in : Records → OwedKey → Records
pay_in r key = record r { part = part_paying r.part key }

abbrev pub pay_upto_in : Records → OwedKey → Records
pay_upto_in r key = record r { part = part_paying_upto r.part key }

abbrev pub note_moment_in : Records → ℕ → Records
note_moment_in r t = record r { moment = max r.moment (min t MAX_MOMENT) }

-- What is acknowledged and stable

abbrev pub note_ack_in : Records → SiteNo → Uid → Records
note_ack_in r from u = record r { acks = acked_ledger r.acks from u }

abbrev pub note_stable_in : Records → Uid → Records
note_stable_in r u = record r { acks = learnt_ledger r.acks u }

-- Messages

-- the logs once a message of a group is received
abbrev pub learn_in : List Log → GroupNo → Body → List Log
learn_in orders g (body.Causal payload) = orders
learn_in orders g (body.Atomic payload) = orders
learn_in orders g (body.Order s) = change_log g (with_placement s) orders

abbrev pub receive_in : Records → Message → Records
receive_in r m =
    record r {
      part = part_with r.part m;
      delay = record r.delay {
        offered = r.delay.offered
            ++ offer_of (record { key = record { 0 = r.part.next }; message = m }) ∷ [];
      };
      acks = received_ledger r.acks m.id;
      orders = learn_in r.orders m.id.group m.body;
    }

-- Requests, and what the home keeps

abbrev pub note_request_in : Records → ℕ → Change → Proc → Records
note_request_in r i what p = record r {
  groups = update r.groups i (λ x. record x { here = with_request x.here what p });
}

abbrev pub note_answer_in : Records → ℕ → Records
note_answer_in r i = record r {
  groups = update r.groups i (λ x. record x { here = with_answer x.here });
}

-- the home of a group moves on
abbrev pub moved_home : HomeMove → GroupRecord → GroupRecord
moved_home move x = record x { home = apply_move move x.home }

-- the home keeps nothing
abbrev pub with_first_home : GroupRecord → GroupRecord
with_first_home x = record x { home = first_home }

abbrev pub move_home_in : Records → ℕ → HomeMove → Records
move_home_in r i move = record r { groups = update r.groups i (moved_home move) }

-- what a site reports, by the parts of its frame
abbrev pub report_from_parts : CountList → Tail → KeptList → Report
report_from_parts counts tail kept = record { counts = counts; tail = tail; kept = kept }

-- Processes

abbrev pub note_joining_in : Records → ℕ → GroupNo → ℕ → ℕ → Records
note_joining_in r k g number heard =
    tell_in r (local_in r k) (fact.Standing g (Joining number heard))

abbrev pub note_outside_in : Records → ℕ → GroupNo → Records
note_outside_in r k g = tell_in r (local_in r k) (fact.Standing g Outside)

-- how many messages of a process of this site are stable in a view: all in a view of this site
-- alone
abbrev pub settled_in : Records → GroupNo → ℕ → Proc → ℕ
settled_in r g view p =
    if is_empty (others_in r.acks g) then MAX_NUMBER else upto_in r.acks (uid_in g view (p, 0))

-- what is kept of a process that sent a set-order message: that it did so, and that the token is
-- handed over, if it is
abbrev pub sent_hand : ℕ → ℕ → Placement → Hand → Hand
sent_hand count stable s h =
    let now : Hand = note_order_sent count (s.first + length s.ids - 1) stable h in
    if is_some s.holder then hand_over now else now

-- the logs once a process here has sent a message, where its messages up to a count are stable
abbrev pub orders_sent : List Log → Uid → ℕ → Body → List Log
orders_sent orders u stable (body.Causal payload) = orders
orders_sent orders u stable (body.Atomic payload) = orders
orders_sent orders u stable (body.Order s) =
    change_log u.group (with_hand u.proc (sent_hand u.count stable s)) orders

abbrev pub note_sent_by : Records → Proc → Message → Records
note_sent_by r p m =
    record (tell_in r p (fact.Time m.times)) {
      orders = orders_sent r.orders m.id (settled_in r m.id.group m.id.view m.id.proc) m.body;
    }

abbrev pub note_sent_in : Records → ℕ → Message → Records
note_sent_in r k m = note_sent_by r (local_in r k) m

abbrev pub is_current_in : Records → Uid → Bool
is_current_in r u =
    option_map_or (λ i. is_current (record_at r.groups i).here u.view) (place_in r u.group) false

-- an ABCAST of its own, of the view of a group of which it is a member, that a process has not
-- delivered
abbrev pub is_own_in : Records → Proc → Message → Bool
is_own_in r p m =
    is_atomic (kind_of m.body)
    && (proc_eq m.id.proc p
    && (is_current_in r m.id
    && (is_member (standing_of r.delay p m.id.group)
    && not (delivered_in r.delay p m.id))))

abbrev pub awaits_own_in : Records → Proc → Bool
awaits_own_in r p = list_any (λ x. is_own_in r p x.message) r.part.kept
