-- The records of a domain as the rules see them, and what events do to them, exactly.
use Rattle.std.specs.Prelude.{ℕ, ◌+◌, if◌then◌else◌, [], ◌∷◌, ◌++◌, length, take, is_some}
use Rattle.std.specs.List.{range_with_len}
use Rattle.cast_types.specs.declared.names.SiteNo.{SiteNo}
use Rattle.cast_types.specs.declared.names.Proc.{Proc}
use Rattle.cast_types.specs.Counts.{CountList}
use Rattle.cast_message.specs.declared.client.Push.TheVariants as push
use Rattle.cast_message.specs.Membership.{Membership}
use Rattle.cast_message.specs.Tail.{Tail}
use Rattle.cast_message.specs.KeptIds.{KeptList}
use Rattle.cast_ready.specs.Rows.{new_row}
use Rattle.cast_delay.specs.Queue.{but_row}
use Rattle.cast_stable.specs.Acks.{others_in, is_received_in, has_acked_in, upto_in, is_stable_in}
use Rattle.cast_timer.specs.Owed.{is_owed, due_at}
use Rattle.cast_events.specs.declared.session.Status.TheVariants.{Open}
use Rattle.cast_events.specs.Session.{is_open_status, is_gone_status}
use Rattle.cast_domain.specs.GivenSessions.{status_in}
use Rattle.cast_domain.specs.Shared.{part_boxing}
use Rattle.cast_rules.specs.Rules.Interface.{Site, Sessions}
use Rattle.cast_rules.specs.Rules.Leaving.{end_session}
use Rattle.cast_rules.specs.Rules.Events.{on_event, answer_to_event}
use Rattle.cast_rules.specs.Rules.Home.{on_flushed}
use Rattle.cast_rules.specs.Rules.Views.{on_install}
use Rattle.cast_rules.specs.Rules.Flushes.{complete}
use Rattle.cast_events.specs.declared.event.Event.{Event}
use Rattle.cast_events.specs.declared.event.Event.TheVariants.{Gone}
use Rattle.cast_events.specs.declared.event.Taken.{Taken}
use Rattle.cast_domain.specs.Records.{Records}
use Rattle.cast_domain.specs.PartCalls.{local_in, place_in, record_at, standing_of, time_of}
use Rattle.cast_domain.specs.PartCalls.{send_in, push_in, close_in, go_in, is_full_in}
use Rattle.cast_domain.specs.PartCalls.{take_entries_in, set_quota_in, count_cast_in, message_in}
use Rattle.cast_domain.specs.PartCalls.{note_owed_in, note_resent_in, pay_in, pay_upto_in}
use Rattle.cast_domain.specs.PartCalls.{note_moment_in, note_ack_in, note_stable_in, receive_in}
use Rattle.cast_domain.specs.PartCalls.{note_request_in, note_answer_in, move_home_in}
use Rattle.cast_domain.specs.PartCalls.{report_from_parts, note_joining_in, note_outside_in}
use Rattle.cast_domain.specs.PartCalls.{note_sent_in, awaits_own_in}
use Rattle.cast_domain.specs.ViewCalls.{pass_in, gone_in, members_in}
use Rattle.cast_domain.specs.FlushCalls.{freeze_in, pending_of, pend_in, first_in, report_at}
use Rattle.cast_domain.specs.ReleaseCalls.{release_all_in, is_ended_in}
use Rattle.cast_domain.specs.ReleaseCalls.{pay_view_in, place_to_pass_of}

-- The records as the rules see them: a group stands at a place

abbrev pub records : Site Records ℕ
records = record {
  here = λ r. r.site;
  config = λ r. r.config;
  quotas = λ r. r.quotas;
  place = place_in;
  name = λ r i. (record_at r.groups i).name;
  places = λ r. range_with_len 0 (length r.groups);
  group = λ r i. (record_at r.groups i).here;
  home = λ r i. (record_at r.groups i).home;
  others = λ r g. others_in r.acks g;
  held = λ r. length r.part.kept;
  is_received = λ r u. is_received_in r.acks u;
  has_acked = λ r u to. has_acked_in r.acks to u;
  is_stable = λ r u. is_stable_in r.acks u;
  stable_upto = λ r u. upto_in r.acks u;
  message = message_in;
  is_open = λ r k. is_open_status (status_in r.sessions k);
  is_full = is_full_in;
  members = members_in;
  put_out = gone_in;
  standing = λ r k g. standing_of r.delay (local_in r k) g;
  time = λ r k. time_of r.delay (local_in r k);
  awaits_own = λ r k. awaits_own_in r (local_in r k);
  holds = λ r i k. is_some (first_in r (record_at r.groups i).name k);
  place_to_pass = λ r i k. place_to_pass_of r (local_in r k) (record_at r.groups i);
  is_owed = λ r key. is_owed r.part.owed key;
  due = λ r. due_at r.moment r.part.owed;
  is_gone = λ r k. is_gone_status (status_in r.sessions k);
  report = λ r i. report_at r (record_at r.groups i);
  send = send_in;
  note_owed = note_owed_in;
  note_resent = note_resent_in;
  pay = pay_in;
  pay_upto = pay_upto_in;
  pay_view = pay_view_in;
  note_moment = note_moment_in;
  note_ack = note_ack_in;
  note_stable = note_stable_in;
  push = push_in;
  note_cast = count_cast_in;
  note_joining = note_joining_in;
  note_outside = note_outside_in;
  note_sent = note_sent_in;
  receive = receive_in;
  note_request = note_request_in;
  note_answer = note_answer_in;
  freeze = freeze_in;
  pend = pend_in;
  move_home = move_home_in;
  enter_view = λ r i skips n members request cut. pass_in r i skips n members request;
  release_ended = λ r i. release_all_in r (is_ended_in r i);
  close = close_in;
  go = go_in;
}

-- Sessions

abbrev pub open_in : Records → Records
open_in r =
    let p : Proc = local_in r (r.used + 1) in
    record r {
      used = r.used + 1;
      sessions = r.sessions ++ record { serial = r.used + 1; status = Open } ∷ [];
      part = part_boxing r.part (r.used + 1) (push.Opened p ∷ []);
      pushed = r.pushed ++ (r.config.domain, r.used + 1, push.Opened p) ∷ [];
      delay = record r.delay { rows = r.delay.rows ++ new_row p ∷ [] };
    }

abbrev pub records_sessions : Sessions Records
records_sessions = record {
  used = λ r. r.used;
  count = λ r. length r.sessions;
  open_next = open_in;
  entries = λ r k most. take most (r.part.outboxes k);
  take = take_entries_in;
  set_quota = set_quota_in;
}

-- a process is dismissed
abbrev pub dismiss_in : Records → ℕ → Records
dismiss_in r k = record r { delay = record r.delay { rows = but_row (local_in r k) r.delay.rows } }

-- a session whose program is gone ends by the rule, and then its process, which is in no group, is
-- dismissed
abbrev pub end_in : Records → ℕ → Records
end_in r k =
    if is_gone_status (status_in r.sessions k) then r else dismiss_in (end_session records r k) k

-- what an event does at once: what its rule says, and the process of a session that ends is
-- dismissed
abbrev pub acted_in : Records → Event → Records
acted_in r (Gone d k) = end_in r k
acted_in r e = on_event records records_sessions r e

-- and what it is answered
abbrev pub answered_in : Records → Event → Taken
answered_in r e = answer_to_event records records_sessions r e

-- Rules of what has many parts, by these

abbrev pub on_flushed_in : Records → ℕ → SiteNo → ℕ → CountList → Tail → KeptList → Records
on_flushed_in r i from view counts tail kept =
    on_flushed records r i from view (report_from_parts counts tail kept)

abbrev pub on_install_in : Records → ℕ → SiteNo → ℕ → Membership → ℕ → CountList → Tail → Records
on_install_in r i from view members request cut tail =
    on_install records r i from view members request cut tail

abbrev pub complete_in : Records → ℕ → Membership → ℕ → CountList → Records
complete_in r i members request cut = complete records r i (pending_of members request cut)
