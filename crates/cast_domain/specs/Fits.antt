-- When a domain's records stand for a history.
use Rattle.std.specs.Prelude.{◌≡◌, ℕ, ◌≤◌, Bool, not, ◌&&◌, ◌||◌, ◌==◌, true, nat_lt, if◌then◌else◌}
use Rattle.std.specs.Prelude.{List, length, map, filter, take, Contains, None, false}
use Rattle.std.specs.Option.{IsSome}
use Rattle.std.specs.List.{list_all, list_any, range_with_len}
use Rattle.cast_types.specs.declared.names.DomainNo.{DomainNo}
use Rattle.cast_types.specs.declared.names.SiteNo.{SiteNo}
use Rattle.cast_types.specs.declared.names.GroupNo.{GroupNo}
use Rattle.cast_types.specs.declared.names.Proc.{Proc}
use Rattle.cast_types.specs.declared.limits.TheConstants.{MAX_NUMBER}
use Rattle.cast_types.specs.declared.names.Uid.{Uid}
use Rattle.cast_types.specs.Names.{Entry, site_eq, uid_eq, entry_eq, uid_in}
use Rattle.cast_types.specs.Sets.{is_among}
use Rattle.cast_clock.specs.Times.{count_in}
use Rattle.cast_ready.specs.declared.gate.Gate.{Gate}
use Rattle.cast_ready.specs.Ready.{Process, is_member, has_delivered}
use Rattle.cast_delay.specs.Queue.{Queue, row_of}
use Rattle.cast_delay.specs.Fits.{HasNotBegun, Fits as QueueFits}
use Rattle.cast_message.specs.Receipts.{messages, message_under}
use Rattle.cast_message.specs.declared.message.Message.{Message}
use Rattle.cast_message.specs.declared.message.Received.{Received}
use Rattle.cast_types.specs.declared.source.Source.{Source}
use Rattle.cast_stable.specs.Fits.{Past, Fits as AcksFits}
use Rattle.cast_order.specs.Hand.{Hand, FitsHand, hands_rise}
use Rattle.cast_order.specs.Log.{Log, log_of, hand_here}
use Rattle.cast_order.specs.Fits.{Fits as OrderFits, FitsClosed}
use Rattle.cast_domain.specs.declared.domain.Domain.{Domain}
use Rattle.cast_domain.specs.declared.record.GroupRecord.{GroupRecord}
use Rattle.cast_timer.specs.declared.key.Owed.{Owed}
use Rattle.cast_events.specs.declared.config.DomainConfig.{DomainConfig}
use Rattle.cast_domain.specs.GivenSessions.{SessionRecord, status_in}
use Rattle.cast_message.specs.declared.client.Push.{Push}
use Rattle.cast_quota.specs.declared.quotas.Quotas.{Quotas}
use Rattle.cast_events.specs.Session.{Session, no_session, is_gone, is_gone_status}
use Rattle.cast_view.specs.MemberSide.{is_pending}
use Rattle.cast_view.specs.Home.{is_empty}
use Rattle.cast_rules.specs.Lawful.{IsLawful}
use Rattle.cast_rules.specs.State.{State, local, no_process, gate_of, others_of}
use Rattle.cast_rules.specs.State.{may_speak, upto, was_given, is_received}
use Rattle.cast_rules.specs.Order.{facts_in, order_told, token_of, abcasts_delivered, lists_of}
use Rattle.cast_rules.specs.Run.{before_event}
use Rattle.cast_domain.specs.Shared.{Part}
use Rattle.cast_events.specs.Outs.{no_outs}
use Rattle.cast_domain.specs.Records.{Records, records_of}
use Rattle.cast_domain.specs.Freed.{AreNotFree}

-- a process by its name
abbrev pub process_named : State → Proc → Process
process_named s p = if site_eq p.site s.here then s.process p.serial else no_process

-- what is kept of a group
abbrev pub record_for : State → GroupNo → GroupRecord
record_for s g = record { name = g; here = s.group g; home = s.home g }

-- what is kept of the session of a serial
abbrev pub session_for : (ℕ → Session) → ℕ → SessionRecord
session_for session k = record { serial = k; status = (session k).status }

abbrev pub is_there : (ℕ → Session) → ℕ → Bool
is_there session k = not (is_gone (session k))

-- with the number of the domain
abbrev pub with_domain : {A B : Type 0} → DomainNo → List (A × B) → List (DomainNo × A × B)
with_domain d xs = map (λ x. (d, x.0, x.1)) xs

-- what a history says of receipts. A source is live while a rule may ask of it: its view has not
-- ended, and in its group's view here it may speak
abbrev pub is_live : State → Source → Bool
is_live s x =
    nat_lt (s.group x.group).number x.view
    || (((s.group x.group).number == x.view) && may_speak s x.group x.process)

abbrev pub past_of : State → Past
past_of s =
    record {
      here = s.here;
      others = others_of s;
      is_live = is_live s;
      received = map (λ m. m.id) s.got;
      acks = s.acks;
      told = s.told;
    }

-- how many messages of a process of this site are stable
abbrev pub settled_of : State → GroupNo → Proc → ℕ
settled_of s g p =
    if is_empty (others_of s g) then MAX_NUMBER else upto s (uid_in g (s.group g).number (p, 0))

-- a member of the group here goes on through the order of its view
abbrev pub goes_on : State → GroupNo → Proc → Bool
goes_on s g p = is_member ((process_named s p).standing g)

-- a member here has delivered an id of the view
abbrev pub has_passed : State → GroupNo → Proc → Entry → Bool
has_passed s g p e = has_delivered (process_named s p) (uid_in g (s.group g).number e)

-- a message is kept
abbrev pub is_still_kept : State → Uid → Bool
is_still_kept s u = list_any (λ m. uid_eq m.id u) s.kept

-- a message of a group's view is over: it was received, and is kept no longer; and where its
-- process is a member here, that has counted it
pub record IsOver (s : State) (g : GroupNo) (e : Entry) : Type 0 where
  pub received : is_received s (uid_in g (s.group g).number e) ≡ true
  pub let_go : is_still_kept s (uid_in g (s.group g).number e) ≡ false
  pub counted : (k : ℕ) → is_member ((s.process k).standing g) ≡ true → e.0 ≡ local s k
      → e.1 ≤ count_in (s.process k).time g (local s k)

-- what is kept of a process of this site tells of what it did in the view
pub record TellsHand (s : State) (g : GroupNo) (k : ℕ) (h : Hand) : Type 0 where
  -- so many of its messages were stable when it sent its last set-order message
  pub stable : ℕ
  pub reached : stable ≤ settled_of s g (local s k)
  pub fits : FitsHand (order_told s g) (token_of s g k) (abcasts_delivered s g k)
      (lists_of s g k) stable h
  pub counted : (x : ℕ × ℕ) → Contains (lists_of s g k) x → x.0 ≤ MAX_NUMBER

-- a log tells of the order of a group's view, as it was told and delivered here; what is forgotten
-- of it is over
pub record TellsOrder (s : State) (g : GroupNo) (l : Log) : Type 0 where
  pub fits : OrderFits (facts_in s g) (goes_on s g) (has_passed s g) l
  pub hands : (k : ℕ) → TellsHand s g k (hand_here l (local s k))
  pub gone : (e : Entry) → is_among entry_eq e (take l.base (order_told s g)) ≡ true → IsOver s g e

-- what is kept of processes is of those of a site alone, in their order
abbrev pub AreOwn : SiteNo → List Hand → Type 0
AreOwn here hands =
    (hands_rise hands ≡ true) × (list_all (λ h. site_eq h.process.site here) hands ≡ true)

-- a group's log does so until the Install of its next view waits, and then it has the order that
-- the view ends with. At all times it tells which processes of this site hold the token; what it
-- has of processes is of this site's alone, in their order
pub record LogFits (s : State) (g : GroupNo) (l : Log) : Type 0 where
  pub tokens : (k : ℕ) → (hand_here l (local s k)).first ≡ token_of s g k
  pub own : AreOwn s.here l.hands
  pub tells : is_pending (s.group g) ≡ false → TellsOrder s g l
  pub closed : is_pending (s.group g) ≡ true
      → FitsClosed (s.closed g) (goes_on s g) (has_passed s g) l

-- The records of a step so far, beside a state

-- what both have as it is: the site, the configuration, the quotas, how many serials were given,
-- the moment, how many casts were accepted, and the frames that are owed
pub record Core : Type 0 where
  pub site : SiteNo
  pub config : DomainConfig
  pub quotas : Quotas
  pub used : ℕ
  pub moment : ℕ
  pub casts : ℕ
  pub owed : List Owed

abbrev pub core_in : Records → Core
core_in r =
    record {
      site = r.site;
      config = r.config;
      quotas = r.quotas;
      used = r.used;
      moment = r.moment;
      casts = r.casts;
      owed = r.part.owed;
    }

abbrev pub core_of : State → Core
core_of s =
    record {
      site = s.here;
      config = s.config;
      quotas = s.quotas;
      used = s.used;
      moment = s.moment;
      casts = s.casts;
      owed = s.owed;
    }

-- sessions by serial, of those that are not gone, each with its outbox; the session of a serial
-- that was not given is none
pub record SessionsFit (sessions : List SessionRecord) (outboxes : ℕ → List Push) (used : ℕ)
    (session : ℕ → Session) : Type 0 where
  pub rows : sessions
      ≡ map (session_for session) (filter (is_there session) (range_with_len 1 used))
  pub boxes : outboxes ≡ (λ k. (session k).outbox)
  pub unused : (k : ℕ) → was_given used k ≡ false → session k ≡ no_session

-- the kept messages in order of receipt; the keys from the next one on are free, and so many
-- messages were received
pub record MessagesFit (received : List Received) (next : ℕ)
    (kept got : List Message) : Type 0 where
  pub kept_in : messages received ≡ kept
  pub fresh : (n : ℕ) → next ≤ n → message_under received (record { 0 = n }) ≡ None
  pub counted : next ≡ length got

-- processes and what they await. The queue has rows of serials that were given, in their order,
-- among them each whose session is not gone; the process of a serial that was not given has not
-- begun
pub record ProcessesFit (s : SiteNo) (used : ℕ) (session : ℕ → Session) (groups : List GroupNo)
    (gate : GroupNo → Gate) (processes : Proc → Process) (received : List Received)
    (q : Queue) : Type 0 where
  pub delay : QueueFits groups gate processes received q
  pub admitted : (k : ℕ) → is_gone (session k) ≡ false
      → IsSome (row_of q.rows (record { site = s; serial = k }))
  -- which serials have a row
  pub has_row : ℕ → Bool
  pub rows : map (λ row. row.process) q.rows
      ≡ map (λ k. record { site = s; serial = k }) (filter has_row (range_with_len 1 used))
  pub idle : (k : ℕ) → was_given used k ≡ false
      → HasNotBegun (processes (record { site = s; serial = k }))

-- the records stand for the state
pub record Fits (r : Records) (s : State) : Type 0 where
  pub core : core_in r ≡ core_of s
  pub opened : SessionsFit r.sessions r.part.outboxes s.used s.session
  pub groups : r.groups ≡ map (record_for s) s.config.groups
  pub messages : MessagesFit r.part.kept r.part.next s.kept s.got
  pub processes : ProcessesFit s.here s.used s.session s.config.groups (gate_of s) (process_named s)
      r.part.kept r.delay
  pub acks : AcksFits (past_of s) r.acks
  pub orders : (g : GroupNo) → LogFits s g (log_of r.orders g)
  pub frames : r.frames ≡ with_domain s.config.domain s.frames
  pub delivered : r.delivered ≡ with_domain s.config.domain s.deliveries
  pub pushed : r.pushed ≡ with_domain s.config.domain s.pushes

-- no process whose session is gone has a row: it was dismissed
abbrev pub AreDismissed : Records → Type 0
AreDismissed r =
    (k : ℕ) → is_gone_status (status_in r.sessions k) ≡ true
    → row_of r.delay.rows (record { site = r.site; serial = k }) ≡ None

-- a domain between two steps, with its part of what is shared, stands for a history
pub record Represents (d : Domain) (part : Part) (s : State) : Type 0 where
  pub fits : Fits (records_of d part no_outs) (before_event s)
  pub lawful : IsLawful s
  pub dismissed : AreDismissed (records_of d part no_outs)
  pub freed : AreNotFree (records_of d part no_outs)
