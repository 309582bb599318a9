-- What a history keeps: sessions, messages, acknowledgements; and changes of it.
-- It is the state of one domain at one site, with its whole history, and what its parts say
-- together.
use Rattle.std.specs.Prelude.{ℕ, ◌+◌, min, Bool, not, ◌&&◌, ◌||◌, ◌==◌}
use Rattle.std.specs.Prelude.{nat_lt, nat_le, if◌then◌else◌, List, [], ◌∷◌}
use Rattle.std.specs.Prelude.{◌++◌, length, filter, Option, Some, None}
use Rattle.std.specs.List.{find, list_any, list_all, range_with_len}
use Rattle.cast_types.specs.declared.names.SiteNo.{SiteNo}
use Rattle.cast_types.specs.declared.names.GroupNo.{GroupNo}
use Rattle.cast_types.specs.declared.names.Proc.{Proc}
use Rattle.cast_types.specs.declared.names.Uid.{Uid}
use Rattle.cast_types.specs.declared.names.Standing.{Standing}
use Rattle.cast_types.specs.declared.names.Standing.TheVariants.{Outside}
use Rattle.cast_types.specs.Names.{Entry, site_eq, group_eq, proc_eq, uid_eq, is_atomic}
use Rattle.cast_types.specs.Sets.{is_among, set_at}
use Rattle.cast_types.specs.Counts.{CountList}
use Rattle.cast_clock.specs.Times.{no_time, join}
use Rattle.cast_message.specs.declared.message.Message.{Message}
use Rattle.cast_message.specs.Bodies.{kind_of}
use Rattle.cast_message.specs.declared.site.SiteFrame.{SiteFrame}
use Rattle.cast_stable.specs.Stable.{Acked, stable_upto, is_known_stable}
use Rattle.cast_timer.specs.declared.key.Owed.{Owed}
use Rattle.cast_ready.specs.declared.gate.Gate.{Gate}
use Rattle.cast_ready.specs.Ready.{Process, is_member, has_delivered, awaits}
use Rattle.cast_rules.specs.Acts.{Act}
use Rattle.cast_rules.specs.Acts.Act.{Sent, Delivered, Left}
use Rattle.cast_message.specs.declared.client.Push.{Push}
use Rattle.cast_message.specs.declared.client.Push.TheVariants as push
use Rattle.cast_events.specs.Session.{Session, no_session, is_open, is_gone}
use Rattle.cast_events.specs.Session.{is_full, pushed_to, tell_end, taken_from}
use Rattle.cast_quota.specs.declared.quotas.Quotas.{Quotas}
use Rattle.cast_quota.specs.declared.quotas.QuotaName.{QuotaName}
use Rattle.cast_quota.specs.Quotas.{with_quota}
use Rattle.cast_events.specs.declared.limits.TheConstants.{MAX_CASTS}
use Rattle.cast_view.specs.MemberSide.{MemberSide, no_group, members_of}
use Rattle.cast_types.specs.declared.refusal.Refusal.{Refusal}
use Rattle.cast_view.specs.Sites.{other_sites}
use Rattle.cast_view.specs.Home.{Home, first_home}
use Rattle.cast_events.specs.declared.config.DomainConfig.{DomainConfig}

pub record State : Type 0 where
  pub here : SiteNo
  pub config : DomainConfig
  -- what the domain may use now
  pub quotas : Quotas
  -- in milliseconds; it never goes back
  pub moment : ℕ
  -- serials are used from 1 on, and never again
  pub used : ℕ
  pub session : ℕ → Session
  pub process : ℕ → Process
  -- all that each process did, in order
  pub acts : ℕ → List Act
  -- the ABCASTs that each process ever delivered, in order
  pub abcasts : ℕ → List Uid
  pub group : GroupNo → MemberSide
  -- the order that a group's view ends with, while the Install of the next view waits
  pub closed : GroupNo → List Entry
  pub home : GroupNo → Home
  -- every message ever received, in order, and those of them that were not let go
  pub got : List Message
  pub kept : List Message
  -- which site acknowledged which message of a local process, and what other sites told to be
  -- stable
  pub acks : List Acked
  pub told : List Uid
  -- the frames that are sent again until they are answered
  pub owed : List Owed
  -- how many casts of programs were accepted
  pub casts : ℕ
  -- of the event at hand: the frames sent, the deliveries, and the entries pushed, each with the
  -- serial of its session
  pub frames : List (SiteNo × SiteFrame)
  pub deliveries : List (Proc × Uid)
  pub pushes : List (ℕ × Push)

abbrev pub no_process : Process
no_process = record { time = no_time; standing = λ g. Outside; delivered = [] }

-- a domain before its first event
abbrev pub opening : SiteNo → DomainConfig → State
opening here config =
    record {
      here = here;
      config = config;
      quotas = config.quotas;
      moment = 0;
      used = 0;
      session = λ k. no_session;
      process = λ k. no_process;
      acts = λ k. [];
      abcasts = λ k. [];
      group = λ g. no_group;
      closed = λ g. [];
      home = λ g. first_home;
      got = [];
      kept = [];
      acks = [];
      told = [];
      owed = [];
      casts = 0;
      frames = [];
      deliveries = [];
      pushes = [];
    }

-- Names

abbrev pub local : State → ℕ → Proc
local s k = record { site = s.here; serial = k }

abbrev pub serials : State → List ℕ
serials s = range_with_len 1 s.used

-- a serial that was given
abbrev pub was_given : ℕ → ℕ → Bool
was_given used k = nat_lt 0 k && nat_le k used

abbrev pub is_group : State → GroupNo → Bool
is_group s g = is_among group_eq g s.config.groups

-- Changes at one place

abbrev pub set_session : State → ℕ → Session → State
set_session s k v = record s { session = set_at (λ a b. a == b) s.session k v }

abbrev pub set_process : State → ℕ → Process → State
set_process s k v = record s { process = set_at (λ a b. a == b) s.process k v }

abbrev pub set_group : State → GroupNo → MemberSide → State
set_group s g v = record s { group = set_at group_eq s.group g v }

abbrev pub set_home : State → GroupNo → Home → State
set_home s g v = record s { home = set_at group_eq s.home g v }

abbrev pub set_standing : State → ℕ → GroupNo → Standing → State
set_standing s k g v =
    set_process s k (record (s.process k) { standing = set_at group_eq (s.process k).standing g v })

-- a process did something
abbrev pub noting_act : State → ℕ → Act → State
noting_act s k a = record s { acts = set_at (λ i j. i == j) s.acts k (s.acts k ++ a ∷ []) }

-- what processes did, once one is outside a group: where it was a member, it left
abbrev pub acts_outside : State → ℕ → GroupNo → ℕ → List Act
acts_outside s k g =
    if is_member ((s.process k).standing g) then (noting_act s k (Left g)).acts else s.acts

-- a process is outside a group
abbrev pub outside : State → ℕ → GroupNo → State
outside s k g = record (set_standing s k g Outside) { acts = acts_outside s k g }

abbrev pub emit : State → SiteNo → SiteFrame → State
emit s to f = record s { frames = s.frames ++ (to, f) ∷ [] }

-- Sessions

-- how many sessions are not gone
abbrev pub sessions : State → ℕ
sessions s = length (filter (λ k. not (is_gone (s.session k))) (serials s))

-- the outbox of a session has as many entries as it may have
abbrev pub is_filled : State → ℕ → Bool
is_filled s k = is_full s.quotas.outbox (s.session k)

-- a session that was pushed an entry
abbrev pub with_push : State → ℕ → Session → Push → State
with_push s k v p = record (set_session s k v) { pushes = s.pushes ++ (k, p) ∷ [] }

-- a program is told something, where its session is open
abbrev pub pushing : State → ℕ → Push → State
pushing s k p = if is_open (s.session k) then with_push s k (pushed_to (s.session k) p) p else s

-- an open session is closed, and its program is told why
abbrev pub closing : State → ℕ → Refusal → State
closing s k refusal =
    if is_open (s.session k)
    then with_push s k (tell_end refusal (s.session k)) (push.Closed refusal)
    else s

-- the program of a session is gone, and so is its outbox
abbrev pub going : State → ℕ → State
going s k = set_session s k no_session

-- the first entries of an outbox are taken, at most so many
abbrev pub taking : State → ℕ → ℕ → State
taking s k most = set_session s k (taken_from most (s.session k))

-- Quotas, and what is counted

abbrev pub setting_quota : State → QuotaName → ℕ → State
setting_quota s name value = record s { quotas = with_quota name value s.quotas }

-- a cast of a program was accepted
abbrev pub counting_cast : State → State
counting_cast s = record s { casts = min MAX_CASTS (s.casts + 1) }

-- Messages

abbrev pub is_received : State → Uid → Bool
is_received s u = list_any (λ m. uid_eq m.id u) s.got

-- how many messages are kept, over all groups
abbrev pub held_count : State → ℕ
held_count s = length s.kept

-- a message is received
abbrev pub receiving : State → Message → State
receiving s m = record s { got = s.got ++ m ∷ []; kept = s.kept ++ m ∷ [] }

-- a process has sent a message, and has its time
abbrev pub noting_sent : State → ℕ → Message → State
noting_sent s k m =
    noting_act (set_process s k (record (s.process k) { time = m.times })) k (Sent m)

-- the ABCASTs that processes delivered, once one has delivered a message
abbrev pub abcasts_with : State → ℕ → Message → ℕ → List Uid
abcasts_with s k m =
    if is_atomic (kind_of m.body) then set_at (λ a b. a == b) s.abcasts k (s.abcasts k ++ m.id ∷ [])
    else s.abcasts

-- a process has delivered a message
abbrev pub with_delivery : State → ℕ → Message → State
with_delivery s k m =
    let p : Process = s.process k in
    let now : State =
    set_process s k
    (record p { time = join p.time m.times; delivered = p.delivered ++ m.id ∷ [] }) in
    record (noting_act now k (Delivered m)) {
      abcasts = abcasts_with s k m;
      deliveries = s.deliveries ++ (local s k, m.id) ∷ [];
    }

-- the kept message of an id
abbrev pub message_of : State → Uid → Option Message
message_of s u = find (λ m. uid_eq m.id u) s.kept

abbrev pub others_of : State → GroupNo → List SiteNo
others_of s g = other_sites s.here (members_of (s.group g))

-- a process may speak in a group: it is one of its view's members, or is at this site
abbrev pub may_speak : State → GroupNo → Proc → Bool
may_speak s g p = is_among proc_eq p (members_of (s.group g)) || site_eq p.site s.here

-- Stability

-- how many messages of a local process are stable
abbrev pub upto : State → Uid → ℕ
upto s u = stable_upto s.acks (others_of s u.group) u.group u.view u.proc

-- known to be stable
abbrev pub is_stable : State → Uid → Bool
is_stable s u = is_known_stable s.here (others_of s u.group) s.acks s.told u

-- a site acknowledged a message of a local process
abbrev pub noting_ack : State → SiteNo → Uid → State
noting_ack s from u = record s { acks = s.acks ++ (from, u) ∷ [] }

-- another site told that its process's messages up to one are stable
abbrev pub noting_stable : State → Uid → State
noting_stable s u = record s { told = s.told ++ u ∷ [] }

-- the serials of the local members of a group
abbrev pub local_members : State → GroupNo → List ℕ
local_members s g = filter (λ k. is_member ((s.process k).standing g)) (serials s)

-- each of them has delivered a message
abbrev pub is_delivered : State → Uid → Bool
is_delivered s u = list_all (λ k. has_delivered (s.process k) u) (local_members s u.group)

-- kept messages are let go, those whose ids pass a test
abbrev pub releasing : State → (Uid → Bool) → State
releasing s passes = record s { kept = filter (λ m. not (passes m.id)) s.kept }

-- a message of a view of the group that has ended
abbrev pub is_ended : State → GroupNo → Uid → Bool
is_ended s g u = group_eq u.group g && nat_lt u.view (s.group g).number

-- those of its kept messages are let go
abbrev pub releasing_ended : State → GroupNo → State
releasing_ended s g = releasing s (is_ended s g)

-- Readiness

-- how many messages of each process belong to the view that ends, while an Install waits
abbrev pub cut_of : MemberSide → Option CountList
cut_of group = elim group.pending [ Some p ↦ Some p.cut | None ↦ None ]

abbrev pub gate_for : MemberSide → Gate
gate_for group = record { number = group.number; frozen = group.frozen; cut = cut_of group }

abbrev pub gate_of : State → GroupNo → Gate
gate_of s g = gate_for (s.group g)

-- a process has not delivered an ABCAST of its own, of the view of a group of which it is a member
abbrev pub awaits_own : State → ℕ → Bool
awaits_own s k =
    list_any
    (λ m. is_atomic (kind_of m.body)
    && (proc_eq m.id.proc (local s k)
    && ((m.id.view == (s.group m.id.group).number)
    && awaits (s.process k) m.id)))
    s.got
