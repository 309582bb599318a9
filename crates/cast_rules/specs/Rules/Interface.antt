-- A domain at its site, as the rules see it: what they ask of it, and what they do to it.
-- A rule is written once, over this, and holds of whatever gives it: of the history of a domain,
-- and of the records that stand for a history. The rules of what a domain does of itself after an
-- event ask and do more, and that stands apart: what is ready follows from what the first rules
-- tell of the order.
use Rattle.std.specs.Prelude.{ℕ, Bool, List, Option}
use Rattle.cast_types.specs.declared.names.SiteNo.{SiteNo}
use Rattle.cast_types.specs.declared.names.GroupNo.{GroupNo}
use Rattle.cast_types.specs.declared.names.Proc.{Proc}
use Rattle.cast_types.specs.declared.names.Uid.{Uid}
use Rattle.cast_types.specs.declared.names.Standing.{Standing}
use Rattle.cast_types.specs.declared.refusal.Refusal.{Refusal}
use Rattle.cast_types.specs.Names.{Entry}
use Rattle.cast_types.specs.Counts.{CountList}
use Rattle.cast_types.specs.Stamps.{ClockList}
use Rattle.cast_message.specs.declared.message.Message.{Message}
use Rattle.cast_message.specs.declared.site.Change.{Change}
use Rattle.cast_message.specs.declared.site.SiteFrame.{SiteFrame}
use Rattle.cast_message.specs.declared.client.Push.{Push}
use Rattle.cast_message.specs.Membership.{Membership}
use Rattle.cast_message.specs.Placement.{Placement}
use Rattle.cast_message.specs.Tail.{Tail}
use Rattle.cast_timer.specs.declared.key.OwedKey.{OwedKey}
use Rattle.cast_events.specs.declared.config.DomainConfig.{DomainConfig}
use Rattle.cast_quota.specs.declared.quotas.Quotas.{Quotas}
use Rattle.cast_quota.specs.declared.quotas.QuotaName.{QuotaName}
use Rattle.cast_flush.specs.declared.report.Report.{Report}
use Rattle.cast_view.specs.declared.member.Pending.{Pending}
use Rattle.cast_view.specs.MemberSide.{MemberSide}
use Rattle.cast_view.specs.Home.{Home, HomeMove}

-- an S is what is known of the domain, and an H says where a group stands in it. First comes what a
-- rule asks, and from `send` on what it does. Each field has beside it what stands for it in the
-- history of a domain
pub record Site (S H : Type 0) : Type 0 where
  -- the site's number: `here`
  pub here : S → SiteNo
  -- the domain's configuration: `config`
  pub config : S → DomainConfig
  -- what the domain may use now: `quotas`
  pub quotas : S → Quotas
  -- where a group stands, if the configuration has it: its number
  pub place : S → GroupNo → Option H
  -- the number of the group at a place: the place itself
  pub name : S → H → GroupNo
  -- where the groups stand, in the order of the configuration: its groups
  pub places : S → List H
  -- a group's view here, and the requests of its processes here: `group`
  pub group : S → H → MemberSide
  -- what the home keeps of a group: `home`
  pub home : S → H → Home
  -- the other sites of a group's view: from the members of `group`
  pub others : S → GroupNo → List SiteNo
  -- how many messages are kept, over all groups: the length of `kept`
  pub held : S → ℕ
  -- a message was received: an id is in `got`. A count is at least 1, here and below
  pub is_received : S → Uid → Bool
  -- a site acknowledged a message: the pair is in `acks`
  pub has_acked : S → Uid → SiteNo → Bool
  -- a message is known to be stable: by `acks` for a process of this site, by `told` for another
  pub is_stable : S → Uid → Bool
  -- how many messages of a local process are stable, in a view with another site: from `acks`
  pub stable_upto : S → Uid → ℕ
  -- the kept message of an id: the first in `kept`
  pub message : S → Uid → Option Message
  -- a session is open: `session`
  pub is_open : S → ℕ → Bool
  -- its outbox has as many entries as it may have: `session` beside `quotas`
  pub is_full : S → ℕ → Bool
  -- the local members of a group, by serial: those that `process` says are members
  pub members : S → H → List ℕ
  -- the local members that a next view lacks, and all of them where a view is skipped: from
  -- `process`
  pub put_out : S → H → Bool → Membership → List ℕ
  -- what a local process, named by its serial, is in a group: `process`
  pub standing : S → ℕ → GroupNo → Standing
  -- the vector time of a local process: `process`
  pub time : S → ℕ → ClockList
  -- a local process has not delivered an ABCAST of its own: one in `got` that `process` has not
  pub awaits_own : S → ℕ → Bool
  -- a local process holds the token of a group's view: from `acts`
  pub holds : S → H → ℕ → Bool
  -- the place from which another would order, if a holder settled all that it ordered: from `acts`,
  -- `acks`
  pub place_to_pass : S → H → ℕ → Option ℕ
  -- a frame is owed: its key is in `owed`
  pub is_owed : S → OwedKey → Bool
  -- the frames that are due to be sent again, in their order: in `owed`, due at `moment`
  pub due : S → List OwedKey
  -- a session is gone, or was never opened: `session`
  pub is_gone : S → ℕ → Bool
  -- what the site reports where a group's view is flushed: from `process`, `got`, `kept`
  pub report : S → H → Report
  -- a frame is sent to a site: it ends `frames`
  pub send : S → SiteNo → SiteFrame → S
  -- a frame that is sent now is owed, and is due after the time to resend: `owed`
  pub note_owed : S → OwedKey → S
  -- a frame that is owed was sent again now, and is due after as long a time: `owed`
  pub note_resent : S → OwedKey → S
  -- a frame is owed no more: `owed`
  pub pay : S → OwedKey → S
  -- a frame, and those of its kind about its process's earlier messages, are owed no more: `owed`
  pub pay_upto : S → OwedKey → S
  -- the frames for an ended view of a group are owed no more: `owed`
  pub pay_view : S → GroupNo → S
  -- the moment is at least this one, and at most the last one: `moment`
  pub note_moment : S → ℕ → S
  -- a site acknowledged a message: it ends `acks`
  pub note_ack : S → SiteNo → Uid → S
  -- another site told that a process's messages up to one are stable: it ends `told`
  pub note_stable : S → Uid → S
  -- an entry is pushed to a session, where it is open: `session`, `pushes`
  pub push : S → ℕ → Push → S
  -- a program's cast was accepted: `casts`, up to the last number
  pub note_cast : S → S
  -- a local process joins by a request of this number, and had heard of views up to one: `process`
  pub note_joining : S → ℕ → GroupNo → ℕ → ℕ → S
  -- a local process is outside a group from now on: `process`, `acts`
  pub note_outside : S → ℕ → GroupNo → S
  -- a local process has sent a message, and has its time: `process`, `acts`
  pub note_sent : S → ℕ → Message → S
  -- a message is received: it ends `got` and `kept`
  pub receive : S → Message → S
  -- a local process has a request of a group: `group`
  pub note_request : S → H → Change → Proc → S
  -- the first request of a group is answered: `group`
  pub note_answer : S → H → S
  -- a flush has frozen a group: `group`
  pub freeze : S → H → S
  -- the Install of a group's next view waits, with the end of the order of the one that ends:
  -- `group`, `closed`
  pub pend : S → H → Pending → Tail → S
  -- the home of a group moves on: `home`
  pub move_home : S → H → HomeMove → S
  -- a group passes to a view of this number, with these members: `group`, `process`, `acts`. The
  -- local members that it lacks are put out; all of them, where a view was skipped. The local
  -- processes that it takes in enter it: a member, and one whose request to join was applied, by
  -- the number of the last one of this site that was. The last argument is the Install's cut
  pub enter_view : S → H → Bool → ℕ → Membership → ℕ → CountList → S
  -- messages of a group's ended views are kept no longer: `kept`
  pub release_ended : S → H → S
  -- an open session is closed, and the reason is the last that its program is told: `session`,
  -- `pushes`
  pub close : S → ℕ → Refusal → S
  -- a session is gone, and its outbox: `session`
  pub go : S → ℕ → S

-- what only events do: to the sessions of a domain, whose serials count from 1, and to its quotas
pub record Sessions (S : Type 0) : Type 0 where
  -- how many serials were given: `used`
  pub used : S → ℕ
  -- how many sessions are not gone: from `session`
  pub count : S → ℕ
  -- the next serial is given, and its session is open: `used`, `session`
  pub open_next : S → S
  -- the first entries of a session's outbox, at most so many: `session`
  pub entries : S → ℕ → ℕ → List Push
  -- they are taken: `session`
  pub take : S → ℕ → ℕ → S
  -- a quota has another value: `quotas`
  pub set_quota : S → QuotaName → ℕ → S

-- what a domain does of itself, until nothing changes
pub record Resting (S H : Type 0) : Type 0 where
  -- the serials that were given, in their order: 1 to `used`
  pub serials : S → List ℕ
  -- so many deliveries of one process are all that it can make: the length of `got`
  pub turns : S → ℕ
  -- the first message that is ready for a local process: the first such in `got`
  pub next_ready : S → ℕ → Option Message
  -- a message is of the view that its group has here, which no flush has frozen: `group`
  pub is_open : S → Uid → Bool
  -- each local member of its group has delivered a message: `process`
  pub is_delivered : S → Uid → Bool
  -- each local member of a group has delivered all messages of its view within a cut: `process`
  pub has_cut : S → H → CountList → Bool
  -- of those, the first 64 that a local member has not delivered and that were not received: from
  -- `process`, `got`
  pub missing : S → H → CountList → List Entry
  -- the local processes that hold the token of a group's view, by serial: from `acts`
  pub holders : S → H → List ℕ
  -- what a holder has to list, at the places after those that are known: from `acts`
  pub next_places : S → H → ℕ → Option Placement
  -- a local process has delivered the first message that was ready for it: `process`, `acts`,
  -- `abcasts`, `deliveries`
  pub note_delivered : S → ℕ → Message → S
  -- kept messages whose ids pass a test are let go: `kept`
  pub release : S → (Uid → Bool) → S
