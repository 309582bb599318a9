-- What frames can make a daemon keep, whoever sent them.
use Rattle.std.specs.Prelude.{◌≡◌, ◌≤◌, ◌+◌, ◌*◌, ◌==◌, ◌&&◌, ℕ, Bool, false, not}
use Rattle.std.specs.Prelude.{List, [], length, map, filter, Contains, Some, None}
use Rattle.std.specs.List.{AllByRecursion, flat_map}
use Rattle.cast_types.specs.declared.names.SiteNo.{SiteNo}
use Rattle.cast_types.specs.declared.names.GroupNo.{GroupNo}
use Rattle.cast_types.specs.declared.names.Uid.{Uid}
use Rattle.cast_types.specs.declared.limits.TheConstants.{MAX_POSITION}
use Rattle.cast_types.specs.Names.{entry_eq, entry_of, uid_in, uid_eq}
use Rattle.cast_types.specs.Sets.{is_among}
use Rattle.cast_ready.specs.Ready.{covered_entries}
use Rattle.cast_message.specs.declared.client.Push.{Push}
use Rattle.cast_message.specs.declared.message.Message.{Message}
use Rattle.cast_message.specs.declared.site.SiteFrame.{SiteFrame}
use Rattle.cast_quota.specs.declared.quotas.QuotaName.{QuotaName}
use Rattle.cast_quota.specs.declared.quotas.QuotaName.TheVariants.{Sessions, Held, Outbox, Resend}
use Rattle.cast_events.specs.declared.config.DomainConfig.{DomainConfig}
use Rattle.cast_events.specs.declared.event.Event.{Event}
use Rattle.cast_events.specs.declared.event.Event.TheVariants as event
use Rattle.cast_events.specs.declared.event.Taken.{Taken}
use Rattle.cast_view.specs.MemberSide.{MemberSide}
use Rattle.cast_rules.specs.Lawful.{IsTyped}
use Rattle.cast_rules.specs.State.{State, opening}
use Rattle.cast_rules.specs.Order.{order_told}
use Rattle.cast_rules.specs.Run.{IsRun}

-- an Install waits in the group, and the message is one of the view that it ends that its cut names
abbrev pub covers : MemberSide → Uid → Bool
covers group u = elim group.pending [
  | Some p ↦ (u.view == group.number) && is_among entry_eq (entry_of u) (covered_entries p.cut)
  | None ↦ false
]

-- the kept messages that no waiting Install covers
abbrev pub uncovered_messages : State → List Message
uncovered_messages s = filter (λ m. not (covers (s.group m.id.group) m.id)) s.kept

-- what a domain keeps of messages, where no quota of kept messages was above most: those that no
-- waiting Install covers are at most twice as many. All are of the views that their groups have,
-- and an order has no more places than there are numbers for
pub record IsBounded (most : ℕ) (s : State) : Type 0 where
  pub few : length (uncovered_messages s) ≤ 2 * most
  pub current : (m : Message) → Contains s.kept m → m.id.view ≡ (s.group m.id.group).number
  pub placed : (g : GroupNo) → length (order_told s g) ≤ MAX_POSITION

-- a value of a quota: of that of kept messages it is at most so much
abbrev pub IsHeldAtMost : ℕ → QuotaName → ℕ → Type 0
IsHeldAtMost most Sessions value = Unit {0}
IsHeldAtMost most Held value = value ≤ most
IsHeldAtMost most Outbox value = Unit {0}
IsHeldAtMost most Resend value = Unit {0}

-- an event sets the quota of kept messages to at most so much, where it sets it
abbrev pub SetsAtMost : ℕ → Event → Type 0
SetsAtMost most (event.Open d) = Unit {0}
SetsAtMost most (event.Command d k c) = Unit {0}
SetsAtMost most (event.Gone d k) = Unit {0}
SetsAtMost most (event.Frame d from f) = Unit {0}
SetsAtMost most (event.Suspect d site) = Unit {0}
SetsAtMost most (event.Quota d name value) = IsHeldAtMost most name value
SetsAtMost most (event.Take d k n) = Unit {0}
SetsAtMost most (event.Tick t) = Unit {0}

-- so it is after any events of a domain, with any frames in the name of any site
abbrev pub WhatIsKeptIsBounded : Type 0
WhatIsKeptIsBounded =
    (most : ℕ) (here : SiteNo) (config : DomainConfig) (events : List Event) (answers : List Taken)
    (sent : List (SiteNo × SiteFrame)) (pushed : List (ℕ × Push)) (s : State) →
    config.quotas.held ≤ most → AllByRecursion (SetsAtMost most) events →
    IsRun (opening here config) events answers sent pushed s → IsBounded most s

-- the messages that a waiting Install names in its cut
abbrev pub named_by : GroupNo → MemberSide → List Uid
named_by g group = elim group.pending [
  | Some p ↦ map (uid_in g group.number) (covered_entries p.cut)
  | None ↦ []
]

-- those of all groups
abbrev pub named_in : State → List Uid
named_in s = flat_map (λ g. named_by g (s.group g)) s.config.groups

-- all that a domain keeps of messages, where no quota of kept messages was above most: none of them
-- twice, and at most twice as many beside those that waiting Installs name
pub record IsCounted (most : ℕ) (s : State) : Type 0 where
  pub once : (u : Uid) → length (filter (λ m. uid_eq m.id u) s.kept) ≤ 1
  pub total : length s.kept ≤ 2 * most + length (named_in s)

-- so it is after any events of a domain, with any frames in the name of any site whose parts are as
-- their types say
abbrev pub AllThatIsKeptIsCounted : Type 0
AllThatIsKeptIsCounted =
    (most : ℕ) (here : SiteNo) (config : DomainConfig) (events : List Event) (answers : List Taken)
    (sent : List (SiteNo × SiteFrame)) (pushed : List (ℕ × Push)) (s : State) →
    config.quotas.held ≤ most → AllByRecursion (SetsAtMost most) events →
    AllByRecursion IsTyped events →
    IsRun (opening here config) events answers sent pushed s → IsCounted most s
