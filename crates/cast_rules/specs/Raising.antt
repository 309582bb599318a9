-- A member's count can always be raised, unless it is the last one.
-- A time counts only members of the view, and a view has few.
use Rattle.std.specs.Prelude.{◌≡◌, ℕ, ◌≤◌, ◌<◌, true, false, List, length, Contains, nat_lt, ◌&&◌}
use Rattle.std.specs.List.{list_all, AllByRecursion}
use Rattle.cast_types.specs.declared.names.SiteNo.{SiteNo}
use Rattle.cast_types.specs.declared.names.GroupNo.{GroupNo}
use Rattle.cast_types.specs.declared.names.Proc.{Proc}
use Rattle.cast_types.specs.declared.names.Uid.{Uid}
use Rattle.cast_types.specs.declared.limits.TheConstants.{MAX_NUMBER, MAX_GROUPS, MAX_MEMBERS}
use Rattle.cast_types.specs.Names.{group_eq, group_cmp, proc_eq, proc_cmp}
use Rattle.cast_types.specs.Sets.{is_among}
use Rattle.cast_types.specs.Counts.{CountList}
use Rattle.cast_types.specs.Stamps.{ClockList}
use Rattle.cast_clock.specs.Times.{clock_of, count_in, is_time}
use Rattle.cast_message.specs.declared.message.Message.{Message}
use Rattle.cast_message.specs.declared.site.SiteFrame.{SiteFrame}
use Rattle.cast_message.specs.declared.client.Push.{Push}
use Rattle.cast_types.specs.Rising.{is_rising}
use Rattle.cast_ready.specs.Ready.{is_member, is_outside, has_delivered}
use Rattle.cast_events.specs.declared.config.DomainConfig.{DomainConfig}
use Rattle.cast_events.specs.declared.event.Event.{Event}
use Rattle.cast_events.specs.declared.event.Taken.{Taken}
use Rattle.cast_view.specs.MemberSide.{MemberSide, members_of, has_view}
use Rattle.cast_events.specs.Session.{is_open}
use Rattle.cast_rules.specs.State.{State, opening, local, is_group, was_given}
use Rattle.cast_rules.specs.Rules.Sending.{may_raise}
use Rattle.cast_rules.specs.Step.{act_of_event}
use Rattle.cast_rules.specs.History.{history}
use Rattle.cast_rules.specs.Resting.{resting}
use Rattle.cast_rules.specs.Rules.Flushes.{go_on}
use Rattle.cast_rules.specs.Rules.Home.{start, want_bodies, decide}
use Rattle.cast_rules.specs.Rest.{deliver_first, set_order, let_go}
use Rattle.cast_rules.specs.Run.{before_event, IsRun}
use Rattle.cast_rules.specs.Lawful.{IsLawful, IsTyped}

-- a time of configured groups, each in a view from 1 on
pub record IsTimeOf (groups : List GroupNo) (t : ClockList) : Type 0 where
  pub valid : is_time t ≡ true
  pub named : list_all (λ c. is_among group_eq c.0 groups && nat_lt 0 c.1.view) t ≡ true

-- a message is of a view that its group has reached; while that is the group's view, its process is
-- a member of it
pub record IsFromMember (group : MemberSide) (u : Uid) : Type 0 where
  pub reached : u.view ≤ group.number
  pub member : u.view ≡ group.number → is_among proc_eq u.proc (members_of group) ≡ true

-- a view has a number from 1 on, and at most 64 members, in rising order
pub record IsView (group : MemberSide) : Type 0 where
  pub numbered : has_view group ≡ true → 0 < group.number
  pub rising : is_rising proc_cmp (members_of group) ≡ true
  pub few : length (members_of group) ≤ MAX_MEMBERS

-- a process is a member of the group's view, and counts messages of members alone
pub record IsAmongMembers (group : MemberSide) (p : Proc) (counts : CountList) : Type 0 where
  pub itself : is_among proc_eq p (members_of group) ≡ true
  pub counted : list_all (λ e. is_among proc_eq e.0 (members_of group)) counts ≡ true

-- what holds of each history, beside what is lawful: its groups are at most 32, all times are of
-- these, messages that were received and delivered are from members, and a member counts messages
-- of members alone; and a serial that was not given has no open session, and stands outside each
-- group
pub record CountsMembers (s : State) : Type 0 where
  pub few : length s.config.groups ≤ MAX_GROUPS
  pub times : (k : ℕ) → IsTimeOf s.config.groups (s.process k).time
  pub stamps : (m : Message) → Contains s.got m → IsTimeOf s.config.groups m.times
  pub received : (m : Message) → Contains s.got m → IsFromMember (s.group m.id.group) m.id
  pub delivered : (k : ℕ) (u : Uid) → has_delivered (s.process k) u ≡ true →
      IsFromMember (s.group u.group) u
  pub views : (g : GroupNo) → IsView (s.group g)
  pub members : (k : ℕ) (g : GroupNo) → is_member ((s.process k).standing g) ≡ true →
      IsAmongMembers (s.group g) (local s k) (clock_of (s.process k).time g).counts
  pub placed : (k : ℕ) (g : GroupNo) → is_outside ((s.process k).standing g) ≡ false →
      was_given s.used k ≡ true
  pub opened : (k : ℕ) → is_open (s.session k) ≡ true → was_given s.used k ≡ true

-- each member's count may be raised in its group, unless it is the last one
abbrev pub CanRaise : State → Type 0
CanRaise s = (k : ℕ) (g : GroupNo) → is_member ((s.process k).standing g) ≡ true →
    may_raise (s.process k).time g (local s k)
    ≡ nat_lt (count_in (s.process k).time g (local s k)) MAX_NUMBER

-- the states that a history passes, from the first one on, within its steps and between them
pub data IsPassed (here : SiteNo) (config : DomainConfig) : State → Type 0 where
  opens : IsPassed here config (opening here config)
  begins : (s : State) → IsPassed here config s → IsPassed here config (before_event s)
  acts : (s : State) (e : Event) → IsTyped e → IsPassed here config s →
      IsPassed here config (act_of_event s e)
  lets_go : (s : State) → IsPassed here config s → IsPassed here config (let_go s)
  delivers : (s : State) (k : ℕ) → IsPassed here config s → IsPassed here config (deliver_first k s)
  orders : (s : State) (g : GroupNo) → IsPassed here config s → IsPassed here config (set_order s g)
  goes_on : (s : State) (g : GroupNo) → is_group s g ≡ true → IsPassed here config s →
      IsPassed here config (go_on history resting s g)
  starts : (s : State) (g : GroupNo) → IsPassed here config s →
      IsPassed here config (start history s g)
  wants : (s : State) (g : GroupNo) → IsPassed here config s →
      IsPassed here config (want_bodies history s g)
  decides : (s : State) (g : GroupNo) → IsPassed here config s →
      IsPassed here config (decide history s g)

-- whatever events come to a domain of at most 32 groups, after them each member's count may be
-- raised, unless it is the last one
abbrev pub CountsCanBeRaised : Type 0
CountsCanBeRaised =
    (here : SiteNo) (config : DomainConfig) (events : List Event) (answers : List Taken)
    (sent : List (SiteNo × SiteFrame)) (pushed : List (ℕ × Push)) (s : State) →
    is_rising group_cmp config.groups ≡ true → length config.groups ≤ MAX_GROUPS →
    AllByRecursion IsTyped events →
    IsRun (opening here config) events answers sent pushed s → CanRaise s

-- and so it may in each state that the history passes, as where a cast or a set-order message is to
-- be sent
abbrev pub CountsCanBeRaisedWithin : Type 0
CountsCanBeRaisedWithin =
    (here : SiteNo) (config : DomainConfig) (s : State) →
    is_rising group_cmp config.groups ≡ true → length config.groups ≤ MAX_GROUPS →
    IsPassed here config s → CanRaise s

-- in each of these states members alone are counted: that is why
abbrev pub MembersAreCounted : Type 0
MembersAreCounted =
    (here : SiteNo) (config : DomainConfig) (s : State) →
    is_rising group_cmp config.groups ≡ true → length config.groups ≤ MAX_GROUPS →
    IsPassed here config s → IsLawful s × CountsMembers s

-- what a run leads to is a state that the history passes
abbrev pub RunsArePassed : Type 0
RunsArePassed =
    (here : SiteNo) (config : DomainConfig) (events : List Event) (answers : List Taken)
    (sent : List (SiteNo × SiteFrame)) (pushed : List (ℕ × Push)) (s : State) →
    AllByRecursion IsTyped events → IsRun (opening here config) events answers sent pushed s →
    IsPassed here config s
