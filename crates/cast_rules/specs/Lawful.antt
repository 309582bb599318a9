-- What holds of each history that events lead to.
use Rattle.std.specs.Prelude.{◌≡◌, ℕ, ◌≤◌, ◌⊎◌, Bool, true, false, List}
use Rattle.std.specs.Prelude.{[], ◌∷◌, Contains, Option, Some, None}
use Rattle.std.specs.List.{list_all}
use Rattle.std.specs.FinMap.Entries.{is_sorted}
use Rattle.cast_types.specs.declared.names.GroupNo.{GroupNo}
use Rattle.cast_types.specs.declared.names.Uid.{Uid}
use Rattle.cast_types.specs.Names.{group_cmp, uid_eq}
use Rattle.cast_types.specs.Sets.{is_among}
use Rattle.cast_types.specs.Counts.{is_counts}
use Rattle.cast_types.specs.Stamps.{is_stamp}
use Rattle.cast_clock.specs.Times.{view_of}
use Rattle.cast_message.specs.declared.message.Message.{Message}
use Rattle.cast_message.specs.declared.site.SiteFrame.{SiteFrame}
use Rattle.cast_message.specs.declared.site.SiteFrame.TheVariants as frame
use Rattle.cast_types.specs.Rising.{is_rising}
use Rattle.cast_message.specs.Membership.{is_members}
use Rattle.cast_ready.specs.Ready.{is_member, is_outside, has_delivered}
use Rattle.cast_events.specs.declared.event.Event.{Event}
use Rattle.cast_events.specs.declared.event.Event.TheVariants as event
use Rattle.cast_view.specs.declared.member.Pending.{Pending}
use Rattle.cast_view.specs.MemberSide.{has_view}
use Rattle.cast_rules.specs.Acts.{Act}
use Rattle.cast_rules.specs.Acts.Act.{Sent, Delivered, Entered, Left}
use Rattle.cast_rules.specs.State.{State, was_given, is_group, may_speak}

-- a message of a view that its group has reached; while that is the group's view, each local member
-- has delivered it
pub record IsSpent (s : State) (m : Message) : Type 0 where
  pub reached : m.id.view ≤ (s.group m.id.group).number
  pub delivered : (k : ℕ) → was_given s.used k ≡ true →
      is_member ((s.process k).standing m.id.group) ≡ true →
      m.id.view ≡ (s.group m.id.group).number → has_delivered (s.process k) m.id ≡ true

-- of the messages received these are kept, in order; what was let go is spent
abbrev pub AreKept : (Message → Type 0) → List Message → List Message → Type 0
AreKept spent [] kept = kept ≡ []
AreKept spent (m ∷ got) kept =
    ((rest : List Message) × (kept ≡ m ∷ rest) × AreKept spent got rest)
    ⊎ (spent m × AreKept spent got kept)

-- what a process did, it did with a message of a view that its group has reached
abbrev pub IsOfReached : State → Act → Type 0
IsOfReached s (Sent m) = m.id.view ≤ (s.group m.id.group).number
IsOfReached s (Delivered m) = m.id.view ≤ (s.group m.id.group).number
IsOfReached s (Entered g view cut) = Unit {0}
IsOfReached s (Left g) = Unit {0}

-- messages are of views that their groups have reached, and while that is the group's view, of
-- processes that may speak in it; what processes did, and the ABCASTs that they noted, are of such
-- views too, and they delivered those
pub record IsTraced (s : State) : Type 0 where
  pub reached : (m : Message) → Contains s.got m → m.id.view ≤ (s.group m.id.group).number
  pub spoken : (m : Message) → Contains s.got m → m.id.view ≡ (s.group m.id.group).number →
      may_speak s m.id.group m.id.proc ≡ true
  pub delivered : (k : ℕ) (u : Uid) → is_among uid_eq u (s.abcasts k) ≡ true →
      has_delivered (s.process k) u ≡ true
  pub acted : (k : ℕ) (a : Act) → Contains (s.acts k) a → IsOfReached s a
  pub seen : (k : ℕ) (u : Uid) → is_among uid_eq u (s.abcasts k) ≡ true →
      u.view ≤ (s.group u.group).number

-- an Install that waits has the members of a view, and waits in a group that a flush has frozen
abbrev pub Waits : Bool → Option Pending → Type 0
Waits frozen (Some p) = (frozen ≡ true) × (is_members p.members ≡ true)
Waits frozen None = Unit {0}

-- what holds of each history that events lead to: a member's time is in the view of its group, and
-- the site has that view; groups are those that are configured, each once; and the times of
-- messages are in order
pub record IsLawful (s : State) : Type 0 where
  pub rising : is_rising group_cmp s.config.groups ≡ true
  pub known : (k : ℕ) (g : GroupNo) → is_outside ((s.process k).standing g) ≡ false →
      is_group s g ≡ true
  pub current : (k : ℕ) (g : GroupNo) → is_member ((s.process k).standing g) ≡ true →
      view_of (s.process k).time g ≡ (s.group g).number
  pub listed : (g : GroupNo) → has_view (s.group g) ≡ true → is_group s g ≡ true
  pub viewed : (k : ℕ) (g : GroupNo) → is_member ((s.process k).standing g) ≡ true →
      has_view (s.group g) ≡ true
  pub stamped : (m : Message) → Contains s.got m → is_sorted group_cmp m.times ≡ true
  pub traced : IsTraced s
  pub waiting : (g : GroupNo) → Waits (s.group g).frozen (s.group g).pending
  -- what was let go is of no use any more
  pub spent : AreKept (IsSpent s) s.got s.kept

-- what the types of a frame's parts say
abbrev pub IsTypedFrame : SiteFrame → Type 0
IsTypedFrame (frame.Data m) =
    (is_stamp m.times ≡ true) × (list_all (λ c. is_counts c.1.counts) m.times ≡ true)
IsTypedFrame (frame.Ack u) = Unit {0}
IsTypedFrame (frame.Stable u) = Unit {0}
IsTypedFrame (frame.Ask g number what p) = Unit {0}
IsTypedFrame (frame.Asked g number full) = Unit {0}
IsTypedFrame (frame.Prepare g view) = Unit {0}
IsTypedFrame (frame.Flushed g view counts tail kept) = Unit {0}
IsTypedFrame (frame.Want u) = Unit {0}
IsTypedFrame (frame.Forward m) =
    (is_stamp m.times ≡ true) × (list_all (λ c. is_counts c.1.counts) m.times ≡ true)
IsTypedFrame (frame.Install g view members request cut tail) = is_members members ≡ true
IsTypedFrame (frame.Installed g view) = Unit {0}
IsTypedFrame (frame.Out g view) = Unit {0}

abbrev pub IsTyped : Event → Type 0
IsTyped (event.Open d) = Unit {0}
IsTyped (event.Command d k c) = Unit {0}
IsTyped (event.Gone d k) = Unit {0}
IsTyped (event.Frame d from f) = IsTypedFrame f
IsTyped (event.Suspect d site) = Unit {0}
IsTyped (event.Quota d name value) = Unit {0}
IsTyped (event.Take d k most) = Unit {0}
IsTyped (event.Tick t) = Unit {0}
