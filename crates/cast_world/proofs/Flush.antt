-- What holds at every moment of a run of flushes, so that who passes to the next view sent and delivered nothing beyond its cut.
use Rattle.std.specs.Prelude.{◌+◌, ◌<◌, Contains, IsTrue, List, Some, true, ℕ, ◌≡◌, ◌≤◌, ◌⊎◌}
use Rattle.cast_ready.specs.Ready.{Process}
use Rattle.cast_flush.specs.declared.report.Report.{Report}
use Rattle.cast_rules.specs.Acts.{Act}
use Rattle.cast_rules.specs.Acts.Act.{Delivered, Entered, Left, Sent}
use Rattle.cast_rules.specs.State.{State}
use Rattle.cast_message.specs.Membership.{Membership}
use Rattle.cast_message.specs.declared.message.Message.{Message}
use Rattle.cast_message.specs.declared.site.SiteFrame.{SiteFrame}
use Rattle.cast_types.specs.Counts.{CountList, count_of, is_within}
use Rattle.cast_types.specs.Names.{Entry, entry_of}
use Rattle.cast_types.specs.declared.names.GroupNo.{GroupNo}
use Rattle.cast_types.specs.declared.names.Proc.{Proc}
use Rattle.cast_types.specs.declared.names.SiteNo.{SiteNo}
use Rattle.cast_types.specs.declared.names.Standing.{Standing}
use Rattle.cast_types.specs.declared.names.Standing.TheVariants.{Member}
use Rattle.cast_types.specs.declared.names.Uid.{Uid}
use Rattle.cast_view.specs.Home.{Home}
use Rattle.cast_view.specs.MemberSide.{MemberSide, has_view, members_of}
use Rattle.cast_view.specs.declared.member.Pending.{Pending}
use Rattle.cast_view.specs.declared.phase.Decision.{Decision}
use Rattle.cast_view.specs.declared.phase.Phase.TheVariants.{Installing}
use Rattle.cast_world.proofs.Facts.{Each, HasDone, IsCounted}
use Rattle.cast_world.proofs.Homes.{Awaits, reports_of}
use Rattle.cast_world.proofs.Invariants.{Sites}
use Rattle.cast_world.specs.Properties.{IsIn}
use Rattle.cast_message.specs.declared.site.SiteFrame.TheVariants as frame

-- what the home decided with a view: its members, and the cut of the view that it ended
pub record Chosen : Type 0 where
  pub members : Membership
  pub cut : CountList

-- of each group and view. It is a ghost: no state has it. Above the home's number it says nothing
abbrev pub Choice : Type 0
Choice = GroupNo → ℕ → Chosen

abbrev pub numbers : Sites → SiteNo → GroupNo → ℕ
numbers at home g = ((at home).home g).number

-- a view's member
abbrev pub IsChosen : Choice → GroupNo → ℕ → Proc → Type 0
IsChosen choice g view p = Contains (choice g view).members.list p

-- A site has told the home these counts of a view: it is frozen while that view stands, all of the view that its processes sent is within
-- the counts, and all that they delivered is, or is within the cut that was decided since
pub record HasTold (choice : Choice) (number : GroupNo → ℕ) (group : GroupNo → MemberSide) (acts : ℕ → List Act) (g : GroupNo) (view : ℕ)
    (counts : CountList) : Type 0 where
  pub reached : view ≤ (group g).number
  pub frozen : (group g).number ≡ view → (group g).frozen ≡ true
  pub within : (k : ℕ) (m : Message) → Contains (acts k) (Delivered m) → m.id.group ≡ g → m.id.view ≡ view →
      (m.id.count ≤ count_of counts m.id.proc) ⊎ ((view < number g) × IsTrue (is_within (choice g (view + 1)).cut (entry_of m.id)))
  pub sent : (k : ℕ) (m : Message) → Contains (acts k) (Sent m) → m.id.group ≡ g → m.id.view ≡ view → m.id.count ≤ count_of counts m.id.proc

abbrev pub Told : Choice → (GroupNo → ℕ) → State → GroupNo → ℕ → CountList → Type 0
Told choice number t g view counts = HasTold choice number t.group t.acts g view counts

-- a message of a decided view, by a member of it
abbrev pub IsMembers : Choice → (GroupNo → ℕ) → Uid → Type 0
IsMembers choice number u = (u.view ≤ number u.group) × IsChosen choice u.group u.view u.proc

-- an Install says what was decided, and a Flushed what its site keeps to
abbrev pub IsTrueOf : Choice → (GroupNo → ℕ) → Sites → SiteNo → SiteFrame → Type 0
IsTrueOf choice number at from (frame.Data m) = Unit {0}
IsTrueOf choice number at from (frame.Ack u) = Unit {0}
IsTrueOf choice number at from (frame.Stable u) = Unit {0}
IsTrueOf choice number at from (frame.Ask g n what p) = Unit {0}
IsTrueOf choice number at from (frame.Asked g n full) = Unit {0}
IsTrueOf choice number at from (frame.Prepare g view) = Unit {0}
IsTrueOf choice number at from (frame.Flushed g view counts tail kept) = Told choice number (at from) g view counts
IsTrueOf choice number at from (frame.Want u) = Unit {0}
IsTrueOf choice number at from (frame.Forward m) = Unit {0}
IsTrueOf choice number at from (frame.Install g view members request cut tail) =
    (members ≡ (choice g view).members) × (cut ≡ (choice g view).cut)
IsTrueOf choice number at from (frame.Installed g view) = Unit {0}
IsTrueOf choice number at from (frame.Out g view) = Unit {0}

-- a group at a site has what was decided, and is frozen only while it has a view
pub record GroupAgrees (choice : Choice) (g : GroupNo) (group : MemberSide) : Type 0 where
  pub view : (m : Membership) → group.view ≡ Some m → m ≡ (choice g group.number).members
  pub pending : (p : Pending) → group.pending ≡ Some p →
      (p.members ≡ (choice g (group.number + 1)).members) × (p.cut ≡ (choice g (group.number + 1)).cut)
  pub frozen : group.frozen ≡ true → has_view group ≡ true

-- after these acts a process enters a view with nothing sent or delivered beyond the cut
abbrev pub CutWell : List Act → Act → Type 0
CutWell a (Sent m) = Unit {0}
CutWell a (Delivered m) = Unit {0}
CutWell a (Entered g n cut) =
    (view : ℕ) (m : Message) → IsIn a g view → HasDone a m → m.id.group ≡ g → m.id.view ≡ view →
    IsTrue (is_within cut (entry_of m.id))
CutWell a (Left g) = Unit {0}

pub record OneAgrees (choice : Choice) (number : GroupNo → ℕ) (here : SiteNo) (used : ℕ) (group : GroupNo → MemberSide) (k : ℕ)
    (standing : GroupNo → Standing) (delivered : List Uid) (acts : List Act) : Type 0 where
  pub listed : (g : GroupNo) → standing g ≡ Member → Contains (members_of (group g)) (record { site = here; serial = k })
  pub has : (m : Message) → Contains acts (Delivered m) → Contains delivered m.id
  pub given : (m : Message) → Contains acts (Delivered m) → (1 ≤ k) × (k ≤ used)
  pub sender : (m : Message) → Contains acts (Delivered m) → IsMembers choice number m.id
  pub entered : (g : GroupNo) (n : ℕ) (cut : CountList) → Contains acts (Entered g n cut) → (n ≤ number g) × (cut ≡ (choice g n).cut)
  pub cuts : Each CutWell acts

-- a home's members and decision are those that were chosen, it awaits whom it must, and its reports were told
pub record HomeAgrees (choice : Choice) (number : GroupNo → ℕ) (at : Sites) (g : GroupNo) (h : Home) : Type 0 where
  pub members : h.members ≡ (choice g h.number).members
  pub decision : (waiting : List SiteNo) (d : Decision) (bodies : List Message) → h.phase ≡ Installing waiting d bodies →
      d.cut ≡ (choice g h.number).cut
  pub awaits : Awaits h
  pub reports : (s : SiteNo) (r : Report) → Contains (reports_of h.phase) (s, r) → Told choice number (at s) g h.number r.counts

-- the parts of a site, each of the fields that it reads
pub record AgreeParts (choice : Choice) (number : GroupNo → ℕ) (at : Sites) (s : SiteNo) (here : SiteNo) (used : ℕ) (process : ℕ → Process)
    (acts : ℕ → List Act)
    (group : GroupNo → MemberSide) (home_of : GroupNo → Home) (got : List Message) (frames : List (SiteNo × SiteFrame)) : Type 0 where
  pub groups : (g : GroupNo) → GroupAgrees choice g (group g)
  pub ones : (k : ℕ) → OneAgrees choice number here used group k (process k).standing (process k).delivered (acts k)
  pub homes : (g : GroupNo) → HomeAgrees choice number at g (home_of g)
  pub received : (m : Message) → Contains got m → IsMembers choice number m.id
  pub own : (k : ℕ) (m : Message) → Contains (acts k) (Sent m) → Contains got m
  pub sent : (to : SiteNo) (f : SiteFrame) → Contains frames (to, f) → IsTrueOf choice number at s f

abbrev pub SiteAgrees : Choice → (GroupNo → ℕ) → Sites → SiteNo → State → Type 0
SiteAgrees choice number at s t = AgreeParts choice number at s t.here t.used t.process t.acts t.group t.home t.got t.frames

-- the site of each member that stays from a decided view to the next had told its counts, and the cut is no less
abbrev pub Covered : Choice → (GroupNo → ℕ) → Sites → GroupNo → ℕ → Type 0
Covered choice number at g view =
    (p : Proc) → IsChosen choice g view p → IsChosen choice g (view + 1) p →
    (counts : CountList) × Told choice number (at p.site) g view counts
    × ((e : Entry) → IsCounted e → IsChosen choice g view e.0 → e.1 ≤ count_of counts e.0 → IsTrue (is_within (choice g (view + 1)).cut e))

-- all that holds of flushes, at the states of all sites
abbrev pub AllCovered : Choice → (GroupNo → ℕ) → Sites → Type 0
AllCovered choice number at = (g : GroupNo) (view : ℕ) → view < number g → Covered choice number at g view
