-- What holds at every moment of a run, so that the facts do: of one process, of one site, and of what is on the network.
use Rattle.std.specs.Prelude.{◌+◌, ◌<◌, Contains, List, Some, false, true, ℕ, ◌≡◌, ◌≤◌}
use Rattle.cast_clock.specs.Times.{view_of}
use Rattle.cast_ready.specs.Ready.{Process, is_outside}
use Rattle.cast_rules.specs.Acts.{Act}
use Rattle.cast_rules.specs.Acts.Act.{Delivered, Sent}
use Rattle.cast_rules.specs.State.{State}
use Rattle.cast_message.specs.declared.message.Message.{Message}
use Rattle.cast_message.specs.declared.site.SiteFrame.{SiteFrame}
use Rattle.cast_events.specs.Session.{Session, is_open}
use Rattle.cast_events.specs.declared.config.DomainConfig.{DomainConfig}
use Rattle.cast_types.specs.Stamps.{ClockList}
use Rattle.cast_types.specs.declared.names.GroupNo.{GroupNo}
use Rattle.cast_types.specs.declared.names.SiteNo.{SiteNo}
use Rattle.cast_types.specs.declared.names.Standing.{Standing}
use Rattle.cast_types.specs.declared.names.Standing.TheVariants.{Joining, Member}
use Rattle.cast_types.specs.declared.names.Uid.{Uid}
use Rattle.cast_view.specs.Home.{Home, answer_in, answer_of, bodies_of}
use Rattle.cast_view.specs.MemberSide.{MemberSide, has_view}
use Rattle.cast_view.specs.declared.member.PendingRequest.{PendingRequest}
use Rattle.cast_view.specs.declared.member.Pending.{Pending}
use Rattle.cast_view.specs.declared.phase.Decision.{Decision}
use Rattle.cast_view.specs.declared.phase.Phase.TheVariants.{Installing}
use Rattle.cast_world.proofs.Facts.{FitsParts, IsSorted}
use Rattle.cast_message.specs.declared.site.SiteFrame.TheVariants as frame

-- the states of all sites
abbrev pub Sites : Type 0
Sites = SiteNo → State

-- At a site a request was made, and whoever is still joining by it, or by one before it, had heard of a view below this one:
-- so a view that takes in who joins by such a request is new to them
pub record TakesIn (process : ℕ → Process) (group : GroupNo → MemberSide) (g : GroupNo) (request view : ℕ) : Type 0 where
  pub asked : request ≤ (group g).asked
  pub above : (k number heard : ℕ) → (process k).standing g ≡ Joining number heard → number ≤ request → heard < view

-- what others rest on of a site: what its processes did, the home's numbers, its requests. It never goes back
pub record Grows (process new_process : ℕ → Process) (acts new_acts : ℕ → List Act) (group new_group : GroupNo → MemberSide)
    (home new_home : GroupNo → Home) : Type 0 where
  pub did : (k : ℕ) (x : Act) → Contains (acts k) x → Contains (new_acts k) x
  pub decided : (g : GroupNo) → (home g).number ≤ (new_home g).number
  pub asked : (g : GroupNo) → (group g).asked ≤ (new_group g).asked
  pub takes : (g : GroupNo) (request view : ℕ) → TakesIn process group g request view → TakesIn new_process new_group g request view

abbrev pub Later : State → State → Type 0
Later s t = Grows s.process t.process s.acts t.acts s.group t.group s.home t.home

abbrev pub Ahead : Sites → Sites → Type 0
Ahead at next = (s : SiteNo) → Later (at s) (next s)

-- the home has decided this view of the group
abbrev pub IsDecided : Sites → SiteNo → GroupNo → ℕ → Type 0
IsDecided at home g view = view ≤ ((at home).home g).number

abbrev pub WasSent : Sites → Message → Type 0
WasSent at m = Contains ((at m.id.proc.site).acts m.id.proc.serial) (Sent m)

-- a message was sent by its process, each group stands once in its time, and its views were decided
pub record Known (at : Sites) (home : SiteNo) (m : Message) : Type 0 where
  pub sent : WasSent at m
  pub sorted : IsSorted m.times
  pub views : (g : GroupNo) → IsDecided at home g (view_of m.times g)

-- a frame from a site to another says nothing but what is so
abbrev pub IsSound : Sites → SiteNo → SiteNo → SiteNo → SiteFrame → Type 0
IsSound at home from to (frame.Data m) = Known at home m
IsSound at home from to (frame.Ack u) = Unit {0}
IsSound at home from to (frame.Stable u) = Unit {0}
IsSound at home from to (frame.Ask g number what p) = number ≤ ((at from).group g).asked
IsSound at home from to (frame.Asked g number full) = Unit {0}
IsSound at home from to (frame.Prepare g view) = Unit {0}
IsSound at home from to (frame.Flushed g view counts tail kept) = Unit {0}
IsSound at home from to (frame.Want u) = Unit {0}
IsSound at home from to (frame.Forward m) = Known at home m
IsSound at home from to (frame.Install g view members request cut tail) =
    IsDecided at home g view × TakesIn (at to).process (at to).group g request view
IsSound at home from to (frame.Installed g view) = Unit {0}
IsSound at home from to (frame.Out g view) = IsDecided at home g view

-- one process: it fits its acts; it is member of current views and joins groups that are configured; what it knows was decided and sent
pub record OneParts (at : Sites) (home : SiteNo) (here : SiteNo) (used : ℕ) (groups : List GroupNo) (group : GroupNo → MemberSide) (k : ℕ)
    (time : ClockList) (standing : GroupNo → Standing) (delivered : List Uid) (acts : List Act) : Type 0 where
  pub fits : FitsParts (record { site = here; serial = k }) time standing delivered acts
  pub given : (g : GroupNo) → is_outside (standing g) ≡ false → (1 ≤ k) × (k ≤ used) × Contains groups g
  pub member : (g : GroupNo) → standing g ≡ Member → ((group g).number ≡ view_of time g) × (has_view (group g) ≡ true)
  pub sorted : IsSorted time
  pub views : (g : GroupNo) → IsDecided at home g (view_of time g)
  pub heard : (g : GroupNo) (number heard : ℕ) → standing g ≡ Joining number heard → IsDecided at home g heard
  pub done : (m : Message) → Contains acts (Delivered m) → WasSent at m

abbrev pub OneHolds : Sites → SiteNo → SiteNo → ℕ → List GroupNo → (GroupNo → MemberSide) → ℕ → Process → List Act → Type 0
OneHolds at home here used groups group k p acts = OneParts at home here used groups group k p.time p.standing p.delivered acts

-- a group at a site: its number was decided; a pending Install is the next view's
pub record GroupHolds (at : Sites) (home s : SiteNo) (g : GroupNo) (group : MemberSide) : Type 0 where
  pub number : IsDecided at home g group.number
  pub pending : (p : Pending) → group.pending ≡ Some p →
      IsDecided at home g (group.number + 1) × TakesIn (at s).process (at s).group g p.request (group.number + 1)
  pub requests : (a : PendingRequest) → Contains group.requests a → a.number ≤ ((at s).group g).asked

-- a group at the home: requests that were applied were made; Installs may be sent; bodies are messages that were sent
pub record HomeHolds (at : Sites) (home : SiteNo) (g : GroupNo) (h : Home) : Type 0 where
  pub number : IsDecided at home g h.number
  pub applied : (to : SiteNo) → (answer_of h to).number ≤ ((at to).group g).asked
  pub installs : (waiting : List SiteNo) (d : Decision) (bodies : List Message) → h.phase ≡ Installing waiting d bodies → (to : SiteNo) →
      TakesIn (at to).process (at to).group g (answer_in d.answers to).number h.number
  pub bodies : (m : Message) → Contains (bodies_of h.phase) m → Known at home m

-- the parts of a site: its number and its home's, its sessions, its processes, its groups, what it keeps as a home, the messages that it
-- received and keeps, and the frames that it sends
pub record SiteParts (at : Sites) (home s : SiteNo) (here : SiteNo) (config : DomainConfig) (used : ℕ) (session : ℕ → Session)
    (process : ℕ → Process)
    (acts : ℕ → List Act) (group : GroupNo → MemberSide) (home_of : GroupNo → Home) (got kept : List Message)
    (frames : List (SiteNo × SiteFrame)) : Type 0 where
  pub here_is : here ≡ s
  pub home_is : config.home ≡ home
  pub opened : (k : ℕ) → is_open (session k) ≡ true → (1 ≤ k) × (k ≤ used)
  pub ones : (k : ℕ) → OneHolds at home here used config.groups group k (process k) (acts k)
  pub groups : (g : GroupNo) → GroupHolds at home s g (group g)
  pub homes : (g : GroupNo) → HomeHolds at home g (home_of g)
  pub received : (m : Message) → Contains got m → Known at home m
  pub stored : (m : Message) → Contains kept m → Known at home m
  pub sent : (to : SiteNo) (f : SiteFrame) → Contains frames (to, f) → IsSound at home s to f

-- of the parts alone, so that a site may change in others
abbrev pub SiteHolds : Sites → SiteNo → SiteNo → State → Type 0
SiteHolds at home s t = SiteParts at home s t.here t.config t.used t.session t.process t.acts t.group t.home t.got t.kept t.frames
