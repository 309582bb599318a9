-- The moves of a history, each with all that is known when a rule makes it.
-- `FullyKept` lists the moves, and for each what an invariant may suppose of it. `kept_fully` says
-- that what the plain moves keep (`Kept`) is kept by these too, as each of these is a plain move
-- of which more is known. Where a rule makes several moves in turn, what holds between them is
-- `Between` (while a site passes to a view) or `During` (while it takes a message).
use Rattle.std.proofs.Common.{inl, inr}
use Rattle.std.specs.Prelude.{◌+◌, ◌++◌, ◌<◌, Bool, Contains, List, Option, Some, [], false, true, ℕ, ◌∷◌, ◌≡◌, ◌≤◌, ◌⊎◌}
use Rattle.cast_clock.specs.Times.{view_of}
use Rattle.cast_ready.specs.Ready.{is_member, is_outside}
use Rattle.cast_rules.specs.Effects.{delivering, next_message}
use Rattle.cast_rules.specs.Entering.{freezing, passing, pending_install}
use Rattle.cast_rules.specs.History.{history}
use Rattle.cast_rules.specs.Order.{holds, place_to_pass}
use Rattle.cast_rules.specs.Owing.{paying, paying_view}
use Rattle.cast_rules.specs.Reports.{has_delivered_cut, report_in}
use Rattle.cast_rules.specs.Resting.{places_of}
use Rattle.cast_rules.specs.Rules.Asking.{is_home}
use Rattle.cast_rules.specs.Rules.Keys.{id_in, message_key}
use Rattle.cast_rules.specs.Rules.Owing.{wanted_view}
use Rattle.cast_rules.specs.Rules.Room.{may_take}
use Rattle.cast_rules.specs.Rules.Leaving.{close_session, end_session, tell}
use Rattle.cast_rules.specs.Rules.Views.{change_view, no_members}
use Rattle.cast_rules.specs.Rules.Commands.{body_handing}
use Rattle.cast_rules.specs.State.{State, emit, is_ended, is_group, is_received, noting_ack, noting_sent, noting_stable, outside}
use Rattle.cast_rules.specs.State.{receiving, releasing, releasing_ended, set_group, set_home, set_session, set_standing, taking}
use Rattle.cast_rules.specs.State.{with_delivery}
use Rattle.cast_rules.specs.Step.{opening_next}
use Rattle.cast_rules.specs.Turns.{is_ready_for}
use Rattle.cast_message.specs.Bodies.{kind_of}
use Rattle.cast_message.specs.Membership.{Membership}
use Rattle.cast_message.specs.Tail.{Tail}
use Rattle.cast_message.specs.declared.client.Push.{Push}
use Rattle.cast_message.specs.declared.message.Body.{Body}
use Rattle.cast_message.specs.declared.message.Message.{Message}
use Rattle.cast_message.specs.declared.site.Change.{Change}
use Rattle.cast_message.specs.declared.site.SiteFrame.{SiteFrame}
use Rattle.cast_events.specs.Session.{Session, is_open}
use Rattle.cast_quota.specs.declared.quotas.Quotas.{Quotas}
use Rattle.cast_stable.specs.Stable.{Acked}
use Rattle.cast_timer.specs.Owed.{is_of_view, is_owed, key_eq, paid, renew, with_owed}
use Rattle.cast_timer.specs.declared.key.Owed.{Owed}
use Rattle.cast_timer.specs.declared.key.OwedKey.{OwedKey}
use Rattle.cast_timer.specs.declared.key.OwedKind.{OwedKind}
use Rattle.cast_timer.specs.declared.key.Side.{Side}
use Rattle.cast_timer.specs.declared.key.Side.TheVariants as side
use Rattle.cast_types.specs.Counts.{CountList}
use Rattle.cast_types.specs.Names.{is_order, proc_eq, site_eq}
use Rattle.cast_types.specs.Sets.{is_among}
use Rattle.cast_types.specs.declared.names.GroupNo.{GroupNo}
use Rattle.cast_types.specs.declared.names.Proc.{Proc}
use Rattle.cast_types.specs.declared.names.SiteNo.{SiteNo}
use Rattle.cast_types.specs.declared.names.Standing.TheVariants.{Joining}
use Rattle.cast_types.specs.declared.names.Uid.{Uid}
use Rattle.cast_types.specs.declared.refusal.Refusal.{Refusal}
use Rattle.cast_view.specs.Home.{Home, HomeMove, answer_in, apply_move, awaited_of, bodies_of, may_decide, wants_in}
use Rattle.cast_view.specs.Home.HomeMove.{Asked, Brought, Decided, Installed, Reported, Started, Suspected}
use Rattle.cast_view.specs.MemberSide.{MemberSide, has_view, is_pending, members_of, with_answer, with_request}
use Rattle.cast_view.specs.declared.member.PendingRequest.{PendingRequest}
use Rattle.cast_view.specs.declared.member.Pending.{Pending}
use Rattle.cast_view.specs.declared.phase.Decision.{Decision}
use Rattle.cast_view.specs.declared.phase.Phase.TheVariants.{Installing}
use Rattle.cast_world.specs.Bounds.{covers}
use Rattle.cast_world.specs.Laws.{AgreesWith}
use Rattle.cast_message.specs.declared.message.Body.TheVariants as body
use Rattle.cast_timer.specs.declared.key.OwedKind.TheVariants as kinds
use Rattle.cast_message.specs.declared.client.Push.TheVariants as push
use Rattle.cast_message.specs.declared.site.SiteFrame.TheVariants as frame

-- a frame says nothing but what its sender has
abbrev pub Says : State → SiteNo → SiteFrame → Type 0
Says s to (frame.Data m) = Contains s.kept m
Says s to (frame.Ack u) = Unit {0}
Says s to (frame.Stable u) = Unit {0}
Says s to (frame.Ask g number what p) = (a : PendingRequest) × Contains (s.group g).requests a × (a.number ≡ number)
Says s to (frame.Asked g number full) = Unit {0}
Says s to (frame.Prepare g view) = Unit {0}
Says s to (frame.Flushed g view counts tail kept) =
    (view ≡ (s.group g).number) × ((s.group g).frozen ≡ true) × (has_view (s.group g) ≡ true) × (counts ≡ (report_in s g).counts)
Says s to (frame.Want u) = Unit {0}
Says s to (frame.Forward m) = Contains s.kept m ⊎ ((g : GroupNo) × Contains (bodies_of (s.home g).phase) m)
Says s to (frame.Install g view members request cut tail) =
    (waiting : List SiteNo) × (d : Decision) × (bodies : List Message)
    × ((s.home g).phase ≡ Installing waiting d bodies) × (view ≡ (s.home g).number) × (request ≡ (answer_in d.answers to).number)
    × (members ≡ (s.home g).members) × (cut ≡ d.cut)
Says s to (frame.Installed g view) = Unit {0}
Says s to (frame.Out g view) = view ≡ (s.group g).number

-- what a home does without frames it may do at all times; what else it does follows from a frame that came, or is a decision that it may
-- take
abbrev pub MayMove : (SiteNo → SiteFrame → Type 0) → State → GroupNo → HomeMove → Type 0
MayMove Came s g (Asked from number what p) = Came from (frame.Ask g number what p)
MayMove Came s g (Suspected site) = Unit {0}
MayMove Came s g Started = Unit {0}
MayMove Came s g (Reported from view report) = Came from (frame.Flushed g view report.counts report.tail report.kept)
MayMove Came s g (Brought m) = (from : SiteNo) × Came from (frame.Forward m)
MayMove Came s g Decided = (is_home history s ≡ true) × (may_decide g (s.home g) ≡ true)
MayMove Came s g (Installed from view) = Unit {0}

-- what a member may send while no flush has frozen the group: a cast; and a set-order message only where it holds the token of the view. It
-- sets the places after the order known here, or hands the token over, from the place after all that it ordered
pub data MaySend (s : State) (g : GroupNo) (k : ℕ) (content : Body) : Type 0 where
  casts : is_order (kind_of content) ≡ false → (s.group g).frozen ≡ false → MaySend s g k content
  lists : holds s g k ≡ true → (s.group g).frozen ≡ false → content ≡ body.Order (places_of s g k) → MaySend s g k content
  hands : (place : ℕ) (to : Proc) → holds s g k ≡ true → (s.group g).frozen ≡ false → place_to_pass s g k ≡ Some place →
      content ≡ body_handing place to → is_among proc_eq to (members_of (s.group g)) ≡ true → MaySend s g k content

pub sends_unfrozen : (s : State) (g : GroupNo) (k : ℕ) (content : Body) → MaySend s g k content → (s.group g).frozen ≡ false
sends_unfrozen s g k content (casts none open_it) = open_it
sends_unfrozen s g k content (lists held open_it is) = open_it
sends_unfrozen s g k content (hands place to held open_it settled is named_it) = open_it

-- how a site comes to pass to a view: the Install that waited is completed; one comes where the site has no view, or skips a view; or it is
-- told of a view without members here
pub data Comes (Came : SiteNo → SiteFrame → Type 0) (s : State) (g : GroupNo) (skipped : Bool) (n : ℕ) (members : Membership) (request : ℕ)
    (cut : CountList) : Type 0 where
  completes : (p : Pending) → (s.group g).pending ≡ Some p → has_delivered_cut s g p.cut ≡ true → skipped ≡ false →
      n ≡ (s.group g).number + 1 →
      members ≡ p.members → request ≡ p.request → cut ≡ p.cut → Comes Came s g skipped n members request cut
  installs : (from : SiteNo) (tail : Tail) → Came from (frame.Install g n members request cut tail) → has_view (s.group g) ≡ false →
      skipped ≡ false →
      (s.group g).number < n → Comes Came s g skipped n members request cut
  skips : (from : SiteNo) (tail : Tail) → Came from (frame.Install g n members request cut tail) → skipped ≡ true → (s.group g).number < n →
      Comes Came s g skipped n members request cut
  ends : (from : SiteNo) → Came from (frame.Out g n) → skipped ≡ true → (s.group g).number < n → members ≡ no_members →
      Comes Came s g skipped n members request cut

-- what telling programs is made of: bookkeeping, and the requests that follow where a session is closed
pub record KeptByTelling (I : State → Type 0) : Type 0 where
  pub emits : (s : State) (to : SiteNo) (f : SiteFrame) → I s → Says s to f → I (emit s to f)
  pub books : (s : State) (quotas : Quotas) (moment : ℕ) (acks : List Acked) (told : List Uid) (owed : List Owed) (casts : ℕ)
      (pushes : List (ℕ × Push)) → I s →
      I (record s { quotas = quotas; moment = moment; acks = acks; told = told; owed = owed; casts = casts; pushes = pushes })
  pub releases : (s : State) (passes : Uid → Bool) → I s → I (releasing s passes)
  pub sets_session : (s : State) (k : ℕ) (v : Session) → I s → (is_open v ≡ true → is_open (s.session k) ≡ true) → I (set_session s k v)
  pub parts : (s : State) (k : ℕ) (g : GroupNo) → I s → I (outside s k g)
  pub requests : (s : State) (g : GroupNo) (what : Change) (p : Proc) → I s → I (set_group s g (with_request (s.group g) what p))

-- all moves of a site. Came says which frames may come, and from which sites; home_here whether the site is the home
pub record Kept (I : State → Type 0) (Came : SiteNo → SiteFrame → Type 0) (home_here : Bool) : Type 0 where
  pub telling : KeptByTelling I
  pub fixed : (s : State) → I s → is_home history s ≡ home_here
  pub opens : (s : State) → I s → I (opening_next s)
  pub answers : (s : State) (g : GroupNo) → I s → I (set_group s g (with_answer (s.group g)))
  pub joins : (s : State) (k : ℕ) (g : GroupNo) → I s → is_open (s.session k) ≡ true → is_group s g ≡ true →
      is_outside ((s.process k).standing g) ≡ true →
      I (set_standing s k g (Joining ((s.group g).asked + 1) (view_of (s.process k).time g)))
  pub sends : (s : State) (g : GroupNo) (k : ℕ) (content : Body) → I s → is_member ((s.process k).standing g) ≡ true →
      MaySend s g k content →
      I (receiving (noting_sent s k (next_message s g k content)) (next_message s g k content))
  pub receives : (s : State) (from : SiteNo) (m : Message) → I s → Came from (frame.Data m) ⊎ Came from (frame.Forward m) →
      m.id.view ≡ (s.group m.id.group).number → is_among proc_eq m.id.proc (members_of (s.group m.id.group)) ≡ true → I (receiving s m)
  pub delivers : (s : State) (k : ℕ) (m : Message) → I s → Contains s.got m → is_ready_for s k m ≡ true → I (with_delivery s k m)
  pub freezes : (s : State) (g : GroupNo) → I s → has_view (s.group g) ≡ true → I (freezing s g)
  pub pends : (s : State) (from : SiteNo) (g : GroupNo) (p : Pending) (tail : Tail) → I s →
      Came from (frame.Install g ((s.group g).number + 1) p.members p.request p.cut tail) → has_view (s.group g) ≡ true →
      I (pending_install s g p tail)
  pub passes : (s : State) (g : GroupNo) (skipped : Bool) (n : ℕ) (members : Membership) (request : ℕ) (cut : CountList) → I s →
      Comes Came s g skipped n members request cut → I (passing s g skipped n members request cut)
  pub homes : (s : State) (g : GroupNo) (what : HomeMove) → I s → MayMove Came s g what → I (set_home s g (apply_move what (s.home g)))

-- The same moves with all that is known of them: of what is owed, of acknowledgements, of what a report and an Install say, and of what
-- programs are told

-- an Ack that is owed is of a message that was received
abbrev pub OwesOf : State → OwedKey → OwedKind → Type 0
OwesOf s key kinds.Ask = Unit {0}
OwesOf s key kinds.Data = Unit {0}
OwesOf s key kinds.Prepare = Unit {0}
OwesOf s key kinds.Want = Unit {0}
OwesOf s key kinds.Install = Unit {0}
OwesOf s key kinds.Ack = is_received s (id_in (s.group key.group).number key) ≡ true

abbrev pub Owes : State → OwedKey → Type 0
Owes s key = OwesOf s key key.kind

abbrev pub OwedTrue : State → Type 0
OwedTrue s = (o : Owed) → Contains s.owed o → Owes s o.key

-- a Want of a site's own that is owed is of a message that a waiting Install covers
abbrev pub WantsAt : (GroupNo → MemberSide) → OwedKey → Side → Type 0
WantsAt group key side.Site = covers (group key.group) (id_in (group key.group).number key) ≡ true
WantsAt group key side.Home = Unit {0}

abbrev pub WantsOf : (GroupNo → MemberSide) → OwedKey → OwedKind → Type 0
WantsOf group key kinds.Ask = Unit {0}
WantsOf group key kinds.Data = Unit {0}
WantsOf group key kinds.Prepare = Unit {0}
WantsOf group key kinds.Want = WantsAt group key key.side
WantsOf group key kinds.Install = Unit {0}
WantsOf group key kinds.Ack = Unit {0}

abbrev pub Wants : State → OwedKey → Type 0
Wants s key = WantsOf s.group key key.kind

-- one that comes to be owed is of a message that was not received
abbrev pub LacksAt : State → OwedKey → Side → Type 0
LacksAt s key side.Site = is_received s (id_in (s.group key.group).number key) ≡ false
LacksAt s key side.Home = Unit {0}

abbrev pub LacksOf : State → OwedKey → OwedKind → Type 0
LacksOf s key kinds.Ask = Unit {0}
LacksOf s key kinds.Data = Unit {0}
LacksOf s key kinds.Prepare = Unit {0}
LacksOf s key kinds.Want = LacksAt s key key.side
LacksOf s key kinds.Install = Unit {0}
LacksOf s key kinds.Ack = Unit {0}

abbrev pub Lacks : State → OwedKey → Type 0
Lacks s key = LacksOf s key key.kind

-- a frame is owed
abbrev pub IsOwed : State → OwedKey → Type 0
IsOwed s key = (o : Owed) × Contains s.owed o × (o.key ≡ key)

-- what the home comes to owe a site is a Prepare where it awaits the site, and a Want of a message that it wants from it
abbrev pub AwaitedAt : (GroupNo → Home) → OwedKey → Side → Type 0
AwaitedAt home key side.Site = Unit {0}
AwaitedAt home key side.Home =
    Contains (wants_in key.group (home key.group) (home key.group).phase) (key.site, (key.proc, key.count))

abbrev pub AwaitedOf : (GroupNo → Home) → OwedKey → OwedKind → Type 0
AwaitedOf home key kinds.Ask = Unit {0}
AwaitedOf home key kinds.Data = Unit {0}
AwaitedOf home key kinds.Prepare = Contains (awaited_of (home key.group).phase) key.site
AwaitedOf home key kinds.Want = AwaitedAt home key key.side
AwaitedOf home key kinds.Install = Unit {0}
AwaitedOf home key kinds.Ack = Unit {0}

abbrev pub IsAwaited : State → OwedKey → Type 0
IsAwaited s key = AwaitedOf s.home key key.kind

-- a frame is sent that is owed, or that comes to be
abbrev pub IsDue : State → OwedKey → Type 0
IsDue s key = IsOwed s key ⊎ (Wants s key × IsAwaited s key)

-- a process of this site joins a group, or is a member
abbrev pub IsInside : State → GroupNo → Proc → Type 0
IsInside s g p = (p.site ≡ s.here) × (is_outside ((s.process p.serial).standing g) ≡ false)

-- a message of another site may be received: there is room for it, or an Install waits and the home was asked for it
pub data MayReceive (s : State) (m : Message) : Type 0 where
  fits : may_take history s m.body ≡ true → MayReceive s m
  wanted : is_owed s.owed (message_key kinds.Want m.id s.config.home) ≡ true → MayReceive s m

-- it is new here: it was not received, and bears the name of a process of another site; or an Install waits and the home was asked for it
pub data IsNew (s : State) (m : Message) : Type 0 where
  unknown : is_received s m.id ≡ false → site_eq m.id.proc.site s.here ≡ false → IsNew s m
  asked : is_pending (s.group m.id.group) ≡ true → is_owed s.owed (message_key kinds.Want m.id s.config.home) ≡ true → IsNew s m

-- what else a frame says
abbrev pub Adds : State → SiteFrame → Type 0
Adds s (frame.Data m) = Unit {0}
Adds s (frame.Ack u) = is_received s u ≡ true
Adds s (frame.Stable u) = Unit {0}
Adds s (frame.Ask g number what p) = Unit {0}
Adds s (frame.Asked g number full) = Unit {0}
Adds s (frame.Prepare g view) = Unit {0}
Adds s (frame.Flushed g view counts tail kept) =
    (is_pending (s.group g) ≡ false) × (tail ≡ (report_in s g).tail) × (kept ≡ (report_in s g).kept)
Adds s (frame.Want u) = Unit {0}
Adds s (frame.Forward m) = Unit {0}
Adds s (frame.Install g view members request cut tail) =
    (waiting : List SiteNo) × (d : Decision) × (bodies : List Message) × ((s.home g).phase ≡ Installing waiting d bodies) × (tail ≡ d.tail)
Adds s (frame.Installed g view) = Unit {0}
Adds s (frame.Out g view) = Unit {0}

-- where the names and numbers of a frame are from: from what is owed, from a request, or from the frame that it answers
abbrev pub Draws : (SiteNo → SiteFrame → Type 0) → (State → Type 0) → State → SiteFrame → Type 0
Draws Came I s (frame.Data m) = Unit {0}
Draws Came I s (frame.Ack u) = Unit {0}
Draws Came I s (frame.Stable u) = (1 ≤ u.count) × (from : SiteNo) × (n : ℕ) × Came from (frame.Ack (record u { count = n }))
Draws Came I s (frame.Ask g number what p) =
    (a : PendingRequest) × (is_group s g ≡ true) × Contains (s.group g).requests a × (a.number ≡ number) × (a.proc ≡ p)
Draws Came I s (frame.Asked g number full) = (from : SiteNo) × (what : Change) × (p : Proc) × Came from (frame.Ask g number what p)
Draws Came I s (frame.Prepare g view) =
    (key : OwedKey) × (key.kind ≡ kinds.Prepare) × (key.group ≡ g) × (is_group s g ≡ true) × (view ≡ (s.home g).number) × IsDue s key
Draws Came I s (frame.Flushed g view counts tail kept) = Unit {0}
Draws Came I s (frame.Want u) =
    (key : OwedKey) × (key.kind ≡ kinds.Want) × (is_group s key.group ≡ true)
    × (u ≡ id_in (wanted_view history s key.group key.side) key) × IsDue s key
Draws Came I s (frame.Forward m) = Unit {0}
Draws Came I s (frame.Install g view members request cut tail) = is_group s g ≡ true
Draws Came I s (frame.Installed g n) =
    ((t : State) × I t × (skipped : Bool) × (members : Membership) × (request : ℕ) × (cut : CountList)
    × Comes Came t g skipped n members request cut)
    ⊎ ((from : SiteNo) × (members : Membership) × (request : ℕ) × (cut : CountList) × (tail : Tail)
    × Came from (frame.Install g n members request cut tail))
Draws Came I s (frame.Out g view) = (1 ≤ view) × (from : SiteNo) × (m : Message) × Came from (frame.Data m) × (m.id.group ≡ g)

-- whatever else holds
pub draws_less : (Came : SiteNo → SiteFrame → Type 0) (I Less : State → Type 0) → ((s : State) → I s → Less s) →
    (s : State) (f : SiteFrame) → Draws Came I s f → Draws Came Less s f
draws_less Came I Less less s (frame.Data m) draws = tt
draws_less Came I Less less s (frame.Ack u) draws = tt
draws_less Came I Less less s (frame.Stable u) draws = draws
draws_less Came I Less less s (frame.Ask g number what p) draws = draws
draws_less Came I Less less s (frame.Asked g number full) draws = draws
draws_less Came I Less less s (frame.Prepare g view) draws = draws
draws_less Came I Less less s (frame.Flushed g view counts tail kept) draws = tt
draws_less Came I Less less s (frame.Want u) draws = draws
draws_less Came I Less less s (frame.Forward m) draws = tt
draws_less Came I Less less s (frame.Install g view members request cut tail) draws = draws
draws_less Came I Less less s (frame.Installed g n) draws = elim draws [
  | inl (t, i, skipped, members, request, cut, comes) ↦ inl (t, less t i, skipped, members, request, cut, comes)
  | inr again ↦ inr again
]
draws_less Came I Less less s (frame.Out g view) draws = draws

-- whatever frames come
abbrev pub Any : SiteNo → SiteFrame → Type 0
Any from f = Unit {0}

-- what owing frames, asking the home and leaving groups is made of
pub record KeptByOwing (Came : SiteNo → SiteFrame → Type 0) (I : State → Type 0) : Type 0 where
  pub emits : (s : State) (to : SiteNo) (f : SiteFrame) → I s → Says s to f → Adds s f → Draws Came I s f → I (emit s to f)
  pub books : (s : State) (moment casts : ℕ) → I s → I (record s { moment = moment; casts = casts })
  pub owes : (s : State) (key : OwedKey) (due : ℕ) → I s → Owes s key → Wants s key → Lacks s key → IsAwaited s key →
      I (record s { owed = with_owed s.owed key due })
  pub renews : (s : State) (key : OwedKey) (due : ℕ) → I s → Owes s key → IsOwed s key → I (record s { owed = renew s.owed key due })
  pub pays : (s : State) (test : OwedKey → Bool) → I s → I (record s { owed = paid test s.owed })
  pub releases : (s : State) (passes : Uid → Bool) → I s → I (releasing s passes)
  pub parts : (s : State) (k : ℕ) (g : GroupNo) → I s → I (outside s k g)
  pub requests : (s : State) (g : GroupNo) (what : Change) (p : Proc) → I s → IsInside s g p →
      I (set_group s g (with_request (s.group g) what p))

-- what telling programs is made of: that, and entries and sessions, each by itself
pub record FullyKeptByTelling (Came : SiteNo → SiteFrame → Type 0) (I : State → Type 0) : Type 0 where
  pub emits : (s : State) (to : SiteNo) (f : SiteFrame) → I s → Says s to f → Adds s f → Draws Came I s f → I (emit s to f)
  pub books : (s : State) (moment casts : ℕ) → I s → I (record s { moment = moment; casts = casts })
  pub pushes : (s : State) (k : ℕ) (p : Push) → I s → AgreesWith (s.acts k) p → I (record s { pushes = s.pushes ++ (k, p) ∷ [] })
  pub owes : (s : State) (key : OwedKey) (due : ℕ) → I s → Owes s key → Wants s key → Lacks s key → IsAwaited s key →
      I (record s { owed = with_owed s.owed key due })
  pub renews : (s : State) (key : OwedKey) (due : ℕ) → I s → Owes s key → IsOwed s key → I (record s { owed = renew s.owed key due })
  pub pays : (s : State) (test : OwedKey → Bool) → I s → I (record s { owed = paid test s.owed })
  pub releases : (s : State) (passes : Uid → Bool) → I s → I (releasing s passes)
  pub sets_session : (s : State) (k : ℕ) (v : Session) → I s → (is_open v ≡ true → is_open (s.session k) ≡ true) → I (set_session s k v)
  pub parts : (s : State) (k : ℕ) (g : GroupNo) → I s → I (outside s k g)
  pub requests : (s : State) (g : GroupNo) (what : Change) (p : Proc) → I s → IsInside s g p →
      I (set_group s g (with_request (s.group g) what p))

pub owing_of : {Came : SiteNo → SiteFrame → Type 0} (I : State → Type 0) → FullyKeptByTelling Came I → KeptByOwing Came I
owing_of I k = record {
  emits = k.emits;
  books = k.books;
  owes = k.owes;
  renews = k.renews;
  pays = k.pays;
  releases = k.releases;
  parts = k.parts;
  requests = k.requests;
}

-- Acks that are owed may be sent again, whether they are true or not
abbrev pub AcksFreely : (State → Type 0) → Type 0
AcksFreely I =
    ((s : State) (key : OwedKey) → I s → IsOwed s key → key.kind ≡ kinds.Ack → is_group s key.group ≡ true →
    I (emit s key.site (frame.Ack (id_in (s.group key.group).number key))))
    × ((s : State) (key : OwedKey) (due : ℕ) → I s → IsOwed s key → I (record s { owed = renew s.owed key due }))

-- where a site passes to a view, Between holds of the group until nothing is owed for the view before it; where it receives a message,
-- During holds of its id until it is wanted no more. Casting says whether programs cast
pub record FullyKept (I : State → Type 0) (Between : GroupNo → State → Type 0) (During : Uid → State → Type 0)
    (Came : SiteNo → SiteFrame → Type 0) (home_here casting : Bool) : Type 0 where
  pub telling : FullyKeptByTelling Came I
  pub between : (g : GroupNo) → FullyKeptByTelling Came (Between g)
  pub during : (u : Uid) → FullyKeptByTelling Came (During u)
  pub truly : ((s : State) → I s → OwedTrue s) ⊎ AcksFreely I
  pub fixed : (s : State) → I s → is_home history s ≡ home_here
  pub opens : (s : State) → I s → I (opening_next s)
  pub answers : (s : State) (g : GroupNo) → I s → I (set_group s g (with_answer (s.group g)))
  pub joins : (s : State) (k : ℕ) (g : GroupNo) → I s → is_open (s.session k) ≡ true → is_group s g ≡ true →
      is_outside ((s.process k).standing g) ≡ true →
      I (set_standing s k g (Joining ((s.group g).asked + 1) (view_of (s.process k).time g)))
  pub sends : (s : State) (g : GroupNo) (k : ℕ) (content : Body) → I s → is_member ((s.process k).standing g) ≡ true →
      MaySend s g k content → may_take history s content ≡ true →
      (s.group g).frozen ≡ false → (is_order (kind_of content) ≡ false → casting ≡ true) →
      I (receiving (noting_sent s k (next_message s g k content)) (next_message s g k content))
  pub receives : (s : State) (from : SiteNo) (m : Message) → I s → Came from (frame.Data m) ⊎ Came from (frame.Forward m) →
      m.id.view ≡ (s.group m.id.group).number → is_among proc_eq m.id.proc (members_of (s.group m.id.group)) ≡ true → MayReceive s m →
      IsNew s m → During m.id (receiving s m)
  pub received : (s : State) (u : Uid) → During u s → I (paying s (message_key kinds.Want u s.config.home))
  pub acknowledged : (s : State) (from : SiteNo) (u : Uid) → I s → Came from (frame.Ack u) → I (noting_ack s from u)
  pub learns : (s : State) (from : SiteNo) (u : Uid) → I s → Came from (frame.Stable u) → I (noting_stable s u)
  pub delivers : (s : State) (k : ℕ) (m : Message) → I s → Contains s.got m → is_ready_for s k m ≡ true → I (with_delivery s k m)
  pub freezes : (s : State) (g : GroupNo) → I s → has_view (s.group g) ≡ true → I (freezing s g)
  pub pends : (s : State) (from : SiteNo) (g : GroupNo) (p : Pending) (tail : Tail) → I s →
      Came from (frame.Install g ((s.group g).number + 1) p.members p.request p.cut tail) → has_view (s.group g) ≡ true →
      is_pending (s.group g) ≡ false →
      is_group s g ≡ true → I (pending_install s g p tail)
  pub passes : (s : State) (g : GroupNo) (skipped : Bool) (n : ℕ) (members : Membership) (request : ℕ) (cut : CountList) → I s →
      Comes Came s g skipped n members request cut → Between g (passing s g skipped n members request cut)
  pub ends : (s : State) (g : GroupNo) → Between g s → I (paying_view (releasing_ended s g) g)
  pub homes : (s : State) (g : GroupNo) (what : HomeMove) → I s → MayMove Came s g what → I (set_home s g (apply_move what (s.home g)))

-- The same moves where telling programs is a part of the move: what a process does and what its program is told of it is one move, and so
-- is the end of a session with all that the process leaves
pub record WhollyKept (I : State → Type 0) (During : Uid → State → Type 0) (Came : SiteNo → SiteFrame → Type 0)
    (home_here casting : Bool) : Type 0 where
  pub owing : KeptByOwing Came I
  pub during : (u : Uid) → KeptByOwing Came (During u)
  pub truly : ((s : State) → I s → OwedTrue s) ⊎ AcksFreely I
  pub fixed : (s : State) → I s → is_home history s ≡ home_here
  pub opens : (s : State) → I s → I (opening_next s)
  pub takes : (s : State) (k most : ℕ) → I s → I (taking s k most)
  pub replies : (s : State) (k tag : ℕ) (refusal : Option Refusal) → I s → I (tell history s k (push.Reply tag refusal))
  pub denies : (s : State) (k : ℕ) (g : GroupNo) (refusal : Refusal) → I s → I (tell history s k (push.Denied g refusal))
  pub closes : (s : State) (k : ℕ) (refusal : Refusal) → I s → is_open (s.session k) ≡ true → I (close_session history s k refusal)
  pub goes : (s : State) (k : ℕ) → I s → I (end_session history s k)
  pub answers : (s : State) (g : GroupNo) → I s → I (set_group s g (with_answer (s.group g)))
  pub joins : (s : State) (k : ℕ) (g : GroupNo) → I s → is_open (s.session k) ≡ true → is_group s g ≡ true →
      is_outside ((s.process k).standing g) ≡ true →
      I (set_standing s k g (Joining ((s.group g).asked + 1) (view_of (s.process k).time g)))
  pub sends : (s : State) (g : GroupNo) (k : ℕ) (content : Body) → I s → is_member ((s.process k).standing g) ≡ true →
      MaySend s g k content → may_take history s content ≡ true →
      (s.group g).frozen ≡ false → (is_order (kind_of content) ≡ false → casting ≡ true) →
      I (receiving (noting_sent s k (next_message s g k content)) (next_message s g k content))
  pub receives : (s : State) (from : SiteNo) (m : Message) → I s → Came from (frame.Data m) ⊎ Came from (frame.Forward m) →
      m.id.view ≡ (s.group m.id.group).number → is_among proc_eq m.id.proc (members_of (s.group m.id.group)) ≡ true → MayReceive s m →
      IsNew s m → During m.id (receiving s m)
  pub received : (s : State) (u : Uid) → During u s → I (paying s (message_key kinds.Want u s.config.home))
  pub acknowledged : (s : State) (from : SiteNo) (u : Uid) → I s → Came from (frame.Ack u) → I (noting_ack s from u)
  pub learns : (s : State) (from : SiteNo) (u : Uid) → I s → Came from (frame.Stable u) → I (noting_stable s u)
  pub delivers : (s : State) (k : ℕ) (m : Message) → I s → Contains s.got m → is_ready_for s k m ≡ true → I (delivering s k m)
  pub freezes : (s : State) (g : GroupNo) → I s → has_view (s.group g) ≡ true → I (freezing s g)
  pub pends : (s : State) (from : SiteNo) (g : GroupNo) (p : Pending) (tail : Tail) → I s →
      Came from (frame.Install g ((s.group g).number + 1) p.members p.request p.cut tail) → has_view (s.group g) ≡ true →
      is_pending (s.group g) ≡ false →
      is_group s g ≡ true → I (pending_install s g p tail)
  pub enters : (s : State) (g : GroupNo) (skipped : Bool) (n : ℕ) (members : Membership) (request : ℕ) (cut : CountList) → I s →
      Comes Came s g skipped n members request cut → I (change_view history skipped s g n members request cut)
  pub homes : (s : State) (g : GroupNo) (what : HomeMove) → I s → MayMove Came s g what → I (set_home s g (apply_move what (s.home g)))

-- what is kept by the moves above is kept by these
module _ (I : State → Type 0) (Came : SiteNo → SiteFrame → Type 0) (home_here : Bool) (k : Kept I Came home_here) where
  full_telling : FullyKeptByTelling Came I
  full_telling = record {
    emits = λ s to f i says adds draws. k.telling.emits s to f i says;
    books = λ s moment casts i. k.telling.books s s.quotas moment s.acks s.told s.owed casts s.pushes i;
    pushes = λ s n p i agrees. k.telling.books s s.quotas s.moment s.acks s.told s.owed s.casts (s.pushes ++ (n, p) ∷ []) i;
    owes = λ s key due i owes wants lacks awaited.
        k.telling.books s s.quotas s.moment s.acks s.told (with_owed s.owed key due) s.casts s.pushes i;
    renews = λ s key due i owes owed. k.telling.books s s.quotas s.moment s.acks s.told (renew s.owed key due) s.casts s.pushes i;
    pays = λ s test i. k.telling.books s s.quotas s.moment s.acks s.told (paid test s.owed) s.casts s.pushes i;
    releases = k.telling.releases;
    sets_session = k.telling.sets_session;
    parts = k.telling.parts;
    requests = λ s g what p i inside. k.telling.requests s g what p i;
  }

  pub kept_fully : FullyKept I (λ g. I) (λ u. I) Came home_here true
  kept_fully = record {
    telling = full_telling;
    between = λ g. full_telling;
    during = λ u. full_telling;
    truly = inr (
      (λ s key i owed is known. k.telling.emits s key.site (frame.Ack (id_in (s.group key.group).number key)) i tt),
      λ s key due i owed. k.telling.books s s.quotas s.moment s.acks s.told (renew s.owed key due) s.casts s.pushes i,
    );
    fixed = k.fixed;
    opens = k.opens;
    answers = k.answers;
    joins = k.joins;
    sends = λ s g n content i member may room open_it asked_for. k.sends s g n content i member may;
    receives = λ s from m i came view member may new. k.receives s from m i came view member;
    received = λ s u i. full_telling.pays s (key_eq (message_key kinds.Want u s.config.home)) i;
    acknowledged = λ s from u i came. k.telling.books s s.quotas s.moment (s.acks ++ (from, u) ∷ []) s.told s.owed s.casts s.pushes i;
    learns = λ s from u i came. k.telling.books s s.quotas s.moment s.acks (s.told ++ u ∷ []) s.owed s.casts s.pushes i;
    delivers = k.delivers;
    freezes = k.freezes;
    pends = λ s from g p tail i came has waits known. k.pends s from g p tail i came has;
    passes = k.passes;
    ends = λ s g i.
        let less : State = releasing_ended s g in
        k.telling.books less less.quotas less.moment less.acks less.told (paid (is_of_view g) less.owed)
        less.casts less.pushes (k.telling.releases s (is_ended s g) i);
    homes = k.homes;
  }
