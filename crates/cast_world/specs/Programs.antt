-- What programs are told of their processes: it is what these did, and the laws hold of it.
use Rattle.std.specs.List.{flat_map}
use Rattle.std.specs.Prelude.{◌≡◌, ◌++◌, ◌⊎◌, Contains, ℕ, true, false, List, [], ◌∷◌}
use Rattle.cast_types.specs.declared.names.GroupNo.{GroupNo}
use Rattle.cast_types.specs.declared.names.Proc.{Proc}
use Rattle.cast_types.specs.declared.names.SiteNo.{SiteNo}
use Rattle.cast_types.specs.declared.names.Uid.{Uid}
use Rattle.cast_types.specs.declared.refusal.Refusal.{Refusal}
use Rattle.cast_types.specs.declared.refusal.Refusal.TheVariants.{Slow}
use Rattle.cast_message.specs.Membership.{Membership}
use Rattle.cast_message.specs.Tail.{Tail}
use Rattle.cast_message.specs.declared.client.CastKind.{CastKind}
use Rattle.cast_message.specs.declared.client.CastKind.TheVariants as kind
use Rattle.cast_message.specs.declared.client.Push.{Push}
use Rattle.cast_message.specs.declared.client.Push.TheVariants as push
use Rattle.cast_message.specs.declared.message.Body.{Body}
use Rattle.cast_message.specs.declared.message.Body.TheVariants as body
use Rattle.cast_message.specs.declared.message.Message.{Message}
use Rattle.cast_events.specs.Session.{is_open}
use Rattle.cast_events.specs.declared.config.DomainConfig.{DomainConfig}
use Rattle.cast_rules.specs.Acts.{Act}
use Rattle.cast_rules.specs.Acts.Act.{Sent, Delivered, Entered, Left}
use Rattle.cast_rules.specs.Rules.Commands.{body_of}
use Rattle.cast_rules.specs.State.{was_given}
use Rattle.cast_world.specs.Agreement.{WasInstalled}
use Rattle.cast_world.specs.HappenedBefore.{HappenedBefore, IsDue, StandsBefore, acts_of}
use Rattle.cast_world.specs.Laws.{OrdersAgree, SameMessages, SameOrder}
use Rattle.cast_world.specs.Network.{Network}
use Rattle.cast_world.specs.Properties.{EntersNone, HasEachOnce, HasRisingViews, IsIn}
use Rattle.cast_world.specs.Properties.{KeepsCausalOrder, KeepsSendingOrder}
use Rattle.cast_world.specs.Pushed.{HoldsOfPushes, ReachesTelling, Tells}
use Rattle.cast_world.specs.declared.step.Step.{Step}

-- What there is to tell, and what is told

-- of what a process does a program is told this: a cast was delivered, or a view was entered
pub data News : Type 0 where
  Cast : (id : Uid) (kind : CastKind) (payload : List ℕ) → News
  View : (group : GroupNo) (view : ℕ) → News

-- of a message that is delivered: of a cast what it holds, of a set-order message nothing
abbrev pub news_of : Uid → Body → List News
news_of id (body.Causal payload) = Cast id kind.Causal payload ∷ []
news_of id (body.Atomic payload) = Cast id kind.Atomic payload ∷ []
news_of id (body.Order sequence) = []

-- what there is to tell of an act
abbrev pub news_by : Act → List News
news_by (Sent m) = []
news_by (Delivered m) = news_of m.id m.body
news_by (Entered g view cut) = View g view ∷ []
news_by (Left g) = []

-- what an entry that is pushed tells of it
abbrev pub news_in : Push → List News
news_in (push.Opened p) = []
news_in (push.Reply tag refusal) = []
news_in (push.View g view members) = View g view ∷ []
news_in (push.Deliver u kind payload) = Cast u kind payload ∷ []
news_in (push.Ejected g view) = []
news_in (push.Denied g refusal) = []
news_in (push.Closed refusal) = []

-- all that there is to tell of these acts, in order
abbrev pub all_done : List Act → List News
all_done acts = flat_map news_by acts

-- all that these entries tell, in order
abbrev pub all_told : List Push → List News
all_told entries = flat_map news_in entries

-- the ids of the casts among it
abbrev pub id_of : News → List Uid
id_of (Cast id kind payload) = id ∷ []
id_of (View g view) = []

abbrev pub casts_in : List Push → List Uid
casts_in entries = flat_map id_of (all_told entries)

-- Programs are told what their processes did

-- all of it, in order, and nothing else; or all but the last of it, where the program is told that
-- it was too slow
abbrev pub AreTold : Network → (Proc → List Push) → Type 0
AreTold w pushed =
    (p : Proc) →
    (all_told (pushed p) ≡ all_done (acts_of w p))
    ⊎ ((last : News) × (all_told (pushed p) ++ last ∷ [] ≡ all_done (acts_of w p))
    × Contains (pushed p) (push.Closed Slow))

-- all of it while the session is open
abbrev pub OpenAreTold : Network → (Proc → List Push) → Type 0
OpenAreTold w pushed =
    (p : Proc) → is_open ((w.at p.site).session p.serial) ≡ true →
    all_told (pushed p) ≡ all_done (acts_of w p)

-- the last entry is the one that closes the session, and the session is not open then
abbrev pub ClosedIsLast : Network → (Proc → List Push) → Type 0
ClosedIsLast w pushed =
    (p : Proc) (refusal : Refusal) (a b : List Push) → pushed p ≡ a ++ push.Closed refusal ∷ b →
    (b ≡ []) × (is_open ((w.at p.site).session p.serial) ≡ true → ⊥)

-- a process is in views only while its session is open
abbrev pub InsideAreOpen : Network → Type 0
InsideAreOpen w =
    (p : Proc) (g : GroupNo) (view : ℕ) → IsIn (acts_of w p) g view →
    is_open ((w.at p.site).session p.serial) ≡ true

-- a session is over: it was opened, and is open no more
abbrev pub IsOver : Network → Proc → Type 0
IsOver w p =
    (was_given (w.at p.site).used p.serial ≡ true)
    × (is_open ((w.at p.site).session p.serial) ≡ false)

-- Views that programs are told

-- a view that a program is told has the members of an Install of it that was sent, and the process
-- is one of them
abbrev pub ShowInstalled : Network → (Proc → List Push) → Type 0
ShowInstalled w pushed =
    (p : Proc) (g : GroupNo) (view : ℕ) (members : Membership) →
    Contains (pushed p) (push.View g view members) →
    (tail : Tail) × WasInstalled w g view members tail × Contains members.list p

-- all programs are told one membership of a view
abbrev pub ShowOneMembership : Network → (Proc → List Push) → Type 0
ShowOneMembership w pushed =
    (p q : Proc) (g : GroupNo) (view : ℕ) (members others : Membership) →
    Contains (pushed p) (push.View g view members) →
    Contains (pushed q) (push.View g view others) → members ≡ others

-- the last view of a group in these entries
abbrev pub IsLastView : List Push → GroupNo → ℕ → Type 0
IsLastView entries g view =
    (a b : List Push) × (members : Membership) × (entries ≡ a ++ push.View g view members ∷ b)
    × EntersNone push.View g b

-- sending view delivery: a program is told a cast in the view that the cast names, which is the
-- last one that it was told of the group; and there the sender sent it
abbrev pub ToldInSendingView : Network → (Proc → List Push) → Type 0
ToldInSendingView w pushed =
    (p : Proc) (u : Uid) (kind : CastKind) (payload : List ℕ) (a b : List Push) →
    pushed p ≡ a ++ push.Deliver u kind payload ∷ b →
    IsLastView a u.group u.view
    × ((m : Message) × (c d : List Act) × (m.id ≡ u) × (m.body ≡ body_of kind payload)
    × (acts_of w u.proc ≡ c ++ Sent m ∷ d) × IsIn c u.group u.view)

-- a message is a cast, and no set-order message
abbrev pub IsCast : Message → Type 0
IsCast m = (kind : CastKind) × (payload : List ℕ) × (m.body ≡ body_of kind payload)

-- no program is told a cast before one that happened before it and is due to its process
abbrev pub ToldWhenDue : Network → (Proc → List Uid) → Type 0
ToldWhenDue w told =
    (p : Proc) (x m : Message) → Contains (told p) m.id → HappenedBefore w x m → IsCast x →
    IsDue (acts_of w p) x.id m → StandsBefore (told p) x.id m.id

-- The laws, over every list of steps

abbrev pub AllAreTold : Type 0
AllAreTold = HoldsOfPushes AreTold

abbrev pub AllOpenAreTold : Type 0
AllOpenAreTold = HoldsOfPushes OpenAreTold

abbrev pub AllClosedAreLast : Type 0
AllClosedAreLast = HoldsOfPushes ClosedIsLast

abbrev pub AllInsideAreOpen : Type 0
AllInsideAreOpen = HoldsOfPushes (λ w pushed. InsideAreOpen w)

-- once a session is over, its process does nothing more, and its program is told nothing more
abbrev pub NothingFollows : Type 0
NothingFollows =
    (sites : List SiteNo) (config : SiteNo → DomainConfig) (steps more : List Step)
    (pushed later : Proc → List Push) (w v : Network) (p : Proc) →
    ReachesTelling sites config steps pushed w → Tells w more later v → IsOver w p →
    (acts_of v p ≡ acts_of w p) × (later p ≡ [])

abbrev pub AllShowInstalled : Type 0
AllShowInstalled = HoldsOfPushes ShowInstalled

abbrev pub AllShowOneMembership : Type 0
AllShowOneMembership = HoldsOfPushes ShowOneMembership

abbrev pub AllShowRisingViews : Type 0
AllShowRisingViews = HoldsOfPushes (λ w pushed. HasRisingViews push.View pushed)

abbrev pub AllToldInSendingView : Type 0
AllToldInSendingView = HoldsOfPushes ToldInSendingView

-- of the casts that programs are told
abbrev pub HoldsOfCasts : (Network → (Proc → List Uid) → Type 0) → Type 0
HoldsOfCasts law = HoldsOfPushes (λ w pushed. law w (λ p. casts_in (pushed p)))

abbrev pub AllToldCausally : Type 0
AllToldCausally = HoldsOfCasts (KeepsCausalOrder (λ m. m.id))

abbrev pub AllToldWhenDue : Type 0
AllToldWhenDue = HoldsOfCasts ToldWhenDue

abbrev pub AllToldFirstInFirstOut : Type 0
AllToldFirstInFirstOut = HoldsOfCasts (KeepsSendingOrder (λ m. m.id))

abbrev pub AllToldOnce : Type 0
AllToldOnce = HoldsOfCasts (λ w told. HasEachOnce (λ m. m.id) told)

abbrev pub AllToldTheSame : Type 0
AllToldTheSame = HoldsOfCasts SameMessages

abbrev pub AllToldInOneOrder : Type 0
AllToldInOneOrder = HoldsOfCasts SameOrder

abbrev pub AllOrdersToldAgree : Type 0
AllOrdersToldAgree = HoldsOfCasts OrdersAgree
