-- What holds of every list of steps.
use Rattle.std.specs.Prelude.{◌+◌, ◌++◌, ◌<◌, Contains, IsTrue, List}
use Rattle.std.specs.Prelude.{length, take, ℕ, ◌↔◌, ◌∷◌, ◌≡◌, ◌≤◌, ◌⊎◌}
use Rattle.cast_clock.specs.Times.{at_most, count_in, view_of}
use Rattle.cast_rules.specs.Acts.{Act}
use Rattle.cast_rules.specs.Acts.Act.{Delivered, Entered, Left, Sent}
use Rattle.cast_rules.specs.Noted.{delivered_by}
use Rattle.cast_rules.specs.Rules.Commands.{body_of}
use Rattle.cast_message.specs.Membership.{Membership}
use Rattle.cast_message.specs.Tail.{Tail}
use Rattle.cast_message.specs.declared.client.Push.{Push}
use Rattle.cast_message.specs.declared.message.Message.{Message}
use Rattle.cast_events.specs.declared.config.DomainConfig.{DomainConfig}
use Rattle.cast_types.specs.Counts.{CountList, is_within}
use Rattle.cast_types.specs.Names.{Entry, uid_in}
use Rattle.cast_types.specs.Stamps.{ClockList}
use Rattle.cast_types.specs.declared.names.GroupNo.{GroupNo}
use Rattle.cast_types.specs.declared.names.Proc.{Proc}
use Rattle.cast_types.specs.declared.names.SiteNo.{SiteNo}
use Rattle.cast_types.specs.declared.names.Standing.TheVariants.{Joining, Member}
use Rattle.cast_types.specs.declared.names.Uid.{Uid}
use Rattle.cast_world.specs.Agreement.{HasMember, IsPrefix, IsWithin, Passes, WasInstalled}
use Rattle.cast_world.specs.Agreement.{abcasts_in, abcasts_of_view, delivered_of, of_view, order_at}
use Rattle.cast_world.specs.HappenedBefore.{HappenedBefore, IsDue, NeverLeft, StandsBefore, acts_of}
use Rattle.cast_world.specs.Network.{Happens, Network, Reaches}
use Rattle.cast_world.specs.declared.step.Step.{Step}
use Rattle.cast_message.specs.declared.client.Push.TheVariants as push

-- a time has a later view of a message's group, or its view and a count at least the message's
abbrev pub Covers : ClockList → Uid → Type 0
Covers t u =
    (u.view < view_of t u.group)
    ⊎ ((u.view ≡ view_of t u.group) × (u.count ≤ count_in t u.group u.proc))

-- what a time covers, the later one covers
abbrev pub Below : ClockList → ClockList → Type 0
Below s t = (u : Uid) → Covers s u → Covers t u

-- no process delivers a message before one that happened before it and is due to it
abbrev pub DeliversInOrder : Network → Type 0
DeliversInOrder w =
    (p : Proc) (x m : Message) → Contains (acts_of w p) (Delivered m) → HappenedBefore w x m →
    IsDue (acts_of w p) x.id m →
    StandsBefore (acts_of w p) (Delivered x) (Delivered m)

-- a stamp is at least that of each message that happened before
abbrev pub StampsRise : Network → Type 0
StampsRise w = (x m : Message) → HappenedBefore w x m → IsTrue (at_most x.times m.times)

-- it covers all that an earlier one covers, and the earlier one does not cover the later message
abbrev pub StampsRiseStrictly : Network → Type 0
StampsRiseStrictly w =
    (x m : Message) → HappenedBefore w x m → Below x.times m.times × (Covers x.times m.id → ⊥)

-- no process sends two messages of one name
abbrev pub NamesAreUnique : Network → Type 0
NamesAreUnique w =
    (p : Proc) (x y : Message) → Contains (acts_of w p) (Sent x) → Contains (acts_of w p) (Sent y) →
    x.id ≡ y.id → x ≡ y

-- what a process delivers was sent by its sender
abbrev pub DeliveriesWereSent : Network → Type 0
DeliveriesWereSent w =
    (p : Proc) (m : Message) → Contains (acts_of w p) (Delivered m) →
    Contains (acts_of w m.id.proc) (Sent m)

-- the number of the last view of a group that the home decided
abbrev pub decided_number : Network → GroupNo → SiteNo → ℕ
decided_number w g home = ((w.at home).home g).number

-- a view number in any time was decided at the home before: in those of processes, and in those of
-- messages that were received
abbrev pub ViewsAreDecided : Network → SiteNo → Type 0
ViewsAreDecided w home =
    ((s : SiteNo) (k : ℕ) (g : GroupNo) →
    view_of ((w.at s).process k).time g ≤ decided_number w g home)
    × ((s : SiteNo) (m : Message) (g : GroupNo) → Contains (w.at s).got m →
    view_of m.times g ≤ decided_number w g home)

-- a step that takes in a joining process does so by a view above the one that it had heard of
abbrev pub JoinsGoForward : Network → Network → Type 0
JoinsGoForward w v =
    (s : SiteNo) (k : ℕ) (g : GroupNo) (request heard : ℕ) →
    ((w.at s).process k).standing g ≡ Joining request heard →
    ((v.at s).process k).standing g ≡ Member →
    heard < ((v.at s).group g).number

-- who passes from one view to the next has delivered in it exactly the cut
abbrev pub PassesWithCut : Network → Type 0
PassesWithCut w =
    (p : Proc) (g : GroupNo) (view : ℕ) (before cut : CountList) (a b c : List Act) (e : Entry) →
    acts_of w p ≡ a ++ Entered g view before ∷ b ++ Entered g (view + 1) cut ∷ c → NeverLeft g b →
    ((m : Message) × (m.id ≡ uid_in g view e) × Contains b (Delivered m))
    ↔ ((1 ≤ e.1) × IsTrue (is_within cut e))

-- The laws of views speak of lists: of each process what it delivered, in order

-- who passes from one view to the next delivered the same messages of the first
abbrev pub SameMessages : Network → (Proc → List Uid) → Type 0
SameMessages w delivered =
    (p q : Proc) (g : GroupNo) (view : ℕ) → Passes w p g view → Passes w q g view →
    (u : Uid) →
    Contains (of_view g view (delivered p)) u ↔ Contains (of_view g view (delivered q)) u

-- and its ABCASTs in the same order
abbrev pub SameOrder : Network → (Proc → List Uid) → Type 0
SameOrder w delivered =
    (p q : Proc) (g : GroupNo) (view : ℕ) → Passes w p g view → Passes w q g view →
    abcasts_of_view w g view (delivered p) ≡ abcasts_of_view w g view (delivered q)

-- of two who are within a view one has delivered a prefix of the view's ABCASTs that the other has
-- delivered
abbrev pub OrdersAgree : Network → (Proc → List Uid) → Type 0
OrdersAgree w delivered =
    (p q : Proc) (g : GroupNo) (view : ℕ) → IsWithin w p g view → IsWithin w q g view →
    IsPrefix (abcasts_of_view w g view (delivered p)) (abcasts_of_view w g view (delivered q))
    ⊎ IsPrefix (abcasts_of_view w g view (delivered q)) (abcasts_of_view w g view (delivered p))

-- an Install lists the end of the order of the view before it, from a start on. The places before
-- the start are known, and alike, at each site that has a member in that view
abbrev pub StartsAreKnown : Network → Type 0
StartsAreKnown w =
    (g : GroupNo) (view : ℕ) (members : Membership) (tail : Tail) →
    WasInstalled w g (view + 1) members tail →
    (first : List Entry)
    × (length first ≡ tail.start)
    × ((s : SiteNo) → HasMember w s g view → take tail.start (order_at w s g view) ≡ first)

-- what a process delivered is, in order, what its acts say
abbrev pub ListsAreActs : Network → Type 0
ListsAreActs w = (p : Proc) → delivered_of w p ≡ delivered_by (acts_of w p)

-- and so are the ABCASTs of a view among that
abbrev pub AbcastsAreActs : Network → Type 0
AbcastsAreActs w =
    (p : Proc) (g : GroupNo) (view : ℕ) →
    abcasts_of_view w g view (delivered_of w p) ≡ abcasts_in w p g view

-- what a program is told of its process is what that did: it entered a view, delivered a message,
-- left a group or was put out of it
abbrev pub AgreesWith : List Act → Push → Type 0
AgreesWith acts (push.Opened p) = Unit {0}
AgreesWith acts (push.Reply tag refusal) = Unit {0}
AgreesWith acts (push.View g view members) = (cut : CountList) × Contains acts (Entered g view cut)
AgreesWith acts (push.Deliver u kind payload) =
    (m : Message) × Contains acts (Delivered m) × (m.id ≡ u) × (m.body ≡ body_of kind payload)
AgreesWith acts (push.Ejected g view) = Contains acts (Left g)
AgreesWith acts (push.Denied g refusal) = Unit {0}
AgreesWith acts (push.Closed refusal) = Unit {0}

-- so is all that programs were pushed at the last event of a site
abbrev pub PushesAreActs : Network → Type 0
PushesAreActs w =
    (s : SiteNo) (k : ℕ) (p : Push) → Contains (w.at s).pushes (k, p) →
    AgreesWith ((w.at s).acts k) p

-- an id stands before another in a list
abbrev pub IsBefore : List Uid → Uid → Uid → Type 0
IsBefore ids u v = (a b c : List Uid) × (ids ≡ a ++ u ∷ b ++ v ∷ c)

-- so what happened before a message and is due stands before it in the list of what the process
-- delivered
abbrev pub ListsAreInOrder : Network → (Proc → List Uid) → Type 0
ListsAreInOrder w delivered =
    (p : Proc) (x m : Message) → Contains (acts_of w p) (Delivered m) → HappenedBefore w x m →
    IsDue (acts_of w p) x.id m →
    IsBefore (delivered p) x.id m.id

-- The laws, over every list of steps

abbrev pub HoldsInEveryNetwork : (Network → Type 0) → Type 0
HoldsInEveryNetwork law =
    (sites : List SiteNo) (config : SiteNo → DomainConfig) (steps : List Step) (w : Network) →
    Reaches sites config steps w → law w

abbrev pub CausalDelivery : Type 0
CausalDelivery = HoldsInEveryNetwork DeliversInOrder

abbrev pub AllStampsRise : Type 0
AllStampsRise = HoldsInEveryNetwork StampsRise

abbrev pub AllStampsRiseStrictly : Type 0
AllStampsRiseStrictly = HoldsInEveryNetwork StampsRiseStrictly

abbrev pub AllNamesAreUnique : Type 0
AllNamesAreUnique = HoldsInEveryNetwork NamesAreUnique

abbrev pub AllDeliveriesWereSent : Type 0
AllDeliveriesWereSent = HoldsInEveryNetwork DeliveriesWereSent

abbrev pub AllViewsAreDecided : Type 0
AllViewsAreDecided =
    (sites : List SiteNo) (config : SiteNo → DomainConfig) (steps : List Step) (w : Network)
    (s : SiteNo) →
    Reaches sites config steps w → ViewsAreDecided w (config s).home

abbrev pub AllJoinsGoForward : Type 0
AllJoinsGoForward =
    (sites : List SiteNo) (config : SiteNo → DomainConfig) (steps : List Step) (w v : Network)
    (step : Step) →
    Reaches sites config steps w → Happens w step v → JoinsGoForward w v

abbrev pub AllPassWithCut : Type 0
AllPassWithCut = HoldsInEveryNetwork PassesWithCut

-- of what processes delivered
abbrev pub HoldsOfDeliveries : (Network → (Proc → List Uid) → Type 0) → Type 0
HoldsOfDeliveries law = HoldsInEveryNetwork (λ w. law w (delivered_of w))

abbrev pub AllDeliverTheSame : Type 0
AllDeliverTheSame = HoldsOfDeliveries SameMessages

abbrev pub AllDeliverInOneOrder : Type 0
AllDeliverInOneOrder = HoldsOfDeliveries SameOrder

abbrev pub AllOrdersAgree : Type 0
AllOrdersAgree = HoldsOfDeliveries OrdersAgree

abbrev pub AllStartsAreKnown : Type 0
AllStartsAreKnown = HoldsInEveryNetwork StartsAreKnown

abbrev pub AllListsAreActs : Type 0
AllListsAreActs = HoldsInEveryNetwork ListsAreActs

abbrev pub AllAbcastsAreActs : Type 0
AllAbcastsAreActs = HoldsInEveryNetwork AbcastsAreActs

abbrev pub AllPushesAreActs : Type 0
AllPushesAreActs = HoldsInEveryNetwork PushesAreActs

abbrev pub AllListsAreInOrder : Type 0
AllListsAreInOrder = HoldsOfDeliveries ListsAreInOrder
