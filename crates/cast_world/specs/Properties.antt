-- The properties of group communication by their usual names, each said of what processes did.
-- Where a property is said of what programs are told too, it is a property of lists: of each
-- process a list of what it did, or of what its program is told.
use Rattle.std.specs.Prelude.{◌+◌, ◌++◌, ◌<◌, Contains, List, Some, true, ℕ, ◌∷◌, ◌≡◌, ◌⊎◌}
use Rattle.cast_rules.specs.Acts.{Act}
use Rattle.cast_rules.specs.Acts.Act.{Delivered, Entered, Sent}
use Rattle.cast_rules.specs.Order.{holds}
use Rattle.cast_message.specs.Bodies.{hands_over, new_holder}
use Rattle.cast_message.specs.Membership.{Membership}
use Rattle.cast_message.specs.Tail.{Tail}
use Rattle.cast_message.specs.declared.message.Message.{Message}
use Rattle.cast_types.specs.Counts.{CountList}
use Rattle.cast_types.specs.declared.names.GroupNo.{GroupNo}
use Rattle.cast_types.specs.declared.names.Proc.{Proc}
use Rattle.cast_world.specs.Agreement.{WasInstalled}
use Rattle.cast_world.specs.HappenedBefore.{HappenedBefore, NeverLeft, StandsBefore, acts_of}
use Rattle.cast_world.specs.Laws.{HoldsInEveryNetwork}
use Rattle.cast_world.specs.Network.{Network}

-- In which view a process is

-- no view of the group was entered in this list, whose items say so: enters g n x is one of them
abbrev pub EntersNone : {A X : Type 0} → (GroupNo → ℕ → X → A) → GroupNo → List A → Type 0
EntersNone {A} {X} enters g listed = (n : ℕ) (x : X) → Contains listed (enters g n x) → ⊥

-- it entered no view of the group in these acts
abbrev pub NeverEntered : GroupNo → List Act → Type 0
NeverEntered = EntersNone Entered

-- after these acts it is a member, in this view of the group: it entered the view, and has neither
-- left the group nor entered another view of it since
abbrev pub IsIn : List Act → GroupNo → ℕ → Type 0
IsIn acts g view =
    (a b : List Act) × (cut : CountList) × (acts ≡ a ++ Entered g view cut ∷ b)
    × NeverLeft g b × NeverEntered g b

-- Deliveries

-- of what was delivered, in order: item m says that the message m was. What happened before a
-- message stands before it
abbrev pub KeepsCausalOrder : {A : Type 0} → (Message → A) → Network → (Proc → List A) → Type 0
KeepsCausalOrder item w listed =
    (p : Proc) (x m : Message) → Contains (listed p) (item x) → Contains (listed p) (item m) →
    HappenedBefore w x m → StandsBefore (listed p) (item x) (item m)

-- two messages of one sender stand in the order in which they were sent
abbrev pub KeepsSendingOrder : {A : Type 0} → (Message → A) → Network → (Proc → List A) → Type 0
KeepsSendingOrder item w listed =
    (p q : Proc) (x m : Message) → Contains (listed p) (item x) → Contains (listed p) (item m) →
    StandsBefore (acts_of w q) (Sent x) (Sent m) → StandsBefore (listed p) (item x) (item m)

-- no two messages of one id stand there, and none twice
abbrev pub HasEachOnce : {A : Type 0} → (Message → A) → (Proc → List A) → Type 0
HasEachOnce item listed =
    (p : Proc) (x m : Message) → StandsBefore (listed p) (item x) (item m) → x.id ≡ m.id → ⊥

-- causal delivery: who delivers a message and one that happened before it delivers that one first
abbrev pub DeliversCausally : Network → Type 0
DeliversCausally w = KeepsCausalOrder Delivered w (acts_of w)

-- FIFO delivery: who delivers two messages of one sender delivers them in the order in which they
-- were sent
abbrev pub DeliversFirstInFirstOut : Network → Type 0
DeliversFirstInFirstOut w = KeepsSendingOrder Delivered w (acts_of w)

-- no duplication: no process delivers two messages of one id, nor one twice
abbrev pub DeliversOnce : Network → Type 0
DeliversOnce w = HasEachOnce Delivered (acts_of w)

-- self delivery: who passes from a view to the next has delivered, in between, all that it sent in
-- that view
abbrev pub DeliversOwn : Network → Type 0
DeliversOwn w =
    (p : Proc) (g : GroupNo) (view : ℕ) (before cut : CountList) (a b c : List Act) (m : Message) →
    acts_of w p ≡ a ++ Entered g view before ∷ b ++ Entered g (view + 1) cut ∷ c → NeverLeft g b →
    Contains (acts_of w p) (Sent m) → m.id.group ≡ g → m.id.view ≡ view → Contains b (Delivered m)

-- Views of messages

-- who sends a message is then in the view that the message names
abbrev pub SendsInView : Network → Type 0
SendsInView w =
    (p : Proc) (m : Message) (a b : List Act) → acts_of w p ≡ a ++ Sent m ∷ b →
    IsIn a m.id.group m.id.view

-- and so is who delivers it
abbrev pub DeliversInView : Network → Type 0
DeliversInView w =
    (p : Proc) (m : Message) (a b : List Act) → acts_of w p ≡ a ++ Delivered m ∷ b →
    IsIn a m.id.group m.id.view

-- sending view delivery: what is delivered in a view was sent by its sender in that view
abbrev pub DeliversInSendingView : Network → Type 0
DeliversInSendingView w =
    (p : Proc) (m : Message) (view : ℕ) (a b : List Act) → acts_of w p ≡ a ++ Delivered m ∷ b →
    IsIn a m.id.group view →
    (c d : List Act) × (acts_of w m.id.proc ≡ c ++ Sent m ∷ d) × IsIn c m.id.group view

-- Views of processes

-- of views that were entered, in order: enters g n x says that view n of the group g was. They rise
abbrev pub HasRisingViews : {A X : Type 0} → (GroupNo → ℕ → X → A) → (Proc → List A) → Type 0
HasRisingViews {A} {X} enters listed =
    (p : Proc) (g : GroupNo) (view next : ℕ) (one other : X) →
    StandsBefore (listed p) (enters g view one) (enters g next other) → view < next

-- local monotonicity: the views of a group that a process enters rise
abbrev pub ViewsRise : Network → Type 0
ViewsRise w = HasRisingViews Entered (acts_of w)

-- self inclusion: who enters a view does so by an Install of the view that was sent, and that names
-- the process as a member
abbrev pub EntersByInstall : Network → Type 0
EntersByInstall w =
    (p : Proc) (g : GroupNo) (view : ℕ) (cut : CountList) →
    Contains (acts_of w p) (Entered g view cut) →
    (members : Membership) × (tail : Tail) × WasInstalled w g view members tail
    × Contains members.list p

-- and so does each Install of the view
abbrev pub EntersAsMember : Network → Type 0
EntersAsMember w =
    (p : Proc) (g : GroupNo) (view : ℕ) (cut : CountList) (members : Membership) (tail : Tail) →
    Contains (acts_of w p) (Entered g view cut) → WasInstalled w g view members tail →
    Contains members.list p

-- all Installs of a view name the same members, and the same holder
abbrev pub InstallsAgree : Network → Type 0
InstallsAgree w =
    (g : GroupNo) (view : ℕ) (members others : Membership) (tail other : Tail) →
    WasInstalled w g view members tail → WasInstalled w g view others other → members ≡ others

-- The token of a view

-- these acts hand the token of a view over to nobody
abbrev pub HandsOverNone : GroupNo → ℕ → List Act → Type 0
HandsOverNone g view acts =
    (m : Message) → Contains acts (Sent m) → m.id.group ≡ g → m.id.view ≡ view →
    hands_over m.body ≡ true → ⊥

-- a process holds the token of a view, whatever view its site has by now: an Install of the view
-- named it as the first to hold the token, or it delivered a message of the view that hands the
-- token over to it; and since then it has handed the token over to nobody
abbrev pub HoldsToken : Network → Proc → GroupNo → ℕ → Type 0
HoldsToken w p g view =
    ((members : Membership) × (tail : Tail) × WasInstalled w g view members tail
    × (members.holder ≡ Some p) × HandsOverNone g view (acts_of w p))
    ⊎ ((m : Message) × (a b : List Act) × (acts_of w p ≡ a ++ Delivered m ∷ b) × (m.id.group ≡ g)
    × (m.id.view ≡ view) × (new_holder m.body ≡ Some p) × HandsOverNone g view b)

-- mutual exclusion: two processes that hold the token of a view are one
abbrev pub AtMostOneHoldsToken : Network → Type 0
AtMostOneHoldsToken w =
    (p q : Proc) (g : GroupNo) (view : ℕ) → HoldsToken w p g view → HoldsToken w q g view → p ≡ q

-- who has the token by the rules, so that it may order ABCASTs and hand the token over, holds the
-- token of the view that its site has
abbrev pub HoldersHoldToken : Network → Type 0
HoldersHoldToken w =
    (p : Proc) (g : GroupNo) → holds (w.at p.site) g p.serial ≡ true →
    HoldsToken w p g ((w.at p.site).group g).number

-- The laws, over every list of steps

abbrev pub AllDeliverCausally : Type 0
AllDeliverCausally = HoldsInEveryNetwork DeliversCausally

abbrev pub AllDeliverFirstInFirstOut : Type 0
AllDeliverFirstInFirstOut = HoldsInEveryNetwork DeliversFirstInFirstOut

abbrev pub AllDeliverOnce : Type 0
AllDeliverOnce = HoldsInEveryNetwork DeliversOnce

abbrev pub AllDeliverOwn : Type 0
AllDeliverOwn = HoldsInEveryNetwork DeliversOwn

abbrev pub AllSendInView : Type 0
AllSendInView = HoldsInEveryNetwork SendsInView

abbrev pub AllDeliverInView : Type 0
AllDeliverInView = HoldsInEveryNetwork DeliversInView

abbrev pub AllDeliverInSendingView : Type 0
AllDeliverInSendingView = HoldsInEveryNetwork DeliversInSendingView

abbrev pub AllViewsRise : Type 0
AllViewsRise = HoldsInEveryNetwork ViewsRise

abbrev pub AllEnterByInstalls : Type 0
AllEnterByInstalls = HoldsInEveryNetwork EntersByInstall

abbrev pub AllEnterAsMembers : Type 0
AllEnterAsMembers = HoldsInEveryNetwork EntersAsMember

abbrev pub AllInstallsAgree : Type 0
AllInstallsAgree = HoldsInEveryNetwork InstallsAgree

abbrev pub AllTokensAreHeldOnce : Type 0
AllTokensAreHeldOnce = HoldsInEveryNetwork AtMostOneHoldsToken

abbrev pub AllHoldersHoldTokens : Type 0
AllHoldersHoldTokens = HoldsInEveryNetwork HoldersHoldToken
