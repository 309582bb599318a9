-- The order of a view's ABCASTs, at every moment. It is one list: a member has delivered a prefix of it, and who tells it has delivered all
-- of it. Who has the token of the view tells it: first the process that the Install named, and then each to which the token was handed
-- over.
use Rattle.std.specs.Prelude.{◌+◌, ◌++◌, ◌<◌, Contains, List, None, Option, Some, [], false}
use Rattle.std.specs.Prelude.{filter, is_some, length, map, true, unwrap_or, ℕ, ◌∷◌, ◌≡◌, ◌≤◌, ◌⊎◌}
use Rattle.cast_ready.specs.Ready.{Process}
use Rattle.cast_rules.specs.Acts.{Act}
use Rattle.cast_rules.specs.Acts.Act.{Delivered, Sent}
use Rattle.cast_rules.specs.Noted.{abcasts_by}
use Rattle.cast_rules.specs.Order.{last_place, told_by}
use Rattle.cast_rules.specs.Rules.Commands.{body_handing}
use Rattle.cast_rules.specs.State.{State}
use Rattle.cast_message.specs.Bodies.{kind_of, new_holder}
use Rattle.cast_message.specs.declared.message.Message.{Message}
use Rattle.cast_types.specs.Names.{Entry, entry_of, is_atomic, uid_in}
use Rattle.cast_types.specs.declared.limits.TheConstants.{MAX_POSITION}
use Rattle.cast_types.specs.declared.names.GroupNo.{GroupNo}
use Rattle.cast_types.specs.declared.names.Proc.{Proc}
use Rattle.cast_types.specs.declared.names.SiteNo.{SiteNo}
use Rattle.cast_types.specs.declared.names.Standing.{Standing}
use Rattle.cast_types.specs.declared.names.Standing.TheVariants.{Member}
use Rattle.cast_types.specs.declared.names.Uid.{Uid}
use Rattle.cast_view.specs.MemberSide.{MemberSide, is_pending}
use Rattle.cast_world.proofs.Facts.{HasDone}
use Rattle.cast_world.proofs.Flush.{Choice}
use Rattle.cast_world.proofs.Invariants.{Sites, WasSent}
use Rattle.cast_world.proofs.Tokens.{HandOvers, HasToken, tells, token_in}
use Rattle.cast_world.specs.Agreement.{IsPrefix, is_in}
use Rattle.cast_world.specs.Laws.{Covers}

-- no element stands twice
abbrev pub Apart : {X : Type 0} → List X → Type 0
Apart [] = Unit {0}
Apart (x ∷ xs) = (Contains xs x → ⊥) × Apart xs

-- a fact stands in an order at its place
abbrev pub Stands : List Entry → ℕ × Entry → Type 0
Stands order f = (a c : List Entry) × (order ≡ a ++ f.1 ∷ c) × (f.0 ≡ length a + 1)

-- the order of each view so far: the ids that were told. It is a ghost: no state has it
abbrev pub Orders : Type 0
Orders = GroupNo → ℕ → List Entry

-- the ABCASTs of a view among those that a process delivered
abbrev pub done_in : GroupNo → ℕ → List Uid → List Entry
done_in g view abcasts = map entry_of (filter (is_in g view) abcasts)

-- a process has told each place of an order from a first one on, in messages that were received here
abbrev pub HasTold : List Entry → ℕ → GroupNo → ℕ → Proc → List Message → Type 0
HasTold order first g view p got =
    (a c : List Entry) (e : Entry) → order ≡ a ++ e ∷ c → first ≤ length a + 1 →
    (m : Message) × Contains got m × (is_in g view m.id ≡ true) × (m.id.proc ≡ p) × Contains (told_by m.body) (length a + 1, e)

-- each of the first places of an order was told in some message that was received here
abbrev pub KnowsFirst : List Message → GroupNo → ℕ → List Entry → ℕ → Type 0
KnowsFirst got g view order few =
    (a c : List Entry) (e : Entry) → order ≡ a ++ e ∷ c → length a < few →
    (m : Message) × Contains got m × (is_in g view m.id ≡ true) × Contains (told_by m.body) (length a + 1, e)

-- a process follows an order: it has delivered a prefix of it, and each place of this prefix was told here
pub record Follows (order : List Entry) (g : GroupNo) (view : ℕ) (abcasts : List Uid) (got : List Message) : Type 0 where
  pub begins : IsPrefix (done_in g view abcasts) order
  pub known : KnowsFirst got g view order (length (done_in g view abcasts))

-- a process leads an order: it has delivered all of it before anything else, and each place of it was told here, from its first one on by
-- itself; and there are places for all that it delivered
pub record Leads (order : List Entry) (first : ℕ) (g : GroupNo) (view : ℕ) (p : Proc) (abcasts : List Uid)
    (got : List Message) : Type 0 where
  pub all : IsPrefix order (done_in g view abcasts)
  pub known : KnowsFirst got g view order (length order)
  pub told : HasTold order first g view p got
  pub low : first ≤ length order + 1
  pub places : length (done_in g view abcasts) ≤ MAX_POSITION

-- a member without the token of its view follows the order; who has the token leads it, also once it has left
pub record OneOrdered (standing : Standing) (token : Option ℕ) (order : List Entry) (g : GroupNo) (view : ℕ) (p : Proc) (abcasts : List Uid)
    (got : List Message) : Type 0 where
  pub follows : standing ≡ Member → is_some token ≡ false → Follows order g view abcasts got
  pub leads : is_some token ≡ true → Leads order (unwrap_or token 1) g view p abcasts got

-- the parts of a site: what its processes delivered is noted, no ABCAST twice; a group in which an Install waits is frozen; nothing was
-- delivered or sent of a view later than the site's; who tells an order has the token of the view; and processes fit the orders of the
-- groups in which no Install waits
pub record OrderParts (order : Orders) (handed : HandOvers) (here : SiteNo) (process : ℕ → Process) (acts : ℕ → List Act)
    (abcasts : ℕ → List Uid) (group : GroupNo → MemberSide)
    (got : List Message) : Type 0 where
  pub listed : (k : ℕ) → abcasts k ≡ abcasts_by (acts k)
  pub once : (k : ℕ) → Apart (abcasts k)
  pub frozen : (g : GroupNo) → is_pending (group g) ≡ true → (group g).frozen ≡ true
  pub low : (k : ℕ) (u : Uid) → Contains (abcasts k) u → u.view ≤ (group u.group).number
  pub low_done : (k : ℕ) (m : Message) → HasDone (acts k) m → m.id.view ≤ (group m.id.group).number
  pub tokens : (g : GroupNo) (k : ℕ) → tells here (group g) g (acts k) k ≡ true →
      HasToken (handed g (group g).number) (group g) (record { site = here; serial = k }) (acts k)
      (unwrap_or (token_in here (group g) g (acts k) k) 1)
  pub ones : (g : GroupNo) (k : ℕ) → is_pending (group g) ≡ false →
      OneOrdered ((process k).standing g) (token_in here (group g) g (acts k) k) (order g (group g).number)
      g (group g).number (record { site = here; serial = k }) (abcasts k) got

abbrev pub SiteOrdered : Orders → HandOvers → State → Type 0
SiteOrdered order handed t = OrderParts order handed t.here t.process t.acts t.abcasts t.group t.got

-- the process that a view named to tell its order first has sent something in it
pub record Begun (choice : Choice) (number : GroupNo → ℕ) (at : Sites) (g : GroupNo) (view : ℕ) : Type 0 where
  pub holder : Proc
  pub message : Message
  pub decided : view ≤ number g
  pub chosen : (choice g view).members.holder ≡ Some holder
  pub sent : WasSent at message
  pub own : message.id.proc ≡ holder
  pub in_view : is_in g view message.id ≡ true

-- the last hand-over of a view was sent. Until the process that it names delivers it, the order ends before its place, and it comes after
-- all of the order
pub record LastHolds (at : Sites) (g : GroupNo) (view : ℕ) (order : List Entry) (m : Message) : Type 0 where
  pub place : ℕ
  pub to : Proc
  pub is : m.body ≡ body_handing place to
  pub sent : WasSent at m
  pub in_view : is_in g view m.id ≡ true
  pub taken : Contains ((at to.site).acts to.serial) (Delivered m)
      ⊎ ((place ≡ length order + 1) × ((e : Entry) → Contains order e → Covers m.times (uid_in g view e)))

-- an order has no id twice, each id is of an ABCAST that was sent, and there is none, and no hand-over, until the process that was named to
-- tell it first has sent in the view
pub record OrderHolds (choice : Choice) (number : GroupNo → ℕ) (at : Sites) (g : GroupNo) (view : ℕ) (order : List Entry)
    (handed : Option Message) : Type 0 where
  pub apart : Apart order
  pub few : length order ≤ MAX_POSITION
  pub atomic : (e : Entry) → Contains order e →
      (m : Message) × WasSent at m × (m.id ≡ uid_in g view e) × (is_atomic (kind_of m.body) ≡ true)
  pub begun : ((order ≡ []) × (handed ≡ None)) ⊎ Begun choice number at g view
  pub last : (m : Message) → handed ≡ Some m → LastHolds at g view order m

-- the process that has the token of a view, or will have it once it delivers the last hand-over
abbrev pub token_at : Choice → HandOvers → GroupNo → ℕ → Option Proc
token_at choice handed g view = elim (handed g view) [ Some m ↦ new_holder m.body | None ↦ (choice g view).members.holder ]

-- all that holds of orders, at all sites: whatever a message tells stands in the order of its view, it sets no place past that, and each
-- hand-over is the last one of its view or was delivered by the process that it names
pub record AllOrdered (choice : Choice) (number : GroupNo → ℕ) (at : Sites) (order : Orders) (handed : HandOvers) : Type 0 where
  pub sites : (s : SiteNo) → SiteOrdered order handed (at s)
  pub told : (s : SiteNo) (k : ℕ) (m : Message) (f : ℕ × Entry) → Contains ((at s).acts k) (Sent m) → Contains (told_by m.body) f →
      Stands (order m.id.group m.id.view) f
  pub placed : (s : SiteNo) (k : ℕ) (m : Message) → Contains ((at s).acts k) (Sent m) →
      last_place m.body ≤ length (order m.id.group m.id.view)
  pub hands : (s : SiteNo) (k : ℕ) (m : Message) (to : Proc) → Contains ((at s).acts k) (Sent m) → new_holder m.body ≡ Some to →
      (handed m.id.group m.id.view ≡ Some m) ⊎ Contains ((at to.site).acts to.serial) (Delivered m)
  pub orders : (g : GroupNo) (view : ℕ) → OrderHolds choice number at g view (order g view) (handed g view)
