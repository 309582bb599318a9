-- The laws, written out for two processes or more. A definition cannot come to say less without one of these failing.
use Rattle.std.proofs.Common.{ap, inl, inr}
use Rattle.std.specs.Prelude.{◌+◌, ◌++◌, ◌<◌, Contains, List, Some, [], false, true, ℕ, ◌∷◌, ◌≡◌, ◌⊎◌}
use Rattle.cast_rules.specs.Acts.{Act}
use Rattle.cast_rules.specs.Acts.Act.{Delivered, Entered, Left, Sent}
use Rattle.cast_rules.specs.Refusing.{attempt}
use Rattle.cast_rules.specs.Run.{IsStep, before_event}
use Rattle.cast_rules.specs.State.{State, is_filled}
use Rattle.cast_events.specs.Session.{is_open}
use Rattle.cast_events.specs.declared.config.DomainConfig.{DomainConfig}
use Rattle.cast_events.specs.declared.event.Event.{Event}
use Rattle.cast_events.specs.declared.event.Event.TheVariants as event
use Rattle.cast_events.specs.declared.event.Taken.{Taken}
use Rattle.cast_events.specs.declared.event.Taken.TheVariants.{Refused}
use Rattle.cast_message.specs.Membership.{Membership}
use Rattle.cast_message.specs.Replies.{reply_to}
use Rattle.cast_message.specs.Tail.{Tail}
use Rattle.cast_message.specs.declared.client.Command.TheVariants as command
use Rattle.cast_message.specs.declared.client.Request.{Request}
use Rattle.cast_message.specs.declared.message.Message.{Message}
use Rattle.cast_types.specs.Counts.{CountList}
use Rattle.cast_types.specs.declared.names.DomainNo.{DomainNo}
use Rattle.cast_types.specs.declared.names.GroupNo.{GroupNo}
use Rattle.cast_types.specs.declared.names.Proc.{Proc}
use Rattle.cast_types.specs.declared.refusal.Refusal.{Refusal}
use Rattle.cast_types.specs.declared.names.SiteNo.{SiteNo}
use Rattle.cast_types.specs.declared.names.Uid.{Uid}
use Rattle.cast_world.proofs.ClosingRuns.{same_order}
use Rattle.cast_world.proofs.OrderRuns.{orders_agree}
use Rattle.cast_world.proofs.Properties.{deliver_causally, deliver_first_in_first_out, deliver_once, enter_as_members, views_rise}
use Rattle.cast_world.proofs.Refused.{all_refused_leave, all_refused_reply}
use Rattle.cast_world.proofs.Same.{same_messages}
use Rattle.cast_world.specs.Agreement.{IsWithin, WasInstalled, abcasts_of_view, delivered_of, of_view}
use Rattle.cast_world.specs.HappenedBefore.HappenedBefore.{edge, path}
use Rattle.cast_world.specs.HappenedBefore.{acts_of}
use Rattle.cast_world.specs.Network.{Network, Reaches}
use Rattle.cast_world.specs.declared.step.Step.{Step}

-- one act stands before another
abbrev InOrder : Act → Act → List Act → Type 0
InOrder x y acts = (a b c : List Act) × (acts ≡ a ++ x ∷ b ++ y ∷ c)

-- a process enters a view and later the next, and does not leave the group in between
abbrev GoesOnFrom : GroupNo → ℕ → List Act → Type 0
GoesOnFrom g view acts =
    (before cut : CountList) × (a b c : List Act)
    × (acts ≡ a ++ Entered g view before ∷ b ++ Entered g (view + 1) cut ∷ c) × (Contains b (Left g) → ⊥)

module _ (sites : List SiteNo) (config : SiteNo → DomainConfig) (steps : List Step) (w : Network) (r : Reaches sites config steps w) where
  abbrev did : Proc → List Act
  did p = acts_of w p

  -- the sender of m had delivered x before it sent m: then another that delivers both delivers x first
  delivered_first : (p q : Proc) (x m : Message) → m.id.proc ≡ q → InOrder (Delivered x) (Sent m) (did m.id.proc) →
      Contains (did p) (Delivered x) → Contains (did p) (Delivered m) → InOrder (Delivered x) (Delivered m) (did p)
  delivered_first p q x m from before had has = deliver_causally sites config steps w r p x m had has (edge (inr before))

  -- the sender of m had sent x before
  sent_first : (p : Proc) (x m : Message) → InOrder (Sent x) (Sent m) (did m.id.proc) →
      Contains (did p) (Delivered x) → Contains (did p) (Delivered m) → InOrder (Delivered x) (Delivered m) (did p)
  sent_first p x m before had has = deliver_causally sites config steps w r p x m had has (edge (inl before))

  -- a third process stands between the two
  through_another : (p : Proc) (x y m : Message) → InOrder (Delivered x) (Sent y) (did y.id.proc) →
      InOrder (Delivered y) (Sent m) (did m.id.proc) → Contains (did p) (Delivered x) → Contains (did p) (Delivered m) →
      InOrder (Delivered x) (Delivered m) (did p)
  through_another p x y m one two had has = deliver_causally sites config steps w r p x m had has (path (edge (inr one)) (inr two))

  -- two messages of one sender
  sent_in_turn : (p q : Proc) (x m : Message) → InOrder (Sent x) (Sent m) (did q) →
      Contains (did p) (Delivered x) → Contains (did p) (Delivered m) → InOrder (Delivered x) (Delivered m) (did p)
  sent_in_turn p q x m before had has = deliver_first_in_first_out sites config steps w r p q x m had has before

  -- no message is delivered twice
  never_twice : (p : Proc) (m : Message) → InOrder (Delivered m) (Delivered m) (did p) → ⊥
  never_twice p m twice = deliver_once sites config steps w r p m m twice (λ i. m.id)

  -- views rise
  later_is_greater : (p : Proc) (g : GroupNo) (view next : ℕ) (before cut : CountList) →
      InOrder (Entered g view before) (Entered g next cut) (did p) → view < next
  later_is_greater p g view next before cut stands = views_rise sites config steps w r p g view next before cut stands

  -- two processes that go on to the next view delivered the same messages of the first
  delivered_alike : (p q : Proc) (g : GroupNo) (view : ℕ) → GoesOnFrom g view (did p) → GoesOnFrom g view (did q) →
      (u : Uid) → Contains (of_view g view (delivered_of w p)) u → Contains (of_view g view (delivered_of w q)) u
  delivered_alike p q g view one two u has = (same_messages sites config steps w r p q g view one two u).0 has

  -- and its ABCASTs in one order
  ordered_alike : (p q : Proc) (g : GroupNo) (view : ℕ) → GoesOnFrom g view (did p) → GoesOnFrom g view (did q) →
      abcasts_of_view w g view (delivered_of w p) ≡ abcasts_of_view w g view (delivered_of w q)
  ordered_alike p q g view one two = same_order sites config steps w r p q g view one two

  -- of two within a view one is behind the other
  one_is_behind : (p q : Proc) (g : GroupNo) (view : ℕ) → IsWithin w p g view → IsWithin w q g view →
      ((rest : List Uid) × (abcasts_of_view w g view (delivered_of w p) ++ rest ≡ abcasts_of_view w g view (delivered_of w q)))
      ⊎ ((rest : List Uid) × (abcasts_of_view w g view (delivered_of w q) ++ rest ≡ abcasts_of_view w g view (delivered_of w p)))
  one_is_behind p q g view one two = orders_agree sites config steps w r p q g view one two

  -- who enters a view is a member by each Install of it
  enters_as_member : (p : Proc) (g : GroupNo) (view : ℕ) (cut : CountList) (members : Membership) (tail : Tail) →
      Contains (did p) (Entered g view cut) → WasInstalled w g view members tail → Contains members.list p
  enters_as_member p g view cut members tail entered installed =
      enter_as_members sites config steps w r p g view cut members tail entered installed

  -- a refused event sends nothing and pushes nothing, and the site keeps what it kept
  refused_does_nothing : (s : SiteNo) (e : Event) (refusal : Refusal) (t : State) → IsStep (w.at s) e (Refused refusal) t →
      (t.frames ≡ []) × (t.pushes ≡ []) × (t.kept ≡ (w.at s).kept)
  refused_does_nothing s e refusal t step =
      let same = all_refused_leave sites config steps w s e refusal t r step in
      (ap (λ x. x.frames) same, ap (λ x. x.pushes) same, ap (λ x. x.kept) same)

  -- a refused request pushes its reply to its own session alone
  refused_is_told : (s : SiteNo) (d : DomainNo) (k : ℕ) (request : Request) (refusal : Refusal) (answer : Taken) (t : State) →
      is_open ((w.at s).session k) ≡ true → is_filled (w.at s) k ≡ false →
      (attempt (before_event (w.at s)) k request).1 ≡ Some refusal →
      IsStep (w.at s) (event.Command d k (command.Request request)) answer t →
      (t.frames ≡ []) × (t.pushes ≡ (k, reply_to request (Some refusal)) ∷ []) × (t.kept ≡ (w.at s).kept)
  refused_is_told s d k request refusal answer t opened room refused step =
      let same = (all_refused_reply sites config steps w s d k request refusal answer t r opened room refused step).1 in
      (ap (λ x. x.frames) same, ap (λ x. x.pushes) same, ap (λ x. x.kept) same)
