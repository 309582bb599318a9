-- When what a rule leads to at one site stands for what it leads to at another: where each
-- question has the same answer at both, and each move leads to states that stand for each other.
-- So what is to be shown of two sites is one fact for each question and each move.
-- `follows_itself` says that a site follows itself while an invariant holds, and `with_invariant`
-- joins a relation with an invariant of one side. A rule is made of choices, lists and moves, so a
-- relation that each question and each move keeps is kept by the whole rule.
use Rattle.std.proofs.Common.{◌≡◌, ◌<◌, ℕ, Bool, true, false, List, [], ◌∷◌, Option, Some, None, refl, sym, ap, subst}
use Rattle.std.specs.Prelude.{⊤, nat_lt, if◌then◌else◌}
use Rattle.std.specs.List.{fold}
use Rattle.std.proofs.lemmas.Bool.{false≢true}
use Rattle.cast_types.specs.declared.names.SiteNo.{SiteNo}
use Rattle.cast_types.specs.declared.names.GroupNo.{GroupNo}
use Rattle.cast_types.specs.declared.names.Proc.{Proc}
use Rattle.cast_types.specs.declared.names.Uid.{Uid}
use Rattle.cast_types.specs.declared.refusal.Refusal.{Refusal}
use Rattle.cast_types.specs.Counts.{CountList}
use Rattle.cast_message.specs.declared.message.Body.{Body}
use Rattle.cast_message.specs.declared.message.Message.{Message}
use Rattle.cast_message.specs.declared.client.Push.{Push}
use Rattle.cast_ready.specs.Ready.{is_member, is_outside}
use Rattle.cast_view.specs.Home.{HomeMove}
use Rattle.cast_message.specs.declared.site.Change.{Change}
use Rattle.cast_message.specs.declared.site.SiteFrame.{SiteFrame}
use Rattle.cast_message.specs.declared.site.SiteFrame.TheVariants as frame
use Rattle.cast_message.specs.Membership.{Membership, is_members}
use Rattle.cast_message.specs.Tail.{Tail}
use Rattle.cast_view.specs.declared.member.Pending.{Pending}
use Rattle.cast_view.specs.MemberSide.{is_pending}
use Rattle.cast_timer.specs.declared.key.OwedKey.{OwedKey}
use Rattle.cast_rules.specs.Lawful.{IsTypedFrame}
use Rattle.cast_rules.specs.Order.{told_by}
use Rattle.cast_rules.specs.Rules.Interface.{Site}
use Rattle.cast_rules.specs.Rules.Sending.{may_raise}
use Rattle.cast_rules.specs.Rules.Data.{is_used}
use Rattle.cast_rules.specs.Rules.Stability.{is_used_ack}
use Rattle.cast_rules.specs.Rules.Leaving.{named_here}
use Rattle.cast_rules.specs.Rules.Commands.{message_sent}
use Rattle.cast_rules.specs.Rules.Flushes.{is_wanted_here}

-- something stands at both places, or there is none
abbrev pub AtBoth : {H K : Type 0} → (H → K → Type 0) → Option H → Option K → Type 0
AtBoth stands (Some h) (Some k) = stands h k
AtBoth stands (Some h) None = ⊥
AtBoth stands None (Some k) = ⊥
AtBoth stands None None = ⊤

-- the places of two lists stand for each other, one by one
abbrev pub AllAt : {H K : Type 0} → (H → K → Type 0) → List H → List K → Type 0
AllAt stands [] [] = ⊤
AllAt stands [] (k ∷ ks) = ⊥
AllAt stands (h ∷ hs) [] = ⊥
AllAt stands (h ∷ hs) (k ∷ ks) = stands h k × AllAt stands hs ks

-- what holds of a state holds after each move
pub record IsInvariant {S H : Type 0} (d : Site S H) (holds : S → Type 0) : Type 0 where
  pub send : (s : S) → holds s → (to : SiteNo) (f : SiteFrame) → holds (d.send s to f)
  pub note_owed : (s : S) → holds s → (key : OwedKey) → holds (d.note_owed s key)
  pub note_resent : (s : S) → holds s → (key : OwedKey) → holds (d.note_resent s key)
  pub pay : (s : S) → holds s → (key : OwedKey) → holds (d.pay s key)
  pub pay_upto : (s : S) → holds s → (key : OwedKey) → holds (d.pay_upto s key)
  pub pay_view : (s : S) → holds s → (g : GroupNo) → holds (d.pay_view s g)
  pub note_moment : (s : S) → holds s → (t : ℕ) → holds (d.note_moment s t)
  pub note_ack : (s : S) → holds s → (from : SiteNo) (u : Uid) → holds (d.note_ack s from u)
  pub note_stable : (s : S) → holds s → (u : Uid) → holds (d.note_stable s u)

-- fits r s: r stands for s; stands h k: what is at h in the one is the group at k in the other
pub record Follows {R S H K : Type 0} (a : Site R H) (b : Site S K) (fits : R → S → Type 0) (stands : H → K → Type 0) : Type 1 where
  -- of these messages a rule may ask by which sites they are acknowledged; these moves change nothing of that
  pub asked : S → Uid → Type 0
  pub still_asked : (u : Uid) → IsInvariant b (λ s. asked s u)
  pub here : (r : R) (s : S) → fits r s → a.here r ≡ b.here s
  pub config : (r : R) (s : S) → fits r s → a.config r ≡ b.config s
  pub place : (r : R) (s : S) → fits r s → (g : GroupNo) → AtBoth stands (a.place r g) (b.place s g)
  pub group : (r : R) (s : S) → fits r s → (h : H) (k : K) → stands h k → a.group r h ≡ b.group s k
  pub home : (r : R) (s : S) → fits r s → (h : H) (k : K) → stands h k → a.home r h ≡ b.home s k
  pub others : (r : R) (s : S) → fits r s → (g : GroupNo) → a.others r g ≡ b.others s g
  pub stable_upto : (r : R) (s : S) → fits r s → (u : Uid) → asked s u → (b.others s u.group ≡ [] → ⊥) →
      a.stable_upto r u ≡ b.stable_upto s u
  pub has_acked : (r : R) (s : S) → fits r s → (u : Uid) → asked s u → nat_lt 0 u.count ≡ true → (to : SiteNo) →
      a.has_acked r u to ≡ b.has_acked s u to
  pub message : (r : R) (s : S) → fits r s → (u : Uid) → a.message r u ≡ b.message s u
  pub is_owed : (r : R) (s : S) → fits r s → (key : OwedKey) → a.is_owed r key ≡ b.is_owed s key
  pub due : (r : R) (s : S) → fits r s → a.due r ≡ b.due s
  pub send : (r : R) (s : S) → fits r s → (to : SiteNo) (f : SiteFrame) → fits (a.send r to f) (b.send s to f)
  pub note_owed : (r : R) (s : S) → fits r s → (key : OwedKey) → fits (a.note_owed r key) (b.note_owed s key)
  pub note_resent : (r : R) (s : S) → fits r s → (key : OwedKey) → fits (a.note_resent r key) (b.note_resent s key)
  pub pay : (r : R) (s : S) → fits r s → (key : OwedKey) → fits (a.pay r key) (b.pay s key)
  pub pay_upto : (r : R) (s : S) → fits r s → (key : OwedKey) → fits (a.pay_upto r key) (b.pay_upto s key)
  pub pay_view : (r : R) (s : S) → fits r s → (g : GroupNo) → fits (a.pay_view r g) (b.pay_view s g)
  pub note_moment : (r : R) (s : S) → fits r s → (t : ℕ) → fits (a.note_moment r t) (b.note_moment s t)
  pub note_ack : (r : R) (s : S) → fits r s → (from : SiteNo) (u : Uid) → fits (a.note_ack r from u) (b.note_ack s from u)
  pub note_stable : (r : R) (s : S) → fits r s → (u : Uid) → fits (a.note_stable r u) (b.note_stable s u)

-- What is known of a message of another site that is received

pub record IsTaken {S H : Type 0} (d : Site S H) (s : S) (h : H) (from : SiteNo) (m : Message) : Type 0 where
  pub at : d.place s m.id.group ≡ Some h
  pub used : is_used d s h from m ≡ true
  pub typed : IsTypedFrame (frame.Data m)

-- and of a message that the home forwards

pub record IsBrought {S H : Type 0} (d : Site S H) (s : S) (h : H) (m : Message) : Type 0 where
  pub at : d.place s m.id.group ≡ Some h
  pub wanted : is_wanted_here d s h m ≡ true
  pub typed : IsTypedFrame (frame.Forward m)

-- and of an Install that is to wait: none waits

pub record IsPended {S H : Type 0} (d : Site S H) (s : S) (h : H) (p : Pending) : Type 0 where
  pub first : is_pending (d.group s h) ≡ false
  pub typed : is_members p.members ≡ true

-- and of a view that is entered: it is a later one

pub record IsEntered {S H : Type 0} (d : Site S H) (s : S) (h : H) (g : GroupNo) (n : ℕ) (members : Membership) : Type 0 where
  pub at : d.place s g ≡ Some h
  pub later : (d.group s h).number < n
  pub typed : is_members members ≡ true

-- and of a message that a local process sends to the group g, which stands at h, and which tells nothing of the order

pub record IsSent {S H : Type 0} (d : Site S H) (s : S) (h : H) (k : ℕ) (g : GroupNo) (content : Body) : Type 0 where
  pub given : d.is_open s k ≡ true
  pub at : d.place s g ≡ Some h
  pub member : is_member (d.standing s k g) ≡ true
  pub unfrozen : (d.group s h).frozen ≡ false
  pub raises : may_raise (d.time s k) g (named_here d s k) ≡ true
  pub silent : told_by content ≡ []

-- the message is stamped, and received here
abbrev pub sent_here : {S H : Type 0} → Site S H → S → H → ℕ → GroupNo → Body → S
sent_here d s h k g content = d.receive (d.note_sent s k (message_sent d s k g h content)) (message_sent d s k g h content)

-- the same of all that rules ask and do, but that a session is gone: the one rule that does this says of it what it takes
pub record FollowsAll {R S H K : Type 0} (a : Site R H) (b : Site S K) (fits : R → S → Type 0) (stands : H → K → Type 0) : Type 1 where
  pub follows : Follows a b fits stands
  -- the rules ask of messages whose acknowledgements are used, and of those that local processes send
  pub used : (s : S) (k : K) (from : SiteNo) (u : Uid) → b.place s u.group ≡ Some k → is_used_ack b s k from u ≡ true → follows.asked s u
  pub sent : (s : S) (l : K) (k : ℕ) (g : GroupNo) (content : Body) → IsSent b s l k g content →
      follows.asked (sent_here b s l k g content) (message_sent b s k g l content).id
  pub name : (r : R) (s : S) → fits r s → (h : H) (k : K) → stands h k → a.name r h ≡ b.name s k
  pub places : (r : R) (s : S) → fits r s → AllAt stands (a.places r) (b.places s)
  pub quotas : (r : R) (s : S) → fits r s → a.quotas r ≡ b.quotas s
  pub held : (r : R) (s : S) → fits r s → a.held r ≡ b.held s
  pub is_received : (r : R) (s : S) → fits r s → (k : K) (from : SiteNo) (m : Message) → IsTaken b s k from m →
      a.is_received r m.id ≡ b.is_received s m.id
  pub is_stable : (r : R) (s : S) → fits r s → (k : K) (from : SiteNo) (m : Message) → IsTaken b s k from m → b.is_received s m.id ≡ false →
      a.is_stable (a.receive r m) m.id ≡ b.is_stable (b.receive s m) m.id
  pub is_open : (r : R) (s : S) → fits r s → (k : ℕ) → a.is_open r k ≡ b.is_open s k
  pub is_full : (r : R) (s : S) → fits r s → (k : ℕ) → a.is_full r k ≡ b.is_full s k
  pub members : (r : R) (s : S) → fits r s → (h : H) (k : K) → stands h k → a.members r h ≡ b.members s k
  pub put_out : (r : R) (s : S) → fits r s → (h : H) (k : K) → stands h k → (skips : Bool) (members : Membership) →
      a.put_out r h skips members ≡ b.put_out s k skips members
  pub standing : (r : R) (s : S) → fits r s → (k : ℕ) (g : GroupNo) → a.standing r k g ≡ b.standing s k g
  pub time : (r : R) (s : S) → fits r s → (k : ℕ) → b.is_open s k ≡ true → a.time r k ≡ b.time s k
  pub awaits_own : (r : R) (s : S) → fits r s → (k : ℕ) → b.is_open s k ≡ true → a.awaits_own r k ≡ b.awaits_own s k
  pub holds : (r : R) (s : S) → fits r s → (h : H) (l : K) → stands h l → (k : ℕ) → a.holds r h k ≡ b.holds s l k
  pub place_to_pass : (r : R) (s : S) → fits r s → (h : H) (l : K) → stands h l → (k : ℕ) (g : GroupNo) → b.place s g ≡ Some l →
      is_member (b.standing s k g) ≡ true → (b.group s l).frozen ≡ false → a.place_to_pass r h k ≡ b.place_to_pass s l k
  pub push : (r : R) (s : S) → fits r s → (k : ℕ) → b.is_open s k ≡ true → b.is_full s k ≡ false → (p : Push) →
      fits (a.push r k p) (b.push s k p)
  pub note_cast : (r : R) (s : S) → fits r s → fits (a.note_cast r) (b.note_cast s)
  pub note_joining : (r : R) (s : S) → fits r s → (k : ℕ) → b.is_open s k ≡ true → (g : GroupNo) (h : K) → b.place s g ≡ Some h →
      (number heard : ℕ) → fits (a.note_joining r k g number heard) (b.note_joining s k g number heard)
  pub note_outside : (r : R) (s : S) → fits r s → (k : ℕ) (g : GroupNo) → is_outside (b.standing s k g) ≡ false →
      fits (a.note_outside r k g) (b.note_outside s k g)
  pub sends : (r : R) (s : S) → fits r s → (h : H) (l : K) → stands h l → (k : ℕ) (g : GroupNo) (content : Body) →
      IsSent b s l k g content → fits (sent_here a r h k g content) (sent_here b s l k g content)
  pub receive : (r : R) (s : S) → fits r s → (k : K) (from : SiteNo) (m : Message) → IsTaken b s k from m → b.is_received s m.id ≡ false →
      fits (a.receive r m) (b.receive s m)
  pub brings : (r : R) (s : S) → fits r s → (k : K) (m : Message) → IsBrought b s k m → fits (a.receive r m) (b.receive s m)
  pub report : (r : R) (s : S) → fits r s → (h : H) (k : K) → stands h k → is_pending (b.group s k) ≡ false → a.report r h ≡ b.report s k
  pub freeze : (r : R) (s : S) → fits r s → (h : H) (k : K) → stands h k → fits (a.freeze r h) (b.freeze s k)
  pub pend : (r : R) (s : S) → fits r s → (h : H) (k : K) → stands h k → (p : Pending) (tail : Tail) → IsPended b s k p →
      fits (a.pend r h p tail) (b.pend s k p tail)
  pub note_request : (r : R) (s : S) → fits r s → (h : H) (k : K) → stands h k → (what : Change) (p : Proc) →
      fits (a.note_request r h what p) (b.note_request s k what p)
  pub note_answer : (r : R) (s : S) → fits r s → (h : H) (k : K) → stands h k → fits (a.note_answer r h) (b.note_answer s k)
  pub move_home : (r : R) (s : S) → fits r s → (h : H) (k : K) → stands h k → (move : HomeMove) →
      fits (a.move_home r h move) (b.move_home s k move)
  pub enter_view : (r : R) (s : S) → fits r s → (h : H) (k : K) → stands h k →
      (g : GroupNo) (skips : Bool) (n : ℕ) (members : Membership) (request : ℕ) (cut : CountList) → IsEntered b s k g n members →
      fits (a.enter_view r h skips n members request cut) (b.enter_view s k skips n members request cut)
  pub release_ended : (r : R) (s : S) → fits r s → (h : H) (k : K) → stands h k → fits (a.release_ended r h) (b.release_ended s k)
  pub is_gone : (r : R) (s : S) → fits r s → (k : ℕ) → a.is_gone r k ≡ b.is_gone s k
  pub close : (r : R) (s : S) → fits r s → (k : ℕ) → b.is_open s k ≡ true → (refusal : Refusal) →
      fits (a.close r k refusal) (b.close s k refusal)

-- What rules are made of

module _ {R S : Type 0} (fits : R → S → Type 0) where
  -- the same choice on both sides
  pub choose : (c e : Bool) (x y : R) (u v : S) → c ≡ e → (e ≡ true → fits x u) → (e ≡ false → fits y v) →
      fits (if c then x else y) (if e then u else v)
  choose true true x y u v same then_fits else_fits = then_fits refl
  choose true false x y u v same then_fits else_fits = absurd (false≢true (sym same))
  choose false true x y u v same then_fits else_fits = absurd (false≢true same)
  choose false false x y u v same then_fits else_fits = else_fits refl

  -- the same for each item in turn
  pub each : {X : Type 0} (f : R → X → R) (g : S → X → S) → ((r : R) (s : S) (x : X) → fits r s → fits (f r x) (g s x)) →
      (xs : List X) (r : R) (s : S) → fits r s → fits (fold f r xs) (fold g s xs)
  each f g step [] r s h = h
  each f g step (x ∷ xs) r s h = each f g step xs (f r x) (g s x) (step r s x h)

  -- and for each place in turn
  pub each_place : {H K : Type 0} (stands : H → K → Type 0) (f : R → H → R) (g : S → K → S) →
      ((r : R) (s : S) → fits r s → (h : H) (k : K) → stands h k → fits (f r h) (g s k)) → (hs : List H) (ks : List K) →
      AllAt stands hs ks → (r : R) (s : S) → fits r s → fits (fold f r hs) (fold g s ks)
  each_place stands f g step [] [] at r s h = h
  each_place stands f g step [] (k ∷ ks) at r s h = absurd at
  each_place stands f g step (x ∷ hs) [] at r s h = absurd at
  each_place stands f g step (x ∷ hs) (k ∷ ks) at r s h = each_place stands f g step hs ks at.1 (f r x) (g s k) (step r s h x k at.0)

-- What holds of each state

-- what holds of a state holds after each of all moves, but that a session is gone
pub record IsInvariantOfAll {S H : Type 0} (d : Site S H) (holds : S → Type 0) : Type 0 where
  pub keeps : IsInvariant d holds
  pub push : (s : S) → holds s → (k : ℕ) → d.is_open s k ≡ true → d.is_full s k ≡ false → (p : Push) → holds (d.push s k p)
  pub note_cast : (s : S) → holds s → holds (d.note_cast s)
  pub note_joining : (s : S) → holds s → (k : ℕ) → d.is_open s k ≡ true → (g : GroupNo) (h : H) → d.place s g ≡ Some h →
      (number heard : ℕ) → holds (d.note_joining s k g number heard)
  pub note_outside : (s : S) → holds s → (k : ℕ) (g : GroupNo) → is_outside (d.standing s k g) ≡ false → holds (d.note_outside s k g)
  pub sends : (s : S) → holds s → (h : H) (k : ℕ) (g : GroupNo) (content : Body) → IsSent d s h k g content →
      holds (sent_here d s h k g content)
  pub receive : (s : S) → holds s → (h : H) (from : SiteNo) (m : Message) → IsTaken d s h from m → holds (d.receive s m)
  pub brings : (s : S) → holds s → (h : H) (m : Message) → IsBrought d s h m → holds (d.receive s m)
  pub freeze : (s : S) → holds s → (h : H) → holds (d.freeze s h)
  pub pend : (s : S) → holds s → (h : H) (p : Pending) (tail : Tail) → IsPended d s h p → holds (d.pend s h p tail)
  pub note_request : (s : S) → holds s → (h : H) (what : Change) (p : Proc) → holds (d.note_request s h what p)
  pub note_answer : (s : S) → holds s → (h : H) → holds (d.note_answer s h)
  pub move_home : (s : S) → holds s → (h : H) (move : HomeMove) → holds (d.move_home s h move)
  pub enter_view : (s : S) → holds s → (h : H) (g : GroupNo) (skips : Bool) (n : ℕ) (members : Membership) (request : ℕ) (cut : CountList) →
      IsEntered d s h g n members → holds (d.enter_view s h skips n members request cut)
  pub release_ended : (s : S) → holds s → (h : H) → holds (d.release_ended s h)
  pub close : (s : S) → holds s → (k : ℕ) → d.is_open s k ≡ true → (refusal : Refusal) → holds (d.close s k refusal)

-- a site follows itself, in the same state, of which an invariant holds
abbrev pub AlsoHolds : {S : Type 0} → (S → Type 0) → S → S → Type 0
AlsoHolds holds r s = (r ≡ s) × holds s

abbrev pub SamePlace : {H : Type 0} → H → H → Type 0
SamePlace h k = h ≡ k

at_itself : {H : Type 0} (o p : Option H) → o ≡ p → AtBoth SamePlace o p
at_itself (Some h) p same = subst (AtBoth SamePlace (Some h)) same refl
at_itself None p same = subst (AtBoth SamePlace None) same tt

all_at_themselves : {H : Type 0} (hs ks : List H) → hs ≡ ks → AllAt SamePlace hs ks
all_at_themselves {H = H} hs ks same = subst (AllAt SamePlace hs) same (alike hs)
  where
    alike : (xs : List H) → AllAt SamePlace xs xs
    alike [] = tt
    alike (x ∷ xs) = (refl, alike xs)

-- what holds of all states
of_all_states : {S H : Type 0} (d : Site S H) → IsInvariant d (λ s. ⊤)
of_all_states d = record {
  send = λ s l to f. tt;
  note_owed = λ s l key. tt;
  note_resent = λ s l key. tt;
  pay = λ s l key. tt;
  pay_upto = λ s l key. tt;
  pay_view = λ s l g. tt;
  note_moment = λ s l t. tt;
  note_ack = λ s l from u. tt;
  note_stable = λ s l u. tt;
}

pub follows_itself : {S H : Type 0} (d : Site S H) (holds : S → Type 0) → IsInvariant d holds → Follows d d (AlsoHolds holds) SamePlace
follows_itself d holds keeps = record {
  asked = λ s u. ⊤;
  still_asked = λ u. of_all_states d;
  here = λ r s f. ap d.here f.0;
  config = λ r s f. ap d.config f.0;
  place = λ r s f g. at_itself (d.place r g) (d.place s g) (λ i. d.place (f.0 i) g);
  group = λ r s f h k at. λ i. d.group (f.0 i) (at i);
  home = λ r s f h k at. λ i. d.home (f.0 i) (at i);
  others = λ r s f g. λ i. d.others (f.0 i) g;
  stable_upto = λ r s f u asked some. λ i. d.stable_upto (f.0 i) u;
  has_acked = λ r s f u asked counted to. λ i. d.has_acked (f.0 i) u to;
  message = λ r s f u. λ i. d.message (f.0 i) u;
  is_owed = λ r s f key. λ i. d.is_owed (f.0 i) key;
  due = λ r s f. ap d.due f.0;
  send = λ r s f to x. (λ i. d.send (f.0 i) to x, keeps.send s f.1 to x);
  note_owed = λ r s f key. (λ i. d.note_owed (f.0 i) key, keeps.note_owed s f.1 key);
  note_resent = λ r s f key. (λ i. d.note_resent (f.0 i) key, keeps.note_resent s f.1 key);
  pay = λ r s f key. (λ i. d.pay (f.0 i) key, keeps.pay s f.1 key);
  pay_upto = λ r s f key. (λ i. d.pay_upto (f.0 i) key, keeps.pay_upto s f.1 key);
  pay_view = λ r s f g. (λ i. d.pay_view (f.0 i) g, keeps.pay_view s f.1 g);
  note_moment = λ r s f t. (λ i. d.note_moment (f.0 i) t, keeps.note_moment s f.1 t);
  note_ack = λ r s f from u. (λ i. d.note_ack (f.0 i) from u, keeps.note_ack s f.1 from u);
  note_stable = λ r s f u. (λ i. d.note_stable (f.0 i) u, keeps.note_stable s f.1 u);
}

-- it may ask of each message
pub itself_asks : {S H : Type 0} (d : Site S H) (holds : S → Type 0) (keeps : IsInvariant d holds) (s : S) (u : Uid) →
    (follows_itself d holds keeps).asked s u
unfolding follows_itself
itself_asks d holds keeps s u = tt

pub follows_itself_in_all : {S H : Type 0} (d : Site S H) (holds : S → Type 0) → IsInvariantOfAll d holds →
    FollowsAll d d (AlsoHolds holds) SamePlace
follows_itself_in_all d holds keeps = record {
  follows = follows_itself d holds keeps.keeps;
  used = λ s k from u at is_used. itself_asks d holds keeps.keeps s u;
  sent = λ s l k g content is_sent. itself_asks d holds keeps.keeps (sent_here d s l k g content) (message_sent d s k g l content).id;
  name = λ r s f h k at. λ i. d.name (f.0 i) (at i);
  places = λ r s f. all_at_themselves (d.places r) (d.places s) (ap d.places f.0);
  quotas = λ r s f. ap d.quotas f.0;
  held = λ r s f. ap d.held f.0;
  is_received = λ r s f k from m taken. λ i. d.is_received (f.0 i) m.id;
  is_stable = λ r s f k from m taken new. λ i. d.is_stable (d.receive (f.0 i) m) m.id;
  is_open = λ r s f k. λ i. d.is_open (f.0 i) k;
  is_full = λ r s f k. λ i. d.is_full (f.0 i) k;
  members = λ r s f h k at. λ i. d.members (f.0 i) (at i);
  put_out = λ r s f h k at skips members. λ i. d.put_out (f.0 i) (at i) skips members;
  standing = λ r s f k g. λ i. d.standing (f.0 i) k g;
  time = λ r s f k given. λ i. d.time (f.0 i) k;
  awaits_own = λ r s f k given. λ i. d.awaits_own (f.0 i) k;
  holds = λ r s f h l at k. λ i. d.holds (f.0 i) (at i) k;
  place_to_pass = λ r s f h l at k g there member unfrozen. λ i. d.place_to_pass (f.0 i) (at i) k;
  push = λ r s f k given room p. (λ i. d.push (f.0 i) k p, keeps.push s f.1 k given room p);
  note_cast = λ r s f. (λ i. d.note_cast (f.0 i), keeps.note_cast s f.1);
  note_joining = λ r s f k given g h at number heard. (
    λ i. d.note_joining (f.0 i) k g number heard,
    keeps.note_joining s f.1 k given g h at number heard,
  );
  note_outside = λ r s f k g is. (λ i. d.note_outside (f.0 i) k g, keeps.note_outside s f.1 k g is);
  sends = λ r s f h l at k g content sent. (λ i. sent_here d (f.0 i) (at i) k g content, keeps.sends s f.1 l k g content sent);
  receive = λ r s f k from m taken new. (λ i. d.receive (f.0 i) m, keeps.receive s f.1 k from m taken);
  brings = λ r s f k m brought. (λ i. d.receive (f.0 i) m, keeps.brings s f.1 k m brought);
  report = λ r s f h k at first. λ i. d.report (f.0 i) (at i);
  freeze = λ r s f h k at. (λ i. d.freeze (f.0 i) (at i), keeps.freeze s f.1 k);
  pend = λ r s f h k at p tail pended. (λ i. d.pend (f.0 i) (at i) p tail, keeps.pend s f.1 k p tail pended);
  note_request = λ r s f h k at what p. (λ i. d.note_request (f.0 i) (at i) what p, keeps.note_request s f.1 k what p);
  note_answer = λ r s f h k at. (λ i. d.note_answer (f.0 i) (at i), keeps.note_answer s f.1 k);
  move_home = λ r s f h k at move. (λ i. d.move_home (f.0 i) (at i) move, keeps.move_home s f.1 k move);
  enter_view = λ r s f h k at g skips n members request cut entered.
      (λ i. d.enter_view (f.0 i) (at i) skips n members request cut, keeps.enter_view s f.1 k g skips n members request cut entered);
  release_ended = λ r s f h k at. (λ i. d.release_ended (f.0 i) (at i), keeps.release_ended s f.1 k);
  is_gone = λ r s f k. λ i. d.is_gone (f.0 i) k;
  close = λ r s f k given refusal. (λ i. d.close (f.0 i) k refusal, keeps.close s f.1 k given refusal);
}

-- a site that follows another follows it also in states of which an invariant holds
pub with_invariant : {R S H K : Type 0} (a : Site R H) (b : Site S K) (fits : R → S → Type 0) (stands : H → K → Type 0)
    (holds : S → Type 0) → Follows a b fits stands → IsInvariant b holds → Follows a b (λ r s. fits r s × holds s) stands
with_invariant a b fits stands holds follows keeps = record {
  asked = follows.asked;
  still_asked = follows.still_asked;
  here = λ r s f. follows.here r s f.0;
  config = λ r s f. follows.config r s f.0;
  place = λ r s f. follows.place r s f.0;
  group = λ r s f. follows.group r s f.0;
  home = λ r s f. follows.home r s f.0;
  others = λ r s f. follows.others r s f.0;
  stable_upto = λ r s f. follows.stable_upto r s f.0;
  has_acked = λ r s f. follows.has_acked r s f.0;
  message = λ r s f. follows.message r s f.0;
  is_owed = λ r s f. follows.is_owed r s f.0;
  due = λ r s f. follows.due r s f.0;
  send = λ r s f to x. (follows.send r s f.0 to x, keeps.send s f.1 to x);
  note_owed = λ r s f key. (follows.note_owed r s f.0 key, keeps.note_owed s f.1 key);
  note_resent = λ r s f key. (follows.note_resent r s f.0 key, keeps.note_resent s f.1 key);
  pay = λ r s f key. (follows.pay r s f.0 key, keeps.pay s f.1 key);
  pay_upto = λ r s f key. (follows.pay_upto r s f.0 key, keeps.pay_upto s f.1 key);
  pay_view = λ r s f g. (follows.pay_view r s f.0 g, keeps.pay_view s f.1 g);
  note_moment = λ r s f t. (follows.note_moment r s f.0 t, keeps.note_moment s f.1 t);
  note_ack = λ r s f from u. (follows.note_ack r s f.0 from u, keeps.note_ack s f.1 from u);
  note_stable = λ r s f u. (follows.note_stable r s f.0 u, keeps.note_stable s f.1 u);
}

-- and it asks of the same messages
pub invariant_asks : {R S H K : Type 0} (a : Site R H) (b : Site S K) (fits : R → S → Type 0) (stands : H → K → Type 0) (holds : S → Type 0)
    (follows : Follows a b fits stands) (keeps : IsInvariant b holds) (s : S) (u : Uid) → follows.asked s u →
    (with_invariant a b fits stands holds follows keeps).asked s u
unfolding with_invariant
invariant_asks a b fits stands holds follows keeps s u asked = asked
