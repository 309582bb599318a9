-- Once a session is over, its process does nothing more and its program is told nothing more.
use Rattle.std.proofs.Common.{ap, arith, inl, inr, subst, sym, ◌∙◌}
use Rattle.std.proofs.lemmas.Bool.{and_from, and_parts, cases_Bool, eqb-true, false≢true, le-leb, leb-true, lt-ltb, ltb-true, true≢false}
use Rattle.std.proofs.lemmas.List.{append-nil}
use Rattle.std.specs.List.{fold}
use Rattle.std.specs.Prelude.{◌&&◌, ◌+◌, ◌++◌, ◌<◌, ◌==◌, Bool, List, None, Option, Some, [], cond, false, if◌then◌else◌, is_some}
use Rattle.std.specs.Prelude.{nat_le, nat_lt, refl, true, ℕ, ◌∷◌, ◌≡◌, ◌≤◌}
use Rattle.cast_clock.specs.Times.{join, view_of}
use Rattle.cast_ready.specs.Ready.{Process, is_causally_ready, is_member, is_outside}
use Rattle.cast_rules.specs.Acts.Act.{Delivered, Entered, Left, Sent}
use Rattle.cast_rules.specs.Effects.{delivering, next_message}
use Rattle.cast_rules.specs.Entering.{enters, in_view, is_put_out, passing, put_outside, putting_out}
use Rattle.cast_rules.specs.History.{history}
use Rattle.cast_rules.specs.Rules.Asking.{is_home}
use Rattle.cast_rules.specs.Rules.Leaving.{close_session, end_session, leave_all, tell}
use Rattle.cast_rules.specs.Rules.Rest.{tell_if, told_of}
use Rattle.cast_rules.specs.Rules.Views.{change_view, tell_out, tell_view}
use Rattle.cast_rules.specs.Run.{IsStep, after_event, before_event, entries_for}
use Rattle.cast_rules.specs.State.{State, gate_of, going, is_filled, local, local_members, noting_act, outside, was_given, with_delivery}
use Rattle.cast_rules.specs.State.{with_push}
use Rattle.cast_message.specs.Membership.{Membership}
use Rattle.cast_message.specs.declared.client.Push.{Push}
use Rattle.cast_message.specs.declared.message.Body.{Body}
use Rattle.cast_message.specs.declared.message.Message.{Message}
use Rattle.cast_events.specs.Session.{Session, first_session, is_gone, is_open, no_session, pushed_to, taken_from, tell_end}
use Rattle.cast_events.specs.declared.event.Event.{Event}
use Rattle.cast_events.specs.declared.event.Taken.{Taken}
use Rattle.cast_types.specs.Counts.{CountList}
use Rattle.cast_types.specs.Names.{group_eq, proc_eq, site_eq}
use Rattle.cast_types.specs.Sets.{is_among, set_at}
use Rattle.cast_types.specs.declared.names.GroupNo.{GroupNo}
use Rattle.cast_types.specs.declared.names.Proc.{Proc}
use Rattle.cast_types.specs.declared.names.Standing.{Standing}
use Rattle.cast_types.specs.declared.names.Standing.TheVariants.{Joining, Member, Outside}
use Rattle.cast_types.specs.declared.refusal.Refusal.{Refusal}
use Rattle.cast_types.specs.declared.refusal.Refusal.TheVariants.{Slow}
use Rattle.cast_view.specs.MemberSide.{is_taken_in}
use Rattle.cast_world.proofs.Events.{any_came, any_happens, event_keeps_wholly, rests_keeps_wholly, sets_any}
use Rattle.cast_world.proofs.Keeps.{keeps_fold, keeps_if}
use Rattle.cast_world.proofs.Kept.{Any, KeptByOwing, WhollyKept}
use Rattle.cast_world.proofs.News.{IsShut, entries_more, shut_of}
use Rattle.cast_world.proofs.NewsRuns.{EachNews, each_news, one_step}
use Rattle.cast_world.proofs.Steps.{same_site}
use Rattle.cast_world.proofs.Telling.{leave_all_keeps}
use Rattle.cast_world.specs.HappenedBefore.{acts_of}
use Rattle.cast_world.specs.Network.{Becomes, Happens, Network, event_of}
use Rattle.cast_world.specs.Programs.{IsOver, NothingFollows}
use Rattle.cast_world.specs.Pushed.{Tells, pushed_by}
use Rattle.cast_world.specs.declared.step.Step.{Step}
use Rattle.cast_message.specs.declared.client.CastKind.TheVariants as kind
use Rattle.cast_message.specs.declared.client.Push.TheVariants as push
use Rattle.cast_message.specs.declared.message.Body.TheVariants as body

shut_still : (standing : GroupNo → Standing) (g : GroupNo) → IsShut standing → IsShut (set_at group_eq standing g Outside)
shut_still standing g out h = go (group_eq g h)
  where
    go : (b : Bool) → is_outside (if b then Outside else standing h) ≡ true
    go true = refl
    go false = out h

no_member : (x : Standing) → is_outside x ≡ true → is_member x ≡ true → ⊥
no_member Outside out member = false≢true member
no_member (Joining number heard) out member = false≢true out
no_member Member out member = false≢true out

not_taken : (request : ℕ) (x : Standing) → is_outside x ≡ true → is_taken_in request x ≡ true → ⊥
not_taken request Outside out taken = false≢true taken
not_taken request (Joining number heard) out taken = false≢true out
not_taken request Member out taken = false≢true out

-- Of a serial at a site, from s on

module _ (s : State) (k : ℕ) where
  -- its session is over, it is outside all groups, and in this event it did nothing and was told nothing
  abbrev Over : State → Type 0
  Over t =
      (t.here ≡ s.here) × (t.config ≡ s.config) × (k ≤ t.used) × (is_open (t.session k) ≡ false) × IsShut (t.process k).standing
      × (t.acts k ≡ s.acts k)
      × (entries_for t.pushes k ≡ [])

  -- so what is done is done by another
  by_open : (t : State) (j : ℕ) → Over t → is_open (t.session j) ≡ true → (j == k) ≡ false
  by_open t j x open_it = elim (cases_Bool (j == k)) [
    | inl same ↦ absurd (true≢false (sym open_it ∙ ap (λ i. is_open (t.session i)) (eqb-true j k same) ∙ x.3))
    | inr apart ↦ apart
  ]

  by_member : (t : State) (j : ℕ) (g : GroupNo) → Over t → is_member ((t.process j).standing g) ≡ true → (j == k) ≡ false
  by_member t j g x member = elim (cases_Bool (j == k)) [
    | inl same ↦ absurd (no_member ((t.process k).standing g) (x.4 g)
        (ap (λ i. is_member ((t.process i).standing g)) (sym (eqb-true j k same)) ∙ member))
    | inr apart ↦ apart
  ]

  -- what is set for another
  set_else : {V : Type 0} (f : ℕ → V) (j : ℕ) (v : V) → (j == k) ≡ false → set_at (λ a b. a == b) f j v k ≡ f k
  set_else f j v apart = ap (λ b. if b then v else f k) apart

  parted_over : (t : State) (j : ℕ) (g : GroupNo) → Over t → Over (outside t j g)
  parted_over t j g x = (
    x.0,
    x.1,
    x.2,
    x.3,
    standing (j == k) refl,
    acts (is_member ((t.process j).standing g)) refl ∙ x.5,
    x.6,
  )
    where
      standing : (b : Bool) → (j == k) ≡ b → IsShut (if b then put_outside g (t.process j) else t.process k).standing
      standing true same =
          shut_still (t.process j).standing g (subst (λ i. IsShut (t.process i).standing) (sym (eqb-true j k same)) x.4)
      standing false apart = x.4

      acts : (b : Bool) → is_member ((t.process j).standing g) ≡ b → (if b then (noting_act t j (Left g)).acts else t.acts) k ≡ t.acts k
      acts true member = set_else t.acts j (t.acts j ++ Left g ∷ []) (by_member t j g x member)
      acts false other = refl

  owing_over : KeptByOwing Any Over
  owing_over = record {
    emits = λ t to f x says adds draws. x;
    books = λ t moment casts x. x;
    owes = λ t key due x owes wants lacks awaited. x;
    renews = λ t key due x owes owed. x;
    pays = λ t test x. x;
    releases = λ t passes x. x;
    parts = λ t j g x. parted_over t j g x;
    requests = λ t g what p x inside. x;
  }

  push_over : (t : State) (j : ℕ) (v : Session) (p : Push) → Over t → (j == k) ≡ false → Over (with_push t j v p)
  push_over t j v p x apart = (
    x.0,
    x.1,
    x.2,
    ap is_open (set_else t.session j v apart) ∙ x.3,
    x.4,
    x.5,
    entries_more t.pushes j p k
        ∙ ap (λ b. entries_for t.pushes k ++ cond b (p ∷ []) []) apart
        ∙ append-nil (entries_for t.pushes k)
        ∙ x.6,
  )

  close_over : (t : State) (j : ℕ) (refusal : Refusal) → Over t → Over (close_session history t j refusal)
  close_over t j refusal x =
      let why : Refusal = if is_filled t j then Slow else refusal in
      leave_all_keeps Over owing_over (history.close t j why) j
      (keeps_if Over (is_open (t.session j)) (with_push t j (tell_end why (t.session j)) (push.Closed why)) t
      (λ open_it. push_over t j (tell_end why (t.session j)) (push.Closed why) x (by_open t j x open_it)) (λ _. x))

  tell_over : (t : State) (j : ℕ) (p : Push) → Over t → Over (tell history t j p)
  tell_over t j p x = go (is_open (t.session j)) refl (is_filled t j)
    where
      go : (b : Bool) → is_open (t.session j) ≡ b → (full : Bool) → Over (if b then (if full then close_session history t j Slow
          else (if b then with_push t j (pushed_to (t.session j) p) p else t)) else t)
      go true open_it true = close_over t j Slow x
      go true open_it false = push_over t j (pushed_to (t.session j) p) p x (by_open t j x open_it)
      go false shut full = x

  -- a session is set to one that is not open where that was not
  session_over : (t : State) (j : ℕ) (v : Session) → Over t → ((j == k) ≡ true → is_open v ≡ false) →
      is_open (set_at (λ a b. a == b) t.session j v k) ≡ false
  session_over t j v x shut = go (j == k) refl
    where
      go : (b : Bool) → (j == k) ≡ b → is_open (if b then v else t.session k) ≡ false
      go true same = shut same
      go false apart = x.3

  gone_over : (t : State) (j : ℕ) → Over t → Over (end_session history t j)
  gone_over t j x = keeps_if Over (is_gone (t.session j)) t (leave_all history (going t j) j) (λ _. x)
      (λ _. leave_all_keeps Over owing_over (going t j) j
      (x.0, x.1, x.2, session_over t j no_session x (λ _. refl), x.4, x.5, x.6))

  delivery_over : (t : State) (j : ℕ) (m : Message) → Over t → is_member ((t.process j).standing m.id.group) ≡ true →
      Over (delivering t j m)
  delivery_over t j m x member = go m.body
    where
      now : Over (with_delivery t j m)
      now = (
        x.0,
        x.1,
        x.2,
        x.3,
        subst (λ (p : Process). IsShut p.standing) (sym (set_else t.process j (record (t.process j) {
          time = join (t.process j).time m.times;
          delivered = (t.process j).delivered ++ m.id ∷ [];
        }) (by_member t j m.id.group x member))) x.4,
        set_else t.acts j (t.acts j ++ Delivered m ∷ []) (by_member t j m.id.group x member) ∙ x.5,
        x.6,
      )

      go : (b : Body) → Over (tell_if history (with_delivery t j m) j (told_of m.id b))
      go (body.Causal payload) = tell_over (with_delivery t j m) j (push.Deliver m.id kind.Causal payload) now
      go (body.Atomic payload) = tell_over (with_delivery t j m) j (push.Deliver m.id kind.Atomic payload) now
      go (body.Order sequence) = now

  view_over : (t : State) (g : GroupNo) (skipped : Bool) (n : ℕ) (members : Membership) (request : ℕ) (cut : CountList) → Over t →
      Over (change_view history skipped t g n members request cut)
  view_over t g skipped n members request cut x =
      keeps_fold Over (tell_view history g n members) (λ u j y. tell_over u j (push.View g n members) y)
      (local_members (passing t g skipped n members request cut) g)
      (fold (tell_out history g n) (passing t g skipped n members request cut) (history.put_out t g skipped members))
      (keeps_fold Over (tell_out history g n) (λ u j y. tell_over u j (push.Ejected g n) y) (history.put_out t g skipped members)
      (passing t g skipped n members request cut) now)
    where
      stays : (b : Bool) → is_put_out t g skipped members k ≡ b → b ≡ false
      stays true e =
          absurd (no_member ((t.process k).standing g) (x.4 g) (and_parts (is_member ((t.process k).standing g)) _ e).0)
      stays false e = refl

      same : is_put_out t g skipped members k ≡ false
      same = stays (is_put_out t g skipped members k) refl

      is_left : (putting_out t g skipped members).process k ≡ t.process k
      is_left = ap (λ b. if b then put_outside g (t.process k) else t.process k) (stays (is_put_out t g skipped members k) refl)

      enters_not : (b : Bool) → enters (putting_out t g skipped members) g members request k ≡ b → b ≡ false
      enters_not true e =
          absurd (not_taken request (((putting_out t g skipped members).process k).standing g)
          (ap (λ (p : Process). is_outside (p.standing g)) is_left ∙ x.4 g)
          (and_parts (is_taken_in request (((putting_out t g skipped members).process k).standing g))
          (is_among proc_eq (local t k) members.list) e).0)
      enters_not false e = refl

      out : enters (putting_out t g skipped members) g members request k ≡ false
      out = enters_not (enters (putting_out t g skipped members) g members request k) refl

      now : Over (passing t g skipped n members request cut)
      now = (
        x.0,
        x.1,
        x.2,
        x.3,
        subst (λ (p : Process). IsShut p.standing)
            (sym (ap (λ b. if b then in_view g n ((putting_out t g skipped members).process k)
            else (putting_out t g skipped members).process k) out ∙ is_left)) x.4,
        ap (λ b. if b then (putting_out t g skipped members).acts k ++ Entered g n cut ∷ []
            else (putting_out t g skipped members).acts k) out
            ∙ ap (λ b. if b then t.acts k ++ Left g ∷ [] else t.acts k) same
            ∙ x.5,
        x.6,
      )

  kept_over : WhollyKept Over (λ u. Over) Any (is_home history s) true
  kept_over = record {
    owing = owing_over;
    during = λ u. owing_over;
    truly = inr ((λ t key x owed is known. x), λ t key due x owed. x);
    fixed = λ t x. λ i. site_eq (x.0 i) (x.1 i).home;
    opens = λ t x.
        push_over (record t { used = t.used + 1 }) (t.used + 1) (first_session (local t (t.used + 1))) (push.Opened (local t (t.used + 1)))
        (x.0, x.1, (let was = x.2 in omega (arith, was)), x.3, x.4, x.5, x.6) (elim (cases_Bool (t.used + 1 == k)) [
          | inl same ↦ (let is = eqb-true (t.used + 1) k same in let was = x.2 in absurd (omega (arith, is, was)))
          | inr apart ↦ apart
        ]);
    takes = λ t j most x. (
      x.0,
      x.1,
      x.2,
      session_over t j (taken_from most (t.session j)) x (λ same. ap (λ i. is_open (t.session i)) (eqb-true j k same) ∙ x.3),
      x.4,
      x.5,
      x.6,
    );
    replies = λ t j tag refusal x. tell_over t j (push.Reply tag refusal) x;
    denies = λ t j g refusal x. tell_over t j (push.Denied g refusal) x;
    closes = λ t j refusal x open_it. close_over t j refusal x;
    goes = gone_over;
    answers = λ t g x. x;
    joins = λ t j g x open_it known out. (
      x.0,
      x.1,
      x.2,
      x.3,
      subst (λ (p : Process). IsShut p.standing) (sym (set_else t.process j (record (t.process j) {
        standing = set_at group_eq (t.process j).standing g
            (Joining ((t.group g).asked + 1) (view_of (t.process j).time g));
      }) (by_open t j x open_it))) x.4,
      x.5,
      x.6,
    );
    sends = λ t g j content x member may room open_it asked_for.
        let m : Message = next_message t g j content in (
          x.0,
          x.1,
          x.2,
          x.3,
          subst (λ (p : Process). IsShut p.standing)
              (sym (set_else t.process j (record (t.process j) { time = m.times }) (by_member t j g x member))) x.4,
          set_else t.acts j (t.acts j ++ Sent m ∷ []) (by_member t j g x member) ∙ x.5,
          x.6,
        );
    receives = λ t from m x came view member may new. x;
    received = λ t u x. x;
    acknowledged = λ t from u x came. x;
    learns = λ t from u x came. x;
    delivers = λ t j m x c ready.
        delivery_over t j m x
        (and_parts (is_member ((t.process j).standing m.id.group)) _
        (and_parts (is_causally_ready t.config.groups (gate_of t) (t.process j) m) _ ready).0).0;
    freezes = λ t g x current. x;
    pends = λ t from g p tail x came current waits known. x;
    enters = λ t g skipped n members request cut x comes. view_over t g skipped n members request cut x;
    homes = λ t g what x may. x;
  }

  pub step_over : (e : Event) (answer : Taken) (t : State) → IsStep s e answer t → k ≤ s.used → is_open (s.session k) ≡ false →
      IsShut (s.process k).standing → Over t
  step_over e answer t is given shut out =
      let begin : Over (before_event s) = (refl, refl, given, shut, out, refl, refl) in
      rests_keeps_wholly Over (λ u. Over) Any (is_home history s) true kept_over (after_event s e) t is.rests
      (event_keeps_wholly Over (λ u. Over) Any (is_home history s) true kept_over s e begin (any_came e)
      (sets_any Over (λ u quotas y. y) (before_event s) e begin) (any_happens e))

-- Every run

-- what a step leaves of a session that is over
abbrev LeavesOver : Network → Network → Proc → List Push → Type 0
LeavesOver w v p told = IsOver v p × (acts_of v p ≡ acts_of w p) × (told ≡ [])

given_parts : (used k : ℕ) → was_given used k ≡ true → (1 ≤ k) × (k ≤ used)
given_parts used k e =
    let parts = and_parts (nat_lt 0 k) (nat_le k used) e in
    (let low : 0 < k = ltb-true 0 k parts.0 in omega (arith, low), leb-true k used parts.1)

given_as : (used k : ℕ) → 1 ≤ k → k ≤ used → was_given used k ≡ true
given_as used k low high = and_from (nat_lt 0 k) (nat_le k used) (lt-ltb 0 k (omega (arith, low))) (le-leb k used high)

none_if : {X : Type 0} (b : Bool) (xs : List X) → xs ≡ [] → (if b then xs else []) ≡ []
none_if true xs none = none
none_if false xs none = refl

none_else : {X : Type 0} (b : Bool) (xs : List X) → (if b && false then xs else []) ≡ []
none_else true xs = refl
none_else false xs = refl

leaves_over : (w v : Network) (step : Step) (earlier : Proc → List Push) → Happens w step v → EachNews w earlier → (p : Proc) →
    IsOver w p → LeavesOver w v p (pushed_by w step v p)
leaves_over w v step earlier happens all p over = go (event_of w step) refl happens
  where
    at_site : (made : Event) (answer : Taken) (t : State) → IsStep (w.at step.site) made answer t → (b : Bool) →
        site_eq step.site p.site ≡ b → (some : Bool) →
        ((was_given (if b then t else w.at p.site).used p.serial ≡ true)
        × (is_open ((if b then t else w.at p.site).session p.serial) ≡ false))
        × ((if b then t else w.at p.site).acts p.serial ≡ (w.at p.site).acts p.serial)
        × ((if some && b then entries_for (if b then t else w.at p.site).pushes p.serial else []) ≡ [])
    at_site made answer t is true here some =
        let same : step.site ≡ p.site = same_site step.site p.site here in
        let shut : is_open ((w.at step.site).session p.serial) ≡ false =
        ap (λ z. is_open ((w.at z).session p.serial)) same ∙ over.1 in
        let low = (given_parts (w.at p.site).used p.serial over.0).0 in
        let high : p.serial ≤ (w.at step.site).used =
        subst (λ z. p.serial ≤ (w.at z).used) (sym same) (given_parts (w.at p.site).used p.serial over.0).1 in
        let o = step_over (w.at step.site) p.serial made answer t is high shut
        (shut_of (w.at step.site).used p.serial (is_open ((w.at step.site).session p.serial)) ((w.at step.site).process p.serial).standing
        (earlier record { site = step.site; serial = p.serial }) ((w.at step.site).acts p.serial) [] ((all step.site).1 p.serial) shut) in (
          (given_as t.used p.serial low o.2, o.3),
          o.5 ∙ ap (λ z. (w.at z).acts p.serial) same,
          none_if (some && true) (entries_for t.pushes p.serial) o.6,
        )
    at_site made answer t is false apart some = (over, refl, none_else some (entries_for (w.at p.site).pushes p.serial))

    go : (o : Option Event) → event_of w step ≡ o → Becomes w step.site o v → LeavesOver w v p (pushed_by w step v p)
    go None e same = subst (λ x. LeavesOver w x p (pushed_by w step x p)) (sym same) (
      over,
      refl,
      ap (λ (o : Option Event). if is_some o && site_eq step.site p.site then entries_for (w.at p.site).pushes p.serial else []) e,
    )
    go (Some made) e (answer, t, is, same) = subst (λ x. LeavesOver w x p (pushed_by w step x p)) (sym same)
        (at_site made answer t is (site_eq step.site p.site) refl (is_some (event_of w step)))

follows : (steps : List Step) (w v : Network) (earlier later : Proc → List Push) → Tells w steps later v → EachNews w earlier →
    (p : Proc) → IsOver w p → (acts_of v p ≡ acts_of w p) × (later p ≡ [])
follows [] w v earlier later (same, quiet) all p over = (ap (λ x. acts_of x p) same, quiet p)
follows (step ∷ steps) w v earlier later (u, more, one, rest, is) all p over =
    let now = leaves_over w u step earlier one all p over in
    let then_it = follows steps u v (λ q. earlier q ++ pushed_by w step u q) more rest (one_step w u step earlier one all) p now.0 in
    (then_it.0 ∙ now.1, is p ∙ ap (λ l. l ++ more p) now.2 ∙ then_it.1)

pub nothing_follows : NothingFollows
nothing_follows sites config steps more pushed later w v p r tells over =
    follows more w v pushed later tells (each_news sites config steps pushed w r) p over
