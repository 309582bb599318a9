-- A view that a program is told has the members of an Install that was sent, and its process is one of them.
use Rattle.std.proofs.Common.{ap, append_assoc, inl, inr, subst, sym, ◌∙◌}
use Rattle.std.proofs.lemmas.Bool.{and_parts, eqb-true, false≢true}
use Rattle.std.proofs.lemmas.List.{append-nil}
use Rattle.std.proofs.lemmas.List.Elements.{Contains-append_cases, Contains-append_left, Contains-push_cases}
use Rattle.std.specs.List.{fold}
use Rattle.std.specs.Prelude.{◌&&◌, ◌+◌, ◌++◌, ◌==◌, Bool, Contains, List, None, Option, Some, [], cond, false, if◌then◌else◌, is_some, map}
use Rattle.std.specs.Prelude.{refl, true, ℕ, ◌∷◌, ◌≡◌}
use Rattle.cast_ready.specs.Ready.{is_member}
use Rattle.cast_rules.specs.Acts.Act.{Entered}
use Rattle.cast_rules.specs.Effects.{delivering}
use Rattle.cast_rules.specs.Entering.{enters, in_view, passing, putting_out}
use Rattle.cast_rules.specs.History.{history}
use Rattle.cast_rules.specs.Rules.Asking.{is_home}
use Rattle.cast_rules.specs.Rules.Keys.{id_in}
use Rattle.cast_rules.specs.Rules.Leaving.{close_session, end_session, leave_all, tell}
use Rattle.cast_rules.specs.Rules.Rest.{tell_if, told_of}
use Rattle.cast_rules.specs.Rules.Views.{change_view, tell_out}
use Rattle.cast_rules.specs.Run.{after_event, before_event, entries_for}
use Rattle.cast_rules.specs.State.{State, going, is_filled, local, local_members, serials, with_delivery, with_push}
use Rattle.cast_message.specs.Membership.{Membership}
use Rattle.cast_message.specs.Tail.{Tail}
use Rattle.cast_message.specs.declared.client.Push.{Push}
use Rattle.cast_message.specs.declared.message.Body.{Body}
use Rattle.cast_message.specs.declared.message.Message.{Message}
use Rattle.cast_message.specs.declared.site.SiteFrame.{SiteFrame}
use Rattle.cast_events.specs.Session.{Session, first_session, is_gone, is_open, pushed_to, tell_end}
use Rattle.cast_events.specs.declared.event.Event.{Event}
use Rattle.cast_types.specs.Counts.{CountList}
use Rattle.cast_types.specs.Names.{proc_eq, site_eq}
use Rattle.cast_types.specs.Sets.{is_among}
use Rattle.cast_types.specs.declared.names.GroupNo.{GroupNo}
use Rattle.cast_types.specs.declared.names.Proc.{Proc}
use Rattle.cast_types.specs.declared.names.SiteNo.{SiteNo}
use Rattle.cast_types.specs.declared.refusal.Refusal.{Refusal}
use Rattle.cast_types.specs.declared.refusal.Refusal.TheVariants.{Slow}
use Rattle.cast_view.specs.MemberSide.{is_taken_in}
use Rattle.cast_world.proofs.Acts.{contains_here}
use Rattle.cast_world.proofs.Allowed.{contains_more, passed}
use Rattle.cast_world.proofs.Events.{any_happens, event_keeps_wholly, rests_keeps_wholly, sets_any}
use Rattle.cast_world.proofs.Installs.{EachEntered, Entering, SiteEntered, entered_later, installed_later, kept_entering, named}
use Rattle.cast_world.proofs.Keeps.{keeps_if}
use Rattle.cast_world.proofs.Kept.{Any, Comes, KeptByOwing, WhollyKept, draws_less, kept_fully}
use Rattle.cast_world.proofs.Moves.{member_is}
use Rattle.cast_world.proofs.News.{entries_more}
use Rattle.cast_world.proofs.NewsRuns.{reaches}
use Rattle.cast_world.proofs.Properties.{installs_agree}
use Rattle.cast_world.proofs.Runs.{nothing, start_holds, step_arrives, step_holds}
use Rattle.cast_world.proofs.Steps.{AllHold, Arrived, same_site}
use Rattle.cast_world.proofs.Telling.{leave_all_keeps}
use Rattle.cast_world.proofs.Views.{still_member}
use Rattle.cast_world.proofs.Wholes.{kept_wholly}
use Rattle.cast_world.specs.Agreement.{WasInstalled}
use Rattle.cast_world.specs.Network.{Becomes, Happens, Network, event_of, move_site, start}
use Rattle.cast_world.specs.Programs.{AllShowInstalled, AllShowOneMembership}
use Rattle.cast_world.specs.Pushed.{Tells, pushed_by}
use Rattle.cast_world.specs.declared.step.Packet.{Packet}
use Rattle.cast_world.specs.declared.step.Step.{Step}
use Rattle.cast_message.specs.declared.client.CastKind.TheVariants as kind
use Rattle.cast_message.specs.declared.client.Push.TheVariants as push
use Rattle.cast_message.specs.declared.message.Body.TheVariants as body
use Rattle.cast_message.specs.declared.site.SiteFrame.TheVariants as frame

-- of an Install of the view that was sent, and that names the process
abbrev IsShown : Network → Proc → GroupNo → ℕ → Membership → Type 0
IsShown w p g view members = (tail : Tail) × WasInstalled w g view members tail × Contains members.list p

-- where an entry is a view
abbrev ShownBy : Network → Proc → Push → Type 0
ShownBy w p (push.Opened q) = Unit {0}
ShownBy w p (push.Reply tag refusal) = Unit {0}
ShownBy w p (push.View g view members) = IsShown w p g view members
ShownBy w p (push.Deliver u kind payload) = Unit {0}
ShownBy w p (push.Ejected g view) = Unit {0}
ShownBy w p (push.Denied g refusal) = Unit {0}
ShownBy w p (push.Closed refusal) = Unit {0}

abbrev AllShown : Network → Proc → List Push → Type 0
AllShown w p entries = (e : Push) → Contains entries e → ShownBy w p e

-- what was sent stays on the network
shown_later : (w v : Network) → ((p : Packet) → Contains w.sent p → Contains v.sent p) → (p : Proc) (e : Push) → ShownBy w p e →
    ShownBy v p e
shown_later w v grows p (push.Opened q) x = tt
shown_later w v grows p (push.Reply tag refusal) x = tt
shown_later w v grows p (push.View g view members) (tail, sent, names) = (tail, installed_later w v grows g view members tail sent, names)
shown_later w v grows p (push.Deliver u kind payload) x = tt
shown_later w v grows p (push.Ejected g view) x = tt
shown_later w v grows p (push.Denied g refusal) x = tt
shown_later w v grows p (push.Closed refusal) x = tt

-- The moves of a site

module _ (home : SiteNo) (w : Network) (a : SiteNo) where
  -- of this event
  abbrev Shown : State → Type 0
  Shown t = (k : ℕ) → AllShown w (local t k) (entries_for t.pushes k)

  said : (t : State) (k : ℕ) (v : Session) (p : Push) → Shown t → ShownBy w (local t k) p → Shown (with_push t k v p)
  said t k v p all one j e at =
      go (k == j) refl (subst (λ l. Contains l e) (entries_more t.pushes k p j) at)
    where
      go : (b : Bool) → (k == j) ≡ b → Contains (entries_for t.pushes j ++ cond b (p ∷ []) []) e → ShownBy w (local t j) e
      go true same there = elim (Contains-push_cases (entries_for t.pushes j) p e there) [
        | inl old ↦ all j e old
        | inr is ↦ subst (ShownBy w (local t j)) is (subst (λ i. ShownBy w (local t i) p) (eqb-true k j same) one)
      ]
      go false apart there = all j e (subst (λ l. Contains l e) (append-nil (entries_for t.pushes j)) there)

  owing_shown : KeptByOwing Any Shown
  owing_shown = record {
    emits = λ t to f x says adds draws. x;
    books = λ t moment casts x. x;
    owes = λ t key due x owes wants lacks awaited. x;
    renews = λ t key due x owes owed. x;
    pays = λ t test x. x;
    releases = λ t passes x. x;
    parts = λ t k g x. x;
    requests = λ t g what p x inside. x;
  }

  closes_shown : (t : State) (k : ℕ) (refusal : Refusal) → Shown t → Shown (close_session history t k refusal)
  closes_shown t k refusal x =
      let why : Refusal = if is_filled t k then Slow else refusal in
      leave_all_keeps Shown owing_shown (history.close t k why) k
      (keeps_if Shown (is_open (t.session k)) (with_push t k (tell_end why (t.session k)) (push.Closed why)) t
      (λ _. said t k (tell_end why (t.session k)) (push.Closed why) x tt) (λ _. x))

  tell_shown : (t : State) (k : ℕ) (p : Push) → Shown t → ShownBy w (local t k) p → Shown (tell history t k p)
  tell_shown t k p x one = go (is_open (t.session k)) (is_filled t k)
    where
      go : (b full : Bool) → Shown (if b then (if full then close_session history t k Slow
          else (if b then with_push t k (pushed_to (t.session k) p) p else t)) else t)
      go true true = closes_shown t k Slow x
      go true false = said t k (pushed_to (t.session k) p) p x one
      go false full = x

  goes_shown : (t : State) (k : ℕ) → Shown t → Shown (end_session history t k)
  goes_shown t k x =
      keeps_if Shown (is_gone (t.session k)) t (leave_all history (going t k) k) (λ _. x)
      (λ _. leave_all_keeps Shown owing_shown (going t k) k x)

  delivers_shown : (t : State) (k : ℕ) (m : Message) → Shown t → Shown (delivering t k m)
  delivers_shown t k m x = go m.body
    where
      go : (b : Body) → Shown (tell_if history (with_delivery t k m) k (told_of m.id b))
      go (body.Causal payload) = tell_shown (with_delivery t k m) k (push.Deliver m.id kind.Causal payload) x tt
      go (body.Atomic payload) = tell_shown (with_delivery t k m) k (push.Deliver m.id kind.Atomic payload) x tt
      go (body.Order sequence) = x

  module _ (t : State) (i : SiteEntered w t) (x : Shown t) (g : GroupNo) (skipped : Bool) (n : ℕ) (members : Membership) (request : ℕ)
      (cut : CountList) (comes : Comes (Arrived home w a) t g skipped n members request cut) where
    abbrev left : State
    left = putting_out t g skipped members

    abbrev entered : State
    entered = passing t g skipped n members request cut

    -- the members of the view that is passed to
    member_shown : (k : ℕ) → Contains (local_members entered g) k → IsShown w (local t k) g n members
    member_shown k at =
        named home w a t i g skipped n members request cut comes k
        (go (enters left g members request k) refl (passed (λ j. is_member ((entered.process j).standing g)) (serials entered) k at))
      where
        go : (b : Bool) → enters left g members request k ≡ b →
            is_member ((if b then in_view g n (left.process k) else left.process k).standing g) ≡ true →
            is_among proc_eq (local t k) members.list ≡ true
        go true e member = (and_parts (is_taken_in request ((left.process k).standing g)) (is_among proc_eq (local t k) members.list) e).1
        go false e member = (still_member t g skipped members k (member_is ((left.process k).standing g) member)).2

    -- programs are told, and the site stays the same
    abbrev StillShown : State → Type 0
    StillShown u = (u.here ≡ t.here) × Shown u

    owing_still : KeptByOwing Any StillShown
    owing_still = record {
      emits = λ u to f y says adds draws. y;
      books = λ u moment casts y. y;
      owes = λ u key due y owes wants lacks awaited. y;
      renews = λ u key due y owes owed. y;
      pays = λ u test y. y;
      releases = λ u passes y. y;
      parts = λ u k h y. y;
      requests = λ u h what p y inside. y;
    }

    tell_still : (u : State) (k : ℕ) (p : Push) → StillShown u → ShownBy w (local t k) p → StillShown (tell history u k p)
    tell_still u k p y one = go (is_open (u.session k)) (is_filled u k)
      where
        says : (v : Session) (q : Push) → ShownBy w (local t k) q → StillShown (with_push u k v q)
        says v q shown = (
          y.0,
          said u k v q y.1 (subst (λ (s : SiteNo). ShownBy w (record { site = s; serial = k }) q) (sym y.0) shown),
        )

        closed : (why : Refusal) → StillShown (leave_all history
            (if is_open (u.session k) then with_push u k (tell_end why (u.session k)) (push.Closed why) else u) k)
        closed why = leave_all_keeps StillShown owing_still
            (if is_open (u.session k) then with_push u k (tell_end why (u.session k)) (push.Closed why) else u) k
            (keeps_if StillShown (is_open (u.session k)) (with_push u k (tell_end why (u.session k)) (push.Closed why)) u
            (λ _. says (tell_end why (u.session k)) (push.Closed why) tt) (λ _. y))

        go : (b full : Bool) → StillShown (if b then (if full then close_session history u k Slow
            else (if b then with_push u k (pushed_to (u.session k) p) p else u)) else u)
        go true true = closed (if is_filled u k then Slow else Slow)
        go true false = says (pushed_to (u.session k) p) p one
        go false full = y

    tell_each : (p : Push) (who : List ℕ) (u : State) → StillShown u → ((k : ℕ) → Contains who k → ShownBy w (local t k) p) →
        StillShown (fold (λ v k. tell history v k p) u who)
    tell_each p [] u y all = y
    tell_each p (k ∷ who) u y all =
        tell_each p who (tell history u k p) (tell_still u k p y (all k (contains_here [] who k)))
        (λ j at. all j (contains_more k who j at))

    enters_shown : Shown (change_view history skipped t g n members request cut)
    enters_shown =
        (tell_each (push.View g n members) (local_members entered g)
        (fold (tell_out history g n) entered (history.put_out t g skipped members))
        (tell_each (push.Ejected g n) (history.put_out t g skipped members) entered (refl, x) (λ k at. tt)) member_shown).1

  abbrev ShownNow : State → Type 0
  ShownNow t = Entering home w a t × Shown t

  abbrev site_home : Bool
  site_home = is_home history (w.at a)

  abbrev e : WhollyKept (Entering home w a) (λ u. Entering home w a) (Arrived home w a) site_home true
  e = kept_wholly (Entering home w a) (λ g. Entering home w a) (λ u. Entering home w a) (Arrived home w a) site_home true
      (kept_fully (Entering home w a) (Arrived home w a) site_home (kept_entering home w a))

  abbrev owing_now : KeptByOwing (Arrived home w a) ShownNow
  owing_now = record {
    emits = λ t to f i says adds draws. (
      e.owing.emits t to f i.0 says adds (draws_less (Arrived home w a) ShownNow (Entering home w a) (λ u x. x.0) t f draws),
      i.1,
    );
    books = λ t moment casts i. (e.owing.books t moment casts i.0, i.1);
    owes = λ t key due i owes wants lacks awaited. (e.owing.owes t key due i.0 owes wants lacks awaited, i.1);
    renews = λ t key due i owes owed. (e.owing.renews t key due i.0 owes owed, i.1);
    pays = λ t test i. (e.owing.pays t test i.0, i.1);
    releases = λ t passes i. (e.owing.releases t passes i.0, i.1);
    parts = λ t k g i. (e.owing.parts t k g i.0, i.1);
    requests = λ t g what p i inside. (e.owing.requests t g what p i.0 inside, i.1);
  }

  kept_shown : WhollyKept ShownNow (λ u. ShownNow) (Arrived home w a) site_home true
  kept_shown = record {
    owing = owing_now;
    during = λ u. owing_now;
    truly = inr (
      (λ t key i owed is known.
          ((kept_entering home w a).telling.emits t key.site (frame.Ack (id_in (t.group key.group).number key)) i.0 tt, i.1)),
      λ t key due i owed. i,
    );
    fixed = λ t i. e.fixed t i.0;
    opens = λ t i. (e.opens t i.0, said t (t.used + 1) (first_session (local t (t.used + 1))) (push.Opened (local t (t.used + 1))) i.1 tt);
    takes = λ t k most i. (e.takes t k most i.0, i.1);
    replies = λ t k tag refusal i. (e.replies t k tag refusal i.0, tell_shown t k (push.Reply tag refusal) i.1 tt);
    denies = λ t k g refusal i. (e.denies t k g refusal i.0, tell_shown t k (push.Denied g refusal) i.1 tt);
    closes = λ t k refusal i open_it. (e.closes t k refusal i.0 open_it, closes_shown t k refusal i.1);
    goes = λ t k i. (e.goes t k i.0, goes_shown t k i.1);
    answers = λ t g i. (e.answers t g i.0, i.1);
    joins = λ t k g i open_it known out. (e.joins t k g i.0 open_it known out, i.1);
    sends = λ t g k content i member may room open_it asked_for. (e.sends t g k content i.0 member may room open_it asked_for, i.1);
    receives = λ t from m i came view member may new. (e.receives t from m i.0 came view member may new, i.1);
    received = λ t u i. (e.received t u i.0, i.1);
    acknowledged = λ t from u i came. (e.acknowledged t from u i.0 came, i.1);
    learns = λ t from u i came. (e.learns t from u i.0 came, i.1);
    delivers = λ t k m i c ready. (e.delivers t k m i.0 c ready, delivers_shown t k m i.1);
    freezes = λ t g i current. (e.freezes t g i.0 current, i.1);
    pends = λ t from g p tail i came current waits known. (e.pends t from g p tail i.0 came current waits known, i.1);
    enters = λ t g skipped n members request cut i comes. (
      e.enters t g skipped n members request cut i.0 comes,
      enters_shown t i.0.2 i.1 g skipped n members request cut comes,
    );
    homes = λ t g what i may. (e.homes t g what i.0 may, i.1);
  }

-- Every run

abbrev EachShown : Network → (Proc → List Push) → Type 0
EachShown w told = (p : Proc) → AllShown w p (told p)

step_shown : (home : SiteNo) (w v : Network) (step : Step) (earlier : Proc → List Push) → Happens w step v → AllHold home w →
    EachEntered w → EachShown w earlier → EachEntered v × EachShown v (λ p. earlier p ++ pushed_by w step v p)
step_shown home w v step earlier happens h all shown = go (event_of w step) refl happens
  where
    grows : (t : State) (p : Packet) → Contains w.sent p → Contains (move_site w step.site t).sent p
    grows t p at =
        Contains-append_left w.sent (map (λ (f : SiteNo × SiteFrame). record { from = step.site; to = f.0; frame = f.1 }) t.frames) p at

    after : (t : State) → SiteEntered w t → (s : SiteNo) (b : Bool) →
        SiteEntered (move_site w step.site t) (if b then t else w.at s)
    after t new s true = entered_later w (move_site w step.site t) (grows t) t new
    after t new s false = entered_later w (move_site w step.site t) (grows t) (w.at s) (all s)

    -- the entries of the event, at its site
    pushed_now : (t : State) → t.here ≡ step.site → ((k : ℕ) → AllShown w (local t k) (entries_for t.pushes k)) →
        (p : Proc) (b : Bool) → site_eq step.site p.site ≡ b →
        AllShown w p (if b then entries_for (if b then t else w.at p.site).pushes p.serial else [])
    pushed_now t here new p true same x at =
        subst (λ (s : SiteNo). ShownBy w (record { site = s; serial = p.serial }) x) (here ∙ same_site step.site p.site same)
        (new p.serial x at)
    pushed_now t here new p false apart x at = absurd (nothing x at)

    go : (o : Option Event) → event_of w step ≡ o → Becomes w step.site o v →
        EachEntered v × EachShown v (λ p. earlier p ++ pushed_by w step v p)
    go None e same =
        subst (λ x. EachEntered x × EachShown x (λ p. earlier p ++ pushed_by w step x p)) (sym same) (
          all,
          λ p x at. shown p x
              (subst (λ l. Contains l x) (ap (λ (o : Option Event).
              earlier p ++ (if is_some o && site_eq step.site p.site then entries_for (w.at p.site).pushes p.serial else [])) e
              ∙ append-nil (earlier p)) at),
        )
    go (Some made) e (answer, t, is, same) =
        let home_here : Bool = is_home history (w.at step.site) in
        let begin : ShownNow home w step.site (before_event (w.at step.site)) =
        ((refl, refl, all step.site), λ k x at. absurd (nothing x at)) in
        let end : ShownNow home w step.site t =
        rests_keeps_wholly (ShownNow home w step.site) (λ u. ShownNow home w step.site) (Arrived home w step.site) home_here true
        (kept_shown home w step.site) (after_event (w.at step.site) made) t is.rests
        (event_keeps_wholly (ShownNow home w step.site) (λ u. ShownNow home w step.site) (Arrived home w step.site) home_here true
        (kept_shown home w step.site) (w.at step.site) made begin (step_arrives home w h step made e)
        (sets_any (ShownNow home w step.site) (λ u quotas y. y) (before_event (w.at step.site)) made begin) (any_happens made)) in
        subst (λ x. EachEntered x × EachShown x (λ p. earlier p ++ pushed_by w step x p)) (sym same) (
          (λ s. after t end.0.2 s (site_eq step.site s)),
          λ p x at. shown_later w (move_site w step.site t) (grows t) p x
              (elim (Contains-append_cases (earlier p) (pushed_by w step (move_site w step.site t) p) x at) [
                | inl old ↦ shown p x old
                | inr new ↦ pushed_now t (end.0.0 ∙ (h.sites step.site).here_is) end.1 p (site_eq step.site p.site) refl x
                    (subst (λ l. Contains l x) (ap (λ (o : Option Event). if is_some o && site_eq step.site p.site
                    then entries_for ((move_site w step.site t).at p.site).pushes p.serial else []) e) new)
              ]),
        )

tells_shown : (home : SiteNo) (steps : List Step) (w v : Network) (earlier pushed : Proc → List Push) → Tells w steps pushed v →
    AllHold home w → EachEntered w → EachShown w earlier → EachShown v (λ p. earlier p ++ pushed p)
tells_shown home [] w v earlier pushed (same, quiet) h all shown =
    subst (λ x. EachShown x (λ p. earlier p ++ pushed p)) (sym same)
    (λ p x at. shown p x (subst (λ l. Contains l x) (ap (λ l. earlier p ++ l) (quiet p) ∙ append-nil (earlier p)) at))
tells_shown home (step ∷ steps) w v earlier pushed (u, more, one, rest, is) h all shown =
    let next = step_shown home w u step earlier one h all shown in
    let later =
    tells_shown home steps u v (λ p. earlier p ++ pushed_by w step u p) more rest (step_holds home w u step one h) next.0 next.1 in
    λ p x at. later p x
    (subst (λ l. Contains l x) (ap (λ l. earlier p ++ l) (is p) ∙ sym (append_assoc (earlier p) (pushed_by w step u p) (more p))) at)

pub show_installed : AllShowInstalled
show_installed sites config steps pushed w r p g view members at =
    let home : SiteNo = (config record { 0 = 0 }).home in
    tells_shown home steps (start sites config) w (λ q. []) pushed r.tells
    (start_holds sites config home (λ s. r.home s record { 0 = 0 }))
    (λ s. (
      λ k h v cut c. absurd (nothing (Entered h v cut) c),
      λ h q is. absurd (false≢true (ap is_some is)),
      λ h m is. absurd (false≢true (ap is_some is)),
    ))
    (λ q x c. absurd (nothing x c)) p (push.View g view members) at

pub show_one_membership : AllShowOneMembership
show_one_membership sites config steps pushed w r p q g view members others at_p at_q =
    let one = show_installed sites config steps pushed w r p g view members at_p in
    let two = show_installed sites config steps pushed w r q g view others at_q in
    installs_agree sites config steps w (reaches sites config steps pushed w r) g view members others one.0 two.0 one.1 two.1
