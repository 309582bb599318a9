-- Whoever enters a view does so by an Install of it that was sent and names the process. So does a site that has a view.
use Rattle.std.proofs.Common.{ap, inl, inr, subst, sym}
use Rattle.std.proofs.lemmas.Bool.{and_parts, false≢true}
use Rattle.std.proofs.lemmas.List.Elements.{Contains-append_left}
use Rattle.std.specs.List.{list_any}
use Rattle.std.specs.Prelude.{◌+◌, ◌++◌, ◌==◌, Bool, Contains, List, None, Option, Some, []}
use Rattle.std.specs.Prelude.{false, if◌then◌else◌, is_some, map, refl, true, ℕ, ◌∷◌, ◌≡◌, ◌⊎◌}
use Rattle.cast_ready.specs.Ready.{is_member}
use Rattle.cast_rules.specs.Acts.{Act}
use Rattle.cast_rules.specs.Acts.Act.{Delivered, Entered, Left, Sent}
use Rattle.cast_rules.specs.Effects.{next_message}
use Rattle.cast_rules.specs.Entering.{enters, is_put_out, passing, putting_out}
use Rattle.cast_rules.specs.History.{history}
use Rattle.cast_rules.specs.Rules.Asking.{is_home}
use Rattle.cast_rules.specs.Rules.Views.{no_members}
use Rattle.cast_rules.specs.Run.{after_event}
use Rattle.cast_rules.specs.State.{State, local, noting_act, outside}
use Rattle.cast_message.specs.Membership.{Membership}
use Rattle.cast_message.specs.Tail.{Tail}
use Rattle.cast_message.specs.declared.message.Message.{Message}
use Rattle.cast_message.specs.declared.site.SiteFrame.{SiteFrame}
use Rattle.cast_events.specs.declared.config.DomainConfig.{DomainConfig}
use Rattle.cast_events.specs.declared.event.Event.{Event}
use Rattle.cast_types.specs.Counts.{CountList}
use Rattle.cast_types.specs.Names.{group_eq, proc_eq, site_eq}
use Rattle.cast_types.specs.Sets.{is_among, set_at}
use Rattle.cast_types.specs.declared.names.GroupNo.{GroupNo}
use Rattle.cast_types.specs.declared.names.Proc.{Proc}
use Rattle.cast_types.specs.declared.names.SiteNo.{SiteNo}
use Rattle.cast_view.specs.MemberSide.{MemberSide, frozen_side, is_taken_in, with_answer, with_pending, with_request, with_view}
use Rattle.cast_view.specs.Sites.{is_at, local_view}
use Rattle.cast_view.specs.declared.member.Pending.{Pending}
use Rattle.cast_world.proofs.Acts.{contains_around}
use Rattle.cast_world.proofs.Events.{after_event_keeps, rests_keeps}
use Rattle.cast_world.proofs.FlushSites.{proc_among}
use Rattle.cast_world.proofs.Kept.{Comes, Kept, completes, ends, installs, skips}
use Rattle.cast_world.proofs.Laters.{set_all, set_group_all}
use Rattle.cast_world.proofs.Lists.{entered_same, entry_delivered, entry_left, entry_sent}
use Rattle.cast_world.proofs.Runs.{nothing, some_is, start_holds, step_arrives, step_holds}
use Rattle.cast_world.proofs.Steps.{AllHold, Arrived}
use Rattle.cast_world.specs.Agreement.{WasInstalled}
use Rattle.cast_world.specs.Network.{Becomes, Happens, Leads, Network, Reaches, event_of, move_site, start}
use Rattle.cast_world.specs.Properties.{EntersByInstall}
use Rattle.cast_world.specs.declared.step.Packet.{Packet}
use Rattle.cast_world.specs.declared.step.Step.{Step}

-- an Install of a view that names a process was sent
abbrev pub NamedIn : Network → Proc → GroupNo → ℕ → Type 0
NamedIn w p g view = (members : Membership) × (tail : Tail) × WasInstalled w g view members tail × Contains members.list p

-- one of each view that the process entered
abbrev pub EnteredBy : Network → Proc → List Act → Type 0
EnteredBy w p acts = (g : GroupNo) (view : ℕ) (cut : CountList) → Contains acts (Entered g view cut) → NamedIn w p g view

-- an Install that waits was sent
abbrev pub WaitsBy : Network → GroupNo → MemberSide → Type 0
WaitsBy w g group = (p : Pending) → group.pending ≡ Some p → (tail : Tail) × WasInstalled w g (group.number + 1) p.members tail

-- one of the view that the site has was sent
abbrev pub ViewedBy : Network → GroupNo → MemberSide → Type 0
ViewedBy w g group = (m : Membership) → group.view ≡ Some m → (tail : Tail) × WasInstalled w g group.number m tail

abbrev pub SiteEntered : Network → State → Type 0
SiteEntered w t =
    ((k : ℕ) → EnteredBy w (local t k) (t.acts k)) × ((g : GroupNo) → WaitsBy w g (t.group g)) × ((g : GroupNo) → ViewedBy w g (t.group g))

abbrev pub EachEntered : Network → Type 0
EachEntered w = (s : SiteNo) → SiteEntered w (w.at s)

-- what was sent stays on the network
module _ (w v : Network) (grows : (p : Packet) → Contains w.sent p → Contains v.sent p) where
  pub installed_later : (g : GroupNo) (view : ℕ) (members : Membership) (tail : Tail) → WasInstalled w g view members tail →
      WasInstalled v g view members tail
  installed_later g view members tail (from, to, request, cut, at) = (from, to, request, cut, grows _ at)

  pub entered_later : (t : State) → SiteEntered w t → SiteEntered v t
  entered_later t i = (
    λ k g view cut at. let was = i.0 k g view cut at in (was.0, was.1, installed_later g view was.0 was.1 was.2, was.3),
    (λ g p is. let was = i.1 g p is in (was.0, installed_later g ((t.group g).number + 1) p.members was.0 was.1)),
    λ g m is. let was = i.2 g m is in (was.0, installed_later g (t.group g).number m was.0 was.1),
  )

-- The moves of a site

module _ (home : SiteNo) (w : Network) (a : SiteNo) where
  abbrev pub Entering : State → Type 0
  Entering t = (t.here ≡ (w.at a).here) × (t.config ≡ (w.at a).config) × SiteEntered w t

  -- a process does one thing more, and enters no view
  more : (t : State) → SiteEntered w t → (k : ℕ) (acts : List Act) →
      ((g : GroupNo) (n : ℕ) (cut : CountList) → Contains acts (Entered g n cut) → Contains (t.acts k) (Entered g n cut)) → (j : ℕ) →
      EnteredBy w (local t j) (set_at (λ b c. b == c) t.acts k acts j)
  more t i k acts old =
      set_all (λ j (x : List Act). EnteredBy w (local t j) x) t.acts k acts i.0 (λ g n cut at. i.0 k g n cut (old g n cut at))

  parted : (t : State) → SiteEntered w t → (k : ℕ) (g : GroupNo) → SiteEntered w (outside t k g)
  parted t i k g = (go (is_member ((t.process k).standing g)), i.1, i.2)
    where
      go : (b : Bool) (j : ℕ) → EnteredBy w (local t j) ((if b then (noting_act t k (Left g)).acts else t.acts) j)
      go true = more t i k (t.acts k ++ Left g ∷ []) (λ h n cut at. entry_left (t.acts k) g h n cut at)
      go false = i.0

  -- the group of a site changes
  regrouped : (t : State) → SiteEntered w t → (g : GroupNo) (v : MemberSide) → WaitsBy w g v → ViewedBy w g v →
      ((h : GroupNo) → WaitsBy w h (set_at group_eq t.group g v h)) × ((h : GroupNo) → ViewedBy w h (set_at group_eq t.group g v h))
  regrouped t i g v one two = (set_group_all (WaitsBy w) t.group g v i.1 one, set_group_all (ViewedBy w) t.group g v i.2 two)

  -- an Install of the view that a site passes to was sent
  viewed : (t : State) → SiteEntered w t → (g : GroupNo) (skipped : Bool) (n : ℕ) (members : Membership) (request : ℕ) (cut : CountList) →
      Comes (Arrived home w a) t g skipped n members request cut → (m : Membership) → local_view t.here members ≡ Some m →
      (tail : Tail) × WasInstalled w g n m tail
  viewed t i g skipped n members request cut comes m e = go (list_any (is_at t.here) members.list) refl e
    where
      by : Comes (Arrived home w a) t g skipped n members request cut → list_any (is_at t.here) members.list ≡ true →
          (tail : Tail) × WasInstalled w g n members tail
      by (completes p is all no_skip n_is members_is request_is cut_is) some =
          let was = i.1 g p is in (
            was.0,
            subst (λ v. WasInstalled w g v members was.0) (sym n_is)
                (subst (λ x. WasInstalled w g ((t.group g).number + 1) x was.0) (sym members_is) was.1),
          )
      by (installs from tail came none no_skip up) some = (tail, (from, a, request, cut, came))
      by (skips from tail came skip up) some = (tail, (from, a, request, cut, came))
      by (ends from came skip up members_is) some =
          absurd (false≢true (subst (λ (x : Membership). list_any (is_at t.here) x.list ≡ true) members_is some))

      go : (b : Bool) → list_any (is_at t.here) members.list ≡ b → (if b then Some members else None) ≡ Some m →
          (tail : Tail) × WasInstalled w g n m tail
      go true some is = subst (λ x. (tail : Tail) × WasInstalled w g n x tail) (some_is members m is) (by comes some)
      go false none is = absurd (false≢true (ap is_some is))

  -- an Install of the view that a site passes to was sent, with these members; or there are none
  pub installed_now : (t : State) → SiteEntered w t → (g : GroupNo) (skipped : Bool) (n : ℕ) (members : Membership) (request : ℕ)
      (cut : CountList) → Comes (Arrived home w a) t g skipped n members request cut →
      ((tail : Tail) × WasInstalled w g n members tail) ⊎ (members ≡ no_members)
  installed_now t i g skipped n members request cut (completes p is all no_skip n_is members_is request_is cut_is) =
      let was = i.1 g p is in
      inl (
        was.0,
        subst (λ v. WasInstalled w g v members was.0) (sym n_is)
            (subst (λ (m : Membership). WasInstalled w g ((t.group g).number + 1) m was.0) (sym members_is) was.1),
      )
  installed_now t i g skipped n members request cut (installs from tail came none no_skip up) =
      inl (tail, (from, a, request, cut, came))
  installed_now t i g skipped n members request cut (skips from tail came skip up) = inl (tail, (from, a, request, cut, came))
  installed_now t i g skipped n members request cut (ends from came skip up members_is) = inr members_is

  -- so it names whoever is taken in
  pub named : (t : State) → SiteEntered w t → (g : GroupNo) (skipped : Bool) (n : ℕ) (members : Membership) (request : ℕ)
      (cut : CountList) → Comes (Arrived home w a) t g skipped n members request cut → (k : ℕ) →
      is_among proc_eq (local t k) members.list ≡ true →
      (tail : Tail) × WasInstalled w g n members tail × Contains members.list (local t k)
  named t i g skipped n members request cut comes k among = elim (installed_now t i g skipped n members request cut comes) [
    | inl (tail, sent) ↦ (tail, sent, proc_among members.list (local t k) among)
    | inr members_is ↦ absurd (false≢true (subst (λ (m : Membership). is_among proc_eq (local t k) m.list ≡ true) members_is among))
  ]

  passed_to : (t : State) → SiteEntered w t → (g : GroupNo) (skipped : Bool) (n : ℕ) (members : Membership) (request : ℕ)
      (cut : CountList) → Comes (Arrived home w a) t g skipped n members request cut →
      SiteEntered w (passing t g skipped n members request cut)
  passed_to t i g skipped n members request cut comes =
      let groups =
      regrouped t i g (with_view t.here n members (t.group g)) (λ p is. absurd (false≢true (ap is_some is)))
      (viewed t i g skipped n members request cut comes) in (
        (λ k. two k (enters left g members request k) refl),
        groups.0,
        groups.1,
      )
    where
      left : State
      left = putting_out t g skipped members

      one : (k : ℕ) (b : Bool) → EnteredBy w (local t k) (if b then t.acts k ++ Left g ∷ [] else t.acts k)
      one k true = λ h v c at. i.0 k h v c (entry_left (t.acts k) g h v c at)
      one k false = i.0 k

      two : (k : ℕ) (b : Bool) → enters left g members request k ≡ b →
          EnteredBy w (local t k) (if b then left.acts k ++ Entered g n cut ∷ [] else left.acts k)
      two k true e = λ h v c at. elim (contains_around (left.acts k) [] (Entered g n cut) (Entered h v c) at) [
        | inl old ↦ one k (is_put_out t g skipped members k) h v c old
        | inr (inl same) ↦
            let is = entered_same g h n v cut c same in
            let by = named t i g skipped n members request cut comes k
            (and_parts (is_taken_in request ((left.process k).standing g)) (is_among proc_eq (local t k) members.list) e).1 in
            subst (λ x. NamedIn w (local t k) x v) is.0
            (subst (λ x. NamedIn w (local t k) g x) is.1 (members, by.0, by.1, by.2))
        | inr (inr none) ↦ absurd (nothing (Entered h v c) none)
      ]
      two k false e = one k (is_put_out t g skipped members k)

  pub kept_entering : Kept Entering (Arrived home w a) (is_home history (w.at a))
  kept_entering = record {
    telling = record {
      emits = λ t to f i says. i;
      books = λ t quotas moment acks told owed casts pushes i. i;
      releases = λ t lets i. i;
      sets_session = λ t k v i same. i;
      parts = λ t k g i. (i.0, i.1, parted t i.2 k g);
      requests = λ t g what p i.
          let groups = regrouped t i.2 g (with_request (t.group g) what p) (i.2.1 g) (i.2.2 g) in
          (i.0, i.1, (i.2.0, groups.0, groups.1));
    };
    fixed = λ t i. λ j. site_eq (i.0 j) (i.1 j).home;
    opens = λ t i. i;
    answers = λ t g i.
        let groups = regrouped t i.2 g (with_answer (t.group g)) (i.2.1 g) (i.2.2 g) in
        (i.0, i.1, (i.2.0, groups.0, groups.1));
    joins = λ t k g i open_it known out. i;
    sends = λ t g k content i member may.
        let m : Message = next_message t g k content in (
          i.0,
          i.1,
          (more t i.2 k (t.acts k ++ Sent m ∷ []) (λ h n cut at. entry_sent (t.acts k) m h n cut at), i.2.1, i.2.2),
        );
    receives = λ t from m i came view member. i;
    delivers = λ t k m i c ready. (
      i.0,
      i.1,
      (more t i.2 k (t.acts k ++ Delivered m ∷ []) (λ h n cut at. entry_delivered (t.acts k) m h n cut at), i.2.1, i.2.2),
    );
    freezes = λ t g i current.
        let groups = regrouped t i.2 g (frozen_side (t.group g)) (i.2.1 g) (i.2.2 g) in
        (i.0, i.1, (i.2.0, groups.0, groups.1));
    pends = λ t from g p tail i came current.
        let groups = regrouped t i.2 g (with_pending (t.group g) p) (λ q is. (
          tail,
          subst (λ (x : Pending). WasInstalled w g ((t.group g).number + 1) x.members tail) (some_is p q is)
              (from, a, p.request, p.cut, came),
        )) (i.2.2 g) in
        (i.0, i.1, (i.2.0, groups.0, groups.1));
    passes = λ t g skipped n members request cut i comes. (i.0, i.1, passed_to t i.2 g skipped n members request cut comes);
    homes = λ t g what i may. i;
  }

-- Every run

pub step_entered : (home : SiteNo) (w v : Network) (step : Step) → Happens w step v → AllHold home w → EachEntered w → EachEntered v
step_entered home w v step happens h all = go (event_of w step) refl happens
  where
    grows : (t : State) (p : Packet) → Contains w.sent p → Contains (move_site w step.site t).sent p
    grows t p at =
        Contains-append_left w.sent (map (λ (f : SiteNo × SiteFrame). record { from = step.site; to = f.0; frame = f.1 }) t.frames) p at

    after : (t : State) → SiteEntered w t → (s : SiteNo) (b : Bool) →
        SiteEntered (move_site w step.site t) (if b then t else w.at s)
    after t new s true = entered_later w (move_site w step.site t) (grows t) t new
    after t new s false = entered_later w (move_site w step.site t) (grows t) (w.at s) (all s)

    go : (o : Option Event) → event_of w step ≡ o → Becomes w step.site o v → EachEntered v
    go None e same = subst EachEntered (sym same) all
    go (Some made) e (answer, t, is, same) = subst EachEntered (sym same) (λ s. after t
        (rests_keeps (Entering home w step.site) (Arrived home w step.site) (is_home history (w.at step.site))
        (kept_entering home w step.site) (after_event (w.at step.site) made) t is.rests
        (after_event_keeps (Entering home w step.site) (Arrived home w step.site) (is_home history (w.at step.site))
        (kept_entering home w step.site) (w.at step.site) made
        (refl, refl, all step.site) (step_arrives home w h step made e))).2 s (site_eq step.site s))

leads_entered : (home : SiteNo) (steps : List Step) (w v : Network) → Leads w steps v → AllHold home w → EachEntered w → EachEntered v
leads_entered home [] w v same h all = subst EachEntered (sym same) all
leads_entered home (step ∷ steps) w v (u, one, more_steps) h all =
    leads_entered home steps u v more_steps (step_holds home w u step one h) (step_entered home w u step one h all)

pub start_entered : (sites : List SiteNo) (config : SiteNo → DomainConfig) → EachEntered (start sites config)
start_entered sites config s = (
  (λ k g view cut at. absurd (nothing (Entered g view cut) at)),
  (λ g p is. absurd (false≢true (ap is_some is))),
  λ g m is. absurd (false≢true (ap is_some is)),
)

pub entered_in_every : (sites : List SiteNo) (config : SiteNo → DomainConfig) (steps : List Step) (w : Network) →
    Reaches sites config steps w → EachEntered w
entered_in_every sites config steps w r =
    let home : SiteNo = (config record { 0 = 0 }).home in
    leads_entered home steps (start sites config) w r.leads (start_holds sites config home (λ s. r.home s record { 0 = 0 }))
    (start_entered sites config)

pub by_install : (home : SiteNo) (w : Network) → AllHold home w → EachEntered w → EntersByInstall w
by_install home w h all p g view cut at =
    subst (λ (s : SiteNo). NamedIn w (record { site = s; serial = p.serial }) g view) (h.sites p.site).here_is
    ((all p.site).0 p.serial g view cut at)
