-- Who passes from one view to the next delivered the same messages of the first.
use Rattle.std.proofs.Common.{ap, append_assoc, arith, inl, inr, subst, sym, ◌∙◌}
use Rattle.std.proofs.lemmas.Bool.{and_parts, eq-eqb, eqb-true}
use Rattle.std.proofs.lemmas.List.Elements.{Contains-append_left, Contains-append_right}
use Rattle.std.specs.Prelude.{◌&&◌, ◌+◌, ◌++◌, ◌<◌, ◌==◌, Bool, Contains, IsTrue, List, None}
use Rattle.std.specs.Prelude.{Option, Some, [], false, if◌then◌else◌, refl, true, ℕ, ◌∷◌, ◌≡◌}
use Rattle.cast_rules.specs.Acts.{Act}
use Rattle.cast_rules.specs.Acts.Act.{Delivered, Entered}
use Rattle.cast_rules.specs.Run.{after_event}
use Rattle.cast_rules.specs.State.{State}
use Rattle.cast_message.specs.declared.message.Message.{Message}
use Rattle.cast_events.specs.declared.config.DomainConfig.{DomainConfig}
use Rattle.cast_events.specs.declared.event.Event.{Event}
use Rattle.cast_types.specs.Counts.{CountList, is_within}
use Rattle.cast_types.specs.Names.{entry_of, group_eq, uid_in, site_eq}
use Rattle.cast_types.specs.declared.names.GroupNo.{GroupNo}
use Rattle.cast_types.specs.declared.names.Proc.{Proc}
use Rattle.cast_types.specs.declared.names.SiteNo.{SiteNo}
use Rattle.cast_types.specs.declared.names.Uid.{Uid}
use Rattle.cast_world.proofs.Acts.{contains_around, contains_here, entered_other}
use Rattle.cast_world.proofs.Allowed.{contains_kept, passed}
use Rattle.cast_world.proofs.Cuts.{delivered_within}
use Rattle.cast_world.proofs.Events.{after_event_keeps, rests_keeps}
use Rattle.cast_world.proofs.Facts.{Facts}
use Rattle.cast_world.proofs.FlushRuns.{AllKept, kept_in_every, passes_with_cut}
use Rattle.cast_world.proofs.Homes.{among_kept}
use Rattle.cast_world.proofs.Lists.{contains_split, entered_same, never_nil}
use Rattle.cast_world.proofs.Ones.{outside_not_member}
use Rattle.cast_world.proofs.Runs.{facts, first, nothing, start_holds, step_arrives, step_holds}
use Rattle.cast_world.proofs.Seen.{AllSeen, SeenNow, kept_seen}
use Rattle.cast_world.proofs.Steps.{AllHold, Arrived}
use Rattle.cast_world.specs.Agreement.{Passes, delivered_of, of_view}
use Rattle.cast_world.specs.HappenedBefore.{NeverLeft, acts_of}
use Rattle.cast_world.specs.Laws.{AllDeliverTheSame, PassesWithCut, SameMessages}
use Rattle.cast_world.specs.Network.{Becomes, Happens, Leads, Network, Reaches, event_of, start}
use Rattle.cast_world.specs.Properties.{IsIn}
use Rattle.cast_world.specs.declared.step.Step.{Step}

-- Every run

abbrev pub EachSeen : Network → Type 0
EachSeen w = (s : SiteNo) → AllSeen (w.at s)

step_seen : (home : SiteNo) (w v : Network) (step : Step) → Happens w step v → AllHold home w → EachSeen w → EachSeen v
step_seen home w v step happens h all = go (event_of w step) refl happens
  where
    after : (t : State) → AllSeen t → (s : SiteNo) (b : Bool) → site_eq step.site s ≡ b → AllSeen (if b then t else w.at s)
    after t seen s true e = seen
    after t seen s false e = all s

    go : (o : Option Event) → event_of w step ≡ o → Becomes w step.site o v → EachSeen v
    go None e same = subst EachSeen (sym same) all
    go (Some made) e (answer, t, is, same) = subst EachSeen (sym same) (λ s. after t
        (rests_keeps (SeenNow home w step.site) (Arrived home w step.site) (site_eq step.site home) (kept_seen home w step.site)
        (after_event (w.at step.site) made) t is.rests
        (after_event_keeps (SeenNow home w step.site) (Arrived home w step.site) (site_eq step.site home) (kept_seen home w step.site)
        (w.at step.site) made
        (first home w h step.site, all step.site) (step_arrives home w h step made e))).1 s (site_eq step.site s) refl)

leads_seen : (home : SiteNo) (steps : List Step) (w v : Network) → Leads w steps v → AllHold home w → EachSeen w → EachSeen v
leads_seen home [] w v same h all = subst EachSeen (sym same) all
leads_seen home (step ∷ steps) w v (u, one, more) h all =
    leads_seen home steps u v more (step_holds home w u step one h) (step_seen home w u step one h all)

pub seen_in_every : (sites : List SiteNo) (config : SiteNo → DomainConfig) (steps : List Step) (w : Network) →
    Reaches sites config steps w → EachSeen w
seen_in_every sites config steps w r =
    let home : SiteNo = (config record { 0 = 0 }).home in
    leads_seen home steps (start sites config) w r.leads (start_holds sites config home (λ s. r.home s record { 0 = 0 }))
    (λ s k. record {
      inside = λ g e. absurd (outside_not_member e);
      reached = λ g v cut c. absurd (nothing _ c);
      seen = λ a c x e. absurd (never_nil a c x e);
    })

-- The law

module _ (w : Network) (f : Facts w) (seen : EachSeen w) (p : Proc) (g : GroupNo) (view : ℕ) (before cut : CountList) (a b c : List Act)
    (is : acts_of w p ≡ a ++ Entered g view before ∷ b ++ Entered g (view + 1) cut ∷ c) (stays : NeverLeft g b) where
  abbrev until : List Act
  until = a ++ Entered g view before ∷ b

  -- after the next view was entered no message of this one is delivered
  pub none_after : (m : Message) → Contains c (Delivered m) → m.id.group ≡ g → m.id.view ≡ view → ⊥
  none_after m at group in_view =
      let s = contains_split c (Delivered m) at in
      let past : List Act = until ++ Entered g (view + 1) cut ∷ s.0 in
      let whole : acts_of w p ≡ past ++ Delivered m ∷ s.1 =
      is
      ∙ ap (λ z. until ++ Entered g (view + 1) cut ∷ z) s.2
      ∙ sym (append_assoc until (Entered g (view + 1) cut ∷ s.0) (Delivered m ∷ s.1)) in
      let i : IsIn past g view =
      subst (λ v. IsIn past g v)
      in_view (subst (λ x. IsIn past x m.id.view) group ((seen p.site p.serial).seen past s.1 (Delivered m) whole)) in
      elim (contains_around i.0 i.1 (Entered g view i.2) (Entered g (view + 1) cut)
      (subst (λ z. Contains z (Entered g (view + 1) cut)) i.3 (contains_here until s.0 (Entered g (view + 1) cut)))) [
        | inl early ↦
            let low : view + 1 < view = (seen p.site p.serial).seen i.0 (i.1 ++ Delivered m ∷ s.1) (Entered g view i.2)
            (whole ∙ ap (λ z. z ++ Delivered m ∷ s.1) i.3 ∙ append_assoc i.0 (Entered g view i.2 ∷ i.1) (Delivered m ∷ s.1)) (view + 1)
            cut early in
            omega (arith, low)
        | inr (inl same) ↦ (let equal = (entered_same g g view (view + 1) i.2 cut same).1 in omega (arith, equal))
        | inr (inr later) ↦ i.5 (view + 1) cut later
      ]

  pub in_between : (m : Message) → Contains (acts_of w p) (Delivered m) → m.id.group ≡ g → m.id.view ≡ view → Contains b (Delivered m)
  in_between m at group in_view =
      elim (contains_around until c (Entered g (view + 1) cut) (Delivered m) (subst (λ z. Contains z (Delivered m)) is at)) [
        | inl early ↦ delivered_within w f p g view before cut a b c is stays m early group in_view
        | inr (inl same) ↦ absurd (entered_other m g (view + 1) cut (sym same))
        | inr (inr later) ↦ absurd (none_after m later group in_view)
      ]

module _ (home : SiteNo) (w : Network) (all : AllKept home w) (seen : EachSeen w) (with_cut : PassesWithCut w) where
  abbrev f : Facts w
  f = facts home w all.0

  same_one : (p q : Proc) (g : GroupNo) (view : ℕ) → Passes w p g view → Passes w q g view → (u : Uid) →
      Contains (of_view g view (delivered_of w p)) u → Contains (of_view g view (delivered_of w q)) u
  same_one p q g view (before, cut, a, b, c, is, stays) (before_q, cut_q, a_q, b_q, c_q, is_q, stays_q) u at =
      let test : Uid → Bool = λ x. group_eq x.group g && (x.view == view) in
      let tests = and_parts (group_eq u.group g) (u.view == view) (passed test ((w.at p.site).process p.serial).delivered u at) in
      let group : u.group ≡ g = ap (λ n. record { 0 = n }) (eqb-true u.group.0 g.0 tests.0) in
      let in_view : u.view ≡ view = eqb-true u.view view tests.1 in
      let name : u ≡ uid_in g view (entry_of u) = λ i. record { group = group i; view = in_view i; proc = u.proc; count = u.count } in
      let has = ((all.0.sites p.site).ones p.serial).fits.listed u (among_kept test ((w.at p.site).process p.serial).delivered u at) in
      let m : Message = has.0 in
      let in_b =
      in_between w f seen p g view before cut a b c is stays m has.2 (ap (λ (x : Uid). x.group) has.1 ∙ group)
      (ap (λ (x : Uid). x.view) has.1 ∙ in_view) in
      let within = (with_cut p g view before cut a b c (entry_of u) is stays).0 (m, has.1 ∙ name, in_b) in
      let one : cut ≡ _ =
      (((all.2.sites p.site).ones p.serial).entered g (view + 1) cut (subst (λ z. Contains z (Entered g (view + 1) cut)) (sym is)
      (contains_here (a ++ Entered g view before ∷ b) c (Entered g (view + 1) cut)))).1 in
      let two : cut_q ≡ _ =
      (((all.2.sites q.site).ones q.serial).entered g (view + 1) cut_q (subst (λ z. Contains z (Entered g (view + 1) cut_q)) (sym is_q)
      (contains_here (a_q ++ Entered g view before_q ∷ b_q) c_q (Entered g (view + 1) cut_q)))).1 in
      let done =
      (with_cut q g view before_q cut_q a_q b_q c_q (entry_of u) is_q stays_q).1
      (within.0, subst (λ x. IsTrue (is_within x (entry_of u))) (one ∙ sym two) within.1) in
      let whole : Contains (acts_of w q) (Delivered done.0) = subst (λ z. Contains z (Delivered done.0)) (sym is_q)
      (Contains-append_left (a_q ++ Entered g view before_q ∷ b_q) (Entered g (view + 1) cut_q ∷ c_q) (Delivered done.0)
      (Contains-append_right a_q (Entered g view before_q ∷ b_q) (Delivered done.0)
      (Contains-append_right (Entered g view before_q ∷ []) b_q (Delivered done.0) done.2))) in
      let listed : Contains ((w.at q.site).process q.serial).delivered u =
      subst (λ x. Contains ((w.at q.site).process q.serial).delivered x) (done.1 ∙ sym name)
      (((all.2.sites q.site).ones q.serial).has done.0 whole) in
      contains_kept test ((w.at q.site).process q.serial).delivered u listed
      (λ i. eq-eqb u.group.0 g.0 (ap (λ (x : GroupNo). x.0) group) i && eq-eqb u.view view in_view i)

  pub same_all : SameMessages w (delivered_of w)
  same_all p q g view one two u = (same_one p q g view one two u, same_one q p g view two one u)

pub same_messages : AllDeliverTheSame
same_messages sites config steps w r =
    same_all (config record { 0 = 0 }).home w (kept_in_every sites config steps w r) (seen_in_every sites config steps w r)
    (passes_with_cut sites config steps w r)
