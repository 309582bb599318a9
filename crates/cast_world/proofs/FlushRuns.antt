-- Every network that a list of steps leads to has what holds of flushes; so who passes to the next view has delivered exactly the cut.
use Rattle.std.proofs.Common.{ap, arith, inl, inr, subst, sym}
use Rattle.std.proofs.lemmas.Bool.{false≢true}
use Rattle.std.proofs.lemmas.List.Elements.{Contains-append_cases, Contains-append_right}
use Rattle.std.specs.Prelude.{◌+◌, ◌++◌, ◌<◌, Bool, Contains, IsTrue, List, None, Option, Some, []}
use Rattle.std.specs.Prelude.{false, if◌then◌else◌, is_some, map, refl, true, ℕ, ◌∷◌, ◌≡◌, ◌≤◌}
use Rattle.cast_rules.specs.Acts.{Act}
use Rattle.cast_rules.specs.Acts.Act.{Delivered, Entered, Sent}
use Rattle.cast_rules.specs.Rules.Views.{no_members}
use Rattle.cast_rules.specs.Run.{after_event, before_event}
use Rattle.cast_rules.specs.State.{State}
use Rattle.cast_message.specs.declared.message.Message.{Message}
use Rattle.cast_message.specs.declared.site.SiteFrame.{SiteFrame}
use Rattle.cast_events.specs.declared.config.DomainConfig.{DomainConfig}
use Rattle.cast_events.specs.declared.event.Event.{Event}
use Rattle.cast_types.specs.Counts.{CountList, is_within}
use Rattle.cast_types.specs.Names.{entry_of, site_eq}
use Rattle.cast_types.specs.declared.names.GroupNo.{GroupNo}
use Rattle.cast_types.specs.declared.names.SiteNo.{SiteNo}
use Rattle.cast_types.specs.declared.names.Uid.{Uid}
use Rattle.cast_world.proofs.Cuts.{counted, passes_above, still_in}
use Rattle.cast_world.proofs.Events.{after_event_keeps, rests_keeps}
use Rattle.cast_world.proofs.Facts.{Facts}
use Rattle.cast_world.proofs.Flush.{AllCovered, Choice, IsTrueOf, SiteAgrees, Told, numbers}
use Rattle.cast_world.proofs.FlushLaters.{agrees_later, covered_later, extends_same, true_later}
use Rattle.cast_world.proofs.FlushSteps.{FlushNow, Flushing, kept_flush, own_agrees}
use Rattle.cast_world.proofs.Homes.{idle_not}
use Rattle.cast_world.proofs.Invariants.{Sites}
use Rattle.cast_world.proofs.Lists.{never_nil}
use Rattle.cast_world.proofs.Ones.{outside_not_member}
use Rattle.cast_world.proofs.Runs.{facts, first, from_mapped, last, nothing, start_holds, step_arrives}
use Rattle.cast_world.proofs.Steps.{AllHold, Arrived, same_site, sites_at}
use Rattle.cast_world.specs.Laws.{AllPassWithCut}
use Rattle.cast_world.specs.Network.{Becomes, Happens, Leads, Network, Reaches, event_of, move_site, start}
use Rattle.cast_world.specs.declared.step.Packet.{Packet}
use Rattle.cast_world.specs.declared.step.Step.{Step}

pub record AllAgree (home : SiteNo) (w : Network) (choice : Choice) : Type 0 where
  pub sites : (s : SiteNo) → SiteAgrees choice (numbers w.at home) w.at s (w.at s)
  pub packets : (p : Packet) → Contains w.sent p → IsTrueOf choice (numbers w.at home) w.at p.from p.frame
  pub covered : AllCovered choice (numbers w.at home) w.at

-- One step

module _ (home : SiteNo) (w : Network) (h : AllHold home w) (choice : Choice) (agree : AllAgree home w choice) (a : SiteNo) where
  abbrev t0 : State
  t0 = before_event (w.at a)

  abbrev at0 : Sites
  at0 = sites_at home w a t0

  pub same_number : (g : GroupNo) → numbers at0 home g ≡ numbers w.at home g
  same_number g = go (site_eq a home) refl
    where
      go : (b : Bool) → site_eq a home ≡ b → ((if b then t0 else w.at home).home g).number ≡ ((w.at home).home g).number
      go true e = ap (λ z. ((w.at z).home g).number) (same_site a home e)
      go false e = refl

  same_told : (s : SiteNo) (g : GroupNo) (view : ℕ) (counts : CountList) → Told choice (numbers w.at home) (w.at s) g view counts →
      Told choice (numbers at0 home) (at0 s) g view counts
  same_told s g view counts told = go (site_eq a s) refl
    where
      here : (t : State) → Told choice (numbers w.at home) t g view counts → Told choice (numbers at0 home) t g view counts
      here t was = record {
        reached = was.reached;
        frozen = was.frozen;
        within = λ k m c group in_view. elim (was.within k m c group in_view) [
          | inl low ↦ inl low
          | inr cut ↦ inr ((let same = same_number g in let lt = cut.0 in omega (arith, same, lt)), cut.1)
        ];
        sent = was.sent;
      }

      go : (b : Bool) → site_eq a s ≡ b → Told choice (numbers at0 home) (if b then t0 else w.at s) g view counts
      go true e = here t0 (subst (λ z. Told choice (numbers w.at home) (w.at z) g view counts) (sym (same_site a s e)) told)
      go false e = here (w.at s) told

  pub flush_first : Flushing home w a t0 choice
  flush_first = record {
    sites = λ s. go s (site_eq a s) refl;
    packets = λ p c. true_later home choice choice w.at at0 extends same_told p.from p.to p.frame (h.packets p c) (agree.packets p c);
    covered = λ g view lt. let was : view < numbers w.at home g = (let same = same_number g in omega (arith, lt, same)) in
        covered_later home choice choice w.at at0 extends same_told g view (omega (arith, was)) (agree.covered g view was);
  }
    where
      extends : (g : GroupNo) → (numbers w.at home g ≤ numbers at0 home g) × ((n : ℕ) → n ≤ numbers w.at home g → choice g n ≡ choice g n)
      extends g = ((let same = same_number g in omega (arith, same)), λ n le. refl)

      here : SiteAgrees choice (numbers at0 home) at0 a t0
      here =
          let y =
          agrees_later home choice choice w.at at0 (λ g. ((let same = same_number g in omega (arith, same)), λ n le. refl))
          same_told a (w.at a) (h.sites a) (agree.sites a) in
          record {
            groups = y.groups;
            ones = y.ones;
            homes = y.homes;
            received = y.received;
            own = y.own;
            sent = λ to f c. absurd (omega (arith, c.1));
          }

      go : (s : SiteNo) (b : Bool) → site_eq a s ≡ b → SiteAgrees choice (numbers at0 home) at0 s (if b then t0 else w.at s)
      go s true e = subst (λ z. SiteAgrees choice (numbers at0 home) at0 z t0) (same_site a s e)
          (let y =
          agrees_later home choice choice w.at at0 (λ g. ((let same = same_number g in omega (arith, same)), λ n le. refl))
          same_told a (w.at a) (h.sites a) (agree.sites a) in
          record {
            groups = y.groups;
            ones = y.ones;
            homes = y.homes;
            received = y.received;
            own = y.own;
            sent = λ to f c. absurd (omega (arith, c.1));
          })
      go s false e =
          agrees_later home choice choice w.at at0 (λ g. ((let same = same_number g in omega (arith, same)), λ n le. refl))
          same_told s (w.at s) (h.sites s) (agree.sites s)

pub flush_last : (home : SiteNo) (w : Network) (a : SiteNo) (t : State) (choice : Choice) → Flushing home w a t choice →
    AllAgree home (move_site w a t) choice
flush_last home w a t choice f = record {
  sites = f.sites;
  packets = λ p c.
      elim (Contains-append_cases w.sent (map (λ (x : SiteNo × SiteFrame). record { from = a; to = x.0; frame = x.1 }) t.frames) p c) [
        | inl old ↦ f.packets p old
        | inr new ↦
            let from = from_mapped (λ (x : SiteNo × SiteFrame). record { from = a; to = x.0; frame = x.1 }) t.frames p new in
            subst (λ (q : Packet). IsTrueOf choice (numbers (sites_at home w a t) home) (sites_at home w a t) q.from q.frame)
            from.2 ((own_agrees home w a t choice f).sent from.0.0 from.0.1 from.1)
      ];
  covered = f.covered;
}

-- networks with all that holds
abbrev pub AllKept : SiteNo → Network → Type 0
AllKept home w = AllHold home w × (choice : Choice) × AllAgree home w choice

step_kept : (home : SiteNo) (w v : Network) (step : Step) → Happens w step v → AllKept home w → AllKept home v
step_kept home w v step happens (h, choice, agree) = go (event_of w step) refl happens
  where
    -- the numbers at the first moment of the step
    low : GroupNo → ℕ
    low = numbers (sites_at home w step.site (before_event (w.at step.site))) home

    after : (t : State) → FlushNow home w step.site choice low t → AllKept home (move_site w step.site t)
    after t (now, more, f, ext) = (last home w h step.site t now, more, flush_last home w step.site t more f)

    go : (o : Option Event) → event_of w step ≡ o → Becomes w step.site o v → AllKept home v
    go None e same = subst (AllKept home) (sym same) (h, choice, agree)
    go (Some made) e (answer, t, is, same) = subst (AllKept home) (sym same) (after t
        (rests_keeps (FlushNow home w step.site choice low) (Arrived home w step.site) (site_eq step.site home)
        (kept_flush home w step.site choice low) (after_event (w.at step.site) made) t is.rests
        (after_event_keeps (FlushNow home w step.site choice low) (Arrived home w step.site) (site_eq step.site home)
        (kept_flush home w step.site choice low) (w.at step.site) made
        (first home w h step.site, choice, flush_first home w h choice agree step.site, extends_same choice low)
        (step_arrives home w h step made e))))

leads_kept : (home : SiteNo) (steps : List Step) (w v : Network) → Leads w steps v → AllKept home w → AllKept home v
leads_kept home [] w v same i = subst (AllKept home) (sym same) i
leads_kept home (step ∷ steps) w v (u, one, more) i = leads_kept home steps u v more (step_kept home w u step one i)

-- The start

pub no_choice : Choice
no_choice g n = record { members = no_members; cut = [] }

pub start_agrees : (sites : List SiteNo) (config : SiteNo → DomainConfig) (home : SiteNo) → AllAgree home (start sites config) no_choice
unfolding no_choice
start_agrees sites config home = record {
  sites = λ s. record {
    groups = λ g. record {
      view = λ m e. absurd (false≢true (ap is_some e));
      pending = λ p e. absurd (false≢true (ap is_some e));
      frozen = λ e. absurd (false≢true e);
    };
    ones = λ k. record {
      listed = λ g e. absurd (outside_not_member e);
      has = λ m c. absurd (nothing (Delivered m) c);
      given = λ m c. absurd (nothing (Delivered m) c);
      sender = λ m c. absurd (nothing (Delivered m) c);
      entered = λ g n cut c. absurd (nothing (Entered g n cut) c);
      cuts = λ a c y e. absurd (never_nil a c y e);
    };
    homes = λ g. record {
      members = refl;
      decision = λ waiting d bodies e. absurd (idle_not waiting d bodies e);
      awaits = λ e. absurd (false≢true e);
      reports = λ q r c. absurd (nothing (q, r) c);
    };
    received = λ m c. absurd (nothing m c);
    own = λ k m c. absurd (nothing (Sent m) c);
    sent = λ to f c. absurd (nothing (to, f) c);
  };
  packets = λ p c. absurd (nothing p c);
  covered = λ g view lt. absurd (omega (arith, lt));
}

pub kept_in_every : (sites : List SiteNo) (config : SiteNo → DomainConfig) (steps : List Step) (w : Network) →
    Reaches sites config steps w → AllKept (config record { 0 = 0 }).home w
kept_in_every sites config steps w r =
    let home : SiteNo = (config record { 0 = 0 }).home in
    leads_kept home steps (start sites config)
    w r.leads (start_holds sites config home (λ s. r.home s record { 0 = 0 }), no_choice, start_agrees sites config home)

-- who passes from one view to the next has delivered exactly the cut
pub passes_with_cut : AllPassWithCut
passes_with_cut sites config steps w r p g view before cut a b c e is stays =
    let home : SiteNo = (config record { 0 = 0 }).home in
    let all = kept_in_every sites config steps w r in
    let f : Facts w = facts home w all.0 in
    let until : List Act = a ++ Entered g view before ∷ b in (
      (λ done.
          let m : Message = done.0 in
          let at : Contains until (Delivered m) =
          Contains-append_right a (Entered g view before ∷ b) (Delivered m)
          (Contains-append_right (Entered g view before ∷ []) b (Delivered m) done.2) in
          let group : m.id.group ≡ g = ap (λ (u : Uid). u.group) done.1 in
          let in_view : m.id.view ≡ view = ap (λ (u : Uid). u.view) done.1 in
          let entry : entry_of m.id ≡ e = ap entry_of done.1 in
          let low = counted w f p g view before cut a b c is stays m at in (
            (let same : m.id.count ≡ e.1 = ap (λ (u : Uid). u.count) done.1 in omega (arith, low, same)),
            subst (λ x. IsTrue (is_within cut x)) entry
                (((all.2.sites p.site).ones p.serial).cuts until c (Entered g (view + 1) cut)
                is view m (still_in w f p g view before cut a b c is stays) (inr at) group in_view),
          )),
      (λ both. passes_above w f p g view before cut a b c e is stays both.0 both.1),
    )
