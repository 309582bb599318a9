-- Every network that a list of steps leads to has the invariants, so the facts, so the law of causal delivery.
use Rattle.std.proofs.Common.{ap, arith, inl, inr, subst, sym}
use Rattle.std.proofs.lemmas.Bool.{and_parts, false≢true, true≢false}
use Rattle.std.proofs.lemmas.List.Elements.{Contains-append_cases}
use Rattle.std.specs.Prelude.{◌&&◌, Bool, Contains, List, None, Option, Some, [], false, if◌then◌else◌}
use Rattle.std.specs.Prelude.{is_some, map, refl, slice_get, suc, true, unwrap_or, zero, ℕ, ◌∷◌, ◌≡◌}
use Rattle.cast_rules.specs.Run.{IsStep, after_event, before_event}
use Rattle.cast_rules.specs.State.{State, no_process}
use Rattle.cast_message.specs.declared.site.SiteFrame.{SiteFrame}
use Rattle.cast_events.specs.declared.config.DomainConfig.{DomainConfig}
use Rattle.cast_events.specs.declared.event.Event.{Event}
use Rattle.cast_events.specs.declared.event.Taken.{Taken}
use Rattle.cast_types.specs.Names.{site_eq}
use Rattle.cast_types.specs.Sets.{is_among}
use Rattle.cast_types.specs.declared.names.DomainNo.{DomainNo}
use Rattle.cast_types.specs.declared.names.SiteNo.{SiteNo}
use Rattle.cast_view.specs.MemberSide.{no_group}
use Rattle.cast_world.proofs.Derivation.{delivers}
use Rattle.cast_world.proofs.Events.{HasCome, after_event_keeps, rests_keeps}
use Rattle.cast_world.proofs.Facts.{ActWell, Each, Facts}
use Rattle.cast_world.proofs.Homes.{idle_not}
use Rattle.cast_world.proofs.Invariants.{Ahead, IsSound, Later, OneHolds, SiteHolds, Sites}
use Rattle.cast_world.proofs.Laters.{later_same, site_later, sound_later}
use Rattle.cast_world.proofs.Lists.{never_nil}
use Rattle.cast_world.proofs.Local.{outside_not_joining}
use Rattle.cast_world.proofs.Ones.{outside_not_member}
use Rattle.cast_world.proofs.Steps.{AllHold, Arrived, Now, kept_now, own_holds, same_site, sites_at}
use Rattle.cast_world.specs.HappenedBefore.{acts_of}
use Rattle.cast_world.specs.Laws.{CausalDelivery}
use Rattle.cast_world.specs.Network.{Becomes, Happens, Leads, Network, Reaches, event_at}
use Rattle.cast_world.specs.Network.{event_of, hand_frame, is_local, move_site, names, start}
use Rattle.cast_world.specs.declared.step.Happening.{Happening}
use Rattle.cast_world.specs.declared.step.Packet.{Packet}
use Rattle.cast_world.specs.declared.step.Step.{Step}
use Rattle.cast_events.specs.declared.event.Event.TheVariants as event
use Rattle.cast_world.specs.declared.step.Happening.TheVariants as happen

pub got_there : {X : Type 0} (xs : List X) (k : ℕ) (x : X) → slice_get xs k ≡ Some x → Contains xs x
got_there [] k x e = absurd (false≢true (ap is_some e))
got_there (y ∷ xs) zero x e = (0, omega arith, ap (λ o. unwrap_or o y) e)
got_there (y ∷ xs) (suc k) x e = let rest = got_there xs k x e in (suc rest.0, omega (arith, rest.1), rest.2)

pub from_mapped : {X Y : Type 0} (f : X → Y) (xs : List X) (y : Y) → Contains (map f xs) y → (x : X) × Contains xs x × (f x ≡ y)
from_mapped f [] y at = absurd (omega (arith, at.1))
from_mapped f (x ∷ xs) y (zero, lt, e) = (x, (0, omega arith, refl), e)
from_mapped f (x ∷ xs) y (suc k, lt, e) =
    let rest = from_mapped f xs y (k, omega (arith, lt), e) in
    (rest.0, (suc rest.1.0, omega (arith, rest.1.1), rest.1.2), rest.2)

pub some_is : {X : Type 0} (x y : X) → Some x ≡ Some y → x ≡ y
some_is x y e = ap (λ o. unwrap_or o x) e

-- One step

module _ (home : SiteNo) (w : Network) (h : AllHold home w) (a : SiteNo) where
  abbrev t0 : State
  t0 = before_event (w.at a)

  pub ahead_first : Ahead w.at (sites_at home w a t0)
  ahead_first s = go (site_eq a s) refl
    where
      go : (b : Bool) → site_eq a s ≡ b → Later (w.at s) (if b then t0 else w.at s)
      go true e = subst (λ z. Later (w.at z) t0) (same_site a s e) (later_same (w.at a))
      go false e = later_same (w.at s)

  pub first : Now home w a t0
  first = (
    (λ s. go s (site_eq a s) refl),
    λ p c. sound_later w.at (sites_at home w a t0) home ahead_first p.from p.to p.frame (h.packets p c),
  )
    where
      here : SiteHolds (sites_at home w a t0) home a t0
      here =
          let x = site_later w.at (sites_at home w a t0) home ahead_first a (w.at a) (h.sites a) in
          record {
            here_is = x.here_is;
            home_is = x.home_is;
            opened = x.opened;
            ones = x.ones;
            groups = x.groups;
            homes = x.homes;
            received = x.received;
            stored = x.stored;
            sent = λ to f c. absurd (omega (arith, c.1));
          }

      go : (s : SiteNo) (b : Bool) → site_eq a s ≡ b → SiteHolds (sites_at home w a t0) home s (if b then t0 else w.at s)
      go s true e = subst (λ z. SiteHolds (sites_at home w a t0) home z t0) (same_site a s e) here
      go s false e = site_later w.at (sites_at home w a t0) home ahead_first s (w.at s) (h.sites s)

  pub last : (t : State) → Now home w a t → AllHold home (move_site w a t)
  last t now = record {
    sites = now.0;
    packets = λ p c.
        elim (Contains-append_cases w.sent (map (λ (f : SiteNo × SiteFrame). record { from = a; to = f.0; frame = f.1 }) t.frames) p c) [
          | inl old ↦ now.1 p old
          | inr new ↦
              let from = from_mapped (λ (f : SiteNo × SiteFrame). record { from = a; to = f.0; frame = f.1 }) t.frames p new in
              subst (λ (q : Packet). IsSound (sites_at home w a t) home q.from q.to q.frame)
              from.2 ((own_holds home w a t now).sent from.0.0 from.0.1 from.1)
        ];
  }

  abbrev Arrives : Event → Type 0
  Arrives e = HasCome (Arrived home w a) e

  local_arrives : (e : Event) → is_local e ≡ true → Arrives e
  local_arrives (event.Open d) is = tt
  local_arrives (event.Command d n c) is = tt
  local_arrives (event.Gone d n) is = tt
  local_arrives (event.Frame d from f) is = absurd (false≢true is)
  local_arrives (event.Suspect d site) is = tt
  local_arrives (event.Quota d name value) is = tt
  local_arrives (event.Take d n most) is = tt
  local_arrives (event.Tick t) is = tt

  handed_arrives : (d : DomainNo) (o : Option Packet) → ((p : Packet) → o ≡ Some p → Contains w.sent p) → (made : Event) →
      hand_frame d a o ≡ Some made → Arrives made
  handed_arrives d None has made is = absurd (false≢true (ap is_some is))
  handed_arrives d (Some p) has made is = go (site_eq p.to a) refl is
    where
      go : (b : Bool) → site_eq p.to a ≡ b → (if b then Some (event.Frame d p.from p.frame) else None) ≡ Some made → Arrives made
      go true e made_is = subst Arrives (some_is (event.Frame d p.from p.frame) made made_is)
          (subst (λ z. Contains w.sent (record { from = p.from; to = z; frame = p.frame })) (same_site p.to a e) (has p refl))
      go false e made_is = absurd (false≢true (ap is_some made_is))

  pub event_arrives : (what : Happening) (made : Event) → event_at w a what ≡ Some made → Arrives made
  event_arrives (happen.Local e) made is = go (is_local e && names (w.at a).config.domain e) refl is
    where
      go : (b : Bool) → (is_local e && names (w.at a).config.domain e) ≡ b → (if b then Some e else None) ≡ Some made → Arrives made
      go true both_are made_is = subst Arrives (some_is e made made_is) (local_arrives e (and_parts (is_local e) _ both_are).0)
      go false both_are made_is = absurd (false≢true (ap is_some made_is))
  event_arrives (happen.Sent k) made is = handed_arrives (w.at a).config.domain (slice_get w.sent k) (λ p e. got_there w.sent k p e) made is

  after_step : (e : Event) (t : State) (answer : Taken) → Arrives e → IsStep (w.at a) e answer t → AllHold home (move_site w a t)
  after_step e t answer comes is =
      last t (rests_keeps (Now home w a) (Arrived home w a) (site_eq a home) (kept_now home w a) (after_event (w.at a) e) t is.rests
      (after_event_keeps (Now home w a) (Arrived home w a) (site_eq a home) (kept_now home w a) (w.at a) e first comes))

pub step_arrives : (home : SiteNo) (w : Network) (h : AllHold home w) (step : Step) (made : Event) → event_of w step ≡ Some made →
    HasCome (Arrived home w step.site) made
step_arrives home w h step made is = go (is_among site_eq step.site w.sites) is
  where
    go : (b : Bool) → (if b then event_at w step.site step.what else None) ≡ Some made → HasCome (Arrived home w step.site) made
    go true made_is = event_arrives home w h step.site step.what made made_is
    go false made_is = absurd (false≢true (ap is_some made_is))

pub step_holds : (home : SiteNo) (w v : Network) (step : Step) → Happens w step v → AllHold home w → AllHold home v
step_holds home w v step happens h = go (event_of w step) refl happens
  where
    go : (o : Option Event) → event_of w step ≡ o → Becomes w step.site o v → AllHold home v
    go None e same = subst (AllHold home) (sym same) h
    go (Some made) e (answer, t, is, same) =
        subst (AllHold home) (sym same) (after_step home w h step.site made t answer (step_arrives home w h step made e) is)

pub leads_holds : (home : SiteNo) (steps : List Step) (w v : Network) → Leads w steps v → AllHold home w → AllHold home v
leads_holds home [] w v same h = subst (AllHold home) (sym same) h
leads_holds home (step ∷ steps) w v (u, one, more) h = leads_holds home steps u v more (step_holds home w u step one h)

-- The start

pub nothing : {X : Type 0} (x : X) → Contains [] x → ⊥
nothing x at = omega (arith, at.1)

module _ (sites : List SiteNo) (config : SiteNo → DomainConfig) (home : SiteNo) (same : (s : SiteNo) → (config s).home ≡ home) where
  abbrev at : Sites
  at = (start sites config).at

  nobody : (s : SiteNo) (k : ℕ) → OneHolds at home s 0 (config s).groups (λ g. no_group) k no_process []
  nobody s k = record {
    fits = record {
      each = λ a c x e. absurd (never_nil a c x e);
      covered = λ m did. elim did [ inl c ↦ absurd (nothing _ c) | inr c ↦ absurd (nothing _ c) ];
      listed = λ u c. absurd (nothing u c);
      member = λ g v is. absurd (never_nil is.0 is.1 _ is.3);
      heard = λ g number heard e. absurd (outside_not_joining number heard e);
    };
    given = λ g e. absurd (true≢false e);
    member = λ g e. absurd (outside_not_member e);
    sorted = (refl, λ g. refl);
    views = λ g. omega arith;
    heard = λ g number heard e. absurd (outside_not_joining number heard e);
    done = λ m c. absurd (nothing _ c);
  }

  pub start_holds : AllHold home (start sites config)
  start_holds = record {
    sites = λ s. record {
      here_is = refl;
      home_is = same s;
      opened = λ k e. absurd (false≢true e);
      ones = nobody s;
      groups = λ g. record {
        number = omega arith;
        pending = λ p e. absurd (false≢true (ap is_some e));
        requests = λ a c. absurd (nothing a c);
      };
      homes = λ g. record {
        number = omega arith;
        applied = λ to. omega arith;
        installs = λ w d b e. absurd (idle_not w d b e);
        bodies = λ m c. absurd (nothing m c);
      };
      received = λ m c. absurd (nothing m c);
      stored = λ m c. absurd (nothing m c);
      sent = λ to f c. absurd (nothing (to, f) c);
    };
    packets = λ p c. absurd (nothing p c);
  }

-- The law

pub facts : (home : SiteNo) (w : Network) → AllHold home w → Facts w
facts home w h = record {
  each = λ p.
      let x = h.sites p.site in
      subst (λ z. Each (ActWell record { site = z; serial = p.serial }) (acts_of w p)) x.here_is (x.ones p.serial).fits.each;
  was_sent = λ p m c. let x = h.sites p.site in (x.ones p.serial).done m c;
}

pub holds_in_every : (sites : List SiteNo) (config : SiteNo → DomainConfig) (steps : List Step) (w : Network) →
    Reaches sites config steps w → AllHold (config record { 0 = 0 }).home w
holds_in_every sites config steps w r =
    let home : SiteNo = (config record { 0 = 0 }).home in
    leads_holds home steps (start sites config) w r.leads (start_holds sites config home (λ s. r.home s record { 0 = 0 }))

-- no process delivers a message before one that happened before it and is due to it
pub causal_delivery : CausalDelivery
causal_delivery sites config steps w r = delivers w (facts (config record { 0 = 0 }).home w (holds_in_every sites config steps w r))
