-- The numbers of every frame that was sent count from 1, where those of the configurations do.
use Rattle.std.proofs.Common.{ap, arith, inl, inr, subst, sym}
use Rattle.std.proofs.lemmas.Bool.{and_parts, false≢true}
use Rattle.std.proofs.lemmas.List.Elements.{Contains-append_cases}
use Rattle.std.specs.Prelude.{◌&&◌, Bool, Contains, List, None, Option, Some, [], false, if◌then◌else◌, is_some, refl}
use Rattle.std.specs.Prelude.{slice_get, true, ◌∷◌, ◌≡◌, ◌≤◌}
use Rattle.cast_events.specs.declared.config.DomainConfig.{DomainConfig}
use Rattle.cast_events.specs.declared.event.Event.{Event}
use Rattle.cast_events.specs.declared.event.Event.TheVariants as event
use Rattle.cast_types.specs.Names.{site_eq}
use Rattle.cast_types.specs.Sets.{is_among}
use Rattle.cast_types.specs.declared.names.DomainNo.{DomainNo}
use Rattle.cast_types.specs.declared.names.GroupNo.{GroupNo}
use Rattle.cast_types.specs.declared.names.SiteNo.{SiteNo}
use Rattle.cast_world.proofs.Events.{HasCome}
use Rattle.cast_world.proofs.Runs.{got_there, some_is}
use Rattle.cast_world.specs.Network.{Becomes, Happens, Leads, Network, event_at, hand_frame, is_local, names, start}
use Rattle.cast_world.specs.declared.step.Happening.{Happening}
use Rattle.cast_world.specs.declared.step.Happening.TheVariants as happen
use Rattle.cast_world.specs.declared.step.Packet.{Packet}
use Rattle.cast_world.specs.declared.step.Step.{Step}
use Rattle.cast_datagrams.proofs.FromOne.{Each, FrameFromOne}
use Rattle.cast_datagrams.proofs.FromOneMoves.{Came, RestFromOne, opening_from_one, step_from_one}
use Rattle.cast_datagrams.proofs.Lists.{came_of}

-- What comes to a site

abbrev AllFromOne : Network → Type 0
AllFromOne w = (p : Packet) → Contains w.sent p → FrameFromOne p.frame

local_comes : (e : Event) → is_local e ≡ true → HasCome Came e
local_comes (event.Open d) is = tt
local_comes (event.Command d n c) is = tt
local_comes (event.Gone d n) is = tt
local_comes (event.Frame d from f) is = absurd (false≢true is)
local_comes (event.Suspect d site) is = tt
local_comes (event.Quota d name value) is = tt
local_comes (event.Take d n most) is = tt
local_comes (event.Tick t) is = tt

handed_comes : (w : Network) (d : DomainNo) (a : SiteNo) (o : Option Packet) → ((p : Packet) → o ≡ Some p → FrameFromOne p.frame) →
    (made : Event) → hand_frame d a o ≡ Some made → HasCome Came made
handed_comes w d a None all made is = absurd (false≢true (ap is_some is))
handed_comes w d a (Some p) all made is = go (site_eq p.to a) is
  where
    go : (b : Bool) → (if b then Some (event.Frame d p.from p.frame) else None) ≡ Some made → HasCome Came made
    go true same = subst (HasCome Came) (some_is (event.Frame d p.from p.frame) made same) (all p refl)
    go false same = absurd (false≢true (ap is_some same))

event_comes : (w : Network) (a : SiteNo) → AllFromOne w → (what : Happening) (made : Event) → event_at w a what ≡ Some made →
    HasCome Came made
event_comes w a all (happen.Local e) made is = go (is_local e && names (w.at a).config.domain e) refl is
  where
    go : (b : Bool) → (is_local e && names (w.at a).config.domain e) ≡ b → (if b then Some e else None) ≡ Some made → HasCome Came made
    go true both_are same = subst (HasCome Came) (some_is e made same) (local_comes e (and_parts (is_local e) _ both_are).0)
    go false both_are same = absurd (false≢true (ap is_some same))
event_comes w a all (happen.Sent k) made is =
    handed_comes w (w.at a).config.domain a (slice_get w.sent k) (λ p e. all p (got_there w.sent k p e)) made is

-- Every run

module _ (sites : List SiteNo) where
  -- what is known of each packet: it is from a site of the network
  record IsSent (p : Packet) : Type 0 where
    from : is_among site_eq p.from sites ≡ true
    frame : FrameFromOne p.frame

  record Numbered (w : Network) : Type 0 where
    same : w.sites ≡ sites
    rests : (a : SiteNo) → is_among site_eq a sites ≡ true → RestFromOne (w.at a)
    sent : (p : Packet) → Contains w.sent p → IsSent p

  moves : (w v : Network) (step : Step) → Happens w step v → Numbered w → Numbered v
  moves w v step happens all = go (is_among site_eq step.site w.sites) refl happens
    where
      known : is_among site_eq step.site w.sites ≡ true → is_among site_eq step.site sites ≡ true
      known e = subst (λ l. is_among site_eq step.site l ≡ true) all.same e

      at : is_among site_eq step.site w.sites ≡ true → (o : Option Event) → event_at w step.site step.what ≡ o →
          Becomes w step.site o v → Numbered v
      at among None e same = subst Numbered (sym same) all
      at among (Some made) e (answer, t, is, same) =
          let comes = event_comes w step.site (λ p c. (all.sent p c).frame) step.what made e in
          let one = step_from_one (w.at step.site) made answer t (all.rests step.site (known among)) comes is in
          subst Numbered (sym same) record {
            same = all.same;
            rests = λ a here. rest a here (site_eq step.site a) one.0;
            sent = λ p c. elim (Contains-append_cases w.sent _ p c) [
              | inl old ↦ all.sent p old
              | inr new ↦
                  let made_of = came_of (λ f. record { from = step.site; to = f.0; frame = f.1 }) t.frames p new in
                  subst IsSent made_of.2 record { from = known among; frame = one.1 made_of.0.0 made_of.0.1 made_of.1 }
            ];
          }
        where
          rest : (a : SiteNo) → is_among site_eq a sites ≡ true → (b : Bool) → RestFromOne t → RestFromOne (if b then t else w.at a)
          rest a here true now = now
          rest a here false now = all.rests a here

      go : (b : Bool) → is_among site_eq step.site w.sites ≡ b →
          Becomes w step.site (if b then event_at w step.site step.what else None) v → Numbered v
      go true among happened = at among (event_at w step.site step.what) refl happened
      go false among same = subst Numbered (sym same) all

  leads_from_one : (steps : List Step) (w v : Network) → Leads w steps v → Numbered w → Numbered v
  leads_from_one [] w v same all = subst Numbered (sym same) all
  leads_from_one (step ∷ steps) w v (u, one, more) all = leads_from_one steps u v more (moves w u step one all)

  pub sent_from_one : (config : SiteNo → DomainConfig) (steps : List Step) (w : Network) → Leads (start sites config) steps w →
      ((a : SiteNo) → is_among site_eq a sites ≡ true → (1 ≤ a.0) × Each (λ (g : GroupNo). 1 ≤ g.0) (config a).groups) →
      (p : Packet) → Contains w.sent p → (is_among site_eq p.from sites ≡ true) × FrameFromOne p.frame
  sent_from_one config steps w leads numbers p at =
      let begins : Numbered (start sites config) = record {
        same = refl;
        rests = λ a among. let one = numbers a among in opening_from_one a (config a) one.0 one.1;
        sent = λ q none. absurd (omega (arith, none.1));
      } in
      let one = (leads_from_one steps (start sites config) w leads begins).sent p at in
      (one.from, one.frame)
