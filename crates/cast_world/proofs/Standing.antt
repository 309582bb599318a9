-- Daemons stand for a network, through each step.
-- A network of daemons is at each moment like a network of the model in which each site runs one
-- domain. The claims end in `_stands`, or in the name of what a step does (`serves_at`, `acts`,
-- `hands`). A step changes one daemon: there the domain's step is that of the model, and the
-- frames that it sent are added on both sides. All other daemons stand as they were. `new_world`
-- is the start.
use Rattle.std.proofs.Common.{ap, arith, get_or, inl, inr, map, subst, sym, ◌∙◌}
use Rattle.std.proofs.lemmas.Bool.{cases_Bool, eq-eqb, eqb-true, false_from_ne_true, false≢true, true≢false}
use Rattle.std.proofs.lemmas.List.{map-append}
use Rattle.std.proofs.lemmas.List.Elements.{Contains-push_cases, filter-append}
use Rattle.std.proofs.lemmas.Option.{get_or_from_slice_get}
use Rattle.std.specs.List.{position_from}
use Rattle.std.specs.Prelude.{◌&&◌, ◌+◌, ◌++◌, ◌==◌, Bool, Contains, List, None, Ok, Some, [], cond, false, filter}
use Rattle.std.specs.Prelude.{if◌then◌else◌, is_some, refl, slice_get, slice_set, suc, true, zero, ◌||◌, ℕ, ◌∷◌, ◌≡◌, ◌≤◌}
use Rattle.cast_domain.specs.Fits.{Represents, with_domain}
use Rattle.cast_domain.specs.Records.{number_of}
use Rattle.cast_domain.specs.Shared.{part_of}
use Rattle.cast_rules.specs.State.{State, local, opening}
use Rattle.cast_message.specs.declared.site.SiteFrame.{SiteFrame}
use Rattle.cast_events.specs.Outs.{no_outs}
use Rattle.cast_events.specs.declared.config.Config.{Config}
use Rattle.cast_events.specs.declared.config.DomainConfig.{DomainConfig}
use Rattle.cast_events.specs.declared.event.Event.{Event}
use Rattle.cast_events.specs.declared.event.Outs.{Outs}
use Rattle.cast_events.specs.declared.event.Taken.{Taken}
use Rattle.cast_table.specs.Tables.{InTable, IsApplied, domains_of, lent_of, shared_of}
use Rattle.cast_types.specs.Names.{group_cmp, proc_eq, site_eq}
use Rattle.cast_types.specs.Rising.{is_rising}
use Rattle.cast_types.specs.Sets.{is_among}
use Rattle.cast_types.specs.declared.names.DomainNo.{DomainNo}
use Rattle.cast_types.specs.declared.names.Proc.{Proc}
use Rattle.cast_types.specs.declared.names.SiteNo.{SiteNo}
use Rattle.cast_types.specs.declared.names.Uid.{Uid}
use Rattle.cast_world.specs.Ids.{ids_of}
use Rattle.cast_world.proofs.Alone.{StepsAlone, begins_alone, number_alone, steps_alone}
use Rattle.cast_world.proofs.Deliveries.{ids_by, step_delivers}
use Rattle.cast_world.proofs.Keeps.{found_is}
use Rattle.cast_world.proofs.Runs.{nothing, some_is}
use Rattle.cast_world.specs.Network.{Becomes, Happens, Leads, Network, event_at, hand_frame, is_local, move_site, names, start}
use Rattle.cast_world.specs.Worlds.{Acts, Hands, IsNew, NamesAt, Runs, Serves, ServesAt, StandsAt, StandsFor, Takes}
use Rattle.cast_world.specs.Worlds.{daemon_at, daemons_of, delivered_at, has_failed, packets_of, place_named, sent_from}
use Rattle.cast_world.specs.declared.step.Happening.TheVariants.{Local, Sent}
use Rattle.cast_world.specs.declared.step.Packet.{Packet}
use Rattle.cast_world.specs.declared.step.Step.{Step}
use Rattle.cast_world.specs.declared.daemon.Daemon.{Daemon}
use Rattle.cast_world.specs.declared.world.World.{World}
use Rattle.cast_events.specs.declared.event.Event.TheVariants as event

-- Lists of daemons

sites_same : (s t : SiteNo) → site_eq s t ≡ true → s ≡ t
sites_same s t e = ap (λ n. record { 0 = n }) (eqb-true s.0 t.0 e)

site_turned : (s t : SiteNo) → site_eq s t ≡ site_eq t s
site_turned s t = elim (cases_Bool (site_eq s t)) [
  | inl same ↦ same ∙ sym (eq-eqb t.0 s.0 (sym (eqb-true s.0 t.0 same)))
  | inr other ↦
      other ∙ sym (false_from_ne_true (site_eq t s) (λ same. true≢false (sym (eq-eqb s.0 t.0 (sym (eqb-true t.0 s.0 same))) ∙ other)))
]

-- a site is among those of the daemons where there is a daemon at it
pub among_is : (s : SiteNo) (daemons : List Daemon) →
    is_among site_eq s (map (λ (d : Daemon). d.site) daemons) ≡ is_some (daemon_at s daemons)
among_is s [] = refl
among_is s (d ∷ daemons) = go (site_eq d.site s) refl (among_is s daemons)
  where
    go : (b : Bool) → site_eq d.site s ≡ b → is_among site_eq s (map (λ (x : Daemon). x.site) daemons) ≡ is_some (daemon_at s daemons) →
        (site_eq s d.site || is_among site_eq s (map (λ (x : Daemon). x.site) daemons)) ≡ is_some (cond b (Some d) (daemon_at s daemons))
    go true e more = ap (λ c. c || is_among site_eq s (map (λ (x : Daemon). x.site) daemons)) (site_turned s d.site ∙ e)
    go false e more = ap (λ c. c || is_among site_eq s (map (λ (x : Daemon). x.site) daemons)) (site_turned s d.site ∙ e) ∙ more

none_at : (s : SiteNo) (daemons : List Daemon) (n : ℕ) → position_from (λ (d : Daemon). site_eq d.site s) n daemons ≡ None →
    daemon_at s daemons ≡ None
none_at s [] n e = refl
none_at s (d ∷ daemons) n e = go (site_eq d.site s) e (none_at s daemons (n + 1))
  where
    go : (b : Bool) → cond b (Some n) (position_from (λ (x : Daemon). site_eq x.site s) (n + 1) daemons) ≡ None →
        (position_from (λ (x : Daemon). site_eq x.site s) (n + 1) daemons ≡ None → daemon_at s daemons ≡ None) →
        cond b (Some d) (daemon_at s daemons) ≡ None
    go true is more = absurd (true≢false (ap is_some is))
    go false is more = more is

low : (s : SiteNo) (daemons : List Daemon) (n place : ℕ) →
    position_from (λ (d : Daemon). site_eq d.site s) n daemons ≡ Some place → n ≤ place
low s [] n place e = absurd (false≢true (ap is_some e))
low s (d ∷ daemons) n place e = go (site_eq d.site s) e (low s daemons (n + 1) place)
  where
    go : (b : Bool) → cond b (Some n) (position_from (λ (x : Daemon). site_eq x.site s) (n + 1) daemons) ≡ Some place →
        (position_from (λ (x : Daemon). site_eq x.site s) (n + 1) daemons ≡ Some place → n + 1 ≤ place) → n ≤ place
    go true is more = let same : n ≡ place = some_is n place is in omega (arith, same)
    go false is more = let up = more is in omega (arith, up)

-- what is put in the place of the first daemon at a site
pub record IsPut (s : SiteNo) (daemons : List Daemon) (i : ℕ) (y : Daemon) : Type 0 where
  pub here : daemon_at s (slice_set daemons i y) ≡ Some y
  pub others : (r : SiteNo) → site_eq s r ≡ false → daemon_at r (slice_set daemons i y) ≡ daemon_at r daemons
  pub sites : map (λ (d : Daemon). d.site) (slice_set daemons i y) ≡ map (λ (d : Daemon). d.site) daemons

-- the first daemon at a site
pub record IsThere (s : SiteNo) (daemons : List Daemon) (i : ℕ) : Type 0 where
  pub daemon : Daemon
  pub stands : slice_get daemons i ≡ Some daemon
  pub found : daemon_at s daemons ≡ Some daemon
  pub placed : daemon.site ≡ s
  pub puts : (y : Daemon) → y.site ≡ s → IsPut s daemons i y

there_from : (s : SiteNo) (daemons : List Daemon) (n i place : ℕ) → place ≡ n + i →
    position_from (λ (d : Daemon). site_eq d.site s) n daemons ≡ Some place → IsThere s daemons i
there_from s [] n i place sum e = absurd (false≢true (ap is_some e))
there_from s (d ∷ daemons) n zero place sum e = go (site_eq d.site s) refl e
  where
    go : (b : Bool) → site_eq d.site s ≡ b →
        cond b (Some n) (position_from (λ (x : Daemon). site_eq x.site s) (n + 1) daemons) ≡ Some place → IsThere s (d ∷ daemons) 0
    go true same is = record {
      daemon = d;
      stands = refl;
      found = ap (λ b. cond b (Some d) (daemon_at s daemons)) same;
      placed = sites_same d.site s same;
      puts = λ y at. record {
        here = ap (λ b. cond b (Some y) (daemon_at s daemons)) (eq-eqb y.site.0 s.0 (ap (λ (x : SiteNo). x.0) at));
        others = λ r apart.
            ap (λ b. cond b (Some y) (daemon_at r daemons)) (ap (λ x. site_eq x r) at ∙ apart)
            ∙ sym (ap (λ b. cond b (Some d) (daemon_at r daemons)) (ap (λ x. site_eq x r) (sites_same d.site s same) ∙ apart));
        sites = ap (λ x. x ∷ map (λ (z : Daemon). z.site) daemons) (at ∙ sym (sites_same d.site s same));
      };
    }
    go false other is = absurd (let up = low s daemons (n + 1) place is in omega (arith, up, sum))
there_from s (d ∷ daemons) n (suc i) place sum e = go (site_eq d.site s) refl e (there_from s daemons (n + 1) i place (omega (arith, sum)))
  where
    go : (b : Bool) → site_eq d.site s ≡ b →
        cond b (Some n) (position_from (λ (x : Daemon). site_eq x.site s) (n + 1) daemons) ≡ Some place →
        (position_from (λ (x : Daemon). site_eq x.site s) (n + 1) daemons ≡ Some place → IsThere s daemons i) →
        IsThere s (d ∷ daemons) (suc i)
    go true same is more = absurd (let at : n ≡ place = some_is n place is in omega (arith, at, sum))
    go false other is more =
        let later = more is in
        record {
          daemon = later.daemon;
          stands = later.stands;
          found = ap (λ b. cond b (Some d) (daemon_at s daemons)) other ∙ later.found;
          placed = later.placed;
          puts = λ y at.
              let put_in = later.puts y at in
              record {
                here = ap (λ b. cond b (Some d) (daemon_at s (slice_set daemons i y))) other ∙ put_in.here;
                others = λ r apart. ap (λ o. cond (site_eq d.site r) (Some d) o) (put_in.others r apart);
                sites = ap (λ xs. d.site ∷ xs) put_in.sites;
              };
        }

pub there : (s : SiteNo) (daemons : List Daemon) (place : ℕ) → place_named s daemons ≡ Some place → IsThere s daemons place
there s daemons place e = there_from s daemons 0 place place (omega arith) e

-- One daemon

ids_append : (p : Proc) (xs ys : List (DomainNo × Proc × Uid)) → ids_of p (xs ++ ys) ≡ ids_of p xs ++ ids_of p ys
ids_append p xs ys = ap (map (λ (x : DomainNo × Proc × Uid). x.2)) (filter-append (λ (x : DomainNo × Proc × Uid). proc_eq x.1 p) xs ys)
    ∙ map-append (λ (x : DomainNo × Proc × Uid). x.2) (filter (λ (x : DomainNo × Proc × Uid). proc_eq x.1 p) xs)
    (filter (λ (x : DomainNo × Proc × Uid). proc_eq x.1 p) ys)

ids_tagged : (p : Proc) (d : DomainNo) (xs : List (Proc × Uid)) → ids_of p (with_domain d xs) ≡ ids_by p xs
ids_tagged p d [] = refl
ids_tagged p d (x ∷ xs) = go (proc_eq x.0 p) (ids_tagged p d xs)
  where
    go : (b : Bool) → ids_of p (with_domain d xs) ≡ ids_by p xs →
        map (λ (y : DomainNo × Proc × Uid). y.2)
        (cond b ((d, x.0, x.1) ∷ filter (λ y. proc_eq y.1 p) (with_domain d xs)) (filter (λ y. proc_eq y.1 p) (with_domain d xs)))
        ≡ map (λ (y : Proc × Uid). y.1) (cond b (x ∷ filter (λ y. proc_eq y.0 p) xs) (filter (λ y. proc_eq y.0 p) xs))
    go true more = ap (λ us. x.1 ∷ us) more
    go false more = more

-- frames that were sent, each with its domain
abbrev pub packets_from : SiteNo → List (DomainNo × SiteNo × SiteFrame) → List Packet
packets_from s frames = map (λ f. record { from = s; to = f.1; frame = f.2 }) frames

packets_tagged : (s : SiteNo) (d : DomainNo) (frames : List (SiteNo × SiteFrame)) →
    packets_from s (with_domain d frames) ≡ sent_from s frames
packets_tagged s d [] = refl
packets_tagged s d (f ∷ frames) = ap (λ ps. record { from = s; to = f.0; frame = f.1 } ∷ ps) (packets_tagged s d frames)

-- a daemon's table took an event of its domain, and its deliveries and frames were added
module _ (e : Event) (taken : Taken) (old new : Daemon) (outs : Outs) (named : names old.number e ≡ true)
    (applied : InTable (IsApplied (Ok taken) e) old.table no_outs new.table outs) where
  -- it did what its domain did
  did_step : (s : State) (stands : StandsAt old s) →
      StepsAlone e taken stands.domain (domains_of new.table) (lent_of old.table no_outs) (lent_of new.table outs)
  did_step s stands =
      let number = number_alone stands.domain [] old.number (subst (λ ds. map number_of ds ≡ old.number ∷ []) stands.served old.alone) in
      steps_alone e taken stands.domain stands.running (lent_of old.table no_outs) (lent_of new.table outs) (domains_of new.table)
      (ap (λ n. names n e) number ∙ named)
      (subst (λ ds. IsApplied (Ok taken) e ds (domains_of new.table) (lent_of old.table no_outs) (lent_of new.table outs))
      stands.served applied)

  module _ (site : new.site ≡ old.site) (number : new.number ≡ old.number) (delivered : new.delivered ≡ old.delivered ++ outs.delivered)
      (sent more : List Packet) (added : more ≡ sent ++ packets_from old.site outs.frames) where
    pub serves : Serves e old new sent more
    serves s stands =
        let made = did_step s stands in
        let step = made.steps s stands.means in
        let t : State = step.end in
        let did = step_delivers s e taken t step.steps in (
          taken,
          t,
          step.steps,
          record {
            domain = made.domain;
            served = made.served;
            running = made.running;
            means = subst (λ n. Represents made.domain (part_of n (shared_of new.table)) t) (sym made.number) step.means;
            placed = did.placed ∙ stands.placed ∙ sym site;
            number = ap (λ (c : DomainConfig). c.domain) did.same ∙ stands.number ∙ sym number;
            delivered = λ k.
                did.delivered k
                ∙ ap (λ us. us ++ ids_by (local s k) t.deliveries) (stands.delivered k)
                ∙ ap (λ us. ids_of (record { site = old.site; serial = k }) old.delivered ++ us)
                (ap (λ x. ids_by (record { site = x; serial = k }) t.deliveries) stands.placed
                ∙ sym (ids_tagged (record { site = old.site; serial = k }) t.config.domain t.deliveries)
                ∙ ap (λ (o : Outs). ids_of (record { site = old.site; serial = k }) o.delivered) (sym step.outs))
                ∙ sym (ids_append (record { site = old.site; serial = k }) old.delivered outs.delivered)
                ∙ (λ i. ids_of (record { site = (sym site) i; serial = k }) ((sym delivered) i));
          },
          site,
          added ∙ ap (λ ps. sent ++ ps)
              (ap (λ (o : Outs). packets_from old.site o.frames) step.outs ∙ packets_tagged old.site t.config.domain t.frames),
        )

-- The network

module _ (s : SiteNo) (place : ℕ) (old new : World) (named : place_named s (daemons_of old) ≡ Some place) where
  abbrev first : IsThere s (daemons_of old) place
  first = there s (daemons_of old) place named

  -- the daemon at a site made a step
  module _ (e : Event) (after : Daemon) (serves_it : Serves e first.daemon after (packets_of old) (packets_of new))
      (put_in : daemons_of new ≡ slice_set (daemons_of old) place after)
      (still : has_failed new ≡ has_failed old) where
    pub serves_at : ServesAt s e old new
    serves_at w stands =
        let did = serves_it (w.at s) (stands.daemons s first.daemon first.found) in
        let t : State = did.1 in
        let placed : after.site ≡ s = did.4 ∙ first.placed in
        let put : IsPut s (daemons_of old) place after = first.puts after placed in (
          move_site w s t,
          (did.0, t, did.2, refl),
          record {
            running = still ∙ stands.running;
            sites = stands.sites ∙ sym (ap (map (λ (d : Daemon). d.site)) put_in ∙ put.sites);
            sent = ap (λ ps. ps ++ sent_from s t.frames) stands.sent
                ∙ sym (did.5 ∙ ap (λ x. packets_of old ++ sent_from x t.frames) first.placed);
            daemons = λ r d found. daemons r d (site_eq s r) refl t did.3 (sym (ap (daemon_at r) put_in) ∙ found) put w stands;
            idle = λ r k absent. idle r k (site_eq s r) refl t w absent stands;
          },
        )
      where
        daemons : (r : SiteNo) (d : Daemon) (b : Bool) → site_eq s r ≡ b → (t : State) → StandsAt after t →
            daemon_at r (slice_set (daemons_of old) place after) ≡ Some d → IsPut s (daemons_of old) place after →
            (w : Network) → StandsFor old w → StandsAt d (if b then t else w.at r)
        daemons r d true e2 t now found put w stands =
            subst (λ (x : Daemon). StandsAt x t) (some_is after d (sym put.here
            ∙ subst (λ x. daemon_at x (slice_set (daemons_of old) place after) ≡ Some d) (sym (sites_same s r e2)) found)) now
        daemons r d false e2 t now found put w stands = stands.daemons r d (sym (put.others r e2) ∙ found)

        idle : (r : SiteNo) (k : ℕ) (b : Bool) → site_eq s r ≡ b → (t : State) → (w : Network) → is_among site_eq r w.sites ≡ false →
            StandsFor old w → ((if b then t else w.at r).process k).delivered ≡ []
        idle r k true e2 t w absent stands = absurd (true≢false
            (sym (ap (λ x. is_among site_eq x w.sites) (sym (sites_same s r e2))
            ∙ ap (is_among site_eq s) stands.sites
            ∙ among_is s (daemons_of old)
            ∙ ap is_some first.found) ∙ absent))
        idle r k false e2 t w absent stands = stands.idle r k absent

-- what is read at a place stands there
pub names_at : (place : ℕ) (daemons : List Daemon) (e : Event) (read : Daemon) → read ≡ get_or daemons place read →
    names read.number e ≡ true → NamesAt place e daemons
names_at place daemons e read is named d stands =
    subst (λ (x : Daemon). names x.number e ≡ true) (is ∙ get_or_from_slice_get daemons place d read stands) named

-- what happens at a site

module _ (s : SiteNo) (place : ℕ) (old : World) (named : place_named s (daemons_of old) ≡ Some place) where
  abbrev at_it : IsThere s (daemons_of old) place
  at_it = there s (daemons_of old) place named

  -- the domain there is the one of the network
  pub domain_is : (w : Network) → StandsFor old w → (w.at s).config.domain ≡ at_it.daemon.number
  domain_is w stands = (stands.daemons s at_it.daemon at_it.found).number

  pub acts : (e : Event) (new : World) (number : DomainNo) → number ≡ at_it.daemon.number → (is_local e && names number e) ≡ true →
      ServesAt s e old new → Acts s e old new
  acts e new number is local_one served w stands =
      let did = served w stands in
      let named_it : (is_local e && names (w.at s).config.domain e) ≡ true =
      ap (λ d. is_local e && names d e) (domain_is w stands ∙ sym is) ∙ local_one in
      (did.0, subst (λ b. Becomes w s (if b then Some e else None) did.0) (sym named_it) did.1, did.2)

  pub acts_not : (e : Event) (number : DomainNo) → number ≡ at_it.daemon.number → (is_local e && names number e) ≡ false → Acts s e old old
  acts_not e number is other w stands =
      let named_it : (is_local e && names (w.at s).config.domain e) ≡ false =
      ap (λ d. is_local e && names d e) (domain_is w stands ∙ sym is) ∙ other in
      (w, subst (λ b. Becomes w s (if b then Some e else None) w) (sym named_it) refl, stands)

  pub hands : (number : ℕ) (p : Packet) (new : World) (d : DomainNo) → d ≡ at_it.daemon.number →
      slice_get (packets_of old) number ≡ Some p → site_eq p.to s ≡ true →
      ServesAt s (event.Frame d p.from p.frame) old new → Hands s number old new
  hands number p new d is there_it to_it served w stands =
      let did = served w stands in
      let one : slice_get w.sent number ≡ Some p = ap (λ ps. slice_get ps number) stands.sent ∙ there_it in
      let named_it : hand_frame (w.at s).config.domain s (slice_get w.sent number) ≡ Some (event.Frame d p.from p.frame) =
      ap (hand_frame (w.at s).config.domain s) one
      ∙ ap (λ b. if b then Some (event.Frame (w.at s).config.domain p.from p.frame) else None) to_it
      ∙ ap (λ x. Some (event.Frame x p.from p.frame)) (domain_is w stands ∙ sym is) in
      (did.0, subst (λ o. Becomes w s o did.0) (sym named_it) did.1, did.2)

  pub hands_none : (number : ℕ) → slice_get (packets_of old) number ≡ None → Hands s number old old
  hands_none number none w stands = (
    w,
    subst (λ o. Becomes w s o w) (sym (ap (hand_frame (w.at s).config.domain s) (ap (λ ps. slice_get ps number) stands.sent ∙ none))) refl,
    stands,
  )

  pub hands_elsewhere : (number : ℕ) (p : Packet) → slice_get (packets_of old) number ≡ Some p → site_eq p.to s ≡ false →
      Hands s number old old
  hands_elsewhere number p there_it other w stands =
      let one : slice_get w.sent number ≡ Some p = ap (λ ps. slice_get ps number) stands.sent ∙ there_it in
      let named_it : hand_frame (w.at s).config.domain s (slice_get w.sent number) ≡ None =
      ap (hand_frame (w.at s).config.domain s) one
      ∙ ap (λ b. if b then Some (event.Frame (w.at s).config.domain p.from p.frame) else None) other in
      (w, subst (λ o. Becomes w s o w) (sym named_it) refl, stands)

-- Steps

is_there : (s : SiteNo) (place : ℕ) (old : World) (w : Network) → StandsFor old w → place_named s (daemons_of old) ≡ Some place →
    is_among site_eq s w.sites ≡ true
is_there s place old w stands named =
    ap (is_among site_eq s) stands.sites ∙ among_is s (daemons_of old) ∙ ap is_some (there s (daemons_of old) place named).found

pub takes_local : (s : SiteNo) (place : ℕ) (e : Event) (old new : World) → place_named s (daemons_of old) ≡ Some place → Acts s e old new →
    Takes (record { site = s; what = Local e }) old new
takes_local s place e old new named acts_it w stands =
    let did = acts_it w stands in (
      did.0,
      subst (λ b. Becomes w s (if b then event_at w s (Local e) else None) did.0) (sym (is_there s place old w stands named)) did.1,
      did.2,
    )

pub takes_sent : (s : SiteNo) (place number : ℕ) (old new : World) → place_named s (daemons_of old) ≡ Some place → Hands s number old new →
    Takes (record { site = s; what = Sent number }) old new
takes_sent s place number old new named hands_it w stands =
    let did = hands_it w stands in (
      did.0,
      subst (λ b. Becomes w s (if b then event_at w s (Sent number) else None) did.0) (sym (is_there s place old w stands named)) did.1,
      did.2,
    )

pub takes_nowhere : (step : Step) (old : World) → place_named step.site (daemons_of old) ≡ None → Takes step old old
takes_nowhere step old none w stands =
    let absent : is_among site_eq step.site w.sites ≡ false =
    ap (is_among site_eq step.site) stands.sites
    ∙ among_is step.site (daemons_of old)
    ∙ ap is_some (none_at step.site (daemons_of old) 0 none) in
    (w, subst (λ b. Becomes w step.site (if b then event_at w step.site step.what else None) w) (sym absent) refl, stands)

-- Lists of steps

leads_more : (w v u : Network) (steps : List Step) (step : Step) → Leads w steps v → Happens v step u → Leads w (steps ++ step ∷ []) u
leads_more w v u [] step same happens = (u, subst (λ x. Happens x step u) same happens, refl)
leads_more w v u (one_step ∷ steps) step (x, one, more) happens = (x, one, leads_more x v u steps step more happens)

pub runs_none : (old : World) → Runs [] old old
runs_none old w stands = (w, refl, stands)

pub runs_more : (steps : List Step) (step : Step) (old new next : World) → Runs steps old new → Takes step new next →
    Runs (steps ++ step ∷ []) old next
runs_more steps step old new next runs takes_it w stands =
    let did = runs w stands in
    let one = takes_it did.0 did.2 in
    (one.0, leads_more w did.0 one.0 steps step did.1 one.1, one.2)

-- What a process delivered

pub delivered_there : (world : World) (place : ℕ) (p : Proc) (d : DomainNo) (named : place_named p.site (daemons_of world) ≡ Some place)
    (w : Network) → StandsFor world w →
    (if (there p.site (daemons_of world) place named).daemon.number.0 == d.0
    then ids_of p (there p.site (daemons_of world) place named).daemon.delivered
    else []) ≡ delivered_at w d p
delivered_there world place p d named w stands =
    let at = there p.site (daemons_of world) place named in
    let now = stands.daemons p.site at.daemon at.found in
    λ i. if (sym now.number i).0 == d.0
    then (ap (λ x. ids_of (record { site = x; serial = p.serial }) at.daemon.delivered) (sym at.placed) ∙ sym (now.delivered p.serial)) i
    else []

pub delivered_nowhere : (world : World) (p : Proc) (d : DomainNo) → place_named p.site (daemons_of world) ≡ None → (w : Network) →
    StandsFor world w → [] ≡ delivered_at w d p
delivered_nowhere world p d none w stands = go ((w.at p.site).config.domain.0 == d.0)
  where
    absent : is_among site_eq p.site w.sites ≡ false
    absent =
        ap (is_among site_eq p.site) stands.sites
        ∙ among_is p.site (daemons_of world)
        ∙ ap is_some (none_at p.site (daemons_of world) 0 none)

    go : (b : Bool) → [] ≡ (if b then ((w.at p.site).process p.serial).delivered else [])
    go true = sym (stands.idle p.site p.serial absent)
    go false = refl

-- The start

-- a daemon that stands for nothing that happened yet
pub new_stands : (d : Daemon) (s : SiteNo) (config : DomainConfig) → IsNew s config d → is_rising group_cmp config.groups ≡ true →
    StandsAt d (opening s config)
new_stands d s config new rising =
    let begins = begins_alone s config (domains_of d.table) new.domains in
    record {
      domain = begins.domain;
      served = begins.served;
      running = begins.new.running;
      means = subst (λ part. Represents begins.domain part (opening s config)) (sym (new.unshared (number_of begins.domain)))
          (begins.new.begins rising);
      placed = sym new.placed;
      number = sym new.number;
      delivered = λ k. ap (ids_of (record { site = d.site; serial = k })) (sym new.delivered);
    }

-- daemons of these configurations
abbrev pub AreNew : (SiteNo → DomainConfig) → List Config → List Daemon → Type 0
AreNew config configs daemons =
    (map (λ (d : Daemon). d.site) daemons ≡ map (λ (c : Config). c.site) configs)
    × ((d : Daemon) → Contains daemons d → StandsAt d (opening d.site (config d.site)))

pub new_none : (config : SiteNo → DomainConfig) → AreNew config [] []
new_none config = (refl, λ d at. absurd (nothing d at))

pub new_more : (config : SiteNo → DomainConfig) (configs : List Config) (daemons : List Daemon) (c : Config) (d : Daemon) →
    AreNew config configs daemons → d.site ≡ c.site → StandsAt d (opening c.site (config c.site)) →
    AreNew config (configs ++ c ∷ []) (daemons ++ d ∷ [])
new_more config configs daemons c d so_far placed stands = (
  map-append (λ (x : Daemon). x.site) daemons (d ∷ [])
      ∙ (λ i. so_far.0 i ++ placed i ∷ [])
      ∙ sym (map-append (λ (x : Config). x.site) configs (c ∷ [])),
  λ x at. elim (Contains-push_cases daemons d x at) [
    | inl old ↦ so_far.1 x old
    | inr new ↦
        subst (λ (y : Daemon). StandsAt y (opening y.site (config y.site)))
        new (subst (λ s. StandsAt d (opening s (config s))) (sym placed) stands)
  ],
)

pub new_world : (config : SiteNo → DomainConfig) (configs : List Config) (world : World) → AreNew config configs (daemons_of world) →
    packets_of world ≡ [] → has_failed world ≡ false →
    StandsFor world (start (map (λ (c : Config). c.site) configs) config)
new_world config configs world all none running = record {
  running = running;
  sites = sym all.0;
  sent = sym none;
  daemons = λ s d found.
      let is = found_is (λ (x : Daemon). site_eq x.site s) (daemons_of world) d found in
      subst (λ x. StandsAt d (opening x (config x))) (sites_same d.site s is.0) (all.1 d is.1);
  idle = λ s k absent. refl;
}

-- the first domain of a configuration that has one alone
pub only_domain : (c : Config) (alone domain : DomainConfig) → c.domains ≡ alone ∷ [] → slice_get c.domains 0 ≡ Some domain → domain ≡ alone
only_domain c alone domain is first = sym (some_is alone domain (sym (ap (λ (xs : List DomainConfig). slice_get xs 0) is) ∙ first))

pub has_domain : (c : Config) (alone : DomainConfig) → c.domains ≡ alone ∷ [] → slice_get c.domains 0 ≡ None → ⊥
has_domain c alone is none = true≢false (ap is_some (sym (ap (λ (xs : List DomainConfig). slice_get xs 0) is) ∙ none))
