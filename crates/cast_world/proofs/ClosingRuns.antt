-- What holds of how views end holds in every network that steps lead to. So who passes from one
-- view to the next delivered the ABCASTs of the first in the same order.
-- The claims are `same_order` and `starts_are_known`. `Everything` joins all invariants of a
-- network; `ended_in_every` says that it holds wherever steps lead, by one step at a time: a step
-- is the moves of one site, each of which keeps it. Two who pass have delivered prefixes of the
-- order that the view ended with, and the same messages, so the prefixes are one.
use Rattle.cast_types.proofs.Orders.{group_itself, same_site}
use Rattle.cast_world.proofs.ListsAreActs.{abcasts_are_acts}
use Rattle.std.proofs.Common.{ap, arith, inl, inr, subst, sym, ◌∙◌}
use Rattle.std.proofs.lemmas.Bool.{eq-eqb, false≢true}
use Rattle.std.proofs.lemmas.List.Elements.{Contains-append_cases, Contains-append_right, filter-append}
use Rattle.std.proofs.lemmas.List.{append-nil, length-take-le, map-append, take-append-drop}
use Rattle.std.specs.List.{flat_map}
use Rattle.std.specs.Prelude.{◌&&◌, ◌+◌, ◌++◌, Bool, Contains, List, None, Option, Some, [], drop, false}
use Rattle.std.specs.Prelude.{filter, if◌then◌else◌, is_some, length, map, refl, take, true, ℕ, ◌∷◌, ◌≡◌, ◌≤◌}
use Rattle.cast_rules.specs.Acts.{Act}
use Rattle.cast_rules.specs.Acts.Act.{Entered, Sent}
use Rattle.cast_rules.specs.Noted.{abcasts_by}
use Rattle.cast_rules.specs.Order.{told_by}
use Rattle.cast_rules.specs.Run.{after_event, before_event}
use Rattle.cast_rules.specs.State.{State}
use Rattle.cast_message.specs.Bodies.{kind_of}
use Rattle.cast_message.specs.Membership.{Membership}
use Rattle.cast_message.specs.Tail.{Tail}
use Rattle.cast_message.specs.declared.message.Message.{Message}
use Rattle.cast_message.specs.declared.site.SiteFrame.{SiteFrame}
use Rattle.cast_events.specs.declared.config.DomainConfig.{DomainConfig}
use Rattle.cast_events.specs.declared.event.Event.{Event}
use Rattle.cast_order.specs.Order.{known_order}
use Rattle.cast_timer.specs.Owed.{is_of_view}
use Rattle.cast_types.specs.Names.{Entry, entry_of, is_atomic, uid_in, site_eq}
use Rattle.cast_types.specs.declared.names.GroupNo.{GroupNo}
use Rattle.cast_types.specs.declared.names.Proc.{Proc}
use Rattle.cast_types.specs.declared.names.SiteNo.{SiteNo}
use Rattle.cast_types.specs.declared.names.Uid.{Uid}
use Rattle.cast_world.proofs.Closings.{EndHolds, Ends, IsClosing, SiteClosing, final}
use Rattle.cast_world.proofs.ClosingMoves.{ClosingNow, closing_quiet, own_closing, still_there}
use Rattle.cast_world.proofs.ClosingSteps.{books_closing, kept_closing}
use Rattle.cast_world.proofs.Events.{any_happens, event_keeps_fully, rests_keeps_fully, sets_any}
use Rattle.cast_world.proofs.Firsts.{firsts, firsts_apart, take_begin}
use Rattle.cast_world.proofs.Flush.{AllCovered, Choice, IsChosen, IsTrueOf, SiteAgrees, numbers}
use Rattle.cast_world.proofs.FlushRuns.{AllAgree, flush_first, flush_last, no_choice, start_agrees}
use Rattle.cast_world.proofs.Homes.{among_kept, idle_not}
use Rattle.cast_world.proofs.Invariants.{IsSound, Later, SiteHolds, Sites}
use Rattle.cast_world.proofs.Laters.{later_same}
use Rattle.cast_world.proofs.Listings.{abcast_among, abcast_of, abcasts_append, done_has, done_named, done_none, names_of, parts_of_id}
use Rattle.cast_world.proofs.Allowed.{contains_kept, passed}
use Rattle.cast_world.proofs.Cuts.{still_in}
use Rattle.cast_world.proofs.Facts.{Facts}
use Rattle.cast_world.proofs.OrderLaters.{one_message}
use Rattle.cast_world.proofs.Prefixes.{apart_both, apart_first, comparable, flat_has, in_flat, known_reaches}
use Rattle.cast_world.proofs.Same.{EachSeen, none_after, same_messages, seen_in_every}
use Rattle.cast_world.proofs.OrderRuns.{start_ordered}
use Rattle.cast_world.proofs.OrderSteps.{From, own}
use Rattle.cast_world.proofs.Tokens.{HandOvers}
use Rattle.cast_world.proofs.Orders.{AllOrdered, Stands, Apart, Orders, done_in}
use Rattle.cast_world.proofs.Runs.{facts, first, from_mapped, last, nothing, start_holds, step_arrives}
use Rattle.cast_world.proofs.Steps.{AllHold, Arrived, own_is, sites_at}
use Rattle.cast_world.proofs.WindowSteps.{OwedBut, WindowNow, keepw, leading, no_key, same_owed}
use Rattle.cast_world.proofs.Windows.{AckTrue, AllWindow, Safe}
use Rattle.cast_world.proofs.Lists.{never_nil}
use Rattle.cast_world.specs.Agreement.{IsPrefix, Passes, abcasts_in, delivered_of, is_in, of_view, order_at}
use Rattle.cast_world.specs.HappenedBefore.{acts_of}
use Rattle.cast_world.specs.Laws.{AllDeliverInOneOrder, AllStartsAreKnown, SameMessages, StartsAreKnown}
use Rattle.cast_world.specs.Network.{Becomes, Happens, Leads, Network, Reaches, event_of, move_site, start}
use Rattle.cast_world.specs.declared.step.Packet.{Packet}
use Rattle.cast_world.specs.declared.step.Step.{Step}
use Rattle.cast_message.specs.declared.site.SiteFrame.TheVariants as frame

-- what holds of the states of all sites and of the frames on the network
pub record Everything (home : SiteNo) (sent : List Packet) (choice : Choice) (order : Orders) (handed : HandOvers) (safe : Safe)
    (ends : Ends) (at : Sites) : Type 0 where
  pub holds : (s : SiteNo) → SiteHolds at home s (at s)
  pub sound : (p : Packet) → Contains sent p → IsSound at home p.from p.to p.frame
  pub agrees : (s : SiteNo) → SiteAgrees choice (numbers at home) at s (at s)
  pub true_of : (p : Packet) → Contains sent p → IsTrueOf choice (numbers at home) at p.from p.frame
  pub covered : AllCovered choice (numbers at home) at
  pub ordered : AllOrdered choice (numbers at home) at order handed
  pub window : AllWindow choice (numbers at home) at order safe
  pub acks : (p : Packet) → Contains sent p → AckTrue (at p.from).got p.frame
  pub owed : (s : SiteNo) → OwedBut no_key (at s)
  pub closing : (s : SiteNo) → SiteClosing choice at order handed safe ends s (at s)
  pub closed : (p : Packet) → Contains sent p → IsClosing choice at order handed safe ends p.from p.frame
  pub ended : (g : GroupNo) (v : ℕ) → v + 1 ≤ numbers at home g → EndHolds choice at order handed safe g v (ends g v)

abbrev pub AllEnded : SiteNo → Network → Type 0
AllEnded home w =
    (choice : Choice)
    × (order : Orders)
    × (handed : HandOvers)
    × (safe : Safe)
    × (ends : Ends)
    × Everything home w.sent choice order handed safe ends w.at

-- One step

module _ (home : SiteNo) (w : Network) (choice : Choice) (order : Orders) (handed : HandOvers) (safe : Safe) (ends : Ends)
    (x : Everything home w.sent choice order handed safe ends w.at) (a : SiteNo) where
  abbrev t : State
  t = w.at a

  abbrev t0 : State
  t0 = before_event (w.at a)

  at_now : sites_at home w a (w.at a) ≡ w.at
  at_now = λ i s. go s (site_eq a s) refl i
    where
      go : (s : SiteNo) (b : Bool) → site_eq a s ≡ b → (if b then w.at a else w.at s) ≡ w.at s
      go s true e = ap w.at (same_site a s e)
      go s false e = refl

  y : Everything home w.sent choice order handed safe ends (sites_at home w a (w.at a))
  y = subst (Everything home w.sent choice order handed safe ends) (sym at_now) x

  pub hold : AllHold home w
  hold = record { sites = x.holds; packets = x.sound }

  agree : AllAgree home w choice
  agree = record { sites = x.agrees; packets = x.true_of; covered = x.covered }

  abbrev before : ClosingNow home w a no_key t
  before = (
    (
      ((y.holds, y.sound), choice, record { sites = y.agrees; packets = y.true_of; covered = y.covered }, order, handed, y.ordered),
      safe,
      y.window,
      y.acks,
      x.owed a,
    ),
    ends,
    record { sites = y.closing; packets = y.closed; ended = y.ended },
  )

  go : (g : GroupNo) (b : Bool) →
      ((if b then w.at a else w.at home).home g).number ≤ ((if b then before_event (w.at a) else w.at home).home g).number
  go g true = omega arith
  go g false = omega arith

  -- before the event nothing of it is sent
  abbrev from : From home w a t before.0.0 t0
  from = (first home w hold a, choice, flush_first home w hold choice agree a, λ g. (go g (site_eq a home), λ n le. refl))

  abbrev later : Later t t0
  later = later_same (w.at a)

  abbrev begun : WindowNow home w a no_key t0
  begun =
      keepw home w a no_key no_key t t0 later before.0 from (λ k m c. inl c) (own home w a t before.0.0) (λ m c. c) (λ q z c. inl c)
      (λ to f c. absurd (nothing (to, f) c)) (leading home w a no_key t before.0)
      (same_owed home w a no_key t t0 refl refl refl before.0.4)

  pub first_closing : ClosingNow home w a no_key t0
  first_closing =
      closing_quiet home w a no_key no_key t t0 later before begun from.3 refl refl refl refl refl (λ k g e. e)
      (still_there home w a t t0 (λ g. omega arith)) (λ z. record {
        closes = z.closes;
        begins = z.begins;
        well = z.well;
        reports = z.reports;
        decision = z.decision;
        sent = λ to f c. absurd (nothing (to, f) c);
      })

  -- after it
  pub last_closing : (s : State) → ClosingNow home w a no_key s → AllEnded home (move_site w a s)
  last_closing s i = (
    i.0.0.1,
    i.0.0.3,
    i.0.0.4,
    i.0.1,
    i.1,
    record {
      holds = i.0.0.0.0;
      sound = (last home w hold a s i.0.0.0).packets;
      agrees = i.0.0.2.sites;
      true_of = (flush_last home w a s i.0.0.1 i.0.0.2).packets;
      covered = i.0.0.2.covered;
      ordered = record {
        sites = i.0.0.5.sites;
        told = i.0.0.5.told;
        placed = i.0.0.5.placed;
        hands = i.0.0.5.hands;
        orders = i.0.0.5.orders;
      };
      window = i.0.2;
      acks = λ p c.
          elim (Contains-append_cases w.sent (map (λ (f : SiteNo × SiteFrame). record { from = a; to = f.0; frame = f.1 }) s.frames) p c) [
            | inl old ↦ i.0.3 p old
            | inr new ↦
                let from_it = from_mapped (λ (f : SiteNo × SiteFrame). record { from = a; to = f.0; frame = f.1 }) s.frames p new in
                subst (λ (q : Packet). AckTrue (sites_at home w a s q.from).got q.frame) from_it.2
                (i.0.2.sent a from_it.0.0 from_it.0.1
                (subst (λ (z : State). Contains z.frames from_it.0) (sym (own_is home w a s)) from_it.1))
          ];
      owed = λ q. owed_at q (site_eq a q);
      closing = i.2.sites;
      closed = λ p c.
          elim (Contains-append_cases w.sent (map (λ (f : SiteNo × SiteFrame). record { from = a; to = f.0; frame = f.1 }) s.frames) p c) [
            | inl old ↦ i.2.packets p old
            | inr new ↦
                let from_it = from_mapped (λ (f : SiteNo × SiteFrame). record { from = a; to = f.0; frame = f.1 }) s.frames p new in
                subst (λ (q : Packet). IsClosing i.0.0.1 (sites_at home w a s) i.0.0.3 i.0.0.4 i.0.1 i.1 q.from q.frame) from_it.2
                ((own_closing home w a s i.0.0.1 i.0.0.3 i.0.0.4 i.0.1 i.1 i.2).sent from_it.0.0 from_it.0.1 from_it.1)
          ];
      ended = i.2.ended;
    },
  )
    where
      owed_at : (q : SiteNo) (b : Bool) → OwedBut no_key (if b then s else w.at q)
      owed_at q true = i.0.4
      owed_at q false = x.owed q

step_ended : (home : SiteNo) (w v : Network) (step : Step) → Happens w step v → AllEnded home w → AllEnded home v
step_ended home w v step happens (choice, order, handed, safe, ends, x) = go_on (event_of w step) refl happens
  where
    go_on : (o : Option Event) → event_of w step ≡ o → Becomes w step.site o v → AllEnded home v
    go_on None e same = subst (AllEnded home) (sym same) (choice, order, handed, safe, ends, x)
    go_on (Some made) e (answer, t, is, same) =
        subst (AllEnded home) (sym same) (last_closing home w choice order handed safe ends x step.site t
        (rests_keeps_fully (ClosingNow home w step.site no_key) (λ g. ClosingNow home w step.site (is_of_view g))
        (λ u. ClosingNow home w step.site no_key) (Arrived home w step.site) (site_eq step.site home) true (kept_closing home w step.site)
        (after_event (w.at step.site) made) t is.rests
        (event_keeps_fully (ClosingNow home w step.site no_key) (λ g. ClosingNow home w step.site (is_of_view g))
        (λ u. ClosingNow home w step.site no_key) (Arrived home w step.site) (site_eq step.site home) true (kept_closing home w step.site)
        (w.at step.site) made
        (first_closing home w choice order handed safe ends x step.site)
        (step_arrives home w (hold home w choice order handed safe ends x step.site) step made e)
        (sets_any (ClosingNow home w step.site no_key) (λ u quotas i. books_closing home w step.site no_key u quotas u.moment u.casts i)
        (before_event (w.at step.site)) made (first_closing home w choice order handed safe ends x step.site)) (any_happens made))))

leads_ended : (home : SiteNo) (steps : List Step) (w v : Network) → Leads w steps v → AllEnded home w → AllEnded home v
leads_ended home [] w v same i = subst (AllEnded home) (sym same) i
leads_ended home (step ∷ steps) w v (u, one, more) i = leads_ended home steps u v more (step_ended home w u step one i)

no_ends : Ends
no_ends g v = record { whole = []; start = 0; added = [] }

start_ended : (sites : List SiteNo) (config : SiteNo → DomainConfig) (home : SiteNo) → AllHold home (start sites config) →
    AllEnded home (start sites config)
start_ended sites config home hold_it =
    let agree_it = start_agrees sites config home in (
      no_choice,
      (λ g v. []),
      (λ g v. None),
      (λ g v. 0),
      no_ends,
      record {
        holds = hold_it.sites;
        sound = hold_it.packets;
        agrees = agree_it.sites;
        true_of = agree_it.packets;
        covered = agree_it.covered;
        ordered = start_ordered sites config home;
        window = record {
          acked = λ s q z c. absurd (nothing (q, z) c);
          sent = λ s to f c. absurd (nothing (to, f) c);
          rising = λ s k m n e at_m at_n g v lt. absurd (nothing (Sent m) at_m);
          hands = λ s k m to c. absurd (nothing (Sent m) c);
          knows = λ g v q le chosen b c e is lt. absurd (never_nil b c e is);
          under = λ g v. omega arith;
          near = λ g v. omega arith;
          leads = λ s g k e. absurd (false≢true e);
        };
        acks = λ p c. absurd (nothing p c);
        owed = λ s o c. absurd (nothing o c);
        closing = λ s. record {
          closes = λ g p k e. absurd (false≢true (ap is_some e));
          begins = λ g p k e. absurd (false≢true (ap is_some e));
          well = λ k b c z e. absurd (never_nil b c z e);
          reports = λ g q r c. absurd (nothing (q, r) c);
          decision = λ g waiting d bodies view e. absurd (idle_not waiting d bodies e);
          sent = λ to f c. absurd (nothing (to, f) c);
        };
        closed = λ p c. absurd (nothing p c);
        ended = λ g v le. absurd (omega (arith, le));
      },
    )

pub ended_in_every : (sites : List SiteNo) (config : SiteNo → DomainConfig) (steps : List Step) (w : Network) →
    Reaches sites config steps w → AllEnded (config record { 0 = 0 }).home w
ended_in_every sites config steps w r =
    let home : SiteNo = (config record { 0 = 0 }).home in
    leads_ended home steps (start sites config)
    w r.leads (start_ended sites config home (start_holds sites config home (λ s. r.home s record { 0 = 0 })))

-- The order of those who pass

-- two prefixes of one list with the same elements are one
same_prefixes : (xs ys zs : List Entry) → Apart zs → IsPrefix xs zs → IsPrefix ys zs → ((e : Entry) → Contains xs e → Contains ys e) →
    ((e : Entry) → Contains ys e → Contains xs e) → xs ≡ ys
same_prefixes xs ys zs apart p q one two = elim (comparable xs ys zs p q) [
  | inl r ↦ grown xs ys r (apart_first ys q.0 (subst Apart (sym q.1) apart)) two
  | inr r ↦ sym (grown ys xs r (apart_first xs p.0 (subst Apart (sym p.1) apart)) one)
]
  where
    grown : (us vs : List Entry) → IsPrefix us vs → Apart vs → ((e : Entry) → Contains vs e → Contains us e) → us ≡ vs
    grown us vs r apart_it has = none r.0 r.1
      where
        none : (rest : List Entry) → us ++ rest ≡ vs → us ≡ vs
        none [] is = sym (append-nil us) ∙ is
        none (z ∷ rest) is =
            absurd (apart_both us (z ∷ rest) (subst Apart (sym is) apart_it)
            z (has z (subst (λ l. Contains l z) is (Contains-append_right us (z ∷ rest) z (0, omega arith, refl)))) (0, omega arith, refl))

module _ (home : SiteNo) (w : Network) (all : AllEnded home w) (seen : EachSeen w) (same : SameMessages w (delivered_of w)) where
  abbrev x : Everything home w.sent all.0 all.1 all.2 all.3 all.4 w.at
  x = all.5

  f : Facts w
  f = facts home w (record { sites = x.holds; packets = x.sound })

  module _ (p : Proc) (g : GroupNo) (view : ℕ) (passes_it : Passes w p g view) where
    abbrev until : List Act
    until = passes_it.2 ++ Entered g view passes_it.0 ∷ passes_it.3

    abbrev done : List Entry
    done = done_in g view (abcasts_by (acts_of w p))

    -- all that it delivered of the view it delivered by then
    done_until : done ≡ done_in g view (abcasts_by until)
    done_until =
        let rest : List Act = Entered g (view + 1) passes_it.1 ∷ passes_it.4 in
        let parts : abcasts_by (acts_of w p) ≡ abcasts_by until ++ abcasts_by rest =
        ap abcasts_by passes_it.5 ∙ abcasts_append until rest in
        let none : done_in g view (abcasts_by rest) ≡ [] = done_none g view (abcasts_by rest) (λ z c is.
        let two = parts_of_id g view z is in
        let m = abcast_of passes_it.4 z c in
        none_after w f seen p g view passes_it.0 passes_it.1 passes_it.2 passes_it.3 passes_it.4 passes_it.5 passes_it.6 m.0 m.1
        (ap (λ (u : Uid). u.group) m.2 ∙ two.0) (ap (λ (u : Uid). u.view) m.2 ∙ two.1)) in
        ap (done_in g view) parts
        ∙ ap (map entry_of) (filter-append (is_in g view) (abcasts_by until) (abcasts_by rest))
        ∙ map-append entry_of (filter (is_in g view) (abcasts_by until)) (filter (is_in g view) (abcasts_by rest))
        ∙ ap (λ l. done_in g view (abcasts_by until) ++ l) none ∙ append-nil (done_in g view (abcasts_by until))

    -- it is a prefix of the order that the view ended with
    pub done_begins : IsPrefix done (firsts (final (all.0 g (view + 1)).cut (all.4 g view)))
    done_begins = subst (λ l. IsPrefix l (firsts (final (all.0 g (view + 1)).cut (all.4 g view)))) (sym done_until)
        ((x.closing p.site).well p.serial until passes_it.4 (Entered g (view + 1) passes_it.1)
        passes_it.5 view (still_in w f p g view passes_it.0 passes_it.1 passes_it.2 passes_it.3 passes_it.4 passes_it.5 passes_it.6) refl)

  -- whatever one delivered the other delivered
  has_too : (p q : Proc) (g : GroupNo) (view : ℕ) → Passes w p g view → Passes w q g view → (e : Entry) →
      Contains (done_in g view (abcasts_by (acts_of w p))) e → Contains (done_in g view (abcasts_by (acts_of w q))) e
  has_too p q g view one two e c =
      let m = abcast_of (acts_of w p) (uid_in g view e) (done_named g view (abcasts_by (acts_of w p)) e c) in
      let in_view : is_in g view (uid_in g view e) ≡ true = λ i. group_itself g i && eq-eqb view view refl i in
      let listed : Contains (of_view g view (delivered_of w p)) (uid_in g view e) =
      contains_kept (is_in g view) ((w.at p.site).process p.serial).delivered (uid_in g view e)
      (subst (Contains ((w.at p.site).process p.serial).delivered) m.2 (((x.agrees p.site).ones p.serial).has m.0 m.1)) in_view in
      let other = ((same p q g view one two (uid_in g view e)).0) listed in
      let n =
      ((x.holds q.site).ones q.serial).fits.listed (uid_in g view e)
      (among_kept (is_in g view) ((w.at q.site).process q.serial).delivered (uid_in g view e) other) in
      let sent_m = ((x.holds p.site).ones p.serial).done m.0 m.1 in
      let sent_n = ((x.holds q.site).ones q.serial).done n.0 n.2 in
      let is : n.0 ≡ m.0 = one_message w.at home x.holds n.0 m.0 sent_n sent_m (n.1 ∙ sym m.2) in
      let noted = abcast_among (acts_of w q) n.0 n.2 (ap (λ (z : Message). is_atomic (kind_of z.body)) is ∙ m.3) in
      done_has g view (abcasts_by (acts_of w q)) (uid_in g view e) (subst (Contains (abcasts_by (acts_of w q))) n.1 noted) in_view

  order_same : (p q : Proc) (g : GroupNo) (view : ℕ) → Passes w p g view → Passes w q g view → abcasts_in w p g view ≡ abcasts_in w q g view
  order_same p q g view one two =
      let common =
      same_prefixes (done p g view one) (done q g view two) (firsts (final (all.0 g (view + 1)).cut (all.4 g view)))
      (firsts_apart (final (all.0 g (view + 1)).cut (all.4 g view)))
      (done_begins p g view one) (done_begins q g view two) (has_too p q g view one two) (has_too q p g view two one) in
      names_of g view (abcasts_by (acts_of w p)) ∙ ap (map (uid_in g view)) common ∙ sym (names_of g view (abcasts_by (acts_of w q)))

pub same_order : AllDeliverInOneOrder
same_order sites config steps w r p q g view one two =
    abcasts_are_acts sites config steps w r p g view
    ∙ order_same (config record { 0 = 0 }).home w (ended_in_every sites config steps w r) (seen_in_every sites config steps w r)
    (same_messages sites config steps w r) p q g view one two
    ∙ sym (abcasts_are_acts sites config steps w r q g view)

-- The places before a start

module _ (home : SiteNo) (w : Network) (all : AllEnded home w) where
  abbrev every : Everything home w.sent all.0 all.1 all.2 all.3 all.4 w.at
  every = all.5

  abbrev order : Orders
  order = all.1

  abbrev facts_at : SiteNo → GroupNo → ℕ → List (ℕ × Entry)
  facts_at s g view = flat_map (λ m. told_by m.body) (filter (λ m. is_in g view m.id) (w.at s).got)

  facts_stand : (s : SiteNo) (g : GroupNo) (view : ℕ) (fact : ℕ × Entry) → Contains (facts_at s g view) fact → Stands (order g view) fact
  facts_stand s g view fact c =
      let m = in_flat (λ (z : Message). told_by z.body) (filter (λ z. is_in g view z.id) (w.at s).got) fact c in
      let got = among_kept (λ (z : Message). is_in g view z.id) (w.at s).got m.0 m.1 in
      let two = parts_of_id g view m.0.id (passed (λ (z : Message). is_in g view z.id) (w.at s).got m.0 m.1) in
      subst (λ l. Stands l fact) (λ i. order (two.0 i) (two.1 i))
      (every.ordered.told m.0.id.proc.site m.0.id.proc.serial m.0 fact ((every.holds s).received m.0 got).sent m.2)

  pub starts_known : StartsAreKnown w
  starts_known g view members tail (from, to, request, cut, sent) = (
    first_ones,
    long,
    λ s has.
        let named_it = has.3 in
        let frame_of : Packet = record {
          from = named_it.0;
          to = named_it.1;
          frame = frame.Install g view has.0 named_it.2 named_it.3 has.1;
        } in
        let p : Proc = has.2 in
        let decided : view ≤ numbers w.at home g = (every.sound frame_of named_it.4).0 in
        let chosen : IsChosen all.0 g view p = subst (λ (z : Membership). Contains z.list p) (every.true_of frame_of named_it.4).0 has.4 in
        let knows = every.window.knows g view p decided chosen in
        let reach : IsPrefix first_ones (known_order (facts_at p.site g view)) =
        known_reaches (order g view) (facts_at p.site g view) (facts_stand p.site g view) first_ones begin
        (λ b c e is lt. let m = knows b c e is (let a = known_it in omega (arith, lt, long, start_is, a)) in
        flat_has (λ (z : Message). told_by z.body) (filter (λ z. is_in g view z.id) (w.at p.site).got) m.0 (length b + 1, e)
        (contains_kept (λ (z : Message). is_in g view z.id) (w.at p.site).got m.0 m.1 m.2) m.3)
        (let few = (every.ordered.orders g view).few in let a = low in omega (arith, few, a, long)) in
        subst (λ z. take tail.start (order_at w z g view) ≡ first_ones) has.5
        (sym (take_begin tail.start first_ones (known_order (facts_at p.site g view)) reach (omega (arith, long)))
        ∙ take_begin tail.start first_ones (order g view) begin (omega (arith, long))),
  )
    where
      decided_next : view + 1 ≤ numbers w.at home g
      decided_next = (every.sound (record { from = from; to = to; frame = frame.Install g (view + 1) members request cut tail }) sent).0

      start_is : tail.start ≡ (all.4 g view).start
      start_is =
          ap (λ (z : Tail). z.start)
          (every.closed (record { from = from; to = to; frame = frame.Install g (view + 1) members request cut tail }) sent view refl)

      known_it : (all.4 g view).start ≤ all.3 g view
      known_it = (every.ended g view decided_next).known

      low : tail.start ≤ length (all.1 g view)
      low = let a = known_it in let b = every.window.under g view in omega (arith, a, b, start_is)

      first_ones : List Entry
      first_ones = take tail.start (all.1 g view)

      long : length (take tail.start (all.1 g view)) ≡ tail.start
      long = length-take-le tail.start (all.1 g view) low

      begin : IsPrefix (take tail.start (all.1 g view)) (all.1 g view)
      begin = (drop tail.start (all.1 g view), take-append-drop tail.start (all.1 g view))

pub starts_are_known : AllStartsAreKnown
starts_are_known sites config steps w r = starts_known (config record { 0 = 0 }).home w (ended_in_every sites config steps w r)
