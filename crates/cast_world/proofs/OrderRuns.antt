-- What holds of orders holds in every network that steps lead to. So members that deliver ABCASTs of one view agree.
use Rattle.cast_types.proofs.Orders.{same_site}
use Rattle.cast_world.proofs.ListsAreActs.{abcasts_are_acts}
use Rattle.std.proofs.Common.{ap, append_assoc, arith, inl, inr, subst, sym, ◌∙◌}
use Rattle.std.proofs.lemmas.Bool.{false≢true}
use Rattle.std.proofs.lemmas.List.Elements.{Contains-append_right, Contains-push_cases}
use Rattle.std.proofs.lemmas.List.{append-nil, map-append}
use Rattle.std.specs.Prelude.{◌++◌, Bool, Contains, List, None, Option, Some, [], false, filter}
use Rattle.std.specs.Prelude.{if◌then◌else◌, is_some, map, refl, true, unwrap_or, ℕ, ◌∷◌, ◌≡◌, ◌⊎◌}
use Rattle.cast_rules.specs.Acts.{Act}
use Rattle.cast_rules.specs.Acts.Act.{Delivered, Entered, Left, Sent}
use Rattle.cast_rules.specs.Run.{after_event, before_event}
use Rattle.cast_rules.specs.State.{State, local}
use Rattle.cast_message.specs.declared.message.Message.{Message}
use Rattle.cast_events.specs.declared.config.DomainConfig.{DomainConfig}
use Rattle.cast_events.specs.declared.event.Event.{Event}
use Rattle.cast_types.specs.Counts.{CountList}
use Rattle.cast_types.specs.Names.{Entry, uid_in, site_eq}
use Rattle.cast_types.specs.declared.names.GroupNo.{GroupNo}
use Rattle.cast_types.specs.declared.names.Proc.{Proc}
use Rattle.cast_types.specs.declared.names.SiteNo.{SiteNo}
use Rattle.cast_types.specs.declared.names.Standing.TheVariants.{Member}
use Rattle.cast_world.proofs.Acts.{does, does_not, enters}
use Rattle.cast_world.proofs.Events.{after_event_keeps, rests_keeps}
use Rattle.cast_world.proofs.Flush.{Choice, numbers}
use Rattle.cast_world.proofs.FlushRuns.{AllAgree, flush_first, flush_last, no_choice, same_number, start_agrees}
use Rattle.cast_world.proofs.Ones.{outside_not_member}
use Rattle.cast_world.proofs.OrderLaters.{order_later, teller_chosen}
use Rattle.cast_world.proofs.OrderMoves.{OrderNow}
use Rattle.cast_world.proofs.OrderSteps.{kept_ordered}
use Rattle.cast_world.proofs.Orders.{AllOrdered, OneOrdered, Orders, SiteOrdered, done_in, token_at}
use Rattle.cast_world.proofs.Prefixes.{comparable, prefix_trans}
use Rattle.cast_world.proofs.Listings.{names_of}
use Rattle.cast_world.proofs.Runs.{ahead_first, first, last, nothing, start_holds, step_arrives}
use Rattle.cast_world.proofs.Steps.{AllHold, Arrived, sites_at}
use Rattle.cast_world.proofs.Tokens.{HandOvers, tells, token_in}
use Rattle.cast_world.specs.Agreement.{IsPrefix, IsWithin, abcasts_in, abcasts_of_view, delivered_of, is_in}
use Rattle.cast_world.specs.HappenedBefore.{NeverLeft, acts_of}
use Rattle.cast_world.specs.Laws.{AllOrdersAgree}
use Rattle.cast_world.specs.Network.{Becomes, Happens, Leads, Network, Reaches, event_of, move_site, start}
use Rattle.cast_world.specs.Properties.{IsIn, NeverEntered}
use Rattle.cast_world.specs.declared.step.Step.{Step}

-- networks with all that holds
abbrev pub AllInOrder : SiteNo → Network → Type 0
AllInOrder home w =
    AllHold home w
    × (choice : Choice)
    × AllAgree home w choice
    × (order : Orders)
    × (handed : HandOvers)
    × AllOrdered choice (numbers w.at home) w.at order handed

-- One step

module _ (home : SiteNo) (w : Network) (h : AllHold home w) (choice : Choice) (agree : AllAgree home w choice) (order : Orders)
    (handed : HandOvers) (x : AllOrdered choice (numbers w.at home) w.at order handed) (a : SiteNo) where
  abbrev t0 : State
  t0 = before_event (w.at a)

  order_first : AllOrdered choice (numbers (sites_at home w a t0) home) (sites_at home w a t0) order handed
  order_first = record {
    sites = λ s. site s (site_eq a s) refl;
    told = λ s k m fact c at_it. x.told s k m fact (acts_same s k m (site_eq a s) refl c) at_it;
    placed = λ s k m c. x.placed s k m (acts_same s k m (site_eq a s) refl c);
    hands = λ s k m to c names. elim (x.hands s k m to (acts_same s k m (site_eq a s) refl c) names) [
      | inl last ↦ inl last
      | inr did ↦
          inr ((ahead_first home w h a to.site).did to.serial (Delivered m) did)
    ];
    orders = λ g view. order_later home choice choice w.at (sites_at home w a t0)
        (λ j. ((let same = same_number home w h choice agree a j in omega (arith, same)), λ n le. refl)) (ahead_first home w h a)
        g view (order g view) (handed g view) (x.orders g view);
  }
    where
      site : (s : SiteNo) (b : Bool) → site_eq a s ≡ b → SiteOrdered order handed (if b then t0 else w.at s)
      site s true e = x.sites a
      site s false e = x.sites s

      acts_same : (s : SiteNo) (k : ℕ) (m : Message) (b : Bool) → site_eq a s ≡ b → Contains ((if b then t0 else w.at s).acts k) (Sent m) →
          Contains ((w.at s).acts k) (Sent m)
      acts_same s k m true e c = subst (λ z. Contains ((w.at z).acts k) (Sent m)) (same_site a s e) c
      acts_same s k m false e c = c

  pub now_first : OrderNow home w a t0
  now_first = (first home w h a, choice, flush_first home w h choice agree a, order, handed, order_first)

step_ordered : (home : SiteNo) (w v : Network) (step : Step) → Happens w step v → AllInOrder home w → AllInOrder home v
step_ordered home w v step happens (h, choice, agree, order, handed, x) = go (event_of w step) refl happens
  where
    after : (t : State) → OrderNow home w step.site t → AllInOrder home (move_site w step.site t)
    after t (now, more, f, next, handing, y) = (
      last home w h step.site t now,
      more,
      flush_last home w step.site t more f,
      next,
      handing,
      record { sites = y.sites; told = y.told; placed = y.placed; hands = y.hands; orders = y.orders },
    )

    go : (o : Option Event) → event_of w step ≡ o → Becomes w step.site o v → AllInOrder home v
    go None e same = subst (AllInOrder home) (sym same) (h, choice, agree, order, handed, x)
    go (Some made) e (answer, t, is, same) = subst (AllInOrder home) (sym same) (after t
        (rests_keeps (OrderNow home w step.site) (Arrived home w step.site) (site_eq step.site home) (kept_ordered home w step.site)
        (after_event (w.at step.site) made) t is.rests
        (after_event_keeps (OrderNow home w step.site) (Arrived home w step.site) (site_eq step.site home) (kept_ordered home w step.site)
        (w.at step.site) made
        (now_first home w h choice agree order handed x step.site) (step_arrives home w h step made e))))

leads_ordered : (home : SiteNo) (steps : List Step) (w v : Network) → Leads w steps v → AllInOrder home w → AllInOrder home v
leads_ordered home [] w v same i = subst (AllInOrder home) (sym same) i
leads_ordered home (step ∷ steps) w v (u, one, more) i = leads_ordered home steps u v more (step_ordered home w u step one i)

pub start_ordered : (sites : List SiteNo) (config : SiteNo → DomainConfig) (home : SiteNo) →
    AllOrdered no_choice (numbers (start sites config).at home) (start sites config).at (λ g view. []) (λ g view. None)
start_ordered sites config home = record {
  sites = λ s. record {
    listed = λ k. refl;
    once = λ k. tt;
    frozen = λ g e. absurd (false≢true e);
    low = λ k u c. absurd (nothing u c);
    low_done = λ k m c. elim c [ inl sent ↦ absurd (nothing (Sent m) sent) | inr did ↦ absurd (nothing (Delivered m) did) ];
    tokens = λ g k e. absurd (false≢true e);
    ones = λ g k waits. record { follows = λ e _. absurd (outside_not_member e); leads = λ e. absurd (false≢true e) };
  };
  told = λ s k m fact c at_it. absurd (nothing (Sent m) c);
  placed = λ s k m c. absurd (nothing (Sent m) c);
  hands = λ s k m to c names. absurd (nothing (Sent m) c);
  orders = λ g view. record {
    apart = tt;
    few = omega arith;
    atomic = λ e c. absurd (nothing e c);
    begun = inl (refl, refl);
    last = λ m e. absurd (false≢true (ap is_some e));
  };
}

pub ordered_in_every : (sites : List SiteNo) (config : SiteNo → DomainConfig) (steps : List Step) (w : Network) →
    Reaches sites config steps w → AllInOrder (config record { 0 = 0 }).home w
ordered_in_every sites config steps w r =
    let home : SiteNo = (config record { 0 = 0 }).home in
    leads_ordered home steps (start sites config) w r.leads (
      start_holds sites config home (λ s. r.home s record { 0 = 0 }),
      no_choice,
      start_agrees sites config home,
      (λ g view. []),
      (λ g view. None),
      start_ordered sites config home,
    )

-- Who entered a view and did not leave since is in one

last_entered : (g : GroupNo) (n : ℕ) (cut : CountList) (acts a b c : List Act) → acts ≡ a ++ Entered g n cut ∷ (b ++ c) →
    NeverLeft g (b ++ c) → NeverEntered g b → (v : ℕ) × IsIn acts g v
last_entered g n cut acts a b [] is stays never = (
  n,
  (
    a,
    b,
    cut,
    is ∙ ap (λ l. a ++ Entered g n cut ∷ l) (append-nil b),
    (λ at. stays (subst (λ l. Contains l (Left g)) (sym (append-nil b)) at)),
    never,
  ),
)
last_entered g n cut acts a b (x ∷ c) is stays never = elim (enters g x) [
  | does k d here ↦ last_entered g k d acts (a ++ Entered g n cut ∷ b) [] c
      (is ∙ ap (λ y. a ++ Entered g n cut ∷ (b ++ y ∷ c)) here ∙ sym (append_assoc a (Entered g n cut ∷ b) (Entered g k d ∷ c)))
      (λ at. stays (Contains-append_right b (x ∷ c) (Left g) (Contains-append_right (x ∷ []) c (Left g) at)))
      (λ i e at. absurd (omega (arith, at.1)))
  | does_not other ↦ last_entered g n cut acts a (b ++ x ∷ []) c
      (is ∙ ap (λ l. a ++ Entered g n cut ∷ l) (sym (append_assoc b (x ∷ []) c)))
      (λ at. stays (subst (λ l. Contains l (Left g)) (append_assoc b (x ∷ []) c) at))
      (λ k d at. elim (Contains-push_cases b x (Entered g k d) at) [ inl old ↦ never k d old | inr same ↦ other k d same ])
]

-- The law

module _ (home : SiteNo) (w : Network) (all : AllInOrder home w) where
  abbrev order : Orders
  order = all.3

  module _ (p : Proc) (g : GroupNo) (view : ℕ) (within : IsWithin w p g view) where
    abbrev s : State
    s = w.at p.site

    abbrev done : List Entry
    done = done_in g view (s.abcasts p.serial)

    one : OneOrdered ((s.process p.serial).standing g) (token_in s.here (s.group g) g (s.acts p.serial) p.serial) (order g view)
        g view (local s p.serial) (s.abcasts p.serial) s.got
    one =
        subst (λ v. OneOrdered ((s.process p.serial).standing g) (token_in s.here (s.group g) g (s.acts p.serial) p.serial) (order g v)
        g v (local s p.serial) (s.abcasts p.serial) s.got) within.current ((all.5.sites p.site).ones g p.serial within.waits)

    member : (s.process p.serial).standing g ≡ Member
    member =
        let e = within.entered in
        let last_one = last_entered g view e.0 (acts_of w p) e.1 [] e.2 e.3 e.4 (λ k d at. absurd (omega (arith, at.1))) in
        (((all.0.sites p.site).ones p.serial).fits.member g last_one.0 last_one.1).0

    begins : tells s.here (s.group g) g (s.acts p.serial) p.serial ≡ false → IsPrefix done (order g view)
    begins e = (one.follows member e).begins

    names : abcasts_in w p g view ≡ map (uid_in g view) (done_in g view (s.abcasts p.serial))
    names = sym (ap (filter (is_in g view)) ((all.5.sites p.site).listed p.serial)) ∙ names_of g view (s.abcasts p.serial)

    chosen : tells s.here (s.group g) g (s.acts p.serial) p.serial ≡ true → token_at all.1 all.4 g view ≡ Some p
    chosen e =
        let is =
        teller_chosen all.1 all.4 g (s.group g) ((all.2.sites p.site).groups g) s.here p.serial (s.acts p.serial)
        (unwrap_or (token_in s.here (s.group g) g (s.acts p.serial) p.serial) 1) ((all.5.sites p.site).tokens g p.serial e) in
        ap (token_at all.1 all.4 g) (sym within.current)
        ∙ is
        ∙ ap (λ z. Some record { site = z; serial = p.serial }) (all.0.sites p.site).here_is

  as_names : (p q : Proc) (g : GroupNo) (view : ℕ) (one_p : IsWithin w p g view) (one_q : IsWithin w q g view) →
      IsPrefix (done p g view one_p) (done q g view one_q) → IsPrefix (abcasts_in w p g view) (abcasts_in w q g view)
  as_names p q g view one_p one_q r = (
    map (uid_in g view) r.0,
    ap (λ l. l ++ map (uid_in g view) r.0) (names p g view one_p)
        ∙ sym (map-append (uid_in g view) (done p g view one_p) r.0)
        ∙ ap (map (uid_in g view)) r.1
        ∙ sym (names q g view one_q),
  )

  agrees_in : (p q : Proc) (g : GroupNo) (view : ℕ) → IsWithin w p g view → IsWithin w q g view →
      IsPrefix (abcasts_in w p g view) (abcasts_in w q g view) ⊎ IsPrefix (abcasts_in w q g view) (abcasts_in w p g view)
  agrees_in p q g view a b =
      go (tells (w.at p.site).here ((w.at p.site).group g) g ((w.at p.site).acts p.serial) p.serial)
      (tells (w.at q.site).here ((w.at q.site).group g) g ((w.at q.site).acts q.serial) q.serial) refl refl
    where
      go : (x y : Bool) → tells (w.at p.site).here ((w.at p.site).group g) g ((w.at p.site).acts p.serial) p.serial ≡ x →
          tells (w.at q.site).here ((w.at q.site).group g) g ((w.at q.site).acts q.serial) q.serial ≡ y →
          IsPrefix (abcasts_in w p g view) (abcasts_in w q g view) ⊎ IsPrefix (abcasts_in w q g view) (abcasts_in w p g view)
      go false false e f =
          elim (comparable (done p g view a) (done q g view b) (order g view) (begins p g view a e) (begins q g view b f)) [
            | inl r ↦ inl (as_names p q g view a b r)
            | inr r ↦ inr (as_names q p g view b a r)
          ]
      go true false e f =
          inr (as_names q p g view b a
          (prefix_trans (done q g view b) (order g view) (done p g view a) (begins q g view b f) ((one p g view a).leads e).all))
      go false true e f =
          inl (as_names p q g view a b
          (prefix_trans (done p g view a) (order g view) (done q g view b) (begins p g view a e) ((one q g view b).leads f).all))
      go true true e f =
          let same : p ≡ q = ap (λ (o : Option Proc). unwrap_or o p) (sym (chosen p g view a e) ∙ chosen q g view b f) in
          inl (subst (λ z. IsPrefix (abcasts_in w p g view) (abcasts_in w z g view)) same ([], append-nil (abcasts_in w p g view)))

pub orders_agree : AllOrdersAgree
orders_agree sites config steps w r p q g view a b =
    let one = abcasts_are_acts sites config steps w r p g view in
    let other = abcasts_are_acts sites config steps w r q g view in
    elim (agrees_in (config record { 0 = 0 }).home w (ordered_in_every sites config steps w r) p q g view a b) [
      | inl is ↦
          inl (subst (λ us. IsPrefix us (abcasts_of_view w g view (delivered_of w q))) (sym one)
          (subst (IsPrefix (abcasts_in w p g view)) (sym other) is))
      | inr is ↦
          inr (subst (λ us. IsPrefix us (abcasts_of_view w g view (delivered_of w p))) (sym other)
          (subst (IsPrefix (abcasts_in w q g view)) (sym one) is))
    ]
