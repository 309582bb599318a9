-- What a process delivered is, in order, what its acts say that it delivered; and so are the ABCASTs among that.
use Rattle.cast_delay.proofs.MemberLemmas.{member_any}
use Rattle.cast_types.proofs.Orders.{same_uid, uid_itself}
use Rattle.std.proofs.Common.{ap, subst, sym, ◌∙◌}
use Rattle.std.proofs.lemmas.Bool.{and_parts, false_from_ne_true, true≢false}
use Rattle.std.proofs.lemmas.List.{append-nil}
use Rattle.std.specs.Prelude.{◌&&◌, ◌||◌, ◌+◌, ◌++◌, ◌==◌, Bool, Contains, List, None, Option, Some}
use Rattle.std.specs.Prelude.{[], cond, false, filter, if◌then◌else◌, refl, true, ℕ, ◌∷◌, ◌≡◌}
use Rattle.std.specs.List.{list_any}
use Rattle.cast_clock.specs.Times.{join, view_of}
use Rattle.cast_ready.specs.Ready.{Process, is_member}
use Rattle.cast_rules.specs.Acts.{Act}
use Rattle.cast_rules.specs.Acts.Act.{Delivered, Entered, Left, Sent}
use Rattle.cast_rules.specs.Effects.{next_message}
use Rattle.cast_rules.specs.Entering.{enters, in_view, is_put_out, put_outside, passing, putting_out}
use Rattle.cast_rules.specs.History.{history}
use Rattle.cast_rules.specs.Noted.{abcasts_by, delivered_by}
use Rattle.cast_rules.specs.Rules.Asking.{is_home}
use Rattle.cast_rules.specs.Run.{IsStep, after_event}
use Rattle.cast_rules.specs.State.{State, gate_of, noting_act, outside}
use Rattle.cast_rules.specs.Turns.{turn_of}
use Rattle.cast_message.specs.Bodies.{kind_of}
use Rattle.cast_message.specs.Membership.{Membership}
use Rattle.cast_message.specs.declared.message.Message.{Message}
use Rattle.cast_events.specs.declared.config.DomainConfig.{DomainConfig}
use Rattle.cast_events.specs.declared.event.Event.{Event}
use Rattle.cast_events.specs.declared.event.Taken.{Taken}
use Rattle.cast_types.specs.Counts.{CountList}
use Rattle.cast_types.specs.Names.{group_eq, is_atomic, site_eq, uid_eq}
use Rattle.cast_types.specs.Sets.{set_at}
use Rattle.cast_types.specs.declared.names.GroupNo.{GroupNo}
use Rattle.cast_types.specs.declared.names.Proc.{Proc}
use Rattle.cast_types.specs.declared.names.SiteNo.{SiteNo}
use Rattle.cast_types.specs.declared.names.Standing.TheVariants.{Joining}
use Rattle.cast_types.specs.declared.names.Uid.{Uid}
use Rattle.cast_world.proofs.Acts.{contains_here}
use Rattle.cast_world.proofs.Allowed.{contains_more, ready_new}
use Rattle.cast_world.proofs.Events.{after_event_keeps, any_came, rests_keeps}
use Rattle.cast_world.proofs.Invariants.{WasSent}
use Rattle.cast_world.proofs.Kept.{Any, Kept}
use Rattle.cast_world.proofs.Laters.{set_all, set_both}
use Rattle.cast_world.proofs.OrderLaters.{one_message}
use Rattle.cast_world.proofs.Orders.{Apart}
use Rattle.cast_world.proofs.Prefixes.{apart_more}
use Rattle.cast_world.proofs.Pushes.{EachTold, told_in_every}
use Rattle.cast_world.proofs.Runs.{causal_delivery, holds_in_every}
use Rattle.cast_world.proofs.Steps.{AllHold}
use Rattle.cast_world.specs.Agreement.{abcasts_of_view, is_abcast, is_in}
use Rattle.cast_world.specs.HappenedBefore.{StandsBefore, acts_of}
use Rattle.cast_world.specs.Laws.{AllAbcastsAreActs, AllListsAreActs, AllListsAreInOrder, IsBefore}
use Rattle.cast_world.specs.Network.{Becomes, Happens, Leads, Network, Reaches, event_of, start}
use Rattle.cast_world.specs.declared.step.Step.{Step}

-- where each of a list fails a test, none passes
none_any : {X : Type 0} (t : X → Bool) (xs : List X) → ((x : X) → Contains xs x → t x ≡ false) → list_any t xs ≡ false
none_any t [] none = refl
none_any t (x ∷ xs) none =
    ap (λ b. b || list_any t xs) (none x (contains_here [] xs x)) ∙ none_any t xs (λ y has. none y (contains_more x xs y has))

pub delivered_append : (xs ys : List Act) → delivered_by (xs ++ ys) ≡ delivered_by xs ++ delivered_by ys
delivered_append [] ys = refl
delivered_append (Sent m ∷ xs) ys = delivered_append xs ys
delivered_append (Delivered m ∷ xs) ys = ap (λ us. m.id ∷ us) (delivered_append xs ys)
delivered_append (Entered g view cut ∷ xs) ys = delivered_append xs ys
delivered_append (Left g ∷ xs) ys = delivered_append xs ys

-- an act that is no delivery
none_more : (acts : List Act) (y : Act) → delivered_by (y ∷ []) ≡ [] → delivered_by acts ≡ delivered_by (acts ++ y ∷ [])
none_more acts y none =
    sym (append-nil (delivered_by acts)) ∙ ap (λ us. delivered_by acts ++ us) (sym none) ∙ sym (delivered_append acts (y ∷ []))

-- a process's list is that of its acts, and has no id twice
abbrev pub Fit : Process → List Act → Type 0
Fit p acts = (p.delivered ≡ delivered_by acts) × Apart p.delivered

with_act : (p : Process) (acts : List Act) (y : Act) → delivered_by (y ∷ []) ≡ [] → Fit p acts → Fit p (acts ++ y ∷ [])
with_act p acts y none fit = (fit.0 ∙ none_more acts y none, fit.1)

module _ (s : State) where
  -- so is each process's, and the site is the same as in s
  abbrev IsListed : State → Type 0
  IsListed t = (t.here ≡ s.here) × (t.config ≡ s.config) × ((k : ℕ) → Fit (t.process k) (t.acts k))

  with_one : (t : State) → IsListed t → (k : ℕ) (p : Process) (acts : List Act) → Fit p acts → (j : ℕ) →
      Fit (set_at (λ a b. a == b) t.process k p j) (set_at (λ a b. a == b) t.acts k acts j)
  with_one t l k p acts fit = set_both (λ j q x. Fit q x) t.process t.acts k p acts l.2 fit

  standing_one : (t : State) → IsListed t → (k : ℕ) (p : Process) → p.delivered ≡ (t.process k).delivered → (j : ℕ) →
      Fit (set_at (λ a b. a == b) t.process k p j) (t.acts j)
  standing_one t l k p same = set_all (λ j q. Fit q (t.acts j)) t.process k p l.2 (same ∙ (l.2 k).0, subst Apart (sym same) (l.2 k).1)

  outside_listed : (t : State) → IsListed t → (k : ℕ) (g : GroupNo) → IsListed (outside t k g)
  outside_listed t l k g = (l.0, l.1, go (is_member ((t.process k).standing g)))
    where
      go : (b : Bool) (j : ℕ) → Fit (set_at (λ a c. a == c) t.process k (put_outside g (t.process k)) j)
          ((if b then (noting_act t k (Left g)).acts else t.acts) j)
      go true = with_one t l k (put_outside g (t.process k)) (t.acts k ++ Left g ∷ [])
          (with_act (t.process k) (t.acts k) (Left g) refl (l.2 k))
      go false = standing_one t l k (put_outside g (t.process k)) refl

  passing_listed : (t : State) → IsListed t →
      (g : GroupNo) (skipped : Bool) (n : ℕ) (members : Membership) (request : ℕ) (cut : CountList) →
      IsListed (passing t g skipped n members request cut)
  passing_listed t l g skipped n members request cut = (l.0, l.1, λ k. two k (enters left g members request k))
    where
      left : State
      left = putting_out t g skipped members

      one : (k : ℕ) (b : Bool) →
          Fit (if b then put_outside g (t.process k) else t.process k) (if b then t.acts k ++ Left g ∷ [] else t.acts k)
      one k true = with_act (t.process k) (t.acts k) (Left g) refl (l.2 k)
      one k false = l.2 k

      two : (k : ℕ) (b : Bool) →
          Fit (if b then in_view g n ((putting_out t g skipped members).process k) else (putting_out t g skipped members).process k)
          (if b then (putting_out t g skipped members).acts k ++ Entered g n cut ∷ [] else (putting_out t g skipped members).acts k)
      two k true = with_act (left.process k) (left.acts k) (Entered g n cut) refl (one k (is_put_out t g skipped members k))
      two k false = one k (is_put_out t g skipped members k)

  kept_listed : Kept IsListed Any (is_home history s)
  kept_listed = record {
    telling = record {
      emits = λ t to f l says. l;
      books = λ t quotas moment acks told owed casts pushes l. l;
      releases = λ t lets l. l;
      sets_session = λ t k v l same. l;
      parts = λ t k g l. outside_listed t l k g;
      requests = λ t g what p l. l;
    };
    fixed = λ t l. λ i. site_eq (l.0 i) (l.1 i).home;
    opens = λ t l. l;
    answers = λ t g l. l;
    joins = λ t k g l open_it known out. (
      l.0,
      l.1,
      standing_one t l k (record (t.process k) {
        standing = set_at group_eq (t.process k).standing g
            (Joining ((t.group g).asked + 1) (view_of (t.process k).time g));
      }) refl,
    );
    sends = λ t g k content l member may.
        let m : Message = next_message t g k content in (
          l.0,
          l.1,
          with_one t l k (record (t.process k) { time = m.times }) (t.acts k ++ Sent m ∷ [])
              (with_act (t.process k) (t.acts k) (Sent m) refl (l.2 k)),
        );
    receives = λ t from m l came view member. l;
    delivers = λ t k m l c ready. (
      l.0,
      l.1,
      with_one t l k (record (t.process k) { time = join (t.process k).time m.times; delivered = (t.process k).delivered ++ m.id ∷ [] })
          (t.acts k ++ Delivered m ∷ []) (
            ap (λ us. us ++ m.id ∷ []) (l.2 k).0 ∙ sym (delivered_append (t.acts k) (Delivered m ∷ [])),
            apart_more (t.process k).delivered m.id (l.2 k).1
                (ready_new t.config.groups (gate_of t) (turn_of t k) (t.process k) m ready tt),
          ),
    );
    freezes = λ t g l current. l;
    pends = λ t from g p tail l came current. l;
    passes = λ t g skipped n members request cut l comes. passing_listed t l g skipped n members request cut;
    homes = λ t g what l may. l;
  }

  step_listed : (e : Event) (answer : Taken) (t : State) → IsStep s e answer t →
      ((k : ℕ) → Fit (s.process k) (s.acts k)) → (k : ℕ) → Fit (t.process k) (t.acts k)
  step_listed e answer t is before = (rests_keeps IsListed Any (is_home history s) kept_listed (after_event s e) t is.rests
      (after_event_keeps IsListed Any (is_home history s) kept_listed s e (refl, refl, before) (any_came e))).2

-- Every run

abbrev pub EachListed : Network → Type 0
EachListed w = (s : SiteNo) (k : ℕ) → Fit ((w.at s).process k) ((w.at s).acts k)

moves_listed : (w v : Network) (step : Step) → Happens w step v → EachListed w → EachListed v
moves_listed w v step happens all = go (event_of w step) happens
  where
    after_it : (t : State) → ((k : ℕ) → Fit (t.process k) (t.acts k)) → (s : SiteNo) (k : ℕ) (b : Bool) →
        Fit ((if b then t else w.at s).process k) ((if b then t else w.at s).acts k)
    after_it t listed s k true = listed k
    after_it t listed s k false = all s k

    go : (o : Option Event) → Becomes w step.site o v → EachListed v
    go None same = subst EachListed (sym same) all
    go (Some made) (answer, t, is, same) =
        subst EachListed (sym same)
        (λ s k. after_it t (step_listed (w.at step.site) made answer t is (all step.site)) s k (site_eq step.site s))

leads_listed : (steps : List Step) (w v : Network) → Leads w steps v → EachListed w → EachListed v
leads_listed [] w v same all = subst EachListed (sym same) all
leads_listed (step ∷ steps) w v (u, one, more) all = leads_listed steps u v more (moves_listed w u step one all)

pub listed_in_every : (sites : List SiteNo) (config : SiteNo → DomainConfig) (steps : List Step) (w : Network) →
    Reaches sites config steps w → EachListed w
listed_in_every sites config steps w r = leads_listed steps (start sites config) w r.leads (λ s k. (refl, tt))

pub lists_are_acts : AllListsAreActs
lists_are_acts sites config steps w r p = (listed_in_every sites config steps w r p.site p.serial).0

-- what stands before another thing among the acts stands before it in the list
listed_before : (acts : List Act) (x m : Message) → StandsBefore acts (Delivered x) (Delivered m) → IsBefore (delivered_by acts) x.id m.id
listed_before acts x m (a, b, c, is) = (
  delivered_by a,
  delivered_by b,
  delivered_by c,
  ap delivered_by is
      ∙ delivered_append (a ++ Delivered x ∷ b) (Delivered m ∷ c)
      ∙ ap (λ us. us ++ m.id ∷ delivered_by c) (delivered_append a (Delivered x ∷ b)),
)

pub listed_in_order : AllListsAreInOrder
listed_in_order sites config steps w r p x m has before due =
    subst (λ us. IsBefore us x.id m.id) (sym (lists_are_acts sites config steps w r p))
    (listed_before (acts_of w p) x m (causal_delivery sites config steps w r p x m has before due))

-- The ABCASTs of a view among what a process delivered

-- a test of ids tells, of these acts, which deliveries are of ABCASTs
abbrev pub TellsAbcasts : (Uid → Bool) → List Act → Type 0
TellsAbcasts test acts = (m : Message) → Contains acts (Delivered m) → test m.id ≡ is_atomic (kind_of m.body)

listed_abcasts : (test of : Uid → Bool) (acts : List Act) → TellsAbcasts test acts →
    filter of (abcasts_by acts) ≡ filter test (filter of (delivered_by acts))
listed_abcasts test of [] tells = refl
listed_abcasts test of (Sent m ∷ acts) tells = listed_abcasts test of acts (λ x at. tells x (contains_more (Sent m) acts (Delivered x) at))
listed_abcasts test of (Entered g view cut ∷ acts) tells =
    listed_abcasts test of acts (λ x at. tells x (contains_more (Entered g view cut) acts (Delivered x) at))
listed_abcasts test of (Left g ∷ acts) tells = listed_abcasts test of acts (λ x at. tells x (contains_more (Left g) acts (Delivered x) at))
listed_abcasts test of (Delivered m ∷ acts) tells =
    go (is_atomic (kind_of m.body)) (tells m (contains_here [] acts (Delivered m)))
    (listed_abcasts test of acts (λ x at. tells x (contains_more (Delivered m) acts (Delivered x) at)))
  where
    listed_or_not : (xs ys : List Uid) → xs ≡ filter test ys → test m.id ≡ true → (b : Bool) →
        cond b (m.id ∷ xs) xs ≡ filter test (cond b (m.id ∷ ys) ys)
    listed_or_not xs ys same is true = ap (λ l. m.id ∷ l) same ∙ ap (λ b. cond b (m.id ∷ filter test ys) (filter test ys)) (sym is)
    listed_or_not xs ys same is false = same

    left_out : (ys : List Uid) → test m.id ≡ false → (b : Bool) → filter test ys ≡ filter test (cond b (m.id ∷ ys) ys)
    left_out ys is true = ap (λ b. cond b (m.id ∷ filter test ys) (filter test ys)) (sym is)
    left_out ys is false = refl

    go : (b : Bool) → test m.id ≡ b → filter of (abcasts_by acts) ≡ filter test (filter of (delivered_by acts)) →
        filter of (if b then m.id ∷ abcasts_by acts else abcasts_by acts) ≡ filter test (filter of (m.id ∷ delivered_by acts))
    go true is same = listed_or_not (filter of (abcasts_by acts)) (filter of (delivered_by acts)) same is (of m.id)
    go false is same = same ∙ left_out (filter of (delivered_by acts)) is (of m.id)

-- the site of a sender has its messages, each the only one of its id
pub abcasts_told : (home : SiteNo) (w : Network) → AllHold home w → EachTold w → (p : Proc) → TellsAbcasts (is_abcast w) (acts_of w p)
abcasts_told home w all told p m at = go (is_atomic (kind_of m.body)) refl
  where
    test : Message → Bool
    test x = uid_eq x.id m.id && is_atomic (kind_of x.body)

    sent : WasSent w.at m
    sent = ((all.sites p.site).ones p.serial).done m at

    is_one : (x : Message) → Contains (w.at m.id.proc.site).got x → uid_eq x.id m.id ≡ true → x ≡ m
    is_one x has same = one_message w.at home all.sites x m ((all.sites m.id.proc.site).received x has).sent sent (same_uid x.id m.id same)

    go : (b : Bool) → is_atomic (kind_of m.body) ≡ b → is_abcast w m.id ≡ b
    go true is =
        member_any test (w.at m.id.proc.site).got m ((told m.id.proc.site).received m.id.proc.serial m sent)
        (λ i. uid_itself m.id i && is i)
    go false is = none_any test (w.at m.id.proc.site).got (λ x has. false_from_ne_true (test x) (λ passes.
        let tests = and_parts (uid_eq x.id m.id) (is_atomic (kind_of x.body)) passes in
        true≢false (sym tests.1 ∙ ap (λ (y : Message). is_atomic (kind_of y.body)) (is_one x has tests.0) ∙ is)))

pub abcasts_are_acts : AllAbcastsAreActs
abcasts_are_acts sites config steps w r p g view =
    let home : SiteNo = (config record { 0 = 0 }).home in
    ap (abcasts_of_view w g view) (lists_are_acts sites config steps w r p)
    ∙ sym (listed_abcasts (is_abcast w) (is_in g view) (acts_of w p)
    (abcasts_told home w (holds_in_every sites config steps w r) (told_in_every sites config steps w r.leads) p))
