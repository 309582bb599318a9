-- Lists of sites, and homes that change without a decision.
-- `HomeFollows` says how a home may change as frames come: its number and its members stay, and
-- all that is new in it came in a frame. One lemma for each change says that it does so
-- (`reported_follows`, `suspicion_follows`, `request_follows`). A change touches either the phase,
-- of which `PhaseFollows` asks the same, or the requests; and who was awaited is awaited still, or
-- reported, or is suspected.
use Rattle.std.proofs.Common.{Equal, Greater, Less, Ordering, ap, arith, inl, inr, subst, sym, ◌∙◌}
use Rattle.std.proofs.lemmas.Bool.{and_parts, cases_Bool, eqb-true, false≢true, true≢false}
use Rattle.std.proofs.lemmas.Cmp.{nat_cmp_total, on_total}
use Rattle.std.proofs.lemmas.List.Elements.{Contains-push_cases}
use Rattle.std.proofs.lemmas.Map.Lookups.{exact_unsigned}
use Rattle.std.proofs.lemmas.Map.Views.{tells_apart}
use Rattle.std.specs.Cmp.{IsTotalOrder}
use Rattle.std.specs.FinMap.Entries.{find, find-put, put}
use Rattle.std.specs.List.{list_any}
use Rattle.std.specs.Ordering.{eq_by_cmp}
use Rattle.std.specs.Prelude.{◌&&◌, ◌==◌, Bool, Contains, List, Option, [], cond, false, filter, if◌then◌else◌}
use Rattle.std.specs.Prelude.{map, not, refl, suc, true, unwrap_or, zero, ◌||◌, ℕ, ◌∷◌, ◌≡◌, ◌⊎◌, ◌≡◌}
use Rattle.cast_flush.specs.declared.report.Report.{Report}
use Rattle.cast_message.specs.Membership.{Membership}
use Rattle.cast_message.specs.declared.message.Message.{Message}
use Rattle.cast_message.specs.declared.site.Change.{Change}
use Rattle.cast_message.specs.declared.site.SiteFrame.{SiteFrame}
use Rattle.cast_types.specs.Names.{proc_cmp, proc_eq, site_cmp, site_eq}
use Rattle.cast_types.specs.Sets.{at_order, is_among, set_of, with_item, with_items, without}
use Rattle.cast_types.specs.declared.names.GroupNo.{GroupNo}
use Rattle.cast_types.specs.declared.names.Proc.{Proc}
use Rattle.cast_types.specs.declared.names.SiteNo.{SiteNo}
use Rattle.cast_view.specs.Home.{Home, after_ask, after_body, after_change, after_installed, after_report, after_request}
use Rattle.cast_view.specs.Home.{after_start, after_suspicion, answer_of, awaited_of, awaits_installed, bodies_of, changed_by}
use Rattle.cast_view.specs.Home.{installing, is_next, is_refused, is_suspected, marked_leaving, may_start, phase_with_body}
use Rattle.cast_view.specs.Home.{phase_with_report, phase_without, sites_to_await, takes_installed, takes_report}
use Rattle.cast_view.specs.Sites.{sites_of}
use Rattle.cast_view.specs.declared.phase.Answer.{Answer}
use Rattle.cast_view.specs.declared.phase.Decision.{Decision}
use Rattle.cast_view.specs.declared.phase.Phase.{Phase}
use Rattle.cast_view.specs.declared.phase.Phase.TheVariants.{Gathering, Idle, Installing}
use Rattle.cast_types.proofs.Orders.{site_itself}
use Rattle.cast_world.proofs.Allowed.{among_of, contains_kept, contains_mapped, contains_more}
use Rattle.cast_world.proofs.Times.{unwrapped}
use Rattle.cast_message.specs.declared.site.Change.TheVariants as change
use Rattle.cast_message.specs.declared.site.SiteFrame.TheVariants as frame

-- Sets of sites

sites_total : IsTotalOrder site_cmp
sites_total = on_total (λ s. s.0) nat_cmp_total

pub site_exact : (s t : SiteNo) → site_cmp s t ≡ Equal → s ≡ t
site_exact s t e = ap (λ n. record { 0 = n }) (exact_unsigned s.0 t.0 e)

pub same_sites : (s t : SiteNo) → site_eq s t ≡ true → s ≡ t
same_sites s t e = ap (λ n. record { 0 = n }) (eqb-true s.0 t.0 e)

module _ {A : Type 0} (cmp : A → A → Ordering) where
  pub item_more : (x : A) (xs : List A) (y : A) → Contains xs y → Contains (with_item cmp x xs) y
  item_more x [] y at = absurd (omega (arith, at.1))
  item_more x (z ∷ xs) y at = go (cmp x z) at (item_more x xs y)
    where
      go : (o : Ordering) → Contains (z ∷ xs) y → (Contains xs y → Contains (with_item cmp x xs) y) →
          Contains (at_order o (x ∷ z ∷ xs) (z ∷ xs) (z ∷ with_item cmp x xs)) y
      go Less has more = contains_more x (z ∷ xs) y has
      go Equal has more = has
      go Greater (zero, lt, e) more = (0, omega arith, e)
      go Greater (suc k, lt, e) more = contains_more z (with_item cmp x xs) y (more (k, omega arith, e))

  pub item_here : ((x y : A) → cmp x y ≡ Equal → x ≡ y) → (x : A) (xs : List A) → Contains (with_item cmp x xs) x
  item_here exact x [] = (0, omega arith, refl)
  item_here exact x (z ∷ xs) = go (cmp x z) refl (item_here exact x xs)
    where
      go : (o : Ordering) → cmp x z ≡ o → Contains (with_item cmp x xs) x →
          Contains (at_order o (x ∷ z ∷ xs) (z ∷ xs) (z ∷ with_item cmp x xs)) x
      go Less e more = (0, omega arith, refl)
      go Equal e more = (0, omega arith, sym (exact x z e))
      go Greater e more = contains_more z (with_item cmp x xs) x more

  -- what is in the set was in it, or is the item
  pub item_was : (x : A) (xs : List A) (y : A) → Contains (with_item cmp x xs) y → (x ≡ y) ⊎ Contains xs y
  item_was x [] y (zero, lt, e) = inl e
  item_was x [] y (suc k, lt, e) = absurd (omega arith)
  item_was x (z ∷ xs) y at = go (cmp x z) at (item_was x xs y)
    where
      go : (o : Ordering) → Contains (at_order o (x ∷ z ∷ xs) (z ∷ xs) (z ∷ with_item cmp x xs)) y →
          (Contains (with_item cmp x xs) y → (x ≡ y) ⊎ Contains xs y) → (x ≡ y) ⊎ Contains (z ∷ xs) y
      go Less (zero, lt, e) more = inl e
      go Less (suc k, lt, e) more = inr (k, omega arith, e)
      go Equal has more = inr has
      go Greater (zero, lt, e) more = inr (0, omega arith, e)
      go Greater (suc k, lt, e) more = elim (more (k, omega arith, e)) [ inl same ↦ inl same | inr old ↦ inr (contains_more z xs y old) ]

  pub items_more : (s xs : List A) (y : A) → Contains s y → Contains (with_items cmp s xs) y
  items_more s [] y at = at
  items_more s (x ∷ xs) y at = items_more (with_item cmp x s) xs y (item_more x s y at)

  pub items_has : ((x y : A) → cmp x y ≡ Equal → x ≡ y) → (s xs : List A) (y : A) → Contains xs y → Contains (with_items cmp s xs) y
  items_has exact s [] y at = absurd (omega (arith, at.1))
  items_has exact s (x ∷ xs) y (zero, lt, e) =
      items_more (with_item cmp x s) xs y (subst (Contains (with_item cmp x s)) e (item_here exact x s))
  items_has exact s (x ∷ xs) y (suc k, lt, e) = items_has exact (with_item cmp x s) xs y (k, omega arith, e)

  -- what is in the set was in it, or is one of the items
  pub items_had : (s xs : List A) (y : A) → Contains (with_items cmp s xs) y → Contains s y ⊎ Contains xs y
  items_had s [] y at = inl at
  items_had s (x ∷ xs) y at = elim (items_had (with_item cmp x s) xs y at) [
    | inl old ↦ elim (item_was x s y old) [ inl same ↦ inr (0, omega arith, same) | inr before ↦ inl before ]
    | inr more ↦ inr (contains_more x xs y more)
  ]

  pub set_has : ((x y : A) → cmp x y ≡ Equal → x ≡ y) → (xs : List A) (y : A) → Contains xs y → Contains (set_of cmp xs) y
  set_has exact xs y at = items_has exact [] xs y at

  pub set_had : (xs : List A) (y : A) → Contains (set_of cmp xs) y → Contains xs y
  set_had xs y at = elim (items_had [] xs y at) [ inl none ↦ absurd (omega (arith, none.1)) | inr more ↦ more ]

pub site_in : (members : List Proc) (p : Proc) → Contains members p → Contains (sites_of members) p.site
site_in members p at =
    set_has site_cmp site_exact (map (λ (q : Proc). q.site) members) p.site (contains_mapped (λ (q : Proc). q.site) members p at)

pub among_site : (xs : List SiteNo) (s : SiteNo) → Contains xs s → is_among site_eq s xs ≡ true
among_site = among_of site_eq site_itself

pub site_among : (xs : List SiteNo) (s : SiteNo) → is_among site_eq s xs ≡ true → Contains xs s
site_among [] s e = absurd (false≢true e)
site_among (x ∷ xs) s e = go (site_eq s x) refl (site_among xs s)
  where
    go : (b : Bool) → site_eq s x ≡ b → (list_any (site_eq s) xs ≡ true → Contains xs s) → Contains (x ∷ xs) s
    go true same more = (0, omega arith, sym (same_sites s x same))
    go false other more = contains_more x xs s (more (sym (ap (λ b. b || list_any (site_eq s) xs) other) ∙ e))

contains_put : (s : SiteNo) (r : Report) (rs : List (SiteNo × Report)) (t : SiteNo) (x : Report) → Contains (put site_cmp s r rs) (t, x) →
    Contains rs (t, x) ⊎ ((s ≡ t) × (r ≡ x))
contains_put s r [] t x (zero, lt, e) = inr (ap (λ (y : SiteNo × Report). y.0) e, ap (λ (y : SiteNo × Report). y.1) e)
contains_put s r [] t x (suc k, lt, e) = absurd (omega arith)
contains_put s r (y ∷ rs) t x at = go (site_cmp s y.0) refl at (contains_put s r rs t x)
  where
    go : (o : Ordering) → site_cmp s y.0 ≡ o → Contains (at_order o ((s, r) ∷ y ∷ rs) ((y.0, r) ∷ rs) (y ∷ put site_cmp s r rs)) (t, x) →
        (Contains (put site_cmp s r rs) (t, x) → Contains rs (t, x) ⊎ ((s ≡ t) × (r ≡ x))) → Contains (y ∷ rs) (t, x) ⊎ ((s ≡ t) × (r ≡ x))
    go Less e (zero, lt, is) more = inr (ap (λ (z : SiteNo × Report). z.0) is, ap (λ (z : SiteNo × Report). z.1) is)
    go Less e (suc k, lt, is) more = inl (k, omega arith, is)
    go Equal e (zero, lt, is) more = inr (site_exact s y.0 e ∙ ap (λ (z : SiteNo × Report). z.0) is, ap (λ (z : SiteNo × Report). z.1) is)
    go Equal e (suc k, lt, is) more = inl (suc k, omega (arith, lt), is)
    go Greater e (zero, lt, is) more = inl (0, omega arith, is)
    go Greater e (suc k, lt, is) more =
        elim (more (k, omega arith, is)) [ inl old ↦ inl (contains_more y rs (t, x) old) | inr new ↦ inr new ]

pub among_kept : {X : Type 0} (test : X → Bool) (xs : List X) (x : X) → Contains (filter test xs) x → Contains xs x
among_kept test [] x at = absurd (omega (arith, at.1))
among_kept {X} test (y ∷ ys) x at = go (test y) at (among_kept test ys x)
  where
    go : (b : Bool) → Contains (cond b (y ∷ filter test ys) (filter test ys)) x → (Contains (filter test ys) x → Contains ys x) →
        Contains (y ∷ ys) x
    go true (zero, lt, is) more = (0, omega arith, is)
    go true (suc n, lt, is) more = (let m = more (n, omega arith, is) in (suc m.0, omega (arith, m.1), m.2))
    go false has more = (let m = more has in (suc m.0, omega (arith, m.1), m.2))

-- Homes that change without a decision

phase_kind : Phase → ℕ
phase_kind Idle = 0
phase_kind (Gathering awaited reports bodies) = 1
phase_kind (Installing waiting decision bodies) = 2

decision_or : Decision → Phase → Decision
decision_or d Idle = d
decision_or d (Gathering awaited reports bodies) = d
decision_or d (Installing waiting decision bodies) = decision

pub idle_not : (w : List SiteNo) (d : Decision) (b : List Message) → ◌≡◌ {A = Phase} Idle (Installing w d b) → ⊥
unfolding phase_kind
idle_not w d b e = let differ : ◌≡◌ {A = ℕ} 0 2 = ap phase_kind e in omega (arith, differ)

gathering_not : (a : List SiteNo) (r : List (SiteNo × Report)) (c : List Message) (w : List SiteNo) (d : Decision) (b : List Message) →
    ◌≡◌ {A = Phase} (Gathering a r c) (Installing w d b) → ⊥
unfolding phase_kind
gathering_not a r c w d b e = let differ : ◌≡◌ {A = ℕ} 1 2 = ap phase_kind e in omega (arith, differ)

pub same_decision : (w v : List SiteNo) (d c : Decision) (b a : List Message) →
    ◌≡◌ {A = Phase} (Installing w d b) (Installing v c a) → d ≡ c
unfolding decision_or
same_decision w v d c b a e = ap (decision_or d) e

abbrev pub is_gathering : Phase → Bool
is_gathering Idle = false
is_gathering (Gathering awaited reports bodies) = true
is_gathering (Installing waiting decision bodies) = false

abbrev pub reports_of : Phase → List (SiteNo × Report)
reports_of Idle = []
reports_of (Gathering awaited reports bodies) = reports
reports_of (Installing waiting decision bodies) = []

-- while a flush gathers, the site of each member is awaited that is not suspected
abbrev pub Awaits : Home → Type 0
Awaits h =
    is_gathering h.phase ≡ true → (p : Proc) → Contains h.members.list p → is_suspected h p.site ≡ false →
    Contains (awaited_of h.phase) p.site

-- A home changed without a decision, by frames that came: its number and its members stand, a request that it applied came, what
-- it installs it installed, a body and a report that it has came, and it awaits whom it must
pub record HomeFollows (Came : SiteNo → SiteFrame → Type 0) (g : GroupNo) (h next : Home) : Type 0 where
  pub number : next.number ≡ h.number
  pub applied : (to : SiteNo) → ((answer_of next to).number ≡ (answer_of h to).number)
      ⊎ ((what : Change) × (p : Proc) × Came to (frame.Ask g (answer_of next to).number what p))
  pub installs : (waiting : List SiteNo) (d : Decision) (bodies : List Message) → next.phase ≡ Installing waiting d bodies →
      (before : List SiteNo) × (more : List Message) × (h.phase ≡ Installing before d more)
  pub bodies : (m : Message) → Contains (bodies_of next.phase) m →
      Contains (bodies_of h.phase) m ⊎ ((from : SiteNo) × Came from (frame.Forward m))
  pub members : next.members ≡ h.members
  pub awaits : Awaits h → Awaits next
  pub reports : (s : SiteNo) (r : Report) → Contains (reports_of next.phase) (s, r) →
      Contains (reports_of h.phase) (s, r) ⊎ Came s (frame.Flushed g h.number r.counts r.tail r.kept)

module _ (Came : SiteNo → SiteFrame → Type 0) (g : GroupNo) where
  -- the phase alone changes
  pub record PhaseFollows (h : Home) (next : Phase) : Type 0 where
    pub installs : (w : List SiteNo) (d : Decision) (b : List Message) → next ≡ Installing w d b →
        (v : List SiteNo) × (a : List Message) × (h.phase ≡ Installing v d a)
    pub bodies : (m : Message) → Contains (bodies_of next) m →
        Contains (bodies_of h.phase) m ⊎ ((from : SiteNo) × Came from (frame.Forward m))
    pub awaits : Awaits h → Awaits (record h { phase = next })
    pub reports : (s : SiteNo) (r : Report) → Contains (reports_of next) (s, r) →
        Contains (reports_of h.phase) (s, r) ⊎ Came s (frame.Flushed g h.number r.counts r.tail r.kept)

  pub follows : (h : Home) (next : Phase) → PhaseFollows h next → HomeFollows Came g h (record h { phase = next })
  follows h next f = record {
    number = refl;
    applied = λ to. inl refl;
    installs = f.installs;
    bodies = f.bodies;
    members = refl;
    awaits = f.awaits;
    reports = f.reports;
  }

  same_phase : (h : Home) → PhaseFollows h h.phase
  same_phase h = record { installs = λ w d b e. (w, b, e); bodies = λ m at. inl at; awaits = λ old. old; reports = λ s r at. inl at }

  pub report_follows : (h : Home) (s : SiteNo) (r : Report) → Came s (frame.Flushed g h.number r.counts r.tail r.kept) → (p : Phase) →
      PhaseFollows (record h { phase = p }) (phase_with_report s r p)
  report_follows h s r came Idle = same_phase (record h { phase = Idle })
  report_follows h s r came (Gathering awaited reports bodies) = record {
    installs = λ w d b e. absurd (gathering_not _ _ _ w d b e);
    bodies = λ m at. inl at;
    awaits = λ old. old;
    reports = λ t x at. elim (contains_put s r reports t x at) [
      | inl old ↦ inl old
      | inr (same, is) ↦
          inr (subst (λ z. Came z (frame.Flushed g h.number x.counts x.tail x.kept))
          same (subst (λ (z : Report). Came s (frame.Flushed g h.number z.counts z.tail z.kept)) is came))
    ];
  }
  report_follows h s r came (Installing waiting d bodies) = same_phase (record h { phase = Installing waiting d bodies })

  pub body_follows : (h : Home) (from : SiteNo) (m : Message) → Came from (frame.Forward m) → (p : Phase) →
      PhaseFollows (record h { phase = p }) (phase_with_body m p)
  body_follows h from m came Idle = same_phase (record h { phase = Idle })
  body_follows h from m came (Gathering awaited reports bodies) = record {
    installs = λ w d b e. absurd (gathering_not _ _ _ w d b e);
    bodies = λ x at. elim (Contains-push_cases bodies m x at) [
      | inl old ↦ inl old
      | inr new ↦ inr (from, subst (λ y. Came from (frame.Forward y)) new came)
    ];
    awaits = λ old. old;
    reports = λ s r at. inl at;
  }
  body_follows h from m came (Installing waiting d bodies) = same_phase (record h { phase = Installing waiting d bodies })

  installing_follows : (h : Home) (w : List SiteNo) (d : Decision) (b : List Message) (left : List SiteNo) →
      PhaseFollows (record h { phase = Installing w d b }) (installing left d b)
  installing_follows h w d b [] = record {
    installs = λ v c a e. absurd (idle_not v c a e);
    bodies = λ m at. absurd (omega (arith, at.1));
    awaits = λ old e. absurd (false≢true e);
    reports = λ s r at. absurd (omega (arith, at.1));
  }
  installing_follows h w d b (s ∷ left) = record {
    installs = λ v c a e. (w, b, ap (λ x. Installing w x b) (same_decision (s ∷ left) v d c b a e));
    bodies = λ m at. inl at;
    awaits = λ old e. absurd (false≢true e);
    reports = λ t r at. absurd (omega (arith, at.1));
  }

  pub installed_follows : (h : Home) (s : SiteNo) (p : Phase) → awaits_installed p s ≡ true →
      PhaseFollows (record h { phase = p }) (phase_without s p)
  installed_follows h s Idle e = absurd (false≢true e)
  installed_follows h s (Gathering awaited reports bodies) e = absurd (false≢true e)
  installed_follows h s (Installing waiting d bodies) e = installing_follows h waiting d bodies (without site_eq s waiting)

  -- a home that stays as it is
  pub stays_follows : (h : Home) → HomeFollows Came g h h
  stays_follows h = follows h h.phase (same_phase h)

  gathers : (h : Home) → PhaseFollows h (Gathering (sites_to_await h) [] [])
  gathers h = record {
    installs = λ w d b e. absurd (gathering_not _ _ _ w d b e);
    bodies = λ m at. absurd (omega (arith, at.1));
    awaits = λ old e p member free. contains_kept (λ s. not (is_among site_eq s h.suspected)) (sites_of h.members.list)
        p.site (site_in h.members.list p member) (ap not free);
    reports = λ s r at. absurd (omega (arith, at.1));
  }

  -- a choice between two
  one_follows : (h x y : Home) (b : Bool) → (b ≡ true → HomeFollows Came g h x) → (b ≡ false → HomeFollows Came g h y) →
      HomeFollows Came g h (if b then x else y)
  one_follows h x y true one other = one refl
  one_follows h x y false one other = other refl

  pub started_follows : (h : Home) → HomeFollows Came g h (after_start h)
  started_follows h =
      one_follows h (record h { phase = Gathering (sites_to_await h) [] [] }) h (may_start h)
      (λ _. follows h (Gathering (sites_to_await h) [] []) (gathers h)) (λ _. stays_follows h)

  pub reported_follows : (h : Home) (s : SiteNo) (view : ℕ) (r : Report) → Came s (frame.Flushed g view r.counts r.tail r.kept) →
      HomeFollows Came g h (after_report h s view r)
  reported_follows h s view r came = one_follows h (record h { phase = phase_with_report s r h.phase }) h (takes_report h s view)
      (λ takes. follows h (phase_with_report s r h.phase) (report_follows h s r
      (subst (λ v. Came s (frame.Flushed g v r.counts r.tail r.kept)) (eqb-true view h.number (and_parts (view == h.number) _ takes).0)
      came) h.phase)) (λ _. stays_follows h)

  pub brought_follows : (h : Home) (from : SiteNo) (m : Message) → Came from (frame.Forward m) → HomeFollows Came g h (after_body h m)
  brought_follows h from m came = follows h (phase_with_body m h.phase) (body_follows h from m came h.phase)

  pub left_follows : (h : Home) (s : SiteNo) (n : ℕ) → HomeFollows Came g h (after_installed h s n)
  left_follows h s n = one_follows h (record h { phase = phase_without s h.phase }) h (takes_installed h s n)
      (λ takes. follows h (phase_without s h.phase) (installed_follows h s h.phase (and_parts (n == h.number) _ takes).1))
      (λ _. stays_follows h)

  -- a suspicion
  pub not_gathering : (left : List SiteNo) (d : Decision) (b : List Message) → is_gathering (installing left d b) ≡ true → ⊥
  not_gathering [] d b e = false≢true e
  not_gathering (s ∷ left) d b e = false≢true e

  -- who is not suspected now was not, and is not at the site in question
  module _ (h : Home) (s : SiteNo) (q : Proc) (member : Contains h.members.list q)
      (free : is_among site_eq q.site
      (if is_among site_eq s (sites_of h.members.list) then with_item site_cmp s h.suspected else h.suspected) ≡ false) where
    free_before : is_suspected h q.site ≡ false
    free_before = elim (cases_Bool (is_suspected h q.site)) [
      | inr no_it ↦ no_it
      | inl yes_it ↦ absurd (true≢false (sym (still (is_among site_eq s (sites_of h.members.list)) yes_it) ∙ free))
    ]
      where
        still : (b : Bool) → is_among site_eq q.site h.suspected ≡ true →
            is_among site_eq q.site (if b then with_item site_cmp s h.suspected else h.suspected) ≡ true
        still true e =
            among_site (with_item site_cmp s h.suspected) q.site (item_more site_cmp s h.suspected q.site (site_among h.suspected q.site e))
        still false e = e

    elsewhere : site_eq s q.site ≡ false
    elsewhere = elim (cases_Bool (site_eq s q.site)) [
      | inr no_it ↦ no_it
      | inl yes_it ↦ absurd (true≢false (sym (now (same_sites s q.site yes_it)) ∙ free))
    ]
      where
        now : s ≡ q.site → is_among site_eq q.site
            (if is_among site_eq s (sites_of h.members.list) then with_item site_cmp s h.suspected else h.suspected) ≡ true
        now same =
            ap (λ b. is_among site_eq q.site (if b then with_item site_cmp s h.suspected else h.suspected))
            (ap (λ x. is_among site_eq x (sites_of h.members.list)) same
            ∙ among_site (sites_of h.members.list) q.site (site_in h.members.list q member))
            ∙ among_site (with_item site_cmp s h.suspected)
            q.site (subst (Contains (with_item site_cmp s h.suspected)) same (item_here site_cmp site_exact s h.suspected))

  suspicion_at : (h : Home) (s : SiteNo) (p : Phase) →
      HomeFollows Came g (record h { phase = p }) (after_suspicion (record h { phase = p }) s)
  suspicion_at h s Idle = record {
    number = refl;
    applied = λ to. inl refl;
    installs = λ w d b e. (w, b, e);
    bodies = λ m at. inl at;
    members = refl;
    awaits = λ old e. absurd (false≢true e);
    reports = λ t r at. inl at;
  }
  suspicion_at h s (Gathering awaited reports bodies) = record {
    number = refl;
    applied = λ to. inl refl;
    installs = λ w d b e. absurd (gathering_not _ _ _ w d b e);
    bodies = λ m at. inl at;
    members = refl;
    awaits = λ old e q member free. contains_kept (λ x. not (site_eq s x))
        awaited q.site (old refl q member (free_before h s q member free)) (ap not (elsewhere h s q member free));
    reports = λ t r at. inl (among_kept (λ (y : SiteNo × Report). not (site_eq s y.0)) reports (t, r) at);
  }
  suspicion_at h s (Installing waiting d bodies) =
      let f = installing_follows h waiting d bodies (without site_eq s waiting) in
      record {
        number = refl;
        applied = λ to. inl refl;
        installs = f.installs;
        bodies = f.bodies;
        members = refl;
        awaits = λ old e. absurd (not_gathering (without site_eq s waiting) d bodies e);
        reports = f.reports;
      }

  pub suspicion_follows : (h : Home) (s : SiteNo) → HomeFollows Came g h (after_suspicion h s)
  suspicion_follows h s = suspicion_at h s h.phase

  -- a request changes neither the number nor the phase
  abbrev Same : Home → Home → Type 0
  Same h x = (x.number ≡ h.number) × (x.phase ≡ h.phase) × (x.members ≡ h.members) × (x.suspected ≡ h.suspected)

  by_choice : (h x y : Home) (b : Bool) → Same h x → Same h y → Same h (if b then x else y)
  by_choice h x y true one other = one
  by_choice h x y false one other = other

  marked_same : (h : Home) (p : Proc) → Same h (marked_leaving h p)
  marked_same h p =
      by_choice h (record h { leavings = with_item proc_cmp p h.leavings }) h (is_among proc_eq p h.members.list) (refl, refl, refl, refl)
      (refl, refl, refl, refl)

  changed_same : (h : Home) (what : Change) (p : Proc) → Same h (changed_by h what p)
  changed_same h change.Join p = marked_same h p
  changed_same h change.Leave p = marked_same h p

  after_same : (h : Home) (s : SiteNo) (what : Change) (p : Proc) → Same h (after_change h s what p)
  after_same h s what p =
      by_choice h (changed_by h what p) h (site_eq p.site s && not (is_refused h s what p)) (changed_same h what p) (refl, refl, refl, refl)

  requested_follows : (h : Home) (s : SiteNo) (number : ℕ) (what : Change) (p : Proc) → Came s (frame.Ask g number what p) →
      HomeFollows Came g h (after_request h s number what p)
  requested_follows h s number what p came = record {
    number = same.0;
    applied = λ to.
        subst (λ (o : Answer). (o.number ≡ (answer_of h to).number) ⊎ ((w : Change) × (q : Proc) × Came to (frame.Ask g o.number w q)))
        (sym
        (ap (λ (o : Option Answer). unwrap_or o (record { number = 0; full = false })) (find-put site_cmp sites_total to s now h.answers)
        ∙ unwrapped (eq_by_cmp site_cmp to s) now (record { number = 0; full = false }) (find site_cmp to h.answers)))
        (go to (eq_by_cmp site_cmp to s) refl);
    installs = λ w d b e. (w, b, sym same.1 ∙ e);
    bodies = λ m at. inl (subst (λ x. Contains (bodies_of x) m) same.1 at);
    members = same.2;
    awaits = λ old e q member free. subst (λ x. Contains (awaited_of x) q.site) (sym same.1)
        (old (ap is_gathering (sym same.1) ∙ e) q (subst (λ (x : Membership). Contains x.list q) same.2 member)
        (ap (is_among site_eq q.site) (sym same.3) ∙ free));
    reports = λ t r at. inl (subst (λ x. Contains (reports_of x) (t, r)) same.1 at);
  }
    where
      same : Same h (after_change h s what p)
      same = after_same h s what p

      now : Answer
      now = record { number = number; full = is_refused h s what p }

      go : (to : SiteNo) (b : Bool) → eq_by_cmp site_cmp to s ≡ b →
          ((cond b now (answer_of h to)).number ≡ (answer_of h to).number)
          ⊎ ((w : Change) × (q : Proc) × Came to (frame.Ask g (cond b now (answer_of h to)).number w q))
      go to true e = inr (what, p, subst (λ (x : SiteNo). Came x (frame.Ask g number what p)) (sym (tells_apart site_exact to s e)) came)
      go to false e = inl refl

  pub request_follows : (h : Home) (s : SiteNo) (number : ℕ) (what : Change) (p : Proc) → Came s (frame.Ask g number what p) →
      HomeFollows Came g h (after_ask h s number what p)
  request_follows h s number what p came =
      one_follows h (after_request h s number what p) h (is_next h s number) (λ _. requested_follows h s number what p came)
      (λ _. stays_follows h)
