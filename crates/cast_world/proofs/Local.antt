-- What a process does keeps the fit of its time, its delivered list and its standings with its acts.
use Rattle.std.proofs.Common.{ap, arith, inl, inr, subst, sym, ◌∙◌}
use Rattle.std.proofs.lemmas.Bool.{cases_Bool, eq-eqb, eqb-true, false_from_ne_true, false≢true, true≢false}
use Rattle.std.proofs.lemmas.List.Elements.{Contains-push, Contains-push_cases}
use Rattle.std.specs.Prelude.{◌+◌, ◌++◌, ◌<◌, Bool, Contains, IsTrue, List, [], false}
use Rattle.std.specs.Prelude.{if◌then◌else◌, refl, true, ℕ, ◌∷◌, ◌≡◌, ◌≤◌, ◌⊎◌, ◌≡◌}
use Rattle.cast_clock.specs.Times.{with_bump, count_in, entering, join, view_of}
use Rattle.cast_ready.specs.Ready.{Process, is_outside}
use Rattle.cast_rules.specs.Acts.{Act}
use Rattle.cast_rules.specs.Acts.Act.{Delivered, Entered, Left, Sent}
use Rattle.cast_message.specs.declared.message.Message.{Message}
use Rattle.cast_types.specs.Counts.{CountList, is_within}
use Rattle.cast_types.specs.Names.{Entry, group_eq, uid_in}
use Rattle.cast_types.specs.Sets.{set_at}
use Rattle.cast_types.specs.declared.names.GroupNo.{GroupNo}
use Rattle.cast_types.specs.declared.names.Proc.{Proc}
use Rattle.cast_types.specs.declared.names.Standing.{Standing}
use Rattle.cast_types.specs.declared.names.Standing.TheVariants.{Joining, Member, Outside}
use Rattle.cast_world.proofs.Facts.{ActWell, DeliveredWell, Fits, IsAllowed, IsSorted}
use Rattle.cast_world.proofs.Lists.{done_delivered, done_entered, done_left, done_sent, each_more}
use Rattle.cast_world.proofs.Lists.{entered_same, has_more, is_in_less, is_in_message, left_not_entered}
use Rattle.cast_world.proofs.Times.{Once, below_bumped, below_entering, below_join, below_view, bumped_covers}
use Rattle.cast_world.proofs.Times.{bumped_view, entered_view, join_covers, other_view, view_join}
use Rattle.cast_world.specs.Laws.{Below, Covers}
use Rattle.cast_world.specs.Properties.{IsIn}

is_outside_of : Standing → Bool
is_outside_of Outside = true
is_outside_of (Joining request heard) = false
is_outside_of Member = false

is_member_of : Standing → Bool
is_member_of Outside = false
is_member_of (Joining request heard) = false
is_member_of Member = true

pub not_joining : (request heard : ℕ) → ◌≡◌ {A = Standing} Member (Joining request heard) → ⊥
unfolding is_member_of
not_joining request heard e = true≢false (ap is_member_of e)

pub outside_not_joining : (request heard : ℕ) → ◌≡◌ {A = Standing} Outside (Joining request heard) → ⊥
unfolding is_outside_of
outside_not_joining request heard e = true≢false (ap is_outside_of e)

pub cases_group : (g h : GroupNo) → (g ≡ h) ⊎ (g ≡ h → ⊥)
cases_group g h = elim (cases_Bool (group_eq g h)) [
  | inl same ↦ inl (ap (λ k. record { 0 = k }) (eqb-true g.0 h.0 same))
  | inr other ↦ inr (λ e. true≢false (sym (eq-eqb g.0 h.0 (ap (λ (k : GroupNo). k.0) e)) ∙ other))
]

module _ (me : Proc) (p : Process) (acts : List Act) (fits : Fits me p acts) where
  -- delivering
  module _ (m : Message) (once : Once m.times) (allowed : IsAllowed p m) where
    abbrev Delivering : Process
    Delivering = record p { time = join p.time m.times; delivered = p.delivered ++ m.id ∷ [] }

    delivered_well : DeliveredWell acts m
    delivered_well u at covers other counted =
        let member = fits.member u.group u.view at in
        let low = allowed.view u.group member.0 in
        elim covers [
          | inl above ↦ absurd (let same = member.1 in omega (arith, above, low, same))
          | inr (same, le) ↦ fits.listed u (allowed.past u tt member.0 same (sym member.1) le counted other)
        ]

    pub view_kept : (g : GroupNo) (n : ℕ) → view_of p.time g ≡ n → view_of m.times g ≤ n → view_of (join p.time m.times) g ≡ n
    view_kept g n e le =
        let up = view_join p.time m.times once g n (omega (arith, e)) le in
        let down = below_view p.time (join p.time m.times) (below_join p.time m.times) g in
        omega (arith, up, down, e)

    pub delivering_fits : Fits me Delivering (acts ++ Delivered m ∷ [])
    delivering_fits = record {
      each = each_more (ActWell me) acts (Delivered m) fits.each delivered_well;
      covered = λ y did. elim (done_delivered acts m y did) [
        | inl old ↦ λ u c. below_join p.time m.times u (fits.covered y old u c)
        | inr new ↦ subst (λ (z : Message). Below z.times (join p.time m.times)) new (join_covers p.time m.times)
      ];
      listed = λ u at. elim (Contains-push_cases p.delivered m.id u at) [
        | inl old ↦ has_more acts (Delivered m) u (fits.listed u old)
        | inr new ↦ (m, new, Contains-push acts (Delivered m))
      ];
      member = λ g view at.
          let old = fits.member g view (is_in_message acts (Delivered m) g view (inr (m, refl)) at) in
          (old.0, let low = allowed.view g old.0 in let is = old.1 in view_kept g view is (omega (arith, low, is)));
      heard = λ g request heard is. view_kept g heard (fits.heard g request heard is) (allowed.heard g request heard tt is);
    }

  -- sending
  module _ (g : GroupNo) (m : Message) (member : p.standing g ≡ Member) (own : m.id.proc ≡ me) (group : m.id.group ≡ g)
      (times : m.times ≡ with_bump p.time g me) (view : m.id.view ≡ view_of p.time g) (count : m.id.count ≡ count_in p.time g me + 1)
      (ordered : IsSorted m.times) where
    below : Below p.time m.times
    below = subst (λ t. Below p.time t) (sym times) (below_bumped p.time g me)

    not_yet : Covers p.time m.id → ⊥
    not_yet c =
        let here : view_of p.time m.id.group ≡ view_of p.time g = ap (view_of p.time) group in
        let counts : count_in p.time m.id.group m.id.proc ≡ count_in p.time g me = λ i. count_in p.time (group i) (own i) in
        elim c [ inl low ↦ omega (arith, low, view, here) | inr (same, le) ↦ omega (arith, le, counts, count) ]

    pub sending_fits : Fits me (record p { time = m.times }) (acts ++ Sent m ∷ [])
    sending_fits = record {
      each = each_more (ActWell me) acts (Sent m) fits.each record {
        own = own;
        counted = omega (arith, count);
        itself = subst (λ t. Covers t m.id) (sym times) (bumped_covers p.time g me m.id group own view count);
        sorted = ordered;
        rises = λ y did u tells c. below u (fits.covered y did u c);
        strictly = λ y did c. not_yet (fits.covered y did m.id c);
      };
      covered = λ y did. elim (done_sent acts m y did) [
        | inl old ↦ (λ u c. below u (fits.covered y old u c))
        | inr new ↦ subst (λ (z : Message). Below z.times m.times) new (λ u c. c)
      ];
      listed = λ u at. has_more acts (Sent m) u (fits.listed u at);
      member = λ h v at.
          let old = fits.member h v (is_in_message acts (Sent m) h v (inl (m, refl)) at) in
          (old.0, ap (λ t. view_of t h) times ∙ bumped_view p.time g me h ∙ old.1);
      heard = λ h request heard is.
          subst (λ n. n ≡ heard) (sym (ap (λ t. view_of t h) times ∙ bumped_view p.time g me h)) (fits.heard h request heard is);
    }

  -- entering
  module _ (g : GroupNo) (n : ℕ) (cut : CountList) (above : view_of p.time g < n) (next : (v : ℕ) → IsIn acts g v → n ≡ v + 1)
      (cuts : (v : ℕ) (e : Entry) → IsIn acts g v → 1 ≤ e.1 → IsTrue (is_within cut e) → Contains p.delivered (uid_in g v e)) where
    standing_here : (h : GroupNo) → g ≡ h → set_at group_eq p.standing g Member h ≡ Member
    standing_here h e = ap (λ b. if b then Member else p.standing h) (eq-eqb g.0 h.0 (ap (λ (k : GroupNo). k.0) e))

    standing_other : (h : GroupNo) → (g ≡ h → ⊥) → set_at group_eq p.standing g Member h ≡ p.standing h
    standing_other h apart =
        ap (λ b. if b then Member else p.standing h)
        (false_from_ne_true (group_eq g h) (λ same. apart (ap (λ k. record { 0 = k }) (eqb-true g.0 h.0 same))))

    pub entering_fits : Fits me (record p { time = entering p.time g n; standing = set_at group_eq p.standing g Member })
        (acts ++ Entered g n cut ∷ [])
    entering_fits = record {
      each = each_more (ActWell me) acts (Entered g n cut) fits.each record {
        above = λ m did. let up = below_view m.times p.time (fits.covered m did) g in omega (arith, up, above);
        next = next;
        cuts = λ v e awaited at counted within. fits.listed (uid_in g v e) (cuts v e at counted within);
      };
      covered = λ m did u c. below_entering p.time g n above u (fits.covered m (done_entered acts g n cut m did) u c);
      listed = λ u at. has_more acts (Entered g n cut) u (fits.listed u at);
      member = λ h v at. elim (is_in_less acts (Entered g n cut) h v at) [
        | inl (other, is) ↦
            let same = entered_same g h n v cut other is in
            (standing_here h same.0, subst (λ k. view_of (entering p.time g n) k ≡ v) same.0 (entered_view p.time g n ∙ same.1))
        | inr old ↦
            let apart : g ≡ h → ⊥ = λ e. old.2 n cut (ap (λ k. Entered k n cut) e) in
            let was = fits.member h v old.0 in
            (standing_other h apart ∙ was.0, other_view p.time g n h apart ∙ was.1)
      ];
      heard = λ h request heard is. elim (cases_group g h) [
        | inl same ↦ absurd (not_joining request heard (sym (standing_here h same) ∙ is))
        | inr apart ↦
            subst (λ k. k ≡ heard) (sym (other_view p.time g n h apart)) (fits.heard h request heard (sym (standing_other h apart) ∙ is))
      ];
    }

  -- leaving, as a member or not
  module _ (g : GroupNo) where
    abbrev Leaving : Process
    Leaving = record p { standing = set_at group_eq p.standing g Outside }

    outside_other : (h : GroupNo) → (g ≡ h → ⊥) → set_at group_eq p.standing g Outside h ≡ p.standing h
    outside_other h apart =
        ap (λ b. if b then Outside else p.standing h)
        (false_from_ne_true (group_eq g h) (λ same. apart (ap (λ k. record { 0 = k }) (eqb-true g.0 h.0 same))))

    outside_here : (h : GroupNo) → g ≡ h → set_at group_eq p.standing g Outside h ≡ Outside
    outside_here h e = ap (λ b. if b then Outside else p.standing h) (eq-eqb g.0 h.0 (ap (λ (k : GroupNo). k.0) e))

    still_heard : (h : GroupNo) (request heard : ℕ) → set_at group_eq p.standing g Outside h ≡ Joining request heard →
        view_of p.time h ≡ heard
    still_heard h request heard is = elim (cases_group g h) [
      | inl same ↦ absurd (outside_not_joining request heard (sym (outside_here h same) ∙ is))
      | inr apart ↦ fits.heard h request heard (sym (outside_other h apart) ∙ is)
    ]

    pub leaving_fits : Fits me Leaving (acts ++ Left g ∷ [])
    leaving_fits = record {
      each = each_more (ActWell me) acts (Left g) fits.each record {};
      covered = λ m did. fits.covered m (done_left acts g m did);
      listed = λ u at. has_more acts (Left g) u (fits.listed u at);
      member = λ h v at. elim (is_in_less acts (Left g) h v at) [
        | inl (cut, is) ↦ absurd (left_not_entered g h v cut is)
        | inr old ↦
            let was = fits.member h v old.0 in
            (outside_other h (λ e. old.1 (ap (λ k. Left k) e)) ∙ was.0, was.1)
      ];
      heard = still_heard;
    }

    pub not_member_fits : (p.standing g ≡ Member → ⊥) → Fits me Leaving acts
    not_member_fits never = record {
      each = fits.each;
      covered = fits.covered;
      listed = fits.listed;
      member = λ h v at.
          let was = fits.member h v at in
          (outside_other h (λ e. never (ap p.standing e ∙ was.0)) ∙ was.0, was.1);
      heard = still_heard;
    }

  -- asking to join
  module _ (g : GroupNo) (request : ℕ) (out : is_outside (p.standing g) ≡ true) where
    still_member : (h : GroupNo) (b : Bool) → group_eq g h ≡ b → p.standing h ≡ Member →
        (if b then Joining request (view_of p.time g) else p.standing h) ≡ Member
    still_member h true e is =
        absurd (false≢true (sym (ap is_outside (ap p.standing (ap (λ n. record { 0 = n }) (eqb-true g.0 h.0 e)) ∙ is)) ∙ out))
    still_member h false e is = is

    heard_of : Standing → ℕ
    heard_of Outside = 0
    heard_of (Joining number heard) = heard
    heard_of Member = 0

    heard_here : (h : GroupNo) (b : Bool) → group_eq g h ≡ b → (number heard : ℕ) →
        (if b then Joining request (view_of p.time g) else p.standing h) ≡ Joining number heard → view_of p.time h ≡ heard
    unfolding heard_of
    heard_here h true e number heard is =
        sym (ap (view_of p.time) (ap (λ n. record { 0 = n }) (eqb-true g.0 h.0 e))) ∙ ap heard_of is
    heard_here h false e number heard is = fits.heard h number heard is

    pub joining_fits : Fits me (record p { standing = set_at group_eq p.standing g (Joining request (view_of p.time g)) }) acts
    joining_fits = record {
      each = fits.each;
      covered = fits.covered;
      listed = fits.listed;
      member = λ h v at. let was = fits.member h v at in (still_member h (group_eq g h) refl was.0, was.1);
      heard = λ h number heard is. heard_here h (group_eq g h) refl number heard is;
    }
