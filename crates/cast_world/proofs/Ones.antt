-- What one process does keeps what holds of it.
use Rattle.std.proofs.Common.{ap, arith, inl, inr, subst, sym, ◌∙◌}
use Rattle.std.proofs.lemmas.Bool.{eq-eqb, eqb-true, false_from_ne_true, true≢false}
use Rattle.std.specs.Prelude.{◌+◌, ◌++◌, ◌<◌, Bool, Contains, IsTrue, List, [], false, if◌then◌else◌, refl, true, ℕ, ◌∷◌, ◌≡◌, ◌≤◌, ◌≡◌}
use Rattle.cast_clock.specs.Times.{with_bump, count_in, entering, join, view_of}
use Rattle.cast_ready.specs.Ready.{Process, is_outside}
use Rattle.cast_rules.specs.Acts.{Act}
use Rattle.cast_rules.specs.Acts.Act.{Delivered, Entered, Left, Sent}
use Rattle.cast_rules.specs.Entering.{in_view, put_outside}
use Rattle.cast_message.specs.declared.message.Message.{Message}
use Rattle.cast_types.specs.Counts.{CountList, is_within}
use Rattle.cast_types.specs.Names.{Entry, group_eq, uid_in}
use Rattle.cast_types.specs.Sets.{set_at}
use Rattle.cast_types.specs.declared.names.GroupNo.{GroupNo}
use Rattle.cast_types.specs.declared.names.Proc.{Proc}
use Rattle.cast_types.specs.declared.names.SiteNo.{SiteNo}
use Rattle.cast_types.specs.declared.names.Standing.{Standing}
use Rattle.cast_types.specs.declared.names.Standing.TheVariants.{Joining, Member, Outside}
use Rattle.cast_view.specs.MemberSide.{MemberSide, has_view}
use Rattle.cast_world.proofs.Facts.{IsAllowed, IsSorted}
use Rattle.cast_world.proofs.Invariants.{Ahead, IsDecided, Known, OneHolds, Sites, WasSent}
use Rattle.cast_world.proofs.Lists.{before_delivered, before_entered, before_left, before_sent}
use Rattle.cast_world.proofs.Local.{cases_group, delivering_fits, entering_fits, joining_fits, leaving_fits}
use Rattle.cast_world.proofs.Local.{not_joining, not_member_fits, outside_not_joining, sending_fits, view_kept}
use Rattle.cast_world.proofs.Times.{bumped_sorted, bumped_view, entered_sorted, entered_view}
use Rattle.cast_world.proofs.Times.{joined_sorted, other_view, sorted_once, view_join}
use Rattle.cast_world.specs.Properties.{IsIn}

pub set_here : {V : Type 0} (f : GroupNo → V) (g : GroupNo) (v : V) (h : GroupNo) → g ≡ h → set_at group_eq f g v h ≡ v
set_here f g v h e = ap (λ b. if b then v else f h) (eq-eqb g.0 h.0 (ap (λ (k : GroupNo). k.0) e))

pub set_other : {V : Type 0} (f : GroupNo → V) (g : GroupNo) (v : V) (h : GroupNo) → (g ≡ h → ⊥) → set_at group_eq f g v h ≡ f h
set_other f g v h apart =
    ap (λ b. if b then v else f h) (false_from_ne_true (group_eq g h) (λ same. apart (ap (λ k. record { 0 = k }) (eqb-true g.0 h.0 same))))

pub outside_not_member : ◌≡◌ {A = Standing} Outside Member → ⊥
outside_not_member e = true≢false (ap is_outside e)

pub further : (at next : Sites) (home : SiteNo) (g : GroupNo) (view : ℕ) → Ahead at next → IsDecided at home g view →
    IsDecided next home g view
further at next home g view ahead was =
    let up : ((at home).home g).number ≤ ((next home).home g).number = (ahead home).decided g in
    let low : view ≤ ((at home).home g).number = was in
    omega (arith, up, low)

module _ (at : Sites) (home here : SiteNo) (used : ℕ) (groups : List GroupNo) (group : GroupNo → MemberSide) (k : ℕ) (p : Process)
    (acts : List Act)
    (o : OneHolds at home here used groups group k p acts) where
  abbrev me : Proc
  me = record { site = here; serial = k }

  -- when others have moved
  pub ahead_one : (next : Sites) → Ahead at next → OneHolds next home here used groups group k p acts
  ahead_one next ahead = record {
    fits = o.fits;
    given = o.given;
    member = o.member;
    sorted = o.sorted;
    views = λ g. further at next home g (view_of p.time g) ahead (o.views g);
    heard = λ g number heard is. further at next home g heard ahead (o.heard g number heard is);
    done = λ m did. (ahead m.id.proc.site).did m.id.proc.serial (Sent m) (o.done m did);
  }

  -- when another serial is given
  pub used_one : (more : ℕ) → used ≤ more → OneHolds at home here more groups group k p acts
  used_one more le = record {
    fits = o.fits;
    given = λ g is. let was = o.given g is in (was.0, let low = was.1 in omega (arith, low, le), was.2);
    member = o.member;
    sorted = o.sorted;
    views = o.views;
    heard = o.heard;
    done = o.done;
  }

  -- when groups change, but for number and view
  pub group_one : (next : GroupNo → MemberSide) →
      ((g : GroupNo) → ((next g).number ≡ (group g).number) × (has_view (next g) ≡ has_view (group g))) →
      OneHolds at home here used groups next k p acts
  group_one next same = record {
    fits = o.fits;
    given = o.given;
    member = λ g is. let was = o.member g is in ((same g).0 ∙ was.0, (same g).1 ∙ was.1);
    sorted = o.sorted;
    views = o.views;
    heard = o.heard;
    done = o.done;
  }

  -- when a group of which it is no member has another view
  pub stays_one : (g : GroupNo) (next : GroupNo → MemberSide) → (p.standing g ≡ Member → ⊥) →
      ((h : GroupNo) → (g ≡ h → ⊥) → next h ≡ group h) → OneHolds at home here used groups next k p acts
  stays_one g next never same = record {
    fits = o.fits;
    given = o.given;
    member = λ h is. elim (cases_group g h) [
      | inl here_it ↦ absurd (never (ap p.standing here_it ∙ is))
      | inr apart ↦ subst (λ (x : MemberSide). (x.number ≡ view_of p.time h) × (has_view x ≡ true)) (sym (same h apart)) (o.member h is)
    ];
    sorted = o.sorted;
    views = o.views;
    heard = o.heard;
    done = o.done;
  }

  -- leaving
  module _ (g : GroupNo) where
    out_given : (h : GroupNo) (b : Bool) → is_outside (if b then Outside else p.standing h) ≡ false → is_outside (p.standing h) ≡ false
    out_given h true e = absurd (true≢false e)
    out_given h false e = e

    out_member : (h : GroupNo) (b : Bool) → (if b then Outside else p.standing h) ≡ Member → p.standing h ≡ Member
    out_member h true e = absurd (outside_not_member e)
    out_member h false e = e

    out_joining : (h : GroupNo) (b : Bool) (number heard : ℕ) → (if b then Outside else p.standing h) ≡ Joining number heard →
        p.standing h ≡ Joining number heard
    out_joining h true number heard e = absurd (outside_not_joining number heard e)
    out_joining h false number heard e = e

    pub parted_one : OneHolds at home here used groups group k (put_outside g p) (acts ++ Left g ∷ [])
    parted_one = record {
      fits = leaving_fits me p acts o.fits g;
      given = λ h e. o.given h (out_given h (group_eq g h) e);
      member = λ h e. o.member h (out_member h (group_eq g h) e);
      sorted = o.sorted;
      views = o.views;
      heard = λ h number heard e. o.heard h number heard (out_joining h (group_eq g h) number heard e);
      done = λ m did. o.done m (before_left acts g m did);
    }

    pub apart_one : (p.standing g ≡ Member → ⊥) → OneHolds at home here used groups group k (put_outside g p) acts
    apart_one never = record {
      fits = not_member_fits me p acts o.fits g never;
      given = λ h e. o.given h (out_given h (group_eq g h) e);
      member = λ h e. o.member h (out_member h (group_eq g h) e);
      sorted = o.sorted;
      views = o.views;
      heard = λ h number heard e. o.heard h number heard (out_joining h (group_eq g h) number heard e);
      done = o.done;
    }

  -- asking to join
  module _ (g : GroupNo) (request : ℕ) (out : is_outside (p.standing g) ≡ true) (one : 1 ≤ k) (in_use : k ≤ used)
      (known : Contains groups g) where
    join_given : (h : GroupNo) (b : Bool) → group_eq g h ≡ b →
        is_outside (if b then Joining request (view_of p.time g) else p.standing h) ≡ false → (1 ≤ k) × (k ≤ used) × Contains groups h
    join_given h true e is = (one, in_use, subst (Contains groups) (ap (λ n. record { 0 = n }) (eqb-true g.0 h.0 e)) known)
    join_given h false e is = o.given h is

    join_member : (h : GroupNo) (b : Bool) → (if b then Joining request (view_of p.time g) else p.standing h) ≡ Member →
        p.standing h ≡ Member
    join_member h true is = absurd (not_joining request (view_of p.time g) (sym is))
    join_member h false is = is

    heard_or : Standing → ℕ
    heard_or Outside = 0
    heard_or (Joining number heard) = heard
    heard_or Member = 0

    join_heard : (h : GroupNo) (b : Bool) → group_eq g h ≡ b → (number heard : ℕ) →
        (if b then Joining request (view_of p.time g) else p.standing h) ≡ Joining number heard → IsDecided at home h heard
    unfolding heard_or
    join_heard h true e number heard is =
        subst (λ n. IsDecided at home h n)
        (ap (view_of p.time) (sym (ap (λ n. record { 0 = n }) (eqb-true g.0 h.0 e))) ∙ ap heard_or is) (o.views h)
    join_heard h false e number heard is = o.heard h number heard is

    pub joins_one : OneHolds at home here used groups group k
        (record p { standing = set_at group_eq p.standing g (Joining request (view_of p.time g)) }) acts
    joins_one = record {
      fits = joining_fits me p acts o.fits g request out;
      given = λ h e. join_given h (group_eq g h) refl e;
      member = λ h e. o.member h (join_member h (group_eq g h) e);
      sorted = o.sorted;
      views = o.views;
      heard = λ h number heard e. join_heard h (group_eq g h) refl number heard e;
      done = o.done;
    }

  -- sending
  module _ (g : GroupNo) (m : Message) (member : p.standing g ≡ Member) (own : m.id.proc ≡ me) (of_group : m.id.group ≡ g)
      (times : m.times ≡ with_bump p.time g me) (view : m.id.view ≡ (group g).number) (count : m.id.count ≡ count_in p.time g me + 1) where
    view_same : (h : GroupNo) → view_of m.times h ≡ view_of p.time h
    view_same h = ap (λ t. view_of t h) times ∙ bumped_view p.time g me h

    pub sent_sorted : IsSorted m.times
    sent_sorted = subst IsSorted (sym times) (bumped_sorted p.time g me o.sorted)

    pub sent_views : (h : GroupNo) → IsDecided at home h (view_of m.times h)
    sent_views h = subst (λ v. IsDecided at home h v) (sym (view_same h)) (o.views h)

    pub sends_one : OneHolds at home here used groups group k (record p { time = m.times }) (acts ++ Sent m ∷ [])
    sends_one = record {
      fits = sending_fits me p acts o.fits g m member own of_group times (view ∙ (o.member g member).0) count sent_sorted;
      given = o.given;
      member = λ h is. let was = o.member h is in (was.0 ∙ sym (view_same h), was.1);
      sorted = sent_sorted;
      views = sent_views;
      heard = o.heard;
      done = λ x did. o.done x (before_sent acts m x did);
    }

  -- delivering
  module _ (m : Message) (known : Known at home m) (allowed : IsAllowed p m) where
    pub joined_view : (h : GroupNo) → p.standing h ≡ Member → view_of (join p.time m.times) h ≡ view_of p.time h
    joined_view h is =
        view_kept me p acts o.fits m (sorted_once m.times known.sorted.0) allowed h (view_of p.time h) refl (allowed.view h is)

    pub delivers_one : OneHolds at home here used groups group k
        (record p { time = join p.time m.times; delivered = p.delivered ++ m.id ∷ [] }) (acts ++ Delivered m ∷ [])
    delivers_one = record {
      fits = delivering_fits me p acts o.fits m (sorted_once m.times known.sorted.0) allowed;
      given = o.given;
      member = λ h is. let was = o.member h is in (
        was.0
            ∙ sym (view_kept me p acts o.fits m (sorted_once m.times known.sorted.0) allowed h (view_of p.time h) refl (allowed.view h is)),
        was.1,
      );
      sorted = joined_sorted p.time m.times o.sorted known.sorted;
      views = λ h. view_join p.time m.times (sorted_once m.times known.sorted.0) h ((at home).home h).number (o.views h) (known.views h);
      heard = o.heard;
      done = λ x did. elim (before_delivered acts m x did) [ inl old ↦ o.done x old | inr new ↦ subst (λ y. WasSent at y) new known.sent ];
    }

  -- entering a view
  module _ (g : GroupNo) (n : ℕ) (cut : CountList) (above : view_of p.time g < n) (next_one : (v : ℕ) → IsIn acts g v → n ≡ v + 1)
      (cuts : (v : ℕ) (e : Entry) → IsIn acts g v → 1 ≤ e.1 → IsTrue (is_within cut e) → Contains p.delivered (uid_in g v e))
      (in_place : is_outside (p.standing g) ≡ false) (next : GroupNo → MemberSide) (same : (h : GroupNo) → (g ≡ h → ⊥) → next h ≡ group h)
      (number : (next g).number ≡ n) (current : has_view (next g) ≡ true) (decided : IsDecided at home g n) where
    pub enters_one : OneHolds at home here used groups next k (in_view g n p) (acts ++ Entered g n cut ∷ [])
    enters_one = record {
      fits = entering_fits me p acts o.fits g n cut above next_one cuts;
      given = λ h e. elim (cases_group g h) [
        | inl here_it ↦ subst (λ x. (1 ≤ k) × (k ≤ used) × Contains groups x) here_it (o.given g in_place)
        | inr apart ↦ o.given h (sym (ap is_outside (set_other p.standing g Member h apart)) ∙ e)
      ];
      member = λ h is. elim (cases_group g h) [
        | inl here_it ↦
            subst (λ x. ((next x).number ≡ view_of (entering p.time g n) x) × (has_view (next x) ≡ true))
            here_it (number ∙ sym (entered_view p.time g n), current)
        | inr apart ↦
            let was = o.member h (sym (set_other p.standing g Member h apart) ∙ is) in
            subst (λ (x : MemberSide). (x.number ≡ view_of (entering p.time g n) h) × (has_view x ≡ true)) (sym (same h apart))
            (was.0 ∙ sym (other_view p.time g n h apart), was.1)
      ];
      sorted = entered_sorted p.time g n o.sorted;
      views = λ h. elim (cases_group g h) [
        | inl here_it ↦
            subst (λ x. IsDecided at home x (view_of (entering p.time g n) x))
            here_it (subst (λ v. IsDecided at home g v) (sym (entered_view p.time g n)) decided)
        | inr apart ↦ subst (λ v. IsDecided at home h v) (sym (other_view p.time g n h apart)) (o.views h)
      ];
      heard = λ h number heard is. elim (cases_group g h) [
        | inl here_it ↦ absurd (not_joining number heard (sym (set_here p.standing g Member h here_it) ∙ is))
        | inr apart ↦ o.heard h number heard (sym (set_other p.standing g Member h apart) ∙ is)
      ];
      done = λ m did. o.done m (before_entered acts g n cut m did);
    }
