-- Views, requests and the home: what their moves need to keep what holds of a site.
use Rattle.std.proofs.Common.{ap, arith, inl, inr, subst, sym, ◌∙◌}
use Rattle.std.proofs.lemmas.Bool.{and_parts, eq-eqb, eqb-true, false≢true, leb-true, true≢false}
use Rattle.std.proofs.lemmas.List.Elements.{Contains-push_cases}
use Rattle.std.specs.List.{list_any}
use Rattle.std.specs.Prelude.{◌&&◌, ◌+◌, ◌++◌, ◌<◌, Bool, Contains, IsTrue, List, None, Option, Some, [], drop}
use Rattle.std.specs.Prelude.{false, if◌then◌else◌, is_some, not, refl, true, unwrap_or, ◌||◌, ℕ, ◌∷◌, ◌≡◌, ◌≤◌}
use Rattle.cast_clock.specs.Times.{view_of}
use Rattle.cast_ready.specs.Ready.{Process, covered_entries, has_delivered, is_member, is_outside}
use Rattle.cast_rules.specs.Acts.{Act}
use Rattle.cast_rules.specs.Acts.Act.{Entered}
use Rattle.cast_rules.specs.Entering.{all_parted, completing, enters, freezing, in_view, is_put_out}
use Rattle.cast_rules.specs.Entering.{put_outside, passing, pending_install, putting_out}
use Rattle.cast_rules.specs.Reports.{has_delivered_cut, is_delivered_here}
use Rattle.cast_rules.specs.State.{State, local, local_members, serials, set_group, set_home}
use Rattle.cast_message.specs.Membership.{Membership}
use Rattle.cast_message.specs.Tail.{Tail}
use Rattle.cast_message.specs.declared.message.Message.{Message}
use Rattle.cast_message.specs.declared.site.Change.{Change}
use Rattle.cast_message.specs.declared.site.SiteFrame.{SiteFrame}
use Rattle.cast_types.specs.Counts.{CountList, is_within}
use Rattle.cast_types.specs.Names.{Entry, group_eq, uid_in, proc_eq, site_cmp}
use Rattle.cast_types.specs.Sets.{is_among, set_at, with_items}
use Rattle.cast_types.specs.declared.names.GroupNo.{GroupNo}
use Rattle.cast_types.specs.declared.names.Proc.{Proc}
use Rattle.cast_types.specs.declared.names.SiteNo.{SiteNo}
use Rattle.cast_types.specs.declared.names.Standing.{Standing}
use Rattle.cast_types.specs.declared.names.Standing.TheVariants.{Joining, Member, Outside}
use Rattle.cast_view.specs.Home.{Home, answer_in, answer_of, bodies_of, decide_view, decided_list}
use Rattle.cast_view.specs.Home.{decided_phase, decision_of, installing, may_decide, may_decide_in}
use Rattle.cast_view.specs.MemberSide.{MemberSide, frozen_side, has_view, is_taken_in, with_answer}
use Rattle.cast_view.specs.MemberSide.{with_end, with_pending, with_request, with_view}
use Rattle.cast_view.specs.Sites.{is_at, sites_of}
use Rattle.cast_view.specs.declared.member.PendingRequest.{PendingRequest}
use Rattle.cast_view.specs.declared.member.Pending.{Pending}
use Rattle.cast_view.specs.declared.phase.Decision.{Decision}
use Rattle.cast_view.specs.declared.phase.Phase.{Phase}
use Rattle.cast_view.specs.declared.phase.Phase.TheVariants.{Gathering, Idle, Installing}
use Rattle.cast_world.proofs.Allowed.{contains_covered, contains_kept, contains_more, contains_range, found_among, passes}
use Rattle.cast_world.proofs.Homes.{HomeFollows, idle_not, same_decision}
use Rattle.cast_world.proofs.Invariants.{GroupHolds, IsDecided, IsSound, OneHolds, SiteHolds, Sites, TakesIn}
use Rattle.cast_world.proofs.Laters.{set_group_all}
use Rattle.cast_world.proofs.Moves.{all_part_site, group_site, home_site, joining_after}
use Rattle.cast_world.proofs.Ones.{enters_one, outside_not_member, set_here, set_other, stays_one}
use Rattle.cast_message.specs.declared.site.SiteFrame.TheVariants as frame

-- at its site a process of the view is in it
pub at_site : (here : SiteNo) (k : ℕ) (xs : List Proc) → list_any (proc_eq record { site = here; serial = k }) xs ≡ true →
    list_any (is_at here) xs ≡ true
at_site here k [] e = absurd (false≢true e)
at_site here k (q ∷ xs) e = go (proc_eq record { site = here; serial = k } q) refl (at_site here k xs)
  where
    go : (b : Bool) → proc_eq record { site = here; serial = k } q ≡ b →
        (list_any (proc_eq record { site = here; serial = k }) xs ≡ true → list_any (is_at here) xs ≡ true) →
        (is_at here q || list_any (is_at here) xs) ≡ true
    go true is more = ap (λ b. b || list_any (is_at here) xs) (eq-eqb q.site.0 here.0 (sym (eqb-true here.0 q.site.0 (and_parts _ _ is).0)))
    go false is more = rest (is_at here q) (more (sym (ap (λ b. b || list_any (proc_eq record { site = here; serial = k }) xs) is) ∙ e))
      where
        rest : (c : Bool) → list_any (is_at here) xs ≡ true → (c || list_any (is_at here) xs) ≡ true
        rest true r = refl
        rest false r = r

taken_outside : (request : ℕ) (s : Standing) → is_taken_in request s ≡ true → is_outside s ≡ false
taken_outside request Outside e = absurd (false≢true e)
taken_outside request (Joining number heard) e = refl
taken_outside request Member e = refl

-- what is known of a view that a site passes to: it was decided; a process that joins had heard of an earlier one; and a member enters the
-- next one alone, with the cut delivered
pub record IsNext (at : Sites) (home : SiteNo) (t : State) (g : GroupNo) (skipped : Bool) (n : ℕ) (members : Membership) (request : ℕ)
    (cut : CountList) : Type 0 where
  pub decided : IsDecided at home g n
  pub above : (k number heard : ℕ) → (t.process k).standing g ≡ Joining number heard → number ≤ request →
      is_among proc_eq (local t k) members.list ≡ true → heard < n
  pub cuts : (k : ℕ) → (t.process k).standing g ≡ Member → skipped ≡ false →
      (n ≡ (t.group g).number + 1)
      × ((e : Entry) → 1 ≤ e.1 → IsTrue (is_within cut e) → Contains (t.process k).delivered (uid_in g (t.group g).number e))

-- all members that the next view names enter it
module _ (at : Sites) (home s : SiteNo) (t : State) (x : SiteHolds at home s t) (g : GroupNo) (n : ℕ) (members : Membership) (request : ℕ)
    (cut : CountList)
    (is_next : IsNext at home t g false n members request cut)
    (named_all : (k : ℕ) → (t.process k).standing g ≡ Member → is_among proc_eq (local t k) members.list ≡ true) where
  abbrev Holds : (GroupNo → MemberSide) → ℕ → Process → List Act → Type 0
  Holds group k p acts = OneHolds at home t.here t.used t.config.groups group k p acts

  abbrev one : (k : ℕ) → Holds t.group k (t.process k) (t.acts k)
  one = x.ones

  abbrev side : MemberSide
  side = with_view t.here n members (t.group g)

  abbrev next : GroupNo → MemberSide
  next = set_at group_eq t.group g side

  other : (h : GroupNo) → (g ≡ h → ⊥) → next h ≡ t.group h
  other h apart = set_other t.group g side h apart

  pub new_to : (k : ℕ) (st : Standing) → (t.process k).standing g ≡ st → is_taken_in request st ≡ true →
      is_among proc_eq (local t k) members.list ≡ true → view_of (t.process k).time g < n
  new_to k Outside e taken among = absurd (false≢true taken)
  new_to k (Joining number heard) e taken among =
      let low : heard < n = is_next.above k number heard e (leb-true number request taken) among in
      let known : view_of (t.process k).time g ≡ heard = (one k).fits.heard g number heard e in
      omega (arith, low, known)
  new_to k Member e taken among =
      let up : n ≡ (t.group g).number + 1 = (is_next.cuts k e refl).0 in
      let is : (t.group g).number ≡ view_of (t.process k).time g = ((one k).member g e).0 in
      omega (arith, up, is)

  enter : (k : ℕ) → enters t g members request k ≡ true → Holds next k (in_view g n (t.process k)) (t.acts k ++ Entered g n cut ∷ [])
  enter k e =
      let both_are = and_parts (is_taken_in request ((t.process k).standing g)) (is_among proc_eq (local t k) members.list) e in
      enters_one at home t.here t.used t.config.groups t.group k (t.process k) (t.acts k) (one k) g n cut
      (new_to k ((t.process k).standing g) refl both_are.0 both_are.1)
      (λ v is_in_it.
      let was = (one k).fits.member g v is_in_it in
      let up : n ≡ (t.group g).number + 1 = (is_next.cuts k was.0 refl).0 in
      let is : (t.group g).number ≡ view_of (t.process k).time g = ((one k).member g was.0).0 in
      let here : view_of (t.process k).time g ≡ v = was.1 in
      omega (arith, up, is, here))
      (λ v en is_in_it counted within.
      let was = (one k).fits.member g v is_in_it in
      subst (λ z. Contains (t.process k).delivered (uid_in g z en)) (((one k).member g was.0).0 ∙ was.1)
      ((is_next.cuts k was.0 refl).1 en counted within))
      (taken_outside request ((t.process k).standing g) both_are.0)
      next other
      (ap (λ (y : MemberSide). y.number) (set_here t.group g side g refl))
      (ap (λ (y : MemberSide). has_view y) (set_here t.group g side g refl)
      ∙ ap (λ b. has_view (with_end (t.group g) n (if b then Some members else None))) (at_site t.here k members.list both_are.1))
      is_next.decided

  stands : (k : ℕ) (b : Bool) → enters t g members request k ≡ b →
      Holds next k (if b then in_view g n (t.process k) else t.process k) (if b then t.acts k ++ Entered g n cut ∷ [] else t.acts k)
  stands k true e = enter k e
  stands k false e = stays_one at home t.here t.used t.config.groups t.group k (t.process k) (t.acts k) (one k) g next
      (λ is. true≢false (sym (λ i. is_taken_in request (is i) && named_all k is i) ∙ e)) other

  pub view_site : SiteHolds at home s (completing t g n members request cut)
  view_site = record {
    here_is = x.here_is;
    home_is = x.home_is;
    opened = x.opened;
    ones = λ k. stands k (enters t g members request k) refl;
    groups = set_group_all (GroupHolds at home s) t.group g side x.groups record {
      number = is_next.decided;
      pending = λ p e. absurd (false≢true (ap is_some e));
      requests = (x.groups g).requests;
    };
    homes = x.homes;
    received = x.received;
    stored = x.stored;
    sent = x.sent;
  }

-- who is a member after some were put out was one, and was not put out
member_after : (t : State) (g : GroupNo) (goes : ℕ → Bool) (k : ℕ) → ((all_parted t g goes).process k).standing g ≡ Member →
    ((t.process k).standing g ≡ Member) × (goes k ≡ false)
member_after t g goes k e = go (goes k) refl e
  where
    go : (b : Bool) → goes k ≡ b → (if b then put_outside g (t.process k) else t.process k).standing g ≡ Member →
        ((t.process k).standing g ≡ Member) × (goes k ≡ false)
    go true is member = absurd (outside_not_member (sym (set_here (t.process k).standing g Outside g refl) ∙ member))
    go false is member = (member, is)

delivered_after : (t : State) (g : GroupNo) (goes : ℕ → Bool) (k : ℕ) →
    ((all_parted t g goes).process k).delivered ≡ (t.process k).delivered
delivered_after t g goes k = go (goes k)
  where
    go : (b : Bool) → (if b then put_outside g (t.process k) else t.process k).delivered ≡ (t.process k).delivered
    go true = refl
    go false = refl

-- who is still a member once the members were put out that the next view lacks is one that it names, and no view was skipped
pub still_member : (t : State) (g : GroupNo) (skipped : Bool) (members : Membership) (k : ℕ) →
    ((putting_out t g skipped members).process k).standing g ≡ Member →
    ((t.process k).standing g ≡ Member) × (skipped ≡ false) × (is_among proc_eq (local t k) members.list ≡ true)
still_member t g skipped members k e =
    let was = member_after t g (is_put_out t g skipped members) k e in
    let kept : (skipped || not (is_among proc_eq (local t k) members.list)) ≡ false =
    sym (ap (λ st. is_member st && (skipped || not (is_among proc_eq (local t k) members.list))) was.0) ∙ was.1 in
    let both_are = go skipped (is_among proc_eq (local t k) members.list) kept in
    (was.0, both_are.0, both_are.1)
  where
    go : (a b : Bool) → (a || not b) ≡ false → (a ≡ false) × (b ≡ true)
    go true b e2 = absurd (true≢false e2)
    go false true e2 = (refl, refl)
    go false false e2 = absurd (true≢false e2)

module _ (at : Sites) (home s : SiteNo) (t : State) (g : GroupNo) (skipped : Bool) (n : ℕ) (members : Membership) (request : ℕ)
    (cut : CountList)
    (is_next : IsNext at home t g skipped n members request cut) where
  abbrev goes : ℕ → Bool
  goes = is_put_out t g skipped members

  abbrev left : State
  left = putting_out t g skipped members

  pub next_then : IsNext at home left g false n members request cut
  next_then = record {
    decided = is_next.decided;
    above = λ k number heard e le among. is_next.above k number heard (joining_after t g goes k g number heard e) le among;
    cuts = λ k e none.
        let was = still_member t g skipped members k e in
        let has = is_next.cuts k was.0 was.1 in (
          has.0,
          λ en counted within.
              subst (λ us. Contains us (uid_in g (t.group g).number en)) (sym (delivered_after t g goes k)) (has.1 en counted within),
        );
  }

  pub passing_site : SiteHolds at home s t → SiteHolds at home s (passing t g skipped n members request cut)
  passing_site x =
      view_site at home s left (all_part_site at home s t x g goes)
      g n members request cut next_then (λ k e. (still_member t g skipped members k e).2)

  -- and who enters had heard of earlier views alone
  pub passing_above : SiteHolds at home s t → (k : ℕ) → enters left g members request k ≡ true → view_of (left.process k).time g < n
  passing_above x k e =
      let both_are = and_parts (is_taken_in request ((left.process k).standing g)) (is_among proc_eq (local t k) members.list) e in
      new_to at home s left (all_part_site at home s t x g goes) g n members request cut next_then
      (λ j is. (still_member t g skipped members j is).2) k ((left.process k).standing g) refl both_are.0 both_are.1

module _ (at : Sites) (home s : SiteNo) (t : State) (x : SiteHolds at home s t) (g : GroupNo) where
  -- the cut of the Install that waits was delivered
  pub cut_delivered : (cut : CountList) → has_delivered_cut t g cut ≡ true → (k : ℕ) → (t.process k).standing g ≡ Member → (e : Entry) →
      1 ≤ e.1 → IsTrue (is_within cut e) →
      Contains (t.process k).delivered (uid_in g (t.group g).number e)
  cut_delivered cut all k member e counted within =
      let given = (x.ones k).given g (ap is_outside member) in
      let here : Contains (local_members t g) k =
      contains_kept (λ j. is_member ((t.process j).standing g)) (serials t)
      k (contains_range 1 t.used k given.0 (let low = given.1 in omega (arith, low))) (ap is_member member) in
      found_among (uid_in g (t.group g).number e) (t.process k).delivered
      (passes (λ j. has_delivered (t.process j) (uid_in g (t.group g).number e)) (local_members t g)
      (passes (is_delivered_here t g) (covered_entries cut) all e (contains_covered cut e.0 e.1 counted (leb-true _ _ within))) k here)

  -- Requests, flushes

  asked_is : (v : MemberSide) → at s ≡ set_group t g v → ((at s).group g).asked ≡ v.asked
  asked_is v own = ap (λ (y : State). (y.group g).asked) own ∙ ap (λ (y : MemberSide). y.asked) (set_here t.group g v g refl)

  pub request_site : (what : Change) (p : Proc) → at s ≡ set_group t g (with_request (t.group g) what p) →
      SiteHolds at home s (set_group t g (with_request (t.group g) what p))
  request_site what p own = group_site at home s t x g (with_request (t.group g) what p) refl refl record {
    number = (x.groups g).number;
    pending = (x.groups g).pending;
    requests =
        λ a c. elim (Contains-push_cases (t.group g).requests (record { number = (t.group g).asked + 1; change = what; proc = p }) a c) [
          | inl old ↦ (x.groups g).requests a old
          | inr new ↦
              let number : (t.group g).asked + 1 ≡ a.number = ap (λ (y : PendingRequest). y.number) new in
              let is : ((at s).group g).asked ≡ (t.group g).asked + 1 = asked_is (with_request (t.group g) what p) own in
              omega (arith, number, is)
        ];
  }

  later_requests : (as_listed : List PendingRequest) (a : PendingRequest) → Contains (drop 1 as_listed) a → Contains as_listed a
  later_requests [] a c = c
  later_requests (b ∷ rest) a c = contains_more b rest a c

  pub answer_site : SiteHolds at home s (set_group t g (with_answer (t.group g)))
  answer_site = group_site at home s t x g (with_answer (t.group g)) refl refl record {
    number = (x.groups g).number;
    pending = (x.groups g).pending;
    requests = λ a c. (x.groups g).requests a (later_requests (t.group g).requests a c);
  }

  pub freeze_site : SiteHolds at home s (freezing t g)
  freeze_site =
      group_site at home s t x g (frozen_side (t.group g))
      refl refl record { number = (x.groups g).number; pending = (x.groups g).pending; requests = (x.groups g).requests }

  pub pend_site : (p : Pending) (tail : Tail) → IsDecided at home g ((t.group g).number + 1) →
      TakesIn (at s).process (at s).group g p.request ((t.group g).number + 1) → SiteHolds at home s (pending_install t g p tail)
  pend_site p tail decided_it takes = group_site at home s t x g (with_pending (t.group g) p) refl refl record {
    number = (x.groups g).number;
    pending = λ q e. (
      decided_it,
      subst (λ (q2 : Pending). TakesIn (at s).process (at s).group g q2.request ((t.group g).number + 1))
          (ap (λ (o : Option Pending). unwrap_or o q) e) takes,
    );
    requests = (x.groups g).requests;
  }

  -- The home

  pub follow_site : (Came : SiteNo → SiteFrame → Type 0) → ((from : SiteNo) (f : SiteFrame) → Came from f → IsSound at home from s f) →
      (h : Home) → HomeFollows Came g (t.home g) h → SiteHolds at home s (set_home t g h)
  follow_site Came sound h f = home_site at home s t x g h record {
    number = subst (λ n. IsDecided at home g n) (sym f.number) (x.homes g).number;
    applied = λ to. elim (f.applied to) [
      | inl same ↦ subst (λ n. n ≤ ((at to).group g).asked) (sym same) ((x.homes g).applied to)
      | inr (what, p, came) ↦ sound to (frame.Ask g (answer_of h to).number what p) came
    ];
    installs = λ waiting d bodies e to.
        let was = f.installs waiting d bodies e in
        subst (λ n. TakesIn (at to).process (at to).group g (answer_in d.answers to).number n) (sym f.number)
        ((x.homes g).installs was.0 d was.1 was.2 to);
    bodies = λ m c. elim (f.bodies m c) [ inl old ↦ (x.homes g).bodies m old | inr (from, came) ↦ sound from (frame.Forward m) came ];
  }

  module _ (own : at home ≡ set_home t g (decide_view (t.home g)))
      (fresh : (to : SiteNo) → TakesIn (at to).process (at to).group g (answer_of (t.home g) to).number ((t.home g).number + 1)) where
    number_is : ((at home).home g).number ≡ (t.home g).number + 1
    number_is = ap (λ (y : State). (y.home g).number) own ∙ ap (λ (y : Home). y.number) (set_here t.home g (decide_view (t.home g)) g refl)

    abbrev TakesAll : Decision → Type 0
    TakesAll d = (to : SiteNo) → TakesIn (at to).process (at to).group g (answer_in d.answers to).number ((t.home g).number + 1)

    new_installs : (left : List SiteNo) (c : Decision) (more : List Message) → TakesAll c →
        (waiting : List SiteNo) (d : Decision) (bodies : List Message) → installing left c more ≡ Installing waiting d bodies → TakesAll d
    new_installs [] c more all waiting d bodies e = absurd (idle_not waiting d bodies e)
    new_installs (q ∷ left) c more all waiting d bodies e = subst TakesAll (same_decision (q ∷ left) waiting c d more bodies e) all

    decides_in : (p : Phase) (waiting : List SiteNo) (d : Decision) (bodies : List Message) →
        decided_phase (t.home g) (decided_list (t.home g)) p ≡ Installing waiting d bodies →
        may_decide_in g (t.home g) p ≡ true → TakesAll d
    decides_in Idle waiting d bodies e may = absurd (false≢true may)
    decides_in (Gathering awaited reports more) waiting d bodies e may =
        new_installs (with_items site_cmp (sites_of (decided_list (t.home g))) awaited) (decision_of (t.home g) reports)
        more fresh waiting d bodies e
    decides_in (Installing others c more) waiting d bodies e may = absurd (false≢true may)

    installing_bodies : (left : List SiteNo) (d : Decision) (bodies : List Message) (m : Message) →
        Contains (bodies_of (installing left d bodies)) m → Contains bodies m
    installing_bodies [] d bodies m c = absurd (omega (arith, c.1))
    installing_bodies (q ∷ others) d bodies m c = c

    same_bodies : (p : Phase) (m : Message) → Contains (bodies_of (decided_phase (t.home g) (decided_list (t.home g)) p)) m →
        Contains (bodies_of p) m
    same_bodies Idle m c = c
    same_bodies (Gathering awaited reports bodies) m c =
        installing_bodies (with_items site_cmp (sites_of (decided_list (t.home g))) awaited) (decision_of (t.home g) reports) bodies m c
    same_bodies (Installing waiting d bodies) m c = c

    pub decide_site : may_decide g (t.home g) ≡ true → SiteHolds at home s (set_home t g (decide_view (t.home g)))
    decide_site may = home_site at home s t x g (decide_view (t.home g)) record {
      number = (let is = number_is in omega (arith, is));
      applied = (x.homes g).applied;
      installs = λ waiting d bodies e to. decides_in (t.home g).phase waiting d bodies e may to;
      bodies = λ m c. (x.homes g).bodies m (same_bodies (t.home g).phase m c);
    }
