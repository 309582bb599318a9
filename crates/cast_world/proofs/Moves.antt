-- Each primitive move of a site goes forward, and keeps what holds of the site.
-- `Later` relates a state to what comes after it, and `SiteHolds` is what holds of one site in a
-- network. For each move there is a lemma that says that the state goes forward (`later_sent`,
-- `later_passing`) and one that says that `SiteHolds` stays (`emits_site`, `received_site`,
-- `sent_site`). A move changes one process, one group, or what was received; all else stands, so
-- each lemma looks at that part alone.
use Rattle.std.proofs.Common.{ap, arith, inl, inr, subst, sym, ◌∙◌}
use Rattle.std.proofs.lemmas.Bool.{eq-eqb, eqb-true, false≢true, true≢false}
use Rattle.std.proofs.lemmas.List.Elements.{Contains-append_left, Contains-push, Contains-push_cases}
use Rattle.std.specs.Prelude.{◌+◌, ◌++◌, ◌<◌, ◌==◌, Bool, Contains, List, [], false, if◌then◌else◌, not, refl, true, ℕ, ◌∷◌, ◌≡◌, ◌≤◌, ◌⊎◌}
use Rattle.cast_clock.specs.Times.{count_in, join, view_of}
use Rattle.cast_ready.specs.Ready.{Process, is_member, is_outside}
use Rattle.cast_rules.specs.Acts.{Act}
use Rattle.cast_rules.specs.Acts.Act.{Delivered, Entered, Left, Sent}
use Rattle.cast_rules.specs.Effects.{next_message}
use Rattle.cast_rules.specs.Entering.{all_parted, completing, enters, in_view, is_put_out, put_outside, passing, putting_out}
use Rattle.cast_rules.specs.State.{State, emit, gate_of, local, noting_act, noting_sent, outside, receiving}
use Rattle.cast_rules.specs.State.{releasing, set_group, set_home, set_session, set_standing, with_delivery}
use Rattle.cast_rules.specs.Step.{opening_next}
use Rattle.cast_rules.specs.Turns.{is_ready_for, turn_of}
use Rattle.cast_message.specs.Membership.{Membership}
use Rattle.cast_message.specs.declared.message.Body.{Body}
use Rattle.cast_message.specs.declared.message.Message.{Message}
use Rattle.cast_message.specs.declared.site.SiteFrame.{SiteFrame}
use Rattle.cast_events.specs.Session.{Session, first_session, is_open}
use Rattle.cast_types.specs.Counts.{CountList}
use Rattle.cast_types.specs.Names.{group_eq}
use Rattle.cast_types.specs.Sets.{set_at}
use Rattle.cast_types.specs.declared.names.GroupNo.{GroupNo}
use Rattle.cast_types.specs.declared.names.SiteNo.{SiteNo}
use Rattle.cast_types.specs.declared.names.Standing.{Standing}
use Rattle.cast_types.specs.declared.names.Standing.TheVariants.{Joining, Member, Outside}
use Rattle.cast_types.specs.declared.names.Uid.{Uid}
use Rattle.cast_view.specs.Home.{Home}
use Rattle.cast_view.specs.MemberSide.{MemberSide, has_view, with_view}
use Rattle.cast_world.proofs.Allowed.{ready_allowed}
use Rattle.cast_world.proofs.Homes.{among_kept}
use Rattle.cast_world.proofs.Invariants.{GroupHolds, Grows, HomeHolds, IsDecided, IsSound, Known, Later}
use Rattle.cast_world.proofs.Invariants.{OneHolds, SiteHolds, SiteParts, Sites, TakesIn, WasSent}
use Rattle.cast_world.proofs.Kept.{Says}
use Rattle.cast_world.proofs.Laters.{grows, set_all, set_both, set_group_all}
use Rattle.cast_world.proofs.Ones.{apart_one, delivers_one, group_one, joins_one, parted_one, sends_one, sent_sorted, sent_views, used_one}
use Rattle.cast_world.proofs.Times.{bumped_count}
use Rattle.cast_message.specs.declared.site.SiteFrame.TheVariants as frame

-- which standing it is

pub member_is : (s : Standing) → is_member s ≡ true → s ≡ Member
member_is Outside e = absurd (false≢true e)
member_is (Joining number heard) e = absurd (false≢true e)
member_is Member e = refl

pub not_member_is : (s : Standing) → is_member s ≡ false → s ≡ Member → ⊥
not_member_is s e is = true≢false (sym (ap is_member is) ∙ e)

joining_in_part : (s : Standing) (b : Bool) (number heard : ℕ) → (if b then Outside else s) ≡ Joining number heard →
    s ≡ Joining number heard
joining_in_part s true number heard e = absurd (true≢false (ap is_outside e))
joining_in_part s false number heard e = e

-- Forward

-- one process changes, and says nothing new of joining
module _ (s : State) (k : ℕ) (p : Process) where
  abbrev Asks : Type 0
  Asks =
      (g : GroupNo) (number heard : ℕ) → p.standing g ≡ Joining number heard →
      ((s.process k).standing g ≡ Joining number heard) ⊎ ((s.group g).asked < number)

  later_process : Asks → (acts : List Act) → ((y : Act) → Contains (s.acts k) y → Contains acts y) →
      Grows s.process (set_at (λ a b. a == b) s.process k p) s.acts (set_at (λ a b. a == b) s.acts k acts) s.group s.group s.home s.home
  later_process asks acts did = grows s.process _ s.acts _ s.group s.group s.home s.home
      (set_all (λ j (x : List Act). (y : Act) → Contains (s.acts j) y → Contains x y) s.acts k acts (λ j y c. c) did)
      (λ g. omega arith) (λ g. omega arith)
      (set_all (λ j (x : Process). (g : GroupNo) (number heard : ℕ) → x.standing g ≡ Joining number heard →
      ((s.process j).standing g ≡ Joining number heard) ⊎ ((s.group g).asked < number))
      s.process k p (λ j g number heard e. inl e) asks)

  later_standing : Asks → Grows s.process (set_at (λ a b. a == b) s.process k p) s.acts s.acts s.group s.group s.home s.home
  later_standing asks = grows s.process _ s.acts s.acts s.group s.group s.home s.home (λ j m c. c) (λ g. omega arith) (λ g. omega arith)
      (set_all (λ j (x : Process). (g : GroupNo) (number heard : ℕ) → x.standing g ≡ Joining number heard →
      ((s.process j).standing g ≡ Joining number heard) ⊎ ((s.group g).asked < number))
      s.process k p (λ j g number heard e. inl e) asks)

pub later_part : (s : State) (k : ℕ) (g : GroupNo) → Later s (outside s k g)
later_part s k g = go (is_member ((s.process k).standing g))
  where
    out : Process
    out = put_outside g (s.process k)

    go : (b : Bool) → Grows s.process (set_at (λ a c. a == c) s.process k (put_outside g (s.process k)))
        s.acts (if b then (noting_act s k (Left g)).acts else s.acts) s.group s.group s.home s.home
    go true =
        later_process s k (put_outside g (s.process k))
        (λ h number heard e. inl (joining_in_part ((s.process k).standing h) (group_eq g h) number heard e)) (s.acts k ++ Left g ∷ [])
        (λ y c. Contains-append_left (s.acts k) (Left g ∷ []) y c)
    go false =
        later_standing s k (put_outside g (s.process k))
        (λ h number heard e. inl (joining_in_part ((s.process k).standing h) (group_eq g h) number heard e))

number_or : Standing → ℕ
number_or Outside = 0
number_or (Joining number heard) = number
number_or Member = 0

pub later_join : (s : State) (k : ℕ) (g : GroupNo) (heard : ℕ) → Later s (set_standing s k g (Joining ((s.group g).asked + 1) heard))
unfolding number_or
later_join s k g heard = later_standing s k _ (λ h number was e. go h number was (group_eq g h) refl e)
  where
    go : (h : GroupNo) (number was : ℕ) (b : Bool) → group_eq g h ≡ b →
        (if b then Joining ((s.group g).asked + 1) heard else (s.process k).standing h) ≡ Joining number was →
        ((s.process k).standing h ≡ Joining number was) ⊎ ((s.group h).asked < number)
    go h number was true e is = inr (let same : (s.group g).asked + 1 ≡ number = ap number_or is in
        let here : (s.group g).asked ≡ (s.group h).asked = ap (λ x. (s.group x).asked) (ap (λ n. record { 0 = n }) (eqb-true g.0 h.0 e)) in
        omega (arith, same, here))
    go h number was false e is = inl is

pub later_sent : (s : State) (k : ℕ) (m : Message) → Later s (receiving (noting_sent s k m) m)
later_sent s k m =
    later_process s k (record (s.process k) { time = m.times }) (λ h number heard e. inl e) (s.acts k ++ Sent m ∷ [])
    (λ y c. Contains-append_left (s.acts k) (Sent m ∷ []) y c)

pub later_delivered : (s : State) (k : ℕ) (m : Message) → Later s (with_delivery s k m)
later_delivered s k m =
    later_process s k (record (s.process k) { time = join (s.process k).time m.times; delivered = (s.process k).delivered ++ m.id ∷ [] })
    (λ h number heard e. inl e)
    (s.acts k ++ Delivered m ∷ []) (λ y c. Contains-append_left (s.acts k) (Delivered m ∷ []) y c)

pub later_group : (s : State) (g : GroupNo) (v : MemberSide) → (s.group g).asked ≤ v.asked → Later s (set_group s g v)
later_group s g v le = grows s.process s.process s.acts s.acts s.group _ s.home s.home (λ k m c. c) (λ h. omega arith)
    (set_group_all (λ h (x : MemberSide). (s.group h).asked ≤ x.asked) s.group g v (λ h. omega arith) le) (λ k h number heard e. inl e)

pub later_home : (s : State) (g : GroupNo) (v : Home) → (s.home g).number ≤ v.number → Later s (set_home s g v)
later_home s g v le = grows s.process s.process s.acts s.acts s.group s.group s.home _ (λ k m c. c)
    (set_group_all (λ h (x : Home). (s.home h).number ≤ x.number) s.home g v (λ h. omega arith) le) (λ h. omega arith)
    (λ k h number heard e. inl e)

-- views

joining_in_view : (s : Standing) (b : Bool) (number heard : ℕ) → (if b then Member else s) ≡ Joining number heard → s ≡ Joining number heard
joining_in_view s true number heard e = absurd (true≢false (ap is_member e))
joining_in_view s false number heard e = e

-- who joins after some were put out joined before
pub joining_after : (s : State) (g : GroupNo) (goes : ℕ → Bool) (k : ℕ) (h : GroupNo) (number heard : ℕ) →
    ((all_parted s g goes).process k).standing h ≡ Joining number heard → (s.process k).standing h ≡ Joining number heard
joining_after s g goes k h number heard e = go (goes k) e
  where
    go : (b : Bool) → (if b then put_outside g (s.process k) else s.process k).standing h ≡ Joining number heard →
        (s.process k).standing h ≡ Joining number heard
    go true is = joining_in_part ((s.process k).standing h) (group_eq g h) number heard is
    go false is = is

pub later_parted : (s : State) (g : GroupNo) (goes : ℕ → Bool) → Later s (all_parted s g goes)
later_parted s g goes = grows s.process _ s.acts _ s.group s.group s.home s.home
    (λ k y c. acts k y (goes k) c) (λ h. omega arith) (λ h. omega arith)
    (λ k h number heard e. inl (joining_after s g goes k h number heard e))
  where
    acts : (k : ℕ) (y : Act) (b : Bool) → Contains (s.acts k) y → Contains (if b then s.acts k ++ Left g ∷ [] else s.acts k) y
    acts k y true c = Contains-append_left (s.acts k) (Left g ∷ []) y c
    acts k y false c = c

later_completing : (s : State) (g : GroupNo) (n : ℕ) (members : Membership) (request : ℕ) (cut : CountList) →
    Later s (completing s g n members request cut)
later_completing s g n members request cut = grows s.process _ s.acts _ s.group _ s.home s.home
    (λ k y c. acts k y (enters s g members request k) c) (λ h. omega arith)
    (set_group_all (λ h (x : MemberSide). (s.group h).asked ≤ x.asked) s.group g (with_view s.here n members (s.group g)) (λ h. omega arith)
    (omega arith))
    (λ k h number heard e. inl (stands k h number heard (enters s g members request k) e))
  where
    acts : (k : ℕ) (y : Act) (b : Bool) → Contains (s.acts k) y → Contains (if b then s.acts k ++ Entered g n cut ∷ [] else s.acts k) y
    acts k y true c = Contains-append_left (s.acts k) (Entered g n cut ∷ []) y c
    acts k y false c = c

    stands : (k : ℕ) (h : GroupNo) (number heard : ℕ) (b : Bool) →
        (if b then in_view g n (s.process k) else s.process k).standing h ≡ Joining number heard →
        (s.process k).standing h ≡ Joining number heard
    stands k h number heard true e = joining_in_view ((s.process k).standing h) (group_eq g h) number heard e
    stands k h number heard false e = e

pub later_then : (s t u : State) → Later s t → Later t u → Later s u
later_then s t u one two = record {
  did = λ k y c. two.did k y (one.did k y c);
  decided = λ g. let a = one.decided g in let b = two.decided g in omega (arith, a, b);
  asked = λ g. let a = one.asked g in let b = two.asked g in omega (arith, a, b);
  takes = λ g request view x. two.takes g request view (one.takes g request view x);
}

pub later_passing : (s : State) (g : GroupNo) (skipped : Bool) (n : ℕ) (members : Membership) (request : ℕ) (cut : CountList) →
    Later s (passing s g skipped n members request cut)
later_passing s g skipped n members request cut =
    later_then s (putting_out s g skipped members) (passing s g skipped n members request cut)
    (later_parted s g (is_put_out s g skipped members)) (later_completing (putting_out s g skipped members) g n members request cut)

-- What holds of a site

module _ (at : Sites) (home s : SiteNo) (t : State) (x : SiteHolds at home s t) where
  abbrev One : ℕ → Process → List Act → Type 0
  One k p acts = OneHolds at home t.here t.used t.config.groups t.group k p acts

  abbrev one : (k : ℕ) → One k (t.process k) (t.acts k)
  one = x.ones

  -- one process did something
  changed : (k : ℕ) (p : Process) (acts : List Act) → One k p acts → (j : ℕ) →
      One j (set_at (λ a b. a == b) t.process k p j) (set_at (λ a b. a == b) t.acts k acts j)
  changed k p acts new = set_both One t.process t.acts k p acts one new

  stood : (k : ℕ) (p : Process) → One k p (t.acts k) → (j : ℕ) → One j (set_at (λ a b. a == b) t.process k p j) (t.acts j)
  stood k p new = set_all (λ j q. One j q (t.acts j)) t.process k p one new

  -- processes do
  abbrev pub WithOnes : (ℕ → Process) → (ℕ → List Act) → Type 0
  WithOnes process acts = SiteParts at home s t.here t.config t.used t.session process acts t.group t.home t.got t.kept t.frames

  with_ones : (process : ℕ → Process) (acts : ℕ → List Act) → ((k : ℕ) → One k (process k) (acts k)) → WithOnes process acts
  with_ones process acts all = record {
    here_is = x.here_is;
    home_is = x.home_is;
    opened = x.opened;
    ones = all;
    groups = x.groups;
    homes = x.homes;
    received = x.received;
    stored = x.stored;
    sent = x.sent;
  }

  says_sound : (to : SiteNo) (f : SiteFrame) → Says t to f → IsSound at home s to f
  says_sound to (frame.Data m) says = x.stored m says
  says_sound to (frame.Ack u) says = tt
  says_sound to (frame.Stable u) says = tt
  says_sound to (frame.Ask g number what p) (a, c, e) = subst (λ n. n ≤ ((at s).group g).asked) e ((x.groups g).requests a c)
  says_sound to (frame.Asked g number full) says = tt
  says_sound to (frame.Prepare g view) says = tt
  says_sound to (frame.Flushed g view counts tail kept) says = tt
  says_sound to (frame.Want u) says = tt
  says_sound to (frame.Forward m) (inl c) = x.stored m c
  says_sound to (frame.Forward m) (inr (g, c)) = (x.homes g).bodies m c
  says_sound to (frame.Install g view members request cut tail) (waiting, d, bodies, e, view_is, request_is, members_is, cut_is) = (
    subst (λ v. IsDecided at home g v) (sym view_is) (x.homes g).number,
    subst (λ v. TakesIn (at to).process (at to).group g request v) (sym view_is)
        (subst (λ r. TakesIn (at to).process (at to).group g r (t.home g).number) (sym request_is)
        ((x.homes g).installs waiting d bodies e to)),
  )
  says_sound to (frame.Installed g view) says = tt
  says_sound to (frame.Out g view) says = subst (λ v. IsDecided at home g v) (sym says) (x.groups g).number

  pub emits_site : (to : SiteNo) (f : SiteFrame) → Says t to f → SiteHolds at home s (emit t to f)
  emits_site to f says = record {
    here_is = x.here_is;
    home_is = x.home_is;
    opened = x.opened;
    ones = x.ones;
    groups = x.groups;
    homes = x.homes;
    received = x.received;
    stored = x.stored;
    sent = λ to2 f2 c. elim (Contains-push_cases t.frames (to, f) (to2, f2) c) [
      | inl old ↦ x.sent to2 f2 old
      | inr new ↦ subst (λ (y : SiteNo × SiteFrame). IsSound at home s y.0 y.1) new (says_sound to f says)
    ];
  }

  pub releases_site : (passes : Uid → Bool) → SiteHolds at home s (releasing t passes)
  releases_site passes = record {
    here_is = x.here_is;
    home_is = x.home_is;
    opened = x.opened;
    ones = x.ones;
    groups = x.groups;
    homes = x.homes;
    received = x.received;
    stored = λ m c. x.stored m (among_kept (λ y. not (passes y.id)) t.kept m c);
    sent = x.sent;
  }

  sessions_site : (session : ℕ → Session) (used : ℕ) → t.used ≤ used → ((k : ℕ) → is_open (session k) ≡ true → (1 ≤ k) × (k ≤ used)) →
      SiteParts at home s t.here t.config used session t.process t.acts t.group t.home t.got t.kept t.frames
  sessions_site session used more opened = record {
    here_is = x.here_is;
    home_is = x.home_is;
    opened = opened;
    ones = λ k. used_one at home t.here t.used t.config.groups t.group k (t.process k) (t.acts k) (one k) used more;
    groups = x.groups;
    homes = x.homes;
    received = x.received;
    stored = x.stored;
    sent = x.sent;
  }

  pub session_site : (k : ℕ) (v : Session) → (is_open v ≡ true → is_open (t.session k) ≡ true) → SiteHolds at home s (set_session t k v)
  session_site k v same = sessions_site (set_at (λ a b. a == b) t.session k v) t.used (omega arith)
      (set_all (λ j (y : Session). is_open y ≡ true → (1 ≤ j) × (j ≤ t.used)) t.session k v x.opened (λ e. x.opened k (same e)))

  pub opened_site : SiteHolds at home s (opening_next t)
  opened_site =
      sessions_site (set_at (λ a b. a == b) t.session (t.used + 1) (first_session (local t (t.used + 1)))) (t.used + 1) (omega arith)
      (set_all (λ j (y : Session). is_open y ≡ true → (1 ≤ j) × (j ≤ t.used + 1)) t.session (t.used + 1)
      (first_session (local t (t.used + 1)))
      (λ j e. let was = x.opened j e in (was.0, let low = was.1 in omega (arith, low))) (λ e. (omega arith, omega arith)))

  pub part_site : (k : ℕ) (g : GroupNo) → SiteHolds at home s (outside t k g)
  part_site k g = go (is_member ((t.process k).standing g)) refl
    where
      go : (b : Bool) → is_member ((t.process k).standing g) ≡ b →
          WithOnes (set_at (λ a c. a == c) t.process k (put_outside g (t.process k))) (if b then (noting_act t k (Left g)).acts else t.acts)
      go true e =
          with_ones _ _ (changed k (put_outside g (t.process k)) (t.acts k ++ Left g ∷ [])
          (parted_one at home t.here t.used t.config.groups t.group k (t.process k) (t.acts k) (one k) g))
      go false e =
          with_ones _ _ (stood k (put_outside g (t.process k))
          (apart_one at home t.here t.used t.config.groups t.group k (t.process k) (t.acts k) (one k) g (not_member_is _ e)))

  pub all_part_site : (g : GroupNo) (goes : ℕ → Bool) → SiteHolds at home s (all_parted t g goes)
  all_part_site g goes = with_ones _ _ (λ k. go k (goes k))
    where
      go : (k : ℕ) (b : Bool) →
          One k (if b then put_outside g (t.process k) else t.process k) (if b then t.acts k ++ Left g ∷ [] else t.acts k)
      go k true = parted_one at home t.here t.used t.config.groups t.group k (t.process k) (t.acts k) (one k) g
      go k false = one k

  pub join_site : (k : ℕ) (g : GroupNo) (request : ℕ) → is_open (t.session k) ≡ true → Contains t.config.groups g →
      is_outside ((t.process k).standing g) ≡ true →
      SiteHolds at home s (set_standing t k g (Joining request (view_of (t.process k).time g)))
  join_site k g request open_it known out =
      let used = x.opened k open_it in
      with_ones _ _ (stood k _
      (joins_one at home t.here t.used t.config.groups t.group k (t.process k) (t.acts k) (one k) g request out used.0 used.1 known))

  -- a group changes, but for number and view
  pub group_site : (g : GroupNo) (v : MemberSide) → v.number ≡ (t.group g).number → v.view ≡ (t.group g).view → GroupHolds at home s g v →
      SiteHolds at home s (set_group t g v)
  group_site g v number view holds = record {
    here_is = x.here_is;
    home_is = x.home_is;
    opened = x.opened;
    ones = λ k. group_one at home t.here t.used t.config.groups t.group k (t.process k) (t.acts k) (one k) (set_at group_eq t.group g v)
        (set_group_all (λ h (y : MemberSide). (y.number ≡ (t.group h).number) × (has_view y ≡ has_view (t.group h)))
        t.group g v (λ h. (refl, refl)) (number, λ i. has_view (record v { view = view i })));
    groups = set_group_all (GroupHolds at home s) t.group g v x.groups holds;
    homes = x.homes;
    received = x.received;
    stored = x.stored;
    sent = x.sent;
  }

  -- a message is received, and kept
  pub received_site : (m : Message) → Known at home m → SiteHolds at home s (receiving t m)
  received_site m known = record {
    here_is = x.here_is;
    home_is = x.home_is;
    opened = x.opened;
    ones = x.ones;
    groups = x.groups;
    homes = x.homes;
    received = λ y c. elim (Contains-push_cases t.got m y c) [ inl old ↦ x.received y old | inr new ↦ subst (Known at home) new known ];
    stored = λ y c. elim (Contains-push_cases t.kept m y c) [ inl old ↦ x.stored y old | inr new ↦ subst (Known at home) new known ];
    sent = x.sent;
  }

  pub delivered_site : (k : ℕ) (m : Message) → Contains t.got m → is_ready_for t k m ≡ true → SiteHolds at home s (with_delivery t k m)
  delivered_site k m c ready =
      with_ones _ _
      (changed k _ _ (delivers_one at home t.here t.used t.config.groups t.group k (t.process k) (t.acts k) (one k) m (x.received m c)
      (ready_allowed t.config.groups (gate_of t) (turn_of t k) (t.process k) m (λ g is. ((one k).given g is).2)
      (λ g is. ((one k).member g is).0) ready)))

  pub home_site : (g : GroupNo) (h : Home) → HomeHolds at home g h → SiteHolds at home s (set_home t g h)
  home_site g h holds = record {
    here_is = x.here_is;
    home_is = x.home_is;
    opened = x.opened;
    ones = x.ones;
    groups = x.groups;
    homes = set_group_all (HomeHolds at home) t.home g h x.homes holds;
    received = x.received;
    stored = x.stored;
    sent = x.sent;
  }

-- a message is sent
module _ (at : Sites) (home s : SiteNo) (t : State) (x : SiteHolds at home s t) (g : GroupNo) (k : ℕ) (content : Body)
    (own : at s ≡ receiving (noting_sent t k (next_message t g k content)) (next_message t g k content))
    (member : is_member ((t.process k).standing g) ≡ true) where
  abbrev m : Message
  m = next_message t g k content

  abbrev member_it : (t.process k).standing g ≡ Member
  member_it = member_is _ member

  was_sent : WasSent at m
  was_sent = subst (λ (y : State). Contains (y.acts k) (Sent m)) (sym (ap at x.here_is ∙ own))
      (subst (λ b. Contains (if b then t.acts k ++ Sent m ∷ [] else t.acts k) (Sent m)) (sym (eq-eqb k k refl))
      (Contains-push (t.acts k) (Sent m)))

  counted : m.id.count ≡ count_in (t.process k).time g (local t k) + 1
  counted = bumped_count (t.process k).time g (local t k)

  known : Known at home m
  known = record {
    sent = was_sent;
    sorted = sent_sorted at home t.here t.used t.config.groups t.group k (t.process k) (t.acts k) (x.ones k)
        g m member_it refl refl refl refl counted;
    views = sent_views at home t.here t.used t.config.groups t.group k (t.process k) (t.acts k) (x.ones k)
        g m member_it refl refl refl refl counted;
  }

  pub sent_site : SiteHolds at home s (receiving (noting_sent t k m) m)
  sent_site = received_site at home s (noting_sent t k m)
      (with_ones at home s t x _ _ (changed at home s t x k _ _ (sends_one at home t.here t.used t.config.groups t.group k (t.process k)
      (t.acts k) (x.ones k) g m member_it refl refl refl refl counted))) m known
