-- What holds of flushes at a site is kept by each of its primitive moves.
-- `SiteAgrees` says that a site goes by the choice of members and cut that was made for each view.
-- There is one lemma for each move that says that it stays so (`emits_agrees`, `received_agrees`,
-- `delivered_agrees`, `sent_agrees`). A move changes one process, one group or what was received,
-- so each lemma looks at that part alone. A frozen group delivers only what the cut has
-- (`ready_within`).
use Rattle.std.proofs.Common.{ap, arith, inl, inr, subst, sym, ◌∙◌}
use Rattle.std.proofs.lemmas.Bool.{and_parts, eq-eqb, eqb-true, false≢true, or_cases, true≢false}
use Rattle.std.proofs.lemmas.List.Elements.{Contains-append_left, Contains-append_right, Contains-push_cases}
use Rattle.std.specs.List.{flat_map, list_any}
use Rattle.std.specs.Prelude.{◌&&◌, ◌+◌, ◌++◌, ◌<◌, ◌==◌, Bool, Contains, IsTrue, List, None, Option, Some, [], false}
use Rattle.std.specs.Prelude.{filter, if◌then◌else◌, is_some, map, not, refl, suc, true, ◌||◌, ℕ, ◌∷◌, ◌≡◌, ◌≤◌}
use Rattle.cast_ready.specs.Ready.{Process, is_cut_by, is_member, is_open_to, is_outside}
use Rattle.cast_rules.specs.Acts.{Act}
use Rattle.cast_rules.specs.Acts.Act.{Entered, Left, Sent}
use Rattle.cast_rules.specs.Effects.{next_message}
use Rattle.cast_rules.specs.Entering.{all_parted, completing, enters, in_view, put_outside}
use Rattle.cast_rules.specs.Order.{is_of_view}
use Rattle.cast_rules.specs.Reports.{had_here, had_in, report_in}
use Rattle.cast_rules.specs.State.{State, emit, gate_of, local, noting_act, noting_sent, outside}
use Rattle.cast_rules.specs.State.{receiving, serials, set_group, set_home, set_standing, with_delivery}
use Rattle.cast_rules.specs.Step.{opening_next}
use Rattle.cast_rules.specs.Turns.{is_ready_for}
use Rattle.cast_message.specs.Membership.{Membership}
use Rattle.cast_message.specs.declared.message.Body.{Body}
use Rattle.cast_message.specs.declared.message.Message.{Message}
use Rattle.cast_message.specs.declared.site.SiteFrame.{SiteFrame}
use Rattle.cast_types.specs.Counts.{CountList, is_within}
use Rattle.cast_types.specs.Names.{entry_of, group_eq, proc_eq, site_eq}
use Rattle.cast_types.specs.Sets.{is_among, set_at}
use Rattle.cast_types.specs.declared.names.GroupNo.{GroupNo}
use Rattle.cast_types.specs.declared.names.Proc.{Proc}
use Rattle.cast_types.specs.declared.names.SiteNo.{SiteNo}
use Rattle.cast_types.specs.declared.names.Standing.{Standing}
use Rattle.cast_types.specs.declared.names.Standing.TheVariants.{Joining, Member}
use Rattle.cast_types.specs.declared.names.Uid.{Uid}
use Rattle.cast_view.specs.Home.{Home}
use Rattle.cast_view.specs.MemberSide.{MemberSide, greatest_of, has_view, is_taken_in, members_of, with_end, with_view}
use Rattle.cast_view.specs.Sites.{local_view}
use Rattle.cast_view.specs.declared.member.Pending.{Pending}
use Rattle.cast_world.proofs.Acts.{contains_here, sent_entered, sent_left}
use Rattle.cast_world.proofs.Allowed.{contains_kept, contains_mapped, contains_range}
use Rattle.cast_world.proofs.Entries.{delivery_sends_none}
use Rattle.cast_world.proofs.Flush.{AgreeParts, Choice, CutWell, GroupAgrees, HomeAgrees}
use Rattle.cast_world.proofs.Flush.{IsChosen, IsMembers, IsTrueOf, OneAgrees, SiteAgrees, Told}
use Rattle.cast_world.proofs.FlushCounts.{contains_flat, counts_cover, greatest_covers}
use Rattle.cast_world.proofs.FlushMoves.{agree_delivered, agree_entered, agree_left, agree_less, agree_sent, agree_used, parted_sent}
use Rattle.cast_world.proofs.Homes.{HomeFollows}
use Rattle.cast_world.proofs.Invariants.{SiteHolds, Sites}
use Rattle.cast_world.proofs.Kept.{Says}
use Rattle.cast_world.proofs.Laters.{set_all, set_both, set_group_all}
use Rattle.cast_world.proofs.Lists.{contains_split, sent_same}
use Rattle.cast_world.proofs.Local.{cases_group}
use Rattle.cast_world.proofs.Moves.{member_is}
use Rattle.cast_world.proofs.Ones.{set_here, set_other}
use Rattle.cast_world.proofs.Onward.{asks, stands}
use Rattle.cast_world.proofs.Views.{at_site}
use Rattle.cast_message.specs.declared.site.SiteFrame.TheVariants as frame

pub same_proc : (p q : Proc) → proc_eq p q ≡ true → p ≡ q
same_proc p q e =
    let parts = and_parts (site_eq p.site q.site) (p.serial == q.serial) e in
    let site : p.site.0 ≡ q.site.0 = eqb-true _ _ parts.0 in
    let serial : p.serial ≡ q.serial = eqb-true _ _ parts.1 in
    λ i. record { site = record { 0 = site i }; serial = serial i }

pub proc_among : (xs : List Proc) (p : Proc) → is_among proc_eq p xs ≡ true → Contains xs p
proc_among [] p e = absurd (false≢true e)
proc_among (q ∷ xs) p e = go (proc_eq p q) refl (proc_among xs p)
  where
    go : (b : Bool) → proc_eq p q ≡ b → (list_any (proc_eq p) xs ≡ true → Contains xs p) → Contains (q ∷ xs) p
    go true same more = (0, omega arith, sym (same_proc p q same))
    go false other more =
        let later = more (sym (ap (λ b. b || list_any (proc_eq p) xs) other) ∙ e) in
        (suc later.0, omega (arith, later.1), later.2)

-- a member of a group's view is one that was chosen
pub members_chosen : (choice : Choice) (g : GroupNo) (group : MemberSide) → GroupAgrees choice g group → (p : Proc) →
    Contains (members_of group) p → IsChosen choice g group.number p
members_chosen choice g group agrees p at = go group.view refl at
  where
    go : (v : Option Membership) → group.view ≡ v → Contains (members_of (record group { view = v })) p → IsChosen choice g group.number p
    go None e c = absurd (omega (arith, c.1))
    go (Some m) e c = subst (λ (x : Membership). Contains x.list p) (agrees.view m e) c

-- and the other way round, where the group has a view
pub chosen_members : (choice : Choice) (g : GroupNo) (group : MemberSide) → GroupAgrees choice g group → has_view group ≡ true →
    (p : Proc) → IsChosen choice g group.number p → Contains (members_of group) p
chosen_members choice g group agrees current p at = go group.view refl current
  where
    go : (v : Option Membership) → group.view ≡ v → has_view (record group { view = v }) ≡ true →
        Contains (members_of (record group { view = v })) p
    go None e is = absurd (false≢true is)
    go (Some m) e is = subst (λ (x : Membership). Contains x.list p) (sym (agrees.view m e)) at

-- one of the messages that a site has of its view
had_one : (t : State) (g : GroupNo) (u : Uid) → Contains (had_here t) u → u.group ≡ g → u.view ≡ (t.group g).number →
    Contains (had_in t g) (entry_of u)
had_one t g u at group view = contains_mapped entry_of (filter (is_of_view t g) (had_here t)) u
    (contains_kept (is_of_view t g) (had_here t)
    u at (λ i. eq-eqb u.group.0 g.0 (ap (λ (x : GroupNo). x.0) group) i && eq-eqb u.view (t.group g).number view i))

module _ (choice : Choice) (at : Sites) (home s : SiteNo) (t : State) (x : SiteHolds at home s t) where
  abbrev number : GroupNo → ℕ
  number g = ((at home).home g).number

  module _ (y : SiteAgrees choice number at s t) where
    abbrev One : (GroupNo → MemberSide) → ℕ → Process → List Act → Type 0
    One group k p acts = OneAgrees choice number t.here t.used group k p.standing p.delivered acts

    -- what a frozen site tells of its view
    pub told_now : (g : GroupNo) → (t.group g).frozen ≡ true → has_view (t.group g) ≡ true →
        Told choice number t g (t.group g).number (report_in t g).counts
    told_now g frozen current = record {
      reached = omega arith;
      frozen = λ e. frozen;
      within = λ k m done group view.
          let given = (y.ones k).given m done in
          let chosen : IsChosen choice g (t.group g).number m.id.proc =
          subst (λ v. IsChosen choice g v m.id.proc)
          view (subst (λ h. IsChosen choice h m.id.view m.id.proc) group ((y.ones k).sender m done).1) in
          let listed = chosen_members choice g (t.group g) (y.groups g) current m.id.proc chosen in
          let here : Contains (had_here t) m.id =
          Contains-append_left (flat_map (λ j. (t.process j).delivered) (serials t))
          (filter (λ u. site_eq u.proc.site t.here) (map (λ (z : Message). z.id) t.got)) m.id
          (contains_flat (λ j. (t.process j).delivered) (serials t)
          k m.id (contains_range 1 t.used k given.0 (let low = given.1 in omega (arith, low))) ((y.ones k).has m done)) in
          let one = greatest_covers (had_in t g) (entry_of m.id) (had_one t g m.id here group view) in
          let two = counts_cover (greatest_of (had_in t g)) (members_of (t.group g)) m.id.proc listed in
          inl (omega (arith, one, two));
      sent = λ k m done group view.
          let split = contains_split (t.acts k) (Sent m) done in
          let by : m.id.proc ≡ local t k = ((x.ones k).fits.each split.0 split.1 (Sent m) split.2).own in
          let chosen : IsChosen choice g (t.group g).number m.id.proc =
          subst (λ v. IsChosen choice g v m.id.proc)
          view (subst (λ h. IsChosen choice h m.id.view m.id.proc) group (y.received m (y.own k m done)).1) in
          let listed = chosen_members choice g (t.group g) (y.groups g) current m.id.proc chosen in
          let here : Contains (had_here t) m.id =
          Contains-append_right (flat_map (λ j. (t.process j).delivered) (serials t))
          (filter (λ u. site_eq u.proc.site t.here) (map (λ (z : Message). z.id) t.got)) m.id
          (contains_kept (λ (u : Uid). site_eq u.proc.site t.here) (map (λ (z : Message). z.id) t.got) m.id
          (contains_mapped (λ (z : Message). z.id) t.got m (y.own k m done))
          (eq-eqb m.id.proc.site.0 t.here.0 (ap (λ (p : Proc). p.site.0) by))) in
          let one = greatest_covers (had_in t g) (entry_of m.id) (had_one t g m.id here group view) in
          let two = counts_cover (greatest_of (had_in t g)) (members_of (t.group g)) m.id.proc listed in
          omega (arith, one, two);
    }

    says_true : (to : SiteNo) (f : SiteFrame) → at s ≡ emit t to f → Says t to f → IsTrueOf choice number at s f
    says_true to (frame.Data m) own says = tt
    says_true to (frame.Ack u) own says = tt
    says_true to (frame.Stable u) own says = tt
    says_true to (frame.Ask g n what p) own says = tt
    says_true to (frame.Asked g n full) own says = tt
    says_true to (frame.Prepare g view) own says = tt
    says_true to (frame.Flushed g view counts tail kept) own (view_is, frozen, current, counts_is) =
        subst (λ (z : State). Told choice number z g view counts) (sym own)
        (subst (λ v. Told choice number t g v counts) (sym view_is)
        (subst (λ c. Told choice number t g (t.group g).number c) (sym counts_is) (told_now g frozen current)))
    says_true to (frame.Want u) own says = tt
    says_true to (frame.Forward m) own says = tt
    says_true to (frame.Install g view members request cut tail) own (waiting, d, bodies, e, view_is, request_is, members_is, cut_is) = (
      members_is ∙ (y.homes g).members ∙ ap (λ v. (choice g v).members) (sym view_is),
      cut_is ∙ (y.homes g).decision waiting d bodies e ∙ ap (λ v. (choice g v).cut) (sym view_is),
    )
    says_true to (frame.Installed g view) own says = tt
    says_true to (frame.Out g view) own says = tt

    pub emits_agrees : (to : SiteNo) (f : SiteFrame) → at s ≡ emit t to f → Says t to f → SiteAgrees choice number at s (emit t to f)
    emits_agrees to f own says = record {
      groups = y.groups;
      ones = y.ones;
      homes = y.homes;
      received = y.received;
      own = y.own;
      sent = λ to2 f2 c. elim (Contains-push_cases t.frames (to, f) (to2, f2) c) [
        | inl old ↦ y.sent to2 f2 old
        | inr new ↦ subst (λ (z : SiteNo × SiteFrame). IsTrueOf choice number at s z.1) new (says_true to f own says)
      ];
    }

    pub opened_agrees : SiteAgrees choice number at s (opening_next t)
    opened_agrees = record {
      groups = y.groups;
      ones = λ k. agree_used choice number t.here t.used t.group k (t.process k).standing (t.process k).delivered (t.acts k) (y.ones k)
          (t.used + 1) (omega arith);
      homes = y.homes;
      received = y.received;
      own = y.own;
      sent = y.sent;
    }

    -- processes did something, and sent nothing
    abbrev pub WithOnes : (ℕ → Process) → (ℕ → List Act) → Type 0
    WithOnes process acts = AgreeParts choice number at s t.here t.used process acts t.group t.home t.got t.frames

    with_ones : (process : ℕ → Process) (acts : ℕ → List Act) → ((k : ℕ) → One t.group k (process k) (acts k)) →
        ((k : ℕ) (m : Message) → Contains (acts k) (Sent m) → Contains (t.acts k) (Sent m)) → WithOnes process acts
    with_ones process acts all none = record {
      groups = y.groups;
      ones = all;
      homes = y.homes;
      received = y.received;
      own = λ k m at. y.own k m (none k m at);
      sent = y.sent;
    }

    -- one process did, and sent nothing
    none_more : (k : ℕ) (acts : List Act) → ((m : Message) → Contains acts (Sent m) → Contains (t.acts k) (Sent m)) →
        (j : ℕ) (m : Message) → Contains (set_at (λ a b. a == b) t.acts k acts j) (Sent m) → Contains (t.acts j) (Sent m)
    none_more k acts none =
        set_all (λ j (l : List Act). (m : Message) → Contains l (Sent m) → Contains (t.acts j) (Sent m)) t.acts k acts (λ j m at. at) none

    changed : (k : ℕ) (p : Process) (acts : List Act) → One t.group k p acts → (j : ℕ) →
        One t.group j (set_at (λ a b. a == b) t.process k p j) (set_at (λ a b. a == b) t.acts k acts j)
    changed k p acts new = set_both (One t.group) t.process t.acts k p acts y.ones new

    stood : (k : ℕ) (p : Process) → One t.group k p (t.acts k) → (j : ℕ) → One t.group j (set_at (λ a b. a == b) t.process k p j) (t.acts j)
    stood k p new = set_all (λ j q. One t.group j q (t.acts j)) t.process k p y.ones new

    less : (k : ℕ) (next : GroupNo → MemberSide) (st : GroupNo → Standing) →
        ((g : GroupNo) → st g ≡ Member → ((t.process k).standing g ≡ Member) × (members_of (next g) ≡ members_of (t.group g))) →
        OneAgrees choice number t.here t.used next k st (t.process k).delivered (t.acts k)
    less k next st same =
        agree_less choice number t.here t.used t.group k (t.process k).standing (t.process k).delivered (t.acts k) (y.ones k) next st same

    gone : (k : ℕ) (g : GroupNo) → One t.group k (put_outside g (t.process k)) (t.acts k)
    gone k g = less k t.group (put_outside g (t.process k)).standing (λ h is. (stands ((t.process k).standing h) (group_eq g h) is, refl))

    gone_left : (k : ℕ) (g : GroupNo) → One t.group k (put_outside g (t.process k)) (t.acts k ++ Left g ∷ [])
    gone_left k g =
        agree_left choice number t.here t.used t.group k (put_outside g (t.process k)).standing (t.process k).delivered (t.acts k)
        (gone k g) g

    pub part_agrees : (k : ℕ) (g : GroupNo) → SiteAgrees choice number at s (outside t k g)
    part_agrees k g = go (is_member ((t.process k).standing g))
      where
        go : (b : Bool) → WithOnes (set_at (λ a c. a == c) t.process k (put_outside g (t.process k)))
            (if b then (noting_act t k (Left g)).acts else t.acts)
        go true = with_ones _ _ (changed k (put_outside g (t.process k)) (t.acts k ++ Left g ∷ []) (gone_left k g))
            (none_more k (t.acts k ++ Left g ∷ []) (λ m at. sent_left (t.acts k) g m at))
        go false = with_ones _ _ (stood k (put_outside g (t.process k)) (gone k g)) (λ j m at. at)

    pub all_part_agrees : (g : GroupNo) (goes : ℕ → Bool) → SiteAgrees choice number at s (all_parted t g goes)
    all_part_agrees g goes = with_ones _ _ (λ k. go k (goes k)) (λ k m at. parted_sent t g goes k m at)
      where
        go : (k : ℕ) (b : Bool) →
            One t.group k (if b then put_outside g (t.process k) else t.process k) (if b then t.acts k ++ Left g ∷ [] else t.acts k)
        go k true = gone_left k g
        go k false = y.ones k

    pub join_agrees : (k : ℕ) (g : GroupNo) (request heard : ℕ) → SiteAgrees choice number at s (set_standing t k g (Joining request heard))
    join_agrees k g request heard =
        with_ones _ _ (stood k (record (t.process k) { standing = set_at group_eq (t.process k).standing g (Joining request heard) })
        (less k t.group (set_at group_eq (t.process k).standing g (Joining request heard))
        (λ h is. (asks ((t.process k).standing h) (group_eq g h) request heard is, refl)))) (λ j m at. at)

    -- a group changes, but for number and view
    pub group_agrees : (g : GroupNo) (v : MemberSide) → v.view ≡ (t.group g).view → GroupAgrees choice g v →
        SiteAgrees choice number at s (set_group t g v)
    group_agrees g v view agrees = record {
      groups = set_group_all (GroupAgrees choice) t.group g v y.groups agrees;
      ones = λ k. less k (set_at group_eq t.group g v) (t.process k).standing
          (λ h is. (
            is,
            set_group_all (λ j (z : MemberSide). members_of z ≡ members_of (t.group j)) t.group g v (λ j. refl)
                (λ i. members_of (record v { view = view i })) h,
          ));
      homes = y.homes;
      received = y.received;
      own = y.own;
      sent = y.sent;
    }

    -- a message of a member is received
    received_one : (m : Message) → IsMembers choice number m.id → SiteAgrees choice number at s (receiving t m)
    received_one m is_one = record {
      groups = y.groups;
      ones = y.ones;
      homes = y.homes;
      received = λ z c. elim (Contains-push_cases t.got m z c) [
        | inl old ↦ y.received z old
        | inr new ↦ subst (λ (w : Message). IsMembers choice number w.id) new is_one
      ];
      own = λ k z at. Contains-append_left t.got (m ∷ []) z (y.own k z at);
      sent = y.sent;
    }

    pub received_agrees : (m : Message) → m.id.view ≡ (t.group m.id.group).number →
        is_among proc_eq m.id.proc (members_of (t.group m.id.group)) ≡ true → SiteAgrees choice number at s (receiving t m)
    received_agrees m view member = received_one m (
      (let low : (t.group m.id.group).number ≤ number m.id.group = (x.groups m.id.group).number in omega (arith, view, low)),
      subst (λ v. IsChosen choice m.id.group v m.id.proc) (sym view)
          (members_chosen choice m.id.group (t.group m.id.group) (y.groups m.id.group)
          m.id.proc (proc_among (members_of (t.group m.id.group)) m.id.proc member)),
    )

    pub noted_agrees : (g : GroupNo) (k : ℕ) (content : Body) (j : ℕ) →
        One t.group j ((noting_sent t k (next_message t g k content)).process j) ((noting_sent t k (next_message t g k content)).acts j)
    noted_agrees g k content =
        changed k (record (t.process k) { time = (next_message t g k content).times })
        (t.acts k ++ Sent (next_message t g k content) ∷ [])
        (agree_sent choice number t.here t.used t.group k (t.process k).standing (t.process k).delivered (t.acts k) (y.ones k)
        (next_message t g k content))

    -- the site has what it sent
    pub noted_own : (g : GroupNo) (k : ℕ) (content : Body) (j : ℕ) (z : Message) →
        Contains ((noting_sent t k (next_message t g k content)).acts j) (Sent z) → Contains (t.got ++ next_message t g k content ∷ []) z
    noted_own g k content =
        let m : Message = next_message t g k content in
        set_all (λ j (l : List Act). (z : Message) → Contains l (Sent z) → Contains (t.got ++ m ∷ []) z) t.acts k (t.acts k ++ Sent m ∷ [])
        (λ j z at. Contains-append_left t.got (m ∷ []) z (y.own j z at))
        (λ z at. elim (Contains-push_cases (t.acts k) (Sent m) (Sent z) at) [
          | inl old ↦ Contains-append_left t.got (m ∷ []) z (y.own k z old)
          | inr same ↦ subst (Contains (t.got ++ m ∷ [])) (sent_same m z same) (contains_here t.got [] m)
        ])

    pub own_member : (g : GroupNo) (k : ℕ) (content : Body) → is_member ((t.process k).standing g) ≡ true →
        IsMembers choice number (next_message t g k content).id
    own_member g k content member = (
      (x.groups g).number,
      members_chosen choice g (t.group g) (y.groups g) (local t k) ((y.ones k).listed g (member_is _ member)),
    )

    pub delivered_agrees : (k : ℕ) (m : Message) → Contains t.got m → is_ready_for t k m ≡ true →
        SiteAgrees choice number at s (with_delivery t k m)
    delivered_agrees k m c ready =
        let ready_parts = and_parts _ _ ready in
        let member = (and_parts (is_member ((t.process k).standing m.id.group)) _ ready_parts.0).0 in
        let given = (x.ones k).given m.id.group (ap is_outside (member_is _ member)) in
        with_ones _ _ (changed k _ _ (agree_delivered choice number t.here t.used t.group k (t.process k).standing (t.process k).delivered
        (t.acts k) (y.ones k) m (given.0, given.1) (y.received m c))) (delivery_sends_none t k m)

    -- a message that is ready while its group is frozen is within the cut
    pub ready_within : (k : ℕ) (m : Message) → is_ready_for t k m ≡ true → ((t.group m.id.group).number ≡ m.id.view)
        × ((t.group m.id.group).frozen ≡ true → (m.id.view < number m.id.group)
        × IsTrue (is_within (choice m.id.group (m.id.view + 1)).cut (entry_of m.id)))
    ready_within k m ready =
        let a = and_parts _ _ ready in
        let b = and_parts (is_member ((t.process k).standing m.id.group)) _ a.0 in
        let c = and_parts (m.id.view == (t.group m.id.group).number) _ b.1 in
        let view : m.id.view ≡ (t.group m.id.group).number = eqb-true m.id.view (t.group m.id.group).number c.0 in
        let d = (and_parts (is_open_to (gate_of t m.id.group) (entry_of m.id)) _ c.1).0 in (
          sym view,
          λ frozen. elim (or_cases (not (t.group m.id.group).frozen) _ d) [
            | inl thawed ↦ absurd (false≢true (sym (ap not frozen) ∙ thawed))
            | inr cut ↦ go view (t.group m.id.group).pending refl cut
          ],
        )
      where
        go : m.id.view ≡ (t.group m.id.group).number → (o : Option Pending) → (t.group m.id.group).pending ≡ o →
            is_cut_by (elim o [ Some p ↦ Some p.cut | None ↦ None ]) (entry_of m.id) ≡ true →
            (m.id.view < number m.id.group) × IsTrue (is_within (choice m.id.group (m.id.view + 1)).cut (entry_of m.id))
        go view None e cut = absurd (false≢true cut)
        go view (Some p) e cut =
            let decided : (t.group m.id.group).number + 1 ≤ number m.id.group = ((x.groups m.id.group).pending p e).0 in (
              omega (arith, view, decided),
              subst (λ v. IsTrue (is_within (choice m.id.group (v + 1)).cut (entry_of m.id))) (sym view)
                  (subst (λ c. IsTrue (is_within c (entry_of m.id))) ((y.groups m.id.group).pending p e).1 cut),
            )

    pub home_agrees : (g : GroupNo) (h : Home) → HomeAgrees choice number at g h → SiteAgrees choice number at s (set_home t g h)
    home_agrees g h agrees = record {
      groups = y.groups;
      ones = y.ones;
      homes = set_group_all (HomeAgrees choice number at) t.home g h y.homes agrees;
      received = y.received;
      own = y.own;
      sent = y.sent;
    }

    pub follow_agrees : (Came : SiteNo → SiteFrame → Type 0) →
        ((from : SiteNo) (f : SiteFrame) → Came from f → IsTrueOf choice number at from f) → (g : GroupNo) (h : Home) →
        HomeFollows Came g (t.home g) h → SiteAgrees choice number at s (set_home t g h)
    follow_agrees Came sound g h f = home_agrees g h record {
      members = f.members ∙ (y.homes g).members ∙ ap (λ n. (choice g n).members) (sym f.number);
      decision = λ waiting d bodies e.
          let was = f.installs waiting d bodies e in
          (y.homes g).decision was.0 d was.1 was.2 ∙ ap (λ n. (choice g n).cut) (sym f.number);
      awaits = f.awaits (y.homes g).awaits;
      reports = λ q r c. subst (λ n. Told choice number (at q) g n r.counts) (sym f.number) (elim (f.reports q r c) [
        | inl old ↦
            (y.homes g).reports q r old
        | inr came ↦ sound q (frame.Flushed g (t.home g).number r.counts r.tail r.kept) came
      ]);
    }

    -- A view ends, and another one comes, which takes in all members that are left
    module _ (g : GroupNo) (n : ℕ) (members : Membership) (request : ℕ) (cut : CountList) (decided : n ≤ number g)
        (chosen : (m : Membership) → local_view t.here members ≡ Some m → m ≡ (choice g n).members)
        (well : (k : ℕ) → enters t g members request k ≡ true → (cut ≡ (choice g n).cut) × CutWell (t.acts k) (Entered g n cut))
        (named_all : (k : ℕ) → (t.process k).standing g ≡ Member → is_among proc_eq (local t k) members.list ≡ true) where
      abbrev side : MemberSide
      side = with_view t.here n members (t.group g)

      abbrev next : GroupNo → MemberSide
      next = set_at group_eq t.group g side

      other : (h : GroupNo) → (g ≡ h → ⊥) → members_of (next h) ≡ members_of (t.group h)
      other h apart = ap members_of (set_other t.group g side h apart)

      enter : (k : ℕ) → enters t g members request k ≡ true → OneAgrees choice number t.here t.used next k
          (in_view g n (t.process k)).standing (t.process k).delivered (t.acts k ++ Entered g n cut ∷ [])
      enter k e =
          agree_entered choice number t.here t.used next k (in_view g n (t.process k)).standing (t.process k).delivered (t.acts k) record {
            listed = λ h is. elim (cases_group g h) [
              | inl here ↦ subst (λ (z : MemberSide). Contains (members_of z) (local t k)) (sym (set_here t.group g side h here)) listed_now
              | inr apart ↦
                  subst (λ xs. Contains xs (local t k)) (sym (other h apart))
                  ((y.ones k).listed h (sym (set_other (t.process k).standing g Member h apart) ∙ is))
            ];
            has = (y.ones k).has;
            given = (y.ones k).given;
            sender = (y.ones k).sender;
            entered = (y.ones k).entered;
            cuts = (y.ones k).cuts;
          } g n cut decided (well k e).0 (well k e).1
        where
          listed_now : Contains (members_of side) (local t k)
          listed_now =
              subst (λ b. Contains (members_of (with_end (t.group g) n (if b then Some members else None))) (local t k))
              (sym (at_site t.here k members.list (and_parts _ (is_among proc_eq (local t k) members.list) e).1))
              (proc_among members.list (local t k) (and_parts _ (is_among proc_eq (local t k) members.list) e).1)

      go_in : (k : ℕ) (b : Bool) → enters t g members request k ≡ b →
          One next k (if b then in_view g n (t.process k) else t.process k) (if b then t.acts k ++ Entered g n cut ∷ [] else t.acts k)
      go_in k true e = enter k e
      go_in k false e = less k next (t.process k).standing (λ h is. elim (cases_group g h) [
        | inl here ↦
            absurd (let member = ap (t.process k).standing here ∙ is in
            true≢false (sym (λ i. is_taken_in request (member i) && named_all k member i) ∙ e))
        | inr apart ↦ (is, other h apart)
      ])

      pub view_agrees : SiteAgrees choice number at s (completing t g n members request cut)
      view_agrees = record {
        groups = set_group_all (GroupAgrees choice) t.group g side y.groups
            record { view = chosen; pending = λ p e. absurd (false≢true (ap is_some e)); frozen = λ e. absurd (false≢true e) };
        ones = λ k. go_in k (enters t g members request k) refl;
        homes = y.homes;
        received = y.received;
        own = λ k m at. y.own k m (sent_old k m (enters t g members request k) at);
        sent = y.sent;
      }
        where
          sent_old : (k : ℕ) (m : Message) (b : Bool) → Contains (if b then t.acts k ++ Entered g n cut ∷ [] else t.acts k) (Sent m) →
              Contains (t.acts k) (Sent m)
          sent_old k m true at = sent_entered (t.acts k) g n cut m at
          sent_old k m false at = at

-- a message is sent
pub sent_agrees : (choice : Choice) (at : Sites) (home s : SiteNo) (t : State) (x : SiteHolds at home s t) →
    SiteAgrees choice (λ g. ((at home).home g).number) at s t → (g : GroupNo) (k : ℕ) (content : Body) →
    is_member ((t.process k).standing g) ≡ true → SiteAgrees choice (λ g. ((at home).home g).number)
    at s (receiving (noting_sent t k (next_message t g k content)) (next_message t g k content))
sent_agrees choice at home s t x y g k content member =
    record {
      groups = y.groups;
      ones = noted_agrees choice at home s t x y g k content;
      homes = y.homes;
      received = λ z c. elim (Contains-push_cases t.got (next_message t g k content) z c) [
        | inl old ↦ y.received z old
        | inr new ↦
            subst (λ (w : Message). IsMembers choice (λ h. ((at home).home h).number) w.id)
            new (own_member choice at home s t x y g k content member)
      ];
      own = noted_own choice at home s t x y g k content;
      sent = y.sent;
    }
