-- A history counts members alone, and each effect keeps it so: a member's count can always be
-- raised.
-- `can_raise` says that a member's count can always be raised: its time has a place for it, since
-- it counts members of the view alone (`CountsMembers`). Each effect keeps that. A process that
-- sends or delivers counts a member, by `IsLawful`; one that enters a view counts nothing of it
-- yet (`counts_passing`); one that leaves is a member no more. All other effects change no time.
use Rattle.std.proofs.Common.{◌≡◌, ℕ, ◌+◌, ◌<◌, ◌≤◌, Bool, true, false, cond, not, [], ◌∷◌, ◌++◌, length, Contains}
use Rattle.std.proofs.Common.{Option, Some, None, unwrap_or, refl, sym, ap, subst, ◌∙◌, ◌⊎◌, inl, inr, arith}
use Rattle.std.specs.Prelude.{◌&&◌, ◌==◌, nat_lt, nat_le, if◌then◌else◌}
use Rattle.std.specs.List.{list_all, list_any}
use Rattle.std.specs.Ordering.{eq_by_cmp}
use Rattle.std.specs.FinMap.Entries.{find, put, find-put}
use Rattle.std.proofs.lemmas.Bool.{false≢true, false_from_ne_true, and_parts, and_from}
use Rattle.std.proofs.lemmas.Bool.{or_cases, eqb-true, ltb-true, leb-true, le-leb, lt-ltb}
use Rattle.std.proofs.lemmas.List.Folds.{list_any-append}
use Rattle.std.proofs.lemmas.List.Elements.{Contains-push_cases}
use Rattle.cast_types.specs.declared.names.SiteNo.{SiteNo}
use Rattle.cast_types.specs.declared.names.GroupNo.{GroupNo}
use Rattle.cast_types.specs.declared.names.Proc.{Proc}
use Rattle.cast_types.specs.declared.names.Uid.{Uid}
use Rattle.cast_types.specs.declared.names.Standing.{Standing}
use Rattle.cast_types.specs.declared.names.Standing.TheVariants.{Outside, Joining, Member}
use Rattle.cast_types.specs.declared.clock.Clock.{Clock}
use Rattle.cast_types.specs.declared.limits.TheConstants.{MAX_NUMBER, MAX_GROUPS, MAX_MEMBERS}
use Rattle.cast_types.specs.Names.{group_eq, group_cmp, proc_eq, proc_cmp, uid_eq, entry_of}
use Rattle.cast_types.specs.Sets.{is_among, set_at}
use Rattle.cast_types.specs.Counts.{CountList}
use Rattle.cast_types.specs.Stamps.{ClockList, is_stamp}
use Rattle.cast_types.proofs.Orders.{same_group, group_itself, same_uid, group_total, group_exact, tie_same}
use Rattle.cast_clock.specs.Times.{first_clock, clock_of, view_of, count_in, join, has_room, with_bump, entering}
use Rattle.cast_clock.proofs.Joins.{clock_of-join}
use Rattle.cast_clock.proofs.Raised.{enter_begins, enter_leaves}
use Rattle.cast_clock.proofs.Valid.{sorted_time}
use Rattle.cast_message.specs.declared.message.Body.{Body}
use Rattle.cast_message.specs.declared.message.Message.{Message}
use Rattle.cast_message.specs.Membership.{Membership, is_members, is_held}
use Rattle.cast_types.specs.Rising.{is_rising}
use Rattle.cast_ready.specs.declared.gate.Gate.{Gate}
use Rattle.cast_ready.specs.Ready.{Process, is_open_to, is_member, is_outside, has_delivered, past_in, group_allows, is_causally_ready}
use Rattle.cast_delay.proofs.Delivers.{only_member}
use Rattle.cast_delay.proofs.RowMeaning.{among_holds}
use Rattle.cast_events.specs.Session.{is_open, first_session}
use Rattle.cast_view.specs.MemberSide.{MemberSide, no_group, members_of, with_view, is_taken_in}
use Rattle.cast_events.specs.declared.config.DomainConfig.{DomainConfig}
use Rattle.cast_view.specs.Sites.{is_at}
use Rattle.cast_rules.specs.State.{State, opening, local, is_group, set_process, set_group, set_standing}
use Rattle.cast_rules.specs.State.{others_of, gate_of, was_given, receiving, releasing, with_delivery, noting_sent}
use Rattle.cast_rules.specs.Acts.Act.{Sent}
use Rattle.cast_rules.specs.Rest.{is_free, let_go}
use Rattle.cast_rules.specs.Turns.{is_ready_for}
use Rattle.cast_rules.specs.History.{history}
use Rattle.cast_rules.specs.Rules.Sending.{send_data}
use Rattle.cast_rules.specs.Effects.{next_message, sending}
use Rattle.cast_rules.specs.Entering.{put_outside, is_put_out, all_parted, putting_out, enters, in_view, all_in_view, passing}
use Rattle.cast_rules.specs.Step.{opening_next}
use Rattle.cast_rules.specs.Run.{before_event}
use Rattle.cast_rules.specs.Lawful.{IsLawful}
use Rattle.cast_rules.specs.Raising.{IsTimeOf, IsFromMember, IsView, IsAmongMembers, CountsMembers, CanRaise}
use Rattle.cast_rules.proofs.SameLaw.{SameLaw, same_send_data, same_fold, seen_view, same_noting}
use Rattle.cast_rules.proofs.LawfulMessages.{allowed_view, ready_allows}
use Rattle.cast_rules.proofs.LawfulViews.{named_here, Stays, outside_still, lawful_all_parted, stays_then}
use Rattle.cast_rules.proofs.Counting.{all_counted, time_joined, time_entered, time_raised, time_spelled}
use Rattle.cast_rules.proofs.Counting.{put_some, counted_put, counted_joined, raised_room, each_sender}
use Rattle.cast_types.proofs.Bools.{and_end}

-- Groups that are alike

seen_members : (a b : MemberSide) → a.view ≡ b.view → members_of a ≡ members_of b
seen_members a b e = ap (λ v. members_of (record no_group { view = v })) e

same_from_member : (a b : MemberSide) (u : Uid) → b.number ≡ a.number → b.view ≡ a.view → IsFromMember a u → IsFromMember b u
same_from_member a b u number view h = record {
  reached = subst (λ n. u.view ≤ n) (sym number) h.reached;
  member = λ is. ap (is_among proc_eq u.proc) (seen_members b a view) ∙ h.member (is ∙ number);
}

same_view : (a b : MemberSide) → b.number ≡ a.number → b.view ≡ a.view → IsView a → IsView b
same_view a b number view h = record {
  numbered = λ seen. subst (λ n. 0 < n) (sym number) (h.numbered (sym (seen_view b a view) ∙ seen));
  rising = ap (is_rising proc_cmp) (seen_members b a view) ∙ h.rising;
  few = subst (λ ms. length ms ≤ MAX_MEMBERS) (sym (seen_members b a view)) h.few;
}

same_members : (a b : MemberSide) (p q : Proc) (c d : CountList) → b.view ≡ a.view → q ≡ p → d ≡ c → IsAmongMembers a p c →
    IsAmongMembers b q d
same_members a b p q c d view proc counts h =
    let all = seen_members b a view in
    record {
      itself = (λ i. is_among proc_eq (proc i) (all i)) ∙ h.itself;
      counted = (λ i. list_all (λ e. is_among proc_eq e.0 (all i)) (counts i)) ∙ h.counted;
    }

-- What changes nothing of this

pub counts_same : (s t : State) → SameLaw s t → CountsMembers s → CountsMembers t
counts_same s t a c = record {
  few = subst (λ (x : DomainConfig). length x.groups ≤ MAX_GROUPS) (sym a.config) c.few;
  times = λ k. subst (λ (p : Process). IsTimeOf t.config.groups p.time) (sym (a.process k))
      (subst (λ (x : DomainConfig). IsTimeOf x.groups (s.process k).time) (sym a.config) (c.times k));
  stamps =
      λ m at. subst (λ (x : DomainConfig). IsTimeOf x.groups m.times) (sym a.config) (c.stamps m (subst (λ got. Contains got m) a.got at));
  received = λ m at. same_from_member (s.group m.id.group) (t.group m.id.group) m.id (a.number m.id.group) (a.view m.id.group)
      (c.received m (subst (λ got. Contains got m) a.got at));
  delivered = λ k u is. same_from_member (s.group u.group) (t.group u.group) u (a.number u.group) (a.view u.group)
      (c.delivered k u (ap (λ p. has_delivered p u) (sym (a.process k)) ∙ is));
  views = λ g. same_view (s.group g) (t.group g) (a.number g) (a.view g) (c.views g);
  members = λ k g is.
      same_members (s.group g) (t.group g) (local s k) (local t k) (clock_of (s.process k).time g).counts
      (clock_of (t.process k).time g).counts
      (a.view g) (ap (λ (x : SiteNo). record { site = x; serial = k }) a.here)
      (ap (λ (p : Process). (clock_of p.time g).counts) (a.process k))
      (c.members k g (ap (λ (p : Process). is_member (p.standing g)) (sym (a.process k)) ∙ is));
  placed =
      λ k g is. ap (λ n. was_given n k) a.used ∙ c.placed k g (ap (λ (p : Process). is_outside (p.standing g)) (sym (a.process k)) ∙ is);
  opened = λ k is. ap (λ n. was_given n k) a.used ∙ c.opened k (a.opens k is);
}

pub counts_releasing : (s : State) (passes : Uid → Bool) → CountsMembers s → CountsMembers (releasing s passes)
counts_releasing s passes c = record {
  few = c.few;
  times = c.times;
  stamps = c.stamps;
  received = c.received;
  delivered = c.delivered;
  views = c.views;
  members = c.members;
  placed = c.placed;
  opened = c.opened;
}

pub counts_let_go : (s : State) → CountsMembers s → CountsMembers (let_go s)
counts_let_go s c = counts_releasing s (is_free s) c

pub counts_before : (s : State) → CountsMembers s → CountsMembers (before_event s)
counts_before s c = record {
  few = c.few;
  times = c.times;
  stamps = c.stamps;
  received = c.received;
  delivered = c.delivered;
  views = c.views;
  members = c.members;
  placed = c.placed;
  opened = c.opened;
}

pub counts_opening : (here : SiteNo) (config : DomainConfig) → length config.groups ≤ MAX_GROUPS → CountsMembers (opening here config)
counts_opening here config few = record {
  few = few;
  times = λ k. record { valid = refl; named = refl };
  stamps = λ m at. let inside = at.1 in absurd (omega arith);
  received = λ m at. let inside = at.1 in absurd (omega arith);
  delivered = λ k u is. absurd (false≢true is);
  views = λ g. record { numbered = λ seen. absurd (false≢true seen); rising = refl; few = omega arith };
  members = λ k g is. absurd (false≢true is);
  placed = λ k g is. absurd (false≢true (sym is));
  opened = λ k is. absurd (false≢true is);
}

-- A count that is raised

-- where members alone are counted, a member's time that is raised has room
pub room_raised : (s : State) → CountsMembers s → (k : ℕ) (g : GroupNo) → is_member ((s.process k).standing g) ≡ true →
    has_room (with_bump (s.process k).time g (local s k)) ≡ true
room_raised s c k g member =
    let a = c.members k g member in
    raised_room (members_of (s.group g)) (s.process k).time g (local s k) (c.views g).rising (c.views g).few
    (c.times k).valid a.itself a.counted

pub listed_member : (s : State) → IsLawful s → (k : ℕ) (g : GroupNo) → is_member ((s.process k).standing g) ≡ true → is_group s g ≡ true
listed_member s l k g member = l.known k g (ap is_outside (only_member ((s.process k).standing g) member))

pub time_after_raise : (s : State) → IsLawful s → CountsMembers s → (k : ℕ) (g : GroupNo) → is_member ((s.process k).standing g) ≡ true →
    IsTimeOf s.config.groups (with_bump (s.process k).time g (local s k))
time_after_raise s l c k g member =
    time_raised s.config.groups (s.process k).time g (local s k) (c.times k) (listed_member s l k g member)
    (subst (λ n. 0 < n) (sym (l.current k g member)) ((c.views g).numbered (l.viewed k g member)))
    (room_raised s c k g member)

pub can_raise : (s : State) → IsLawful s → CountsMembers s → CanRaise s
can_raise s l c k g member =
    let raised : ClockList = with_bump (s.process k).time g (local s k) in
    let room : has_room raised ≡ true = room_raised s c k g member in
    let spelled : is_stamp raised ≡ true =
    time_spelled s.config.groups raised l.rising c.few (time_after_raise s l c k g member) (put_some group_cmp g _ (s.process k).time) in
    let last : Bool = nat_lt (count_in (s.process k).time g (local s k)) MAX_NUMBER in
    (λ i. last && (room i && spelled i)) ∙ and_end last

-- One process

pub counts_process : (s : State) (k : ℕ) (v : Process) → CountsMembers s → IsTimeOf s.config.groups v.time →
    ((u : Uid) → has_delivered v u ≡ true → IsFromMember (s.group u.group) u) →
    ((g : GroupNo) → is_member (v.standing g) ≡ true → IsAmongMembers (s.group g) (local s k) (clock_of v.time g).counts) →
    ((g : GroupNo) → is_outside (v.standing g) ≡ false → was_given s.used k ≡ true) → CountsMembers (set_process s k v)
counts_process s k v c time delivered members placed = record {
  few = c.few;
  times = λ j. elim (k == j) as (λ b. IsTimeOf s.config.groups (if b then v else s.process j).time) [ true ↦ time | false ↦ c.times j ];
  stamps = c.stamps;
  received = c.received;
  delivered =
      λ j u. elim (k == j) as (λ b. has_delivered (if b then v else s.process j) u ≡ true → IsFromMember (s.group u.group) u) [
        | true ↦
            delivered u
        | false ↦ c.delivered j u
      ];
  views = c.views;
  members = λ j g.
      elim (k == j) as (λ b. k == j ≡ b → is_member ((if b then v else s.process j).standing g) ≡ true →
      IsAmongMembers (s.group g) (local s j) (clock_of (if b then v else s.process j).time g).counts) [
        | true ↦
            λ same is. subst (λ i. IsAmongMembers (s.group g) (local s i) (clock_of v.time g).counts) (eqb-true k j same) (members g is)
        | false ↦ λ _ is. c.members j g is
      ] refl;
  placed = λ j g.
      elim (k == j) as (λ b. k == j ≡ b → is_outside ((if b then v else s.process j).standing g) ≡ false → was_given s.used j ≡ true) [
        | true ↦ λ same is. subst (λ i. was_given s.used i ≡ true) (eqb-true k j same) (placed g is)
        | false ↦ λ _ is. c.placed j g is
      ] refl;
  opened = c.opened;
}

-- a process of a serial that was given is no member of a group from then on
pub counts_standing : (s : State) (k : ℕ) (g : GroupNo) (v : Standing) → is_member v ≡ false → CountsMembers s → was_given s.used k ≡ true →
    CountsMembers (set_standing s k g v)
counts_standing s k g v none c given =
    let p : Process = s.process k in
    counts_process s k (record p { standing = set_at group_eq p.standing g v }) c (c.times k) (c.delivered k)
    (λ h. elim (group_eq g h)
    as (λ b. is_member (if b then v else p.standing h) ≡ true → IsAmongMembers (s.group h) (local s k) (clock_of p.time h).counts) [
      | true ↦ λ member. absurd (false≢true (sym none ∙ member))
      | false ↦ c.members k h
    ])
    (λ h _. given)

-- Messages

pub counts_receiving : (s : State) (m : Message) → CountsMembers s → IsTimeOf s.config.groups m.times →
    IsFromMember (s.group m.id.group) m.id → CountsMembers (receiving s m)
counts_receiving s m c stamp from = record {
  few = c.few;
  times = c.times;
  stamps = λ x at. elim (Contains-push_cases s.got m x at) [
    | inl before ↦ c.stamps x before
    | inr last ↦ subst (λ (y : Message). IsTimeOf s.config.groups y.times) last stamp
  ];
  received = λ x at. elim (Contains-push_cases s.got m x at) [
    | inl before ↦ c.received x before
    | inr last ↦ subst (λ (y : Message). IsFromMember (s.group y.id.group) y.id) last from
  ];
  delivered = c.delivered;
  views = c.views;
  members = c.members;
  placed = c.placed;
  opened = c.opened;
}

-- one clock put is that of its group, and no other changes
clock_put : (t : ClockList) (g : GroupNo) (c : Clock) (h : GroupNo) (P : Clock → Type 0) → (h ≡ g → P c) → P (clock_of t h) →
    P (clock_of (put group_cmp g c t) h)
clock_put t g c h P new old =
    subst P (sym (ap (λ (o : Option Clock). unwrap_or o (first_clock 0)) (find-put group_cmp group_total h g c t)))
    (elim (eq_by_cmp group_cmp h g)
    as (λ b. eq_by_cmp group_cmp h g ≡ b → P (unwrap_or (cond b (Some c) (find group_cmp h t)) (first_clock 0))) [
      | true ↦ λ tie. new (tie_same group_exact h g tie)
      | false ↦ λ _. old
    ] refl)

-- a member sends its next message
pub counts_sent_here : (s : State) (g : GroupNo) (k : ℕ) (content : Body) → IsLawful s → CountsMembers s →
    is_member ((s.process k).standing g) ≡ true →
    CountsMembers (receiving (noting_sent s k (next_message s g k content)) (next_message s g k content))
counts_sent_here s g k content l c member =
    let p : Process = s.process k in
    let m : Message = next_message s g k content in
    let now : State = set_process s k (record p { time = m.times }) in
    let stamp : IsTimeOf s.config.groups m.times = time_after_raise s l c k g member in
    let raised : CountList = put proc_cmp (local s k) (count_in p.time g (local s k) + 1) (clock_of p.time g).counts in
    let sender = c.members k g member in
    let set : CountsMembers now = counts_process s k (record p { time = m.times }) c stamp (c.delivered k)
    (λ h is. record {
      itself = (c.members k h is).itself;
      counted =
          clock_put p.time g (record { view = view_of p.time g; counts = raised })
          h (λ x. all_counted (λ q. is_among proc_eq q (members_of (s.group h))) x.counts ≡ true)
          (λ same. subst (λ j. all_counted (λ q. is_among proc_eq q (members_of (s.group j))) raised ≡ true) (sym same)
          (counted_put (λ q. is_among proc_eq q (members_of (s.group g))) (local s k) (count_in p.time g (local s k) + 1)
          (clock_of p.time g).counts sender.counted sender.itself))
          (c.members k h is).counted;
    })
    (c.placed k) in
    counts_receiving (noting_sent s k m) m (counts_same now (noting_sent s k m) (same_noting now k (Sent m) (omega arith)) set)
    stamp (record { reached = omega arith; member = λ _. sender.itself })

pub counts_sending : (s : State) (g : GroupNo) (k : ℕ) (content : Body) → IsLawful s → CountsMembers s →
    is_member ((s.process k).standing g) ≡ true → CountsMembers (sending s g k content)
counts_sending s g k content l c member =
    let m : Message = next_message s g k content in
    let taken : State = receiving (noting_sent s k m) m in
    counts_same taken (sending s g k content) (same_fold (send_data history m.id) (same_send_data m.id) (others_of s g) taken)
    (counts_sent_here s g k content l c member)

-- a member's group allows a message of its view only after all that the message counts of it
allowed_past : (x : Standing) (p : Process) (gate : Gate) (m : Message) (g : GroupNo) → is_member x ≡ true →
    group_allows x p gate m g ≡ true → view_of m.times g ≡ gate.number → list_all (has_delivered p) (past_in m g) ≡ true
allowed_past Outside p gate m g member allows here = absurd (false≢true member)
allowed_past (Joining request heard) p gate m g member allows here = absurd (false≢true member)
allowed_past Member p gate m g member allows here =
    elim (or_cases (nat_lt (view_of m.times g) gate.number)
    ((view_of m.times g == gate.number) && list_all (has_delivered p) (past_in m g)) allows) [
      | inl older ↦ let less = ltb-true (view_of m.times g) gate.number older in absurd (omega (arith, less, here))
      | inr now ↦ (and_parts (view_of m.times g == gate.number) (list_all (has_delivered p) (past_in m g)) now).1
    ]

-- what is ready leaves room
ready_room : (s : State) (k : ℕ) (m : Message) → is_ready_for s k m ≡ true → has_room (join (s.process k).time m.times) ≡ true
ready_room s k m ready =
    let a = and_parts (is_causally_ready s.config.groups (gate_of s) (s.process k) m) _ ready in
    let b = and_parts (is_member ((s.process k).standing m.id.group)) _ a.0 in
    let d = and_parts (m.id.view == (gate_of s m.id.group).number) _ b.1 in
    let o = and_parts (is_open_to (gate_of s m.id.group) (entry_of m.id)) _ d.1 in
    let e = and_parts (not (has_delivered (s.process k) m.id)) _ o.1 in
    (and_parts (list_all (λ h. group_allows ((s.process k).standing h) (s.process k) (gate_of s h) m h) s.config.groups)
    (has_room (join (s.process k).time m.times)) e.1).1

-- what a process has delivered once it delivers one message more
delivered_now : (p : Process) (id u : Uid) (time : ClockList) →
    has_delivered (record p { time = time; delivered = p.delivered ++ id ∷ [] }) u ≡ true → (has_delivered p u ≡ true) ⊎ (u ≡ id)
delivered_now p id u time is =
    elim (or_cases (is_among uid_eq u p.delivered) (is_among uid_eq u (id ∷ []))
    (sym (list_any-append (uid_eq u) p.delivered (id ∷ [])) ∙ is)) [
      | inl before ↦ inl before
      | inr last ↦ elim (or_cases (uid_eq u id) false last) [ inl this ↦ inr (same_uid u id this) | inr none ↦ absurd (false≢true none) ]
    ]

-- a member that takes what is ready counts members alone
counted_after : (s : State) (k : ℕ) (m : Message) → IsLawful s → CountsMembers s → Contains s.got m → is_ready_for s k m ≡ true →
    (g : GroupNo) → is_member ((s.process k).standing g) ≡ true →
    all_counted (λ q. is_among proc_eq q (members_of (s.group g))) (clock_of (join (s.process k).time m.times) g).counts ≡ true
counted_after s k m l c at ready g member =
    let p : Process = s.process k in
    let f : Proc → Bool = λ q. is_among proc_eq q (members_of (s.group g)) in
    let allows =
    among_holds (λ h. group_allows (p.standing h) p (gate_of s h) m h) s.config.groups g (ready_allows s k m ready)
    (listed_member s l k g member) in
    let most : view_of m.times g ≤ (s.group g).number = allowed_view (p.standing g) p (gate_of s g) m g member allows in
    let own : view_of p.time g ≡ (s.group g).number = l.current k g member in
    let from : (u : Uid) → (u ≡ m.id) ⊎ (has_delivered p u ≡ true) → IsFromMember (s.group u.group) u = λ u which. elim which [
      | inl this ↦ subst (λ x. IsFromMember (s.group x.group) x) (sym this) (c.received m at)
      | inr before ↦ c.delivered k u before
    ] in
    subst (λ x. all_counted f x.counts ≡ true) (sym (clock_of-join p.time m.times g (sorted_time m.times (c.stamps m at).valid)))
    (counted_joined f (clock_of p.time g) (clock_of m.times g) (subst (λ n. view_of m.times g ≤ n) (sym own) most)
    (c.members k g member).counted
    (λ same. each_sender p m g f (c.stamps m at).valid (allowed_past (p.standing g) p (gate_of s g) m g member allows (same ∙ own))
    (λ u group view which.
    subst (λ h. is_among proc_eq u.proc (members_of (s.group h)) ≡ true) group
    ((from u which).member (view ∙ same ∙ own ∙ ap (λ h. (s.group h).number) (sym group))))))

pub counts_delivery : (s : State) (k : ℕ) (m : Message) → IsLawful s → CountsMembers s → Contains s.got m → is_ready_for s k m ≡ true →
    CountsMembers (with_delivery s k m)
counts_delivery s k m l c at ready =
    let p : Process = s.process k in
    let v : Process = record p { time = join p.time m.times; delivered = p.delivered ++ m.id ∷ [] } in
    let set : CountsMembers (set_process s k v) = counts_process s k v c
    (time_joined s.config.groups p.time m.times (c.times k) (c.stamps m at) (ready_room s k m ready))
    (λ u is. elim (delivered_now p m.id u (join p.time m.times) is) [
      | inl before ↦ c.delivered k u before
      | inr this ↦ subst (λ x. IsFromMember (s.group x.group) x) (sym this) (c.received m at)
    ])
    (λ g is. record { itself = (c.members k g is).itself; counted = counted_after s k m l c at ready g is })
    (c.placed k) in
    record {
      few = set.few;
      times = set.times;
      stamps = set.stamps;
      received = set.received;
      delivered = set.delivered;
      views = set.views;
      members = set.members;
      placed = set.placed;
      opened = set.opened;
    }

-- Views

-- a group's later view has taken none of its messages yet
later_from_member : (group : MemberSide) (here : SiteNo) (n : ℕ) (members : Membership) (u : Uid) → group.number < n →
    IsFromMember group u → IsFromMember (with_view here n members group) u
later_from_member group here n members u later h = record {
  reached = let before = h.reached in omega (arith, before, later);
  member = λ is. let before = h.reached in absurd (omega (arith, before, later, is));
}

later_view : (group : MemberSide) (here : SiteNo) (n : ℕ) (members : Membership) → group.number < n → is_members members ≡ true →
    IsView (with_view here n members group)
later_view group here n members later typed =
    let a = and_parts (is_rising proc_cmp members.list) (nat_le (length members.list) 64 && is_held members.list members.holder) typed in
    let b = and_parts (nat_le (length members.list) 64) (is_held members.list members.holder) a.1 in
    let few : length members.list ≤ 64 = leb-true (length members.list) 64 b.0 in
    record {
      numbered = λ _. omega (arith, later);
      rising = elim (list_any (is_at here) members.list)
          as (λ c. is_rising proc_cmp (members_of (record group { number = n; view = if c then Some members else None })) ≡ true) [
            | true ↦
                a.0
            | false ↦ refl
          ];
      few = elim (list_any (is_at here) members.list)
          as (λ c. length (members_of (record group { number = n; view = if c then Some members else None })) ≤ MAX_MEMBERS) [
            | true ↦
                few
            | false ↦ omega arith
          ];
    }

-- a process here that a view names is a member of it, and has counted nothing yet
entered : (here : SiteNo) (n : ℕ) (members : Membership) (group : MemberSide) (k : ℕ) →
    is_among proc_eq (record { site = here; serial = k }) members.list ≡ true →
    IsAmongMembers (with_view here n members group) (record { site = here; serial = k }) []
entered here n members group k named = record {
  itself = ap (λ b. is_among proc_eq (record { site = here; serial = k })
      (members_of (record group { number = n; view = if b then Some members else None }))) (named_here here k members.list named) ∙ named;
  counted = refl;
}

module _ (s : State) (g : GroupNo) (n : ℕ) (members : Membership) (request : ℕ) (cut : CountList) (l : IsLawful s) (c : CountsMembers s)
    (listed : is_group s g ≡ true) (typed : is_members members ≡ true) (stays : Stays s g members) (later : (s.group g).number < n) where
  abbrev next : MemberSide
  next = with_view s.here n members (s.group g)

  abbrev now : State
  now = set_group s g next

  -- what holds of the later view and of the other groups holds of each
  each_group : (P : GroupNo → MemberSide → Type 0) → P g next → ((h : GroupNo) → P h (s.group h)) → (h : GroupNo) → P h (now.group h)
  each_group P new old h = elim (group_eq g h) as (λ b. group_eq g h ≡ b → P h (if b then next else s.group h)) [
    | true ↦ λ is. subst (λ x. P x next) (same_group g h is) new
    | false ↦ λ _. old h
  ] refl

  from_member_now : (u : Uid) → IsFromMember (s.group u.group) u → IsFromMember (now.group u.group) u
  from_member_now u h = elim (group_eq g u.group) as (λ b. group_eq g u.group ≡ b → IsFromMember (if b then next else s.group u.group) u) [
    | true ↦ λ is.
        later_from_member (s.group g) s.here n members u later (subst (λ x. IsFromMember (s.group x) u) (sym (same_group g u.group is)) h)
    | false ↦ λ _. h
  ] refl

  -- a process that enters counts nothing of the group, and of the others what it counted
  members_entering : (k : ℕ) → is_among proc_eq (local s k) members.list ≡ true → (h : GroupNo) →
      is_member ((in_view g n (s.process k)).standing h) ≡ true →
      IsAmongMembers (now.group h) (local s k) (clock_of (in_view g n (s.process k)).time h).counts
  members_entering k named h =
      let p : Process = s.process k in
      elim (group_eq g h) as (λ b. group_eq g h ≡ b → is_member (if b then Member else p.standing h) ≡ true →
      IsAmongMembers (if b then next else s.group h) (local s k) (clock_of (entering p.time g n) h).counts) [
        | true ↦ λ is _. subst (λ x. IsAmongMembers next (local s k) (clock_of (entering p.time g n) x).counts) (same_group g h is)
            (subst (λ (x : Clock). IsAmongMembers next (local s k) x.counts) (sym (enter_begins p.time g n))
            (entered s.here n members (s.group g) k named))
        | false ↦ λ other member. subst (λ (x : Clock). IsAmongMembers (s.group h) (local s k) x.counts)
            (sym (enter_leaves p.time g h n (λ e. false≢true (sym other ∙ subst (λ x. group_eq g x ≡ true) (sym e) (group_itself g)))))
            (c.members k h member)
      ] refl

  -- one that does not is no member of the group
  members_staying : (k : ℕ) (h : GroupNo) → is_member ((s.process k).standing g) ≡ false → is_member ((s.process k).standing h) ≡ true →
      IsAmongMembers (now.group h) (local s k) (clock_of (s.process k).time h).counts
  members_staying k h out member =
      elim (group_eq g h)
      as (λ b. group_eq g h ≡ b → IsAmongMembers (if b then next else s.group h) (local s k) (clock_of (s.process k).time h).counts) [
        | true ↦
            λ is. absurd (false≢true (sym (subst (λ x. is_member ((s.process k).standing x) ≡ false) (same_group g h is) out) ∙ member))
        | false ↦ λ _. c.members k h member
      ] refl

  pub counts_all_in_view : CountsMembers (all_in_view now g n members request cut)
  counts_all_in_view = record {
    few = c.few;
    times = λ k.
        elim (enters now g members request k)
        as (λ b. IsTimeOf s.config.groups (if b then in_view g n (s.process k) else s.process k).time) [
          | true ↦ time_entered s.config.groups (s.process k).time g n (c.times k) listed (omega (arith, later))
          | false ↦ c.times k
        ];
    stamps = c.stamps;
    received = λ m at. from_member_now m.id (c.received m at);
    delivered = λ k u.
        elim (enters now g members request k)
        as (λ b. has_delivered (if b then in_view g n (s.process k) else s.process k) u ≡ true → IsFromMember (now.group u.group) u) [
          | true ↦ λ is. from_member_now u (c.delivered k u is)
          | false ↦ λ is. from_member_now u (c.delivered k u is)
        ];
    views = each_group (λ _ x. IsView x) (later_view (s.group g) s.here n members later typed) c.views;
    members = λ k h.
        elim (enters now g members request k)
        as (λ b. enters now g members request k ≡ b → is_member ((if b then in_view g n (s.process k) else s.process k).standing h) ≡ true →
        IsAmongMembers (now.group h) (local s k) (clock_of (if b then in_view g n (s.process k) else s.process k).time h).counts) [
          | true ↦ λ in_it.
              members_entering k
              (and_parts (is_taken_in request ((s.process k).standing g)) (is_among proc_eq (local s k) members.list) in_it).1 h
          | false ↦ λ out. members_staying k h (outside_still s g members request k stays out)
        ] refl;
    placed = λ k h.
        elim (enters now g members request k) as (λ b. enters now g members request k ≡ b →
        is_outside ((if b then in_view g n (s.process k) else s.process k).standing h) ≡ false → was_given s.used k ≡ true) [
          | true ↦ λ in_it _.
              c.placed k g (inside ((s.process k).standing g)
              (and_parts (is_taken_in request ((s.process k).standing g)) (is_among proc_eq (local s k) members.list) in_it).0)
          | false ↦ λ _. c.placed k h
        ] refl;
    opened = c.opened;
  }
    where
      -- a view takes in no process that stands outside
      inside : (x : Standing) → is_taken_in request x ≡ true → is_outside x ≡ false
      inside Outside taken = absurd (false≢true taken)
      inside (Joining number heard) taken = refl
      inside Member taken = refl

-- members that are put out are members no more
counts_all_parted : (s : State) (g : GroupNo) (goes : ℕ → Bool) → CountsMembers s → CountsMembers (all_parted s g goes)
counts_all_parted s g goes c = record {
  few = c.few;
  times = λ k. elim (goes k) as (λ b. IsTimeOf s.config.groups (if b then put_outside g (s.process k) else s.process k).time) [
    | true ↦
        c.times k
    | false ↦ c.times k
  ];
  stamps = c.stamps;
  received = c.received;
  delivered = λ k u. elim (goes k) as (λ b. has_delivered (if b then put_outside g (s.process k) else s.process k) u ≡ true →
      IsFromMember (s.group u.group) u) [ true ↦ c.delivered k u | false ↦ c.delivered k u ];
  views = c.views;
  members = λ k h.
      elim (goes k) as (λ b. is_member ((if b then put_outside g (s.process k) else s.process k).standing h) ≡ true →
      IsAmongMembers (s.group h) (local s k) (clock_of (if b then put_outside g (s.process k) else s.process k).time h).counts) [
        | true ↦
            elim (group_eq g h) as (λ b. is_member (if b then Outside else (s.process k).standing h) ≡ true →
            IsAmongMembers (s.group h) (local s k) (clock_of (s.process k).time h).counts) [
              | true ↦ λ is. absurd (false≢true is)
              | false ↦ c.members k h
            ]
        | false ↦ c.members k h
      ];
  placed = λ k h.
      elim (goes k)
      as (λ b. is_outside ((if b then put_outside g (s.process k) else s.process k).standing h) ≡ false → was_given s.used k ≡ true) [
        | true ↦
            elim (group_eq g h) as (λ b. is_outside (if b then Outside else (s.process k).standing h) ≡ false → was_given s.used k ≡ true) [
              | true ↦ λ inside. absurd (false≢true (sym inside))
              | false ↦ c.placed k h
            ]
        | false ↦ c.placed k h
      ];
  opened = c.opened;
}

-- the site passes to the next view
pub counts_passing : (s : State) (g : GroupNo) (skips : Bool) (n : ℕ) (members : Membership) (request : ℕ) (cut : CountList) → IsLawful s →
    CountsMembers s → is_group s g ≡ true → is_members members ≡ true → (s.group g).number < n →
    CountsMembers (passing s g skips n members request cut)
counts_passing s g skips n members request cut l c listed typed later =
    let gone : State = putting_out s g skips members in
    counts_all_in_view gone g n members request cut (lawful_all_parted s g (is_put_out s g skips members) l)
    (counts_all_parted s g (is_put_out s g skips members) c)
    listed typed (stays_then s g skips members) later

-- Sessions

-- one serial more was given
given_more : (used k : ℕ) → was_given used k ≡ true → was_given (used + 1) k ≡ true
given_more used k given =
    let parts = and_parts (nat_lt 0 k) (nat_le k used) given in
    and_from (nat_lt 0 k) (nat_le k (used + 1)) parts.0 (le-leb k (used + 1) (omega (arith, leb-true k used parts.1)))

given_next : (used : ℕ) → was_given (used + 1) (used + 1) ≡ true
given_next used =
    and_from (nat_lt 0 (used + 1)) (nat_le (used + 1) (used + 1)) (lt-ltb 0 (used + 1) (omega arith))
    (le-leb (used + 1) (used + 1) (omega arith))

pub counts_opened : (s : State) → CountsMembers s → CountsMembers (opening_next s)
counts_opened s c = record {
  few = c.few;
  times = c.times;
  stamps = c.stamps;
  received = c.received;
  delivered = c.delivered;
  views = c.views;
  members = c.members;
  placed = λ k g is. given_more s.used k (c.placed k g is);
  opened = λ k.
      elim (s.used + 1 == k) as (λ b. s.used + 1 == k ≡ b →
      is_open (if b then first_session (local s (s.used + 1)) else s.session k) ≡ true → was_given (s.used + 1) k ≡ true) [
        | true ↦ λ same _. subst (λ j. was_given (s.used + 1) j ≡ true) (eqb-true (s.used + 1) k same) (given_next s.used)
        | false ↦ λ _ is. given_more s.used k (c.opened k is)
      ] refl;
}

-- the next serial is no member's
pub next_unborn : (s : State) → CountsMembers s → (g : GroupNo) → is_member ((s.process (s.used + 1)).standing g) ≡ false
next_unborn s c g = false_from_ne_true (is_member ((s.process (s.used + 1)).standing g)) (λ member.
    let given = c.placed (s.used + 1) g (ap is_outside (only_member ((s.process (s.used + 1)).standing g) member)) in
    omega (arith, leb-true (s.used + 1) s.used (and_parts (nat_lt 0 (s.used + 1)) (nat_le (s.used + 1) s.used) given).1))
