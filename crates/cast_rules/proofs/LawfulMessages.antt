-- What holds of each history that events lead to is kept where messages are received, sent,
-- delivered and let go.
-- `lawful_receiving` adds a message of a view that its group has reached, `lawful_sending` one of
-- a process here, whose time is in the views of its groups. `lawful_let_go` and
-- `lawful_releasing_ended` drop messages that are spent. `lawful_delivery` is a delivery: what is
-- ready for a member is of no later view than its own (`allowed_view`), so it stays in its views
-- (`delivered_view`).
use Rattle.std.proofs.Common.{◌≡◌, ℕ, ◌<◌, ◌≤◌, Bool, true, false, not, Less, Equal, Greater, []}
use Rattle.std.proofs.Common.{◌∷◌, ◌++◌, Contains, refl, sym, ap, subst, ◌∙◌, inl, inr, arith}
use Rattle.std.specs.Prelude.{◌&&◌, ◌⊎◌, ◌==◌, nat_lt, if◌then◌else◌}
use Rattle.std.specs.List.{list_all}
use Rattle.std.specs.Ordering.{nat_cmp, MatchOrdering}
use Rattle.std.specs.FinMap.Entries.{is_sorted}
use Rattle.std.proofs.lemmas.Bool.{not-false, and_parts, or_cases, or_left, or_right, false≢true, eqb-true, ltb-true}
use Rattle.std.proofs.lemmas.List.Folds.{list_any-append}
use Rattle.std.proofs.lemmas.Cmp.{ranked}
use Rattle.std.proofs.lemmas.List.Elements.{Contains-push_cases}
use Rattle.cast_types.specs.declared.names.GroupNo.{GroupNo}
use Rattle.cast_types.specs.declared.names.Uid.{Uid}
use Rattle.cast_types.specs.declared.names.Standing.{Standing}
use Rattle.cast_types.specs.declared.names.Standing.TheVariants.{Outside, Joining, Member}
use Rattle.cast_types.specs.declared.clock.Clock.{Clock}
use Rattle.cast_types.specs.Names.{site_eq, group_cmp, proc_eq, uid_eq, is_atomic, entry_of}
use Rattle.cast_types.specs.Sets.{set_at, at_order, is_among}
use Rattle.cast_types.specs.Stamps.{ClockList}
use Rattle.cast_types.proofs.Orders.{site_itself, same_uid, uid_itself}
use Rattle.cast_clock.specs.Times.{clock_of, view_of, join_clocks, join_counts, join, has_room, with_bump}
use Rattle.cast_clock.proofs.Joins.{clock_of-join}
use Rattle.cast_clock.proofs.Raised.{bump_leaves_views}
use Rattle.cast_message.specs.declared.message.Body.{Body}
use Rattle.cast_message.specs.declared.message.Message.{Message}
use Rattle.cast_message.specs.Bodies.{kind_of}
use Rattle.cast_ready.specs.declared.gate.Gate.{Gate}
use Rattle.cast_ready.specs.Ready.{Process, is_open_to, is_member, is_outside, has_delivered, past_in, group_allows, is_causally_ready}
use Rattle.cast_delay.proofs.Delivers.{only_member}
use Rattle.cast_delay.proofs.RowMeaning.{among_holds}
use Rattle.cast_view.specs.MemberSide.{members_of}
use Rattle.cast_rules.specs.State.{State, local, may_speak, set_process, others_of, gate_of, receiving}
use Rattle.cast_rules.specs.State.{releasing, is_ended, releasing_ended, with_delivery, noting_sent}
use Rattle.cast_rules.specs.Acts.Act.{Sent, Delivered}
use Rattle.cast_rules.specs.Rest.{is_free, let_go}
use Rattle.cast_rules.specs.Turns.{is_ready_for}
use Rattle.cast_rules.specs.Rules.Sending.{send_data}
use Rattle.cast_rules.specs.History.{history}
use Rattle.cast_rules.specs.Effects.{next_message, sending_message, sending}
use Rattle.cast_rules.specs.Lawful.{IsSpent, IsTraced, IsLawful}
use Rattle.cast_rules.proofs.Lawful.{placed_of, lawful_from, one_act_on, acted_on, same_acted, kept_map}
use Rattle.cast_rules.proofs.Lawful.{kept_push, kept_filter, free_spent, ended_spent, lawful_fold}
use Rattle.cast_rules.proofs.SameLaw.{lawful_same, same_send_data, same_noting}
use Rattle.cast_rules.proofs.LawfulProcesses.{lawful_process}

pub lawful_receiving : (s : State) (m : Message) → IsLawful s → is_sorted group_cmp m.times ≡ true →
    m.id.view ≤ (s.group m.id.group).number → may_speak s m.id.group m.id.proc ≡ true → IsLawful (receiving s m)
lawful_receiving s m l sorted reached speaks = lawful_from s (receiving s m) l refl (placed_of s l)
    (λ x at. elim (Contains-push_cases s.got m x at) [
      | inl before ↦ l.stamped x before
      | inr last ↦ subst (λ y. is_sorted group_cmp y.times ≡ true) last sorted
    ])
    (kept_push (IsSpent (receiving s m)) s.got s.kept m
    (kept_map (IsSpent s) (IsSpent (receiving s m)) (λ x h. record { reached = h.reached; delivered = h.delivered }) s.got s.kept l.spent))
    l.listed
    (record {
      reached = λ x at. elim (Contains-push_cases s.got m x at) [
        | inl before ↦ l.traced.reached x before
        | inr last ↦ subst (λ y. y.id.view ≤ (s.group y.id.group).number) last reached
      ];
      spoken = λ x at same. elim (Contains-push_cases s.got m x at) [
        | inl before ↦ l.traced.spoken x before same
        | inr last ↦ subst (λ y. may_speak s y.id.group y.id.proc ≡ true) last speaks
      ];
      acted = same_acted s (receiving s m) refl l.traced;
      delivered = l.traced.delivered;
      seen = l.traced.seen;
    })
    l.waiting

-- what is free is let go
-- messages are let go that are spent
lawful_releasing : (s : State) (passes : Uid → Bool) → IsLawful s → ((m : Message) → passes m.id ≡ true → IsSpent s m) →
    IsLawful (releasing s passes)
lawful_releasing s passes l spent = lawful_from s (releasing s passes) l refl (placed_of s l) l.stamped
    (kept_map (IsSpent s) (IsSpent (releasing s passes)) (λ x h. record { reached = h.reached; delivered = h.delivered })
    s.got (releasing s passes).kept
    (kept_filter (IsSpent s) (λ m. not (passes m.id)) (λ m fails. spent m (not-false (passes m.id) fails)) s.got s.kept l.spent))
    l.listed
    (record {
      reached = l.traced.reached;
      spoken = l.traced.spoken;
      acted = same_acted s (releasing s passes) refl l.traced;
      delivered = l.traced.delivered;
      seen = l.traced.seen;
    })
    l.waiting

pub lawful_let_go : (s : State) → IsLawful s → IsLawful (let_go s)
lawful_let_go s l = lawful_releasing s (is_free s) l (free_spent s)

pub lawful_releasing_ended : (s : State) (g : GroupNo) → IsLawful s → IsLawful (releasing_ended s g)
lawful_releasing_ended s g l = lawful_releasing s (is_ended s g) l (ended_spent s g)

-- a process sends a message whose time has the views of its own
pub lawful_sent_here : (s : State) (k : ℕ) (m : Message) → IsLawful s → ((g : GroupNo) → view_of m.times g ≡ view_of (s.process k).time g) →
    is_sorted group_cmp m.times ≡ true → m.id.view ≤ (s.group m.id.group).number → may_speak s m.id.group m.id.proc ≡ true →
    IsLawful (receiving (noting_sent s k m) m)
lawful_sent_here s k m l views sorted reached speaks =
    lawful_receiving (noting_sent s k m) m
    (lawful_same (set_process s k (record (s.process k) { time = m.times })) (noting_sent s k m)
    (same_noting (set_process s k (record (s.process k) { time = m.times })) k (Sent m) reached)
    (lawful_process s k (record (s.process k) { time = m.times }) l
    (λ g. record { known = l.known k g; current = λ h. views g ∙ l.current k g h; viewed = l.viewed k g }) (λ g is. is) (λ u is. is)))
    sorted reached speaks

pub lawful_sending_message : (s : State) (k : ℕ) (m : Message) → IsLawful s →
    ((g : GroupNo) → view_of m.times g ≡ view_of (s.process k).time g) → is_sorted group_cmp m.times ≡ true →
    m.id.view ≤ (s.group m.id.group).number → may_speak s m.id.group m.id.proc ≡ true → IsLawful (sending_message s k m)
lawful_sending_message s k m l views sorted reached speaks =
    let now : State = receiving (noting_sent s k m) m in
    lawful_fold (send_data history m.id) (λ t to. lawful_same t (send_data history m.id t to) (same_send_data m.id t to))
    (others_of s m.id.group) now (lawful_sent_here s k m l views sorted reached speaks)

-- each process of this site may speak
pub local_speaks : (s : State) (g : GroupNo) (k : ℕ) → may_speak s g (local s k) ≡ true
local_speaks s g k = or_right (is_among proc_eq (local s k) (members_of (s.group g))) (site_eq s.here s.here) (site_itself s.here)

pub lawful_sending : (s : State) (g : GroupNo) (k : ℕ) (content : Body) → IsLawful s →
    is_sorted group_cmp (with_bump (s.process k).time g (local s k)) ≡ true → IsLawful (sending s g k content)
lawful_sending s g k content l sorted =
    lawful_sending_message s k (next_message s g k content) l (λ h. bump_leaves_views (s.process k).time g h (local s k))
    sorted (omega arith) (local_speaks s g k)

-- the join with a time whose view is not later has the view
joined_view : (a b : Clock) → b.view ≤ a.view → (join_clocks a b).view ≡ a.view
joined_view a b older =
    elim (nat_cmp a.view b.view) as (λ o. MatchOrdering o (a.view < b.view) (a.view ≡ b.view) (b.view < a.view) →
    (at_order o b (record { view = a.view; counts = join_counts a.counts b.counts }) a).view ≡ a.view) [
      | Less ↦ λ later. absurd (omega arith)
      | Equal ↦ λ _. refl
      | Greater ↦ λ _. refl
    ] (ranked a.view b.view (nat_cmp a.view b.view) refl)

join_view : (s t : ClockList) (g : GroupNo) → is_sorted group_cmp t ≡ true → view_of t g ≤ view_of s g → view_of (join s t) g ≡ view_of s g
join_view s t g sorted older = ap (λ (c : Clock). c.view) (clock_of-join s t g sorted) ∙ joined_view (clock_of s g) (clock_of t g) older

-- a member's group allows no message of a later view
pub allowed_view : (x : Standing) (p : Process) (gate : Gate) (m : Message) (g : GroupNo) → is_member x ≡ true →
    group_allows x p gate m g ≡ true → view_of m.times g ≤ gate.number
allowed_view Outside p gate m g member allows = absurd (false≢true member)
allowed_view (Joining request heard) p gate m g member allows = absurd (false≢true member)
allowed_view Member p gate m g member allows =
    elim (or_cases (nat_lt (view_of m.times g) gate.number)
    ((view_of m.times g == gate.number) && list_all (has_delivered p) (past_in m g)) allows) [
      | inl older ↦ let less = ltb-true (view_of m.times g) gate.number older in omega arith
      | inr here ↦
          let same =
          eqb-true (view_of m.times g)
          gate.number (and_parts (view_of m.times g == gate.number) (list_all (has_delivered p) (past_in m g)) here).0 in omega arith
    ]

-- each configured group allows what is ready
pub ready_allows : (s : State) (k : ℕ) (m : Message) → is_ready_for s k m ≡ true →
    list_all (λ h. group_allows ((s.process k).standing h) (s.process k) (gate_of s h) m h) s.config.groups ≡ true
ready_allows s k m ready =
    let a = and_parts (is_causally_ready s.config.groups (gate_of s) (s.process k) m) _ ready in
    let b = and_parts (is_member ((s.process k).standing m.id.group)) _ a.0 in
    let c = and_parts (m.id.view == (gate_of s m.id.group).number) _ b.1 in
    let o = and_parts (is_open_to (gate_of s m.id.group) (entry_of m.id)) _ c.1 in
    let d = and_parts (not (has_delivered (s.process k) m.id)) _ o.1 in
    (and_parts (list_all (λ h. group_allows ((s.process k).standing h) (s.process k) (gate_of s h) m h) s.config.groups)
    (has_room (join (s.process k).time m.times)) d.1).0

-- a member that takes what is ready stays in its view
pub delivered_view : (s : State) (k : ℕ) (m : Message) → IsLawful s → Contains s.got m → is_ready_for s k m ≡ true → (g : GroupNo) →
    is_member ((s.process k).standing g) ≡ true → view_of (join (s.process k).time m.times) g ≡ (s.group g).number
delivered_view s k m l at ready g member =
    let p : Process = s.process k in
    let inside : is_outside (p.standing g) ≡ false = ap is_outside (only_member (p.standing g) member) in
    let allows =
    among_holds (λ h. group_allows (p.standing h) p (gate_of s h) m h) s.config.groups g (ready_allows s k m ready) (l.known k g inside) in
    let most : view_of m.times g ≤ (s.group g).number = allowed_view (p.standing g) p (gate_of s g) m g member allows in
    let own : view_of p.time g ≡ (s.group g).number = l.current k g member in
    join_view p.time m.times g (l.stamped m at) (subst (λ n. view_of m.times g ≤ n) (sym own) most) ∙ own

-- an ABCAST that is delivered is noted
traced_delivery : (s : State) (k : ℕ) (m : Message) → IsLawful s → IsLawful
    (set_process s k (record (s.process k) { time = join (s.process k).time m.times; delivered = (s.process k).delivered ++ m.id ∷ [] })) →
    Contains s.got m → IsTraced (with_delivery s k m)
traced_delivery s k m l taken at = record {
  reached = l.traced.reached;
  spoken = l.traced.spoken;
  acted = acted_on s (with_delivery s k m) (λ g. omega arith) (one_act_on s k (Delivered m) (l.traced.reached m at)) l.traced;
  delivered = λ j u is. elim (noted (is_atomic (kind_of m.body)) j u is) [
    | inl before ↦ taken.traced.delivered j u before
    | inr last ↦
        now_delivered j u last.0 last.1
  ];
  seen = λ j u is. elim (noted (is_atomic (kind_of m.body)) j u is) [
    | inl before ↦ l.traced.seen j u before
    | inr last ↦ subst (λ x. x.view ≤ (s.group x.group).number) (sym last.1) (l.traced.reached m at)
  ];
}
  where
    only_one : (u : Uid) → is_among uid_eq u (m.id ∷ []) ≡ true → uid_eq u m.id ≡ true
    only_one u is = elim (or_cases (uid_eq u m.id) false is) [ inl this ↦ this | inr none ↦ absurd (false≢true none) ]

    -- what is noted was noted, or is the message
    pushed : (j : ℕ) (u : Uid) (b : Bool) → k == j ≡ b → is_among uid_eq u (if b then s.abcasts k ++ m.id ∷ [] else s.abcasts j) ≡ true →
        (is_among uid_eq u (s.abcasts j) ≡ true) ⊎ ((k == j ≡ true) × (u ≡ m.id))
    pushed j u false other is = inl is
    pushed j u true same is =
        elim (or_cases (is_among uid_eq u (s.abcasts k)) (is_among uid_eq u (m.id ∷ []))
        (sym (list_any-append (uid_eq u) (s.abcasts k) (m.id ∷ [])) ∙ is)) [
          | inl before ↦ inl (ap (λ i. is_among uid_eq u (s.abcasts i)) (sym (eqb-true k j same)) ∙ before)
          | inr last ↦ inr (same, same_uid u m.id (only_one u last))
        ]

    noted : (b : Bool) (j : ℕ) (u : Uid) →
        is_among uid_eq u ((if b then set_at (λ x y. x == y) s.abcasts k (s.abcasts k ++ m.id ∷ []) else s.abcasts) j) ≡ true →
        (is_among uid_eq u (s.abcasts j) ≡ true) ⊎ ((k == j ≡ true) × (u ≡ m.id))
    noted false j u is = inl is
    noted true j u is = pushed j u (k == j) refl is

    now_delivered : (j : ℕ) (u : Uid) → k == j ≡ true → u ≡ m.id → has_delivered ((with_delivery s k m).process j) u ≡ true
    now_delivered j u same is =
        let v : Process = record (s.process k) {
          time = join (s.process k).time m.times;
          delivered = (s.process k).delivered ++ m.id ∷ [];
        } in
        ap (λ b. has_delivered (if b then v else s.process j) u) same
        ∙ list_any-append (uid_eq u) (s.process k).delivered (m.id ∷ [])
        ∙ or_right (is_among uid_eq u (s.process k).delivered) (is_among uid_eq u (m.id ∷ []))
        (or_left (uid_eq u m.id) false (ap (uid_eq u) (sym is) ∙ uid_itself u))

pub lawful_delivery : (s : State) (k : ℕ) (m : Message) → IsLawful s → Contains s.got m → is_ready_for s k m ≡ true →
    IsLawful (with_delivery s k m)
lawful_delivery s k m l at ready =
    let p : Process = s.process k in
    let v : Process = record p { time = join p.time m.times; delivered = p.delivered ++ m.id ∷ [] } in
    let set : State = set_process s k v in
    let now : State = with_delivery s k m in
    let taken : IsLawful set =
    lawful_process s k v l (λ g. record { known = l.known k g; current = delivered_view s k m l at ready g; viewed = l.viewed k g })
    (λ g is. is) (λ u is. list_any-append (uid_eq u) p.delivered (m.id ∷ []) ∙ or_left _ _ is) in
    lawful_from set now taken refl (placed_of set taken) taken.stamped
    (kept_map (IsSpent set) (IsSpent now) (λ x h. record { reached = h.reached; delivered = h.delivered }) s.got s.kept taken.spent)
    taken.listed
    (traced_delivery s k m l taken at)
    taken.waiting
