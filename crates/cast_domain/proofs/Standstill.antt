-- Records that a pass leaves as they are stand for a history at rest.
-- `still_pass` says so: where a pass leaves the records as they are, it leaves the history as it
-- is. The messages received are the same before and after, so no message was sent; a row that is
-- the same tells of the same deliveries; a process without a row is in no group, and delivers
-- nothing. As many Installs wait and as many Wants are to be owed, so nothing else was done.
use Rattle.std.proofs.Common.{◌≡◌, ℕ, zero, suc, ◌+◌, ◌*◌, ◌<◌, Bool, true, false, not, List, [], ◌∷◌, ◌++◌}
use Rattle.std.proofs.Common.{length, map, Option, Some, None, refl, sym, ap, subst, ◌∙◌, inl, inr, arith}
use Rattle.std.specs.Prelude.{◌&&◌, ◌||◌, ◌==◌, if◌then◌else◌, filter}
use Rattle.std.specs.List.{fold, find, flat_map, range_with_len}
use Rattle.std.proofs.lemmas.Bool.{cases_lt, and_parts, or_left, or_right, eqb-true, false≢true, false_from_ne_true}
use Rattle.std.proofs.lemmas.List.{append_assoc, append-nil, length-append}
use Rattle.cast_types.specs.declared.names.GroupNo.{GroupNo}
use Rattle.cast_types.specs.declared.names.Uid.{Uid}
use Rattle.cast_types.specs.Names.{group_eq, uid_eq, is_atomic, entry_of}
use Rattle.cast_types.specs.Sets.{is_among, set_at}
use Rattle.cast_types.proofs.Bools.{same_bools}
use Rattle.cast_types.proofs.Orders.{same_uid, uid_itself}
use Rattle.cast_types.specs.Repeat.{iterate}
use Rattle.cast_message.specs.declared.message.Body.{Body}
use Rattle.cast_message.specs.declared.message.Body.TheVariants as body
use Rattle.cast_message.specs.declared.message.Message.{Message}
use Rattle.cast_message.specs.Bodies.{kind_of}
use Rattle.cast_ready.specs.Ready.{Process, is_member, has_delivered}
use Rattle.cast_delay.specs.Queue.{row_of}
use Rattle.cast_delay.proofs.ListLemmas.{list_any-append}
use Rattle.cast_delay.proofs.Queues.{delivered_by}
use Rattle.cast_clock.specs.Times.{join}
use Rattle.cast_clock.proofs.Entries.{option_cases}
use Rattle.cast_rules.specs.Rules.Rest.{told_of}
use Rattle.cast_order.specs.Order.{known_order, still_to_list}
use Rattle.cast_rules.specs.History.{history}
use Rattle.cast_domain.specs.declared.record.GroupRecord.{GroupRecord}
use Rattle.cast_types.specs.Names.{uid_in}
use Rattle.cast_timer.specs.declared.key.OwedKind.TheVariants.{Want}
use Rattle.cast_ready.specs.Ready.{covered_entries}
use Rattle.cast_view.specs.MemberSide.{is_pending}
use Rattle.cast_rules.specs.State.{State, local, serials, gate_of, with_delivery, abcasts_with}
use Rattle.cast_rules.specs.Order.{holders, told_by}
use Rattle.cast_rules.specs.Turns.{is_ready_for}
use Rattle.cast_rules.specs.Effects.{sending, next_message}
use Rattle.cast_rules.specs.Rest.{deliver_first, deliver_all, settle, set_order_by, set_order, set_orders, pass, let_go}
use Rattle.cast_rules.proofs.Setting.{may_set_order, set_order_is}
use Rattle.cast_rules.specs.Resting.{resting, places_of}
use Rattle.cast_rules.specs.Lawful.{IsLawful}
use Rattle.cast_timer.specs.Owed.{is_owed}
use Rattle.cast_view.specs.Home.{wants_in}
use Rattle.cast_rules.specs.Rules.Keys.{want_key, message_key}
use Rattle.cast_rules.specs.Rules.Flushes.{go_on_all}
use Rattle.cast_rules.specs.Rules.Home.{lead}
use Rattle.cast_rules.specs.Endings.{total, one_if, left_count, rank, ranks, undelivered_count, is_to_come, to_list_by}
use Rattle.cast_rules.specs.Endings.{to_list_in, to_list, to_do, site_unowed, unowed_in, unowed_count, pendings}
use Rattle.cast_domain.specs.Records.{Records}
use Rattle.cast_domain.specs.Fits.{record_for, process_named, Fits}
use Rattle.cast_rules.proofs.Alikes.{Alike, alike_sending}
use Rattle.cast_rules.proofs.Going.{goes_on}
use Rattle.cast_rules.proofs.Telling.{tells_told_if}
use Rattle.cast_rules.proofs.Settles.{alike_delivering, Delivers, delivering_one, delivers, ready_causally, ready_new}
use Rattle.cast_rules.proofs.Spots.{found_passes}
use Rattle.cast_rules.proofs.Rests.{moves_settle, moves_set_orders, moves_lead, moves_pass, never_more}
use Rattle.cast_rules.proofs.Totals.{total_same}
use Rattle.cast_rules.proofs.LawfulSteps.{same_lead}
use Rattle.cast_domain.proofs.Standing.{process_here, member_of_none}

-- What a pass receives comes last

-- a list goes on as another
abbrev pub GoesOn : List Message → List Message → Type 0
GoesOn before after = (more : List Message) × (after ≡ before ++ more)

same_on : (before after : List Message) → after ≡ before → GoesOn before after
same_on before after same = ([], same ∙ sym (append-nil before))

on_then : (a b c : List Message) → GoesOn a b → GoesOn b c → GoesOn a c
on_then a b c (x, first) (y, second) = (x ++ y, second ∙ ap (λ ms. ms ++ y) first ∙ append_assoc a x y)

-- two states in which a process has delivered the same
abbrev pub HasSame : State → State → ℕ → Type 0
HasSame s t k = (u : Uid) → has_delivered (t.process k) u ≡ has_delivered (s.process k) u

-- what a pass leaves where no Install is completed: the messages received go on, groups stay in their views, and so does what was
-- delivered, and all that was of views that ended; a process that delivered nothing more noted no ABCAST more
pub record Goes (s t : State) : Type 0 where
  pub got : GoesOn s.got t.got
  pub number : (g : GroupNo) → (t.group g).number ≡ (s.group g).number
  pub ended : (k : ℕ) (u : Uid) → u.view < (s.group u.group).number → has_delivered (t.process k) u ≡ has_delivered (s.process k) u
  pub more : (k : ℕ) (u : Uid) → has_delivered (s.process k) u ≡ true → has_delivered (t.process k) u ≡ true
  pub noted : (k : ℕ) → HasSame s t k → t.abcasts k ≡ s.abcasts k

goes_self : (s : State) → Goes s s
goes_self s = record {
  got = same_on s.got s.got refl;
  number = λ g. refl;
  ended = λ k u old. refl;
  more = λ k u is. is;
  noted = λ k same. refl;
}

goes_then : (s t x : State) → Goes s t → Goes t x → Goes s x
goes_then s t x a b = record {
  got = on_then s.got t.got x.got a.got b.got;
  number = λ g. b.number g ∙ a.number g;
  ended = λ k u old. b.ended k u (subst (λ n. u.view < n) (sym (a.number u.group)) old) ∙ a.ended k u old;
  more = λ k u is. b.more k u (a.more k u is);
  noted = λ k same.
      let first : HasSame s t k =
      λ u. same_bools (has_delivered (t.process k) u) (has_delivered (s.process k) u) (λ is. sym (same u) ∙ b.more k u is) (a.more k u) in
      b.noted k (λ u. same u ∙ sym (first u)) ∙ a.noted k first;
}

goes_fold : {X : Type 0} (f : State → X → State) → ((s : State) (x : X) → Goes s (f s x)) → (xs : List X) (s : State) → Goes s (fold f s xs)
goes_fold f h [] s = goes_self s
goes_fold f h (x ∷ xs) s = goes_then s (f s x) (fold f (f s x) xs) (h s x) (goes_fold f h xs (f s x))

or_neither : (a b : Bool) → b ≡ false → (a || (b || false)) ≡ a
or_neither true b none = refl
or_neither false b none = ap (λ x. x || false) none

-- what is delivered is of the current view of its group
goes_delivery : (s : State) (k : ℕ) (m : Message) → is_ready_for s k m ≡ true → Goes s (delivering_one s k m)
goes_delivery s k m ready = record {
  got = same_on s.got (delivering_one s k m).got d.got;
  number = λ g i. (d.group i g).number;
  ended = λ j u old. ap (is_among uid_eq u) (d.delivered j) ∙ still j u old (k == j) refl;
  more = λ j u is. ap (is_among uid_eq u) (d.delivered j) ∙ has_more j u is (k == j) refl;
  noted = λ j same. ap (λ f. f j) d.abcasts ∙ not_noted j same (k == j) refl;
}
  where
    d : Delivers k m s (delivering_one s k m)
    d = delivers s k m

    has_more : (j : ℕ) (u : Uid) → has_delivered (s.process j) u ≡ true → (b : Bool) → (k == j) ≡ b →
        is_among uid_eq u (if b then (s.process k).delivered ++ m.id ∷ [] else (s.process j).delivered) ≡ true
    has_more j u is true same =
        list_any-append (uid_eq u) (s.process k).delivered (m.id ∷ [])
        ∙ or_left (has_delivered (s.process k) u) (is_among uid_eq u (m.id ∷ []))
        (ap (λ i. has_delivered (s.process i) u) (eqb-true k j same) ∙ is)
    has_more j u is false other = is

    -- who delivered it has delivered more
    now_delivered : (j : ℕ) → (k == j) ≡ true → has_delivered ((delivering_one s k m).process j) m.id ≡ true
    now_delivered j same =
        ap (is_among uid_eq m.id) (d.delivered j)
        ∙ ap (λ b. is_among uid_eq m.id (if b then (s.process k).delivered ++ m.id ∷ [] else (s.process j).delivered)) same
        ∙ list_any-append (uid_eq m.id) (s.process k).delivered (m.id ∷ [])
        ∙ or_right (has_delivered (s.process k) m.id) (is_among uid_eq m.id (m.id ∷ []))
        (or_left (uid_eq m.id m.id) false (uid_itself m.id))

    not_noted : (j : ℕ) → HasSame s (delivering_one s k m) j → (b : Bool) → (k == j) ≡ b → abcasts_with s k m j ≡ s.abcasts j
    not_noted j same true this =
        absurd (false≢true (sym (ap (λ i. has_delivered (s.process i) m.id) (sym (eqb-true k j this)) ∙ ready_new s k m ready)
        ∙ sym (same m.id) ∙ now_delivered j this))
    not_noted j same false other =
        elim (is_atomic (kind_of m.body))
        as (λ b. (if b then set_at (λ x y. x == y) s.abcasts k (s.abcasts k ++ m.id ∷ []) else s.abcasts) j ≡ s.abcasts j) [
          | true ↦ ap (λ b. if b then s.abcasts k ++ m.id ∷ [] else s.abcasts j) other
          | false ↦ refl
        ]

    current : m.id.view ≡ (s.group m.id.group).number
    current =
        let a = and_parts (is_member ((s.process k).standing m.id.group)) _ (ready_causally s k m ready) in
        eqb-true m.id.view (s.group m.id.group).number (and_parts (m.id.view == (s.group m.id.group).number) _ a.1).0

    other : (u : Uid) → u.view < (s.group u.group).number → uid_eq u m.id ≡ false
    other u old = false_from_ne_true (uid_eq u m.id) (λ same.
        let is = same_uid u m.id same in
        let view = ap (λ (x : Uid). x.view) is in
        let number = ap (λ (x : Uid). (s.group x.group).number) is in
        omega (arith, view, number, old, current))

    still : (j : ℕ) (u : Uid) → u.view < (s.group u.group).number → (b : Bool) → (k == j) ≡ b →
        is_among uid_eq u (if b then (s.process k).delivered ++ m.id ∷ [] else (s.process j).delivered) ≡ has_delivered (s.process j) u
    still j u old true same =
        list_any-append (uid_eq u) (s.process k).delivered (m.id ∷ [])
        ∙ or_neither (has_delivered (s.process k) u) (uid_eq u m.id) (other u old)
        ∙ ap (λ i. has_delivered (s.process i) u) (eqb-true k j same)
    still j u old false differ = refl

goes_first : (k : ℕ) (s : State) → Goes s (deliver_first k s)
goes_first k s = found (find (is_ready_for s k) s.got) refl
  where
    found : (o : Option Message) → find (is_ready_for s k) s.got ≡ o →
        Goes s (elim o as (λ _. State) [ Some m ↦ delivering_one s k m | None ↦ s ])
    found (Some m) is = goes_delivery s k m (found_passes (is_ready_for s k) s.got m is)
    found None is = goes_self s

goes_iterate : (n k : ℕ) (s : State) → Goes s (iterate n (deliver_first k) s)
goes_iterate zero k s = goes_self s
goes_iterate (suc n) k s =
    goes_then s (deliver_first k s) (iterate n (deliver_first k) (deliver_first k s)) (goes_first k s)
    (goes_iterate n k (deliver_first k s))

goes_order_by : (g : GroupNo) (s : State) (k : ℕ) → Goes s (set_order_by s g k)
goes_order_by g s k =
    subst (Goes s) (sym (set_order_is s g k))
    (elim (may_set_order s g k) as (λ b. Goes s (if b then let_go (sending s g k content) else s)) [
      | true ↦ sent
      | false ↦ goes_self s
    ])
  where
    content : Body
    content = body.Order (places_of s g k)

    sent : Goes s (let_go (sending s g k content))
    sent = let a = alike_sending s g k content in record {
      got = (next_message s g k content ∷ [], a.got);
      number = λ h i. (a.group i h).number;
      ended = λ j u old. ap (is_among uid_eq u) (a.delivered j);
      more = λ j u is. ap (is_among uid_eq u) (a.delivered j) ∙ is;
      noted = λ j same. ap (λ f. f j) a.abcasts;
    }

goes_order : (s : State) (g : GroupNo) → Goes s (set_order s g)
goes_order s g = goes_fold (λ t k. set_order_by t g k) (goes_order_by g) (holders s g) s

goes_lead : (s : State) → Goes s (lead history s)
goes_lead s = let a = same_lead s in record {
  got = same_on s.got (lead history s).got a.got;
  number = a.number;
  ended = λ k u old. ap (λ p. has_delivered p u) (a.process k);
  more = λ k u is. ap (λ p. has_delivered p u) (a.process k) ∙ is;
  noted = λ k same. a.abcasts k;
}

goes_alike : (s t : State) → Alike s t → Goes s t
goes_alike s t a = record {
  got = same_on s.got t.got a.got;
  number = λ g. ap (λ groups. (groups g).number) a.group;
  ended = λ k u old. ap (is_among uid_eq u) (a.delivered k);
  more = λ k u is. ap (is_among uid_eq u) (a.delivered k) ∙ is;
  noted = λ k same. ap (λ f. f k) a.abcasts;
}

goes_pass : (s : State) → pendings (pass s) ≡ pendings s → Goes s (pass s)
goes_pass s as_many =
    let t : State = settle s in
    let u : State = set_orders t in
    let v : State = go_on_all history resting u in
    goes_then s t (pass s) (goes_fold deliver_all (λ x k. goes_iterate (length x.got) k x) (serials s) s)
    (goes_then t u (pass s) (goes_fold set_order goes_order t.config.groups t)
    (goes_then u v (pass s) (elim (goes_on u).way [
      | inl fewer ↦
          let first = never_more s t (moves_settle s) in
          let second = never_more t u (moves_set_orders t) in
          let last = never_more v (pass s) (moves_lead v) in
          absurd (omega (arith, as_many, fewer, first, second, last))
      | inr alike ↦ goes_alike u v alike
    ]) (goes_lead v)))

-- What a process in no group delivers in a pass where no Install is completed: nothing

-- a process that is a member of no group
abbrev IsNoMember : State → ℕ → Type 0
IsNoMember s k = (g : GroupNo) → is_member ((s.process k).standing g) ≡ false

-- it delivers nothing, and stays so, as others deliver and are told
record StaysIdle (s t : State) (k : ℕ) : Type 0 where
  pub delivered : (t.process k).delivered ≡ (s.process k).delivered
  pub outside : IsNoMember s k → IsNoMember t k

stays_then : (s t u : State) (k : ℕ) → StaysIdle s t k → StaysIdle t u k → StaysIdle s u k
stays_then s t u k a b = record { delivered = b.delivered ∙ a.delivered; outside = λ out. b.outside (a.outside out) }

idle_first : (s : State) (k j : ℕ) → IsNoMember s k → StaysIdle s (deliver_first j s) k
idle_first s k j out = found (find (is_ready_for s j) s.got) refl
  where
    by_serial : (m : Message) → is_ready_for s j m ≡ true → (b : Bool) → (j == k) ≡ b → (with_delivery s j m).process k ≡ s.process k
    by_serial m ready true same =
        let member = (and_parts (is_member ((s.process j).standing m.id.group)) _ (ready_causally s j m ready)).0 in
        absurd
        (false≢true (sym (out m.id.group) ∙ ap (λ i. is_member ((s.process i).standing m.id.group)) (sym (eqb-true j k same)) ∙ member))
    by_serial m ready false other =
        ap (λ b. if b
        then record (s.process j) { time = join (s.process j).time m.times; delivered = (s.process j).delivered ++ m.id ∷ [] }
        else s.process k) other

    found : (o : Option Message) → find (is_ready_for s j) s.got ≡ o →
        StaysIdle s (elim o as (λ _. State) [ Some m ↦ delivering_one s j m | None ↦ s ]) k
    found (Some m) is =
        let same = by_serial m (found_passes (is_ready_for s j) s.got m is) (j == k) refl in
        let told = tells_told_if (with_delivery s j m) j (told_of m.id m.body) in record {
          delivered = (alike_delivering s j m).delivered k ∙ ap (λ p. p.delivered) same;
          outside = λ none g. false_from_ne_true (is_member (((delivering_one s j m).process k).standing g)) (λ member.
              false≢true (sym (none g) ∙ ap (λ p. is_member (p.standing g)) (sym same) ∙ told.members k g member));
        }
    found None is = record { delivered = refl; outside = λ none. none }

idle_turns : (n j : ℕ) (s : State) (k : ℕ) → IsNoMember s k → StaysIdle s (iterate n (deliver_first j) s) k
idle_turns zero j s k out = record { delivered = refl; outside = λ none. none }
idle_turns (suc n) j s k out =
    let first = idle_first s k j out in
    stays_then s (deliver_first j s) (iterate n (deliver_first j) (deliver_first j s))
    k first (idle_turns n j (deliver_first j s) k (first.outside out))

idle_settle : (ks : List ℕ) (s : State) (k : ℕ) → IsNoMember s k → StaysIdle s (fold deliver_all s ks) k
idle_settle [] s k out = record { delivered = refl; outside = λ none. none }
idle_settle (j ∷ ks) s k out =
    let all = idle_turns (length s.got) j s k out in
    stays_then s (deliver_all s j) (fold deliver_all (deliver_all s j) ks) k all (idle_settle ks (deliver_all s j) k (all.outside out))

-- set-order messages are sent, and nobody delivers
idle_order_by : (s : State) (g : GroupNo) (j k : ℕ) → ((set_order_by s g j).process k).delivered ≡ (s.process k).delivered
idle_order_by s g j k =
    let content : Body = body.Order (places_of s g j) in
    subst (λ (t : State). (t.process k).delivered ≡ (s.process k).delivered) (sym (set_order_is s g j))
    (elim (may_set_order s g j)
    as (λ b. ((if b then let_go (sending s g j content) else s).process k).delivered ≡ (s.process k).delivered) [
      | true ↦ (alike_sending s g j content).delivered k
      | false ↦ refl
    ])

idle_holders : (g : GroupNo) (js : List ℕ) (s : State) (k : ℕ) →
    ((fold (λ t j. set_order_by t g j) s js).process k).delivered ≡ (s.process k).delivered
idle_holders g [] s k = refl
idle_holders g (j ∷ js) s k = idle_holders g js (set_order_by s g j) k ∙ idle_order_by s g j k

idle_order : (s : State) (g : GroupNo) (k : ℕ) → ((set_order s g).process k).delivered ≡ (s.process k).delivered
idle_order s g k = idle_holders g (holders s g) s k

idle_orders : (gs : List GroupNo) (s : State) (k : ℕ) → ((fold set_order s gs).process k).delivered ≡ (s.process k).delivered
idle_orders [] s k = refl
idle_orders (g ∷ gs) s k = idle_orders gs (set_order s g) k ∙ idle_order s g k

idle_pass : (s : State) → pendings (pass s) ≡ pendings s → (k : ℕ) → IsNoMember s k →
    ((pass s).process k).delivered ≡ (s.process k).delivered
idle_pass s as_many k out =
    let t : State = settle s in
    let u : State = set_orders t in
    let v : State = go_on_all history resting u in
    ap (λ (p : Process). p.delivered) ((same_lead v).process k)
    ∙ (elim (goes_on u).way [
      | inl fewer ↦
          let first = never_more s t (moves_settle s) in
          let second = never_more t u (moves_set_orders t) in
          let last = never_more v (pass s) (moves_lead v) in
          absurd (omega (arith, as_many, fewer, first, second, last))
      | inr alike ↦ alike.delivered k
    ])
    ∙ idle_orders t.config.groups t k
    ∙ (idle_settle (serials s) s k out).delivered

-- what goes on no longer is the same
no_more : (before after : List Message) → GoesOn before after → length after ≡ length before → after ≡ before
no_more before after (more, is) same = is ∙ at more (let long = ap length is ∙ length-append before more in omega (arith, long, same))
  where
    at : (xs : List Message) → length xs ≡ 0 → before ++ xs ≡ before
    at [] none = append-nil before
    at (x ∷ xs) some = absurd (omega (arith, some))

-- Histories of the same messages and records

-- they have the same to do, where one goes on from the other
pub same_to_do : (r : Records) (s t : State) → Fits r s → Fits r t → Goes s t →
    ((k : ℕ) → IsNoMember s k → (t.process k).delivered ≡ (s.process k).delivered) → t.got ≡ s.got → to_do t ≡ to_do s
same_to_do r s t a b goes idle got = λ i. undelivered_same i + ranks_same i + (used_same i + 1) * lists_same i
  where
    here_same : t.here ≡ s.here
    here_same = sym (ap (λ c. c.site) b.core) ∙ (ap (λ c. c.site) a.core)

    used_same : t.used ≡ s.used
    used_same = sym (ap (λ c. c.used) b.core) ∙ (ap (λ c. c.used) a.core)

    named_same : (k : ℕ) → process_named t (local s k) ≡ t.process k
    named_same k = ap (λ h. process_named t (record { site = h; serial = k })) (sym here_same) ∙ process_here t k

    -- the same row tells what either process delivered in views that have not ended, and what it delivered before stays; who has no
    -- row is in no group, and delivered nothing more
    has_same : (k : ℕ) (u : Uid) → has_delivered (t.process k) u ≡ has_delivered (s.process k) u
    has_same k u = elim (option_cases (row_of r.delay.rows (local s k))) [
      | inr (row, at) ↦ elim (cases_lt u.view (s.group u.group).number) [
        | inl old ↦ goes.ended k u old
        | inr stands ↦
            let number = goes.number u.group in
            ap (λ p. has_delivered p u) (sym (named_same k))
            ∙ sym (delivered_by t.config.groups (gate_of t) (process_named t) r.part.kept r.delay b.processes.delay (local s k)
            row at u (omega (arith, stands, number)))
            ∙ delivered_by s.config.groups (gate_of s) (process_named s) r.part.kept r.delay a.processes.delay (local s k)
            row at u (omega (arith, stands))
            ∙ ap (λ p. has_delivered p u) (process_here s k)
      ]
      | inl none ↦ ap (is_among uid_eq u) (idle k (member_of_none r s a k none))
    ]

    left_same : (k : ℕ) (got : List Message) → left_count (t.process k).delivered got ≡ left_count (s.process k).delivered got
    left_same k [] = refl
    left_same k (m ∷ got) = λ i. one_if (not (has_same k m.id i)) + left_same k got i

    undelivered_same : undelivered_count t ≡ undelivered_count s
    undelivered_same =
        (λ i. total (λ k. left_count (t.process k).delivered (got i)) (range_with_len 1 (used_same i)))
        ∙ total_same (λ k. left_count (t.process k).delivered s.got) (λ k. left_count (s.process k).delivered s.got)
        (range_with_len 1 s.used) (λ k. left_same k s.got)

    -- what is kept of the groups is the same
    records_same : map (record_for t) t.config.groups ≡ map (record_for s) s.config.groups
    records_same = sym b.groups ∙ a.groups

    ranks_in : (u : State) (gs : List GroupNo) →
        total (λ g. rank (u.home g)) gs ≡ total (λ (x : GroupRecord). rank x.home) (map (record_for u) gs)
    ranks_in u [] = refl
    ranks_in u (g ∷ gs) = ap (λ n. rank (u.home g) + n) (ranks_in u gs)

    ranks_same : ranks t ≡ ranks s
    ranks_same =
        ranks_in t t.config.groups
        ∙ ap (λ xs. total (λ (x : GroupRecord). rank x.home) xs) records_same
        ∙ sym (ranks_in s s.config.groups)

    -- one ABCAST is to come on both sides, or on neither, where the group is the same
    come_same : (g : GroupNo) → t.group g ≡ s.group g → (k : ℕ) (ms : List Message) →
        filter (is_to_come t g k) ms ≡ filter (is_to_come s g k) ms
    come_same g same k [] = refl
    come_same g same k (m ∷ ms) =
        λ i.
        filter_step ((group_eq m.id.group g && (m.id.view == (same i).number)) && (is_atomic (kind_of m.body) && not (has_same k m.id i)))
        m (come_same g same k ms i)
      where
        filter_step : Bool → Message → List Message → List Message
        filter_step x y ys = if x then y ∷ ys else ys

    -- what processes here have to list is the same
    noted_same : (k : ℕ) → t.abcasts k ≡ s.abcasts k
    noted_same k = goes.noted k (has_same k)

    list_same : (g : GroupNo) → t.group g ≡ s.group g → to_list_in t g ≡ to_list_in s g
    list_same g same =
        (λ i. total (to_list_by t g) (range_with_len 1 (used_same i)))
        ∙ total_same (to_list_by t g) (to_list_by s g) (serials s)
        (λ k i.
        listing (same i).number (noted_same k i) (got i) + length (((λ j. filter (is_to_come t g k) (got j)) ∙ come_same g same k s.got) i))
      where
        listing : ℕ → List Uid → List Message → ℕ
        listing n abcasts ms =
            length (still_to_list (map entry_of (filter (λ u. group_eq u.group g && (u.view == n)) abcasts))
            (known_order (flat_map (λ m. told_by m.body) (filter (λ m. group_eq m.id.group g && (m.id.view == n)) ms))))

    lists_in : (gs : List GroupNo) → map (record_for t) gs ≡ map (record_for s) gs → total (to_list_in t) gs ≡ total (to_list_in s) gs
    lists_in [] same = refl
    lists_in (g ∷ gs) same =
        let first : record_for t g ≡ record_for s g = cc in
        let rest : map (record_for t) gs ≡ map (record_for s) gs = cc in
        λ i. list_same g (ap (λ (x : GroupRecord). x.here) first) i + lists_in gs rest i

    config_same : t.config ≡ s.config
    config_same = sym (ap (λ c. c.config) b.core) ∙ (ap (λ c. c.config) a.core)

    lists_same : to_list t ≡ to_list s
    lists_same =
        (λ i. total (to_list_in t) (config_same i).groups)
        ∙ lists_in s.config.groups ((λ i. map (record_for t) (sym config_same i).groups) ∙ records_same)

-- and as many Wants still to be owed
same_unowed : (r : Records) (s t : State) → Fits r s → Fits r t → unowed_count t ≡ unowed_count s
same_unowed r s t a b =
    (λ i. total (unowed_in t) (config_same i).groups)
    ∙ unowed_groups s.config.groups ((λ i. map (record_for t) (sym config_same i).groups) ∙ (sym b.groups ∙ a.groups))
  where
    config_same : t.config ≡ s.config
    config_same = sym (ap (λ c. c.config) b.core) ∙ (ap (λ c. c.config) a.core)

    owed_same : t.owed ≡ s.owed
    owed_same = sym (ap (λ c. c.owed) b.core) ∙ (ap (λ c. c.owed) a.core)

    site_same : (g : GroupNo) → t.group g ≡ s.group g → site_unowed t g ≡ site_unowed s g
    site_same g same = λ i. elim (same i).pending as (λ _. ℕ) [
      | Some p ↦
          total (λ e. one_if (not (is_owed (owed_same i) (message_key Want (uid_in g (same i).number e) (config_same i).home))))
          (covered_entries p.cut)
      | None ↦ 0
    ]

    unowed_groups : (gs : List GroupNo) → map (record_for t) gs ≡ map (record_for s) gs → total (unowed_in t) gs ≡ total (unowed_in s) gs
    unowed_groups [] same = refl
    unowed_groups (g ∷ gs) same =
        let first : record_for t g ≡ record_for s g = cc in
        let rest : map (record_for t) gs ≡ map (record_for s) gs = cc in
        let home : t.home g ≡ s.home g = ap (λ (x : GroupRecord). x.home) first in
        λ i. (total (λ w. one_if (not (is_owed (owed_same i) (want_key g w)))) (wants_in g (home i) (home i).phase)
        + site_same g (ap (λ (x : GroupRecord). x.here) first) i) + unowed_groups gs rest i

-- as many Installs wait
same_pendings : (r : Records) (s t : State) → Fits r s → Fits r t → pendings t ≡ pendings s
same_pendings r s t a b =
    (λ i. total (λ g. one_if (is_pending (t.group g))) (config_same i).groups)
    ∙ in_groups s.config.groups ((λ i. map (record_for t) (sym config_same i).groups) ∙ (sym b.groups ∙ a.groups))
  where
    config_same : t.config ≡ s.config
    config_same = sym (ap (λ c. c.config) b.core) ∙ (ap (λ c. c.config) a.core)

    in_groups : (gs : List GroupNo) → map (record_for t) gs ≡ map (record_for s) gs →
        total (λ g. one_if (is_pending (t.group g))) gs ≡ total (λ g. one_if (is_pending (s.group g))) gs
    in_groups [] same = refl
    in_groups (g ∷ gs) same =
        let first : record_for t g ≡ record_for s g = cc in
        let rest : map (record_for t) gs ≡ map (record_for s) gs = cc in
        λ i. one_if (is_pending (ap (λ (x : GroupRecord). x.here) first i)) + in_groups gs rest i

-- records that a pass leaves as they are stand at rest
pub still_pass : (r : Records) (s : State) → Fits r s → IsLawful s → Fits r (pass s) → pass s ≡ s
still_pass r s before lawful after = elim (moves_pass s).way [
  | inl same ↦ same
  | inr (inl fewer) ↦ let same = same_pendings r s (pass s) before after in absurd (omega (arith, fewer, same))
  | inr (inr (as_many, inl less)) ↦
      let goes : Goes s (pass s) = goes_pass s as_many in
      let got : (pass s).got ≡ s.got = no_more s.got (pass s).got goes.got (sym after.messages.counted ∙ before.messages.counted) in
      let same = same_to_do r s (pass s) before after goes (idle_pass s as_many) got in absurd (omega (arith, less, same))
  | inr (inr (as_many, inr fewer)) ↦
      let less = fewer.1 in let same = same_unowed r s (pass s) before after in absurd (omega (arith, less, same))
]
