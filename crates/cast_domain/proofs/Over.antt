-- What is over of a group's order stays over.
use Rattle.std.proofs.Common.{◌≡◌, ℕ, zero, suc, ◌<◌, ◌≤◌, max, Bool, true, false, cond, List, [], ◌∷◌}
use Rattle.std.proofs.Common.{Some, unwrap_or, Less, Equal, Greater, refl, sym, ap, subst, ◌∙◌, arith}
use Rattle.std.specs.Prelude.{◌==◌, ◌||◌, IsTrue, if◌then◌else◌, take, filter}
use Rattle.std.specs.List.{list_any}
use Rattle.std.specs.Ordering.{nat_cmp, eq_by_cmp, MatchOrdering}
use Rattle.std.specs.FinMap.Entries.{find, put, is_sorted, find-put}
use Rattle.std.proofs.lemmas.Bool.{false≢true, false_from_ne_true, or_left, eqb-true}
use Rattle.std.proofs.lemmas.Cmp.{ranked}
use Rattle.std.proofs.lemmas.List.Folds.{list_any-append}
use Rattle.cast_types.specs.declared.names.GroupNo.{GroupNo}
use Rattle.cast_types.specs.declared.names.Proc.{Proc}
use Rattle.cast_types.specs.declared.names.Uid.{Uid}
use Rattle.cast_types.specs.declared.clock.Clock.{Clock}
use Rattle.cast_types.specs.Names.{Entry, group_cmp, proc_cmp, uid_eq, entry_eq, uid_in}
use Rattle.cast_types.specs.Sets.{is_among, at_order}
use Rattle.cast_types.specs.Counts.{CountList, count_of}
use Rattle.cast_types.specs.Stamps.{ClockList}
use Rattle.cast_types.proofs.Orders.{proc_total, proc_exact, tie_same, same_uid}
use Rattle.cast_clock.specs.Times.{clock_of, view_of, count_in, join_counts, join_clocks, join}
use Rattle.cast_clock.proofs.Joins.{clock_of-join}
use Rattle.cast_ready.specs.Ready.{Process, is_member}
use Rattle.cast_message.specs.declared.message.Message.{Message}
use Rattle.cast_order.specs.Log.{Log}
use Rattle.cast_rules.specs.State.{State, local, is_received, receiving, set_process}
use Rattle.cast_domain.specs.Fits.{is_still_kept, IsOver}

-- what is over in one history is over in another, where a log has forgotten something
abbrev pub StaysOver : State → State → GroupNo → Log → Type 0
StaysOver s t g l = 0 < l.base → (e : Entry) → IsOver s g e → IsOver t g e

-- what is not kept in one history is not kept in another
abbrev pub KeepsNoMore : State → State → Type 0
KeepsNoMore s t = (u : Uid) → is_still_kept s u ≡ false → is_still_kept t u ≡ false

-- a member of a group was one, and counts no fewer of its own messages
pub record CountsOn (before now : Process) (g : GroupNo) (p : Proc) : Type 0 where
  pub member : is_member (before.standing g) ≡ true
  pub counts : count_in before.time g p ≤ count_in now.time g p

abbrev pub AllCountOn : State → State → GroupNo → Type 0
AllCountOn s t g = (k : ℕ) → is_member ((t.process k).standing g) ≡ true → CountsOn (s.process k) (t.process k) g (local s k)

-- so it is where the same was received, no more is kept, and members count on
pub over_alike : (s t : State) (g : GroupNo) → t.here ≡ s.here → (t.group g).number ≡ (s.group g).number → t.got ≡ s.got → KeepsNoMore s t →
    AllCountOn s t g → (e : Entry) → IsOver s g e → IsOver t g e
over_alike s t g here number got kept members e over = record {
  received = (λ i. list_any (λ m. uid_eq m.id (uid_in g (number i) e)) (got i)) ∙ over.received;
  let_go = ap (λ n. is_still_kept t (uid_in g n e)) number ∙ kept (uid_in g (s.group g).number e) over.let_go;
  counted = λ k member is.
      let on = members k member in
      let before : e.1 ≤ count_in (s.process k).time g (local s k) =
      over.counted k on.member (is ∙ (λ i. record { site = here i; serial = k })) in
      let after = on.counts in
      subst (λ x. e.1 ≤ count_in (t.process k).time g (record { site = x; serial = k })) (sym here) (omega (arith, before, after));
}

-- processes that are what they were
pub all_stay : (s : State) (g : GroupNo) → AllCountOn s s g
all_stay s g k member = record { member = member; counts = omega arith }

-- one process changed, which is a member of no group of which it was none, and counts on where it is one
pub one_counts_on : (s : State) (k : ℕ) (v : Process) (g : GroupNo) →
    (is_member (v.standing g) ≡ true → CountsOn (s.process k) v g (local s k)) → AllCountOn s (set_process s k v) g
one_counts_on s k v g one j = at (k == j) (eqb-true k j)
  where
    at : (b : Bool) → (b ≡ true → k ≡ j) → is_member ((if b then v else s.process j).standing g) ≡ true →
        CountsOn (s.process j) (if b then v else s.process j) g (local s j)
    at true is member = subst (λ x. CountsOn (s.process x) v g (local s x)) (is refl) (one member)
    at false is member = record { member = member; counts = omega arith }

-- a member that delivers a message counts no fewer of its own
abbrev pub CountsOnIn : State → ℕ → Message → GroupNo → Type 0
CountsOnIn s k m g =
    is_member ((s.process k).standing g) ≡ true →
    count_in (s.process k).time g (local s k) ≤ count_in (join (s.process k).time m.times) g (local s k)

-- Messages that come

-- a message that was not received is none that is over
pub none_over : (s : State) (g : GroupNo) (u : Uid) → is_received s u ≡ false → (e : Entry) → IsOver s g e →
    uid_eq u (uid_in g (s.group g).number e) ≡ false
none_over s g u new e over = false_from_ne_true (uid_eq u (uid_in g (s.group g).number e)) (λ same.
    false≢true (sym new ∙ ap (is_received s) (same_uid u (uid_in g (s.group g).number e) same) ∙ over.received))

-- and where another message is received, what is over is over still
pub over_received : (s : State) (m : Message) (g : GroupNo) (e : Entry) → uid_eq m.id (uid_in g (s.group g).number e) ≡ false →
    IsOver s g e → IsOver (receiving s m) g e
over_received s m g e other over =
    let u : Uid = uid_in g (s.group g).number e in
    let last : list_any (λ (x : Message). uid_eq x.id u) (m ∷ []) ≡ false = ap (λ b. b || false) other in
    record {
      received = list_any-append (λ (x : Message). uid_eq x.id u) s.got (m ∷ [])
          ∙ or_left (is_received s u) (list_any (λ (x : Message). uid_eq x.id u) (m ∷ [])) over.received;
      let_go = list_any-append (λ (x : Message). uid_eq x.id u) s.kept (m ∷ []) ∙ (λ i. over.let_go i || last i);
      counted = over.counted;
    }

-- what a log that forgot nothing has forgotten
pub some_forgotten : (n : ℕ) (order : List Entry) (e : Entry) → is_among entry_eq e (take n order) ≡ true → 0 < n
some_forgotten zero order e among = absurd (false≢true among)
some_forgotten (suc n) order e among = omega arith

-- what is let go is kept no longer
pub keeps_fewer : (test : Message → Bool) (kept : List Message) (u : Uid) → list_any (λ (m : Message). uid_eq m.id u) kept ≡ false →
    list_any (λ (m : Message). uid_eq m.id u) (filter test kept) ≡ false
keeps_fewer test [] u none = refl
keeps_fewer test (m ∷ kept) u none =
    let here : uid_eq m.id u ≡ false =
    false_from_ne_true (uid_eq m.id u)
    (λ is. false≢true (sym none ∙ or_left (uid_eq m.id u) (list_any (λ (x : Message). uid_eq x.id u) kept) is)) in
    let later : list_any (λ (x : Message). uid_eq x.id u) kept ≡ false =
    sym (ap (λ b. b || list_any (λ (x : Message). uid_eq x.id u) kept) here) ∙ none in
    elim (test m) as (λ b. list_any (λ (x : Message). uid_eq x.id u) (cond b (m ∷ filter test kept) (filter test kept)) ≡ false) [
      | true ↦ ap (λ b. b || list_any (λ (x : Message). uid_eq x.id u) (filter test kept)) here ∙ keeps_fewer test kept u later
      | false ↦ keeps_fewer test kept u later
    ]

-- Times that are joined

-- a join counts no fewer
put_counts : (c : CountList) (p q : Proc) (n : ℕ) → count_of c p ≤ count_of (put proc_cmp q (max (count_of c q) n) c) p
put_counts c p q n =
    let v : ℕ = max (count_of c q) n in
    subst (λ o. count_of c p ≤ unwrap_or o 0) (sym (find-put proc_cmp proc_total p q v c))
    (elim (eq_by_cmp proc_cmp p q) as (λ b. eq_by_cmp proc_cmp p q ≡ b → count_of c p ≤ unwrap_or (cond b (Some v) (find proc_cmp p c)) 0) [
      | true ↦ λ tie. let same : count_of c p ≡ count_of c q = ap (count_of c) (tie_same proc_exact p q tie) in omega (arith, same)
      | false ↦ λ _. omega arith
    ] refl)

joined_counts : (c d : CountList) (p : Proc) → count_of c p ≤ count_of (join_counts c d) p
joined_counts c [] p = omega arith
joined_counts c (e ∷ d) p =
    let first = put_counts c p e.0 e.1 in
    let rest = joined_counts (put proc_cmp e.0 (max (count_of c e.0) e.1) c) d p in
    omega (arith, first, rest)

joined_clocks : (a b : Clock) (p : Proc) → (join_clocks a b).view ≡ a.view → count_of a.counts p ≤ count_of (join_clocks a b).counts p
joined_clocks a b p =
    elim (nat_cmp a.view b.view) as (λ o. MatchOrdering o (a.view < b.view) (a.view ≡ b.view) (b.view < a.view) →
    (at_order o b (record { view = a.view; counts = join_counts a.counts b.counts }) a).view ≡ a.view →
    count_of a.counts p ≤ count_of (at_order o b (record { view = a.view; counts = join_counts a.counts b.counts }) a).counts p) [
      | Less ↦ λ less same. absurd (omega (arith, less, same))
      | Equal ↦ λ _ _. joined_counts a.counts b.counts p
      | Greater ↦ λ _ _. omega arith
    ] (ranked a.view b.view (nat_cmp a.view b.view) refl)

-- and so in a view that stays
pub join_counts_on : (s t : ClockList) (g : GroupNo) (p : Proc) → IsTrue (is_sorted group_cmp t) → view_of (join s t) g ≡ view_of s g →
    count_in s g p ≤ count_in (join s t) g p
join_counts_on s t g p sorted stays =
    let at = clock_of-join s t g sorted in
    subst (λ (c : Clock). c.view ≡ (clock_of s g).view → count_of (clock_of s g).counts p ≤ count_of c.counts p) (sym at)
    (joined_clocks (clock_of s g) (clock_of t g) p) stays
