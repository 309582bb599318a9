-- Messages that are settled are ready for no row, and stay settled.
use Rattle.std.proofs.Common.{◌≡◌, ℕ, zero, suc, ◌≤◌, Bool, true, false, cond, not, ◌&&◌, ◌||◌, List, [], ◌∷◌, ◌++◌, length}
use Rattle.std.proofs.Common.{length-append, take, filter, Option, Some, None, unwrap_or, refl, sym, ap, subst, ◌∙◌, inl, inr, arith}
use Rattle.std.specs.Prelude.{◌==◌, nat_lt, nat_le, if◌then◌else◌}
use Rattle.std.specs.List as list
use Rattle.std.specs.Option.{option_map, option_and_then}
use Rattle.std.specs.Ordering.{eq_by_cmp}
use Rattle.std.specs.FinMap.Entries.{find, put, find-put}
use Rattle.std.proofs.lemmas.Bool.{cases_Bool, false≢true, false_from_ne_true, not-true, not_from_false, and_parts, and_from}
use Rattle.std.proofs.lemmas.Bool.{or_cases, or_left, or_right, or_parts, eq-eqb, lt-ltb, leb-true, ltb-false, le-ltb}
use Rattle.cast_types.specs.declared.names.GroupNo.{GroupNo}
use Rattle.cast_types.specs.declared.names.Proc.{Proc}
use Rattle.cast_types.specs.declared.names.Key.{Key}
use Rattle.cast_types.specs.declared.names.Uid.{Uid}
use Rattle.cast_types.specs.Names.{group_cmp, group_eq, proc_eq}
use Rattle.cast_types.specs.Stamps.{ClockList}
use Rattle.cast_types.specs.Sources.{source, source_cmp}
use Rattle.cast_types.proofs.Orders.{same_group, tie_same}
use Rattle.cast_types.proofs.Sources.{source_total, source_exact}
use Rattle.cast_message.specs.Receipts.{key_eq}
use Rattle.cast_ready.specs.DeliveredCounts.{count_at}
use Rattle.cast_types.proofs.Rising.{all_kept}
use Rattle.cast_ready.specs.declared.gate.Gate.{Gate}
use Rattle.cast_ready.specs.declared.row.Row.{Row}
use Rattle.cast_ready.specs.declared.row.ProcessUpdate.{ProcessUpdate}
use Rattle.cast_ready.specs.declared.row.ProcessUpdate.TheVariants as fact
use Rattle.cast_ready.specs.declared.offered.Offered.{Offered}
use Rattle.cast_ready.specs.declared.turn.Turn.{Turn}
use Rattle.cast_ready.specs.Ready.{is_member, open_gate}
use Rattle.cast_ready.specs.Rows.{gate_in, standing_in, done_in, is_causally_ready_row}
use Rattle.cast_ready.specs.Rows.{is_ready_row, awaits_row, delivered_row, told_row, new_row}
use Rattle.cast_delay.specs.Queue.{Queue, next_key, candidate_for, candidate_in, row_of, but_row, change_row}
use Rattle.cast_delay.specs.Queue.{first_for, is_awaited, offered_under, after_delivery, but_offered}
use Rattle.cast_delay.specs.Offers.{none_of}
use Rattle.cast_delay.specs.Settled.{is_settled, AreSettled, despite_fact, is_next_of, despite_delivery}
use Rattle.cast_delay.proofs.ListLemmas.{list_any-append}
use Rattle.cast_delay.proofs.Finds.{found_any, put_at_group}
use Rattle.cast_delay.proofs.Delivers.{ready_parts}
use Rattle.cast_delay.proofs.Behind.{only_causally}

-- Lists

all_weaker : {A : Type 0} (s t : A → Bool) → ((x : A) → s x ≡ true → t x ≡ true) → (xs : List A) → list.list_all s xs ≡ true →
    list.list_all t xs ≡ true
all_weaker s t weaker [] all = refl
all_weaker s t weaker (x ∷ xs) all =
    let parts = and_parts (s x) (list.list_all s xs) all in
    and_from (t x) (list.list_all t xs) (weaker x parts.0) (all_weaker s t weaker xs parts.1)

-- what is kept of the first n items stands first among all that are kept
kept_first : {A : Type 0} (keep : A → Bool) (xs : List A) (n : ℕ) →
    take (length (filter keep (take n xs))) (filter keep xs) ≡ filter keep (take n xs)
kept_first keep [] zero = refl
kept_first keep [] (suc n) = refl
kept_first keep (x ∷ xs) zero = refl
kept_first keep (x ∷ xs) (suc n) =
    elim (keep x) as (λ b. take (length (cond b (x ∷ filter keep (take n xs)) (filter keep (take n xs))))
    (cond b (x ∷ filter keep xs) (filter keep xs)) ≡ cond b (x ∷ filter keep (take n xs)) (filter keep (take n xs))) [
      | true ↦ ap (λ rest. x ∷ rest) (kept_first keep xs n)
      | false ↦ kept_first keep xs n
    ]

kept_within : {A : Type 0} (keep : A → Bool) (xs : List A) (n : ℕ) → length (filter keep (take n xs)) ≤ length (filter keep xs)
kept_within keep [] zero = omega arith
kept_within keep [] (suc n) = omega arith
kept_within keep (x ∷ xs) zero = omega arith
kept_within keep (x ∷ xs) (suc n) =
    elim (keep x) as (λ b.
    length (cond b (x ∷ filter keep (take n xs)) (filter keep (take n xs))) ≤ length (cond b (x ∷ filter keep xs) (filter keep xs))) [
      | true ↦ omega (arith, kept_within keep xs n)
      | false ↦ kept_within keep xs n
    ]

-- Readiness

module _ (gates : List (GroupNo × Gate)) (rows : List Row) (p : Proc) (row : Row) (at : row_of rows p ≡ Some row) where
  -- what is settled is not causally ready for the row of a process
  pub not_ready : (o : Offered) → is_settled gates rows o ≡ true → is_causally_ready_row gates row o.id o.times ≡ false
  not_ready o settled = elim (cases_Bool (is_causally_ready_row gates row o.id o.times)) [
    | inr not_so ↦ not_so
    | inl ready ↦
        let parts = ready_parts gates row o.id o.times ready in
        let number = (gate_in gates o.id.group).number in
        let current = eq-eqb o.id.view number parts.current in
        let waits : awaits_row row o.id ≡ true =
        and_from (is_member (standing_in row o.id.group)) (nat_lt (done_in row o.id.group o.id.view o.id.proc) o.id.count)
        (ap is_member parts.member) (lt-ltb (done_in row o.id.group o.id.view o.id.proc) o.id.count parts.fresh) in
        let awaited : is_awaited rows o.id ≡ true = found_any (λ r. awaits_row r o.id) (λ r. proc_eq r.process p) rows row at waits in
        elim (or_cases (not (o.id.view == number)) (not (is_awaited rows o.id)) settled) [
          | inl other ↦ absurd (false≢true (ap not (sym current) ∙ other))
          | inr none ↦ absurd (false≢true (ap not (sym awaited) ∙ none))
        ]
  ]

  -- so none of the first messages is, where these are settled
  pub none_settled_ready : (offered : List Offered) (n : ℕ) → AreSettled gates rows offered n →
      none_of (λ o. is_causally_ready_row gates row o.id o.times) n offered ≡ true
  none_settled_ready offered n settled =
      all_weaker (is_settled gates rows) (λ o. not (is_causally_ready_row gates row o.id o.times))
      (λ o is. not_from_false (is_causally_ready_row gates row o.id o.times) (not_ready o is)) (take n offered) settled.each

  pub none_settled_next : (turns : List (GroupNo × Turn)) (offered : List Offered) (n : ℕ) → AreSettled gates rows offered n →
      none_of (is_ready_row turns gates row) n offered ≡ true
  none_settled_next turns offered n settled =
      all_weaker (is_settled gates rows) (λ o. not (is_ready_row turns gates row o))
      (λ o is. not_from_false (is_ready_row turns gates row o) (false_from_ne_true (is_ready_row turns gates row o) (λ ready.
      false≢true (sym (not_ready o is) ∙ only_causally turns gates row o ready)))) (take n offered) settled.each

-- what a process may deliver is what its row may take
pub candidate_row : (q : Queue) (p : Proc) (row : Row) → row_of q.rows p ≡ Some row → candidate_for q.gates q.offered row ≡ candidate_in q p
candidate_row q p row at = sym (ap (λ (o : Option Row). option_and_then (candidate_for q.gates q.offered) o) at)

pub next_row : (q : Queue) (p : Proc) (row : Row) → row_of q.rows p ≡ Some row → (turns : List (GroupNo × Turn)) →
    option_map (λ o. o.key) (first_for turns q.gates q.offered row) ≡ next_key turns q p
next_row q p row at turns =
    ap (option_map (λ (o : Offered). o.key)) (sym (ap (λ (o : Option Row). option_and_then (first_for turns q.gates q.offered) o) at))

-- Changes

-- nothing is settled at first
pub none_settled : (gates : List (GroupNo × Gate)) (rows : List Row) (offered : List Offered) → AreSettled gates rows offered 0
none_settled gates rows offered = record { within = omega arith; each = refl }

-- where rows await no more, and groups have the same views
settled_still : (gates later : List (GroupNo × Gate)) → ((g : GroupNo) → (gate_in later g).number ≡ (gate_in gates g).number) →
    (rows others : List Row) → ((id : Uid) → is_awaited rows id ≡ false → is_awaited others id ≡ false) → (offered : List Offered) (n : ℕ) →
    AreSettled gates rows offered n → AreSettled later others offered n
settled_still gates later same rows others fewer offered n settled = record {
  within = settled.within;
  each = all_weaker (is_settled gates rows) (is_settled later others) one (take n offered) settled.each;
}
  where
    one : (o : Offered) → is_settled gates rows o ≡ true → is_settled later others o ≡ true
    one o is = elim (or_cases (not (o.id.view == (gate_in gates o.id.group).number)) (not (is_awaited rows o.id)) is) [
      | inl other ↦
          or_left (not (o.id.view == (gate_in later o.id.group).number)) (not (is_awaited others o.id))
          (ap (λ number. not (o.id.view == number)) (same o.id.group) ∙ other)
      | inr none ↦
          or_right (not (o.id.view == (gate_in later o.id.group).number)) (not (is_awaited others o.id))
          (ap not (fewer o.id (not-true (is_awaited rows o.id) none)))
    ]

-- a process is admitted
pub admit_settled : (gates : List (GroupNo × Gate)) (rows : List Row) (p : Proc) (offered : List Offered) (n : ℕ) →
    AreSettled gates rows offered n → AreSettled gates (rows ++ new_row p ∷ []) offered n
admit_settled gates rows p =
    settled_still gates gates (λ g. refl) rows (rows ++ new_row p ∷ [])
    (λ id none. list_any-append (λ (r : Row). awaits_row r id) rows (new_row p ∷ []) ∙ ap (λ b. b || (false || false)) none)

-- a process is dismissed
none_kept : (keep : Row → Bool) (id : Uid) (rows : List Row) → is_awaited rows id ≡ false → is_awaited (filter keep rows) id ≡ false
none_kept keep id [] none = refl
none_kept keep id (row ∷ rows) none =
    let parts = or_parts (awaits_row row id) (is_awaited rows id) none in
    let rest = none_kept keep id rows parts.1 in
    elim (keep row) as (λ b. is_awaited (cond b (row ∷ filter keep rows) (filter keep rows)) id ≡ false) [
      | true ↦ ap (λ b. b || is_awaited (filter keep rows) id) parts.0 ∙ rest
      | false ↦ rest
    ]

pub dismiss_settled : (gates : List (GroupNo × Gate)) (rows : List Row) (p : Proc) (offered : List Offered) (n : ℕ) →
    AreSettled gates rows offered n → AreSettled gates (but_row p rows) offered n
dismiss_settled gates rows p =
    settled_still gates gates (λ g. refl) rows (but_row p rows) (λ id. none_kept (λ r. not (proc_eq r.process p)) id rows)

tell_list : (p : Proc) (t : ClockList) (id : Uid) (rows : List Row) →
    is_awaited (change_row p (told_row (fact.Time t)) rows) id ≡ is_awaited rows id
tell_list p t id [] = refl
tell_list p t id (row ∷ rows) =
    elim (proc_eq row.process p) as (λ b. (awaits_row (cond b (told_row (fact.Time t) row) row) id
    || is_awaited (change_row p (told_row (fact.Time t)) rows) id) ≡ (awaits_row row id || is_awaited rows id)) [
      | true ↦ ap (λ b. awaits_row row id || b) (tell_list p t id rows)
      | false ↦ ap (λ b. awaits_row row id || b) (tell_list p t id rows)
    ]

-- a process takes in a fact
pub tell_settled : (gates : List (GroupNo × Gate)) (rows : List Row) (p : Proc) (f : ProcessUpdate) (offered : List Offered) (n : ℕ) →
    AreSettled gates rows offered n → AreSettled gates (change_row p (told_row f) rows) offered (despite_fact f n)
tell_settled gates rows p (fact.Standing g s) offered n settled =
    none_settled gates (change_row p (told_row (fact.Standing g s)) rows) offered
tell_settled gates rows p (fact.Time t) offered n settled =
    settled_still gates gates (λ g. refl) rows (change_row p (told_row (fact.Time t)) rows) (λ id none. tell_list p t id rows ∙ none)
    offered n settled

-- a row that delivers the next message of a source has delivered no less of any
module _ (id : Uid) (times : ClockList) (row : Row) (next : done_in row id.group id.view id.proc ≤ id.count) where
  no_less : (u : Uid) → done_in row u.group u.view u.proc ≤ done_in (delivered_row id times row) u.group u.view u.proc
  no_less u =
      let s = source u.group u.view u.proc in
      let t = source id.group id.view id.proc in
      let put_is : done_in (delivered_row id times row) u.group u.view u.proc
      ≡ unwrap_or (cond (eq_by_cmp source_cmp s t) (Some id.count) (find source_cmp s row.done)) 0 =
      ap (λ (o : Option ℕ). unwrap_or o 0) (find-put source_cmp source_total s t id.count row.done) in
      elim (cases_Bool (eq_by_cmp source_cmp s t)) [
        | inl tie ↦
            let same = ap (count_at row.done) (tie_same source_exact s t tie) in
            let is = put_is ∙ ap (λ b. unwrap_or (cond b (Some id.count) (find source_cmp s row.done)) 0) tie in
            omega (arith, is, same, next)
        | inr apart ↦
            let is = put_is ∙ ap (λ b. unwrap_or (cond b (Some id.count) (find source_cmp s row.done)) 0) apart in
            omega (arith, is)
      ]

  pub awaits_no_more : (u : Uid) → awaits_row row u ≡ false → awaits_row (delivered_row id times row) u ≡ false
  awaits_no_more u none = elim (cases_Bool (is_member (standing_in row u.group))) [
    | inl member ↦
        let has : nat_lt (done_in row u.group u.view u.proc) u.count ≡ false =
        sym (ap (λ b. b && nat_lt (done_in row u.group u.view u.proc) u.count) member) ∙ none in
        ap (λ b. b && nat_lt (done_in (delivered_row id times row) u.group u.view u.proc) u.count) member
        ∙ le-ltb (done_in (delivered_row id times row) u.group u.view u.proc)
        u.count (omega (arith, ltb-false (done_in row u.group u.view u.proc) u.count has, no_less u))
    | inr outside ↦ ap (λ b. b && nat_lt (done_in (delivered_row id times row) u.group u.view u.proc) u.count) outside
  ]

deliver_list : (p : Proc) (id : Uid) (times : ClockList) (u : Uid) (rows : List Row) → is_next_of p id rows ≡ true →
    is_awaited rows u ≡ false → is_awaited (change_row p (delivered_row id times) rows) u ≡ false
deliver_list p id times u [] next none = refl
deliver_list p id times u (row ∷ rows) next none =
    let parts = or_parts (awaits_row row u) (is_awaited rows u) none in
    let tests =
    and_parts (not (proc_eq row.process p) || nat_le (done_in row id.group id.view id.proc) id.count) (is_next_of p id rows) next in
    let rest = deliver_list p id times u rows tests.1 parts.1 in
    elim (cases_Bool (proc_eq row.process p)) [
      | inl own ↦
          let le : nat_le (done_in row id.group id.view id.proc) id.count ≡ true =
          sym (ap (λ b. not b || nat_le (done_in row id.group id.view id.proc) id.count) own) ∙ tests.0 in
          ap (λ b. awaits_row (cond b (delivered_row id times row) row) u || is_awaited (change_row p (delivered_row id times) rows) u) own
          ∙ ap (λ b. b || is_awaited (change_row p (delivered_row id times) rows) u)
          (awaits_no_more id times row (leb-true (done_in row id.group id.view id.proc) id.count le) u parts.0)
          ∙ rest
      | inr other ↦
          ap (λ b. awaits_row (cond b (delivered_row id times row) row) u || is_awaited (change_row p (delivered_row id times) rows) u)
          other
          ∙ ap (λ b. b || is_awaited (change_row p (delivered_row id times) rows) u) parts.0
          ∙ rest
    ]

-- a process delivers the message under a key
pub deliver_settled : (gates : List (GroupNo × Gate)) (rows : List Row) (offered : List Offered) (p : Proc) (key : Key) (n : ℕ) →
    AreSettled gates rows offered n → AreSettled gates (after_delivery offered p key rows) offered (despite_delivery offered p key rows n)
deliver_settled gates rows offered p key n settled = at (offered_under offered key)
  where
    at : (o : Option Offered) → AreSettled gates (elim o [ Some o ↦ change_row p (delivered_row o.id o.times) rows | None ↦ rows ])
        offered (elim o [ Some o ↦ if is_next_of p o.id rows then n else 0 | None ↦ n ])
    at None = settled
    at (Some o) = elim (cases_Bool (is_next_of p o.id rows)) [
      | inl next ↦ subst (λ b. AreSettled gates (change_row p (delivered_row o.id o.times) rows) offered (if b then n else 0)) (sym next)
          (settled_still gates gates (λ g. refl) rows (change_row p (delivered_row o.id o.times) rows)
          (λ u none. deliver_list p o.id o.times u rows next none) offered n settled)
      | inr other ↦ subst (λ b. AreSettled gates (change_row p (delivered_row o.id o.times) rows) offered (if b then n else 0)) (sym other)
          (none_settled gates (change_row p (delivered_row o.id o.times) rows) offered)
    ]

-- a group has another gate with the same number
pub gate_number : (gates : List (GroupNo × Gate)) (g : GroupNo) (gate : Gate) → gate.number ≡ (gate_in gates g).number → (h : GroupNo) →
    (gate_in (put group_cmp g gate gates) h).number ≡ (gate_in gates h).number
gate_number gates g gate same h =
    ap (λ (x : Gate). x.number) (put_at_group gates g h gate (open_gate 0))
    ∙ elim (cases_Bool (group_eq g h)) [
      | inl own ↦
          ap (λ b. (if b then gate else gate_in gates h).number) own ∙ same ∙ ap (λ k. (gate_in gates k).number) (same_group g h own)
      | inr other ↦ ap (λ b. (if b then gate else gate_in gates h).number) other
    ]

pub gate_settled : (gates : List (GroupNo × Gate)) (g : GroupNo) (gate : Gate) → gate.number ≡ (gate_in gates g).number →
    (rows : List Row) (offered : List Offered) (n : ℕ) → AreSettled gates rows offered n →
    AreSettled (put group_cmp g gate gates) rows offered n
gate_settled gates g gate same rows =
    settled_still gates (put group_cmp g gate gates) (gate_number gates g gate same) rows rows (λ id none. none)

-- a message is forgotten
pub forget_settled : (gates : List (GroupNo × Gate)) (rows : List Row) (offered : List Offered) (key : Key) (n : ℕ) →
    AreSettled gates rows offered n → AreSettled gates rows (but_offered key offered) (length (but_offered key (take n offered)))
forget_settled gates rows offered key n settled =
    let keep : Offered → Bool = λ o. not (key_eq o.key key) in
    record {
      within = kept_within keep offered n;
      each = ap (list.list_all (is_settled gates rows)) (kept_first keep offered n)
          ∙ all_kept (is_settled gates rows) keep (take n offered) settled.each;
    }

-- a message comes
pub offer_settled : (gates : List (GroupNo × Gate)) (rows : List Row) (offered : List Offered) (o : Offered) (n : ℕ) →
    AreSettled gates rows offered n → AreSettled gates rows (offered ++ o ∷ []) n
offer_settled gates rows offered o n settled = record {
  within = omega (arith, settled.within, length-append offered (o ∷ []));
  each = ap (list.list_all (is_settled gates rows)) (take_append offered (o ∷ []) n settled.within) ∙ settled.each;
}
  where
    take_append : (xs ys : List Offered) (m : ℕ) → m ≤ length xs → take m (xs ++ ys) ≡ take m xs
    take_append xs ys zero within = take_none (xs ++ ys) ∙ sym (take_none xs)
      where
        take_none : (zs : List Offered) → take 0 zs ≡ []
        take_none [] = refl
        take_none (z ∷ zs) = refl
    take_append [] ys (suc m) within = absurd (omega (arith, within))
    take_append (x ∷ xs) ys (suc m) within = ap (λ rest. x ∷ rest) (take_append xs ys m (omega (arith, within)))
