-- What was looked at of the messages stays known: processes come, go, take in facts and deliver,
-- and messages come and go.
-- A queue notes up to which key it has looked for a process, so that it need not look again. The
-- lemmas ending in `_looked` say that each change keeps these notes true, and `unseen_seen` that
-- what need not be looked at was seen. A change after which a process may be ready for more drops
-- the notes of that process; each other change leaves the rows awaiting what they awaited.
use Rattle.std.proofs.Common.{◌≡◌, ◌⊎◌, ℕ, ◌+◌, Bool, true, false, cond, not, ◌&&◌, List, [], ◌∷◌, ◌++◌, take, filter}
use Rattle.std.proofs.Common.{Contains, Option, Some, None, Ok, Err, unwrap_or, refl, sym, ap, subst, ◌∙◌, inl, inr, arith}
use Rattle.std.specs.Prelude.{nat_lt, nat_le, ◌==◌, if◌then◌else◌, Result, IfSome, OnOk, OnErr}
use Rattle.std.specs.List.{list_all}
use Rattle.std.specs.Option.{option_map, option_and_then}
use Rattle.std.specs.Ordering.{eq_by_cmp}
use Rattle.std.specs.FinMap.Entries as entries
use Rattle.std.proofs.lemmas.Bool.{cases_Bool, false≢true, false_from_ne_true, not-true, not-false}
use Rattle.std.proofs.lemmas.Bool.{and_parts, and_from, or_cases, ltb-true, ltb-false, leb-true, eqb-true}
use Rattle.std.proofs.lemmas.Option.{cond_some, same_Some}
use Rattle.cast_types.specs.declared.names.GroupNo.{GroupNo}
use Rattle.cast_types.specs.declared.names.Proc.{Proc}
use Rattle.cast_types.specs.declared.names.Key.{Key}
use Rattle.cast_types.specs.declared.names.Uid.{Uid}
use Rattle.cast_types.specs.declared.source.Source.{Source}
use Rattle.cast_types.specs.Names.{group_cmp, proc_eq}
use Rattle.cast_types.specs.Stamps.{ClockList}
use Rattle.cast_types.specs.Sources.{source_cmp, source_of}
use Rattle.cast_types.proofs.Contains.{contains_here, contains_later}
use Rattle.cast_types.proofs.Orders.{same_proc, tie_same, tie_self}
use Rattle.cast_types.proofs.Sources.{source_total, source_exact}
use Rattle.cast_clock.proofs.Entries.{option_cases}
use Rattle.cast_message.specs.Receipts.{key_eq}
use Rattle.cast_index.specs.Index.{has}
use Rattle.cast_index.specs.Rises.{rises}
use Rattle.cast_index.proofs.Rises.{rises_kept}
use Rattle.cast_ready.specs.declared.gate.Gate.{Gate}
use Rattle.cast_ready.specs.declared.row.Row.{Row}
use Rattle.cast_ready.specs.declared.row.ProcessUpdate.{ProcessUpdate}
use Rattle.cast_ready.specs.declared.row.ProcessUpdate.TheVariants as fact
use Rattle.cast_ready.specs.declared.offered.Offered.{Offered}
use Rattle.cast_delay.specs.declared.looked.Looked.{Looked}
use Rattle.cast_ready.specs.Ready.{is_member}
use Rattle.cast_ready.specs.Rows.{gate_in, standing_in, done_in, awaits_row, delivered_row}
use Rattle.cast_ready.specs.Rows.{told_row, with_standing, with_time, new_row, awaits_now, is_after}
use Rattle.cast_delay.specs.Queue.{row_of, but_row, change_row, is_awaited, offered_under, after_delivery, but_offered}
use Rattle.cast_delay.specs.Offers.{key_of}
use Rattle.cast_delay.specs.Settled.{is_settled, AreSettled}
use Rattle.cast_delay.specs.Waits.{looked_of, waits_despite, next_under, IsKnown, IsWaking, IsLookedAt}
use Rattle.cast_delay.specs.Waits.{IsToWake, IsUnseenBy, AreKnown, AreLookedAt, AreSeen, AreToWake, MayBePassed}
use Rattle.cast_delay.specs.declared.floor.Floor.{Floor}
use Rattle.cast_delay.specs.Floors.{IsFloor}
use Rattle.cast_delay.proofs.Finds.{found_in, found_any, find-append_some, find-append_none, find_kept, kept_parts}
use Rattle.cast_delay.proofs.ListLemmas.{all_each, contains_cases}
use Rattle.cast_delay.proofs.MemberLemmas.{found_member, same_item}
use Rattle.cast_delay.proofs.RowLemmas.{changed_own, changed_other}
use Rattle.cast_delay.proofs.Settled.{gate_number, awaits_no_more, admit_settled, offer_settled}
use Rattle.cast_delay.proofs.LookedAt.{rest_looked}

-- Rows that await the same

module _ (gates later : List (GroupNo × Gate)) (row next : Row) (same : (u : Uid) → awaits_now later next u ≡ awaits_now gates row u) where
  known_same : (l : Looked) (o : Offered) → IsKnown gates row l o → IsKnown later next l o
  known_same l o (inl awake) = inl awake
  known_same l o (inr (inl past)) = inr (inl (same o.id ∙ past))
  known_same l o (inr (inr (u, filed, holds))) = inr (inr (u, filed, ap (λ b. is_after o u && b) (same u) ∙ holds))

  pub are_known_same : (offered : List Offered) (l : Looked) → AreKnown gates row offered l → AreKnown later next offered l
  are_known_same offered l known = record { within = known.within; each = λ o there lt. known_same l o (known.each o there lt) }

-- where each row awaits what it did
pub rows_same : (gates later : List (GroupNo × Gate)) (rows others : List Row) (offered : List Offered) (ls : List Looked) →
    ((q : Proc) (next : Row) → row_of others q ≡ Some next →
    (row : Row) × (row_of rows q ≡ Some row) × ((u : Uid) → awaits_now later next u ≡ awaits_now gates row u)) →
    AreLookedAt gates rows offered ls → AreLookedAt later others offered ls
rows_same gates later rows others offered ls same all q l is =
    let looked = all q l is in
    record {
      rising = looked.rising;
      within = looked.within;
      known = λ next at. let row = same q next at in are_known_same gates later row.0 next row.2 offered l (looked.known row.0 row.1);
    }

-- Groups

-- a group has another gate with the same number
pub gate_looked : (gates : List (GroupNo × Gate)) (g : GroupNo) (gate : Gate) → gate.number ≡ (gate_in gates g).number →
    (rows : List Row) (offered : List Offered) (ls : List Looked) → AreLookedAt gates rows offered ls →
    AreLookedAt (entries.put group_cmp g gate gates) rows offered ls
gate_looked gates g gate same rows offered ls =
    rows_same gates (entries.put group_cmp g gate gates) rows rows offered ls
    (λ q row at. (row, at, λ u. ap (λ n. awaits_row row u && (u.view == n)) (gate_number gates g gate same u.group)))

-- Processes

-- a process is admitted: in no group, it awaits nothing
pub admit_looked : (gates : List (GroupNo × Gate)) (rows : List Row) (p : Proc) (offered : List Offered) (ls : List Looked) →
    AreLookedAt gates rows offered ls → AreLookedAt gates (rows ++ new_row p ∷ []) offered ls
admit_looked gates rows p offered ls all q l is =
    let looked = all q l is in
    record {
      rising = looked.rising;
      within = looked.within;
      known = λ next at. elim (option_cases (row_of rows q)) [
        | inr (row, was) ↦
            looked.known next (was ∙ sym (find-append_some (λ (r : Row). proc_eq r.process q) rows (new_row p ∷ []) row was) ∙ at)
        | inl none ↦
            let last : cond {A = Option Row} (proc_eq p q) (Some (new_row p)) None ≡ Some next =
            sym (find-append_none (λ (r : Row). proc_eq r.process q) rows (new_row p ∷ []) none) ∙ at in
            subst (λ r. AreKnown gates r offered l) (cond_some (proc_eq p q) (new_row p) next last).1
            (record { within = looked.within; each = λ o there lt. inr (inl refl) })
      ];
    }

-- nothing is kept of a process, and the rows of the others are as they were
pub others_looked : (gates : List (GroupNo × Gate)) (rows later : List Row) (p : Proc) (offered : List Offered) (ls : List Looked) →
    ((q : Proc) → proc_eq p q ≡ false → row_of later q ≡ row_of rows q) → AreLookedAt gates rows offered ls →
    AreLookedAt gates later offered (filter (λ l. not (proc_eq l.process p)) ls)
others_looked gates rows later p offered ls same all =
    rest_looked gates later offered ls p (λ q l apart is. subst (λ r. IsLookedAt gates r offered l) (sym (same q apart)) (all q l is))

-- one is dismissed
pub dismiss_looked : (gates : List (GroupNo × Gate)) (rows : List Row) (p : Proc) (offered : List Offered) (ls : List Looked) →
    AreLookedAt gates rows offered ls → AreLookedAt gates (but_row p rows) offered (filter (λ l. not (proc_eq l.process p)) ls)
dismiss_looked gates rows p offered ls =
    others_looked gates rows (but_row p rows) p offered ls
    (λ q apart. find_kept (λ (r : Row). proc_eq r.process q) (λ r. not (proc_eq r.process p))
    (λ r own. ap (λ s. proc_eq s q) (same_proc r.process p (not-false (proc_eq r.process p) own)) ∙ apart) rows)

-- one takes in a fact
pub tell_looked : (gates : List (GroupNo × Gate)) (rows : List Row) (p : Proc) (f : ProcessUpdate) (offered : List Offered)
    (ls : List Looked) → AreLookedAt gates rows offered ls →
    AreLookedAt gates (change_row p (told_row f) rows) offered (waits_despite f p ls)
tell_looked gates rows p (fact.Standing g s) offered ls =
    others_looked gates rows (change_row p (with_standing g s) rows)
    p offered ls (λ q apart. changed_other p (with_standing g s) (λ r. refl) q apart rows)
tell_looked gates rows p (fact.Time t) offered ls =
    rows_same gates gates rows (change_row p (with_time t) rows) offered ls timed
  where
    timed : (q : Proc) (next : Row) → row_of (change_row p (with_time t) rows) q ≡ Some next →
        (row : Row) × (row_of rows q ≡ Some row) × ((u : Uid) → awaits_now gates next u ≡ awaits_now gates row u)
    timed q next at = elim (cases_Bool (proc_eq p q)) [
      | inr apart ↦ (next, sym (changed_other p (with_time t) (λ r. refl) q apart rows) ∙ at, λ u. refl)
      | inl same ↦
          let own : row_of (change_row p (with_time t) rows) q ≡ option_map (with_time t) (row_of rows q) =
          subst (λ r. row_of (change_row p (with_time t) rows) r ≡ option_map (with_time t) (row_of rows r)) (same_proc p q same)
          (changed_own p (with_time t) (λ r. refl) rows) in
          elim (option_cases (row_of rows q)) [
            | inl none ↦ absurd (cc (sym at ∙ own ∙ ap (λ (o : Option Row). option_map (with_time t) o) none))
            | inr (row, is) ↦
                let made : with_time t row ≡ next =
                same_Some (with_time t row) next (sym (ap (λ (o : Option Row). option_map (with_time t) o) is) ∙ sym own ∙ at) in
                (row, is, λ u. ap (λ r. awaits_now gates r u) (sym made))
          ]
    ]

-- Messages

-- one comes, under a key from which on none was looked at
pub offer_looked : (gates : List (GroupNo × Gate)) (rows : List Row) (offered : List Offered) (o : Offered) (ls : List Looked) →
    rises key_of (offered ++ o ∷ []) ≡ true → list_all (λ l. nat_le l.below o.key.0) ls ≡ true → AreLookedAt gates rows offered ls →
    AreLookedAt gates rows (offered ++ o ∷ []) ls
offer_looked gates rows offered o ls rising upto all q l is =
    let looked = all q l is in
    let le =
    leb-true l.below o.key.0
    (all_each (λ (m : Looked). nat_le m.below o.key.0) ls upto l (found_in (λ (m : Looked). proc_eq m.process q) ls l is)) in
    record {
      rising = rising;
      within = looked.within;
      known = λ row at. record {
        within = looked.within;
        each = λ m there lt. elim (last_cases offered o m there) [
          | inl before ↦ (looked.known row at).each m before lt
          | inr last ↦ absurd (omega (arith, lt, le, ap key_of last))
        ];
      };
    }
  where
    last_cases : (xs : List Offered) (y x : Offered) → Contains (xs ++ y ∷ []) x → Contains xs x ⊎ (y ≡ x)
    last_cases [] y x there = elim (contains_cases y x [] there) [ inl here ↦ inr here | inr none ↦ inl none ]
    last_cases (z ∷ xs) y x there = elim (contains_cases z x (xs ++ y ∷ []) there) [
      | inl here ↦ inl (subst (λ w. Contains (z ∷ xs) w) here (contains_here z xs))
      | inr later ↦ elim (last_cases xs y x later) [ inl before ↦ inl (contains_later x z xs before) | inr last ↦ inr last ]
    ]

-- one is forgotten
pub forget_looked : (gates : List (GroupNo × Gate)) (rows : List Row) (offered : List Offered) (key : Key) (ls : List Looked) →
    AreLookedAt gates rows offered ls → AreLookedAt gates rows (but_offered key offered) ls
forget_looked gates rows offered key ls all q l is =
    let looked = all q l is in
    let keep : Offered → Bool = λ o. not (key_eq o.key key) in
    record {
      rising = rises_kept key_of keep offered looked.rising;
      within = looked.within;
      known = λ row at. record {
        within = looked.within;
        each = λ o there. (looked.known row at).each o (kept_parts keep offered o there).0;
      };
    }

-- Deliveries

-- the rows of the others are as they were
pub after_other : (offered : List Offered) (p : Proc) (key : Key) (rows : List Row) (q : Proc) → proc_eq p q ≡ false →
    row_of (after_delivery offered p key rows) q ≡ row_of rows q
after_other offered p key rows q apart = at (offered_under offered key)
  where
    at : (o : Option Offered) → row_of (elim o [ Some o ↦ change_row p (delivered_row o.id o.times) rows | None ↦ rows ]) q ≡ row_of rows q
    at None = refl
    at (Some o) = changed_other p (delivered_row o.id o.times) (λ r. refl) q apart rows

-- so if nothing is kept of the process
pub deliver_looked : (gates : List (GroupNo × Gate)) (rows : List Row) (offered : List Offered) (p : Proc) (key : Key) (ls : List Looked) →
    AreLookedAt gates rows offered ls →
    AreLookedAt gates (after_delivery offered p key rows) offered (filter (λ l. not (proc_eq l.process p)) ls)
deliver_looked gates rows offered p key ls =
    others_looked gates rows (after_delivery offered p key rows) p offered ls (after_other offered p key rows)

-- a row that takes the next message of a source awaits what it did but for that message
module _ (gates : List (GroupNo × Gate)) (id : Uid) (times : ClockList) (row : Row)
    (next : done_in row id.group id.view id.proc + 1 ≡ id.count) where
  abbrev after : Row
  after = delivered_row id times row

  done_own : (u : Uid) → eq_by_cmp source_cmp (source_of u) (source_of id) ≡ true → done_in after u.group u.view u.proc ≡ id.count
  done_own u tie =
      ap (λ (o : Option ℕ). unwrap_or o 0) (entries.find-put source_cmp source_total (source_of u) (source_of id) id.count row.done)
      ∙ ap (λ b. unwrap_or (cond b (Some id.count) (entries.find source_cmp (source_of u) row.done)) 0) tie

  done_other : (u : Uid) → eq_by_cmp source_cmp (source_of u) (source_of id) ≡ false →
      done_in after u.group u.view u.proc ≡ done_in row u.group u.view u.proc
  done_other u apart =
      ap (λ (o : Option ℕ). unwrap_or o 0) (entries.find-put source_cmp source_total (source_of u) (source_of id) id.count row.done)
      ∙ ap (λ b. unwrap_or (cond b (Some id.count) (entries.find source_cmp (source_of u) row.done)) 0) apart

  pub own_taken : awaits_now gates after id ≡ false
  own_taken = false_from_ne_true (awaits_now gates after id) (λ awaited.
      let row_awaits = and_parts (awaits_row after id) (id.view == (gate_in gates id.group).number) awaited in
      let waits =
      and_parts (is_member (standing_in after id.group)) (nat_lt (done_in after id.group id.view id.proc) id.count) row_awaits.0 in
      omega (
        arith,
        ltb-true (done_in after id.group id.view id.proc) id.count waits.1,
        done_own id (tie_self source_total (source_of id) (source_of id) refl),
      ))

  past_still : (u : Uid) → awaits_now gates row u ≡ false → awaits_now gates after u ≡ false
  past_still u past = false_from_ne_true (awaits_now gates after u) (λ awaited.
      let parts = and_parts (awaits_row after u) (u.view == (gate_in gates u.group).number) awaited in
      elim (cases_Bool (awaits_row row u)) [
        | inl was ↦ false≢true (sym past ∙ and_from (awaits_row row u) (u.view == (gate_in gates u.group).number) was parts.1)
        | inr was ↦ false≢true (sym (awaits_no_more id times row (omega (arith, next)) u was) ∙ parts.0)
      ])

  -- what is awaited no more is that message
  taken_is : (u : Uid) → awaits_now gates row u ≡ true → awaits_now gates after u ≡ false → u ≡ id
  taken_is u was now =
      let parts = and_parts (awaits_row row u) (u.view == (gate_in gates u.group).number) was in
      let waits = and_parts (is_member (standing_in row u.group)) (nat_lt (done_in row u.group u.view u.proc) u.count) parts.0 in
      let less = ltb-true (done_in row u.group u.view u.proc) u.count waits.1 in
      let there : nat_lt (done_in after u.group u.view u.proc) u.count ≡ false =
      false_from_ne_true (nat_lt (done_in after u.group u.view u.proc) u.count) (λ lt.
      false≢true (sym now ∙ and_from (awaits_row after u) (u.view == (gate_in gates u.group).number)
      (and_from (is_member (standing_in after u.group)) (nat_lt (done_in after u.group u.view u.proc) u.count) waits.0 lt) parts.1)) in
      let most = ltb-false (done_in after u.group u.view u.proc) u.count there in
      elim (cases_Bool (eq_by_cmp source_cmp (source_of u) (source_of id))) [
        | inl tie ↦
            let same : source_of u ≡ source_of id = tie_same source_exact (source_of u) (source_of id) tie in
            let done : done_in row u.group u.view u.proc ≡ done_in row id.group id.view id.proc =
            ap (λ (s : Source). done_in row s.group s.view s.process) same in
            let count : u.count ≡ id.count = omega (arith, less, most, next, done, done_own u tie) in
            λ i. record { group = (same i).group; view = (same i).view; proc = (same i).process; count = count i }
        | inr apart ↦ absurd (omega (arith, less, most, done_other u apart))
      ]

  waking_after : (l : Looked) (o : Offered) → IsKnown gates row l o → IsWaking gates after id l o
  waking_after l o (inl awake) = inl (inl awake)
  waking_after l o (inr (inl past)) = inl (inr (inl (past_still o.id past)))
  waking_after l o (inr (inr (u, filed, holds))) =
      let parts = and_parts (is_after o u) (awaits_now gates row u) holds in
      elim (cases_Bool (awaits_now gates after u)) [
        | inl still ↦ inl (inr (inr (u, filed, and_from (is_after o u) (awaits_now gates after u) parts.0 still)))
        | inr no_more ↦ inr (subst (λ v. has l.filed v o.key ≡ true) (taken_is u parts.1 no_more) filed)
      ]

  pub to_wake : (offered : List Offered) (m : Offered) (key : Key) (l : Looked) → rises key_of offered ≡ true →
      offered_under offered key ≡ Some m → m.id ≡ id → AreKnown gates row offered l → IsToWake gates after offered id key l
  to_wake offered m key l rising under is known =
      let found = found_member (λ (x : Offered). key_eq x.key key) offered m under in
      record {
        within = known.within;
        waking = λ o there lt. waking_after l o (known.each o there lt);
        taken = λ o there same.
            let one : m ≡ o = same_item key_of offered m o rising found.0 there (omega (arith, same, eqb-true m.key.0 key.0 found.1)) in
            ap (λ u. awaits_now gates after u) (sym (ap (λ (x : Offered). x.id) one) ∙ is) ∙ own_taken;
      }

-- the next message of a source, and the row that takes it
pub next_parts : (rows : List Row) (offered : List Offered) (p : Proc) (key : Key) (id : Uid) → next_under rows offered p key ≡ Some id →
    (row : Row)
    × (row_of rows p ≡ Some row)
    × ((m : Offered)
    × (offered_under offered key ≡ Some m)
    × (m.id ≡ id)
    × (done_in row id.group id.view id.proc + 1 ≡ id.count))
next_parts rows offered p key id is = elim (option_cases (row_of rows p)) [
  | inl none ↦
      absurd (cc (sym is
      ∙ ap (λ (o : Option Row). option_and_then (λ (row : Row). option_and_then (test row) (offered_under offered key)) o) none))
  | inr (row, at) ↦
      let here : option_and_then (test row) (offered_under offered key) ≡ Some id =
      sym (ap (λ (o : Option Row). option_and_then (λ (r : Row). option_and_then (test r) (offered_under offered key)) o) at) ∙ is in
      elim (option_cases (offered_under offered key)) [
        | inl none ↦ absurd (cc (sym here ∙ ap (λ (o : Option Offered). option_and_then (test row) o) none))
        | inr (m, under) ↦
            let tests =
            cond_some (done_in row m.id.group m.id.view m.id.proc + 1 == m.id.count)
            m.id id (sym (ap (λ (o : Option Offered). option_and_then (test row) o) under) ∙ here) in (
              row,
              at,
              (
                m,
                under,
                tests.1,
                subst (λ (u : Uid). done_in row u.group u.view u.proc + 1 ≡ u.count)
                    tests.1 (eqb-true (done_in row m.id.group m.id.view m.id.proc + 1) m.id.count tests.0),
              ),
            )
      ]
]
  where
    test : Row → Offered → Option Uid
    test row o = if done_in row o.id.group o.id.view o.id.proc + 1 == o.id.count then Some o.id else None

pub deliver_to_wake : (gates : List (GroupNo × Gate)) (rows : List Row) (offered : List Offered) (p : Proc) (key : Key) (id : Uid)
    (ls : List Looked) → next_under rows offered p key ≡ Some id → AreLookedAt gates rows offered ls →
    AreToWake gates (after_delivery offered p key rows) offered p id key ls
deliver_to_wake gates rows offered p key id ls is all =
    let parts = next_parts rows offered p key id is in
    let row = parts.0 in
    let m = parts.2.0 in
    let later : after_delivery offered p key rows ≡ change_row p (delivered_row m.id m.times) rows =
    ap (λ (o : Option Offered). elim o [ Some x ↦ change_row p (delivered_row x.id x.times) rows | None ↦ rows ]) parts.2.1 in
    let own : row_of (after_delivery offered p key rows) p ≡ Some (delivered_row id m.times row) =
    ap (λ rs. row_of rs p) later
    ∙ changed_own p (delivered_row m.id m.times) (λ r. refl) rows
    ∙ ap (λ (o : Option Row). option_map (delivered_row m.id m.times) o) parts.1
    ∙ ap (λ u. Some (delivered_row u m.times row)) parts.2.2 in
    record {
      own = λ l kept.
          let looked = all p l kept in (
            looked.rising,
            looked.within,
            λ r at.
                subst (λ x. IsToWake gates x offered id key l) (same_Some (delivered_row id m.times row) r (sym own ∙ at))
                (to_wake gates id m.times row parts.2.3 offered m key l looked.rising parts.2.1 parts.2.2 (looked.known row parts.1)),
          );
      others = λ q l apart kept. subst (λ r. IsLookedAt gates r offered l) (sym (after_other offered p key rows q apart)) (all q l kept);
    }

-- Questions

-- what is settled no row awaits now
pub settled_past : (gates : List (GroupNo × Gate)) (rows : List Row) (p : Proc) (row : Row) → row_of rows p ≡ Some row → (o : Offered) →
    is_settled gates rows o ≡ true → awaits_now gates row o.id ≡ false
settled_past gates rows p row at o settled = false_from_ne_true (awaits_now gates row o.id) (λ awaited.
    let parts = and_parts (awaits_row row o.id) (o.id.view == (gate_in gates o.id.group).number) awaited in
    elim (or_cases (not (o.id.view == (gate_in gates o.id.group).number)) (not (is_awaited rows o.id)) settled) [
      | inl other ↦ false≢true (sym (not-true (o.id.view == (gate_in gates o.id.group).number) other) ∙ parts.1)
      | inr none ↦
          false≢true
          (sym (not-true (is_awaited rows o.id) none) ∙ found_any (λ r. awaits_row r o.id) (λ r. proc_eq r.process p) rows row at parts.0)
    ])

-- so what need not be looked at was seen
pub unseen_seen : (gates : List (GroupNo × Gate)) (rows : List Row) (offered : List Offered) (settled : ℕ) (ls : List Looked) (p : Proc)
    (n : ℕ) → AreSettled gates rows offered settled → IsUnseenBy offered settled (looked_of ls p) n → AreSeen gates rows offered ls p n
unseen_seen gates rows offered settled ls p n known unseen row at o there = elim (unseen.each o there) [
  | inl before ↦ inl (settled_past gates rows p row at o (all_each (is_settled gates rows) (take settled offered) known.each o before))
  | inr looked ↦ inr looked
]

-- All that need not be looked at

pub admit_passed : {E : Type 0} (gates : List (GroupNo × Gate)) (rows later : List Row) (p : Proc) (offered : List Offered) (n : ℕ)
    (ls : List Looked) (r : Result (Unit {0}) E) → OnOk r (later ≡ rows ++ new_row p ∷ []) → OnErr r (later ≡ rows) →
    (before after : Floor) → MayBePassed gates rows offered n ls before → IsFloor later offered after →
    MayBePassed gates later offered n ls after
admit_passed gates rows later p offered n ls (Ok u) is same before later_floor passed floor = record {
  settled = subst (λ rs. AreSettled gates rs offered n) (sym is) (admit_settled gates rows p offered n passed.settled);
  looked = subst (λ rs. AreLookedAt gates rs offered ls) (sym is) (admit_looked gates rows p offered ls passed.looked);
  lies = floor;
}
admit_passed gates rows later p offered n ls (Err e) is same before later_floor passed floor = record {
  settled = subst (λ rs. AreSettled gates rs offered n) (sym same) passed.settled;
  looked = subst (λ rs. AreLookedAt gates rs offered ls) (sym same) passed.looked;
  lies = floor;
}

-- what a delivery wakes
pub deliver_next : (gates : List (GroupNo × Gate)) (rows : List Row) (offered : List Offered) (p : Proc) (key : Key) (ls : List Looked) →
    AreLookedAt gates rows offered ls → (next : Option Uid) →
    next ≡ option_and_then (λ (l : Looked). next_under rows offered p key) (looked_of ls p) →
    IfSome next (λ id. AreToWake gates (after_delivery offered p key rows) offered p id key ls)
deliver_next gates rows offered p key ls all None is = tt
deliver_next gates rows offered p key ls all (Some id) is = elim (option_cases (looked_of ls p)) [
  | inl none ↦ absurd (cc (is ∙ ap (λ (o : Option Looked). option_and_then (λ (l : Looked). next_under rows offered p key) o) none))
  | inr (l, kept) ↦
      deliver_to_wake gates rows offered p key id ls
      (sym (is ∙ ap (λ (o : Option Looked). option_and_then (λ (m : Looked). next_under rows offered p key) o) kept)) all
]

pub offer_passed : (gates : List (GroupNo × Gate)) (rows : List Row) (offered : List Offered) (o : Offered) (n : ℕ) (ls : List Looked) →
    rises key_of (offered ++ o ∷ []) ≡ true → list_all (λ l. nat_le l.below o.key.0) ls ≡ true →
    (before after : Floor) → MayBePassed gates rows offered n ls before → IsFloor rows (offered ++ o ∷ []) after →
    MayBePassed gates rows (offered ++ o ∷ []) n ls after
offer_passed gates rows offered o n ls rising upto before later_floor passed floor = record {
  settled = offer_settled gates rows offered o n passed.settled;
  looked = offer_looked gates rows offered o ls rising upto passed.looked;
  lies = floor;
}
