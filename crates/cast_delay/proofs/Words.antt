-- The test of readiness says what the rule says in words.
use Rattle.std.proofs.Common.{◌≡◌, ℕ, Bool, true, not, ◌&&◌, ◌||◌, List, [], ◌∷◌, Contains, Option}
use Rattle.std.proofs.Common.{Some, None, unwrap_or, refl, sym, ap, subst, ◌∙◌, inl, inr, arith}
use Rattle.std.specs.Prelude.{nat_lt, ◌==◌, IsTrue}
use Rattle.std.specs.List.{list_all, range_with_len}
use Rattle.std.specs.FinMap.Entries.{is_sorted}
use Rattle.std.proofs.lemmas.Bool.{cases_Bool, false≢true, and_parts, and_from, or_cases, or_left, or_right, not-true}
use Rattle.std.proofs.lemmas.Bool.{not_from_false, false_from_ne_true, ltb-true, lt-ltb, leb-true, le-leb, eqb-true, eq-eqb}
use Rattle.cast_types.specs.declared.names.GroupNo.{GroupNo}
use Rattle.cast_types.specs.declared.names.Uid.{Uid}
use Rattle.cast_types.specs.declared.names.Standing.{Standing}
use Rattle.cast_types.specs.declared.names.Standing.TheVariants.{Outside, Joining, Member}
use Rattle.cast_types.specs.declared.names.Kind.{Kind}
use Rattle.cast_types.specs.declared.names.Kind.TheVariants.{Causal, Atomic, Order}
use Rattle.cast_types.specs.Names.{Entry, group_cmp, proc_cmp, uid_eq, uid_in, entry_of, is_atomic}
use Rattle.cast_types.specs.Sets.{is_among}
use Rattle.cast_types.specs.Counts.{CountList, count_of}
use Rattle.cast_types.proofs.Orders.{group_exact, proc_total, proc_exact, same_uid, uid_itself, same_entry, entry_itself}
use Rattle.cast_clock.specs.Times.{first_clock, clock_of, view_of, join, has_room}
use Rattle.cast_clock.specs.Laws.{is_in_order}
use Rattle.cast_clock.proofs.Entries.{found_or, each_found, as_T}
use Rattle.cast_message.specs.declared.message.Message.{Message}
use Rattle.cast_message.specs.Bodies.{kind_of}
use Rattle.cast_ready.specs.declared.turn.Turn.{Turn}
use Rattle.cast_ready.specs.declared.turn.Turn.TheVariants.{Holding, Following}
use Rattle.cast_ready.specs.declared.gate.Gate.{Gate}
use Rattle.cast_ready.specs.Ready.{Process, is_cut_by, is_open_to, is_member, has_delivered}
use Rattle.cast_ready.specs.Ready.{past_in, group_allows, has_turn, is_causally_ready, is_ready}
use Rattle.cast_delay.specs.Rule.{HappenedBefore, Allows, IsCutBy, IsOpenTo, MayBeDelivered}
use Rattle.cast_delay.specs.Rule.{IsTurnOf, MayBeDeliveredInTurn, RuleInWords, TurnInWords}
use Rattle.cast_delay.proofs.ListLemmas.{contains_cases, all_each, range_holds, holds_range}
use Rattle.cast_delay.proofs.Counted.{past_spelled}
use Rattle.cast_delay.proofs.Delivers.{only_member}
use Rattle.cast_types.proofs.Contains.{contains_here, contains_later}
use Rattle.cast_delay.proofs.Turns.{in_turn, ready_causally, ready_has_turn}

-- what was delivered is in the list
delivered_in : (p : List Uid) (u : Uid) → is_among uid_eq u p ≡ true → Contains p u
delivered_in [] u among = absurd (false≢true among)
delivered_in (x ∷ p) u among = elim (or_cases (uid_eq u x) (is_among uid_eq u p) among) [
  | inl here ↦ subst (λ w. Contains (x ∷ p) w) (sym (same_uid u x here)) (contains_here x p)
  | inr later ↦ contains_later u x p (delivered_in p u later)
]

in_delivered : (p : List Uid) (u : Uid) → Contains p u → is_among uid_eq u p ≡ true
in_delivered [] u has = absurd (omega (arith, has.1))
in_delivered (x ∷ p) u has = elim (contains_cases x u p has) [
  | inl here ↦ or_left (uid_eq u x) (is_among uid_eq u p) (ap (λ w. uid_eq u w) here ∙ uid_itself u)
  | inr later ↦ or_right (uid_eq u x) (is_among uid_eq u p) (in_delivered p u later)
]

-- one of each item is a test of all
each_all : {A : Type 0} (t : A → Bool) (xs : List A) → ((x : A) → Contains xs x → t x ≡ true) → list_all t xs ≡ true
each_all t [] each = refl
each_all t (y ∷ xs) each =
    and_from (t y) (list_all t xs) (each y (contains_here y xs)) (each_all t xs (λ x has. each x (contains_later x y xs has)))

-- the test of a cut and of a gate say what they say in words
cut_there : (cut : Option CountList) (e : Entry) → is_cut_by cut e ≡ true → IsCutBy cut e
cut_there None e is = false≢true is
cut_there (Some cut) e is = leb-true e.1 (count_of cut e.0) is

cut_back : (cut : Option CountList) (e : Entry) → IsCutBy cut e → is_cut_by cut e ≡ true
cut_back None e is = absurd is
cut_back (Some cut) e is = le-leb e.1 (count_of cut e.0) is

open_there : (gate : Gate) (e : Entry) → is_open_to gate e ≡ true → IsOpenTo gate e
open_there gate e is = elim (or_cases (not gate.frozen) (is_cut_by gate.cut e) is) [
  | inl moves ↦ inl (not-true gate.frozen moves)
  | inr within ↦ inr (cut_there gate.cut e within)
]

open_back : (gate : Gate) (e : Entry) → IsOpenTo gate e → is_open_to gate e ≡ true
open_back gate e (inl moves) = or_left (not gate.frozen) (is_cut_by gate.cut e) (not_from_false gate.frozen moves)
open_back gate e (inr within) = or_right (not gate.frozen) (is_cut_by gate.cut e) (cut_back gate.cut e within)

module _ (p : Process) (m : Message) (ordered : IsTrue (is_in_order m.times)) where
  abbrev passes : Uid → Bool
  passes u = uid_eq m.id u || has_delivered p u

  -- the counts of each group rise
  counts_sorted : (h : GroupNo) → is_sorted proc_cmp (clock_of m.times h).counts ≡ true
  counts_sorted h =
      found_or group_exact (λ q c. is_sorted proc_cmp c.counts) (first_clock 0) (λ q. refl) m.times
      (and_parts (is_sorted group_cmp m.times) (list_all (λ e. is_sorted proc_cmp e.1.counts) m.times) ordered).1 h

  past_there : (h : GroupNo) → list_all (has_delivered p) (past_in m h) ≡ true → (u : Uid) → HappenedBefore m h u → Contains p.delivered u
  past_there h all u before =
      let v = view_of m.times h in
      let counts = (clock_of m.times h).counts in
      let found =
      found_or proc_exact (λ q n. list_all (λ k. passes (uid_in h v (q, k))) (range_with_len 1 n)) 0 (λ q. refl)
      counts (sym (past_spelled p m.id h v counts) ∙ all) u.proc in
      let here =
      range_holds (λ k. passes (uid_in h v (u.proc, k))) (count_of counts u.proc) 1 found u.count (omega (arith, before.from_one))
      (omega (arith, before.covered)) in
      let same : uid_in h v (u.proc, u.count) ≡ u =
      λ i. record { group = sym before.group i; view = sym before.view i; proc = u.proc; count = u.count } in
      elim (or_cases (uid_eq m.id u) (has_delivered p u) (subst (λ w. passes w ≡ true) same here)) [
        | inl own ↦ absurd (before.other (sym (same_uid m.id u own)))
        | inr done ↦ delivered_in p.delivered u done
      ]

  past_back : (h : GroupNo) → ((u : Uid) → HappenedBefore m h u → Contains p.delivered u) → list_all (has_delivered p) (past_in m h) ≡ true
  past_back h each =
      let v = view_of m.times h in
      let counts = (clock_of m.times h).counts in
      past_spelled p m.id h v counts
      ∙ each_found proc_total (λ q n. list_all (λ k. passes (uid_in h v (q, k))) (range_with_len 1 n))
      counts (as_T (is_sorted proc_cmp counts) (counts_sorted h)) (λ q n is.
      holds_range (λ k. passes (uid_in h v (q, k))) n 1 (λ k low high.
      let u = uid_in h v (q, k) in
      let many : count_of counts q ≡ n = ap (λ (o : Option ℕ). unwrap_or o 0) is in
      elim (cases_Bool (uid_eq m.id u)) [
        | inl own ↦ or_left (uid_eq m.id u) (has_delivered p u) own
        | inr apart ↦ or_right (uid_eq m.id u) (has_delivered p u) (in_delivered p.delivered u (each u (record {
          group = refl;
          view = refl;
          from_one = omega (arith, low);
          covered = omega (arith, high, many);
          other = λ e. false≢true (sym apart ∙ ap (λ w. uid_eq m.id w) e ∙ uid_itself m.id);
        })))
      ]))

  allows_there : (gate : Gate) (h : GroupNo) (s : Standing) → group_allows s p gate m h ≡ true → Allows s p gate m h
  allows_there gate h Outside e = tt
  allows_there gate h (Joining request heard) e = leb-true (view_of m.times h) heard e
  allows_there gate h Member e =
      elim (or_cases (nat_lt (view_of m.times h) gate.number)
      ((view_of m.times h == gate.number) && list_all (has_delivered p) (past_in m h)) e) [
        | inl lower ↦ inl (ltb-true (view_of m.times h) gate.number lower)
        | inr rest ↦
            let parts = and_parts (view_of m.times h == gate.number) (list_all (has_delivered p) (past_in m h)) rest in
            inr (eqb-true (view_of m.times h) gate.number parts.0, past_there h parts.1)
      ]

  allows_back : (gate : Gate) (h : GroupNo) (s : Standing) → Allows s p gate m h → group_allows s p gate m h ≡ true
  allows_back gate h Outside a = refl
  allows_back gate h (Joining request heard) a = le-leb (view_of m.times h) heard a
  allows_back gate h Member (inl lower) =
      or_left (nat_lt (view_of m.times h) gate.number) ((view_of m.times h == gate.number) && list_all (has_delivered p) (past_in m h))
      (lt-ltb (view_of m.times h) gate.number lower)
  allows_back gate h Member (inr (same, each)) =
      or_right (nat_lt (view_of m.times h) gate.number) ((view_of m.times h == gate.number) && list_all (has_delivered p) (past_in m h))
      (and_from (view_of m.times h == gate.number) (list_all (has_delivered p) (past_in m h)) (eq-eqb (view_of m.times h) gate.number same)
      (past_back h each))

  module _ (groups : List GroupNo) (gate : GroupNo → Gate) where
    abbrev rule : GroupNo → Bool
    rule h = group_allows (p.standing h) p (gate h) m h

    words_there : is_causally_ready groups gate p m ≡ true → MayBeDelivered groups gate p m
    words_there ready =
        let a =
        and_parts (is_member (p.standing m.id.group))
        ((m.id.view == (gate m.id.group).number)
        && (is_open_to (gate m.id.group) (entry_of m.id)
        && (not (has_delivered p m.id)
        && (list_all rule groups
        && has_room (join p.time m.times))))) ready in
        let b =
        and_parts (m.id.view == (gate m.id.group).number) (is_open_to (gate m.id.group) (entry_of m.id)
        && (not (has_delivered p m.id)
        && (list_all rule groups
        && has_room (join p.time m.times)))) a.1 in
        let o =
        and_parts (is_open_to (gate m.id.group) (entry_of m.id))
        (not (has_delivered p m.id) && (list_all rule groups && has_room (join p.time m.times))) b.1 in
        let c = and_parts (not (has_delivered p m.id)) (list_all rule groups && has_room (join p.time m.times)) o.1 in
        let d = and_parts (list_all rule groups) (has_room (join p.time m.times)) c.1 in
        record {
          member = only_member (p.standing m.id.group) a.0;
          current = eqb-true m.id.view (gate m.id.group).number b.0;
          opened = open_there (gate m.id.group) (entry_of m.id) o.0;
          undelivered = λ has. false≢true (sym (not-true (has_delivered p m.id) c.0) ∙ in_delivered p.delivered m.id has);
          allowed = λ h known. allows_there (gate h) h (p.standing h) (all_each rule groups d.0 h known);
          room = d.1;
        }

    words_back : MayBeDelivered groups gate p m → is_causally_ready groups gate p m ≡ true
    words_back may =
        and_from (is_member (p.standing m.id.group))
        ((m.id.view == (gate m.id.group).number)
        && (is_open_to (gate m.id.group) (entry_of m.id)
        && (not (has_delivered p m.id)
        && (list_all rule groups
        && has_room (join p.time m.times))))) (ap is_member may.member)
        (and_from (m.id.view == (gate m.id.group).number) (is_open_to (gate m.id.group) (entry_of m.id)
        && (not (has_delivered p m.id)
        && (list_all rule groups
        && has_room (join p.time m.times)))) (eq-eqb m.id.view (gate m.id.group).number may.current)
        (and_from (is_open_to (gate m.id.group) (entry_of m.id)) (not (has_delivered p m.id)
        && (list_all rule groups
        && has_room (join p.time m.times))) (open_back (gate m.id.group) (entry_of m.id) may.opened)
        (and_from (not (has_delivered p m.id)) (list_all rule groups && has_room (join p.time m.times))
        (not_from_false (has_delivered p m.id)
        (false_from_ne_true (has_delivered p m.id) (λ has. may.undelivered (delivered_in p.delivered m.id has))))
        (and_from (list_all rule groups) (has_room (join p.time m.times))
        (each_all rule groups (λ h known. allows_back (gate h) h (p.standing h) (may.allowed h known))) may.room))))

pub rule_in_words : RuleInWords
rule_in_words groups gate p m ordered = (words_there p m ordered groups gate, words_back p m ordered groups gate)

-- the test of a turn says what the turn asks
turn_there : (t : Turn) (e : Entry) → has_turn t e ≡ true → IsTurnOf t e
turn_there (Holding room) e is = is
turn_there (Following None) e is = false≢true is
turn_there (Following (Some next)) e is = same_entry e next is

turn_back : (t : Turn) (e : Entry) → IsTurnOf t e → has_turn t e ≡ true
turn_back (Holding room) e is = is
turn_back (Following None) e is = absurd is
turn_back (Following (Some next)) e is = ap (λ (f : Entry). has_turn (Following (Some next)) f) is ∙ entry_itself next

only_atomic : (k : Kind) → is_atomic k ≡ true → k ≡ Atomic
only_atomic Causal e = absurd (false≢true e)
only_atomic Atomic e = refl
only_atomic Order e = absurd (false≢true e)

pub turn_in_words : TurnInWords
turn_in_words groups gate turn p m ordered = (there, back)
  where
    there : is_ready groups gate turn p m ≡ true → MayBeDeliveredInTurn groups gate turn p m
    there ready = record {
      causally = words_there p m ordered groups gate (ready_causally groups gate p turn m ready);
      in_turn = λ atomic. turn_there (turn m.id.group) (entry_of m.id) (ready_has_turn groups gate p turn m ready (ap is_atomic atomic));
    }

    its_turn : MayBeDeliveredInTurn groups gate turn p m → in_turn turn m ≡ true
    its_turn may = elim (cases_Bool (is_atomic (kind_of m.body))) [
      | inl atomic ↦
          or_right (not (is_atomic (kind_of m.body))) (has_turn (turn m.id.group) (entry_of m.id))
          (turn_back (turn m.id.group) (entry_of m.id) (may.in_turn (only_atomic (kind_of m.body) atomic)))
      | inr other ↦
          or_left (not (is_atomic (kind_of m.body))) (has_turn (turn m.id.group) (entry_of m.id))
          (not_from_false (is_atomic (kind_of m.body)) other)
    ]

    back : MayBeDeliveredInTurn groups gate turn p m → is_ready groups gate turn p m ≡ true
    back may =
        and_from (is_causally_ready groups gate p m) (in_turn turn m) (words_back p m ordered groups gate may.causally) (its_turn may)
