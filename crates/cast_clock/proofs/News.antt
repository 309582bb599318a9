-- What is new, put in, makes the join; and whether a join has room is asked of the second time's groups alone.
use Rattle.std.proofs.Common.{◌≡◌, ℕ, zero, suc, ◌+◌, ◌<◌, ◌≤◌, Bool, true, false, cond, ◌&&◌, max, List, [], ◌∷◌, ◌++◌}
use Rattle.std.proofs.Common.{append_assoc, length, get_or, drop, drop-cons, add-one, Option, Some, None, unwrap_or}
use Rattle.std.proofs.Common.{Ordering, Less, Equal, Greater, refl, sym, ap, subst, ◌∙◌, inl, inr, arith}
use Rattle.std.specs.Prelude.{T, IsTrue, is_some, nat_le, nat_lt, ◌==◌, ◌||◌, Contains}
use Rattle.std.specs.List.{list_all}
use Rattle.std.specs.Ordering.{is_lt, is_eq, nat_cmp, ordering_reverse, MatchOrdering}
use Rattle.std.specs.Cmp.{IsTotalOrder, both_ways}
use Rattle.std.specs.FinMap.Entries.{find, put, find-put, by_order, is_sorted, is_sorted-put, below_all}
use Rattle.std.proofs.lemmas.Bool.{or_cases, or_right, eqb-true, eq-eqb}
use Rattle.std.proofs.lemmas.List.Elements.{Contains-get_or}
use Rattle.std.proofs.lemmas.Cmp.{ranked}
use Rattle.std.proofs.lemmas.Grind.{common_steps}
use Rattle.cast_types.specs.declared.names.GroupNo.{GroupNo}
use Rattle.cast_types.specs.declared.clock.Clock.{Clock}
use Rattle.cast_types.specs.Names.{Entry, proc_cmp, group_cmp}
use Rattle.cast_types.specs.Sets.{at_order}
use Rattle.cast_types.specs.Counts.{CountList, count_of, is_counts}
use Rattle.cast_types.specs.Stamps.{ClockList}
use Rattle.cast_types.proofs.Orders.{proc_total, group_total, group_exact}
use Rattle.cast_clock.specs.Times.{first_clock, clock_of, counts_at_most, clock_at_most}
use Rattle.cast_clock.specs.Times.{join_counts, join_clocks, join, clock_has_room, has_room, is_time}
use Rattle.cast_clock.specs.News.{covers, outranks, is_known, news, put_all, AreKnown}
use Rattle.cast_clock.proofs.Entries.{as_T, from_T, both_parts, and_both, and_true, less_is}
use Rattle.cast_clock.proofs.Entries.{find_below, found_holds, found_or, each_found, option_cases}
use Rattle.cast_clock.proofs.Joins.{join_clocks-first}
use Rattle.cast_clock.proofs.Rooms.{fits_from_room, room_from_fits}
use Rattle.cast_clock.proofs.Valid.{le_from, le_as, lt_from, valid_counts, is_counts-clock_of, sorted_time, has_room-time, is_time-put}

-- ---- tests of all items, one after the other
next_item : {X : Type 0} (f : X → Bool) (xs : List X) (i : ℕ) (e : X) → i < length xs → e ≡ get_or xs i e →
    list_all f (drop i xs) ≡ (f e && list_all f (drop (i + 1) xs))
next_item f xs i e at read =
    ap (list_all f) (drop-cons xs i e at)
    ∙ ap (λ x. f x && list_all f (drop (suc i) xs)) (sym read)
    ∙ ap (λ n. f e && list_all f (drop n xs)) (sym (add-one i))

pub all_stops : {X : Type 0} (f : X → Bool) (xs : List X) (i : ℕ) (e : X) → i < length xs → e ≡ get_or xs i e →
    list_all f (drop i xs) ≡ list_all f xs → f e ≡ false → false ≡ list_all f xs
all_stops f xs i e at read so_far failed =
    sym (sym so_far ∙ next_item f xs i e at read ∙ ap (λ b. b && list_all f (drop (i + 1) xs)) failed)

pub all_goes : {X : Type 0} (f : X → Bool) (xs : List X) (i : ℕ) (e : X) → i < length xs → e ≡ get_or xs i e →
    list_all f (drop i xs) ≡ list_all f xs → f e ≡ true → list_all f (drop (i + 1) xs) ≡ list_all f xs
all_goes f xs i e at read so_far held = sym (ap (λ b. b && list_all f (drop (i + 1) xs)) held) ∙ sym (next_item f xs i e at read) ∙ so_far

-- what holds of all items holds of one that is among them
pub each_contained : {X : Type 0} (f : X → Bool) (xs : List X) (x : X) → list_all f xs ≡ true → Contains xs x → f x ≡ true
each_contained f [] x all there = let none = there.1 in absurd (omega arith)
each_contained f (y ∷ xs) x all (zero, lt, at) = ap f (sym at) ∙ (and_both (f y) (list_all f xs) all).0
each_contained f (y ∷ xs) x all (suc k, lt, at) =
    each_contained f xs x (and_both (f y) (list_all f xs) all).1 (k, omega arith, at)

-- ---- a join of counts, one after the other
pub counts_next : (c d made : CountList) (i : ℕ) (none : Entry) → i < length d →
    made ≡ put proc_cmp (get_or d i none).0 (max (count_of c (get_or d i none).0) (get_or d i none).1) c →
    join_counts made (drop (i + 1) d) ≡ join_counts c (drop i d)
counts_next c d made i none at is =
    ap (λ x. join_counts x (drop (i + 1) d)) is
    ∙ ap (λ n. join_counts c (get_or d i none ∷ drop n d)) (add-one i)
    ∙ ap (join_counts c) (sym (drop-cons d i none at))

pub counts_done : (c d joined : CountList) (i : ℕ) → length d ≤ i → join_counts joined (drop i d) ≡ join_counts c d →
    joined ≡ join_counts c d
counts_done c d joined i past same =
    let none : drop i d ≡ [] = grind (arith, common_steps) in
    ap (join_counts joined) (sym none) ∙ same

-- ---- what is put where it stands
module _ {K V : Type 0} (R : K → K → Ordering) (total : IsTotalOrder R) where
  below_through : (k e : K) (es : List (K × V)) → R k e ≡ Less → T (below_all R e es) → T (below_all R k es)
  below_through k e [] less all = tt
  below_through k e (x ∷ xs) less all =
      let parts = both_parts (is_lt (R e x.0)) (below_all R e xs) all in
      as_T _ (and_true (is_lt (R k x.0)) (below_all R k xs) (ap is_lt (total.trans k e x.0 less (less_is (R e x.0) parts.0)))
      (from_T _ (below_through k e xs less parts.1)))

  pub put_same : (k : K) (v : V) (es : List (K × V)) → T (is_sorted R es) → find R k es ≡ Some v → put R k v es ≡ es
  put_same k v [] up is = cc
  put_same k v (e ∷ es) up is =
      let parts = both_parts (below_all R e.0 es) (is_sorted R es) up in
      elim (R k e.0) as (λ o. R k e.0 ≡ o → cond (is_eq o) (Some e.1) (find R k es) ≡ Some v →
      by_order o ((k, v) ∷ e ∷ es) ((e.0, v) ∷ es) (e ∷ put R k v es) ≡ e ∷ es) [
        | Less ↦ λ less there. let none : find R k es ≡ None = find_below R k es (below_through k e.0 es less parts.0) in cc
        | Equal ↦ λ _ here. ap (λ (o : Option V). (e.0, unwrap_or o v) ∷ es) (sym here)
        | Greater ↦ λ _ there. ap (λ xs. e ∷ xs) (put_same k v es parts.1 there)
      ] refl is

-- ---- what is known changes nothing
covered_put : (c : CountList) (e : Entry) → T (is_sorted proc_cmp c) →
    (is_some (find proc_cmp e.0 c) && nat_le e.1 (count_of c e.0)) ≡ true → put proc_cmp e.0 (max (count_of c e.0) e.1) c ≡ c
covered_put c e up held =
    let parts = and_both (is_some (find proc_cmp e.0 c)) (nat_le e.1 (count_of c e.0)) held in
    elim (option_cases (find proc_cmp e.0 c)) [
      | inl none ↦ let some : false ≡ true = ap (λ (o : Option ℕ). is_some o) (sym none) ∙ parts.0 in cc
      | inr some ↦
          let at_most : e.1 ≤ count_of c e.0 = le_from e.1 (count_of c e.0) parts.1 in
          let greatest : max (count_of c e.0) e.1 ≡ count_of c e.0 = omega arith in
          ap (λ n. put proc_cmp e.0 n c) (greatest ∙ ap (λ (o : Option ℕ). unwrap_or o 0) some.1)
          ∙ put_same proc_cmp proc_total e.0 some.0 c up some.1
    ]

covered_join : (c d : CountList) → T (is_sorted proc_cmp c) → covers c d ≡ true → join_counts c d ≡ c
covered_join c [] up held = refl
covered_join c (e ∷ d) up held =
    let parts = and_both (is_some (find proc_cmp e.0 c) && nat_le e.1 (count_of c e.0)) (covers c d) held in
    ap (λ x. join_counts x d) (covered_put c e up parts.0) ∙ covered_join c d up parts.1

outranked : (a b : Clock) → T (is_sorted proc_cmp a.counts) → outranks a b ≡ true → join_clocks a b ≡ a
outranked a b up held =
    elim (nat_cmp a.view b.view) as (λ o. MatchOrdering o (a.view < b.view) (a.view ≡ b.view) (b.view < a.view) →
    at_order o b (record { view = a.view; counts = join_counts a.counts b.counts }) a ≡ a) [
      | Less ↦ λ older. elim (or_cases (nat_lt b.view a.view) ((a.view == b.view) && covers a.counts b.counts) held) [
        | inl later ↦ let lt : b.view < a.view = lt_from b.view a.view later in absurd (omega arith)
        | inr alike ↦
            let same : a.view ≡ b.view = eqb-true a.view b.view (and_both (a.view == b.view) (covers a.counts b.counts) alike).0 in
            absurd (omega arith)
      ]
      | Equal ↦ λ same. elim (or_cases (nat_lt b.view a.view) ((a.view == b.view) && covers a.counts b.counts) held) [
        | inl later ↦ let lt : b.view < a.view = lt_from b.view a.view later in absurd (omega arith)
        | inr alike ↦
            ap (λ c. record { view = a.view; counts = c })
            (covered_join a.counts b.counts up (and_both (a.view == b.view) (covers a.counts b.counts) alike).1)
      ]
      | Greater ↦ λ _. refl
    ] (ranked a.view b.view (nat_cmp a.view b.view) refl)

known_put : (s m : ClockList) (g : GroupNo) (b : Clock) → IsTrue (is_time s) → T (is_sorted group_cmp m) →
    find group_cmp g m ≡ find group_cmp g s → is_known (find group_cmp g s) b ≡ true → put group_cmp g (join_clocks (clock_of m g) b) m ≡ m
known_put s m g b valid up same known = elim (option_cases (find group_cmp g s)) [
  | inl none ↦ let none_known : false ≡ true = ap (λ (o : Option Clock). is_known o b) (sym none) ∙ known in cc
  | inr some ↦
      let a = some.0 in
      let kept : clock_of s g ≡ a = ap (λ (o : Option Clock). unwrap_or o (first_clock 0)) some.1 in
      let in_order : T (is_sorted proc_cmp a.counts) =
      as_T _ (subst (λ (c : Clock). is_sorted proc_cmp c.counts ≡ true)
      kept (valid_counts (clock_of s g).counts (is_counts-clock_of s g valid)).in_order) in
      let held : outranks a b ≡ true = ap (λ (o : Option Clock). is_known o b) (sym some.1) ∙ known in
      let found : find group_cmp g m ≡ Some a = same ∙ some.1 in
      ap (λ (o : Option Clock). put group_cmp g (join_clocks (unwrap_or o (first_clock 0)) b) m) found
      ∙ ap (λ c. put group_cmp g c m) (outranked a b in_order held)
      ∙ put_same group_cmp group_total g a m up found
]

-- what is known has room, joined
pub known_fits : (s : ClockList) (g : GroupNo) (b : Clock) → IsTrue (is_time s) → is_known (find group_cmp g s) b ≡ true →
    clock_has_room (join_clocks (clock_of s g) b) ≡ true
known_fits s g b valid known = elim (option_cases (find group_cmp g s)) [
  | inl none ↦ let none_known : false ≡ true = ap (λ (o : Option Clock). is_known o b) (sym none) ∙ known in cc
  | inr some ↦
      let kept : clock_of s g ≡ some.0 = ap (λ (o : Option Clock). unwrap_or o (first_clock 0)) some.1 in
      let held : outranks (clock_of s g) b ≡ true =
      ap (λ (c : Clock). outranks c b) kept ∙ ap (λ (o : Option Clock). is_known o b) (sym some.1) ∙ known in
      let mine = valid_counts (clock_of s g).counts (is_counts-clock_of s g valid) in
      ap clock_has_room (outranked (clock_of s g) b (as_T _ mine.in_order) held) ∙ le_as (length (clock_of s g).counts) 64 mine.few
]

-- what is at most is known: of a view from 1 on none is at most the clock that stands for an absent one
covers_at_most : (c d : CountList) → list_all (λ e. nat_lt 0 e.1) d ≡ true → counts_at_most d c ≡ true → covers c d ≡ true
covers_at_most c [] positive held = refl
covers_at_most c (e ∷ d) positive held =
    let above = and_both (nat_lt 0 e.1) (list_all (λ x. nat_lt 0 x.1) d) positive in
    let parts = and_both (nat_le e.1 (count_of c e.0)) (counts_at_most d c) held in
    let here : is_some (find proc_cmp e.0 c) ≡ true = elim (option_cases (find proc_cmp e.0 c)) [
      | inl none ↦
          let nothing : nat_le e.1 0 ≡ true = ap (λ (o : Option ℕ). nat_le e.1 (unwrap_or o 0)) (sym none) ∙ parts.0 in
          let least : 0 < e.1 = lt_from 0 e.1 above.0 in
          let most : e.1 ≤ 0 = le_from e.1 0 nothing in
          absurd (omega arith)
      | inr some ↦ ap (λ (o : Option ℕ). is_some o) some.1
    ] in
    and_true (is_some (find proc_cmp e.0 c) && nat_le e.1 (count_of c e.0)) (covers c d)
    (and_true (is_some (find proc_cmp e.0 c)) (nat_le e.1 (count_of c e.0)) here parts.0) (covers_at_most c d above.1 parts.1)

outranks_at_most : (a b : Clock) → IsTrue (is_counts b.counts) → clock_at_most b a ≡ true → outranks a b ≡ true
outranks_at_most a b valid held = elim (or_cases (nat_lt b.view a.view) ((b.view == a.view) && counts_at_most b.counts a.counts) held) [
  | inl older ↦ ap (λ x. x || ((a.view == b.view) && covers a.counts b.counts)) older
  | inr alike ↦
      let parts = and_both (b.view == a.view) (counts_at_most b.counts a.counts) alike in
      let same : a.view ≡ b.view = sym (eqb-true b.view a.view parts.0) in
      let both : ((a.view == b.view) && covers a.counts b.counts) ≡ true =
      and_true (a.view == b.view) (covers a.counts b.counts) (eq-eqb a.view b.view same)
      (covers_at_most a.counts b.counts (valid_counts b.counts valid).positive parts.1) in
      ap (λ x. nat_lt b.view a.view || x) both ∙ or_right (nat_lt b.view a.view) true refl
]

pub known_at_most : (s : ClockList) (g : GroupNo) (b : Clock) → nat_lt 0 b.view ≡ true → IsTrue (is_counts b.counts) →
    clock_at_most b (clock_of s g) ≡ true → is_known (find group_cmp g s) b ≡ true
known_at_most s g b viewed valid held = elim (option_cases (find group_cmp g s)) [
  | inl none ↦
      let first : clock_at_most b (first_clock 0) ≡ true =
      ap (λ (o : Option Clock). clock_at_most b (unwrap_or o (first_clock 0))) (sym none) ∙ held in
      let least : 0 < b.view = lt_from 0 b.view viewed in
      absurd (elim (or_cases (nat_lt b.view 0) ((b.view == 0) && counts_at_most b.counts []) first) [
        | inl older ↦ let below : b.view < 0 = lt_from b.view 0 older in omega arith
        | inr alike ↦
            let same : b.view ≡ 0 = eqb-true b.view 0 (and_both (b.view == 0) (counts_at_most b.counts []) alike).0 in omega arith
      ])
  | inr some ↦
      let above : clock_at_most b some.0 ≡ true =
      ap (λ (o : Option Clock). clock_at_most b (unwrap_or o (first_clock 0))) (sym some.1) ∙ held in
      ap (λ (o : Option Clock). is_known o b) some.1 ∙ outranks_at_most some.0 b valid above
]

-- the clock at a place of the second time is known where its group is one of the known groups
pub known_listed : (s t : ClockList) (known : List GroupNo) (i : ℕ) (e : GroupNo × Clock) → i < length t → e ≡ get_or t i e →
    list_all (λ x. nat_lt 0 x.1.view) t ≡ true → AreKnown s t known → IsTrue (is_counts e.1.counts) → Contains known e.0 →
    is_known (find group_cmp e.0 s) e.1 ≡ true
known_listed s t known i e at read viewed are valid listed =
    let there : Contains t e = subst (Contains t) (sym read) (Contains-get_or t i e at) in
    let view : nat_lt 0 e.1.view ≡ true = each_contained (λ (x : GroupNo × Clock). nat_lt 0 x.1.view) t e viewed there in
    known_at_most s e.0 e.1 view valid (are e there listed)

-- ---- what is new is all that a join changes
-- two times have the same of each group of a third
abbrev Agree : ClockList → ClockList → ClockList → Type 0
Agree m s [] = Unit {0}
Agree m s (e ∷ t) = (find group_cmp e.0 m ≡ find group_cmp e.0 s) × Agree m s t

agree_itself : (s t : ClockList) → Agree s s t
agree_itself s [] = tt
agree_itself s (e ∷ t) = (refl, agree_itself s t)

agree_put : (m s t : ClockList) (g : GroupNo) (k : Clock) → T (below_all group_cmp g t) → Agree m s t → Agree (put group_cmp g k m) s t
agree_put m s [] g k all agree = tt
agree_put m s (e ∷ t) g k all agree =
    let parts = both_parts (is_lt (group_cmp g e.0)) (below_all group_cmp g t) all in
    let other : is_eq (group_cmp e.0 g) ≡ false =
    ap is_eq (group_total.antisymm e.0 g ∙ ap ordering_reverse (less_is (group_cmp g e.0) parts.0)) in (
      find-put group_cmp group_total e.0 g k m ∙ ap (λ b. cond b (Some k) (find group_cmp e.0 m)) other ∙ agree.0,
      agree_put m s t g k parts.1 agree.1,
    )

put_news : (s m t : ClockList) → IsTrue (is_time s) → T (is_sorted group_cmp m) → T (is_sorted group_cmp t) → Agree m s t →
    put_all (news s t) m ≡ join m t
put_news s m [] valid up rising agree = refl
put_news s m (e ∷ t) valid up rising agree =
    let parts = both_parts (below_all group_cmp e.0 t) (is_sorted group_cmp t) rising in
    let k = join_clocks (clock_of s e.0) e.1 in
    let same : join_clocks (clock_of m e.0) e.1 ≡ k = ap (λ (o : Option Clock). join_clocks (unwrap_or o (first_clock 0)) e.1) agree.0 in
    elim (is_known (find group_cmp e.0 s) e.1) as (λ b. is_known (find group_cmp e.0 s) e.1 ≡ b →
    put_all (cond b (news s t) ((e.0, k) ∷ news s t)) m ≡ join (put group_cmp e.0 (join_clocks (clock_of m e.0) e.1) m) t) [
      | true ↦ λ known. put_news s m t valid up parts.1 agree.1 ∙ ap (λ x. join x t) (sym (known_put s m e.0 e.1 valid up agree.0 known))
      | false ↦ λ _.
          put_news s (put group_cmp e.0 k m) t valid (is_sorted-put group_cmp group_total e.0 k m up)
          parts.1 (agree_put m s t e.0 k parts.0 agree.1)
          ∙ ap (λ c. join (put group_cmp e.0 c m) t) (sym same)
    ] refl

pub news_join : (s t : ClockList) → IsTrue (is_time s) → IsTrue (is_sorted group_cmp t) → put_all (news s t) s ≡ join s t
news_join s t valid rising = put_news s s t valid (as_T _ (sorted_time s valid)) (as_T _ rising) (agree_itself s t)

pub is_time-put_all : (es s : ClockList) → IsTrue (is_time s) → list_all (λ e. is_counts e.1.counts) es ≡ true →
    IsTrue (is_time (put_all es s))
is_time-put_all [] s valid each = valid
is_time-put_all (e ∷ es) s valid each =
    let parts = and_both (is_counts e.1.counts) (list_all (λ x. is_counts x.1.counts) es) each in
    is_time-put_all es (put group_cmp e.0 e.1 s) (is_time-put s e.0 e.1 valid parts.0) parts.1

-- ---- what is new, clock by clock
next_news : (s t : ClockList) (i : ℕ) (e : GroupNo × Clock) → i < length t → e ≡ get_or t i e →
    news s (drop i t) ≡ news s (e ∷ drop (i + 1) t)
next_news s t i e at read =
    ap (news s) (drop-cons t i e at)
    ∙ ap (λ x. news s (x ∷ drop (suc i) t)) (sym read)
    ∙ ap (λ n. news s (e ∷ drop n t)) (sym (add-one i))

pub news_skips : (s t items : ClockList) (i : ℕ) (e : GroupNo × Clock) → i < length t → e ≡ get_or t i e →
    is_known (find group_cmp e.0 s) e.1 ≡ true → items ++ news s (drop i t) ≡ news s t → items ++ news s (drop (i + 1) t) ≡ news s t
news_skips s t items i e at read known so_far =
    ap (λ xs. items ++ xs) (sym (next_news s t i e at read
    ∙ ap (λ b. cond b (news s (drop (i + 1) t)) ((e.0, join_clocks (clock_of s e.0) e.1) ∷ news s (drop (i + 1) t))) known))
    ∙ so_far

pub news_adds : (s t items : ClockList) (i : ℕ) (e : GroupNo × Clock) (k : Clock) → i < length t → e ≡ get_or t i e →
    is_known (find group_cmp e.0 s) e.1 ≡ false → k ≡ join_clocks (clock_of s e.0) e.1 → items ++ news s (drop i t) ≡ news s t →
    (items ++ (e.0, k) ∷ []) ++ news s (drop (i + 1) t) ≡ news s t
news_adds s t items i e k at read new joined so_far =
    append_assoc items ((e.0, k) ∷ []) (news s (drop (i + 1) t))
    ∙ ap (λ c. items ++ (e.0, c) ∷ news s (drop (i + 1) t)) joined
    ∙ ap (λ xs. items ++ xs) (sym (next_news s t i e at read
    ∙ ap (λ b. cond b (news s (drop (i + 1) t)) ((e.0, join_clocks (clock_of s e.0) e.1) ∷ news s (drop (i + 1) t))) new))
    ∙ so_far

-- clocks that are valid, and one more
pub all_valid_push : (es : ClockList) (g : GroupNo) (k : Clock) → list_all (λ e. is_counts e.1.counts) es ≡ true →
    IsTrue (is_counts k.counts) → list_all (λ e. is_counts e.1.counts) (es ++ (g, k) ∷ []) ≡ true
all_valid_push [] g k each valid = and_true (is_counts k.counts) true valid refl
all_valid_push (e ∷ es) g k each valid =
    let parts = and_both (is_counts e.1.counts) (list_all (λ x. is_counts x.1.counts) es) each in
    and_true (is_counts e.1.counts) (list_all (λ x. is_counts x.1.counts) (es ++ (g, k) ∷ [])) parts.0 (all_valid_push es g k parts.1 valid)

-- ---- room
-- the joined clock of each of the second time's groups has room
abbrev pub all_fit : ClockList → ClockList → Bool
all_fit s t = list_all (λ e. clock_has_room (join_clocks (clock_of s e.0) e.1)) t

fits_any : (s t : ClockList) → IsTrue (is_time s) → all_fit s t ≡ true → (g : GroupNo) →
    clock_has_room (join_clocks (clock_of s g) (clock_of t g)) ≡ true
fits_any s t valid all g = elim (option_cases (find group_cmp g t)) [
  | inr some ↦
      ap (λ (o : Option Clock). clock_has_room (join_clocks (clock_of s g) (unwrap_or o (first_clock 0)))) some.1
      ∙ found_holds group_exact (λ h c. clock_has_room (join_clocks (clock_of s h) c)) t all g some.0 some.1
  | inl none ↦
      ap (λ (o : Option Clock). clock_has_room (join_clocks (clock_of s g) (unwrap_or o (first_clock 0)))) none
      ∙ ap clock_has_room (join_clocks-first (clock_of s g))
      ∙ found_or group_exact (λ _ c. clock_has_room c) (first_clock 0) (λ _. refl) s (has_room-time s valid) g
]

pub has_room-join : (s t : ClockList) → IsTrue (is_time s) → IsTrue (is_sorted group_cmp t) → all_fit s t ≡ has_room (join s t)
has_room-join s t valid rising = both_ways _ _
    (λ all. room_from_fits s t (as_T _ (sorted_time s valid)) rising (fits_any s t valid all))
    (λ room. each_found group_total (λ g c. clock_has_room (join_clocks (clock_of s g) c)) t (as_T _ rising) (λ g c is.
    ap (λ (o : Option Clock). clock_has_room (join_clocks (clock_of s g) (unwrap_or o (first_clock 0)))) (sym is)
    ∙ fits_from_room s t rising room g))
