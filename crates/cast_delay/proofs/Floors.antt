-- The floor under the rows: what raises it, and what it says of a row.
use Rattle.std.proofs.Common.{◌≡◌, ℕ, ◌+◌, ◌++◌, ◌≤◌, ◌<◌, Bool, true, false, cond, List, [], ◌∷◌, length, take, get_or, Contains, max}
use Rattle.std.proofs.Common.{refl, ap, sym, subst, ◌∙◌, inl, inr, arith}
use Rattle.std.specs.Prelude.{nat_le, nat_lt, not, ◌&&◌, ◌||◌, ◌==◌, ◌⊎◌, if◌then◌else◌, filter, Option, Some, None, unwrap_or}
use Rattle.std.specs.declared.cmp.Ordering.TheVariants.{Less, Equal, Greater}
use Rattle.std.specs.List.{list_all, All}
use Rattle.std.specs.Ordering.{eq_by_cmp, is_lt, nat_cmp, MatchOrdering}
use Rattle.std.specs.FinMap.Entries.{below_all, is_sorted, find, put, find-put}
use Rattle.std.proofs.lemmas.Bool.{and_from, and_parts, cases_Bool, leb-true, leb-false, le-leb, lt-ltb, ltb-true, ltb-false, eqb-true}
use Rattle.std.proofs.lemmas.Bool.{eq-eqb, or_cases, or_right, false≢true}
use Rattle.std.proofs.lemmas.Cmp.{ranked, tied_itself}
use Rattle.std.proofs.lemmas.List.Elements.{Contains-push, Contains-push_cases, All-contains, All-contains_itself, All-filter, All-more}
use Rattle.std.proofs.lemmas.List.Elements.{All-weaker, Contains-get_or}
use Rattle.cast_types.specs.declared.names.GroupNo.{GroupNo}
use Rattle.cast_types.specs.declared.clock.Clock.{Clock}
use Rattle.cast_types.specs.declared.source.Source.{Source}
use Rattle.cast_types.specs.declared.names.Proc.{Proc}
use Rattle.cast_types.specs.declared.names.Uid.{Uid}
use Rattle.cast_types.specs.Names.{Entry, group_cmp, proc_cmp, proc_eq}
use Rattle.cast_types.specs.Sets.{at_order}
use Rattle.cast_types.specs.Sources.{source, source_cmp}
use Rattle.cast_types.specs.Stamps.{ClockList}
use Rattle.cast_types.proofs.Orders.{group_total, group_exact, proc_total, proc_exact, tie_same}
use Rattle.cast_types.specs.Counts.{CountList, count_of}
use Rattle.cast_types.proofs.Contains.{all_from}
use Rattle.cast_types.proofs.Sources.{source_total, source_exact}
use Rattle.cast_clock.specs.Times.{clock_of, clock_at_most, counts_at_most, first_clock, join, join_clocks, join_counts, has_room, at_most}
use Rattle.cast_ready.specs.DeliveredCounts.{DeliveredCounts, count_at, raised_at}
use Rattle.cast_ready.specs.declared.row.Row.{Row}
use Rattle.cast_ready.specs.Ready.{is_member}
use Rattle.cast_ready.specs.Rows.{standing_in, done_in, has_passed_row, clock_of_one, delivered_row, told_row, IsLow, AreLow}
use Rattle.cast_delay.specs.Floors.{IsUnder, Rises, IsBelow, IsWithin, AreWithin, IsFloor, KeptIf, covers_told, stays_delivered, groups_of}
use Rattle.cast_delay.specs.declared.floor.Floor.{Floor}
use Rattle.cast_ready.specs.declared.offered.Offered.{Offered}
use Rattle.cast_ready.specs.declared.row.ProcessUpdate.{ProcessUpdate}
use Rattle.cast_ready.specs.declared.row.ProcessUpdate.TheVariants as fact
use Rattle.cast_types.specs.declared.names.Key.{Key}
use Rattle.cast_message.specs.Receipts.{key_eq}
use Rattle.cast_clock.proofs.Entries.{option_cases}
use Rattle.cast_delay.proofs.ListLemmas.{all_each, contains_cases}
use Rattle.cast_index.specs.Rises.{rises}
use Rattle.cast_delay.specs.Offers.{key_of}
use Rattle.std.specs.Option.{option_map_or}
use Rattle.cast_delay.specs.Queue.{change_row, after_delivery, offered_under}
use Rattle.cast_delay.specs.Settled.{is_next_of}
use Rattle.cast_delay.proofs.MemberLemmas.{found_member}
use Rattle.cast_delay.proofs.Reached.{raised_count, mapped_parts, found_there}

-- what all rows have passed may be raised
pub raised_under : (counts : DeliveredCounts) (rows : List Row) (s : Source) (n : ℕ) →
    list_all (λ row. has_passed_row row s n) rows ≡ true → IsUnder counts rows → IsUnder (raised_at s n counts) rows
raised_under counts rows s n all under row there t some = elim (cases_Bool (eq_by_cmp source_cmp t s)) [
  | inl tie ↦
      let is : count_at (raised_at s n counts) t ≡ max (count_at counts s) n =
      raised_count counts s t n ∙ ap (λ b. cond b (max (count_at counts s) n) (count_at counts t)) tie in
      let same : t ≡ s = tie_same source_exact t s tie in
      elim (cases_Bool (nat_le n (count_at counts s))) [
        | inl low ↦
            let le = leb-true n (count_at counts s) low in
            let kept : count_at (raised_at s n counts) t ≡ count_at counts t = is ∙ omega (arith, le) ∙ ap (count_at counts) (sym same) in
            subst (λ m. has_passed_row row t m ≡ true) (sym kept) (under row there t (omega (arith, kept, some)))
        | inr high ↦
            let lt = leb-false n (count_at counts s) high in
            let new : count_at (raised_at s n counts) t ≡ n = is ∙ omega (arith, lt) in
            subst (λ m. has_passed_row row t m ≡ true) (sym new)
            (subst (λ x. has_passed_row row x n ≡ true) (sym same) (all_each (λ (r : Row). has_passed_row r s n) rows all row there))
      ]
  | inr other ↦
      let kept : count_at (raised_at s n counts) t ≡ count_at counts t =
      raised_count counts s t n ∙ ap (λ b. cond b (max (count_at counts s) n) (count_at counts t)) other in
      subst (λ m. has_passed_row row t m ≡ true) (sym kept) (under row there t (omega (arith, kept, some)))
]

-- what is below counts is below greater ones
pub still_below : (old new : DeliveredCounts) (g : GroupNo) (view : ℕ) → Rises old new → (es : List Entry) →
    All (IsBelow old g view) es → All (IsBelow new g view) es
still_below old new g view rises es below =
    All-weaker (IsBelow old g view) (IsBelow new g view) (λ e is. (is.0, omega (arith, is.1, rises (source g view e.0)))) es below

-- and one more of a list
pub one_more : (counts : DeliveredCounts) (g : GroupNo) (view : ℕ) (items es : List Entry) (i : ℕ) (d : Entry) → items ≡ es →
    i < length items → All (IsBelow counts g view) (take i es) → IsBelow counts g view (get_or items i d) →
    All (IsBelow counts g view) (take (i + 1) es)
one_more counts g view items es i d same within before one =
    subst (λ xs. All (IsBelow counts g view) (take (i + 1) xs)) same
    (All-more (IsBelow counts g view) items i d within
    (subst (λ xs. All (IsBelow counts g view) (take i xs)) (sym same) before) one)

-- a group has a clock in a time, and that is within counts
pub record IsTaken (counts : DeliveredCounts) (times : ClockList) (g : GroupNo) : Type 0 where
  pub clock : Clock
  pub there : Contains times (g, clock)
  pub within : IsWithin counts g clock

-- what is within counts is within greater ones
pub still_within : (old new : DeliveredCounts) (g : GroupNo) (clock : Clock) → Rises old new → IsWithin old g clock → IsWithin new g clock
still_within old new g clock rises is = record { some = is.some; each = still_below old new g clock.view rises clock.counts is.each }

pub still_taken : (old new : DeliveredCounts) (times : ClockList) (g : GroupNo) → Rises old new → IsTaken old times g → IsTaken new times g
still_taken old new times g rises is = record {
  clock = is.clock;
  there = is.there;
  within = still_within old new g is.clock rises is.within;
}

-- what stands in a list whose keys rise from above a key has a key above it
below_each : {V : Type 0} (g : GroupNo) (es : List (GroupNo × V)) → below_all group_cmp g es ≡ true → (x : GroupNo × V) → Contains es x →
    is_lt (group_cmp g x.0) ≡ true
below_each g [] below x has = absurd (omega (arith, has.1))
below_each g (e ∷ es) below x has =
    let parts = and_parts (is_lt (group_cmp g e.0)) (below_all group_cmp g es) below in
    elim (contains_cases e x es has) [
      | inl here ↦ subst (λ y. is_lt (group_cmp g y.0) ≡ true) here parts.0
      | inr later ↦ below_each g es parts.1 x later
    ]

not_below_itself : (g : GroupNo) → is_lt (group_cmp g g) ≡ true → ⊥
not_below_itself g less = false≢true (sym (ap is_lt (tied_itself group_total g)) ∙ less)

-- where keys rise, a key has one value
one_value : {V : Type 0} (g : GroupNo) (a b : V) (es : List (GroupNo × V)) → is_sorted group_cmp es ≡ true → Contains es (g, a) →
    Contains es (g, b) → a ≡ b
one_value g a b [] sorted has has_too = absurd (omega (arith, has.1))
one_value g a b (e ∷ es) sorted has has_too =
    let parts = and_parts (below_all group_cmp e.0 es) (is_sorted group_cmp es) sorted in
    elim (contains_cases e (g, a) es has) [
      | inl first ↦ elim (contains_cases e (g, b) es has_too) [
        | inl second ↦ ap (λ x. x.1) (sym first ∙ second)
        | inr later ↦ absurd (not_below_itself g
            (subst (λ x. is_lt (group_cmp x.0 g) ≡ true) first (below_each e.0 es parts.0 (g, b) later)))
      ]
      | inr earlier ↦ elim (contains_cases e (g, b) es has_too) [
        | inl second ↦ absurd (not_below_itself g
            (subst (λ x. is_lt (group_cmp x.0 g) ≡ true) second (below_each e.0 es parts.0 (g, a) earlier)))
        | inr later ↦ one_value g a b es parts.1 earlier later
      ]
    ]

-- a group that is taken is within the counts wherever a time has it
pub taken_within : (counts : DeliveredCounts) (times : ClockList) → is_sorted group_cmp times ≡ true → (e : GroupNo × Clock) →
    Contains times e →
    IsTaken counts times e.0 → IsWithin counts e.0 e.1
taken_within counts times sorted e has is =
    subst (IsWithin counts e.0) (one_value e.0 is.clock e.1 times sorted is.there has) is.within

-- a row has passed what the floor has of a count of a clock
module _ (counts : DeliveredCounts) (row : Row)
    (under : (s : Source) → 0 < count_at counts s → has_passed_row row s (count_at counts s) ≡ true)
    (g : GroupNo) (member : is_member (standing_in row g) ≡ true) (view : ℕ) (e : Entry) (below : IsBelow counts g view e) where
  passed : (nat_le (count_at counts (source g view e.0)) (count_at row.done (source g view e.0)) ≡ true) ×
      (clock_at_most (clock_of_one (source g view e.0) (count_at counts (source g view e.0))) (clock_of row.time g) ≡ true)
  passed =
      let s = source g view e.0 in
      let n = count_at counts s in
      elim (or_cases (not (is_member (standing_in row g)))
      (nat_le n (count_at row.done s) && clock_at_most (clock_of_one s n) (clock_of row.time g))
      (under s (omega (arith, below.0, below.1)))) [
        | inl outside ↦ absurd (false≢true (sym (ap not member) ∙ outside))
        | inr both ↦ and_parts (nat_le n (count_at row.done s)) (clock_at_most (clock_of_one s n) (clock_of row.time g)) both
      ]

  pub low_count : e.1 ≤ count_at row.done (source g view e.0)
  low_count =
      omega (arith, below.1, leb-true (count_at counts (source g view e.0)) (count_at row.done (source g view e.0)) passed.0)

  -- by its time a later view is known, or this one with such a count
  pub low_time : (nat_lt view (clock_of row.time g).view ≡ true)
      ⊎ (((view == (clock_of row.time g).view) ≡ true) × (nat_le e.1 (count_of (clock_of row.time g).counts e.0) ≡ true))
  low_time =
      let d = clock_of row.time g in
      let n = count_at counts (source g view e.0) in
      elim (or_cases (nat_lt view d.view) ((view == d.view) && (nat_le n (count_of d.counts e.0) && true)) passed.1) [
        | inl later ↦ inl later
        | inr here ↦
            let parts = and_parts (view == d.view) (nat_le n (count_of d.counts e.0) && true) here in
            let least = and_parts (nat_le n (count_of d.counts e.0)) true parts.1 in
            inr (parts.0, le-leb e.1 (count_of d.counts e.0) (omega (arith, below.1, leb-true n (count_of d.counts e.0) least.0)))
      ]

-- so a clock that is within the counts is low for a row that lies above them
pub low_of : (counts : DeliveredCounts) (row : Row) →
    ((s : Source) → 0 < count_at counts s → has_passed_row row s (count_at counts s) ≡ true) →
    (g : GroupNo) → is_member (standing_in row g) ≡ true → (clock : Clock) → IsWithin counts g clock → IsLow row g clock
low_of counts row under g member clock is =
    let d = clock_of row.time g in
    let each : (e : Entry) → Contains clock.counts e → IsBelow counts g clock.view e =
    λ e has. All-contains (IsBelow counts g clock.view) clock.counts e is.each has in
    record {
      delivered = λ e has. low_count counts row under g member clock.view e (each e has);
      timed = elim (cases_Bool (nat_lt clock.view d.view)) [
        | inl later ↦ ap (λ b. b || ((clock.view == d.view) && counts_at_most clock.counts d.counts)) later
        | inr not_later ↦
            let here : (e : Entry) → Contains clock.counts e → ((clock.view == d.view) ≡ true) ×
            (nat_le e.1 (count_of d.counts e.0) ≡ true) =
            λ e has. elim (low_time counts row under g member clock.view e (each e has)) [
              | inl later ↦ absurd (false≢true (sym not_later ∙ later))
              | inr both ↦ both
            ] in
            let first : Entry = get_or clock.counts 0 (record { site = record { 0 = 0 }; serial = 0 }, 0) in
            rw not_later (and_from (clock.view == d.view) (counts_at_most clock.counts d.counts)
            (here first (Contains-get_or clock.counts 0 (record { site = record { 0 = 0 }; serial = 0 }, 0) is.some)).0
            (all_from (λ e. nat_le e.1 (count_of d.counts e.0)) clock.counts (λ e has. (here e has).1)))
      ];
    }

pub are_low : (counts : DeliveredCounts) (rows : List Row) → IsUnder counts rows → (row : Row) → Contains rows row → (times : ClockList)
    (groups : List GroupNo) → AreWithin counts times groups → AreLow row times groups
are_low counts rows under row there times groups within e has low member =
    low_of counts row (under row there) e.0 member e.1 (within e has low)

-- Times that grow

-- a put that raises a count lowers none
put_raises : (q : Proc) (v : ℕ) (c : CountList) → count_of c q ≤ v → (p : Proc) → count_of c p ≤ count_of (put proc_cmp q v c) p
put_raises q v c least p =
    let is : count_of (put proc_cmp q v c) p ≡ unwrap_or (cond (eq_by_cmp proc_cmp p q) (Some v) (find proc_cmp p c)) 0 =
    ap (λ (o : Option ℕ). unwrap_or o 0) (find-put proc_cmp proc_total p q v c) in
    elim (cases_Bool (eq_by_cmp proc_cmp p q)) [
      | inl tie ↦
          let same : p ≡ q = tie_same proc_exact p q tie in
          let new : count_of (put proc_cmp q v c) p ≡ v = is ∙ ap (λ b. unwrap_or (cond b (Some v) (find proc_cmp p c)) 0) tie in
          omega (arith, least, new, ap (count_of c) same)
      | inr other ↦
          let kept : count_of (put proc_cmp q v c) p ≡ count_of c p =
          is ∙ ap (λ b. unwrap_or (cond b (Some v) (find proc_cmp p c)) 0) other in
          omega (arith, kept)
    ]

join_raises : (c d : CountList) (p : Proc) → count_of c p ≤ count_of (join_counts c d) p
join_raises c [] p = omega arith
join_raises c (e ∷ d) p =
    let v = max (count_of c e.0) e.1 in
    omega (arith, put_raises e.0 v c (omega arith) p, join_raises (put proc_cmp e.0 v c) d p)

-- what one clock counts alone is at most a clock with a later view, or with the same and as great a count
one_at_most : (s : Source) (n : ℕ) (d : Clock) →
    (s.view < d.view) ⊎ ((s.view ≡ d.view) × (n ≤ count_of d.counts s.process)) → clock_at_most (clock_of_one s n) d ≡ true
one_at_most s n d (inl later) = ap (λ b. b || ((s.view == d.view) && (nat_le n (count_of d.counts s.process) && true)))
    (lt-ltb s.view d.view later)
one_at_most s n d (inr both) =
    ap (λ b. nat_lt s.view d.view || b)
    (and_from (s.view == d.view) (nat_le n (count_of d.counts s.process) && true) (eq-eqb s.view d.view both.0)
    (and_from (nat_le n (count_of d.counts s.process)) true (le-leb n (count_of d.counts s.process) both.1) refl))
    ∙ or_right (nat_lt s.view d.view) true refl

at_most_one : (s : Source) (n : ℕ) (d : Clock) → clock_at_most (clock_of_one s n) d ≡ true →
    (s.view < d.view) ⊎ ((s.view ≡ d.view) × (n ≤ count_of d.counts s.process))
at_most_one s n d is = elim (or_cases (nat_lt s.view d.view) ((s.view == d.view) && (nat_le n (count_of d.counts s.process) && true)) is) [
  | inl later ↦ inl (ltb-true s.view d.view later)
  | inr here ↦
      let parts = and_parts (s.view == d.view) (nat_le n (count_of d.counts s.process) && true) here in
      let least = and_parts (nat_le n (count_of d.counts s.process)) true parts.1 in
      inr (eqb-true s.view d.view parts.0, leb-true n (count_of d.counts s.process) least.0)
]

-- it stays so for a joined clock
joined_one : (s : Source) (n : ℕ) (a b : Clock) → clock_at_most (clock_of_one s n) a ≡ true →
    clock_at_most (clock_of_one s n) (join_clocks a b) ≡ true
joined_one s n a b is =
    let was = at_most_one s n a is in
    elim (nat_cmp a.view b.view) as (λ o. MatchOrdering o (a.view < b.view) (a.view ≡ b.view) (b.view < a.view) →
    clock_at_most (clock_of_one s n) (at_order o b (record { view = a.view; counts = join_counts a.counts b.counts }) a) ≡ true) [
      | Less ↦ λ older. one_at_most s n b (elim was [
        | inl later ↦ inl (omega (arith, later, older))
        | inr here ↦ inl (omega (arith, here.0, older))
      ])
      | Equal ↦ λ _. one_at_most s n (record { view = a.view; counts = join_counts a.counts b.counts }) (elim was [
        | inl later ↦ inl later
        | inr here ↦ inr (here.0, omega (arith, here.1, join_raises a.counts b.counts s.process))
      ])
      | Greater ↦ λ _. is
    ] (ranked a.view b.view (nat_cmp a.view b.view) refl)

-- and for a joined time
joined_time : (s : Source) (n : ℕ) (t u : ClockList) → clock_at_most (clock_of_one s n) (clock_of t s.group) ≡ true →
    clock_at_most (clock_of_one s n) (clock_of (join t u) s.group) ≡ true
joined_time s n t [] is = is
joined_time s n t (e ∷ u) is =
    let v = join_clocks (clock_of t e.0) e.1 in
    let put_one : clock_at_most (clock_of_one s n) (clock_of (put group_cmp e.0 v t) s.group) ≡ true =
    let found : clock_of (put group_cmp e.0 v t) s.group
    ≡ unwrap_or (cond (eq_by_cmp group_cmp s.group e.0) (Some v) (find group_cmp s.group t)) (first_clock 0) =
    ap (λ (o : Option Clock). unwrap_or o (first_clock 0)) (find-put group_cmp group_total s.group e.0 v t) in
    elim (cases_Bool (eq_by_cmp group_cmp s.group e.0)) [
      | inl tie ↦
          let same : s.group ≡ e.0 = tie_same group_exact s.group e.0 tie in
          let new : clock_of (put group_cmp e.0 v t) s.group ≡ v =
          found ∙ ap (λ b. unwrap_or (cond b (Some v) (find group_cmp s.group t)) (first_clock 0)) tie in
          subst (λ d. clock_at_most (clock_of_one s n) d ≡ true) (sym new)
          (joined_one s n (clock_of t e.0) e.1 (subst (λ x. clock_at_most (clock_of_one s n) (clock_of t x) ≡ true) same is))
      | inr other ↦
          let kept : clock_of (put group_cmp e.0 v t) s.group ≡ clock_of t s.group =
          found ∙ ap (λ b. unwrap_or (cond b (Some v) (find group_cmp s.group t)) (first_clock 0)) other in
          subst (λ d. clock_at_most (clock_of_one s n) d ≡ true) (sym kept) is
    ] in
    joined_time s n (put group_cmp e.0 v t) u put_one

-- Rows that change

-- a row that has delivered no less and whose time still covers what it covered has passed what it had
passed_still : (old new : Row) (s : Source) (n : ℕ) → standing_in new s.group ≡ standing_in old s.group →
    count_at old.done s ≤ count_at new.done s →
    (clock_at_most (clock_of_one s n) (clock_of old.time s.group) ≡ true →
    clock_at_most (clock_of_one s n) (clock_of new.time s.group) ≡ true) →
    has_passed_row old s n ≡ true → has_passed_row new s n ≡ true
passed_still old new s n stands done time is =
    let both = nat_le n (count_at old.done s) && clock_at_most (clock_of_one s n) (clock_of old.time s.group) in
    let after = nat_le n (count_at new.done s) && clock_at_most (clock_of_one s n) (clock_of new.time s.group) in
    elim (or_cases (not (is_member (standing_in old s.group))) both is) [
      | inl outside ↦ ap (λ b. b || after) (ap (λ x. not (is_member x)) stands ∙ outside)
      | inr inside ↦
          let parts = and_parts (nat_le n (count_at old.done s)) (clock_at_most (clock_of_one s n) (clock_of old.time s.group)) inside in
          ap (λ b. not (is_member (standing_in new s.group)) || b)
          (and_from (nat_le n (count_at new.done s)) (clock_at_most (clock_of_one s n) (clock_of new.time s.group))
          (le-leb n (count_at new.done s) (omega (arith, done, leb-true n (count_at old.done s) parts.0))) (time parts.1))
          ∙ or_right (not (is_member (standing_in new s.group))) true refl
    ]

-- so does one that delivered the next message, or a later one, of a source
delivered_still : (row : Row) (id : Uid) (times : ClockList) → done_in row id.group id.view id.proc ≤ id.count → (s : Source) (n : ℕ) →
    has_passed_row row s n ≡ true → has_passed_row (delivered_row id times row) s n ≡ true
delivered_still row id times next s n =
    let key = source id.group id.view id.proc in
    let found : count_at (put source_cmp key id.count row.done) s
    ≡ unwrap_or (cond (eq_by_cmp source_cmp s key) (Some id.count) (find source_cmp s row.done)) 0 =
    ap (λ (o : Option ℕ). unwrap_or o 0) (find-put source_cmp source_total s key id.count row.done) in
    passed_still row (delivered_row id times row) s n refl
    (elim (cases_Bool (eq_by_cmp source_cmp s key)) [
      | inl tie ↦
          let new : count_at (put source_cmp key id.count row.done) s ≡ id.count =
          found ∙ ap (λ b. unwrap_or (cond b (Some id.count) (find source_cmp s row.done)) 0) tie in
          omega (arith, next, new, ap (count_at row.done) (tie_same source_exact s key tie))
      | inr other ↦
          let kept : count_at (put source_cmp key id.count row.done) s ≡ count_at row.done s =
          found ∙ ap (λ b. unwrap_or (cond b (Some id.count) (find source_cmp s row.done)) 0) other in
          omega (arith, kept)
    ])
    (λ is. elim (has_room (join row.time times))
    as (λ b. clock_at_most (clock_of_one s n) (clock_of (if b then join row.time times else row.time) s.group) ≡ true) [
      | true ↦ joined_time s n row.time times is
      | false ↦ is
    ])

-- the floor stays under rows of which those of one process change so that they pass what they had
changed_under : (counts : DeliveredCounts) (p : Proc) (f : Row → Row) (rows : List Row) →
    ((row : Row) → Contains rows row → proc_eq row.process p ≡ true → (s : Source) (n : ℕ) → has_passed_row row s n ≡ true →
    has_passed_row (f row) s n ≡ true) → IsUnder counts rows → IsUnder counts (change_row p f rows)
changed_under counts p f rows still under row there s some =
    let old = mapped_parts (λ r. if proc_eq r.process p then f r else r) rows row there in
    let was = under old.0 old.1.0 s some in
    subst (λ r. has_passed_row r s (count_at counts s) ≡ true) old.1.1 (elim (cases_Bool (proc_eq old.0.process p)) [
      | inl own ↦
          subst (λ b. has_passed_row (if b then f old.0 else old.0) s (count_at counts s) ≡ true) (sym own)
          (still old.0 old.1.0 own s (count_at counts s) was)
      | inr other ↦
          subst (λ b. has_passed_row (if b then f old.0 else old.0) s (count_at counts s) ≡ true) (sym other) was
    ])

pub delivered_under : (counts : DeliveredCounts) (p : Proc) (id : Uid) (times : ClockList) (rows : List Row) → is_next_of p id rows ≡ true →
    IsUnder counts rows → IsUnder counts (change_row p (delivered_row id times) rows)
delivered_under counts p id times rows next =
    changed_under counts p (delivered_row id times) rows
    (λ row there own. delivered_still row id times (elim (or_cases (not (proc_eq row.process p))
    (nat_le (done_in row id.group id.view id.proc) id.count)
    (all_each (λ (r : Row). not (proc_eq r.process p) || nat_le (done_in r id.group id.view id.proc) id.count) rows next row there)) [
      | inl other ↦ absurd (false≢true (sym (ap not own) ∙ other))
      | inr least ↦ leb-true (done_in row id.group id.view id.proc) id.count least
    ]))

-- a clock that covers another covers what that one counts
one_through : (s : Source) (n : ℕ) (a b : Clock) → clock_at_most (clock_of_one s n) a ≡ true → clock_at_most a b ≡ true →
    clock_at_most (clock_of_one s n) b ≡ true
one_through s n a b is covers =
    let was = at_most_one s n a is in
    one_at_most s n b (elim (or_cases (nat_lt a.view b.view) ((a.view == b.view) && counts_at_most a.counts b.counts) covers) [
      | inl later ↦
          let lt = ltb-true a.view b.view later in
          elim was [ inl before ↦ inl (omega (arith, lt, before)) | inr here ↦ inl (omega (arith, lt, here.0)) ]
      | inr both ↦
          let parts = and_parts (a.view == b.view) (counts_at_most a.counts b.counts) both in
          let same = eqb-true a.view b.view parts.0 in
          elim was [
            | inl before ↦ inl (omega (arith, before, same))
            | inr here ↦ inr (
              omega (arith, here.0, same),
              elim (option_cases (find proc_cmp s.process a.counts)) [
                | inl none ↦ omega (arith, here.1, ap (λ (o : Option ℕ). unwrap_or o 0) none)
                | inr (k, at) ↦
                    let there = found_there proc_exact s.process k a.counts at in
                    let least = leb-true k (count_of b.counts s.process)
                    (all_each (λ (e : Entry). nat_le e.1 (count_of b.counts e.0)) a.counts parts.1 (s.process, k) there) in
                    omega (arith, here.1, ap (λ (o : Option ℕ). unwrap_or o 0) at, least)
              ],
            )
          ]
    ])

-- and so does a time
time_still : (s : Source) (n : ℕ) (t u : ClockList) → at_most t u ≡ true → clock_at_most (clock_of_one s n) (clock_of t s.group) ≡ true →
    clock_at_most (clock_of_one s n) (clock_of u s.group) ≡ true
time_still s n t u covers is = elim (option_cases (find group_cmp s.group t)) [
  | inl none ↦
      let first : clock_of t s.group ≡ first_clock 0 = ap (λ (o : Option Clock). unwrap_or o (first_clock 0)) none in
      let d = clock_of u s.group in
      one_at_most s n d (elim (at_most_one s n (first_clock 0) (subst (λ c. clock_at_most (clock_of_one s n) c ≡ true) first is)) [
        | inl before ↦ absurd (omega (arith, before))
        | inr here ↦ elim (cases_Bool (nat_lt 0 d.view)) [
          | inl later ↦ inl (omega (arith, here.0, ltb-true 0 d.view later))
          | inr not_later ↦ inr (omega (arith, here.0, ltb-false 0 d.view not_later), omega (arith, here.1))
        ]
      ])
  | inr (c, at) ↦
      let found : clock_of t s.group ≡ c = ap (λ (o : Option Clock). unwrap_or o (first_clock 0)) at in
      one_through s n c (clock_of u s.group) (subst (λ k. clock_at_most (clock_of_one s n) k ≡ true) found is)
      (all_each (λ (e : GroupNo × Clock). clock_at_most e.1 (clock_of u e.0)) t covers (s.group, c)
      (found_there group_exact s.group c t at))
]

pub told_under : (counts : DeliveredCounts) (p : Proc) (what : ProcessUpdate) (rows : List Row) → covers_told what p rows ≡ true →
    IsUnder counts rows → IsUnder counts (change_row p (told_row what) rows)
told_under counts p (fact.Standing g standing) rows covers = absurd (false≢true covers)
told_under counts p (fact.Time t) rows covers =
    changed_under counts p (told_row (fact.Time t)) rows
    (λ row there own s n. passed_still row (told_row (fact.Time t) row) s n refl (omega arith)
    (time_still s n row.time t (elim (or_cases (not (proc_eq row.process p)) (at_most row.time t)
    (all_each (λ (r : Row). not (proc_eq r.process p) || at_most r.time t) rows covers row there)) [
      | inl other ↦ absurd (false≢true (sym (ap not own) ∙ other))
      | inr is ↦ is
    ])))

-- The floor of a queue

pub no_floor : (rows : List Row) (offered : List Offered) (floor : Floor) → floor.counts ≡ [] → floor.groups.items ≡ [] →
    IsFloor rows offered floor
no_floor rows offered floor counts groups = record {
  under = λ row there s some. absurd (omega (arith, some, ap (λ (c : DeliveredCounts). count_at c s) counts));
  within = λ o there same e has kept. absurd (no_item e.0 (subst (λ (gs : List GroupNo). Contains gs e.0) groups kept));
}
  where
    no_item : (g : GroupNo) → Contains [] g → ⊥
    no_item g has = let none = has.1 in omega arith

pub floor_low : (rows : List Row) (offered : List Offered) (floor : Floor) → IsFloor rows offered floor → (row : Row) → Contains rows row →
    (o : Offered) → Contains offered o → (key : Key) → o.key ≡ key → AreLow row o.times (groups_of floor key)
floor_low rows offered floor is row there o has key same = elim (cases_Bool (key_eq floor.key key)) [
  | inl own ↦
      subst (λ b. AreLow row o.times (if b then floor.groups.items else [])) (sym own)
      (are_low floor.counts rows is.under row there o.times floor.groups.items
      (is.within o has (same ∙ sym (ap (λ n. record { 0 = n }) (eqb-true floor.key.0 key.0 own)))))
  | inr other ↦
      subst (λ b. AreLow row o.times (if b then floor.groups.items else [])) (sym other)
      (λ e in_times kept. absurd (no_item e.0 kept))
]
  where
    no_item : (g : GroupNo) → Contains [] g → ⊥
    no_item g none = let gone = none.1 in omega arith

filtered_there : {A : Type 0} (keep : A → Bool) (xs : List A) (x : A) → Contains (filter keep xs) x → Contains xs x
filtered_there keep xs x there =
    All-contains (Contains xs) (filter keep xs) x (All-filter keep (Contains xs) xs (All-contains_itself xs)) there

pub fewer_floor : (rows : List Row) (offered : List Offered) (keep : Offered → Bool) (floor : Floor) → IsFloor rows offered floor →
    IsFloor rows (filter keep offered) floor
fewer_floor rows offered keep floor is = record {
  under = is.under;
  within = λ o there. is.within o (filtered_there keep offered o there);
}

-- where keys rise, the last message alone has its key
last_above : (offered : List Offered) (o : Offered) → rises key_of (offered ++ o ∷ []) ≡ true → (x : Offered) → Contains offered x →
    key_of x < key_of o
last_above [] o rising x has = let none = has.1 in absurd (omega (arith, none))
last_above (y ∷ ys) o rising x has =
    let parts = and_parts (list_all (λ z. nat_lt (key_of y) (key_of z)) (ys ++ o ∷ [])) (rises key_of (ys ++ o ∷ [])) rising in
    elim (contains_cases y x ys has) [
      | inl here ↦ subst (λ z. key_of z < key_of o) here (ltb-true (key_of y) (key_of o)
          (all_each (λ (z : Offered). nat_lt (key_of y) (key_of z)) (ys ++ o ∷ []) parts.0 o (Contains-push ys o)))
      | inr later ↦ last_above ys o parts.1 x later
    ]

pub last_times : (offered : List Offered) (o : Offered) → rises key_of (offered ++ o ∷ []) ≡ true → (x : Offered) →
    Contains (offered ++ o ∷ []) x → x.key ≡ o.key → x.times ≡ o.times
last_times offered o rising x there same = elim (Contains-push_cases offered o x there) [
  | inl before ↦ absurd (omega (arith, last_above offered o rising x before, ap (λ (k : Key). k.0) same))
  | inr last ↦ ap (λ (m : Offered). m.times) (sym last)
]

pub kept_floor : (stays : Bool) (before after : Floor) (rows later : List Row) (offered : List Offered) → KeptIf stays before after →
    IsFloor rows offered before → (stays ≡ true → IsUnder before.counts rows → IsUnder before.counts later) → IsFloor later offered after
kept_floor true before after rows later offered same is under =
    subst (IsFloor later offered) (sym same) (record { under = under refl is.under; within = is.within })
kept_floor false before after rows later offered none is under = no_floor later offered after none.0 none.1

-- a delivery that stays leaves the floor under the rows
pub delivery_under : (counts : DeliveredCounts) (offered : List Offered) (p : Proc) (key : Key) (rows : List Row) →
    stays_delivered offered p key rows ≡ true → IsUnder counts rows → IsUnder counts (after_delivery offered p key rows)
delivery_under counts offered p key rows stays under = go (offered_under offered key) stays
  where
    go : (o : Option Offered) → option_map_or (λ (m : Offered). is_next_of p m.id rows) o true ≡ true →
        IsUnder counts (elim o [ Some m ↦ change_row p (delivered_row m.id m.times) rows | None ↦ rows ])
    go None is = under
    go (Some m) is = delivered_under counts p m.id m.times rows is under

-- the message under a key stands among those offered, under the key
under_there : (offered : List Offered) (key : Key) (o : Offered) → offered_under offered key ≡ Some o → Contains offered o × (o.key ≡ key)
under_there offered key o is =
    let both = found_member (λ (m : Offered). key_eq m.key key) offered o is in
    (both.0, ap (λ n. record { 0 = n }) (eqb-true o.key.0 key.0 both.1))

pub under_low : (rows : List Row) (offered : List Offered) (floor : Floor) → IsFloor rows offered floor → (key : Key) → (row : Row) →
    Contains rows row → (o : Offered) → offered_under offered key ≡ Some o → AreLow row o.times (groups_of floor key)
under_low rows offered floor is key row there o at =
    let both = under_there offered key o at in
    floor_low rows offered floor is row there o both.0 key both.1
