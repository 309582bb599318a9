-- How often a window changes.
use Rattle.std.proofs.Common.{◌≡◌, ◌⊎◌, ℕ, ◌+◌, ◌<◌, ◌≤◌, Bool, true, false, cond, not, min, List, [], ◌∷◌, ◌++◌, refl, sym, subst, arith}
use Rattle.std.proofs.Common.{inl, inr, true≢false, ◌∙◌}
use Rattle.std.specs.Prelude.{nat_le, ◌||◌}
use Rattle.std.proofs.lemmas.Bool.{leb-true}
use Rattle.cast_pace.specs.Speeds.{Flow, counted, is_late, less_window, may_grow, more_window, heard_late, heard_in_time}
use Rattle.cast_pace.specs.Changes.{Happening, Wait, Hear, flow_with, flow_after, acknowledgements, has_wait}
use Rattle.cast_pace.specs.Changes.{AsManyComeFirst, AsManyComeBetween, AWaitComesFirst, AWaitComesBetween}

abbrev InRange : Flow → Type 0
InRange flow = (4 ≤ flow.window) × (flow.window ≤ 65536)

-- so many more acknowledgements came, and a cast had to wait or not
record Step (more : ℕ) (waits : Bool) (old new : Flow) : Type 0 where
  in_range : InRange new
  counts : new.since_less ≤ old.since_less + more
  less : new.window < old.window → (old.window ≤ old.since_less + more) × (new.since_less ≡ 0)
  counts_in_time : new.in_time ≤ old.in_time + more
  waited : new.has_waited ≡ true → (old.has_waited ≡ true) ⊎ (waits ≡ true)
  greater : old.window < new.window
      → (old.has_waited ≡ true) × (new.has_waited ≡ false) × (new.in_time ≡ 0)
      × (old.was_late ≡ true → old.window ≤ old.in_time + more)

step_late : (old : Flow) (least : ℕ) → InRange old → Step 1 false old (heard_late (counted old least))
step_late old least in_range = by (nat_le old.window (min (old.since_less + 1) 65536)) refl
  where
    late : Flow
    late = record (counted old least) { was_late = true; in_time = 0 }

    by : (b : Bool) → nat_le old.window (min (old.since_less + 1) 65536) ≡ b
        → Step 1 false old (cond b (record late { window = less_window old.window; since_less = 0 }) late)
    by true many = record {
      in_range = (omega arith, omega (arith, in_range.1));
      counts = omega arith;
      less = λ _. (omega (arith, leb-true old.window (min (old.since_less + 1) 65536) many), refl);
      counts_in_time = omega arith;
      waited = λ h. inl h;
      greater = λ lt. absurd (omega (arith, lt, in_range.0));
    }
    by false few = record {
      in_range = in_range;
      counts = omega arith;
      less = λ lt. absurd (omega (arith, lt));
      counts_in_time = omega arith;
      waited = λ h. inl h;
      greater = λ lt. absurd (omega (arith, lt));
    }

step_in_time : (old : Flow) (least : ℕ) → InRange old → Step 1 false old (heard_in_time (counted old least))
step_in_time old least in_range = by (not old.has_waited) refl (may_grow (counted old least)) refl
  where
    same : Flow
    same = counted old least

    negated : (b : Bool) → not b ≡ false → b ≡ true
    negated true h = refl
    negated false h = sym h

    by : (b : Bool) → not old.has_waited ≡ b → (d : Bool) → may_grow same ≡ d
        → Step 1 false old (cond b same (cond d
        (record same { window = more_window old.window; has_waited = false; in_time = 0 })
        (record same { in_time = old.in_time + 1 })))
    by true h d grow = record {
      in_range = in_range;
      counts = omega arith;
      less = λ lt. absurd (omega (arith, lt));
      counts_in_time = omega arith;
      waited = λ w. inl w;
      greater = λ lt. absurd (omega (arith, lt));
    }
    by false h true grow = record {
      in_range = (omega (arith, in_range.0), omega arith);
      counts = omega arith;
      less = λ lt. absurd (omega (arith, lt, in_range.1));
      counts_in_time = omega arith;
      waited = λ w. absurd (true≢false (sym w));
      greater = λ _. (
        negated old.has_waited h,
        refl,
        refl,
        λ late. leb-true old.window (old.in_time + 1)
            (subst (λ b. (not b || nat_le old.window (old.in_time + 1)) ≡ true) late grow),
      );
    }
    by false h false grow = record {
      in_range = in_range;
      counts = omega arith;
      less = λ lt. absurd (omega (arith, lt));
      counts_in_time = omega arith;
      waited = λ w. inl w;
      greater = λ lt. absurd (omega (arith, lt));
    }

step : (old : Flow) (one : Happening) → InRange old → Step (acknowledgements (one ∷ [])) (has_wait (one ∷ [])) old (flow_with old one)
step old Wait in_range = record {
  in_range = in_range;
  counts = omega arith;
  less = λ lt. absurd (omega (arith, lt));
  counts_in_time = omega arith;
  waited = λ _. inr refl;
  greater = λ lt. absurd (omega (arith, lt));
}
step old (Hear micros least) in_range = by (is_late (counted old least) micros least)
  where
    by : (b : Bool) → Step 1 false old (cond b (heard_late (counted old least)) (heard_in_time (counted old least)))
    by true = step_late old least in_range
    by false = step_in_time old least in_range

in_range_after : (delay : ℕ) (happenings : List Happening) → InRange (flow_after delay happenings)
in_range_after delay [] = (omega arith, omega arith)
in_range_after delay (one ∷ before) = (step (flow_after delay before) one (in_range_after delay before)).in_range

step_after : (delay : ℕ) (one : Happening) (before : List Happening)
    → Step (acknowledgements (one ∷ [])) (has_wait (one ∷ [])) (flow_after delay before) (flow_after delay (one ∷ before))
step_after delay one before = step (flow_after delay before) one (in_range_after delay before)

one_more : (one : Happening) (before : List Happening) →
    acknowledgements (one ∷ before) ≡ acknowledgements (one ∷ []) + acknowledgements before
one_more Wait before = omega arith
one_more (Hear micros least) before = omega arith

-- no more are counted than came
counts_after : (delay : ℕ) (between before : List Happening) →
    (flow_after delay (between ++ before)).since_less ≤ (flow_after delay before).since_less + acknowledgements between
counts_after delay [] before = omega arith
counts_after delay (one ∷ between) before =
    omega (
      arith,
      (step_after delay one (between ++ before)).counts,
      counts_after delay between before,
      one_more one between,
    )

none_before : (delay : ℕ) (before : List Happening) → (flow_after delay before).since_less ≤ acknowledgements before
none_before delay [] = omega arith
none_before delay (one ∷ before) =
    omega (arith, (step_after delay one before).counts, none_before delay before, one_more one before)

pub as_many_come_first : AsManyComeFirst
as_many_come_first delay one before less =
    omega (arith, ((step_after delay one before).less less).0, none_before delay before, one_more one before)

pub as_many_come_between : AsManyComeBetween
as_many_come_between delay one other between before first less =
    omega (
      arith,
      ((step_after delay one (between ++ other ∷ before)).less less).0,
      ((step_after delay other before).less first).1,
      counts_after delay between (other ∷ before),
      one_more one between,
    )

-- of those in time no more are counted than came
in_time_after : (delay : ℕ) (between before : List Happening) →
    (flow_after delay (between ++ before)).in_time ≤ (flow_after delay before).in_time + acknowledgements between
in_time_after delay [] before = omega arith
in_time_after delay (one ∷ between) before =
    omega (
      arith,
      (step_after delay one (between ++ before)).counts_in_time,
      in_time_after delay between before,
      one_more one between,
    )

-- a wait among some is one among more
wait_first : (one : Happening) (before : List Happening) → has_wait (one ∷ []) ≡ true → has_wait (one ∷ before) ≡ true
wait_first Wait before h = refl
wait_first (Hear micros least) before h = absurd (true≢false (sym h))

wait_behind : (one : Happening) (before : List Happening) → has_wait before ≡ true → has_wait (one ∷ before) ≡ true
wait_behind Wait before h = refl
wait_behind (Hear micros least) before h = h

-- that a cast had to wait is known from before, or one had to since
waited_after : (delay : ℕ) (between before : List Happening) → (flow_after delay (between ++ before)).has_waited ≡ true
    → ((flow_after delay before).has_waited ≡ true) ⊎ (has_wait between ≡ true)
waited_after delay [] before h = inl h
waited_after delay (one ∷ between) before h = elim ((step_after delay one (between ++ before)).waited h) [
  | inl earlier ↦ elim (waited_after delay between before earlier) [
    | inl known ↦ inl known
    | inr wait ↦ inr (wait_behind one between wait)
  ]
  | inr now ↦ inr (wait_first one between now)
]

waited_first : (delay : ℕ) (before : List Happening) → (flow_after delay before).has_waited ≡ true → has_wait before ≡ true
waited_first delay [] h = h
waited_first delay (one ∷ before) h = elim ((step_after delay one before).waited h) [
  | inl earlier ↦ wait_behind one before (waited_first delay before earlier)
  | inr now ↦ wait_first one before now
]

pub a_wait_comes_first : AWaitComesFirst
a_wait_comes_first delay one before more = waited_first delay before ((step_after delay one before).greater more).0

pub a_wait_comes_between : AWaitComesBetween
a_wait_comes_between delay one other between before first more =
    let then = (step_after delay other before).greater first in
    let now = (step_after delay one (between ++ other ∷ before)).greater more in (
      elim (waited_after delay between (other ∷ before) now.0) [
        | inl known ↦ absurd (true≢false (sym known ∙ then.1))
        | inr wait ↦ wait
      ],
      λ late. omega (
        arith,
        now.3 late,
        then.2,
        in_time_after delay between (other ∷ before),
        one_more one between,
      ),
    )
