-- The moments of a domain, one after the other, and the frames that are due then.
use Rattle.std.proofs.Common.{◌≡◌, ℕ, ◌+◌, ◌<◌, ◌≤◌, ◌⊎◌, Bool, true, false, cond, ◌&&◌, ◌||◌, List, [], ◌∷◌, ◌++◌}
use Rattle.std.proofs.Common.{filter, Option, Some, None, refl, sym, ap, ◌∙◌, length, length-append, inl, inr, arith}
use Rattle.std.specs.Prelude.{◌==◌, is_some, map, nat_le, nat_lt}
use Rattle.std.specs.Ordering.{is_gt, is_lt, nat_cmp, ordering_then}
use Rattle.std.specs.BTreeMap.{BTreeMap, is_at}
use Rattle.std.specs.BTreeMap.Range.{IsRangeOf}
use Rattle.std.specs.BTreeSet.{BTreeSet}
use Rattle.std.specs.Map.{lookup}
use Rattle.std.specs.declared.ops.Bound.TheVariants.{Included}
use Rattle.std.proofs.lemmas.Bool.{and_parts, and_from, cases_Bool, cases_lt, eqb-true, eq-eqb}
use Rattle.std.proofs.lemmas.Bool.{false_from_ne_true, false≢true, leb-true, le-leb, ltb-true, lt-ltb, or_right}
use Rattle.std.proofs.lemmas.Cmp.{by_ranked, ranked, tied_itself, nat_cmp_total}
use Rattle.std.proofs.lemmas.Map.Keys.{le_from_not_gt}
use Rattle.cast_types.specs.declared.names.DomainNo.{DomainNo}
use Rattle.cast_types.proofs.Rising.{rising_kept}
use Rattle.cast_timer.specs.declared.key.Moment.{Moment}
use Rattle.cast_timer.specs.declared.key.OwedKey.{OwedKey}
use Rattle.cast_timer.specs.declared.key.Owed.{Owed}
use Rattle.cast_timer.specs.Owed.{key_cmp, owed_cmp}
use Rattle.cast_timer.specs.Rows.{Row, moment_cmp, moment_eq, is_of, is_before, frames_at, row_at}
use Rattle.cast_timer.specs.Rows.{keys_at, has_key, is_held, owed_in, IsShaped, IsFree, IsFirst, IsNext}
use Rattle.cast_timer.specs.Index.{has}
use Rattle.cast_timer.specs.contracts.key.MomentOrd.TheImpl as moments
use Rattle.cast_timer.proofs.Index.{has_kept, kept_alike}
use Rattle.cast_timer.proofs.Orders.{before}
use Rattle.cast_timer.proofs.Rows.{looked_at, none_held, has_append, has_frames, owed_held, owed_rises, rising_with, row_moved, held_moved}
use Rattle.cast_timer.proofs.AllRenewed.{same_rising}

abbrev pub at_time : ℕ → DomainNo → Moment
at_time t d = record { due = t; domain = d }

-- Moments in order

in_order : (p q : Moment) → is_gt (moment_cmp p q) ≡ false → (p.due < q.due) ⊎ ((p.due ≡ q.due) × (p.domain.0 ≤ q.domain.0))
in_order p q h =
    by_ranked (p.due < q.due) (p.due ≡ q.due) (q.due < p.due) (nat_cmp p.due q.due) (ranked p.due q.due (nat_cmp p.due q.due) refl)
    (λ is lt. inl lt)
    (λ is same.
    inr (same, le_from_not_gt p.domain.0 q.domain.0 (sym (ap (λ r. is_gt (ordering_then r (nat_cmp p.domain.0 q.domain.0))) is) ∙ h)))
    (λ is gt. absurd (false≢true (sym h ∙ ap (λ r. is_gt (ordering_then r (nat_cmp p.domain.0 q.domain.0))) is)))

in_time : (d : DomainNo) (s t : ℕ) → s ≤ t → is_gt (moment_cmp (at_time s d) (at_time t d)) ≡ false
in_time d s t le =
    by_ranked (s < t) (s ≡ t) (t < s) (nat_cmp s t) (ranked s t (nat_cmp s t) refl)
    (λ is lt. ap (λ r. is_gt (ordering_then r (nat_cmp d.0 d.0))) is)
    (λ is same. ap (λ r. is_gt (ordering_then r (nat_cmp d.0 d.0))) is ∙ ap is_gt (tied_itself nat_cmp_total d.0))
    (λ is gt. absurd (omega arith))

none_or : {X : Type 0} (o : Option X) → (is_some o ≡ true → ⊥) → o ≡ None
none_or None never = refl
none_or (Some x) never = absurd (never refl)

-- the first of the rows between two moments of a domain
module _ (m : BTreeMap Moment (BTreeSet OwedKey)) (d : DomainNo) (from upto : ℕ) where
  pub first_found : (p : Moment) (s : BTreeSet OwedKey) (rest : List Row) →
      IsRangeOf moments.cmp-value.it (Included (at_time from d)) (Included (at_time upto d)) m ((p, s) ∷ rest) →
      IsFirst m.entries d from upto p
  first_found p s rest range =
      let inside = range.1 in
      record {
        after = elim (in_order (at_time from d) p inside.0.0) [ inl lt ↦ omega arith | inr same ↦ omega (arith, same.0) ];
        within = elim (in_order p (at_time upto d) inside.0.1) [ inl lt ↦ omega arith | inr same ↦ omega (arith, same.0) ];
        there = ap is_some (sym (looked_at p m.entries) ∙ inside.1);
        first = λ t low lt.
            none_or (row_at m.entries (at_time t d))
            (λ some. elim (in_order p (at_time t d) (range.2 (at_time t d)
            (in_time d from t low, in_time d t upto (upto_by t lt inside.0.1)) (ap is_some (looked_at (at_time t d) m.entries) ∙ some))) [
              | inl sooner ↦ absurd (omega arith)
              | inr same ↦ absurd (omega (arith, same.0))
            ]);
        below = λ under. elim (in_order (at_time from d) p inside.0.0) [ inl lt ↦ lt | inr same ↦ absurd (omega (arith, same.1)) ];
        above = λ over.
            let sooner : p.due < upto =
            elim (in_order p (at_time upto d) inside.0.1) [ inl lt ↦ lt | inr same ↦ absurd (omega (arith, same.1)) ] in (
              sooner,
              none_or (row_at m.entries (at_time p.due d))
                  (λ some. elim (in_order p (at_time p.due d) (range.2 (at_time p.due d) (
                    in_time d from p.due
                        (after_by inside.0.0),
                    in_time d p.due upto (omega arith),
                  ) (ap is_some (looked_at (at_time p.due d) m.entries) ∙ some))) [
                    | inl sooner ↦ absurd (omega arith)
                    | inr same ↦ absurd (omega (arith, same.1))
                  ]),
            );
      }
    where
      upto_by : (t : ℕ) → t < p.due → is_gt (moment_cmp p (at_time upto d)) ≡ false → t ≤ upto
      upto_by t lt high = elim (in_order p (at_time upto d) high) [ inl sooner ↦ omega arith | inr same ↦ omega (arith, same.0) ]

      after_by : is_gt (moment_cmp (at_time from d) p) ≡ false → from ≤ p.due
      after_by low = elim (in_order (at_time from d) p low) [ inl sooner ↦ omega arith | inr same ↦ omega (arith, same.0) ]

  pub none_found : IsRangeOf moments.cmp-value.it (Included (at_time from d)) (Included (at_time upto d)) m [] → (t : ℕ) → from ≤ t →
      t ≤ upto → IsFree m.entries (at_time t d)
  none_found range t low high =
      sym (looked_at (at_time t d) m.entries) ∙ range.5 refl (at_time t d) (in_time d from t low, in_time d t upto high)

-- The frames of a domain from one moment to another

abbrev pub is_between : ℕ → ℕ → Owed → Bool
is_between from now o = nat_le from o.due && nat_le o.due now

abbrev pub frames_between : ℕ → ℕ → List Owed → List Owed
frames_between from now os = filter (is_between from now) os

abbrev pub keys_between : ℕ → ℕ → List Owed → List OwedKey
keys_between from now os = map (λ o. o.key) (frames_between from now os)

none_pass : (os : List Owed) → filter (λ _. false) os ≡ []
none_pass [] = refl
none_pass (o ∷ os) = none_pass os

none_between : (keep : Owed → Bool) (os : List Owed) → ((o : Owed) → has os o ≡ true → keep o ≡ true → ⊥) → filter keep os ≡ []
none_between keep os never = kept_alike keep (λ _. false) os (λ o there. false_from_ne_true (keep o) (never o there)) ∙ none_pass os

pub past_now : (now : ℕ) (os : List Owed) → keys_between (now + 1) now os ≡ []
past_now now os =
    ap (λ (ps : List Owed). map (λ (o : Owed). o.key) ps)
    (none_between (is_between (now + 1) now) os (λ o there keep.
    let parts = and_parts (nat_le (now + 1) o.due) (nat_le o.due now) keep in
    absurd (omega (arith, leb-true (now + 1) o.due parts.0, leb-true o.due now parts.1))))

module _ (rows : List Row) (d : DomainNo) (shaped : IsShaped rows) where
  -- a frame that is owed is at a moment that has a row
  not_free : (o : Owed) → has (owed_in rows d) o ≡ true → IsFree rows (at_time o.due d) → ⊥
  not_free o there free = false≢true (sym (none_held rows (at_time o.due d) o.key free) ∙ sym (owed_held rows d o shaped) ∙ there)

  pub none_due : (from now : ℕ) → ((t : ℕ) → from ≤ t → t ≤ now → IsFree rows (at_time t d)) → keys_between from now (owed_in rows d) ≡ []
  none_due from now free =
      ap (λ (ps : List Owed). map (λ (o : Owed). o.key) ps)
      (none_between (is_between from now) (owed_in rows d) (λ o there keep.
      let parts = and_parts (nat_le from o.due) (nat_le o.due now) keep in
      not_free o there (free o.due (leb-true from o.due parts.0) (leb-true o.due now parts.1))))

  module _ (from now t : ℕ) (next : IsNext rows d from now t) where
    before_later : (k : OwedKey) (os : List Owed) → before (record { due = t; key = k }) (frames_between (t + 1) now os) ≡ true
    before_later k [] = refl
    before_later k (o ∷ os) = elim (cases_Bool (is_between (t + 1) now o)) [
      | inl keep ↦
          ap (λ b. before (record { due = t; key = k }) (cond b (o ∷ frames_between (t + 1) now os) (frames_between (t + 1) now os))) keep
          ∙ and_from (is_lt (owed_cmp (record { due = t; key = k }) o))
          (before (record { due = t; key = k }) (frames_between (t + 1) now os))
          (less o (leb-true (t + 1) o.due (and_parts (nat_le (t + 1) o.due) (nat_le o.due now) keep).0))
          (before_later k os)
      | inr goes ↦
          ap (λ b. before (record { due = t; key = k }) (cond b (o ∷ frames_between (t + 1) now os) (frames_between (t + 1) now os))) goes
          ∙ before_later k os
    ]
      where
        less : (o : Owed) → t + 1 ≤ o.due → is_lt (owed_cmp (record { due = t; key = k }) o) ≡ true
        less o le =
            by_ranked (t < o.due) (t ≡ o.due) (o.due < t) (nat_cmp t o.due) (ranked t o.due (nat_cmp t o.due) refl)
            (λ is lt. ap (λ r. is_lt (ordering_then r (key_cmp k o.key))) is)
            (λ is same. absurd (omega arith))
            (λ is gt. absurd (omega arith))

    to_parts : (o : Owed) → has (frames_between from now (owed_in rows d)) o ≡ true →
        has (frames_at (at_time t d) (keys_at rows (at_time t d)) ++ frames_between (t + 1) now (owed_in rows d)) o ≡ true
    to_parts o there =
        let parts =
        and_parts (is_between from now o) (has (owed_in rows d) o) (sym (has_kept (is_between from now) o (owed_in rows d)) ∙ there) in
        let bounds = and_parts (nat_le from o.due) (nat_le o.due now) parts.0 in
        has_append (frames_at (at_time t d) (keys_at rows (at_time t d))) (frames_between (t + 1) now (owed_in rows d)) o
        ∙ elim (cases_lt t o.due) [
          | inl after ↦
              or_right (has (frames_at (at_time t d) (keys_at rows (at_time t d))) o) (has (frames_between (t + 1) now (owed_in rows d)) o)
              (has_kept (is_between (t + 1) now) o (owed_in rows d)
              ∙ and_from (is_between (t + 1) now o) (has (owed_in rows d) o)
              (and_from (nat_le (t + 1) o.due) (nat_le o.due now) (le-leb (t + 1) o.due (omega arith)) bounds.1) parts.1)
          | inr upto ↦ elim (cases_lt o.due t) [
            | inl sooner ↦ absurd (not_free o parts.1 (next.first o.due (leb-true from o.due bounds.0) sooner))
            | inr same ↦
                let then : o.due ≡ t = omega arith in
                ap (λ b. b || has (frames_between (t + 1) now (owed_in rows d)) o)
                (has_frames (at_time t d) (keys_at rows (at_time t d)) o
                ∙ and_from (o.due == t) (has_key o.key (keys_at rows (at_time t d))) (eq-eqb o.due t then)
                (ap (λ (s : ℕ). is_held rows (at_time s d) o.key) (sym then) ∙ sym (owed_held rows d o shaped) ∙ parts.1))
          ]
        ]

    from_parts : (o : Owed) →
        has (frames_at (at_time t d) (keys_at rows (at_time t d)) ++ frames_between (t + 1) now (owed_in rows d)) o ≡ true →
        has (frames_between from now (owed_in rows d)) o ≡ true
    from_parts o there =
        let split =
        sym (has_append (frames_at (at_time t d) (keys_at rows (at_time t d))) (frames_between (t + 1) now (owed_in rows d)) o) ∙ there in
        has_kept (is_between from now) o (owed_in rows d)
        ∙ elim (cases_Bool (has (frames_at (at_time t d) (keys_at rows (at_time t d))) o)) [
          | inl first ↦
              let parts =
              and_parts (o.due == t) (has_key o.key (keys_at rows (at_time t d)))
              (sym (has_frames (at_time t d) (keys_at rows (at_time t d)) o) ∙ first) in
              let then = eqb-true o.due t parts.0 in
              and_from (is_between from now o) (has (owed_in rows d) o)
              (and_from (nat_le from o.due) (nat_le o.due now) (le-leb from o.due (omega (arith, next.after)))
              (le-leb o.due now (omega (arith, next.within))))
              (owed_held rows d o shaped ∙ ap (λ (s : ℕ). is_held rows (at_time s d) o.key) then ∙ parts.1)
          | inr other ↦
              let rest = sym (ap (λ b. b || has (frames_between (t + 1) now (owed_in rows d)) o) other) ∙ split in
              let parts =
              and_parts (is_between (t + 1) now o) (has (owed_in rows d) o)
              (sym (has_kept (is_between (t + 1) now) o (owed_in rows d)) ∙ rest) in
              let bounds = and_parts (nat_le (t + 1) o.due) (nat_le o.due now) parts.0 in
              and_from (is_between from now o) (has (owed_in rows d) o)
              (and_from (nat_le from o.due) (nat_le o.due now)
              (le-leb from o.due (omega (arith, next.after, leb-true (t + 1) o.due bounds.0))) bounds.1)
              parts.1
        ]

    -- the frames of the next moment are the first
    next_frames : frames_between from now (owed_in rows d)
        ≡ frames_at (at_time t d) (keys_at rows (at_time t d)) ++ frames_between (t + 1) now (owed_in rows d)
    next_frames =
        same_rising (frames_between from now (owed_in rows d))
        (frames_at (at_time t d) (keys_at rows (at_time t d)) ++ frames_between (t + 1) now (owed_in rows d))
        (rising_kept owed_cmp (is_between from now) (owed_in rows d) (owed_rises rows d shaped))
        (rising_with (at_time t d) (keys_at rows (at_time t d)) (frames_between (t + 1) now (owed_in rows d)) (shaped.keys (at_time t d))
        (rising_kept owed_cmp (is_between (t + 1) now) (owed_in rows d) (owed_rises rows d shaped))
        (λ k. before_later k (owed_in rows d)))
        to_parts from_parts

    pub next_keys : keys_between from now (owed_in rows d) ≡ keys_at rows (at_time t d) ++ keys_between (t + 1) now (owed_in rows d)
    next_keys =
        ap (λ (ps : List Owed). map (λ (o : Owed). o.key) ps) next_frames
        ∙ keys_of_frames (keys_at rows (at_time t d)) (frames_between (t + 1) now (owed_in rows d))
      where
        keys_of_frames : (ks : List OwedKey) (os : List Owed) →
            map (λ (o : Owed). o.key) (frames_at (at_time t d) ks ++ os) ≡ ks ++ map (λ (o : Owed). o.key) os
        keys_of_frames [] os = refl
        keys_of_frames (k ∷ ks) os = ap (λ rest. k ∷ rest) (keys_of_frames ks os)

-- Moments that are taken out one after the other

-- whether a moment is one of a domain's before another
abbrev pub is_past : DomainNo → ℕ → Moment → Bool
is_past d from p = is_of d p && nat_lt p.due from

module _ (d : DomainNo) (old rows new : List Row) (from now t : ℕ) (next : IsNext rows d from now t)
    (so_far : (p : Moment) (k : OwedKey) → is_held rows p k ≡ cond (is_past d from p) false (is_held old p k))
    (gone : (q : Moment) → lookup (is_at (moments.cmp-value.it q)) new ≡ cond (is_at (moments.cmp-value.it (at_time t d)) q)
    None (lookup (is_at (moments.cmp-value.it q)) rows)) where
  pub one_gone : (p : Moment) (k : OwedKey) → is_held new p k ≡ cond (is_past d (t + 1) p) false (is_held old p k)
  one_gone p k =
      held_moved (at_time t d) rows new None (row_moved (at_time t d) None rows new gone) p k
      ∙ elim (cases_Bool (is_of d p)) [
        | inr other ↦
            (λ i. cond ((t == p.due) && other i) false (is_held rows p k))
            ∙ never (t == p.due) (is_held rows p k)
            ∙ so_far p k
            ∙ (λ i. cond (other i && nat_lt p.due from) false (is_held old p k))
            ∙ sym (λ i. cond (other i && nat_lt p.due (t + 1)) false (is_held old p k))
        | inl its ↦ elim (cases_lt t p.due) [
          | inl after ↦
              (λ i. cond (((false_from_ne_true (t == p.due) (λ same. absurd (omega (arith, after, eqb-true t p.due same)))) i)
              && (d.0 == p.domain.0)) false (is_held rows p k))
              ∙ so_far p k
              ∙ (λ i. cond (its i
              && (false_from_ne_true (nat_lt p.due from) (λ lt. absurd (omega (arith, after, next.after, ltb-true p.due from lt)))) i)
              false (is_held old p k))
              ∙ sym (λ i.
              cond (its i && (false_from_ne_true (nat_lt p.due (t + 1)) (λ lt. absurd (omega (arith, after, ltb-true p.due (t + 1) lt)))) i)
              false (is_held old p k))
          | inr upto ↦
              none p k its upto
              ∙ sym (λ i. cond (its i && (lt-ltb p.due (t + 1) (omega (arith, upto))) i) false (is_held old p k))
        ]
      ]
    where
      never : (b c : Bool) → cond (b && false) false c ≡ c
      never true c = refl
      never false c = refl

      both : (b c : Bool) → c ≡ false → cond b false c ≡ false
      both true c none = refl
      both false c none = none

      none : (p : Moment) (k : OwedKey) → is_of d p ≡ true → p.due ≤ t → cond (moment_eq (at_time t d) p) false (is_held rows p k) ≡ false
      none p k its upto = elim (cases_lt p.due t) [
        | inr same ↦
            let then : t ≡ p.due = omega arith in
            (λ i. cond ((eq-eqb t p.due then i) && its i) false (is_held rows p k))
        | inl sooner ↦ both (moment_eq (at_time t d) p) (is_held rows p k) (elim (cases_lt p.due from) [
          | inl past ↦ so_far p k ∙ (λ i. cond (its i && (lt-ltb p.due from past) i) false (is_held old p k))
          | inr after ↦
              let place : at_time p.due d ≡ p = λ i. record { due = p.due; domain = record { 0 = eqb-true d.0 p.domain.0 its i } } in
              ap (λ q. is_held rows q k) (sym place) ∙ none_held rows (at_time p.due d) k (next.first p.due after sooner)
        ])
      ]

pub all_gone : (d : DomainNo) (old rows : List Row) (from now : ℕ) → ((t : ℕ) → from ≤ t → t ≤ now → IsFree rows (at_time t d)) →
    ((p : Moment) (k : OwedKey) → is_held rows p k ≡ cond (is_past d from p) false (is_held old p k)) → from ≤ now + 1 →
    (p : Moment) (k : OwedKey) → is_held rows p k ≡ cond (is_before d now p) false (is_held old p k)
all_gone d old rows from now free so_far le p k = elim (cases_Bool (is_of d p)) [
  | inr other ↦
      so_far p k
      ∙ (λ i. cond (other i && nat_lt p.due from) false (is_held old p k))
      ∙ sym (λ i. cond (other i && nat_le p.due now) false (is_held old p k))
  | inl its ↦ elim (cases_lt now p.due) [
    | inl after ↦
        so_far p k
        ∙ (λ i. cond (its i && (false_from_ne_true (nat_lt p.due from) (λ lt. absurd (omega (arith, after, le, ltb-true p.due from lt)))) i)
        false (is_held old p k))
        ∙ sym (λ i. cond (its i && (false_from_ne_true (nat_le p.due now) (λ le. absurd (omega (arith, after, leb-true p.due now le)))) i)
        false (is_held old p k))
    | inr upto ↦
        gone its upto
        ∙ sym (λ i. cond (its i && (le-leb p.due now upto) i) false (is_held old p k))
  ]
]
  where
    gone : is_of d p ≡ true → p.due ≤ now → is_held rows p k ≡ false
    gone its upto = elim (cases_lt p.due from) [
      | inl past ↦ so_far p k ∙ (λ i. cond (its i && (lt-ltb p.due from past) i) false (is_held old p k))
      | inr after ↦
          let place : at_time p.due d ≡ p = λ i. record { due = p.due; domain = record { 0 = eqb-true d.0 p.domain.0 its i } } in
          ap (λ q. is_held rows q k) (sym place) ∙ none_held rows (at_time p.due d) k (free p.due after upto)
    ]

-- How many frames are due

-- those of the next moment and those after it
pub next_count : (rows : List Row) (d : DomainNo) → IsShaped rows → (from now t : ℕ) → IsNext rows d from now t →
    length (keys_between from now (owed_in rows d))
    ≡ length (keys_at rows (at_time t d)) + length (keys_between (t + 1) now (owed_in rows d))
next_count rows d shaped from now t next =
    ap (λ (ks : List OwedKey). length ks) (next_keys rows d shaped from now t next)
    ∙ length-append (keys_at rows (at_time t d)) (keys_between (t + 1) now (owed_in rows d))
