-- A closed order stays as it is, and what is kept of it means it.
use Rattle.std.proofs.Common.{◌≡◌, ℕ, ◌+◌, ◌-◌, min, Bool, true, false, cond, not, List, ◌++◌, length}
use Rattle.std.proofs.Common.{append_assoc, take, drop, None, refl, ap, subst, ◌∙◌, sym, inl, inr, arith}
use Rattle.std.specs.Prelude.{if◌then◌else◌}
use Rattle.std.specs.List.{find, filter}
use Rattle.std.specs.Option.{option_or}
use Rattle.std.specs.Ordering.{eq_by_cmp}
use Rattle.std.proofs.lemmas.Bool.{cases_Bool, cases_lt}
use Rattle.std.proofs.lemmas.List.{append-nil, take-append-drop, take_min}
use Rattle.std.proofs.lemmas.List.Elements.{filter-append}
use Rattle.std.proofs.lemmas.List.Folds.{find-append}
use Rattle.cast_types.specs.declared.names.Proc.{Proc}
use Rattle.cast_types.specs.Names.{Entry, proc_cmp}
use Rattle.cast_types.proofs.Orders.{proc_exact, tie_same}
use Rattle.cast_order.specs.Order.{known_order, closed_order}
use Rattle.cast_order.specs.Log.{Log, place_of, next_in, pass_ids, closed_by}
use Rattle.cast_order.specs.Laws.{CloseEndsTheOrder, ClosedLearnsNothing, PassKeepsClosed}
use Rattle.cast_order.specs.Laws.{MoreKeepsClosed, HandKeepsClosed, NextIsOfTheClosed}
use Rattle.cast_order.proofs.Lists.{none_fails, none_fails_more, none_kept, take_on, none_first}
use Rattle.cast_order.proofs.Meanings.{taken_in, at_place}

-- the first ids of a closed order: of those that are forgotten, and of those that are kept
closed_parts : (w : Entry → Bool) (order ids : List Entry) (base start : ℕ) →
    closed_order w start ids order ≡ filter w (take (min base start) order) ++ filter w (take (start - base) (drop base order) ++ ids)
closed_parts w order ids base start =
    ap (λ front. filter w (front ++ ids)) first
    ∙ ap (filter w) (append_assoc (take (min base start) order) (take (start - base) (drop base order)) ids)
    ∙ filter-append w (take (min base start) order) (take (start - base) (drop base order) ++ ids)
  where
    first : take start order ≡ take (min base start) order ++ take (start - base) (drop base order)
    first = elim (cases_lt start base) [
      | inl less ↦
          let none : start - base ≡ 0 = omega (arith, less) in
          let here : start ≡ min base start = omega (arith, less) in
          ap (λ k. take k order) here
          ∙ sym (append-nil (take (min base start) order))
          ∙ ap (λ k. take (min base start) order ++ take k (drop base order)) (sym none)
      | inr least ↦
          let sum : start ≡ base + (start - base) = omega (arith, least) in
          let here : base ≡ min base start = omega (arith, least) in
          ap (λ k. take k order) sum
          ∙ take_on base (start - base) order
          ∙ ap (λ k. take k order ++ take (start - base) (drop base order)) here
    ]

pub close_fits : CloseEndsTheOrder
close_fits facts goes_on has_passed l fits w start ids =
    let known : List Entry = known_order facts in
    let base : ℕ = min l.base start in
    let front : List Entry = filter w (take base known) in
    let window : List Entry = filter w (take (start - l.base) l.window ++ ids) in
    record {
      front = front;
      whole = closed_parts w known ids l.base start ∙ ap (λ rest. front ++ filter w (take (start - l.base) rest ++ ids)) (sym fits.window);
      closed = refl;
      passed = λ p on.
          let t : Entry → Bool = λ e. not (has_passed p e) in
          let none : place_of (closed_by w start ids l) p - base ≡ 0 = omega arith in
          ap (λ k. find t (front ++ take k window)) none
          ∙ ap (find t) (append-nil front)
          ∙ none_kept t w (take base known) (none_first t base (place_of l p) known (omega arith) (fits.passed p on));
    }

pub closed_learns : ClosedLearnsNothing
closed_learns order goes_on has_passed l fits s = ap (λ b. if b then l else taken_in s l) fits.closed

-- how many of the kept ids a process has passed, after some process passed ids
kept_place : (p : Proc) (n : ℕ) (l : Log) (q : Proc) (b : Bool) → eq_by_cmp proc_cmp q p ≡ b →
    place_of (pass_ids p n l) q - l.base ≡ cond b (place_of l p - l.base + min n (length (next_in l p))) (place_of l q - l.base)
kept_place p n l q true is = let at = at_place p n l q true is in omega (arith, at)
kept_place p n l q false is = ap (λ k. k - l.base) (at_place p n l q false is)

pub closed_pass : PassKeepsClosed
closed_pass order goes_on has_passed l fits p n all = record {
  front = fits.front;
  whole = fits.whole;
  closed = fits.closed;
  passed = λ q on. elim (cases_Bool (eq_by_cmp proc_cmp q p)) [
    | inl tie ↦
        ap (λ k. find (λ e. not (has_passed q e)) (fits.front ++ take k l.window)) (kept_place p n l q true tie)
        ∙ subst (λ r. goes_on r ≡ true → find (λ e. not (has_passed r e)) (fits.front ++ take (at + most) l.window) ≡ None)
        (sym (tie_same proc_exact q p tie)) here on
    | inr other ↦
        ap (λ k. find (λ e. not (has_passed q e)) (fits.front ++ take k l.window)) (kept_place p n l q false other) ∙ fits.passed q on
  ];
}
  where
    at : ℕ
    at = place_of l p - l.base

    most : ℕ
    most = min n (length (next_in l p))

    here : goes_on p ≡ true → find (λ e. not (has_passed p e)) (fits.front ++ take (at + most) l.window) ≡ None
    here goes =
        let t : Entry → Bool = λ e. not (has_passed p e) in
        let before : List Entry = fits.front ++ take at l.window in
        ap (λ ids. find t (fits.front ++ ids)) (take_on at most l.window)
        ∙ ap (find t) (sym (append_assoc fits.front (take at l.window) (take most (next_in l p))))
        ∙ find-append t before (take most (next_in l p))
        ∙ ap (λ o. option_or o (find t (take most (next_in l p)))) (fits.passed p goes)
        ∙ ap (find t) (take_min n (next_in l p))
        ∙ none_fails (has_passed p) (take n (next_in l p)) all

pub closed_more : MoreKeepsClosed
closed_more order goes_on has_passed l fits goes_now has_now fewer more = record {
  front = fits.front;
  whole = fits.whole;
  closed = fits.closed;
  passed = λ p on. none_fails_more (has_passed p) (has_now p) (more p) (fits.front ++ take (place_of l p - l.base) l.window)
      (fits.passed p (fewer p on));
}

pub closed_hand : HandKeepsClosed
closed_hand order goes_on has_passed l fits p f = record {
  front = fits.front;
  whole = fits.whole;
  closed = fits.closed;
  passed = fits.passed;
}

pub closed_next : NextIsOfTheClosed
closed_next order goes_on has_passed l fits p on =
    let t : Entry → Bool = λ e. not (has_passed p e) in
    let at : ℕ = place_of l p - l.base in
    let before : List Entry = fits.front ++ take at l.window in
    ap (find t) fits.whole
    ∙ ap (λ ids. find t (fits.front ++ ids)) (sym (take-append-drop at l.window))
    ∙ ap (find t) (sym (append_assoc fits.front (take at l.window) (next_in l p)))
    ∙ find-append t before (next_in l p)
    ∙ ap (λ o. option_or o (find t (next_in l p))) (fits.passed p on)
