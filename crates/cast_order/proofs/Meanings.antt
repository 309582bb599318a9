-- What changes a group's log changes what it means in the same way; and what it means.
-- A log means an order, the facts that tell it, and a place in it for each process. It keeps only
-- the end of the order, from `base` on: `IsKept` says that this end is the true one. `learn_fits`,
-- `pass_fits` and `forget_fits` keep this: what is learnt joins the end, a place moves over ids
-- that were delivered, and what goes from the front was passed by all. The lemmas ending in
-- `_rules` read the log so.
use Rattle.std.proofs.Common.{◌≡◌, ℕ, ◌+◌, ◌-◌, ◌*◌, ◌<◌, ◌≤◌, min, max, Bool, true, false, cond, not, ◌&&◌, List, [], ◌++◌, length}
use Rattle.std.proofs.Common.{take, drop, length-append, Option, Some, None, unwrap_or, refl, sym, ap, subst, ◌∙◌, inl, inr, arith}
use Rattle.std.specs.Prelude.{nat_lt, nat_le, if◌then◌else◌}
use Rattle.std.specs.List.{find, list_all}
use Rattle.std.specs.Option.{option_or}
use Rattle.std.specs.Ordering.{eq_by_cmp}
use Rattle.std.specs.FinMap.Entries.{find as find_key, find-put}
use Rattle.std.proofs.lemmas.Bool.{cases_Bool, cases_lt, false≢true}
use Rattle.std.proofs.lemmas.List.{take-append-drop, take-append-le, take_min, length-take, length-drop, drop-drop, drop-append-le}
use Rattle.std.proofs.lemmas.List.Folds.{find-append}
use Rattle.cast_types.specs.declared.limits.TheConstants.{MAX_TAIL, MAX_POSITION}
use Rattle.cast_types.specs.declared.names.Proc.{Proc}
use Rattle.cast_types.specs.Names.{Entry, proc_cmp}
use Rattle.cast_types.proofs.Orders.{proc_total, proc_exact, tie_same}
use Rattle.cast_message.specs.Placement.{Placement}
use Rattle.cast_order.specs.Order.{Facts, facts_of, id_at, order_from, known_order, ids_to_list, tail_start, next_of}
use Rattle.cast_order.specs.Log.{Log, length_of, with_facts, place_of, next_in, pass_ids}
use Rattle.cast_order.specs.Log.{settle_log, with_placement, waiting_of, tail_start_in, forgot}
use Rattle.cast_order.specs.Fits.{Fits}
use Rattle.cast_order.specs.Laws.{NewFits, LearnKeepsMeaning, HandKeepsMeaning, PassKeepsMeaning, MoreKeepsMeaning}
use Rattle.cast_order.specs.Laws.{ForgetKeepsMeaning, AreOldest, OldestMayBeForgotten, NextIsTheRule}
use Rattle.cast_order.specs.Laws.{LengthIsTheRule, PastIsTheRule, AssignIsTheRule, WholeIsTheRule, TailIsTheRule}
use Rattle.cast_order.proofs.Lists.{none_fails, none_fails_more, all_first, none_first, take_on}
use Rattle.cast_order.proofs.Told.{id_at-append, facts_told, past_told, known_grows, none_known}

pub new_fits : NewFits
new_fits g goes_on has_passed = record {
  window = sym none_known;
  forgotten = omega arith;
  later = λ place low high. refl;
  passed = λ p on. refl;
  within = λ p. omega arith;
  still_open = refl;
}

-- an open log takes in a set-order message
abbrev pub taken_in : Placement → Log → Log
taken_in s l = settle_log (record l { later = with_facts (length_of l) l.later (facts_of s) })

pub with_placement_open : (s : Placement) (l : Log) → l.closed ≡ false → with_placement s l ≡ taken_in s l
with_placement_open s l still = ap (λ b. if b then l else taken_in s l) still

-- the group of a log that learns stays
pub with_placement_group : (s : Placement) (l : Log) → (with_placement s l).group ≡ l.group
with_placement_group s l = elim l.closed as (λ b. (if b then l else taken_in s l).group ≡ l.group) [ true ↦ refl | false ↦ refl ]

-- Ids that are forgotten

-- the order of a log that keeps all but its first ids
abbrev pub IsKept : List Entry → Log → Type 0
IsKept order l = (l.window ≡ drop l.base order) × (l.base ≤ length order)

-- as many are known as the order has
pub kept_length : (order : List Entry) (l : Log) → IsKept order l → length_of l ≡ length order
kept_length order l kept =
    let rest = ap length kept.0 in
    let less = length-drop l.base order in
    let le = kept.1 in
    omega (arith, rest, less, le)

-- from a place on that is not forgotten
pub kept_from : (order : List Entry) (l : Log) → IsKept order l → (n : ℕ) → l.base ≤ n → drop (n - l.base) l.window ≡ drop n order
kept_from order l kept n le =
    let at : l.base + (n - l.base) ≡ n = omega (arith, le) in
    ap (drop (n - l.base)) kept.0 ∙ drop-drop (n - l.base) l.base order ∙ ap (λ k. drop k order) at

-- what a process is to go through
pub next_kept : (order : List Entry) (l : Log) → IsKept order l → (p : Proc) → next_in l p ≡ drop (place_of l p) order
next_kept order l kept p = kept_from order l kept (place_of l p) (omega arith)

pub fits_kept : (facts : Facts) (goes_on : Proc → Bool) (has_passed : Proc → Entry → Bool) (l : Log) → Fits facts goes_on has_passed l →
    IsKept (known_order facts) l
fits_kept facts goes_on has_passed l fits = (fits.window, let le = fits.forgotten in omega (arith, le))

pub length_rules : LengthIsTheRule
length_rules facts goes_on has_passed l fits = kept_length (known_order facts) l (fits_kept facts goes_on has_passed l fits)

-- what it takes in was told of the places past those known
told_past : (facts : Facts) (goes_on : Proc → Bool) (has_passed : Proc → Entry → Bool) (l : Log) → Fits facts goes_on has_passed l →
    (s : Placement) → (place : ℕ) → length_of l < place → place ≤ MAX_POSITION →
    id_at (with_facts (length_of l) l.later (facts_of s)) place ≡ id_at (facts ++ facts_of s) place
told_past facts goes_on has_passed l fits s place low high =
    facts_told (length_of l) l.later (facts_of s) place low high
    ∙ ap (λ o. option_or o (id_at (facts_of s) place)) (fits.later place low high)
    ∙ sym (id_at-append facts (facts_of s) place)

-- what it adds to the order known
abbrev pub added : Placement → Log → List Entry
added s l = order_from (MAX_POSITION - length_of l) (length_of l + 1) (with_facts (length_of l) l.later (facts_of s))

pub order_on : (facts : Facts) (goes_on : Proc → Bool) (has_passed : Proc → Entry → Bool) (l : Log) → Fits facts goes_on has_passed l →
    (s : Placement) → known_order facts ++ added s l ≡ known_order (facts ++ facts_of s)
order_on facts goes_on has_passed l fits s =
    let later = with_facts (length_of l) l.later (facts_of s) in
    let known = known_order facts in
    let same : length_of l ≡ length known = length_rules facts goes_on has_passed l fits in
    ap (λ n. known ++ order_from (MAX_POSITION - n) (n + 1) later) same
    ∙ known_grows facts (facts_of s)
    later known refl (λ place low high. told_past facts goes_on has_passed l fits s place (omega (arith, same, low)) high)

-- what is forgotten stays what it was as more is learnt
pub learn_begins : (facts : Facts) (goes_on : Proc → Bool) (has_passed : Proc → Entry → Bool) (l : Log) → Fits facts goes_on has_passed l →
    (s : Placement) → take l.base (known_order (facts ++ facts_of s)) ≡ take l.base (known_order facts)
learn_begins facts goes_on has_passed l fits s =
    let le = fits.forgotten in
    ap (take l.base) (sym (order_on facts goes_on has_passed l fits s))
    ∙ take-append-le l.base (known_order facts) (added s l) (omega (arith, le))

-- what it takes in was told of the order
take_in_fits : (facts : Facts) (goes_on : Proc → Bool) (has_passed : Proc → Entry → Bool) (l : Log) → Fits facts goes_on has_passed l →
    (s : Placement) → Fits (facts ++ facts_of s) goes_on has_passed (taken_in s l)
take_in_fits facts goes_on has_passed l fits s =
    let later = with_facts (length_of l) l.later (facts_of s) in
    let now = taken_in s l in
    let known = known_order facts in
    let same : length_of l ≡ length known = length_rules facts goes_on has_passed l fits in
    let forgotten = fits.forgotten in
    let tells = told_past facts goes_on has_passed l fits s in
    let more = added s l in
    let whole = order_on facts goes_on has_passed l fits s in
    let grown : length known ≤ length (known_order (facts ++ facts_of s)) =
    let all = ap length whole in let sum = length-append known more in omega (arith, all, sum) in
    record {
      window =
          ap (λ w. w ++ more) fits.window
          ∙ sym (drop-append-le l.base known more (omega (arith, forgotten)))
          ∙ ap (drop l.base) whole;
      forgotten = omega (arith, forgotten, grown);
      later = λ place low high. past_told (length_of now) later place low
          ∙ tells place (let sum = length-append l.window more in omega (arith, low, sum)) high;
      passed = λ p on.
          ap (λ order. find (λ e. not (has_passed p e)) (take (place_of l p) order)) (sym whole)
          ∙ ap (find (λ e. not (has_passed p e))) (take-append-le (place_of l p) known more (fits.within p))
          ∙ fits.passed p on;
      within = λ p. let le = fits.within p in omega (arith, le, grown);
      still_open = fits.still_open;
    }

pub learn_fits : LearnKeepsMeaning
learn_fits facts goes_on has_passed l fits s =
    subst (Fits (facts ++ facts_of s) goes_on has_passed) (sym (with_placement_open s l fits.still_open))
    (take_in_fits facts goes_on has_passed l fits s)

pub hand_fits : HandKeepsMeaning
hand_fits facts goes_on has_passed l fits p f = record {
  window = fits.window;
  forgotten = fits.forgotten;
  later = fits.later;
  passed = fits.passed;
  within = fits.within;
  still_open = fits.still_open;
}

-- where a process stands after some process passed ids
passed_place : (p : Proc) (n : ℕ) (l : Log) (q : Proc) →
    place_of (pass_ids p n l) q ≡ cond (eq_by_cmp proc_cmp q p) (place_of l p + min n (length (next_in l p))) (place_of l q)
passed_place p n l q =
    let place = place_of l p + min n (length (next_in l p)) in
    ap (λ (o : Option ℕ). max l.base (unwrap_or o 0)) (find-put proc_cmp proc_total q p place l.places)
    ∙ elim (eq_by_cmp proc_cmp q p) as (λ b. max l.base (unwrap_or (cond b (Some place) (find_key proc_cmp q l.places)) 0)
    ≡ cond b place (place_of l q)) [ true ↦ omega arith | false ↦ refl ]

-- and that by whether it is the one that passed them
pub at_place : (p : Proc) (n : ℕ) (l : Log) (q : Proc) (b : Bool) → eq_by_cmp proc_cmp q p ≡ b →
    place_of (pass_ids p n l) q ≡ cond b (place_of l p + min n (length (next_in l p))) (place_of l q)
at_place p n l q b is = passed_place p n l q ∙ ap (λ c. cond c (place_of l p + min n (length (next_in l p))) (place_of l q)) is

-- each process that goes on has delivered the ids before its place, which is within the order known
abbrev pub HasPassed : (Proc → Bool) → (Proc → Entry → Bool) → List Entry → Log → Type 0
HasPassed goes_on has_passed order l = (p : Proc) → goes_on p ≡ true → find (λ e. not (has_passed p e)) (take (place_of l p) order) ≡ None

abbrev pub IsWithin : List Entry → Log → Type 0
IsWithin order l = (p : Proc) → place_of l p ≤ length order

-- both hold after a process passed ids that it has delivered
pub pass_passes : (goes_on : Proc → Bool) (has_passed : Proc → Entry → Bool) (order : List Entry) (l : Log) → IsKept order l →
    HasPassed goes_on has_passed order l → (p : Proc) (n : ℕ) → list_all (has_passed p) (take n (next_in l p)) ≡ true →
    HasPassed goes_on has_passed order (pass_ids p n l)
pass_passes goes_on has_passed order l kept before p n all q on = elim (cases_Bool (eq_by_cmp proc_cmp q p)) [
  | inl tie ↦
      ap (λ k. find (λ e. not (has_passed q e)) (take k order)) (at_place p n l q true tie)
      ∙ subst (λ r. goes_on r ≡ true → find (λ e. not (has_passed r e)) (take (place_of l p + min n (length (next_in l p))) order) ≡ None)
      (sym (tie_same proc_exact q p tie)) here on
  | inr other ↦ ap (λ k. find (λ e. not (has_passed q e)) (take k order)) (at_place p n l q false other) ∙ before q on
]
  where
    here : goes_on p ≡ true → find (λ e. not (has_passed p e)) (take (place_of l p + min n (length (next_in l p))) order) ≡ None
    here goes =
        let t : Entry → Bool = λ e. not (has_passed p e) in
        let most = min n (length (next_in l p)) in
        ap (find t) (take_on (place_of l p) most order)
        ∙ ap (λ rest. find t (take (place_of l p) order ++ take most rest)) (sym (next_kept order l kept p))
        ∙ find-append t (take (place_of l p) order) (take most (next_in l p))
        ∙ ap (λ o. option_or o (find t (take most (next_in l p)))) (before p goes)
        ∙ ap (find t) (take_min n (next_in l p))
        ∙ none_fails (has_passed p) (take n (next_in l p)) all

pub pass_within : (order : List Entry) (l : Log) → IsKept order l → IsWithin order l → (p : Proc) (n : ℕ) → IsWithin order (pass_ids p n l)
pass_within order l kept before p n q = elim (cases_Bool (eq_by_cmp proc_cmp q p)) [
  | inl tie ↦ subst (λ k. k ≤ length order) (sym (at_place p n l q true tie)) moved_within
  | inr other ↦ subst (λ k. k ≤ length order) (sym (at_place p n l q false other)) (before q)
]
  where
    moved_within : place_of l p + min n (length (next_in l p)) ≤ length order
    moved_within =
        let same = ap length (next_kept order l kept p) in
        let rest = length-drop (place_of l p) order in
        let was = before p in
        omega (arith, same, rest, was)

-- from where a process stands on, the first id that it has not delivered is that of all ids known
pub next_known : (goes_on : Proc → Bool) (has_passed : Proc → Entry → Bool) (order : List Entry) (l : Log) → IsKept order l →
    HasPassed goes_on has_passed order l → (p : Proc) → goes_on p ≡ true →
    next_of (has_passed p) order ≡ next_of (has_passed p) (next_in l p)
next_known goes_on has_passed order l kept before p on =
    let t : Entry → Bool = λ e. not (has_passed p e) in
    let front = take (place_of l p) order in
    ap (find t) (sym (take-append-drop (place_of l p) order))
    ∙ find-append t front (drop (place_of l p) order)
    ∙ ap (λ o. option_or o (find t (drop (place_of l p) order))) (before p on)
    ∙ ap (find t) (sym (next_kept order l kept p))

pub pass_fits : PassKeepsMeaning
pass_fits facts goes_on has_passed l fits p n all = record {
  window = fits.window;
  forgotten = fits.forgotten;
  later = fits.later;
  passed = pass_passes goes_on has_passed (known_order facts) l (fits_kept facts goes_on has_passed l fits) fits.passed p n all;
  within = pass_within (known_order facts) l (fits_kept facts goes_on has_passed l fits) fits.within p n;
  still_open = fits.still_open;
}

pub more_fits : MoreKeepsMeaning
more_fits facts goes_on has_passed l fits goes_now has_now fewer more = record {
  window = fits.window;
  forgotten = fits.forgotten;
  later = fits.later;
  passed =
      λ p on. none_fails_more (has_passed p) (has_now p) (more p) (take (place_of l p) (known_order facts)) (fits.passed p (fewer p on));
  within = fits.within;
  still_open = fits.still_open;
}

pub next_rules : NextIsTheRule
next_rules facts goes_on has_passed l fits p on =
    next_known goes_on has_passed (known_order facts) l (fits_kept facts goes_on has_passed l fits) fits.passed p on

pub past_rules : PastIsTheRule
past_rules facts goes_on has_passed l fits place =
    let kept = fits_kept facts goes_on has_passed l fits in
    let at : place - l.base ≡ max l.base place - l.base = omega arith in
    ap (λ n. drop n l.window) at ∙ kept_from (known_order facts) l kept (max l.base place) (omega arith)

pub assign_rules : AssignIsTheRule
assign_rules facts goes_on has_passed l fits token delivered listed stable p hand = λ i.
    if nat_lt 0 (length (hand.waiting i)) && nat_lt (length_rules facts goes_on has_passed l fits i) MAX_POSITION
    then Some (record { first = length_rules facts goes_on has_passed l fits i + 1; ids = ids_to_list (hand.waiting i); holder = None })
    else None

pub whole_rules : WholeIsTheRule
whole_rules facts goes_on has_passed l fits o =
    let le = fits.forgotten in
    (λ i. fits.window i ++ waiting_of l o)
    ∙ sym (drop-append-le l.base (known_order facts) (waiting_of l o) (omega (arith, le)))

pub tail_rules : TailIsTheRule
tail_rules facts goes_on has_passed l fits o =
    let order = known_order facts ++ waiting_of l o in
    let le = fits.forgotten in
    let known = length_rules facts goes_on has_passed l fits in
    let all = length-append (known_order facts) (waiting_of l o) in
    let start : tail_start_in l o ≡ tail_start order = omega (arith, le, known, all) in
    let at : l.base + (tail_start_in l o - l.base) ≡ tail_start order = omega (arith, start) in (
      start,
      ap (drop (tail_start_in l o - l.base)) (whole_rules facts goes_on has_passed l fits o)
          ∙ drop-drop (tail_start_in l o - l.base) l.base order
          ∙ ap (λ k. drop k order) at,
    )

-- First ids are forgotten

pub forget_fits : ForgetKeepsMeaning
forget_fits facts goes_on has_passed l fits count all few =
    let order : List Entry = known_order facts in
    let kept = fits_kept facts goes_on has_passed l fits in
    let known = length_rules facts goes_on has_passed l fits in
    let le = fits.forgotten in
    let now : Log = forgot count l in
    let more : ℕ = min (MAX_POSITION - l.base) (min count (length l.window)) in
    let most : more ≤ count = omega arith in
    let same : length_of now ≡ length_of l = let rest = length-drop more l.window in omega (arith, rest) in
    let gone : (p : Proc) → goes_on p ≡ true → find (λ e. not (has_passed p e)) (take (l.base + more) order) ≡ None =
    λ p on.
    let t : Entry → Bool = λ e. not (has_passed p e) in
    ap (find t) (take_on l.base more order)
    ∙ find-append t (take l.base order) (take more (drop l.base order))
    ∙ ap (λ o. option_or o (find t (take more (drop l.base order))))
    (none_first t l.base (place_of l p) order (omega arith) (fits.passed p on))
    ∙ ap (λ rest. find t (take more rest)) (sym fits.window)
    ∙ none_fails (has_passed p) (take more l.window) (all_first (has_passed p) more count l.window most (all p on)) in
    record {
      window = ap (drop more) fits.window ∙ drop-drop more l.base order ∙ ap (λ k. drop k order) (omega arith);
      forgotten = omega (arith, le, known, few, most);
      later = λ place low high. fits.later place (omega (arith, same, low)) high;
      passed = λ p on. elim (cases_lt (place_of l p) (l.base + more)) [
        | inl less ↦
            let at : place_of now p ≡ l.base + more = omega (arith, less) in
            ap (λ k. find (λ e. not (has_passed p e)) (take k order)) at ∙ gone p on
        | inr least ↦
            let at : place_of now p ≡ place_of l p = omega (arith, least) in
            ap (λ k. find (λ e. not (has_passed p e)) (take k order)) at ∙ fits.passed p on
      ];
      within = λ p. let far = fits.within p in omega (arith, far, known, few, most);
      still_open = fits.still_open;
    }

-- what may be forgotten of a log, by whether it is closed and long enough
oldest_if : (l : Log) (closed long : Bool) → l.closed ≡ closed → nat_le (2 * MAX_TAIL) (length l.window) ≡ long →
    AreOldest l (if not closed && long then take (length l.window - MAX_TAIL) l.window else [])
oldest_if l true long ended is = record { first = refl; few = omega arith; ended = λ _. refl }
oldest_if l false false opened is = record { first = refl; few = omega arith; ended = λ _. refl }
oldest_if l false true opened is =
    let size : length (take (length l.window - MAX_TAIL) l.window) ≡ length l.window - MAX_TAIL =
    let few = length-take (length l.window - MAX_TAIL) l.window in omega (arith, few) in
    record {
      first = ap (λ n. take n l.window) (sym size);
      few = omega (arith, size);
      ended = λ ended. absurd (false≢true (sym opened ∙ ended));
    }

pub oldest_rules : OldestMayBeForgotten
oldest_rules l = oldest_if l l.closed (nat_le (2 * MAX_TAIL) (length l.window)) refl refl

-- of a log of which nothing is forgotten, and in which each process is to go through all ids
pub at_start : (facts : Facts) (goes_on : Proc → Bool) (has_passed : Proc → Entry → Bool) (l : Log) → Fits facts goes_on has_passed l →
    ((p : Proc) → place_of l p ≡ 0) → (goes_now : Proc → Bool) → Fits facts goes_now has_passed l
at_start facts goes_on has_passed l fits none goes_now = record {
  window = fits.window;
  forgotten = fits.forgotten;
  later = fits.later;
  passed = λ p on. ap (λ k. find (λ e. not (has_passed p e)) (take k (known_order facts))) (none p);
  within = fits.within;
  still_open = fits.still_open;
}
