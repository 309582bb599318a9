-- How many ids the log of an order keeps after each change.
use Rattle.std.proofs.Common.{◌≡◌, ℕ, zero, suc, ◌+◌, ◌-◌, ◌≤◌, min, Bool, true, false, cond, ◌&&◌, ◌||◌, List, [], ◌∷◌, ◌++◌, length}
use Rattle.std.proofs.Common.{filter, take, Less, Equal, Greater, Some, None, refl, ap, subst, arith, inl, inr}
use Rattle.std.proofs.Common.{length-append, length-drop, length-take}
use Rattle.std.specs.Prelude.{◌==◌, nat_lt, nat_le, if◌then◌else◌}
use Rattle.std.specs.Option.{is_none, is_some, option_map}
use Rattle.std.specs.List.{find}
use Rattle.std.specs.Ordering.{nat_cmp}
use Rattle.std.specs.FinMap.Entries.{put, by_order}
use Rattle.std.proofs.lemmas.Bool.{cases_Bool, and_parts, lt-ltb, le-ltb, ltb-true, eqb-true, leb-true}
use Rattle.std.proofs.lemmas.List.FromFn.{length-enumerate_from}
use Rattle.std.proofs.lemmas.List.Sums.{length-filter, count_by-le-length}
use Rattle.cast_types.specs.declared.limits.TheConstants.{MAX_PLACED, MAX_POSITION}
use Rattle.cast_types.specs.declared.names.GroupNo.{GroupNo}
use Rattle.cast_types.specs.Names.{Entry}
use Rattle.cast_message.specs.Placement.{Placement, is_placement}
use Rattle.cast_order.specs.Order.{Facts, facts_of, id_at, order_from}
use Rattle.cast_order.specs.Log.{Log, new_log, length_of, with_fact, with_facts, longer, past, settle_log}
use Rattle.cast_order.specs.Log.{with_placement, closed_by, forgot}
use Rattle.cast_order.specs.Sizes.{size}
use Rattle.cast_order.proofs.Told.{order_next, order_ends}

-- what a test keeps is no more
filter_length : {A : Type 0} (keep : A → Bool) (xs : List A) → length (filter keep xs) ≤ length xs
filter_length keep xs = omega (arith, length-filter keep xs, count_by-le-length keep xs)

-- a place has at most one fact more
put_length : (place : ℕ) (e : Entry) (facts : Facts) → length (put nat_cmp place e facts) ≤ length facts + 1
put_length place e [] = omega arith
put_length place e (f ∷ facts) =
    elim (nat_cmp place f.0)
    as (λ o. length (by_order o ((place, e) ∷ f ∷ facts) ((f.0, e) ∷ facts) (f ∷ put nat_cmp place e facts)) ≤ suc (length facts) + 1) [
      | Less ↦ omega arith
      | Equal ↦ omega arith
      | Greater ↦ omega (arith, put_length place e facts)
    ]

one_fact : (new : Bool) (place : ℕ) (e : Entry) (facts : Facts) → length (cond new (put nat_cmp place e facts) facts) ≤ length facts + 1
one_fact true place e facts = put_length place e facts
one_fact false place e facts = omega arith

facts_more : (known : ℕ) (facts more : Facts) → length (with_facts known facts more) ≤ length facts + length more
facts_more known facts [] = omega arith
facts_more known facts (f ∷ more) =
    omega (
      arith,
      one_fact (nat_lt known f.0 && (nat_le f.0 MAX_POSITION && is_none (id_at facts f.0))) f.0 f.1 facts,
      facts_more known (with_fact known facts f.0 f.1) more,
    )

-- where so many more facts are past a place than past the next, they are so with one fact more
one_before : (known fewer : ℕ) (f : ℕ × Entry) (facts : Facts) → length (past (known + 1) facts) + fewer ≤ length (past known facts) →
    length (past (known + 1) (f ∷ facts)) + fewer ≤ length (past known (f ∷ facts))
one_before known fewer f facts rest = elim (cases_Bool (nat_lt (known + 1) f.0)) [
  | inl later ↦
      let above = ltb-true (known + 1) f.0 later in
      rw (later, lt-ltb known f.0 (omega arith)) (omega (arith, rest))
  | inr not_later ↦
      rw not_later
      (elim (nat_lt known f.0)
      as (λ b. length (past (known + 1) facts) + fewer ≤ length (cond b (f ∷ past known facts) (past known facts))) [
        | true ↦ omega (arith, rest)
        | false ↦ rest
      ])
]

-- past the next place there are no more facts
past_fewer : (known : ℕ) (facts : Facts) → length (past (known + 1) facts) + 0 ≤ length (past known facts)
past_fewer known [] = omega arith
past_fewer known (f ∷ facts) = one_before known 0 f facts (past_fewer known facts)

-- and fewer where the place has a fact
one_goes : (known : ℕ) (e : Entry) (facts : Facts) → id_at facts (known + 1) ≡ Some e →
    length (past (known + 1) facts) + 1 ≤ length (past known facts)
one_goes known e [] is = absurd cc
one_goes known e (f ∷ facts) is = elim (cases_Bool (f.0 == known + 1)) [
  | inl here ↦
      let same = eqb-true f.0 (known + 1) here in
      rw (le-ltb (known + 1) f.0 (omega arith), lt-ltb known f.0 (omega arith)) (omega (arith, past_fewer known facts))
  | inr other ↦
      let rest : id_at facts (known + 1) ≡ Some e =
      subst (λ b. option_map (λ (g : ℕ × Entry). g.1) (cond b (Some f) (find (λ g. g.0 == known + 1) facts)) ≡ Some e) other is in
      one_before known 1 f facts (one_goes known e facts rest)
]

-- for each id that joins the order known a fact goes
facts_go : (facts : Facts) (n known : ℕ) →
    length (order_from n (known + 1) facts) + length (past (known + length (order_from n (known + 1) facts)) facts)
    ≤ length (past known facts)
facts_go facts zero known = let same : known + 0 ≡ known = omega arith in omega (arith, ap (λ k. length (past k facts)) same)
facts_go facts (suc n) known =
    elim (id_at facts (known + 1)) as (λ o. id_at facts (known + 1) ≡ o → length (order_from (suc n) (known + 1) facts)
    + length (past (known + length (order_from (suc n) (known + 1) facts)) facts) ≤ length (past known facts)) [
      | Some e ↦ λ is.
          let rest = order_from n (known + 1 + 1) facts in
          let same : known + suc (length rest) ≡ known + 1 + length rest = omega arith in
          rw (order_next facts n (known + 1) e is)
          (omega (arith, ap (λ k. length (past k facts)) same, facts_go facts n (known + 1), one_goes known e facts is))
      | None ↦ λ none.
          let same : known + 0 ≡ known = omega arith in
          rw (order_ends facts (suc n) (known + 1) none) (omega (arith, ap (λ k. length (past k facts)) same))
    ] refl

-- so an order that goes on by what waits keeps no more ids
settled_size : (l : Log) → size (settle_log l) ≤ size l
settled_size l =
    let known = l.base + length l.window in
    let joined = order_from (MAX_POSITION - known) (known + 1) l.later in
    let long : length (longer l) ≡ length l.window + length joined = length-append l.window joined in
    let same : l.base + length (longer l) ≡ known + length joined = omega (arith, long) in
    omega (
      arith,
      long,
      ap (λ k. length (past k l.later)) same,
      facts_go l.later (MAX_POSITION - known) known,
      filter_length (λ f. nat_lt known f.0) l.later,
    )

pub new_size : (g : GroupNo) → size (new_log g) ≡ 0
new_size g = refl

pub learnt_size : (s : Placement) (l : Log) → size (with_placement s l) ≤ size l + length (facts_of s)
learnt_size s l =
    let told = record l { later = with_facts (length_of l) l.later (facts_of s) } in
    elim l.closed as (λ b. size (if b then l else settle_log told) ≤ size l + length (facts_of s)) [
      | true ↦ omega arith
      | false ↦ omega (arith, settled_size told, facts_more (length_of l) l.later (facts_of s))
    ]

pub few_told : (s : Placement) → is_placement s ≡ true → length (facts_of s) ≤ MAX_PLACED
few_told s valid =
    let ids = (and_parts (is_some s.holder || nat_le 1 (length s.ids)) (nat_le (length s.ids) 64)
    (and_parts (nat_le 1 s.first && nat_le s.first 4000000000)
    ((is_some s.holder || nat_le 1 (length s.ids)) && nat_le (length s.ids) 64) valid).1).1 in
    omega (arith, length-enumerate_from s.first s.ids, leb-true (length s.ids) 64 ids)

pub closed_size : (is_within : Entry → Bool) (start : ℕ) (ids : List Entry) (l : Log) →
    size (closed_by is_within start ids l) ≤ size l + length ids
closed_size is_within start ids l =
    let front = take (start - l.base) l.window in
    omega (arith, filter_length is_within (front ++ ids), length-append front ids, length-take (start - l.base) l.window)

pub forgot_size : (count : ℕ) (l : Log) → size (forgot count l) ≤ size l
forgot_size count l = omega (arith, length-drop (min (MAX_POSITION - l.base) (min count (length l.window))) l.window)
