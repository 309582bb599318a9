-- What all members here have delivered of a process, and the first messages of a cut that are missing.
use Rattle.std.proofs.Common.{◌≡◌, ℕ, ◌+◌, ◌-◌, ◌≤◌, ◌<◌, zero, suc, Bool, true, false, not, ◌&&◌, ◌||◌, List, [], ◌∷◌, ◌++◌, length}
use Rattle.std.proofs.Common.{get_or, take, drop, map, filter, refl, sym, ap, ◌∙◌, arith, append_assoc, append-nil, inl, inr}
use Rattle.std.specs.Prelude.{if◌then◌else◌, min, nat_lt}
use Rattle.std.specs.List.{fold, range_with_len}
use Rattle.std.proofs.lemmas.Bool.{lt-ltb, le-ltb, ltb-true, or_left, or_right, or_cases, cases_lt}
use Rattle.std.proofs.lemmas.List.{length-take, length_push, take_all, take-append-le, at_drop_more, drop_all}
use Rattle.std.proofs.lemmas.List.Elements.{filter-append}
use Rattle.cast_types.specs.declared.names.GroupNo.{GroupNo}
use Rattle.cast_types.specs.declared.names.Proc.{Proc}
use Rattle.cast_types.specs.Names.{Entry, uid_in}
use Rattle.cast_types.specs.Counts.{CountList}
use Rattle.cast_types.proofs.Bools.{same_bools}
use Rattle.cast_ready.specs.declared.row.Row.{Row}
use Rattle.cast_ready.specs.Ready.{is_member, first_of, covered_entries}
use Rattle.cast_ready.specs.Rows.{standing_in, done_in, awaits_row}
use Rattle.cast_delay.specs.Queue.{is_awaited, least_in}
use Rattle.cast_domain.specs.declared.record.GroupRecord.{GroupRecord}

-- what is above the lesser of two is above one of them
below_lesser : (n d k : ℕ) → nat_lt (min n d) k ≡ (nat_lt n k || nat_lt d k)
below_lesser n d k =
    same_bools (nat_lt (min n d) k) (nat_lt n k || nat_lt d k)
    (λ less.
    let both = ltb-true (min n d) k less in
    elim (cases_lt n k) [
      | inl first ↦ or_left (nat_lt n k) (nat_lt d k) (lt-ltb n k first)
      | inr above ↦ or_right (nat_lt n k) (nat_lt d k) (lt-ltb d k (omega arith))
    ])
    (λ some. elim (or_cases (nat_lt n k) (nat_lt d k) some) [
      | inl first ↦ let less = ltb-true n k first in lt-ltb (min n d) k (omega arith)
      | inr second ↦ let less = ltb-true d k second in lt-ltb (min n d) k (omega arith)
    ])

or_none : (a : Bool) → a ≡ (a || false)
or_none true = refl
or_none false = refl

or_grouped : (a b c : Bool) → ((a || b) || c) ≡ (a || (b || c))
or_grouped true b c = refl
or_grouped false b c = refl

-- the least count so far, or that of one more member, is below a message's
one_more : (member : Bool) (n d k : ℕ) → nat_lt (if member then min n d else n) k ≡ (nat_lt n k || (member && nat_lt d k))
one_more true n d k = below_lesser n d k
one_more false n d k = or_none (nat_lt n k)

least_below : (g : GroupNo) (view : ℕ) (p : Proc) (k : ℕ) (rows : List Row) (n : ℕ) →
    nat_lt (fold (λ n row. if is_member (standing_in row g) then min n (done_in row g view p) else n) n rows)
    k ≡ (nat_lt n k || is_awaited rows (uid_in g view (p, k)))
least_below g view p k [] n = or_none (nat_lt n k)
least_below g view p k (row ∷ rows) n =
    let next : ℕ = if is_member (standing_in row g) then min n (done_in row g view p) else n in
    least_below g view p k rows next
    ∙ ap (λ b. b || is_awaited rows (uid_in g view (p, k))) (one_more (is_member (standing_in row g)) n (done_in row g view p) k)
    ∙ or_grouped (nat_lt n k) (awaits_row row (uid_in g view (p, k))) (is_awaited rows (uid_in g view (p, k)))

-- some member here awaits the messages of a process that are above what all of them have delivered
pub awaited_is : (g : GroupNo) (view : ℕ) (p : Proc) (k : ℕ) (rows : List Row) → k ≤ 4294967295 →
    is_awaited rows (uid_in g view (p, k)) ≡ nat_lt (least_in rows g view p) k
awaited_is g view p k rows small =
    sym (least_below g view p k rows 4294967295
    ∙ ap (λ b. b || is_awaited rows (uid_in g view (p, k))) (le-ltb 4294967295 k small))

-- so none awaits what all of them have delivered
pub awaited_none : (g : GroupNo) (view : ℕ) (p : Proc) (k : ℕ) (rows : List Row) (done : ℕ) → done ≡ least_in rows g view p →
    k ≤ 4294967295 → k ≤ done → is_awaited rows (uid_in g view (p, k)) ≡ false
awaited_none g view p k rows done least small within =
    awaited_is g view p k rows small ∙ ap (λ n. nat_lt n k) (sym least) ∙ le-ltb done k within

pub awaited_some : (g : GroupNo) (view : ℕ) (p : Proc) (k : ℕ) (rows : List Row) (done : ℕ) → done ≡ least_in rows g view p →
    k ≤ 4294967295 → done < k → is_awaited rows (uid_in g view (p, k)) ≡ true
awaited_some g view p k rows done least small above =
    awaited_is g view p k rows small ∙ ap (λ n. nat_lt n k) (sym least) ∙ lt-ltb done k above

-- Lists of missing messages

-- what is taken of a list with more behind it
take_twice : (n : ℕ) (xs ys : List Entry) → take n (take n xs ++ ys) ≡ take n (xs ++ ys)
take_twice zero xs ys = refl
take_twice (suc n) [] ys = refl
take_twice (suc n) (x ∷ xs) ys = ap (λ zs. x ∷ zs) (take_twice n xs ys)

-- what fills a list leaves no room
pub take_full : (n : ℕ) (xs ys : List Entry) → length xs ≤ n → n ≤ length xs → xs ≡ take n (xs ++ ys)
take_full n xs ys few full = sym (take-append-le n xs ys full ∙ take_all n xs few)

-- and a list has room for itself
take_whole : (n : ℕ) (xs ys : List Entry) → ys ≡ [] → length xs ≤ n → xs ≡ take n (xs ++ ys)
take_whole n xs ys none few = sym (ap (λ (zs : List Entry). take n (xs ++ zs)) none ∙ ap (take n) (append-nil xs) ∙ take_all n xs few)

-- what was taken is no more than that
pub taken_few : (n : ℕ) (xs new : List Entry) → new ≡ take n xs → length new ≤ n
taken_few n xs new made = omega (arith, length-take n xs, ap length made)

-- one more where there is room
pub few_more : (got : Bool) (n : ℕ) (e : Entry) (xs new : List Entry) → length xs < n → new ≡ (if got then xs else xs ++ e ∷ []) →
    length new ≤ n
few_more true n e xs new room made = omega (arith, ap length made)
few_more false n e xs new room made = omega (arith, ap length made, length_push xs e)

module _ (test : Entry → Bool) (p : Proc) where
  -- what is left of a process's messages behind so many
  abbrev pub left : ℕ → ℕ → List Entry
  left before last = filter test (map (λ k. (p, k)) (range_with_len (before + 1) (last - before)))

  -- with the next one before the rest
  abbrev next_left : ℕ → ℕ → Bool → List Entry
  next_left before last b = if b then (p, before + 1) ∷ left (before + 1) last else left (before + 1) last

  -- one more of them
  left_more : (before last : ℕ) → before < last → left before last ≡ next_left before last (test (p, before + 1))
  left_more before last less =
      let one : last - before ≡ suc (last - (before + 1)) = omega arith in
      ap (λ n. filter test (map (λ k. (p, k)) (range_with_len (before + 1) n))) one

  -- behind the last there is none
  left_none : (before last : ℕ) → last ≤ before → left before last ≡ []
  left_none before last le =
      let none : last - before ≡ 0 = omega arith in
      ap (λ n. filter test (map (λ k. (p, k)) (range_with_len (before + 1) n))) none

  -- those that fail the test may be passed over
  skip_from : (n a last : ℕ) → ((k : ℕ) → k ≤ a + n → k ≤ last → test (p, k) ≡ false) → left a last ≡ left (a + n) last
  skip_from zero a last none =
      let same : a ≡ a + 0 = omega arith in
      ap (λ m. left m last) same
  skip_from (suc n) a last none =
      let moved : a + 1 + n ≡ a + suc n = omega arith in
      elim (cases_lt a last) [
        | inl below ↦
            left_more a last below
            ∙ ap (next_left a last) (none (a + 1) (omega arith) (omega arith))
            ∙ skip_from n (a + 1) last (λ k within under. none k (omega arith) under)
            ∙ ap (λ m. left m last) moved
        | inr above ↦ left_none a last above ∙ sym (left_none (a + suc n) last (omega arith))
      ]

  -- of a process's messages those are left that stand behind the first ones, which fail the test
  pub first_left : (done last : ℕ) → ((k : ℕ) → k ≤ done → k ≤ last → test (p, k) ≡ false) →
      left done last ≡ filter test (first_of (p, last))
  first_left done last none =
      let from_none : 0 + done ≡ done = omega arith in
      let all : last - 0 ≡ last = omega arith in
      let skipped : left 0 last ≡ left (0 + done) last = skip_from done 0 last (λ k within under. none k (omega arith) under) in
      sym (skipped ∙ ap (λ m. left m last) from_none)
      ∙ ap (λ n. filter test (map (λ k. (p, k)) (range_with_len 1 n))) all

  -- one of them is added, unless it was received
  pub left_added : (before last : ℕ) (got : Bool) (xs new : List Entry) → before < last → test (p, before + 1) ≡ not got →
      new ≡ (if got then xs else xs ++ (p, before + 1) ∷ []) → new ++ left (before + 1) last ≡ xs ++ left before last
  left_added before last got xs new less is made =
      ap (λ (zs : List Entry). zs ++ left (before + 1) last) made
      ∙ added got
      ∙ sym (ap (λ (zs : List Entry). xs ++ zs) (left_more before last less ∙ ap (next_left before last) is))
    where
      added : (b : Bool) → (if b then xs else xs ++ (p, before + 1) ∷ []) ++ left (before + 1) last ≡ xs ++ next_left before last (not b)
      added true = refl
      added false = append_assoc xs ((p, before + 1) ∷ []) (left (before + 1) last)

  -- at the end none is left
  pub left_end : (xs : List Entry) (before last : ℕ) → length xs ≤ 64 → last ≤ before → xs ≡ take 64 (xs ++ left before last)
  left_end xs before last few end = take_whole 64 xs (left before last) (left_none before last end) few

-- the missing messages of one more process
pub missing_more : (test : GroupRecord → Entry → Bool) (x y : GroupRecord) → x ≡ y →
    (xs new : List Entry) (cut : CountList) (i : ℕ) (e : Entry) → i < length cut →
    new ≡ take 64 (xs ++ filter (test x) (first_of (get_or cut i e))) →
    take 64 (new ++ filter (test y) (covered_entries (drop (i + 1) cut))) ≡ take 64 (xs ++ filter (test y) (covered_entries (drop i cut)))
missing_more test x y same xs new cut i e within made =
    let here : List Entry = first_of (get_or cut i e) in
    let rest : List Entry = covered_entries (drop (i + 1) cut) in
    ap (λ (zs : List Entry). take 64 (zs ++ filter (test y) rest)) (made ∙ ap (λ z. take 64 (xs ++ filter (test z) here)) same)
    ∙ take_twice 64 (xs ++ filter (test y) here) (filter (test y) rest)
    ∙ ap (take 64) (append_assoc xs (filter (test y) here) (filter (test y) rest))
    ∙ ap (λ (zs : List Entry). take 64 (xs ++ zs)) (sym (filter-append (test y) here rest))
    ∙ sym (at_drop_more (λ (es : List Entry). take 64 (xs ++ filter (test y) (covered_entries es))) cut i e within)

-- those of all processes
pub missing_end : (test : Entry → Bool) (xs : List Entry) (cut : CountList) (i : ℕ) → length cut ≤ i → length xs ≤ 64 →
    xs ≡ take 64 (xs ++ filter test (covered_entries (drop i cut)))
missing_end test xs cut i end few =
    take_whole 64 xs (filter test (covered_entries (drop i cut)))
    (ap (λ (es : List Entry). filter test (covered_entries es)) (drop_all i cut end)) few
