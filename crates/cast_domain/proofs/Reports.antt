-- What a site reports where a group's view is flushed, and what it lacks of the view that ends: by
-- its records the same as by the history that they stand for.
-- The claims are `cut_there`, `missing_there` and `report_there`. The history names each message;
-- the records have rows, which say up to which count each process has delivered. A row that awaits
-- a message awaits all later ones of the same process, so the last message of a cut speaks for
-- those before it; and the greatest counts are the same on both sides, as each count of one side
-- is reached on the other.
use Rattle.std.proofs.Common.{◌≡◌, ℕ, zero, suc, ◌+◌, ◌<◌, ◌≤◌, ◌⊎◌, Bool, true, false, cond, not, ◌&&◌, ◌||◌, List, []}
use Rattle.std.proofs.Common.{◌∷◌, ◌++◌, map, Contains, Option, Some, None, refl, sym, ap, subst, ◌∙◌, inl, inr, arith}
use Rattle.std.specs.Prelude.{◌==◌, max, min, nat_lt, nat_le, if◌then◌else◌, filter, take, drop, slice_get}
use Rattle.std.specs.List.{fold, list_any, list_all, flat_map, range_with_len}
use Rattle.std.specs.Option.{option_map, option_map_or}
use Rattle.std.proofs.Math.Nat.{le-max_left, le-max_right}
use Rattle.std.proofs.lemmas.Bool.{cases_Bool, cases_lt, false≢true, and_parts, and_from, or_cases, or_left}
use Rattle.std.proofs.lemmas.Bool.{or_right, eqb-true, eq-eqb, ltb-true, lt-ltb, leb-true, false_from_ne_true}
use Rattle.std.proofs.lemmas.List.Folds.{list_all-append, list_any-append}
use Rattle.std.proofs.lemmas.List.{take-append-drop, take-append-le}
use Rattle.std.proofs.lemmas.List.Elements.{filter-append}
use Rattle.cast_types.specs.declared.names.GroupNo.{GroupNo}
use Rattle.cast_types.specs.declared.names.Proc.{Proc}
use Rattle.cast_types.specs.declared.names.Uid.{Uid}
use Rattle.cast_types.specs.declared.limits.TheConstants.{MAX_POSITION, MAX_PLACED, MAX_KEPT}
use Rattle.cast_types.specs.Names.{Entry, site_eq, group_eq, proc_eq, uid_eq, entry_eq, entry_cmp, is_atomic, uid_in, entry_of}
use Rattle.cast_types.specs.Sets.{is_among, set_of}
use Rattle.cast_types.specs.Counts.{CountList}
use Rattle.cast_types.specs.Sources.{source}
use Rattle.cast_types.proofs.Bools.{same_bools, neither}
use Rattle.cast_types.proofs.Contains.{contains_here, contains_later}
use Rattle.cast_types.proofs.Orders.{same_group, same_proc, same_uid, same_entry, group_itself, proc_itself, entry_itself, uid_itself}
use Rattle.cast_message.specs.declared.message.Message.{Message}
use Rattle.cast_view.specs.MemberSide.{greatest_of, counts_by, members_of, is_pending}
use Rattle.cast_ready.specs.declared.row.Row.{Row}
use Rattle.cast_ready.specs.Ready.{first_of, covered_entries, is_member, has_delivered}
use Rattle.cast_ready.specs.Rows.{standing_in, done_in, awaits_row}
use Rattle.cast_delay.specs.Queue.{is_awaited}
use Rattle.cast_ready.specs.DeliveredCounts.{counts_in}
use Rattle.cast_delay.proofs.Reached.{reached_most, reached_each}
use Rattle.cast_message.specs.Receipts.{messages}
use Rattle.cast_message.specs.Bodies.{kind_of}
use Rattle.cast_stable.specs.Acks.{is_received_in, last_received_in}
use Rattle.cast_stable.proofs.Lists.{contains_none, contains_cases}
use Rattle.cast_stable.proofs.Last.{last_most, last_each}
use Rattle.cast_order.specs.Log.{log_of, waiting_of, whole_kept}
use Rattle.cast_order.proofs.Meanings.{whole_rules, tail_rules}
use Rattle.cast_view.specs.Sites.{is_at}
use Rattle.cast_rules.specs.State.{State, no_process, local, serials, gate_of, is_received, may_speak, was_given}
use Rattle.cast_rules.specs.Lawful.{IsLawful}
use Rattle.cast_rules.specs.Order.{is_of_view, facts_in, order_told, holder_here, unlisted_ids}
use Rattle.cast_rules.specs.Reports.{had_here, had_in, unlisted_here, whole_order, tail_of, is_unplaced, kept_list}
use Rattle.cast_rules.specs.Reports.{kept_in, report_in, is_delivered_here, has_delivered_cut, is_missing, missing_in}
use Rattle.cast_domain.specs.Records.{Records}
use Rattle.cast_domain.specs.Fits.{Fits, record_for, process_named, TellsOrder, is_live, past_of, goes_on, has_passed}
use Rattle.cast_domain.specs.PartCalls.{record_at}
use Rattle.cast_domain.specs.FlushCalls.{holder_in, had_of, tail_in, is_kept_of, report_at}
use Rattle.cast_domain.specs.FlushCalls.{is_awaited_of, is_received_of, has_cut_of, missing_of}
use Rattle.cast_domain.proofs.Holders.{holder_there}
use Rattle.cast_domain.proofs.Ordering.{waiting_there}
use Rattle.cast_domain.proofs.Receipts.{live_now}
use Rattle.cast_domain.proofs.Standing.{record_there, process_here}
use Rattle.cast_domain.proofs.Releases.{awaited_same}

-- The greatest count of a process

-- a count raised to that of an entry, where the entry is of a process
abbrev raised : Proc → ℕ → Entry → ℕ
raised p n e = if proc_eq e.0 p then max n e.1 else n

greatest_from : (p : Proc) (a : ℕ) (xs : List Entry) → a ≤ fold (raised p) a xs
greatest_from p a [] = omega arith
greatest_from p a (x ∷ xs) = omega (arith, greatest_from p (raised p a x) xs, rises (proc_eq x.0 p))
  where
    rises : (b : Bool) → a ≤ (if b then max a x.1 else a)
    rises true = le-max_left a x.1
    rises false = omega arith

greatest_above : (p : Proc) (n a : ℕ) (xs : List Entry) → is_among entry_eq (p, n) xs ≡ true → n ≤ fold (raised p) a xs
greatest_above p n a [] some = cc
greatest_above p n a (x ∷ xs) some = elim (or_cases (entry_eq (p, n) x) (is_among entry_eq (p, n) xs) some) [
  | inl here ↦
      let same = same_entry (p, n) x here in
      subst (λ (e : Entry). n ≤ fold (raised p) (raised p a e) xs) same
      (let own : raised p a (p, n) ≡ max a n = ap (λ b. if b then max a n else a) (proc_itself p) in
      omega (arith, own, greatest_from p (raised p a (p, n)) xs, le-max_right a n))
  | inr later ↦ greatest_above p n (raised p a x) xs later
]

-- the greatest count is at least each
pub greatest_each : (p : Proc) (n : ℕ) (xs : List Entry) → is_among entry_eq (p, n) xs ≡ true → n ≤ greatest_of xs p
greatest_each p n xs some = greatest_above p n 0 xs some

raised_cases : (p : Proc) (a : ℕ) (x : Entry) → (raised p a x ≡ a) ⊎ ((raised p a x ≡ x.1) × (proc_eq x.0 p ≡ true))
raised_cases p a x = elim (cases_Bool (proc_eq x.0 p)) [
  | inl own ↦
      let is : raised p a x ≡ max a x.1 = ap (λ b. if b then max a x.1 else a) own in
      elim (cases_lt a x.1) [
        | inl less ↦ inr (omega (arith, is, less), own)
        | inr more ↦ inl (omega (arith, is, more))
      ]
  | inr other ↦ inl (ap (λ b. if b then max a x.1 else a) other)
]

greatest_reached : (p : Proc) (a : ℕ) (xs : List Entry) →
    (fold (raised p) a xs ≡ a) ⊎ (is_among entry_eq (p, fold (raised p) a xs) xs ≡ true)
greatest_reached p a [] = inl refl
greatest_reached p a (x ∷ xs) =
    let n : ℕ = fold (raised p) (raised p a x) xs in
    elim (greatest_reached p (raised p a x) xs) [
      | inl first ↦ elim (raised_cases p a x) [
        | inl kept ↦ inl (first ∙ kept)
        | inr (own, at) ↦ inr (or_left (entry_eq (p, n) x) (is_among entry_eq (p, n) xs)
            (and_from (proc_eq p x.0) (n == x.1) (subst (λ q. proc_eq p q ≡ true) (sym (same_proc x.0 p at)) (proc_itself p))
            (eq-eqb n x.1 (first ∙ own))))
      ]
      | inr later ↦ inr (or_right (entry_eq (p, n) x) (is_among entry_eq (p, n) xs) later)
    ]

-- and is one of them, unless it is 0
pub greatest_among : (p : Proc) (xs : List Entry) → 0 < greatest_of xs p → is_among entry_eq (p, greatest_of xs p) xs ≡ true
greatest_among p xs some = elim (greatest_reached p 0 xs) [
  | inl none ↦ absurd (omega (arith, some, none))
  | inr one ↦ one
]

-- where each count of a process in one list has one in another that is as great, its greatest count there is as great
greatest_under : (p : Proc) (xs ys : List Entry) → ((n : ℕ) → 0 < n → is_among entry_eq (p, n) xs ≡ true → n ≤ greatest_of ys p) →
    greatest_of xs p ≤ greatest_of ys p
greatest_under p xs ys under = elim (cases_lt 0 (greatest_of xs p)) [
  | inl some ↦ under (greatest_of xs p) some (greatest_among p xs some)
  | inr none ↦ omega (arith, none)
]

pub greatest_same : (p : Proc) (xs ys : List Entry) → ((n : ℕ) → 0 < n → is_among entry_eq (p, n) xs ≡ true → n ≤ greatest_of ys p) →
    ((n : ℕ) → 0 < n → is_among entry_eq (p, n) ys ≡ true → n ≤ greatest_of xs p) → greatest_of xs p ≡ greatest_of ys p
greatest_same p xs ys under over =
    let le = greatest_under p xs ys under in
    let ge = greatest_under p ys xs over in
    omega (arith, le, ge)

-- the counts depend on those of the processes in the list alone
counts_of_same : (f g : Proc → ℕ) (procs : List Proc) → ((p : Proc) → is_among proc_eq p procs ≡ true → f p ≡ g p) →
    ◌≡◌ {A = List Entry} (map (λ p. (p, f p)) procs) (map (λ p. (p, g p)) procs)
counts_of_same f g [] same = refl
counts_of_same f g (p ∷ procs) same =
    let here = same p (or_left (proc_eq p p) (is_among proc_eq p procs) (proc_itself p)) in
    let later = counts_of_same f g procs (λ q in_it. same q (or_right (proc_eq q p) (is_among proc_eq q procs) in_it)) in
    λ i. (p, here i) ∷ later i

pub counts_same : (f g : Proc → ℕ) (procs : List Proc) → ((p : Proc) → is_among proc_eq p procs ≡ true → f p ≡ g p) →
    counts_by f procs ≡ counts_by g procs
counts_same f g procs same = ap (filter (λ (e : Entry). nat_lt 0 e.1)) (counts_of_same f g procs same)

-- Lists

-- what stands in a list is among its items
among_there : (e : Entry) (xs : List Entry) → Contains xs e → is_among entry_eq e xs ≡ true
among_there e [] has = absurd (contains_none e has)
among_there e (x ∷ xs) has = elim (contains_cases e x xs has) [
  | inl here ↦ or_left (entry_eq e x) (is_among entry_eq e xs) (subst (λ y. entry_eq e y ≡ true) (sym here) (entry_itself e))
  | inr later ↦ or_right (entry_eq e x) (is_among entry_eq e xs) (among_there e xs later)
]

there_among : (e : Entry) (xs : List Entry) → is_among entry_eq e xs ≡ true → Contains xs e
there_among e [] has = cc
there_among e (x ∷ xs) has = elim (or_cases (entry_eq e x) (is_among entry_eq e xs) has) [
  | inl here ↦ subst (Contains (x ∷ xs)) (sym (same_entry e x here)) (contains_here x xs)
  | inr later ↦ contains_later e x xs (there_among e xs later)
]

-- what is among the items that pass a test passes, and is among all
module _ {A : Type 0} (eq : A → A → Bool) (exact : (x y : A) → eq x y ≡ true → x ≡ y) (t : A → Bool) where
  among_passing : (x : A) (xs : List A) → is_among eq x (filter t xs) ≡ true → (t x ≡ true) × (is_among eq x xs ≡ true)
  among_passing x [] has = cc
  among_passing x (y ∷ xs) has =
      at (λ more. let rest = among_passing x xs more in (rest.0, or_right (eq x y) (is_among eq x xs) rest.1)) (t y) refl has
    where
      at : (is_among eq x (filter t xs) ≡ true → (t x ≡ true) × (is_among eq x (y ∷ xs) ≡ true)) → (b : Bool) → t y ≡ b →
          is_among eq x (cond b (y ∷ filter t xs) (filter t xs)) ≡ true → (t x ≡ true) × (is_among eq x (y ∷ xs) ≡ true)
      at later true passes more = elim (or_cases (eq x y) (is_among eq x (filter t xs)) more) [
        | inl here ↦ (ap t (exact x y here) ∙ passes, or_left (eq x y) (is_among eq x xs) here)
        | inr rest ↦ later rest
      ]
      at later false fails more = later more

  passing_among : (x : A) (xs : List A) → t x ≡ true → is_among eq x xs ≡ true → is_among eq x (filter t xs) ≡ true
  passing_among x [] passes has = has
  passing_among x (y ∷ xs) passes has = at (passing_among x xs passes) (t y) refl
    where
      at : (is_among eq x xs ≡ true → is_among eq x (filter t xs) ≡ true) → (b : Bool) → t y ≡ b →
          is_among eq x (cond b (y ∷ filter t xs) (filter t xs)) ≡ true
      at later true _ = elim (or_cases (eq x y) (is_among eq x xs) has) [
        | inl here ↦ or_left (eq x y) (is_among eq x (filter t xs)) here
        | inr rest ↦ or_right (eq x y) (is_among eq x (filter t xs)) (later rest)
      ]
      at later false fails = elim (or_cases (eq x y) (is_among eq x xs) has) [
        | inl here ↦ absurd (false≢true (sym fails ∙ sym (ap t (exact x y here)) ∙ passes))
        | inr rest ↦ later rest
      ]

-- among the items of lists that are joined
among_joined : (u : Uid) (f : ℕ → List Uid) (ks : List ℕ) → is_among uid_eq u (flat_map f ks) ≡ list_any (λ k. is_among uid_eq u (f k)) ks
among_joined u f [] = refl
among_joined u f (k ∷ ks) =
    list_any-append (uid_eq u) (f k) (flat_map f ks)
    ∙ ap (λ b. is_among uid_eq u (f k) || b) (among_joined u f ks)

-- some number of a range passes
some_ranged : (t : ℕ → Bool) (a n : ℕ) → list_any t (range_with_len a n) ≡ true → (k : ℕ) × (t k ≡ true)
some_ranged t a zero some = cc
some_ranged t a (suc n) some = elim (or_cases (t a) (list_any t (range_with_len (a + 1) n)) some) [
  | inl here ↦ (a, here)
  | inr later ↦ some_ranged t (a + 1) n later
]

ranged_some : (t : ℕ → Bool) (a n k : ℕ) → a ≤ k → k < a + n → t k ≡ true → list_any t (range_with_len a n) ≡ true
ranged_some t a zero k low high passes = absurd (omega (arith, low, high))
ranged_some t a (suc n) k low high passes = elim (cases_lt a k) [
  | inl later ↦
      or_right (t a) (list_any t (range_with_len (a + 1) n)) (ranged_some t (a + 1) n k (omega (arith, later)) (omega (arith, high)) passes)
  | inr here ↦
      let same : k ≡ a = omega (arith, low, here) in
      or_left (t a) (list_any t (range_with_len (a + 1) n)) (subst (λ j. t j ≡ true) same passes)
]

-- processes with counts: a pair is among them where its process is and the count is that one's
among_counted : (f : Proc → ℕ) (p : Proc) (n : ℕ) (procs : List Proc) → is_among entry_eq (p, n) (map (λ q. (q, f q)) procs) ≡ true →
    (is_among proc_eq p procs ≡ true) × (n ≡ f p)
among_counted f p n [] has = cc
among_counted f p n (q ∷ procs) has =
    elim (or_cases (entry_eq (p, n) (q, f q)) (is_among entry_eq (p, n) (map (λ q. (q, f q)) procs)) has) [
      | inl here ↦
          let parts = and_parts (proc_eq p q) (n == f q) here in
          (or_left (proc_eq p q) (is_among proc_eq p procs) parts.0, eqb-true n (f q) parts.1 ∙ sym (ap f (same_proc p q parts.0)))
      | inr later ↦ let rest = among_counted f p n procs later in (or_right (proc_eq p q) (is_among proc_eq p procs) rest.0, rest.1)
    ]

counted_among : (f : Proc → ℕ) (p : Proc) (procs : List Proc) → is_among proc_eq p procs ≡ true →
    is_among entry_eq (p, f p) (map (λ q. (q, f q)) procs) ≡ true
counted_among f p [] has = has
counted_among f p (q ∷ procs) has = elim (or_cases (proc_eq p q) (is_among proc_eq p procs) has) [
  | inl here ↦
      or_left (entry_eq (p, f p) (q, f q)) (is_among entry_eq (p, f p) (map (λ q. (q, f q)) procs))
      (and_from (proc_eq p q) (f p == f q) here (eq-eqb (f p) (f q) (ap f (same_proc p q here))))
  | inr later ↦
      or_right (entry_eq (p, f p) (q, f q)) (is_among entry_eq (p, f p) (map (λ q. (q, f q)) procs)) (counted_among f p procs later)
]

-- What a cut covers

-- messages of a process from a count on
abbrev ranged : Proc → ℕ → ℕ → List Entry
ranged p a n = map (λ k. (p, k)) (range_with_len a n)

-- a test passes all of them exactly if it passes each
all_ranged : (t : Entry → Bool) (p : Proc) (a n : ℕ) → ((k : ℕ) → a ≤ k → k < a + n → t (p, k) ≡ true) → list_all t (ranged p a n) ≡ true
all_ranged t p a zero each = refl
all_ranged t p a (suc n) each =
    and_from (t (p, a)) (list_all t (ranged p (a + 1) n)) (each a (omega arith) (omega arith))
    (all_ranged t p (a + 1) n (λ k low high. each k (omega (arith, low)) (omega (arith, high))))

each_ranged : (t : Entry → Bool) (p : Proc) (a n : ℕ) → list_all t (ranged p a n) ≡ true → (k : ℕ) → a ≤ k → k < a + n → t (p, k) ≡ true
each_ranged t p a zero all k low high = absurd (omega (arith, low, high))
each_ranged t p a (suc n) all k low high =
    let parts = and_parts (t (p, a)) (list_all t (ranged p (a + 1) n)) all in
    elim (cases_lt a k) [
      | inl later ↦ each_ranged t p (a + 1) n parts.1 k (omega (arith, later)) (omega (arith, high))
      | inr here ↦ let same : a ≡ k = omega (arith, low, here) in subst (λ j. t (p, j) ≡ true) same parts.0
    ]

-- it passes all of the first messages exactly if it passes the last one, where it passes what comes before one that it passes
all_first : (t : Entry → Bool) (p : Proc) (n : ℕ) → 0 < n → ((k : ℕ) → 0 < k → k ≤ n → t (p, n) ≡ true → t (p, k) ≡ true) →
    t (p, n) ≡ list_all t (first_of (p, n))
all_first t p n some before =
    same_bools (t (p, n)) (list_all t (first_of (p, n)))
    (λ last. all_ranged t p 1 n (λ k low high. before k (omega (arith, low)) (omega (arith, high)) last))
    (λ all. each_ranged t p 1 n all n (omega (arith, some)) (omega arith))

-- tests that agree on all counts from 1 on agree on all that a cut covers
all_agree : (t u : Entry → Bool) (p : Proc) (a n : ℕ) → 0 < a → ((e : Entry) → 0 < e.1 → t e ≡ u e) →
    list_all t (ranged p a n) ≡ list_all u (ranged p a n)
all_agree t u p a zero from_one same = refl
all_agree t u p a (suc n) from_one same =
    let more = all_agree t u p (a + 1) n (omega arith) same in
    λ i. same (p, a) from_one i && more i

-- and keep the same of it
kept_agree : (t u : Entry → Bool) (p : Proc) (a n : ℕ) → 0 < a → ((e : Entry) → 0 < e.1 → t e ≡ u e) →
    filter t (ranged p a n) ≡ filter u (ranged p a n)
kept_agree t u p a zero from_one same = refl
kept_agree t u p a (suc n) from_one same =
    let more = kept_agree t u p (a + 1) n (omega arith) same in
    λ i. cond (same (p, a) from_one i) ((p, a) ∷ more i) (more i)

pub kept_covered : (t u : Entry → Bool) (cut : CountList) → ((e : Entry) → 0 < e.1 → t e ≡ u e) →
    filter t (covered_entries cut) ≡ filter u (covered_entries cut)
kept_covered t u [] same = refl
kept_covered t u (e ∷ cut) same =
    filter-append t (first_of e) (covered_entries cut)
    ∙ (λ i. kept_agree t u e.0 1 e.1 (omega arith) same i ++ kept_covered t u cut same i)
    ∙ sym (filter-append u (first_of e) (covered_entries cut))

-- a test of the last messages of a cut passes them all exactly if another passes all that the cut covers
pub all_covered : (t u : Entry → Bool) (cut : CountList) → ((e : Entry) → t e ≡ list_all u (first_of e)) →
    list_all t cut ≡ list_all u (covered_entries cut)
all_covered t u [] same = refl
all_covered t u (e ∷ cut) same =
    (λ i. same e i && all_covered t u cut same i)
    ∙ sym (list_all-append u (first_of e) (covered_entries cut))

-- Who awaits what

-- a row that awaits a message awaits each later one of its process
row_awaits_later : (row : Row) (g : GroupNo) (view : ℕ) (p : Proc) (k n : ℕ) → k ≤ n → awaits_row row (uid_in g view (p, k)) ≡ true →
    awaits_row row (uid_in g view (p, n)) ≡ true
row_awaits_later row g view p k n le waits =
    let parts = and_parts (is_member (standing_in row g)) (nat_lt (done_in row g view p) k) waits in
    let less = ltb-true (done_in row g view p) k parts.1 in
    and_from (is_member (standing_in row g)) (nat_lt (done_in row g view p) n)
    parts.0 (lt-ltb (done_in row g view p) n (omega (arith, less, le)))

awaited_later : (rows : List Row) (g : GroupNo) (view : ℕ) (p : Proc) (k n : ℕ) → k ≤ n → is_awaited rows (uid_in g view (p, k)) ≡ true →
    is_awaited rows (uid_in g view (p, n)) ≡ true
awaited_later [] g view p k n le waits = waits
awaited_later (row ∷ rows) g view p k n le waits =
    elim (or_cases (awaits_row row (uid_in g view (p, k))) (is_awaited rows (uid_in g view (p, k))) waits) [
      | inl here ↦
          or_left (awaits_row row (uid_in g view (p, n))) (is_awaited rows (uid_in g view (p, n)))
          (row_awaits_later row g view p k n le here)
      | inr later ↦
          or_right (awaits_row row (uid_in g view (p, n))) (is_awaited rows (uid_in g view (p, n)))
          (awaited_later rows g view p k n le later)
    ]

unless_later : (a b : Bool) → (a ≡ true → b ≡ true) → not b ≡ true → not a ≡ true
unless_later true b goes none = absurd (false≢true (sym (ap not (goes refl)) ∙ none))
unless_later false b goes none = refl

-- nothing awaits a message of count 0
row_awaits_none : (row : Row) (g : GroupNo) (view : ℕ) (p : Proc) → awaits_row row (uid_in g view (p, 0)) ≡ false
row_awaits_none row g view p = false_from_ne_true (awaits_row row (uid_in g view (p, 0))) (λ waits.
    let less = ltb-true (done_in row g view p) 0 (and_parts (is_member (standing_in row g)) (nat_lt (done_in row g view p) 0) waits).1 in
    omega (arith, less))

none_awaited : (rows : List Row) (g : GroupNo) (view : ℕ) (p : Proc) → is_awaited rows (uid_in g view (p, 0)) ≡ false
none_awaited [] g view p = refl
none_awaited (row ∷ rows) g view p = λ i. row_awaits_none row g view p i || none_awaited rows g view p i

-- Messages received

-- what was received is among the ids of what was received
uid_turned : (u v : Uid) → uid_eq u v ≡ uid_eq v u
uid_turned u v =
    same_bools (uid_eq u v) (uid_eq v u) (λ e. ap (uid_eq v) (same_uid u v e) ∙ uid_itself v)
    (λ e. ap (uid_eq u) (same_uid v u e) ∙ uid_itself u)

ids_received : (u : Uid) (got : List Message) → is_among uid_eq u (map (λ m. m.id) got) ≡ list_any (λ m. uid_eq m.id u) got
ids_received u [] = refl
ids_received u (m ∷ got) = λ i. uid_turned u m.id i || ids_received u got i

message_found : (u : Uid) (got : List Message) → list_any (λ m. uid_eq m.id u) got ≡ true → (m : Message) × Contains got m × (m.id ≡ u)
message_found u [] has = cc
message_found u (m ∷ got) has = elim (or_cases (uid_eq m.id u) (list_any (λ x. uid_eq x.id u) got) has) [
  | inl here ↦ (m, contains_here m got, same_uid m.id u here)
  | inr later ↦ let (x, in_got, is) = message_found u got later in (x, contains_later x m got in_got, is)
]

not_not : (a : Bool) → a ≡ not (not a)
not_not true = refl
not_not false = refl

-- What processes here had

module _ (s : State) (g : GroupNo) where
  abbrev of_group : Entry → Uid
  of_group e = uid_in g (s.group g).number e

  -- a message of the group's view
  named_is : (e : Entry) (u : Uid) → uid_eq (of_group e) u ≡ (is_of_view s g u && entry_eq e (entry_of u))
  named_is e u = same_bools (uid_eq (of_group e) u) (is_of_view s g u && entry_eq e (entry_of u)) there back
    where
      there : uid_eq (of_group e) u ≡ true → (is_of_view s g u && entry_eq e (entry_of u)) ≡ true
      there h =
          subst (λ v. (is_of_view s g v && entry_eq e (entry_of v)) ≡ true) (same_uid (of_group e) u h)
          (and_from (is_of_view s g (of_group e)) (entry_eq e e)
          (and_from (group_eq g g) ((s.group g).number == (s.group g).number) (group_itself g)
          (eq-eqb (s.group g).number (s.group g).number refl))
          (entry_itself e))

      back : (is_of_view s g u && entry_eq e (entry_of u)) ≡ true → uid_eq (of_group e) u ≡ true
      back h =
          let parts = and_parts (is_of_view s g u) (entry_eq e (entry_of u)) h in
          let here = and_parts (group_eq u.group g) (u.view == (s.group g).number) parts.0 in
          let entry = same_entry e (entry_of u) parts.1 in
          let same : of_group e ≡ u =
          λ i. uid_in (sym (same_group u.group g here.0) i) (sym (eqb-true u.view (s.group g).number here.1) i) (entry i) in
          subst (λ v. uid_eq (of_group e) v ≡ true) same (uid_itself (of_group e))

  among_named : (e : Entry) (us : List Uid) →
      is_among entry_eq e (map entry_of (filter (is_of_view s g) us)) ≡ is_among uid_eq (of_group e) us
  among_named e [] = refl
  among_named e (u ∷ us) =
      at (is_of_view s g u) (entry_eq e (entry_of u)) refl
      ∙ ap (λ b. b || is_among entry_eq e (map entry_of (filter (is_of_view s g) us))) (sym (named_is e u))
      ∙ ap (λ b. uid_eq (of_group e) u || b) (among_named e us)
    where
      at : (b c : Bool) → c ≡ entry_eq e (entry_of u) →
          is_among entry_eq e (map entry_of (cond b (u ∷ filter (is_of_view s g) us) (filter (is_of_view s g) us)))
          ≡ ((b && c) || is_among entry_eq e (map entry_of (filter (is_of_view s g) us)))
      at true c is = ap (λ d. d || is_among entry_eq e (map entry_of (filter (is_of_view s g) us))) (sym is)
      at false c is = refl

  abbrev delivered_by_some : Uid → Bool
  delivered_by_some u = list_any (λ k. has_delivered (s.process k) u) (serials s)

  abbrev sent_here : Uid → Bool
  sent_here u = is_among uid_eq u (filter (λ v. site_eq v.proc.site s.here) (map (λ m. m.id) s.got))

  -- some process delivered it, or one of this site sent it
  had_is : (e : Entry) → is_among entry_eq e (had_in s g) ≡ (delivered_by_some (of_group e) || sent_here (of_group e))
  had_is e =
      among_named e (had_here s)
      ∙ list_any-append (uid_eq (of_group e)) (flat_map (λ k. (s.process k).delivered) (serials s))
      (filter (λ v. site_eq v.proc.site s.here) (map (λ m. m.id) s.got))
      ∙ ap (λ b. b || sent_here (of_group e)) (among_joined (of_group e) (λ k. (s.process k).delivered) (serials s))

-- a message is an ABCAST of this name
abbrev is_cast : Entry → Message → Bool
is_cast e m = is_atomic (kind_of m.body) && entry_eq (entry_of m.id) e

module _ (r : Records) (s : State) (fits : Fits r s) (g : GroupNo) where
  -- a message of the group's view, of a count from 1 on, is awaited by a row exactly if some member here has not delivered it
  pub awaited_here : (e : Entry) → 0 < e.1 → not (is_awaited r.delay.rows (uid_in g (s.group g).number e)) ≡ is_delivered_here s g e
  awaited_here e some = awaited_same r s fits (uid_in g (s.group g).number e) (omega arith) some

  -- the last message of a process in a cut is awaited by none exactly if each is delivered that the cut covers
  cut_entry : (p : Proc) (n : ℕ) →
      not (is_awaited r.delay.rows (uid_in g (s.group g).number (p, n))) ≡ list_all (is_delivered_here s g) (first_of (p, n))
  cut_entry p zero = ap not (none_awaited r.delay.rows g (s.group g).number p)
  cut_entry p (suc m) =
      all_first (λ e. not (is_awaited r.delay.rows (uid_in g (s.group g).number e))) p (suc m) (omega arith)
      (λ k low high. unless_later (is_awaited r.delay.rows (uid_in g (s.group g).number (p, k)))
      (is_awaited r.delay.rows (uid_in g (s.group g).number (p, suc m)))
      (awaited_later r.delay.rows g (s.group g).number p k (suc m) high))
      ∙ all_agree (λ e. not (is_awaited r.delay.rows (uid_in g (s.group g).number e))) (is_delivered_here s g) p 1 (suc m) (omega arith)
      awaited_here

  cut_same : (cut : CountList) → has_cut_of r (record_for s g) cut ≡ has_delivered_cut s g cut
  cut_same cut =
      all_covered (λ e. not (is_awaited r.delay.rows (uid_in g (s.group g).number e))) (is_delivered_here s g) cut (λ e. cut_entry e.0 e.1)

  -- What was received

  same_here : r.site ≡ s.here
  same_here = ap (λ c. c.site) fits.core

  -- of a process that may not speak here nothing of the group's view was received
  spoken_alone : IsLawful s → (e : Entry) → may_speak s g e.0 ≡ false → is_received s (uid_in g (s.group g).number e) ≡ false
  spoken_alone l e silent = false_from_ne_true (is_received s (uid_in g (s.group g).number e)) (λ has.
      let (m, in_got, is) = message_found (uid_in g (s.group g).number e) s.got has in
      let view : m.id.view ≡ (s.group m.id.group).number = (λ i. (is i).view) ∙ (λ i. (s.group (sym is i).group).number) in
      false≢true (sym silent ∙ sym (λ i. may_speak s (is i).group (is i).proc) ∙ l.traced.spoken m in_got view))

  pub received_same : IsLawful s → (e : Entry) → 0 < e.1 →
      is_received_of r (record_for s g) e ≡ is_received s (uid_in g (s.group g).number e)
  received_same l e some =
      ap (λ t. (is_among proc_eq e.0 (members_of (s.group g)) || site_eq e.0.site t)
      && is_received_in r.acks (uid_in g (s.group g).number e)) same_here
      ∙ elim (cases_Bool (may_speak s g e.0)) [
        | inl may ↦
            ap (λ b. b && is_received_in r.acks (uid_in g (s.group g).number e)) may
            ∙ fits.acks.receipts (uid_in g (s.group g).number e) (live_now s (source g (s.group g).number e.0) refl may) some
            ∙ ids_received (uid_in g (s.group g).number e) s.got
        | inr silent ↦
            ap (λ b. b && is_received_in r.acks (uid_in g (s.group g).number e)) silent
            ∙ sym (spoken_alone l e silent)
      ]

  -- what is awaited and was not received is missing
  missing_one : IsLawful s → (e : Entry) → 0 < e.1 →
      (is_awaited_of r (record_for s g) e && not (is_received_of r (record_for s g) e)) ≡ is_missing s g e
  missing_one l e some =
      (λ i. not_not (is_awaited r.delay.rows (uid_in g (s.group g).number e)) i && not (received_same l e some i))
      ∙ (λ i. not (awaited_here e some i) && not (is_received s (uid_in g (s.group g).number e)))
      ∙ neither (is_delivered_here s g e) (is_received s (uid_in g (s.group g).number e))

  missing_same : IsLawful s → (cut : CountList) → missing_of r (record_for s g) cut ≡ missing_in s g cut
  missing_same l cut =
      ap (take MAX_PLACED) (kept_covered (λ e. is_awaited_of r (record_for s g) e && not (is_received_of r (record_for s g) e))
      (is_missing s g) cut (missing_one l))

  -- What is reported

  abbrev number : ℕ
  number = (s.group g).number

  member_live : (p : Proc) → is_among proc_eq p (members_of (s.group g)) ≡ true → is_live s (source g number p) ≡ true
  member_live p member =
      live_now s (source g number p) refl (or_left (is_among proc_eq p (members_of (s.group g))) (site_eq p.site s.here) member)

  -- what a process delivered, which is one of this site to which a serial was given
  given_delivered : (q : Proc) (u : Uid) → has_delivered (process_named s q) u ≡ true → delivered_by_some s g u ≡ true
  given_delivered q u has = elim (cases_Bool (site_eq q.site s.here)) [
    | inr foreign ↦ absurd (false≢true (sym (ap (λ b. has_delivered (if b then s.process q.serial else no_process) u) foreign) ∙ has))
    | inl own ↦
        let by : has_delivered (s.process q.serial) u ≡ true =
        sym (ap (λ b. has_delivered (if b then s.process q.serial else no_process) u) own) ∙ has in
        elim (cases_Bool (was_given s.used q.serial)) [
          | inr unused ↦
              let none = fits.processes.idle q.serial unused in
              absurd
              (false≢true (sym (ap (is_among uid_eq u) (sym (ap (λ x. x.delivered) (process_here s q.serial)) ∙ none.delivered)) ∙ by))
          | inl used ↦
              let parts = and_parts (nat_lt 0 q.serial) (nat_le q.serial s.used) used in
              let low = ltb-true 0 q.serial parts.0 in
              let high = leb-true q.serial s.used parts.1 in
              ranged_some (λ k. has_delivered (s.process k) u) 1 s.used q.serial (omega (arith, low)) (omega (arith, high)) by
        ]
  ]

  abbrev sent_counts : List Entry
  sent_counts = map (λ p. (p, last_received_in r.acks (source g number p))) (filter (is_at r.site) (members_of (s.group g)))

  -- the counts by the records are of messages that processes here had
  counts_had : (p : Proc) → is_among proc_eq p (members_of (s.group g)) ≡ true → (n : ℕ) → 0 < n →
      is_among entry_eq (p, n) (had_of r (record_for s g)) ≡ true → n ≤ greatest_of (had_in s g) p
  counts_had p member n some among =
      greatest_each p n (had_in s g) (had_is s g (p, n)
      ∙ by (or_cases (is_among entry_eq (p, n) (counts_in g number r.delay.reached)) (is_among entry_eq (p, n) sent_counts)
      (sym (list_any-append (entry_eq (p, n)) (counts_in g number r.delay.reached) sent_counts) ∙ among)))
    where
      sent : is_among entry_eq (p, n) sent_counts ≡ true → sent_here s g (uid_in g number (p, n)) ≡ true
      sent has =
          let counted =
          among_counted (λ q. last_received_in r.acks (source g number q)) p n (filter (is_at r.site) (members_of (s.group g))) has in
          let here = among_passing proc_eq same_proc (is_at r.site) p (members_of (s.group g)) counted.0 in
          let last = counted.1 in
          let received = last_each (past_of s) r.acks fits.acks (source g number p) (member_live p member) (omega (arith, last, some)) in
          passing_among uid_eq same_uid (λ v. site_eq v.proc.site s.here) (uid_in g number (p, n)) (map (λ m. m.id) s.got)
          (subst (λ t. site_eq p.site t ≡ true) same_here here.0)
          (subst (λ c. is_among uid_eq (uid_in g number (p, c)) (map (λ m. m.id) s.got) ≡ true) (sym last) received)

      by : (is_among entry_eq (p, n) (counts_in g number r.delay.reached) ≡ true) ⊎ (is_among entry_eq (p, n) sent_counts ≡ true) →
          (delivered_by_some s g (uid_in g number (p, n)) || sent_here s g (uid_in g number (p, n))) ≡ true
      by (inl reached) =
          let (q, has) =
          reached_each (gate_of s) (process_named s) r.delay.reached fits.processes.delay.reached g number (p, n)
          (there_among (p, n) (counts_in g number r.delay.reached) reached) in
          or_left (delivered_by_some s g (uid_in g number (p, n))) (sent_here s g (uid_in g number (p, n)))
          (given_delivered q (uid_in g number (p, n)) has)
      by (inr has) = or_right (delivered_by_some s g (uid_in g number (p, n))) (sent_here s g (uid_in g number (p, n))) (sent has)

  -- and there is one as great for each
  had_counted : (p : Proc) → is_among proc_eq p (members_of (s.group g)) ≡ true → (n : ℕ) → 0 < n →
      is_among entry_eq (p, n) (had_in s g) ≡ true → n ≤ greatest_of (had_of r (record_for s g)) p
  had_counted p member n some among =
      by
      (or_cases (delivered_by_some s g (uid_in g number (p, n))) (sent_here s g (uid_in g number (p, n))) (sym (had_is s g (p, n)) ∙ among))
    where
      counted : (c : ℕ) → (is_among entry_eq (p, c) (counts_in g number r.delay.reached) || is_among entry_eq (p, c) sent_counts) ≡ true →
          c ≤ greatest_of (had_of r (record_for s g)) p
      counted c one =
          greatest_each p c (had_of r (record_for s g))
          (list_any-append (entry_eq (p, c)) (counts_in g number r.delay.reached) sent_counts ∙ one)

      by : (delivered_by_some s g (uid_in g number (p, n)) ≡ true) ⊎ (sent_here s g (uid_in g number (p, n)) ≡ true) →
          n ≤ greatest_of (had_of r (record_for s g)) p
      by (inl delivered) =
          let (k, has) = some_ranged (λ k. has_delivered (s.process k) (uid_in g number (p, n))) 1 s.used delivered in
          let there : has_delivered (process_named s (local s k)) (uid_in g number (p, n)) ≡ true =
          ap (λ x. has_delivered x (uid_in g number (p, n))) (process_here s k) ∙ has in
          let (c, in_counts, le) =
          reached_most (gate_of s) (process_named s) r.delay.reached fits.processes.delay.reached g number (omega arith) (local s k) (p, n)
          some there in
          let most =
          counted c (or_left (is_among entry_eq (p, c) (counts_in g number r.delay.reached)) (is_among entry_eq (p, c) sent_counts)
          (among_there (p, c) (counts_in g number r.delay.reached) in_counts)) in
          omega (arith, le, most)
      by (inr sent) =
          let own = among_passing uid_eq same_uid (λ v. site_eq v.proc.site s.here) (uid_in g number (p, n)) (map (λ m. m.id) s.got) sent in
          let c : ℕ = last_received_in r.acks (source g number p) in
          let le : n ≤ c = last_most (past_of s) r.acks fits.acks (uid_in g number (p, n)) (member_live p member) some own.1 in
          let at : is_among proc_eq p (filter (is_at r.site) (members_of (s.group g))) ≡ true =
          passing_among proc_eq same_proc (is_at r.site) p (members_of (s.group g))
          (subst (λ t. site_eq p.site t ≡ true) (sym same_here) own.0) member in
          let most =
          counted c (or_right (is_among entry_eq (p, c) (counts_in g number r.delay.reached)) (is_among entry_eq (p, c) sent_counts)
          (counted_among (λ q. last_received_in r.acks (source g number q)) p (filter (is_at r.site) (members_of (s.group g))) at)) in
          omega (arith, le, most)

  counts_there : counts_by (greatest_of (had_of r (record_for s g))) (members_of (s.group g))
      ≡ counts_by (greatest_of (had_in s g)) (members_of (s.group g))
  counts_there =
      counts_same (greatest_of (had_of r (record_for s g))) (greatest_of (had_in s g)) (members_of (s.group g))
      (λ p member. greatest_same p (had_of r (record_for s g)) (had_in s g) (counts_had p member) (had_counted p member))

  -- what who holds the token has still to list
  still_here : (t : TellsOrder s g (log_of r.orders g)) → waiting_of (log_of r.orders g) (holder_in r g) ≡ unlisted_here s g
  still_here t = ap (waiting_of (log_of r.orders g)) (holder_there r s fits g) ∙ of_holder (holder_here s g)
    where
      of_holder : (o : Option ℕ) → waiting_of (log_of r.orders g) (option_map (local s) o) ≡ option_map_or (unlisted_ids s g) o []
      of_holder None = refl
      of_holder (Some k) = waiting_there s g k (log_of r.orders g) t

  -- how many of its first ids are forgotten
  abbrev base : ℕ
  base = (log_of r.orders g).base

  whole_there : is_pending (s.group g) ≡ false → whole_kept (log_of r.orders g) (holder_in r g) ≡ drop base (whole_order s g)
  whole_there off =
      let t = (fits.orders g).tells off in
      whole_rules (facts_in s g) (goes_on s g) (has_passed s g) (log_of r.orders g) t.fits (holder_in r g)
      ∙ ap (λ ids. drop base (order_told s g ++ ids)) (still_here t)

  -- an ABCAST that is kept of the view is none that is forgotten
  kept_named : (e : Entry) (kept : List Message) → list_any (is_cast e) (filter (λ m. is_of_view s g m.id) kept) ≡ true →
      list_any (λ m. uid_eq m.id (of_group s g e)) kept ≡ true
  kept_named e [] has = absurd (false≢true has)
  kept_named e (m ∷ kept) has = elim (cases_Bool (is_of_view s g m.id)) [
    | inl current ↦
        elim (or_cases (is_cast e m) (list_any (is_cast e) (filter (λ x. is_of_view s g x.id) kept)) (subst (λ b. list_any (is_cast e)
        (cond b (m ∷ filter (λ x. is_of_view s g x.id) kept) (filter (λ x. is_of_view s g x.id) kept)) ≡ true) current has)) [
          | inl here ↦
              let same : entry_of m.id ≡ e =
              same_entry (entry_of m.id) e (and_parts (is_atomic (kind_of m.body)) (entry_eq (entry_of m.id) e) here).1 in
              or_left (uid_eq m.id (of_group s g e)) (list_any (λ x. uid_eq x.id (of_group s g e)) kept)
              (uid_turned m.id (of_group s g e) ∙ named_is s g e m.id ∙ and_from (is_of_view s g m.id) (entry_eq e (entry_of m.id))
              current (subst (λ x. entry_eq e x ≡ true) (sym same) (entry_itself e)))
          | inr later ↦
              or_right (uid_eq m.id (of_group s g e)) (list_any (λ x. uid_eq x.id (of_group s g e)) kept) (kept_named e kept later)
        ]
    | inr other ↦
        or_right (uid_eq m.id (of_group s g e)) (list_any (λ x. uid_eq x.id (of_group s g e)) kept)
        (kept_named e kept
        (subst (λ b. list_any (is_cast e) (cond b (m ∷ filter (λ x. is_of_view s g x.id) kept) (filter (λ x. is_of_view s g x.id) kept))
        ≡ true) other has))
  ]

  placed_still : is_pending (s.group g) ≡ false → (e : Entry) → list_any (is_cast e) (kept_in s g) ≡ true →
      is_among entry_eq e (whole_order s g) ≡ is_among entry_eq e (drop base (whole_order s g))
  placed_still off e some =
      ap (is_among entry_eq e) (sym (take-append-drop base (whole_order s g)))
      ∙ list_any-append (entry_eq e) (take base (whole_order s g)) (drop base (whole_order s g))
      ∙ ap (λ b. b || is_among entry_eq e (drop base (whole_order s g))) none
    where
      none : is_among entry_eq e (take base (whole_order s g)) ≡ false
      none = false_from_ne_true (is_among entry_eq e (take base (whole_order s g))) (λ among.
          let t = (fits.orders g).tells off in
          let le = t.fits.forgotten in
          let front : take base (whole_order s g) ≡ take base (order_told s g) =
          take-append-le base (order_told s g) (unlisted_here s g) (omega (arith, le)) in
          let over = t.gone e (sym (ap (is_among entry_eq e) front) ∙ among) in
          false≢true (sym over.let_go ∙ kept_named e s.kept some))

  -- so it has a place in what is kept of the order exactly if it has one in all of it
  unplaced_still : is_pending (s.group g) ≡ false → (e : Entry) →
      is_unplaced (kept_in s g) (drop base (whole_order s g)) e ≡ is_unplaced (kept_in s g) (whole_order s g) e
  unplaced_still off e = elim (cases_Bool (list_any (is_cast e) (kept_in s g))) [
    | inl some ↦ ap (λ b. list_any (is_cast e) (kept_in s g) && not b) (sym (placed_still off e some))
    | inr none ↦
        ap (λ b. b && not (is_among entry_eq e (drop base (whole_order s g)))) none
        ∙ sym (ap (λ b. b && not (is_among entry_eq e (whole_order s g))) none)
  ]

  tail_there : is_pending (s.group g) ≡ false → tail_in (log_of r.orders g) (holder_in r g) ≡ tail_of (whole_order s g)
  tail_there off =
      let t = (fits.orders g).tells off in
      let (start, ids) = tail_rules (facts_in s g) (goes_on s g) (has_passed s g) (log_of r.orders g) t.fits (holder_in r g) in
      (λ i. record { start = min MAX_POSITION (start i); ids = ids i })
      ∙ ap (λ rest. tail_of (order_told s g ++ rest)) (still_here t)

  kept_there : is_pending (s.group g) ≡ false → kept_list (filter (is_kept_of (record_for s g)) (messages r.part.kept))
      (whole_kept (log_of r.orders g) (holder_in r g)) ≡ kept_list (kept_in s g) (whole_order s g)
  kept_there off =
      (λ i. kept_list (filter (λ m. is_of_view s g m.id) (fits.messages.kept_in i)) (whole_there off i))
      ∙ (λ i. take MAX_KEPT (map (λ e. (e, unplaced_still off e i)) (set_of entry_cmp (map (λ m. entry_of m.id) (kept_in s g)))))

  report_same : is_pending (s.group g) ≡ false → report_at r (record_for s g) ≡ report_in s g
  report_same off = λ i. record { counts = counts_there i; tail = tail_there off i; kept = kept_there off i }

-- the members here have delivered what a cut covers
pub cut_there : (r : Records) (s : State) → Fits r s → (i : ℕ) (g : GroupNo) → slice_get s.config.groups i ≡ Some g → (cut : CountList) →
    has_cut_of r (record_at r.groups i) cut ≡ has_delivered_cut s g cut
cut_there r s fits i g at cut = ap (λ x. has_cut_of r x cut) (record_there r s fits i g at) ∙ cut_same r s fits g cut

-- and what is missing of it
pub missing_there : (r : Records) (s : State) → Fits r s → IsLawful s → (i : ℕ) (g : GroupNo) → slice_get s.config.groups i ≡ Some g →
    (cut : CountList) → missing_of r (record_at r.groups i) cut ≡ missing_in s g cut
missing_there r s fits l i g at cut = ap (λ x. missing_of r x cut) (record_there r s fits i g at) ∙ missing_same r s fits g l cut

-- what is reported while no Install waits
pub report_there : (r : Records) (s : State) → Fits r s → IsLawful s → (i : ℕ) (g : GroupNo) → slice_get s.config.groups i ≡ Some g →
    is_pending (s.group g) ≡ false → report_at r (record_at r.groups i) ≡ report_in s g
report_there r s fits l i g at off = ap (report_at r) (record_there r s fits i g at) ∙ report_same r s fits g off
