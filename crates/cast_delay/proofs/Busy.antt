-- The places of rows that are busy: the others are of processes that are in no group, and await no message.
use Rattle.std.proofs.Common.{◌≡◌, ℕ, zero, suc, ◌<◌, ◌≤◌, ◌+◌, Bool, true, false, cond, filter, List, [], ◌∷◌, ◌++◌}
use Rattle.std.proofs.Common.{get_or, length, map, take, Some, None, refl, sym, ap, subst, ◌∙◌, inl, inr, true≢false, arith}
use Rattle.std.specs.Prelude.{◌||◌, ◌&&◌, ◌==◌, not, nat_lt, slice_get, if◌then◌else◌}
use Rattle.std.specs.List.Sorted.{IsNonDecreasing}
use Rattle.std.specs.Option.{option_map_or}
use Rattle.std.proofs.lemmas.Bool.{and_from, and_parts, cases_Bool, cases_lt, or_right}
use Rattle.std.proofs.lemmas.List.{length-take-le, take_more}
use Rattle.std.proofs.lemmas.Option.{slice_get_within, get_or_from_slice_get}
use Rattle.cast_types.specs.declared.names.Uid.{Uid}
use Rattle.cast_types.specs.declared.names.Proc.{Proc}
use Rattle.cast_types.specs.declared.names.Key.{Key}
use Rattle.cast_types.specs.declared.names.SiteNo.{SiteNo}
use Rattle.cast_types.specs.Names.{proc_eq, site_eq}
use Rattle.cast_types.proofs.Orders.{proc_itself, same_site}
use Rattle.cast_ready.specs.declared.row.Row.{Row}
use Rattle.cast_ready.specs.declared.offered.Offered.{Offered}
use Rattle.cast_ready.specs.Ready.{is_member}
use Rattle.cast_ready.specs.Rows.{awaits_row, delivered_row, done_in}
use Rattle.cast_delay.specs.Queue.{after_delivery, change_row, is_awaited, offered_under}
use Rattle.cast_delay.specs.Admitted.{are_of, busy_places, is_busy, is_idle, rise, site_with}
use Rattle.cast_delay.proofs.Admitted.{found_at, none_at}

of_not : (b : Bool) → not b ≡ false → b ≡ true
of_not true is = refl
of_not false is = absurd (true≢false is)

nothing_at : {X : Type 0} (i : ℕ) (x : X) → slice_get (let none : List X = [] in none) i ≡ Some x → ⊥
nothing_at zero x is = absurd (cc is)
nothing_at (suc i) x is = absurd (cc is)

-- Places of busy rows

-- those behind a row, and that of the row where it is busy
abbrev with_place : Bool → ℕ → List ℕ → List ℕ
with_place b n later = if b then n ∷ later else later

at_most_with : (b : Bool) (n m : ℕ) (later : List ℕ) → length later ≤ m → length (with_place b n later) ≤ m + 1
at_most_with true n m later most = omega (arith, most)
at_most_with false n m later most = omega (arith, most)

pub places_at_most : (n : ℕ) (rows : List Row) → length (busy_places n rows) ≤ length rows
places_at_most n [] = omega arith
places_at_most n (r ∷ rows) =
    omega (arith, at_most_with (is_busy r) n (length rows) (busy_places (suc n) rows) (places_at_most (suc n) rows))

-- they are between that of the first row and that behind the last one
abbrev AreBetween : ℕ → ℕ → List ℕ → Type 0
AreBetween n m places = (j d : ℕ) → j < length places → (n ≤ get_or places j d) × (get_or places j d < m)

between_with : (b : Bool) (n m : ℕ) (later : List ℕ) → n < m → AreBetween (suc n) m later → AreBetween n m (with_place b n later)
between_with true n m later lt are zero d within = (omega arith, omega (arith, lt))
between_with true n m later lt are (suc j) d within = let there = are j d (omega (arith, within)) in (omega (arith, there.0), there.1)
between_with false n m later lt are j d within = let there = are j d within in (omega (arith, there.0), there.1)

places_between : (n m : ℕ) (rows : List Row) → m ≡ n + length rows → AreBetween n m (busy_places n rows)
places_between n m [] is j d within = absurd (omega (arith, within))
places_between n m (r ∷ rows) is j d within =
    between_with (is_busy r) n m (busy_places (suc n) rows) (omega (arith, is))
    (places_between (suc n) m rows (omega (arith, is))) j d within

-- and rise
rising_with : (b : Bool) (n m : ℕ) (later : List ℕ) → AreBetween (suc n) m later → IsNonDecreasing later →
    IsNonDecreasing (with_place b n later)
rising_with true n m later are rise zero zero d le within = omega arith
rising_with true n m later are rise zero (suc j) d le within = omega (arith, (are j d (omega (arith, within))).0)
rising_with true n m later are rise (suc i) zero d le within = absurd (omega (arith, le))
rising_with true n m later are rise (suc i) (suc j) d le within = rise i j d (omega (arith, le)) (omega (arith, within))
rising_with false n m later are rise i j d le within = rise i j d le within

places_rise : (n : ℕ) (rows : List Row) → IsNonDecreasing (busy_places n rows)
places_rise n [] i j d le within = absurd (omega (arith, within))
places_rise n (r ∷ rows) i j d le within =
    rising_with (is_busy r) n (suc n + length rows) (busy_places (suc n) rows) (places_between (suc n) (suc n + length rows) rows refl)
    (places_rise (suc n) rows) i j d le within

-- that of each busy row is one of them
abbrev IsAmong : List ℕ → ℕ → Type 0
IsAmong places at = (j : ℕ) × (j < length places) × (get_or places j 0 ≡ at)

among_with : (b : Bool) (n at : ℕ) (later : List ℕ) → IsAmong later at → IsAmong (with_place b n later) at
among_with true n at later is = (suc is.0, omega (arith, is.1), is.2)
among_with false n at later is = is

place_of : (n k : ℕ) (rows : List Row) (i : ℕ) (row : Row) → k ≡ n + i → slice_get rows i ≡ Some row → is_busy row ≡ true →
    IsAmong (busy_places n rows) k
place_of n k [] i row is at busy = absurd (nothing_at i row at)
place_of n k (r ∷ rows) zero row is at busy =
    let here : r ≡ row = cc at in
    subst (λ b. IsAmong (with_place b n (busy_places (suc n) rows)) k) (sym (ap is_busy here ∙ busy)) (zero, omega arith, omega (arith, is))
place_of n k (r ∷ rows) (suc i) row is at busy =
    among_with (is_busy r) n k (busy_places (suc n) rows) (place_of (suc n) k rows i row (omega (arith, is)) at busy)

-- a row that is not busy is of a process that is in no group
pub idle_at : (rows : List Row) (i : ℕ) (row : Row) → rise rows ≡ true → is_busy row ≡ false → slice_get rows i ≡ Some row →
    is_idle rows row.process ≡ true
idle_at rows i row up none at =
    let here = get_or_from_slice_get rows i row row at in
    ap (λ o. option_map_or (λ r. length r.standings == 0) o false)
    (found_at row.process rows i row up (slice_get_within rows i row at)
    (ap (λ r. proc_eq r.process row.process) here ∙ proc_itself row.process) ∙ ap Some here)
    ∙ of_not (length row.standings == 0) none

-- no row awaits a message, where each does not
none_of : (rows : List Row) (id : Uid) → ((i : ℕ) (row : Row) → slice_get rows i ≡ Some row → awaits_row row id ≡ false) →
    is_awaited rows id ≡ false
none_of [] id none = refl
none_of (r ∷ rows) id none = ap (λ b. b || is_awaited rows id) (none zero r refl) ∙ none_of rows id (λ i. none (suc i))

module _ (rows : List Row) (places : List ℕ) (are : places ≡ busy_places 0 rows) where
  pub are_rising : IsNonDecreasing places
  are_rising = subst IsNonDecreasing (sym are) (places_rise 0 rows)

  pub are_within : (j d : ℕ) → j < length places → get_or places j d < length rows
  are_within j d within =
      subst (λ ps. j < length ps → get_or ps j d < length rows) (sym are)
      (λ lt. (places_between 0 (length rows) rows (omega arith) j d lt).1) within

  holds_place : (i : ℕ) (row : Row) → slice_get rows i ≡ Some row → is_busy row ≡ true → IsAmong places i
  holds_place i row at busy = subst (λ ps. IsAmong ps i) (sym are) (place_of 0 i rows i row (omega arith) at busy)

  -- a row is not busy whose place is none of them: so many are below it, and the others above it
  pub not_among : (p i : ℕ) (row : Row) → ((j : ℕ) → j < p → j < length places → get_or places j 0 < i) →
      ((j : ℕ) → p ≤ j → j < length places → i < get_or places j 0) → slice_get rows i ≡ Some row → is_busy row ≡ false
  not_among p i row below above at = elim (cases_Bool (is_busy row)) [
    | inl busy ↦
        let there = holds_place i row at busy in
        elim (cases_lt there.0 p) [
          | inl lt ↦ absurd (omega (arith, there.2, below there.0 lt there.1))
          | inr le ↦ absurd (omega (arith, there.2, above there.0 le there.1))
        ]
    | inr not_so ↦ not_so
  ]

  -- no row awaits a message, where no busy one does
  pub none_awaits : (id : Uid) → ((j : ℕ) (row : Row) → j < length places → awaits_row (get_or rows (get_or places j 0) row) id ≡ false) →
      is_awaited rows id ≡ false
  none_awaits id none = none_of rows id (λ i row at. elim (cases_Bool (is_busy row)) [
    | inl busy ↦
        let there = holds_place i row at busy in
        let here : get_or rows (get_or places there.0 0) row ≡ row =
        ap (λ k. get_or rows k row) there.2 ∙ get_or_from_slice_get rows i row row at in
        ap (λ r. awaits_row r id) (sym here) ∙ none there.0 row there.1
    | inr idle ↦
        ap (λ s. is_member s && nat_lt (done_in row id.group id.view id.proc) id.count)
        (none_at row id.group (of_not (length row.standings == 0) idle))
  ])

-- some row awaits a message, where the one at a place does
pub awaited_at : (rows : List Row) (i : ℕ) (id : Uid) → i < length rows → ((row : Row) → awaits_row (get_or rows i row) id ≡ true) →
    is_awaited rows id ≡ true
awaited_at [] i id within here = absurd (omega (arith, within))
awaited_at (row ∷ rows) zero id within here = ap (λ b. b || is_awaited rows id) (here row)
awaited_at (row ∷ rows) (suc i) id within here =
    ap (λ b. awaits_row row id || b) (awaited_at rows i id (omega (arith, within)) here) ∙ or_right (awaits_row row id) true refl

-- One row more, at the end

more_with : (b c : Bool) (n k k' : ℕ) (later : List ℕ) → k' ≡ k →
    with_place b n (if c then later ++ k' ∷ [] else later) ≡ (if c then with_place b n later ++ k ∷ [] else with_place b n later)
more_with true true n k k' later is = ap (λ x. n ∷ (later ++ x ∷ [])) is
more_with false true n k k' later is = ap (λ x. later ++ x ∷ []) is
more_with true false n k k' later is = refl
more_with false false n k k' later is = refl

pub places_more : (n : ℕ) (rows : List Row) (row : Row) →
    busy_places n (rows ++ row ∷ []) ≡ (if is_busy row then busy_places n rows ++ (n + length rows) ∷ [] else busy_places n rows)
places_more n [] row = let same : n ≡ n + 0 = omega arith in λ i. if is_busy row then same i ∷ [] else []
places_more n (r ∷ rows) row =
    (λ i. with_place (is_busy r) n (places_more (suc n) rows row i))
    ∙ more_with (is_busy r) (is_busy row) n (n + length (r ∷ rows)) (suc n + length rows) (busy_places (suc n) rows) (omega arith)

-- the places among the first rows, and the row behind these
pub places_next : (rows : List Row) (places : List ℕ) (i : ℕ) (row : Row) → places ≡ busy_places 0 (take i rows) → i < length rows →
    row ≡ get_or rows i row → busy_places 0 (take (i + 1) rows) ≡ (if is_busy row then places ++ i ∷ [] else places)
places_next rows places i row are within here =
    let short : 0 + length (take i rows) ≡ i = omega (arith, length-take-le i rows (omega (arith, within))) in
    ap (busy_places 0) (take_more rows i row within ∙ ap (λ r. take i rows ++ r ∷ []) (sym here))
    ∙ places_more 0 (take i rows) row
    ∙ (λ k. if is_busy row then sym are k ++ short k ∷ [] else sym are k)

-- Rows of one site

pub of_site : (s : SiteNo) (rows : List Row) (i : ℕ) (row : Row) → are_of s rows ≡ true → slice_get rows i ≡ Some row → row.process.site ≡ s
of_site s [] i row all at = absurd (nothing_at i row at)
of_site s (r ∷ rows) zero row all at =
    let here : r ≡ row = cc at in
    same_site row.process.site s
    (ap (λ (x : Row). site_eq x.process.site s) (sym here) ∙ (and_parts (site_eq r.process.site s) (are_of s rows) all).0)
of_site s (r ∷ rows) (suc i) row all at = of_site s rows i row (and_parts (site_eq r.process.site s) (are_of s rows) all).1 at

pub are_of_more : (s : SiteNo) (rows : List Row) (row : Row) → are_of s rows ≡ true → site_eq row.process.site s ≡ true →
    are_of s (rows ++ row ∷ []) ≡ true
are_of_more s [] row all here = and_from (site_eq row.process.site s) true here refl
are_of_more s (r ∷ rows) row all here =
    let parts = and_parts (site_eq r.process.site s) (are_of s rows) all in
    and_from (site_eq r.process.site s) (are_of s (rows ++ row ∷ [])) parts.0 (are_of_more s rows row parts.1 here)

pub are_of_first : (s : SiteNo) (p : Proc) (rows : List Row) → are_of s rows ≡ true → are_of (site_with s p rows) rows ≡ true
are_of_first s p [] all = refl
are_of_first s p (r ∷ rows) all = all

pub are_of_left : (s : SiteNo) (test : Row → Bool) (rows : List Row) → are_of s rows ≡ true → are_of s (filter test rows) ≡ true
are_of_left s test [] all = refl
are_of_left s test (r ∷ rows) all =
    let parts = and_parts (site_eq r.process.site s) (are_of s rows) all in
    elim (test r) as (λ b. are_of s (cond b (r ∷ filter test rows) (filter test rows)) ≡ true) [
      | true ↦ and_from (site_eq r.process.site s) (are_of s (filter test rows)) parts.0 (are_of_left s test rows parts.1)
      | false ↦ are_of_left s test rows parts.1
    ]

module _ (s : SiteNo) (f : Row → Row) (same : (r : Row) → (f r).process ≡ r.process) where
  pub are_of_each : (rows : List Row) → are_of s (map f rows) ≡ are_of s rows
  are_of_each [] = refl
  are_of_each (r ∷ rows) = λ i. site_eq (same r i).site s && are_of_each rows i

pub are_of_changed : (s : SiteNo) (f : Row → Row) → ((r : Row) → (f r).process ≡ r.process) → (p : Proc) (rows : List Row) →
    are_of s (change_row p f rows) ≡ are_of s rows
are_of_changed s f same p rows =
    are_of_each s (λ r. if proc_eq r.process p then f r else r)
    (λ r. elim (proc_eq r.process p) as (λ b. (if b then f r else r).process ≡ r.process) [ true ↦ same r | false ↦ refl ]) rows

pub are_of_delivered : (s : SiteNo) (offered : List Offered) (p : Proc) (key : Key) (rows : List Row) →
    are_of s (after_delivery offered p key rows) ≡ are_of s rows
are_of_delivered s offered p key rows =
    elim (offered_under offered key)
    as (λ o. are_of s (elim o [ Some x ↦ change_row p (delivered_row x.id x.times) rows | None ↦ rows ]) ≡ are_of s rows) [
      | Some x ↦ are_of_changed s (delivered_row x.id x.times) (λ r. refl) p rows
      | None ↦ refl
    ]

-- Changes that leave the places as they are

module _ (f : Row → Row) (same : (r : Row) → (f r).standings ≡ r.standings) where
  busy_still : (r : Row) → is_busy (f r) ≡ is_busy r
  busy_still r = ap (λ (ss : _). not (length ss == 0)) (same r)

  pub places_each : (n : ℕ) (rows : List Row) → busy_places n (map f rows) ≡ busy_places n rows
  places_each n [] = refl
  places_each n (r ∷ rows) = λ i. if busy_still r i then n ∷ places_each (suc n) rows i else places_each (suc n) rows i

pub places_changed : (f : Row → Row) → ((r : Row) → (f r).standings ≡ r.standings) → (p : Proc) (rows : List Row) →
    busy_places 0 (change_row p f rows) ≡ busy_places 0 rows
places_changed f same p rows =
    places_each (λ r. if proc_eq r.process p then f r else r)
    (λ r. elim (proc_eq r.process p) as (λ b. (if b then f r else r).standings ≡ r.standings) [ true ↦ same r | false ↦ refl ]) 0 rows

pub places_delivered : (offered : List Offered) (p : Proc) (key : Key) (rows : List Row) →
    busy_places 0 (after_delivery offered p key rows) ≡ busy_places 0 rows
places_delivered offered p key rows =
    elim (offered_under offered key)
    as (λ o. busy_places 0 (elim o [ Some x ↦ change_row p (delivered_row x.id x.times) rows | None ↦ rows ]) ≡ busy_places 0 rows) [
      | Some x ↦ places_changed (delivered_row x.id x.times) (λ r. refl) p rows
      | None ↦ refl
    ]
