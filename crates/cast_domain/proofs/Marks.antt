-- What a site reports of the messages that it keeps of a view that is flushed: their names in order, with marks.
use Rattle.std.proofs.Common.{◌≡◌, ℕ, ◌+◌, ◌≤◌, ◌<◌, zero, suc, Bool, true, false, ◌&&◌, List, []}
use Rattle.std.proofs.Common.{◌∷◌, ◌++◌, length, take, drop, map, filter, refl, sym, ap, ◌∙◌, arith}
use Rattle.std.specs.Prelude.{if◌then◌else◌, nat_le, get_or}
use Rattle.std.specs.List.{list_all, list_any}
use Rattle.std.specs.Ordering.{is_lt}
use Rattle.std.specs.FinMap.Entries.{is_sorted, below_all}
use Rattle.std.proofs.lemmas.Bool.{and_parts, and_from, le-leb}
use Rattle.std.proofs.lemmas.List.{length-take, at_drop_more, map_more}
use Rattle.cast_types.specs.Names.{Entry, entry_cmp, entry_eq, entry_of, is_atomic}
use Rattle.cast_types.specs.Sets.{with_item, with_items, set_of}
use Rattle.cast_types.specs.Rising.{is_rising}
use Rattle.cast_types.proofs.Orders.{entry_total}
use Rattle.cast_types.proofs.Rising.{rising-with_items}
use Rattle.cast_message.specs.declared.message.Message.{Message}
use Rattle.cast_message.specs.declared.message.Received.{Received}
use Rattle.cast_message.specs.Bodies.{kind_of}
use Rattle.cast_message.specs.KeptIds.{Marked, KeptList, is_kept}
use Rattle.cast_message.specs.Receipts.{messages}
use Rattle.cast_flush.proofs.Gathered.{any_filter, any_map}
use Rattle.cast_domain.specs.declared.record.GroupRecord.{GroupRecord}
use Rattle.cast_domain.specs.FlushCalls.{is_kept_of}

-- what is below each of a list is below each of its first items
first_below : (x : Entry) (n : ℕ) (xs : List Entry) → list_all (λ y. is_lt (entry_cmp x y)) xs ≡ true →
    list_all (λ y. is_lt (entry_cmp x y)) (take n xs) ≡ true
first_below x zero xs all = refl
first_below x (suc n) [] all = refl
first_below x (suc n) (y ∷ ys) all =
    let parts = and_parts (is_lt (entry_cmp x y)) (list_all (λ z. is_lt (entry_cmp x z)) ys) all in
    and_from (is_lt (entry_cmp x y)) (list_all (λ z. is_lt (entry_cmp x z)) (take n ys)) parts.0 (first_below x n ys parts.1)

-- the first items of a rising list rise
first_rising : (n : ℕ) (xs : List Entry) → is_rising entry_cmp xs ≡ true → is_rising entry_cmp (take n xs) ≡ true
first_rising zero xs rising = refl
first_rising (suc n) [] rising = refl
first_rising (suc n) (x ∷ xs) rising =
    let parts = and_parts (list_all (λ y. is_lt (entry_cmp x y)) xs) (is_rising entry_cmp xs) rising in
    and_from (list_all (λ y. is_lt (entry_cmp x y)) (take n xs)) (is_rising entry_cmp (take n xs)) (first_below x n xs parts.0)
    (first_rising n xs parts.1)

-- marks leave items in their order
marked_below : (mark : Entry → Bool) (x : Entry) (xs : List Entry) → list_all (λ y. is_lt (entry_cmp x y)) xs ≡ true →
    below_all entry_cmp x (map (λ e. (e, mark e)) xs) ≡ true
marked_below mark x [] all = refl
marked_below mark x (y ∷ ys) all =
    let parts = and_parts (is_lt (entry_cmp x y)) (list_all (λ z. is_lt (entry_cmp x z)) ys) all in
    and_from (is_lt (entry_cmp x y)) (below_all entry_cmp x (map (λ e. (e, mark e)) ys)) parts.0 (marked_below mark x ys parts.1)

marked_rising : (mark : Entry → Bool) (xs : List Entry) → is_rising entry_cmp xs ≡ true →
    is_sorted entry_cmp (map (λ e. (e, mark e)) xs) ≡ true
marked_rising mark [] rising = refl
marked_rising mark (x ∷ xs) rising =
    let parts = and_parts (list_all (λ y. is_lt (entry_cmp x y)) xs) (is_rising entry_cmp xs) rising in
    and_from (below_all entry_cmp x (map (λ e. (e, mark e)) xs)) (is_sorted entry_cmp (map (λ e. (e, mark e)) xs))
    (marked_below mark x xs parts.0) (marked_rising mark xs parts.1)

length_marked : (mark : Entry → Bool) (xs : List Entry) → length {A = Marked} (map (λ e. (e, mark e)) xs) ≡ length xs
length_marked mark [] = refl
length_marked mark (x ∷ xs) = ap suc (length_marked mark xs)

-- the first names of a set, marked, are what a report has room for
pub kept_fits : (mark : Entry → Bool) (xs : List Entry) → is_kept (map (λ e. (e, mark e)) (take 2048 (set_of entry_cmp xs))) ≡ true
kept_fits mark xs =
    let names : List Entry = take 2048 (set_of entry_cmp xs) in
    let marks : KeptList = map (λ e. (e, mark e)) names in
    let few : length marks ≤ 2048 = omega (arith, length_marked mark names, length-take 2048 (set_of entry_cmp xs)) in
    and_from (is_sorted entry_cmp marks) (nat_le (length marks) 2048)
    (marked_rising mark names (first_rising 2048 (set_of entry_cmp xs) (rising-with_items entry_cmp entry_total xs [] refl)))
    (le-leb (length marks) 2048 few)

-- one more name gets its mark
pub marks_more : (mark : Entry → Bool) (names : List Entry) (i : ℕ) (e : Entry) (marks new : KeptList) (b : Bool) → i < length names →
    new ≡ marks ++ (get_or names i e, b) ∷ [] → b ≡ mark (get_or names i e) → marks ≡ map (λ e. (e, mark e)) (take i names) →
    new ≡ map (λ e. (e, mark e)) (take (i + 1) names)
marks_more mark names i e marks new b within made is so_far =
    let marked : Entry → Marked = λ x. (x, mark x) in
    made
    ∙ (λ j. so_far j ++ (get_or names i e, is j) ∷ [])
    ∙ sym (map_more marked names i e within)

-- one more kept message of a group's view gives its name
name_more : (x : GroupRecord) (names : List Entry) (m : Message) (rest : List Message) → with_items entry_cmp
    (if is_kept_of x m then with_item entry_cmp (entry_of m.id) names else names) (map (λ m. entry_of m.id) (filter (is_kept_of x) rest))
    ≡ with_items entry_cmp names (map (λ m. entry_of m.id) (filter (is_kept_of x) (m ∷ rest)))
name_more x names m rest =
    elim (is_kept_of x m) as (λ b. with_items entry_cmp (if b then with_item entry_cmp (entry_of m.id) names else names)
    (map (λ m. entry_of m.id) (filter (is_kept_of x) rest)) ≡ with_items entry_cmp names
    (map (λ m. entry_of m.id) (if b then m ∷ filter (is_kept_of x) rest else filter (is_kept_of x) rest))) [ true ↦ refl | false ↦ refl ]

-- and so at a place of a list
pub names_more : (x : GroupRecord) (names new : List Entry) (kept : List Received) (i : ℕ) (r : Received) → i < length kept →
    r ≡ get_or kept i r → new ≡ (if is_kept_of x r.message then with_item entry_cmp (entry_of r.message.id) names else names) →
    with_items entry_cmp new (map (λ m. entry_of m.id) (filter (is_kept_of x) (messages (drop (i + 1) kept))))
    ≡ with_items entry_cmp names (map (λ m. entry_of m.id) (filter (is_kept_of x) (messages (drop i kept))))
names_more x names new kept i r within here made =
    ap (λ (s : List Entry). with_items entry_cmp s (map (λ m. entry_of m.id) (filter (is_kept_of x) (messages (drop (i + 1) kept))))) made
    ∙ name_more x names r.message (messages (drop (i + 1) kept))
    ∙ ap (λ (q : Received).
    with_items entry_cmp names (map (λ m. entry_of m.id) (filter (is_kept_of x) (messages (q ∷ drop (i + 1) kept))))) here
    ∙ sym (at_drop_more
    (λ (rs : List Received). with_items entry_cmp names (map (λ m. entry_of m.id) (filter (is_kept_of x) (messages rs)))) kept i r within)

-- an ABCAST among the kept messages of a group's view
pub abcast_among : (x : GroupRecord) (kept : List Received) (e : Entry) →
    list_any (λ r. is_kept_of x r.message && (is_atomic (kind_of r.message.body) && entry_eq (entry_of r.message.id) e))
    kept ≡ list_any (λ m. is_atomic (kind_of m.body) && entry_eq (entry_of m.id) e) (filter (is_kept_of x) (messages kept))
abcast_among x kept e =
    sym (any_filter (λ m. is_atomic (kind_of m.body) && entry_eq (entry_of m.id) e) (is_kept_of x) (messages kept)
    ∙ any_map (λ m. is_kept_of x m && (is_atomic (kind_of m.body) && entry_eq (entry_of m.id) e)) (λ r. r.message) kept)
