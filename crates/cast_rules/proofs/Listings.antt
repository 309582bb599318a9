-- What processes have still to list: a delivery leaves no more of it, and a set-order message less.
use Rattle.std.proofs.Common.{◌≡◌, ℕ, ◌+◌, ◌-◌, ◌<◌, ◌≤◌, Bool, true, false, not, cond, List, [], ◌∷◌, ◌++◌}
use Rattle.std.proofs.Common.{length, map, take, Some, None, refl, sym, ap, subst, ◌∙◌, inl, inr, arith}
use Rattle.std.specs.Prelude.{◌&&◌, ◌==◌, filter, if◌then◌else◌}
use Rattle.std.specs.List.{find, flat_map}
use Rattle.std.proofs.lemmas.Bool.{true≢false, and_parts, and_from, and_left, and_right}
use Rattle.std.proofs.lemmas.Bool.{not_from_true, not_from_false, eqb-true, eq-eqb, ltb-true}
use Rattle.std.proofs.lemmas.List.{append-nil, length-append, map-append}
use Rattle.std.proofs.lemmas.List.Elements.{filter-append}
use Rattle.std.proofs.lemmas.Grind.{flat_map-append}
use Rattle.cast_types.specs.declared.names.GroupNo.{GroupNo}
use Rattle.cast_types.specs.declared.names.Uid.{Uid}
use Rattle.cast_types.specs.Names.{Entry, entry_eq, uid_eq, group_eq, is_atomic, entry_of}
use Rattle.cast_types.specs.Sets.{is_among, set_at}
use Rattle.cast_types.specs.declared.limits.TheConstants.{MAX_PLACED, MAX_POSITION}
use Rattle.cast_types.proofs.Orders.{group_itself}
use Rattle.cast_message.specs.declared.message.Body.TheVariants as body
use Rattle.cast_message.specs.declared.message.Message.{Message}
use Rattle.cast_message.specs.Bodies.{kind_of}
use Rattle.cast_order.specs.Order.{Facts, facts_of, known_order, still_to_list, ids_to_list}
use Rattle.cast_rules.proofs.Growing.{known_stays, first_enters}
use Rattle.cast_view.specs.Home.{is_empty}
use Rattle.cast_rules.specs.State.{State, serials, receiving, with_delivery}
use Rattle.cast_rules.specs.Order.{told_by, is_of_view, facts_in, order_told, abcasts_delivered, unlisted_ids, has_place}
use Rattle.cast_rules.specs.Resting.{places_of}
use Rattle.cast_rules.specs.Turns.{is_ready_for}
use Rattle.cast_rules.specs.Effects.{next_message}
use Rattle.cast_rules.specs.Endings.{one_if, is_to_come, to_list_by, to_list_in}
use Rattle.cast_rules.proofs.Totals.{In, total_le, total_lt, one_le, one_mono, not_mono, among_push, among_last}
use Rattle.cast_rules.proofs.Settles.{delivered_at, ready_new}

-- Items that a test keeps

length_kept : {A : Type 0} (b : Bool) (x : A) (xs : List A) → length (cond b (x ∷ xs) xs) ≡ one_if b + length xs
length_kept true x xs = omega arith
length_kept false x xs = omega arith

-- a test that keeps no more
pub fewer_kept : {A : Type 0} (p q : A → Bool) (xs : List A) → ((x : A) → p x ≡ true → q x ≡ true) →
    length (filter p xs) ≤ length (filter q xs)
fewer_kept p q [] h = omega arith
fewer_kept p q (x ∷ xs) h =
    omega (arith, length_kept (p x) x (filter p xs), length_kept (q x) x (filter q xs), one_mono (p x) (q x) (h x), fewer_kept p q xs h)

-- and one item less
pub less_kept : {A : Type 0} (p q : A → Bool) (xs : List A) (y : A) → ((x : A) → p x ≡ true → q x ≡ true) → In y xs → q y ≡ true →
    p y ≡ false → length (filter p xs) < length (filter q xs)
less_kept p q [] y h at was now = absurd at
less_kept p q (x ∷ xs) y h (inl here) was now =
    let is : ◌≡◌ {A = ℕ} (one_if (q x)) 1 = ap one_if (ap q (sym here) ∙ was) in
    let none : ◌≡◌ {A = ℕ} (one_if (p x)) 0 = ap one_if (ap p (sym here) ∙ now) in
    omega (arith, is, none, length_kept (p x) x (filter p xs), length_kept (q x) x (filter q xs), fewer_kept p q xs h)
less_kept p q (x ∷ xs) y h (inr there) was now =
    omega (
      arith,
      length_kept (p x) x (filter p xs),
      length_kept (q x) x (filter q xs),
      one_mono (p x) (q x) (h x),
      less_kept p q xs y h there was now,
    )

-- one more item is at most one more that is kept, and none where the test fails
length_more : {A : Type 0} (p : A → Bool) (xs : List A) (y : A) → length (filter p (xs ++ y ∷ [])) ≡ length (filter p xs) + one_if (p y)
length_more p [] y = length_kept (p y) y [] ∙ omega arith
length_more p (x ∷ xs) y =
    omega (arith, length_kept (p x) x (filter p (xs ++ y ∷ [])), length_kept (p x) x (filter p xs), length_more p xs y)

-- what is kept is an item that passes
in_either : {A : Type 0} (p : A → Bool) (x y : A) (kept xs : List A) (b : Bool) → p x ≡ b → (In y kept → (p y ≡ true) × In y xs) →
    In y (cond b (x ∷ kept) kept) → (p y ≡ true) × In y (x ∷ xs)
in_either p x y kept xs true pass rest (inl here) = (ap p here ∙ pass, inl here)
in_either p x y kept xs true pass rest (inr there) = let later = rest there in (later.0, inr later.1)
in_either p x y kept xs false fail rest there = let later = rest there in (later.0, inr later.1)

pub in_kept : {A : Type 0} (p : A → Bool) (xs : List A) (y : A) → In y (filter p xs) → (p y ≡ true) × In y xs
in_kept p [] y at = absurd at
in_kept p (x ∷ xs) y at = in_either p x y (filter p xs) xs (p x) refl (in_kept p xs y) at

-- and so is what is found
first_or_later : {A : Type 0} (p : A → Bool) (x y : A) (xs : List A) (b : Bool) → p x ≡ b → (find p xs ≡ Some y → (p y ≡ true) × In y xs) →
    cond b (Some x) (find p xs) ≡ Some y → (p y ≡ true) × In y (x ∷ xs)
first_or_later p x y xs true pass rest is = let same : y ≡ x = cc in (ap p same ∙ pass, inl same)
first_or_later p x y xs false fail rest is = let later = rest is in (later.0, inr later.1)

pub in_found : {A : Type 0} (p : A → Bool) (xs : List A) (y : A) → find p xs ≡ Some y → (p y ≡ true) × In y xs
in_found p [] y is = absurd (nothing y is)
  where
    nothing : {A : Type 0} (y : A) → None ≡ Some y → ⊥
    nothing y e = cc
in_found p (x ∷ xs) y is = first_or_later p x y xs (p x) refl (in_found p xs y) is

-- one more item before a map is at most one more that is kept behind it
more_mapped : {A B : Type 0} (p : B → Bool) (f : A → B) (q : A → Bool) (xs : List A) (y : A) →
    length (filter p (map f (filter q (xs ++ y ∷ [])))) ≤ length (filter p (map f (filter q xs))) + one_if (q y)
more_mapped p f q xs y =
    let parts : length (filter p (map f (filter q (xs ++ y ∷ []))))
    ≡ length (filter p (map f (filter q xs))) + length (filter p (map f (filter q (y ∷ [])))) =
    ap (λ zs. length (filter p (map f zs))) (filter-append q xs (y ∷ []))
    ∙ ap (λ zs. length (filter p zs)) (map-append f (filter q xs) (filter q (y ∷ [])))
    ∙ ap length (filter-append p (map f (filter q xs)) (map f (filter q (y ∷ []))))
    ∙ length-append (filter p (map f (filter q xs))) (filter p (map f (filter q (y ∷ [])))) in
    omega (arith, parts, last (q y))
  where
    last : (b : Bool) → length (filter p (map f (cond b (y ∷ []) []))) ≤ one_if b
    last true = omega (arith, length_kept (p (f y)) (f y) [], one_le (p (f y)))
    last false = omega arith

-- A delivery

-- what is still to list, and to come, after these deliveries
abbrev unlisted_of : State → GroupNo → List Uid → List Entry
unlisted_of s g abcasts = still_to_list (map entry_of (filter (is_of_view s g) abcasts)) (order_told s g)

abbrev to_come_of : State → GroupNo → List Uid → Message → Bool
to_come_of s g ids m = is_of_view s g m.id && (is_atomic (kind_of m.body) && not (is_among uid_eq m.id ids))

abbrev to_list_of : State → GroupNo → List Uid → List Uid → ℕ
to_list_of s g abcasts ids = length (unlisted_of s g abcasts) + length (filter (to_come_of s g ids) s.got)

one_more_unlisted : (s : State) (g : GroupNo) (u : Uid) (ids : List Uid) →
    length (unlisted_of s g (ids ++ u ∷ [])) ≤ length (unlisted_of s g ids) + one_if (is_of_view s g u)
one_more_unlisted s g u ids = more_mapped (λ e. not (is_among entry_eq e (order_told s g))) entry_of (is_of_view s g) ids u

come_before : (s : State) (g : GroupNo) (u : Uid) (ids : List Uid) (m : Message) → to_come_of s g (ids ++ u ∷ []) m ≡ true →
    to_come_of s g ids m ≡ true
come_before s g u ids m e =
    let a = and_parts (is_of_view s g m.id) _ e in
    let b = and_parts (is_atomic (kind_of m.body)) _ a.1 in
    and_from _ _ a.0 (and_from _ _ b.0 (not_mono _ _ (among_push u m.id ids) b.1))

fewer_to_come : (s : State) (g : GroupNo) (u : Uid) (ids : List Uid) →
    length (filter (to_come_of s g (ids ++ u ∷ [])) s.got) ≤ length (filter (to_come_of s g ids) s.got)
fewer_to_come s g u ids = fewer_kept (to_come_of s g (ids ++ u ∷ [])) (to_come_of s g ids) s.got (come_before s g u ids)

-- an ABCAST of the view that is delivered is no more to come
less_to_come : (s : State) (g : GroupNo) (m : Message) (ids : List Uid) → In m s.got → is_atomic (kind_of m.body) ≡ true →
    is_among uid_eq m.id ids ≡ false →
    length (filter (to_come_of s g (ids ++ m.id ∷ [])) s.got) + one_if (is_of_view s g m.id) ≤ length (filter (to_come_of s g ids) s.got)
less_to_come s g m ids at atomic new = by_view (is_of_view s g m.id) refl
  where
    now : is_of_view s g m.id ≡ true → to_come_of s g (ids ++ m.id ∷ []) m ≡ false
    now of =
        and_right (is_of_view s g m.id)
        _ (and_right (is_atomic (kind_of m.body)) _ (not_from_true (is_among uid_eq m.id (ids ++ m.id ∷ [])) (among_last m.id ids)))

    was : is_of_view s g m.id ≡ true → to_come_of s g ids m ≡ true
    was of =
        and_from (is_of_view s g m.id) (is_atomic (kind_of m.body) && not (is_among uid_eq m.id ids))
        of (and_from (is_atomic (kind_of m.body)) (not (is_among uid_eq m.id ids)) atomic (not_from_false (is_among uid_eq m.id ids) new))

    by_view : (b : Bool) → is_of_view s g m.id ≡ b →
        length (filter (to_come_of s g (ids ++ m.id ∷ [])) s.got) + one_if b ≤ length (filter (to_come_of s g ids) s.got)
    by_view true of =
        let less =
        less_kept (to_come_of s g (ids ++ m.id ∷ [])) (to_come_of s g ids) s.got m (come_before s g m.id ids) at (was of) (now of) in
        omega (arith, less)
    by_view false of = omega (arith, fewer_to_come s g m.id ids)

delivered_to_list : (s : State) (k : ℕ) (m : Message) (g : GroupNo) (j : ℕ) → In m s.got →
    is_among uid_eq m.id (s.process k).delivered ≡ false → to_list_by (with_delivery s k m) g j ≤ to_list_by s g j
delivered_to_list s k m g j at new = by_kind (is_atomic (kind_of m.body)) refl
  where
    -- at the process itself, and at another one
    atomic_at : (b : Bool) →
        k == j ≡ b → is_atomic (kind_of m.body) ≡ true → to_list_of s g (if b then s.abcasts k ++ m.id ∷ [] else s.abcasts j)
        (if b then (s.process k).delivered ++ m.id ∷ [] else (s.process j).delivered) ≤ to_list_by s g j
    atomic_at true is atomic =
        let more = one_more_unlisted s g m.id (s.abcasts k) in
        let less = less_to_come s g m (s.process k).delivered at atomic new in
        subst (λ i. to_list_of s g (s.abcasts k ++ m.id ∷ []) ((s.process k).delivered ++ m.id ∷ [])
        ≤ to_list_of s g (s.abcasts i) (s.process i).delivered) (eqb-true k j is) (omega (arith, more, less))
    atomic_at false is atomic = omega arith

    other_at : (b : Bool) → k == j ≡ b →
        to_list_of s g (s.abcasts j) (if b then (s.process k).delivered ++ m.id ∷ [] else (s.process j).delivered) ≤ to_list_by s g j
    other_at true is =
        let fewer = fewer_to_come s g m.id (s.process k).delivered in
        subst
        (λ i. to_list_of s g (s.abcasts j) ((s.process k).delivered ++ m.id ∷ []) ≤ to_list_of s g (s.abcasts j) (s.process i).delivered)
        (eqb-true k j is) (omega (arith, fewer))
    other_at false is = omega arith

    by_kind : (a : Bool) → is_atomic (kind_of m.body) ≡ a →
        to_list_of s g ((if a then set_at (λ a b. a == b) s.abcasts k (s.abcasts k ++ m.id ∷ []) else s.abcasts) j)
        ((with_delivery s k m).process j).delivered ≤ to_list_by s g j
    by_kind true atomic =
        subst (λ ids. to_list_of s g (if k == j then s.abcasts k ++ m.id ∷ [] else s.abcasts j) ids ≤ to_list_by s g j)
        (sym (delivered_at s k m j)) (atomic_at (k == j) refl atomic)
    by_kind false atomic =
        subst (λ ids. to_list_of s g (s.abcasts j) ids ≤ to_list_by s g j) (sym (delivered_at s k m j)) (other_at (k == j) refl)

-- a delivery leaves processes no more to list
pub to_list_delivered : (s : State) (k : ℕ) (m : Message) → find (is_ready_for s k) s.got ≡ Some m → (g : GroupNo) →
    to_list_in (with_delivery s k m) g ≤ to_list_in s g
to_list_delivered s k m found g =
    let is = in_found (is_ready_for s k) s.got m found in
    total_le (to_list_by (with_delivery s k m) g) (to_list_by s g) (serials s)
    (λ j. delivered_to_list s k m g j is.1 (ready_new s k m is.0))

-- A set-order message

-- what a message adds to the facts told of a group's order
abbrev told_in : State → GroupNo → Message → Facts
told_in s g m = if is_of_view s g m.id then told_by m.body else []

facts_more : (s : State) (g : GroupNo) (m : Message) → facts_in (receiving s m) g ≡ facts_in s g ++ told_in s g m
facts_more s g m =
    ap (flat_map (λ m. told_by m.body)) (filter-append (λ m. is_of_view s g m.id) s.got (m ∷ []))
    ∙ flat_map-append (λ m. told_by m.body) (filter (λ m. is_of_view s g m.id) s.got) (filter (λ m. is_of_view s g m.id) (m ∷ []))
    ∙ ap (λ facts. facts_in s g ++ facts) (last (is_of_view s g m.id))
  where
    last : (b : Bool) → flat_map (λ (m : Message). told_by m.body) (cond b (m ∷ []) []) ≡ (if b then told_by m.body else [])
    last true = append-nil (told_by m.body)
    last false = refl

-- what is in the order stays in it
among_more : (s : State) (g : GroupNo) (m : Message) (e : Entry) → is_among entry_eq e (order_told s g) ≡ true →
    is_among entry_eq e (order_told (receiving s m) g) ≡ true
among_more s g m e is =
    ap (λ facts. is_among entry_eq e (known_order facts)) (facts_more s g m)
    ∙ known_stays (facts_in s g) (told_in s g m) e is

-- what is received as no ABCAST is none to come
to_come_same : (s : State) (m : Message) (g : GroupNo) (k : ℕ) → is_atomic (kind_of m.body) ≡ false →
    length (filter (is_to_come s g k) (s.got ++ m ∷ [])) ≡ length (filter (is_to_come s g k) s.got)
to_come_same s m g k other =
    let none : ◌≡◌ {A = ℕ} (one_if (is_to_come s g k m)) 0 =
    ap one_if (and_right (is_of_view s g m.id) _ (and_left (is_atomic (kind_of m.body)) _ other)) in
    omega (arith, none, length_more (is_to_come s g k) s.got m)

-- those that are not in the order then were not in it before
unlisted_before : (s : State) (m : Message) (g : GroupNo) (e : Entry) → not (is_among entry_eq e (order_told (receiving s m) g)) ≡ true →
    not (is_among entry_eq e (order_told s g)) ≡ true
unlisted_before s m g e = not_mono _ _ (among_more s g m e)

fewer_unlisted : (s : State) (m : Message) (g : GroupNo) (k : ℕ) → length (unlisted_ids (receiving s m) g k) ≤ length (unlisted_ids s g k)
fewer_unlisted s m g k =
    fewer_kept (λ e. not (is_among entry_eq e (order_told (receiving s m) g))) (λ e. not (is_among entry_eq e (order_told s g)))
    (abcasts_delivered s g k) (unlisted_before s m g)

-- a holder's next set-order message
abbrev pub order_message : State → GroupNo → ℕ → Message
order_message s g k = next_message s g k (body.Order (places_of s g k))

order_message_told : (s : State) (g : GroupNo) (k : ℕ) → told_in s g (order_message s g k) ≡ facts_of (places_of s g k)
order_message_told s g k =
    ap (λ b. if b then facts_of (places_of s g k) else [])
    (and_from (group_eq g g) _ (group_itself g) (eq-eqb (s.group g).number (s.group g).number refl))

-- it lists the first of those that are not in the order
less_unlisted : (s : State) (g : GroupNo) (k : ℕ) → has_place (order_told s g) ≡ true → not (is_empty (unlisted_ids s g k)) ≡ true →
    length (unlisted_ids (receiving s (order_message s g k)) g k) < length (unlisted_ids s g k)
less_unlisted s g k place some = by_first (unlisted_ids s g k) refl some
  where
    by_first : (es : List Entry) → unlisted_ids s g k ≡ es → not (is_empty es) ≡ true →
        length (unlisted_ids (receiving s (order_message s g k)) g k) < length (unlisted_ids s g k)
    by_first [] is some = absurd (true≢false (sym some))
    by_first (e ∷ es) is some =
        let m : Message = order_message s g k in
        let was : In e (unlisted_ids s g k) = subst (λ es. In e es) (sym is) (inl refl) in
        let new = in_kept (λ e. not (is_among entry_eq e (order_told s g))) (abcasts_delivered s g k) e was in
        let told : is_among entry_eq e (order_told (receiving s m) g) ≡ true =
        ap (λ facts. is_among entry_eq e (known_order facts))
        (facts_more s g m ∙ ap (λ facts. facts_in s g ++ facts) (order_message_told s g k))
        ∙ first_enters (facts_in s g) (places_of s g k) e (take (MAX_PLACED - 1) es) (ltb-true (length (order_told s g)) MAX_POSITION place)
        refl (ap ids_to_list is) in
        less_kept (λ e. not (is_among entry_eq e (order_told (receiving s m) g))) (λ e. not (is_among entry_eq e (order_told s g)))
        (abcasts_delivered s g k) e (unlisted_before s m g) new.1 new.0
        (not_from_true (is_among entry_eq e (order_told (receiving s m) g)) told)

received_to_list : (s : State) (m : Message) (g : GroupNo) (k : ℕ) → is_atomic (kind_of m.body) ≡ false →
    to_list_by (receiving s m) g k ≤ to_list_by s g k
received_to_list s m g k other = let fewer = fewer_unlisted s m g k in let same = to_come_same s m g k other in omega (arith, fewer, same)

-- what is received as no ABCAST leaves processes no more to list
pub to_list_received : (s : State) (m : Message) → is_atomic (kind_of m.body) ≡ false → (g : GroupNo) →
    to_list_in (receiving s m) g ≤ to_list_in s g
to_list_received s m other g = total_le (to_list_by (receiving s m) g) (to_list_by s g) (serials s) (λ k. received_to_list s m g k other)

-- and a set-order message less
pub to_list_ordered : (s : State) (g : GroupNo) (k : ℕ) → In k (serials s) → has_place (order_told s g) ≡ true →
    not (is_empty (unlisted_ids s g k)) ≡ true → to_list_in (receiving s (order_message s g k)) g < to_list_in s g
to_list_ordered s g k at place some =
    let m : Message = order_message s g k in
    let less = less_unlisted s g k place some in
    let same = to_come_same s m g k refl in
    total_lt (to_list_by (receiving s m) g) (to_list_by s g) (serials s) k (λ j. received_to_list s m g j refl)
    at (omega (arith, less, same))
