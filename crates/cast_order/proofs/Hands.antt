-- What is kept of processes that order a view's ABCASTs: what one has while its own or another's
-- changes, and what it means.
-- A hand is what is kept of one process that orders the ABCASTs of a view. `hand_of_change` says
-- that a change of one hand changes no other. The lemmas whose names end in `_fits` say that each
-- move of a log (a new hand, a token that is taken or handed over, an order that is told, a place
-- that is passed) keeps what the hands mean. Each looks at the one hand that changes, as the
-- others stand; and hands stay in the order of their processes (`change_rises`).
use Rattle.std.proofs.Common.{◌≡◌, ℕ, suc, ◌+◌, ◌≤◌, max, Bool, true, false, cond, not, ◌||◌, List, [], ◌∷◌, ◌++◌, length, map, take}
use Rattle.std.proofs.Common.{drop, Option, Some, None, unwrap_or, refl, sym, ap, subst, ◌∙◌, inl, inr, arith, Less, Equal, Greater}
use Rattle.std.specs.Prelude.{nat_lt, nat_le}
use Rattle.std.specs.List.{find, filter, list_any, insert, position_or_len}
use Rattle.std.specs.Ordering.{is_lt}
use Rattle.std.specs.Option.{option_or}
use Rattle.std.proofs.lemmas.Bool.{cases_Bool, cases_lt, false≢true, or_parts, or_right, lt-ltb, le-ltb, le-leb, lt-leb}
use Rattle.std.proofs.lemmas.List.{append-nil, drop_at, take-append-drop}
use Rattle.std.proofs.lemmas.List.Folds.{find-append, list_any-append}
use Rattle.std.proofs.lemmas.List.Elements.{filter-append}
use Rattle.cast_types.specs.declared.names.Proc.{Proc}
use Rattle.cast_types.specs.Names.{Entry, proc_eq, proc_cmp, entry_eq}
use Rattle.cast_types.specs.Rising.{is_rising}
use Rattle.cast_types.specs.Sets.{is_among, with_item, at_order}
use Rattle.cast_types.proofs.Orders.{same_proc, proc_itself, proc_total, proc_exact}
use Rattle.cast_types.proofs.Rising.{rising-with_item}
use Rattle.cast_message.proofs.Places.{position_or_len_found}
use Rattle.cast_order.specs.Order.{Listing, last_listed, last_upto, still_to_list, settled_places}
use Rattle.cast_order.specs.Hand.{Hand, new_hand, note_placed, hand_of, hand_in, hand_place, hand_opened, change_hand, hands_rise}
use Rattle.cast_order.specs.Log.{hand_here}
use Rattle.cast_order.specs.Laws.{NewHandFits, HoldKeepsHand, HandOverKeepsHand, TellKeepsHand, FollowKeepsHand, PlaceKeepsHand}
use Rattle.cast_order.specs.Laws.{NoteKeepsHand, SettledIsTheRule, HandChangeIsOfOne, LearntIsOfAll, ChangeKeepsOrder, PlaceKeepsOrder}
use Rattle.cast_order.proofs.Meanings.{added, with_placement_open, order_on}

abbrev of_process : Proc → Hand → Bool
of_process g l = proc_eq l.process g

-- where a process has no hand none is found
none_found : (g : Proc) (hands : List Hand) → list_any (of_process g) hands ≡ false → find (of_process g) hands ≡ None
none_found g [] none = refl
none_found g (l ∷ hands) none =
    let parts = or_parts (proc_eq l.process g) (list_any (of_process g) hands) none in
    ap (λ b. cond b (Some l) (find (of_process g) hands)) parts.0 ∙ none_found g hands parts.1

-- A new hand is put in among the others

-- what is found among them is found still, and else the new one, if it passes
found_in : (t : Hand → Bool) (hands : List Hand) (i : ℕ) (h : Hand) → t h ≡ false → find t (insert hands i h) ≡ find t hands
found_in t hands i h fails =
    find-append t (take i hands) (h ∷ drop i hands)
    ∙ ap (λ b. option_or (find t (take i hands)) (cond b (Some h) (find t (drop i hands)))) fails
    ∙ sym (find-append t (take i hands) (drop i hands))
    ∙ ap (find t) (take-append-drop i hands)

found_new : (t : Hand → Bool) (hands : List Hand) (i : ℕ) (h : Hand) → t h ≡ true → find t hands ≡ None → find t (insert hands i h) ≡ Some h
found_new t hands i h passes none =
    find-append t (take i hands) (h ∷ drop i hands)
    ∙ ap (λ b. option_or (find t (take i hands)) (cond b (Some h) (find t (drop i hands)))) passes
    ∙ ap (λ o. option_or o (Some h)) (first (find t (take i hands)) (find t (drop i hands))
    (sym (find-append t (take i hands) (drop i hands)) ∙ ap (find t) (take-append-drop i hands) ∙ none))
  where
    first : (a b : Option Hand) → option_or a b ≡ None → a ≡ None
    first None b is = refl
    first (Some x) b is = is

-- each process has what it had, once one has a hand
hand_still : (g h : Proc) (hands : List Hand) → hand_of (hand_opened g hands) h ≡ hand_of hands h
hand_still g h hands =
    elim (list_any (of_process g) hands) as (λ b. list_any (of_process g) hands ≡ b →
    hand_of (cond b hands (insert hands (hand_place g hands) (new_hand g))) h ≡ hand_of hands h) [
      | true ↦ λ _. refl
      | false ↦ λ none. elim (cases_Bool (proc_eq g h)) [
        | inl same ↦
            let is : g ≡ h = same_proc g h same in
            subst (λ k. hand_of (insert hands (hand_place g hands) (new_hand g)) k ≡ hand_of hands k) is
            (ap (λ o. unwrap_or o (new_hand g))
            (found_new (of_process g) hands (hand_place g hands) (new_hand g) (proc_itself g) (none_found g hands none))
            ∙ ap (λ o. unwrap_or o (new_hand g)) (sym (none_found g hands none)))
        | inr other ↦ ap (λ o. unwrap_or o (new_hand h)) (found_in (of_process h) hands (hand_place g hands) (new_hand g) other)
      ]
    ] refl

-- and that one has
has_hand : (g : Proc) (hands : List Hand) → list_any (of_process g) (hand_opened g hands) ≡ true
has_hand g hands =
    elim (list_any (of_process g) hands) as (λ b. list_any (of_process g) hands ≡ b →
    list_any (of_process g) (cond b hands (insert hands (hand_place g hands) (new_hand g))) ≡ true) [
      | true ↦ λ some. some
      | false ↦ λ _.
          let i : ℕ = hand_place g hands in
          list_any-append (of_process g) (take i hands) (new_hand g ∷ drop i hands)
          ∙ ap (λ b. list_any (of_process g) (take i hands) || (b || list_any (of_process g) (drop i hands))) (proc_itself g)
          ∙ or_right (list_any (of_process g) (take i hands)) true refl
    ] refl

-- a change keeps the process that a hand is of
abbrev pub KeepsProcess : (Hand → Hand) → Type 0
KeepsProcess f = (l : Hand) → (f l).process ≡ l.process

-- the process's own hand is changed
own_in : (g : Proc) (f : Hand → Hand) → KeepsProcess f → (hands : List Hand) → list_any (of_process g) hands ≡ true →
    unwrap_or (find (of_process g) (hand_in g f hands)) (new_hand g) ≡ f (unwrap_or (find (of_process g) hands) (new_hand g))
own_in g f keeps [] some = absurd (false≢true some)
own_in g f keeps (l ∷ hands) some = elim (cases_Bool (proc_eq l.process g)) [
  | inl here ↦
      let found : find (of_process g) (l ∷ hands) ≡ Some l = ap (λ b. cond b (Some l) (find (of_process g) hands)) here in
      let changed : hand_in g f (l ∷ hands) ≡ f l ∷ hand_in g f hands = ap (λ b. cond b (f l) l ∷ hand_in g f hands) here in
      let still : proc_eq (f l).process g ≡ true = ap (λ h. proc_eq h g) (keeps l) ∙ here in
      ap (λ ls. unwrap_or (find (of_process g) ls) (new_hand g)) changed
      ∙ ap (λ b. unwrap_or (cond b (Some (f l)) (find (of_process g) (hand_in g f hands))) (new_hand g)) still
      ∙ ap (λ o. f (unwrap_or o (new_hand g))) (sym found)
  | inr other ↦
      let rest : list_any (of_process g) hands ≡ true = ap (λ b. b || list_any (of_process g) hands) (sym other) ∙ some in
      let found : find (of_process g) (l ∷ hands) ≡ find (of_process g) hands =
      ap (λ b. cond b (Some l) (find (of_process g) hands)) other in
      let changed : hand_in g f (l ∷ hands) ≡ l ∷ hand_in g f hands = ap (λ b. cond b (f l) l ∷ hand_in g f hands) other in
      ap (λ ls. unwrap_or (find (of_process g) ls) (new_hand g)) changed
      ∙ ap (λ b. unwrap_or (cond b (Some l) (find (of_process g) (hand_in g f hands))) (new_hand g)) other
      ∙ own_in g f keeps hands rest
      ∙ ap (λ o. f (unwrap_or o (new_hand g))) (sym found)
]

pub change_own : (g : Proc) (f : Hand → Hand) → KeepsProcess f → (hands : List Hand) →
    hand_of (change_hand g f hands) g ≡ f (hand_of hands g)
change_own g f keeps hands = own_in g f keeps (hand_opened g hands) (has_hand g hands) ∙ ap f (hand_still g g hands)

-- and no other's
apart_of : (g h k : Proc) → proc_eq g h ≡ false → proc_eq k g ≡ true → proc_eq k h ≡ false
apart_of g h k other same = ap (λ j. proc_eq j h) (same_proc k g same) ∙ other

other_in : (g h : Proc) (f : Hand → Hand) → KeepsProcess f → proc_eq g h ≡ false → (hands : List Hand) →
    find (of_process h) (hand_in g f hands) ≡ find (of_process h) hands
other_in g h f keeps other [] = refl
other_in g h f keeps other (l ∷ hands) = elim (cases_Bool (proc_eq l.process g)) [
  | inl same ↦
      let out = apart_of g h l.process other same in
      let changed : hand_in g f (l ∷ hands) ≡ f l ∷ hand_in g f hands = ap (λ b. cond b (f l) l ∷ hand_in g f hands) same in
      ap (find (of_process h)) changed
      ∙ ap (λ b. cond b (Some (f l)) (find (of_process h) (hand_in g f hands))) (ap (λ k. proc_eq k h) (keeps l) ∙ out)
      ∙ other_in g h f keeps other hands
      ∙ ap (λ b. cond b (Some l) (find (of_process h) hands)) (sym out)
  | inr apart ↦
      let changed : hand_in g f (l ∷ hands) ≡ l ∷ hand_in g f hands = ap (λ b. cond b (f l) l ∷ hand_in g f hands) apart in
      ap (find (of_process h)) changed
      ∙ ap (λ o. cond (proc_eq l.process h) (Some l) o) (other_in g h f keeps other hands)
]

pub change_other : (g h : Proc) (f : Hand → Hand) → KeepsProcess f → proc_eq g h ≡ false → (hands : List Hand) →
    hand_of (change_hand g f hands) h ≡ hand_of hands h
change_other g h f keeps other hands =
    ap (λ o. unwrap_or o (new_hand h)) (other_in g h f keeps other (hand_opened g hands)) ∙ hand_still g h hands

-- what each process has after one's hand is changed
pub hand_of_change : HandChangeIsOfOne
hand_of_change hands g h f keeps = elim (cases_Bool (proc_eq g h)) [
  | inl same ↦
      ap (hand_of (change_hand g f hands)) (sym (same_proc g h same))
      ∙ change_own g f keeps hands
      ∙ ap (λ b. cond b (f (hand_of hands g)) (hand_of hands h)) (sym same)
  | inr other ↦
      change_other g h f keeps other hands
      ∙ ap (λ b. cond b (f (hand_of hands g)) (hand_of hands h)) (sym other)
]

-- Hands stand in the order of their processes

one_more : (n : ℕ) → 1 + n ≡ suc n
one_more n = omega arith

names_in : (g : Proc) (hands : List Hand) → list_any (of_process g) hands ≡ false →
    map (λ h. h.process) (insert hands (position_or_len (λ h. is_lt (proc_cmp g h.process)) hands) (new_hand g))
    ≡ with_item proc_cmp g (map (λ h. h.process) hands)
names_in g [] none = refl
names_in g (l ∷ hands) none =
    let n : ℕ = position_or_len (λ h. is_lt (proc_cmp g h.process)) hands in
    let names : List Proc = map (λ h. h.process) hands in
    let parts = or_parts (proc_eq l.process g) (list_any (of_process g) hands) none in
    elim (proc_cmp g l.process) as (λ o. proc_cmp g l.process ≡ o →
    map (λ h. h.process) (insert (l ∷ hands) (cond (not (is_lt o)) (1 + n) 0) (new_hand g)) ≡ at_order o (g ∷ l.process ∷ names)
    (l.process ∷ names) (l.process ∷ with_item proc_cmp g names)) [
      | Less ↦ λ _. refl
      | Equal ↦ λ is. absurd (false≢true (sym parts.0 ∙ ap (λ p. proc_eq p g) (sym (proc_exact g l.process is)) ∙ proc_itself g))
      | Greater ↦ λ _.
          ap (λ m. map (λ h. h.process) (insert (l ∷ hands) m (new_hand g))) (one_more n)
          ∙ ap (λ ps. l.process ∷ ps) (names_in g hands parts.1)
    ] refl

opened_rise : (g : Proc) (hands : List Hand) → hands_rise hands ≡ true → hands_rise (hand_opened g hands) ≡ true
opened_rise g hands rise =
    elim (list_any (of_process g) hands)
    as (λ b. list_any (of_process g) hands ≡ b → hands_rise (cond b hands (insert hands (hand_place g hands) (new_hand g))) ≡ true) [
      | true ↦ λ _. rise
      | false ↦ λ none.
          ap (λ n. hands_rise (insert hands n (new_hand g))) (position_or_len_found (λ h. is_lt (proc_cmp g h.process)) hands)
          ∙ ap (is_rising proc_cmp) (names_in g hands none)
          ∙ rising-with_item proc_cmp proc_total g (map (λ h. h.process) hands) rise
    ] refl

-- what keeps the processes of hands keeps their order
names_kept : (g : Proc) (f : Hand → Hand) → KeepsProcess f → (hands : List Hand) →
    map (λ h. h.process) (hand_in g f hands) ≡ map (λ h. h.process) hands
names_kept g f keeps [] = refl
names_kept g f keeps (l ∷ hands) =
    elim (proc_eq l.process g)
    as (λ b. (cond b (f l) l).process ∷ map (λ h. h.process) (hand_in g f hands) ≡ l.process ∷ map (λ h. h.process) hands) [
      | true ↦ λ i. keeps l i ∷ names_kept g f keeps hands i
      | false ↦ ap (λ ps. l.process ∷ ps) (names_kept g f keeps hands)
    ]

pub change_rises : ChangeKeepsOrder
change_rises g f hands keeps rise = ap (is_rising proc_cmp) (names_kept g f keeps (hand_opened g hands)) ∙ opened_rise g hands rise

pub place_rises : PlaceKeepsOrder
place_rises ids hands rise = ap (is_rising proc_cmp) (names hands) ∙ rise
  where
    names : (hs : List Hand) → map (λ h. h.process) (map (note_placed ids) hs) ≡ map (λ h. h.process) hs
    names [] = refl
    names (h ∷ hs) = ap (λ ps. h.process ∷ ps) (names hs)

-- What a hand means

abbrev among : Entry → List Entry → Bool
among e xs = is_among entry_eq e xs

among-append : (e : Entry) (xs ys : List Entry) → among e (xs ++ ys) ≡ (among e xs || among e ys)
among-append e xs ys = list_any-append (entry_eq e) xs ys

pub new_hand_fits : NewHandFits
new_hand_fits p order = record { first = refl; waiting = refl; lists = λ n le. refl }

pub hold_fits : HoldKeepsHand
hold_fits order token delivered listed stable h fits first = record { first = refl; waiting = fits.waiting; lists = fits.lists }

pub hand_over_fits : HandOverKeepsHand
hand_over_fits order token delivered listed stable h fits = record { first = refl; waiting = fits.waiting; lists = fits.lists }

pub tell_fits : TellKeepsHand
tell_fits order token delivered listed stable h fits e new = record {
  first = fits.first;
  waiting =
      ap (λ w. w ++ e ∷ []) fits.waiting
      ∙ ap (λ b. still_to_list delivered order ++ cond (not b) (e ∷ []) []) (sym new)
      ∙ sym (filter-append (λ x. not (among x order)) delivered (e ∷ []));
  lists = fits.lists;
}

pub follow_fits : FollowKeepsHand
follow_fits order token delivered listed stable h fits e known = record {
  first = fits.first;
  waiting =
      fits.waiting
      ∙ sym (append-nil (still_to_list delivered order))
      ∙ ap (λ b. still_to_list delivered order ++ cond (not b) (e ∷ []) []) (sym known)
      ∙ sym (filter-append (λ x. not (among x order)) delivered (e ∷ []));
  lists = fits.lists;
}

-- one that passes two tests
abbrev filter_if : Bool → Bool → Entry → List Entry → List Entry
filter_if a b x xs = cond a (cond b (x ∷ xs) xs) xs

-- of what an order lacks, what these ids lack is what both lack
by_either : (a b : Bool) (x : Entry) (once twice : List Entry) → twice ≡ once →
    filter_if (not a) (not b) x twice ≡ cond (not (a || b)) (x ∷ once) once
by_either true b x once twice rest = rest
by_either false true x once twice rest = rest
by_either false false x once twice rest = ap (λ ys. x ∷ ys) rest

left_by_both : (order ids xs : List Entry) →
    filter (λ e. not (among e ids)) (filter (λ e. not (among e order)) xs) ≡ filter (λ e. not (among e (order ++ ids))) xs
left_by_both order ids [] = refl
left_by_both order ids (x ∷ xs) =
    let once : List Entry = filter (λ e. not (among e (order ++ ids))) xs in
    let twice : List Entry = filter (λ e. not (among e ids)) (filter (λ e. not (among e order)) xs) in
    let first : filter (λ e. not (among e ids)) (filter (λ e. not (among e order)) (x ∷ xs))
    ≡ filter_if (not (among x order)) (not (among x ids)) x twice =
    elim (not (among x order))
    as (λ b. filter (λ e. not (among e ids)) (cond b (x ∷ filter (λ e. not (among e order)) xs) (filter (λ e. not (among e order)) xs))
    ≡ filter_if b (not (among x ids)) x twice) [ true ↦ refl | false ↦ refl ] in
    first
    ∙ by_either (among x order) (among x ids) x once twice (left_by_both order ids xs)
    ∙ ap (λ b. cond (not b) (x ∷ once) once) (sym (among-append x order ids))

pub place_fits : PlaceKeepsHand
place_fits order token delivered listed stable h fits ids = record {
  first = fits.first;
  waiting = ap (filter (λ e. not (among e ids))) fits.waiting ∙ left_by_both order ids delivered;
  lists = fits.lists;
}

-- The last places of set-order messages

last_cond : (b : Bool) (x : ℕ × ℕ) (xs : Listing) → last_listed (cond b (x ∷ xs) xs) ≡ max (cond b x.1 0) (last_listed xs)
last_cond true x xs = refl
last_cond false x xs = omega arith

last_one : (n : ℕ) (x : ℕ × ℕ) (xs : Listing) → last_upto n (x ∷ xs) ≡ max (cond (nat_le x.0 n) x.1 0) (last_upto n xs)
last_one n x xs = last_cond (nat_le x.0 n) x (filter (λ y. nat_le y.0 n) xs)

last_push : (n : ℕ) (xs : Listing) (x : ℕ × ℕ) → last_upto n (xs ++ x ∷ []) ≡ max (last_upto n xs) (cond (nat_le x.0 n) x.1 0)
last_push n [] x = last_one n x [] ∙ omega arith
last_push n (y ∷ xs) x =
    let rest = last_push n xs x in
    let here = last_one n y (xs ++ x ∷ []) in
    let was = last_one n y xs in
    omega (arith, rest, here, was)

-- those beyond a count and those up to it
last_parted : (m n : ℕ) → m ≤ n → (xs : Listing) → last_upto n xs ≡ max (last_upto m xs) (last_upto n (filter (λ x. nat_lt m x.0) xs))
last_parted m n le [] = refl
last_parted m n le (x ∷ xs) = elim (cases_lt m x.0) [
  | inl beyond ↦
      let rest = last_parted m n le xs in
      let whole = last_one n x xs in
      let low = last_one m x xs ∙ ap (λ b. max (cond b x.1 0) (last_upto m xs)) (lt-leb x.0 m beyond) in
      let high =
      ap (λ b. last_upto n (cond b (x ∷ filter (λ x. nat_lt m x.0) xs) (filter (λ x. nat_lt m x.0) xs))) (lt-ltb m x.0 beyond)
      ∙ last_one n x (filter (λ x. nat_lt m x.0) xs) in
      omega (arith, rest, whole, low, high)
  | inr within ↦
      let rest = last_parted m n le xs in
      let whole = last_one n x xs ∙ ap (λ b. max (cond b x.1 0) (last_upto n xs)) (le-leb x.0 n (omega (arith, le, within))) in
      let low = last_one m x xs ∙ ap (λ b. max (cond b x.1 0) (last_upto m xs)) (le-leb x.0 m within) in
      let high = ap (λ b. last_upto n (cond b (x ∷ filter (λ x. nat_lt m x.0) xs) (filter (λ x. nat_lt m x.0) xs))) (le-ltb m x.0 within) in
      omega (arith, rest, whole, low, high)
]

pub note_fits : NoteKeepsHand
note_fits order token delivered listed stable h fits count last n le = record {
  first = fits.first;
  waiting = fits.waiting;
  lists = λ m high.
      let kept = filter (λ x. nat_lt n x.0) h.lists in
      let now = last_push m kept (count, last) in
      let all = last_push m listed (count, last) in
      let parts = last_parted n m high h.lists in
      let was = fits.lists m (omega (arith, le, high)) in
      omega (arith, now, all, parts, was);
}

pub settled_rules : SettledIsTheRule
settled_rules order token delivered listed stable h fits n le = λ i. settled_places (fits.first i) (fits.lists n le i)

-- What is learnt joins the order for each

placed_each : (ids : List Entry) (hands : List Hand) (p : Proc) →
    hand_of (map (note_placed ids) hands) p ≡ note_placed ids (hand_of hands p)
placed_each ids [] p = refl
placed_each ids (h ∷ hands) p =
    elim (proc_eq h.process p) as (λ b. unwrap_or (cond b (Some (note_placed ids h)) (find (of_process p) (map (note_placed ids) hands)))
    (new_hand p) ≡ note_placed ids (unwrap_or (cond b (Some h) (find (of_process p) hands)) (new_hand p))) [
      | true ↦ refl
      | false ↦ placed_each ids hands p
    ]

pub learnt_each : LearntIsOfAll
learnt_each facts goes_on has_passed l fits s = (
  added s l,
  sym (order_on facts goes_on has_passed l fits s),
  λ p.
      ap (λ x. hand_here x p) (with_placement_open s l fits.still_open)
      ∙ placed_each (drop (length l.window) (l.window ++ added s l)) l.hands p
      ∙ ap (λ ids. note_placed ids (hand_here l p)) (drop_at l.window (added s l) (length l.window) refl),
)
