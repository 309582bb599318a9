-- Of rising keys, how many are above another.
use Rattle.std.proofs.Common.{◌≡◌, ℕ, zero, suc, ◌+◌, ◌-◌, ◌<◌, ◌≤◌, Bool, true, false, cond, Some, None}
use Rattle.std.proofs.Common.{List, [], ◌∷◌, ◌++◌, drop, length, get_or, refl, ap, sym, subst, inl, inr, arith}
use Rattle.std.specs.Prelude.{nat_lt, filter}
use Rattle.std.specs.List.{list_all}
use Rattle.std.proofs.lemmas.Bool.{cases_lt, and_from, and_parts, leb-true, ltb-true, le-ltb, lt-ltb}
use Rattle.cast_index.specs.Rises.{all_below}
use Rattle.cast_index.proofs.Rises.{above_at, parts_of, rises_push}
use Rattle.cast_pace.specs.Following.{KeysRise, WhoGoesOnHasRoom, following}

-- one more, where it is above the key, and where it is not
more : (key x : ℕ) (casts : List ℕ) → key < x → following key (x ∷ casts) ≡ suc (following key casts)
more key x casts lt =
    ap (λ b. length (cond b (x ∷ filter (λ k. nat_lt key k) casts) (filter (λ k. nat_lt key k) casts))) (lt-ltb key x lt)

no_more : (key x : ℕ) (casts : List ℕ) → x ≤ key → following key (x ∷ casts) ≡ following key casts
no_more key x casts le =
    ap (λ b. length (cond b (x ∷ filter (λ k. nat_lt key k) casts) (filter (λ k. nat_lt key k) casts))) (le-ltb key x le)

pub at_most_all : (key : ℕ) (casts : List ℕ) → following key casts ≤ length casts
at_most_all key [] = omega arith
at_most_all key (x ∷ casts) = elim (cases_lt key x) [
  | inl lt ↦ omega (arith, more key x casts lt, at_most_all key casts)
  | inr le ↦ omega (arith, no_more key x casts le, at_most_all key casts)
]

all_follow : (key x : ℕ) (casts : List ℕ) → list_all (λ z. nat_lt x z) casts ≡ true → key < x → length casts ≤ following key casts
all_follow key x [] all above = omega arith
all_follow key x (y ∷ casts) all above =
    let parts = and_parts (nat_lt x y) (list_all (λ z. nat_lt x z) casts) all in
    omega (arith, more key y casts (omega (arith, ltb-true x y parts.0, above)), all_follow key x casts parts.1 above)

-- all that stand behind one above a key are above it
pub many_follow : (key d : ℕ) (casts : List ℕ) (i : ℕ) → KeysRise casts → i < length casts → key < get_or casts i d →
    length casts ≤ following key casts + i
many_follow key d [] i up within above = absurd (omega (arith, within))
many_follow key d (x ∷ casts) zero up within above =
    omega (arith, more key x casts above, all_follow key x casts (parts_of (λ k. k) x casts up).0 above)
many_follow key d (x ∷ casts) (suc i) up within above =
    let parts : (list_all (λ z. nat_lt x z) casts ≡ true) × KeysRise casts = parts_of (λ k. k) x casts up in
    let rest = many_follow key d casts i parts.1 (omega (arith, within)) above in
    elim (cases_lt key x) [
      | inl lt ↦ omega (arith, more key x casts lt, rest)
      | inr le ↦ omega (arith, no_more key x casts le, rest)
    ]

-- none that stands before one that is not above a key is above it
pub few_follow : (key d : ℕ) (casts : List ℕ) (i : ℕ) → KeysRise casts → i < length casts → get_or casts i d ≤ key →
    following key casts + i < length casts
few_follow key d [] i up within below = absurd (omega (arith, within))
few_follow key d (x ∷ casts) zero up within below = omega (arith, no_more key x casts below, at_most_all key casts)
few_follow key d (x ∷ casts) (suc i) up within below =
    let parts : (list_all (λ z. nat_lt x z) casts ≡ true) × KeysRise casts = parts_of (λ k. k) x casts up in
    let before : x < get_or casts i d = above_at (λ k. k) x casts i d parts.0 (omega (arith, within)) in
    omega (arith, no_more key x casts (omega (arith, before, below)), few_follow key d casts i parts.1 (omega (arith, within)) below)

-- all are below a key that the last one is below
below_last : (key d : ℕ) (casts : List ℕ) (last : ℕ) → KeysRise casts → length casts ≡ suc last → get_or casts last d < key →
    all_below (λ k. k) key casts ≡ true
below_last key d [] last up len below = refl
below_last key d (x ∷ []) zero up len below = and_from (nat_lt x key) true (lt-ltb x key below) refl
below_last key d (x ∷ y ∷ ys) zero up len below = absurd (omega (arith, len))
below_last key d (x ∷ []) (suc last) up len below = absurd (omega (arith, len))
below_last key d (x ∷ y ∷ ys) (suc last) up len below =
    let parts : (list_all (λ z. nat_lt x z) (y ∷ ys) ≡ true) × KeysRise (y ∷ ys) = parts_of (λ k. k) x (y ∷ ys) up in
    let rest = below_last key d (y ∷ ys) last parts.1 (omega (arith, len)) below in
    let next : y < key = ltb-true y key (and_parts (nat_lt y key) (all_below (λ k. k) key ys) rest).0 in
    and_from (nat_lt x key) (all_below (λ k. k) key (y ∷ ys))
    (lt-ltb x key (omega (arith, next, above_at (λ k. k) x (y ∷ ys) 0 d parts.0 (omega arith)))) rest

pub below_all : (key : ℕ) (casts : List ℕ) → KeysRise casts → get_or casts (length casts - 1) 0 < key → all_below (λ k. k) key casts ≡ true
below_all key [] up below = refl
below_all key (x ∷ casts) up below =
    let last : length (x ∷ casts) - 1 ≡ length casts = omega arith in
    below_last key 0 (x ∷ casts) (length casts) up refl (subst (λ (n : ℕ). get_or (x ∷ casts) n 0 < key) last below)

-- one more that is above all, where there is memory for it
pub pushed_rise : (key : ℕ) (old seen new : List ℕ) (is_ok : Bool) → KeysRise old → seen ≡ old →
    all_below (λ k. k) key seen ≡ true → new ≡ cond is_ok (old ++ key ∷ []) old → KeysRise new
pushed_rise key old seen new true up same below is =
    let all : all_below (λ k. k) key old ≡ true = subst (λ (l : List ℕ). all_below (λ k. k) key l ≡ true) same below in
    subst KeysRise (sym is) (rises_push (λ k. k) key old key (omega arith) up all)
pushed_rise key old seen new false up same below is = subst KeysRise (sym is) up

-- without the first
pub rest_rise : (casts : List ℕ) → KeysRise casts → KeysRise (drop 1 casts)
rest_rise [] up = refl
rest_rise (x ∷ casts) up = (parts_of (λ k. k) x casts up).1

-- no more follow a later message
fewer_follow_later : (key later : ℕ) (casts : List ℕ) → key ≤ later → following later casts ≤ following key casts
fewer_follow_later key later [] le = omega arith
fewer_follow_later key later (x ∷ casts) le =
    let rest = fewer_follow_later key later casts le in
    elim (cases_lt later x) [
      | inl lt ↦ omega (arith, more later x casts lt, more key x casts (omega (arith, lt, le)), rest)
      | inr not_later ↦ elim (cases_lt key x) [
        | inl lt ↦ omega (arith, no_more later x casts not_later, more key x casts lt, rest)
        | inr not_key ↦ omega (arith, no_more later x casts not_later, no_more key x casts not_key, rest)
      ]
    ]

pub who_goes_on_has_room : WhoGoesOnHasRoom
who_goes_on_has_room casts window awaited None few goes_on = tt
who_goes_on_has_room casts window awaited (Some oldest) few goes_on =
    omega (arith, few, fewer_follow_later awaited oldest casts (leb-true awaited oldest goes_on))
