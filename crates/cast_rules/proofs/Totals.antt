-- Sums over lists, and what is left of a list of messages.
use Rattle.std.proofs.Common.{◌≡◌, ℕ, ◌+◌, ◌<◌, ◌≤◌, zero, suc, Bool, true, false, not, cond, List, [], ◌∷◌}
use Rattle.std.proofs.Common.{◌++◌, length, Some, None, refl, sym, ap, subst, ◌∙◌, ◌⊎◌, inl, inr, arith}
use Rattle.std.specs.Prelude.{take}
use Rattle.std.specs.List.{list_any, find}
use Rattle.std.proofs.lemmas.Bool.{cases_Bool, true≢false, or_left, or_right}
use Rattle.std.proofs.lemmas.List.Folds.{list_any-append}
use Rattle.cast_types.specs.declared.names.Uid.{Uid}
use Rattle.cast_types.specs.Names.{uid_eq}
use Rattle.cast_types.proofs.Orders.{uid_itself}
use Rattle.cast_message.specs.declared.message.Message.{Message}
use Rattle.cast_rules.specs.Endings.{total, one_if, left_count}

pub total_same : {A : Type 0} (f g : A → ℕ) (xs : List A) → ((x : A) → f x ≡ g x) → total f xs ≡ total g xs
total_same f g [] e = refl
total_same f g (x ∷ xs) e = ap (λ n. n + total f xs) (e x) ∙ ap (λ n. g x + n) (total_same f g xs e)

pub total_le : {A : Type 0} (f g : A → ℕ) (xs : List A) → ((x : A) → f x ≤ g x) → total f xs ≤ total g xs
total_le f g [] e = omega arith
total_le f g (x ∷ xs) e = omega (arith, e x, total_le f g xs e)

-- an item of a list
abbrev pub In : {A : Type 0} → A → List A → Type 0
In y [] = ⊥
In y (x ∷ xs) = (y ≡ x) ⊎ In y xs

pub total_lt : {A : Type 0} (f g : A → ℕ) (xs : List A) (y : A) → ((x : A) → f x ≤ g x) → In y xs → f y < g y → total f xs < total g xs
total_lt f g [] y e at lt = absurd at
total_lt f g (x ∷ xs) y e (inl here) lt = let less : f x < g x = subst (λ z. f z < g z) here lt in omega (arith, less, total_le f g xs e)
total_lt f g (x ∷ xs) y e (inr there) lt = omega (arith, e x, total_lt f g xs y e there lt)

pub total_more : {A : Type 0} (f g : A → ℕ) (xs : List A) → ((x : A) → f x ≤ g x + 1) → total f xs ≤ total g xs + length xs
total_more f g [] e = omega arith
total_more f g (x ∷ xs) e = omega (arith, e x, total_more f g xs e)

pub one_le : (b : Bool) → one_if b ≤ 1
one_le true = omega arith
one_le false = omega arith

pub one_mono : (b c : Bool) → (b ≡ true → c ≡ true) → one_if b ≤ one_if c
one_mono true c h = subst (λ x. 1 ≤ one_if x) (sym (h refl)) (omega arith)
one_mono false true h = omega arith
one_mono false false h = omega arith

pub not_mono : (a b : Bool) → (a ≡ true → b ≡ true) → not b ≡ true → not a ≡ true
not_mono true b h n = absurd (true≢false (sym n ∙ ap not (h refl)))
not_mono false b h n = refl

pub among_push : (u v : Uid) (ids : List Uid) → list_any (uid_eq v) ids ≡ true → list_any (uid_eq v) (ids ++ u ∷ []) ≡ true
among_push u v ids h = list_any-append (uid_eq v) ids (u ∷ []) ∙ or_left _ _ h

pub among_last : (u : Uid) (ids : List Uid) → list_any (uid_eq u) (ids ++ u ∷ []) ≡ true
among_last u ids =
    list_any-append (uid_eq u) ids (u ∷ []) ∙ or_right (list_any (uid_eq u) ids) _ (or_left (uid_eq u u) false (uid_itself u))

pub left_push : (u : Uid) (ids : List Uid) (got : List Message) → left_count (ids ++ u ∷ []) got ≤ left_count ids got
left_push u ids [] = omega arith
left_push u ids (m ∷ got) = omega (
  arith,
  left_push u ids got,
  one_mono (not (list_any (uid_eq m.id) (ids ++ u ∷ []))) (not (list_any (uid_eq m.id) ids)) (not_mono _ _ (among_push u m.id ids)),
)

pub left_found : (t : Message → Bool) (ids : List Uid) (got : List Message) (m : Message) →
    ((x : Message) → t x ≡ true → list_any (uid_eq x.id) ids ≡ false) → find t got ≡ Some m →
    left_count (ids ++ m.id ∷ []) got < left_count ids got
left_found t ids [] m says found = absurd (no_message m found)
  where
    no_message : (m : Message) → None ≡ Some m → ⊥
    no_message m e = cc
left_found t ids (x ∷ got) m says found = elim (cases_Bool (t x)) [
  | inl pass ↦
      let same : Some x ≡ Some m = ap (λ b. cond b (Some x) (find t got)) (sym pass) ∙ found in
      let is : x ≡ m = cc in
      let was : ◌≡◌ {A = ℕ} (one_if (not (list_any (uid_eq x.id) ids))) 1 = ap (λ b. one_if (not b)) (says x pass) in
      let now : ◌≡◌ {A = ℕ} (one_if (not (list_any (uid_eq x.id) (ids ++ m.id ∷ [])))) 0 =
      ap (λ b. one_if (not b)) (subst (λ y. list_any (uid_eq y.id) (ids ++ m.id ∷ []) ≡ true) (sym is) (among_last m.id ids)) in
      omega (arith, was, now, left_push m.id ids got)
  | inr fail ↦
      let later = left_found t ids got m says (ap (λ b. cond b (Some x) (find t got)) (sym fail) ∙ found) in
      omega (
        arith,
        later,
        one_mono (not (list_any (uid_eq x.id) (ids ++ m.id ∷ []))) (not (list_any (uid_eq x.id) ids))
            (not_mono _ _ (among_push m.id x.id ids)),
      )
]

pub left_le : (ids : List Uid) (got : List Message) → left_count ids got ≤ length got
left_le ids [] = omega arith
left_le ids (m ∷ got) = omega (arith, one_le (not (list_any (uid_eq m.id) ids)), left_le ids got)

-- one more message is one more at the most
pub left_more : (ids : List Uid) (m : Message) (got : List Message) → left_count ids (got ++ m ∷ []) ≤ left_count ids got + 1
left_more ids m [] = omega (arith, one_le (not (list_any (uid_eq m.id) ids)))
left_more ids m (x ∷ got) = omega (arith, left_more ids m got)

-- one of the first items is an item
pub in_take : {A : Type 0} (n : ℕ) (xs : List A) (x : A) → In x (take n xs) → In x xs
in_take zero xs x at = absurd at
in_take (suc n) [] x at = absurd at
in_take (suc n) (y ∷ xs) x (inl here) = inl here
in_take (suc n) (y ∷ xs) x (inr there) = inr (in_take n xs x there)
