-- What each move keeps, choices, folds and repetitions of them keep.
use Rattle.std.proofs.Common.{ap, arith, subst, sym, ◌∙◌}
use Rattle.std.proofs.lemmas.Bool.{false≢true}
use Rattle.std.specs.List.{find, fold}
use Rattle.std.specs.Option.{option_map_or}
use Rattle.std.specs.Prelude.{Bool, Contains, List, None, Option, Some, [], cond, false}
use Rattle.std.specs.Prelude.{if◌then◌else◌, is_some, refl, suc, true, unwrap_or, zero, ℕ, ◌∷◌, ◌≡◌}
use Rattle.cast_rules.specs.State.{State}
use Rattle.cast_types.specs.Repeat.{iterate}

pub found_is : {X : Type 0} (p : X → Bool) (xs : List X) (x : X) → find p xs ≡ Some x → (p x ≡ true) × Contains xs x
found_is p [] x e = absurd (false≢true (ap is_some e))
found_is {X} p (y ∷ ys) x e = go (p y) refl (found_is p ys x)
  where
    go : (b : Bool) → p y ≡ b → (find p ys ≡ Some x → (p x ≡ true) × Contains ys x) → (p x ≡ true) × Contains (y ∷ ys) x
    go true yes_it more =
        let same : y ≡ x = ap (λ (o : Option X). unwrap_or o y) (ap (λ b. cond b (Some y) (find p ys)) (sym yes_it) ∙ e) in
        (subst (λ z. p z ≡ true) same yes_it, (0, omega arith, same))
    go false not_it more =
        let later = more (ap (λ b. cond b (Some y) (find p ys)) (sym not_it) ∙ e) in
        (later.0, (suc later.1.0, omega (arith, later.1.1), later.1.2))

module _ (I : State → Type 0) where
  pub keeps_if : (b : Bool) (s t : State) → (b ≡ true → I s) → (b ≡ false → I t) → I (if b then s else t)
  keeps_if true s t one other = one refl
  keeps_if false s t one other = other refl

  pub keeps_fold : {X : Type 0} (f : State → X → State) → ((s : State) (x : X) → I s → I (f s x)) → (xs : List X) (s : State) → I s →
      I (fold f s xs)
  keeps_fold f each [] s i = i
  keeps_fold f each (x ∷ xs) s i = keeps_fold f each xs (f s x) (each s x i)

  pub keeps_iterate : (f : State → State) → ((s : State) → I s → I (f s)) → (n : ℕ) (s : State) → I s → I (iterate n f s)
  keeps_iterate f each zero s i = i
  keeps_iterate f each (suc n) s i = keeps_iterate f each n (f s) (each s i)

  pub keeps_option : {X : Type 0} (f : X → State) (o : Option X) (s : State) → ((x : X) → o ≡ Some x → I (f x)) → I s →
      I (option_map_or f o s)
  keeps_option f (Some x) s one none = one x refl
  keeps_option f None s one none = none
