-- Passes, one after another.
use Rattle.std.proofs.Common.{◌≡◌, ℕ, zero, suc, refl, subst, sym, ap, ◌∙◌}
use Rattle.cast_types.specs.Repeat.{iterate, ComesToRest}

-- one more turn at the end is one more at the beginning
pub iterate_once : {A : Type 0} (n : ℕ) (f : A → A) (x : A) → iterate n f (f x) ≡ f (iterate n f x)
iterate_once zero f x = refl
iterate_once (suc n) f x = iterate_once n f (f x)

-- what stays under one turn stays under each
pub iterate_still : {A : Type 0} (n : ℕ) (f : A → A) (x : A) → f x ≡ x → iterate n f x ≡ x
iterate_still zero f x still = refl
iterate_still (suc n) f x still = ap (iterate n f) still ∙ iterate_still n f x still

-- some number of turns has led from the start of a value to what it stands for now
abbrev pub Led : {W A : Type 0} → (W → A → Type 0) → (A → A) → W → A → Type 0
Led Fits pass w x = (n : ℕ) × Fits w (iterate n pass x)

module _ {W A : Type 0} (Fits : W → A → Type 0) (pass : A → A) where
  -- one more turn of the code is one more pass
  pub led_on : (w v : W) (x : A) → Led Fits pass w x → ((y : A) → Fits w y → Fits v (pass y)) → Led Fits pass v x
  led_on w v x led step = (suc led.0, subst (Fits v) (sym (iterate_once led.0 pass x)) (step (iterate led.0 pass x) led.1))

  -- a turn that changes nothing is the end
  pub led_rests : (w v : W) (x : A) → Led Fits pass w x → ((y : A) → Fits w y → Fits v (pass y)) → ((y : A) → Fits w y → pass y ≡ y) →
      (y : A) × ComesToRest pass x y × Fits v y
  led_rests w v x led step still =
      let y : A = iterate led.0 pass x in
      let same : pass y ≡ y = still y led.1 in
      (y, (led.0, refl, same), subst (Fits v) same (step y led.1))
