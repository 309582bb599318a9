-- What a reading that was not refused shows of its steps.
use Rattle.std.proofs.Common.{◌≡◌, Bool, true, false, cond, Result, Ok, Err, refl, subst}
use Rattle.cast_script.specs.WordReadings.{◌>>=◌}
use Rattle.cast_script.specs.declared.words.Reason.{Reason}

-- the value of a step that was not refused
pub bind_ok : {A B E : Type 0} (r : Result A E) (f : A → Result B E) (y : B) → (r >>= f) ≡ Ok y → (x : A) × (r ≡ Ok x) × (f x ≡ Ok y)
bind_ok (Ok x) f y e = (x, refl, e)
bind_ok (Err d) f y e = absurd cc

abbrev done : {A : Type 0} (E : Type 0) → A → Result A E
done E x = Ok x

pub ok_is : {A : Type 0} (E : Type 0) (x y : A) → done E x ≡ done E y → x ≡ y
ok_is E x y e = cc

-- what holds of what a last step makes of a value
pub made_ok : {A B : Type 0} (r : Result A Reason) (make : A → B) (P : B → Type 0) (y : B) → (r >>= λ x. Ok (make x)) ≡ Ok y →
    ((x : A) → r ≡ Ok x → P (make x)) → P y
made_ok (Ok x) make P y e h = subst P (ok_is Reason (make x) y e) (h x refl)
made_ok (Err d) make P y e h = absurd cc

-- a test that was passed
pub pass_ok : {A E : Type 0} (b : Bool) (d : E) (x : Result A E) (y : A) → cond b x (Err d) ≡ Ok y → (b ≡ true) × (x ≡ Ok y)
pass_ok true d x y e = (refl, e)
pass_ok false d x y e = absurd cc

-- a guard that was not met
pub guard_ok : {A E : Type 0} (b : Bool) (d : E) (x : Result A E) (y : A) → cond b (Err d) x ≡ Ok y → (b ≡ false) × (x ≡ Ok y)
guard_ok true d x y e = absurd cc
guard_ok false d x y e = (refl, e)
