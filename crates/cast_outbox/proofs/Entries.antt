-- A function from serials to entries that is changed at one serial.
use Rattle.std.proofs.Common.{◌≡◌, ℕ, zero, suc, false, cond, List, [], take, drop, refl, sym, ap, ◌∙◌, inl, inr}
use Rattle.std.specs.Prelude.{◌==◌}
use Rattle.std.proofs.lemmas.Bool.{cases_Bool, eqb-true}
use Rattle.cast_types.specs.Sets.{set_at}
use Rattle.cast_message.specs.declared.client.Push.{Push}

-- the entries with others at one serial
abbrev pub with_at : (ℕ → List Push) → ℕ → List Push → ℕ → List Push
with_at f k v = set_at (λ a b. a == b) f k v

-- functions that are the same at each serial
pub at_each : (t f : ℕ → List Push) (k : ℕ) (v : List Push) → t k ≡ v → ((j : ℕ) → (k == j) ≡ false → t j ≡ f j) → t ≡ with_at f k v
at_each t f k v here others = λ i j. point j i
  where
    point : (j : ℕ) → t j ≡ with_at f k v j
    point j = elim (cases_Bool (k == j)) [
      | inl same ↦ ap t (sym (eqb-true k j same)) ∙ here ∙ sym (ap (λ b. cond b v (f j)) same)
      | inr differ ↦ others j differ ∙ sym (ap (λ b. cond b v (f j)) differ)
    ]

-- to set what is there changes nothing
pub set_same : (f : ℕ → List Push) (k : ℕ) (v : List Push) → f k ≡ v → f ≡ with_at f k v
set_same f k v is = at_each f f k v is (λ j differ. refl)

-- of nothing nothing is taken, and nothing is left
pub none_taken : (n : ℕ) → take n (let xs : List Push = [] in xs) ≡ []
none_taken zero = refl
none_taken (suc n) = refl

pub none_left : (n : ℕ) → drop n (let xs : List Push = [] in xs) ≡ []
none_left zero = refl
none_left (suc n) = refl
