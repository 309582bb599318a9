-- Calls of a reader of which none failed.
use Rattle.std.proofs.Common.{◌≡◌, ℕ, ◌+◌, ◌⊎◌, ◌↔◌, inl, inr, ap, ◌∙◌}
use Rattle.cast_device.specs.declared.watched.Watched.{Watched}
use Rattle.cast_device.specs.Watching.{HasFailed, calls_of}

-- so many calls were made, and none of them failed
pub record CalledWell {D : Type 0} (reader : Watched D) (calls : ℕ) : Type 0 where
  pub made : calls_of reader ≡ calls
  pub well : HasFailed reader → ⊥

module _ {D : Type 0} {old new : Watched D} {calls : ℕ} where
  -- one more, which did not fail
  pub called_again : {Fails : Type 0} → CalledWell old calls → calls_of new ≡ calls_of old + 1 → HasFailed new ↔ (HasFailed old ⊎ Fails) →
      (Fails → ⊥) → CalledWell new (calls + 1)
  called_again before more note went =
      record {
        made = more ∙ ap (λ (n : ℕ). n + 1) before.made;
        well = λ failed. elim (note.0 failed) [ inl was ↦ before.well was | inr fails ↦ went fails ];
      }
