-- The orders of names are total, and names that no order tells apart are one.
use Rattle.std.specs.Prelude.{◌≡◌}
use Rattle.std.specs.declared.cmp.Ordering.{Ordering}
use Rattle.std.specs.declared.cmp.Ordering.TheVariants.{Equal}
use Rattle.std.specs.Cmp.{IsTotalOrder}

pub record IsOrderOfNames {A : Type 0} (cmp : A → A → Ordering) : Type 0 where
  pub total : IsTotalOrder cmp
  pub exact : (a b : A) → cmp a b ≡ Equal → a ≡ b
