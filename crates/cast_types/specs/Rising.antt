-- Lists in strictly rising order.
use Rattle.std.specs.Prelude.{Bool, true, ◌&&◌, List, [], ◌∷◌}
use Rattle.std.specs.List.{list_all}
use Rattle.std.specs.Ordering.{is_lt}
use Rattle.std.specs.declared.cmp.Ordering.{Ordering}

-- each item is below all that come after it
abbrev pub is_rising : {A : Type 0} → (A → A → Ordering) → List A → Bool
is_rising cmp [] = true
is_rising cmp (x ∷ xs) = list_all (λ y. is_lt (cmp x y)) xs && is_rising cmp xs
