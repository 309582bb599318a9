-- Places of a view's order: the first of them, and the ids that stand at it and at those after it.
use Rattle.std.specs.Prelude.{ℕ, Bool, ◌&&◌, ◌||◌, nat_le, List, length, Option, is_some}
use Rattle.cast_types.specs.declared.names.Proc.{Proc}
use Rattle.cast_types.specs.Names.{Entry}

pub record Placement : Type 0 where
  pub first : ℕ
  pub ids : List Entry
  -- the process to which the token of the view is handed over, if it is: it holds the token from
  -- the first place on
  pub holder : Option Proc

-- the first place is 1 to 4,000,000,000, and there are 1 to 64 ids; where the token is handed over
-- there may be none
abbrev pub is_placement : Placement → Bool
is_placement s =
    (nat_le 1 s.first && nat_le s.first 4000000000)
    && ((is_some s.holder || nat_le 1 (length s.ids))
    && nat_le (length s.ids) 64)
