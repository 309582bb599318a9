-- The members of a view, and which of them sets the order.
use Rattle.std.specs.Prelude.{Bool, ◌&&◌, ◌==◌, nat_le, List, length, Option, Some, None}
use Rattle.cast_types.specs.declared.names.Proc.{Proc}
use Rattle.cast_types.specs.Names.{proc_cmp, proc_eq}
use Rattle.cast_types.specs.Sets.{is_among}
use Rattle.cast_types.specs.Rising.{is_rising}

pub record Membership : Type 0 where
  pub list : List Proc
  pub holder : Option Proc

-- the holder is one of the members; only where there are none there is no holder
abbrev pub is_held : List Proc → Option Proc → Bool
is_held list None = length list == 0
is_held list (Some p) = is_among proc_eq p list

-- at most 64 members in rising order, and their holder
abbrev pub is_members : Membership → Bool
is_members m = is_rising proc_cmp m.list && (nat_le (length m.list) 64 && is_held m.list m.holder)
