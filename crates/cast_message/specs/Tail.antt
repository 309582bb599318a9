-- A part of a view's order: how many ids stand before it, and its ids.
use Rattle.std.specs.Prelude.{ℕ, Bool, ◌&&◌, nat_le, List, length}
use Rattle.cast_types.specs.Names.{Entry}

pub record Tail : Type 0 where
  pub start : ℕ
  pub ids : List Entry

-- at most 576 ids, behind at most 4,000,000,000
abbrev pub is_tail : Tail → Bool
is_tail t = nat_le t.start 4000000000 && nat_le (length t.ids) 576
