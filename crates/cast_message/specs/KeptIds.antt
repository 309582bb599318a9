-- The messages that a site keeps of a view, each with a mark.
use Rattle.std.specs.Prelude.{Bool, ◌&&◌, nat_le, List, length}
use Rattle.std.specs.FinMap.Entries.{is_sorted}
use Rattle.cast_types.specs.Names.{Entry, entry_cmp}

-- an id and whether it is marked
abbrev pub Marked : Type 0
Marked = Entry × Bool

abbrev pub KeptList : Type 0
KeptList = List Marked

-- at most 2,048 ids, rising by process and then by count
abbrev pub is_kept : KeptList → Bool
is_kept k = is_sorted entry_cmp k && nat_le (length k) 2048
