-- Counts of messages: a count for each process, in order of processes.
-- A process that is absent has count 0.
use Rattle.std.specs.Prelude.{ℕ, Bool, ◌&&◌, nat_lt, nat_le, List, length, unwrap_or}
use Rattle.std.specs.List.{list_all}
use Rattle.std.specs.FinMap.Entries.{find, is_sorted}
use Rattle.cast_types.specs.declared.names.Proc.{Proc}
use Rattle.cast_types.specs.Names.{Entry, proc_cmp}

abbrev pub CountList : Type 0
CountList = List Entry

abbrev pub count_of : CountList → Proc → ℕ
count_of c p = unwrap_or (find proc_cmp p c) 0

-- a message of a process is among those that the counts cover
abbrev pub is_within : CountList → Entry → Bool
is_within c e = nat_le e.1 (count_of c e.0)

-- at most 64 counts of at least 1, in rising order of their processes
abbrev pub is_counts : CountList → Bool
is_counts c = is_sorted proc_cmp c && (nat_le (length c) 64 && list_all (λ e. nat_lt 0 e.1) c)
