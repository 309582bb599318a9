-- Sources of messages: a process in a view of a group.
use Rattle.std.specs.Prelude.{ℕ, Bool, not, ◌&&◌, nat_lt, List, filter}
use Rattle.std.specs.declared.cmp.Ordering.{Ordering}
use Rattle.std.specs.Ordering.{nat_cmp, ordering_then}
use Rattle.cast_types.specs.declared.names.GroupNo.{GroupNo}
use Rattle.cast_types.specs.declared.names.Proc.{Proc}
use Rattle.cast_types.specs.declared.names.Uid.{Uid}
use Rattle.cast_types.specs.Names.{group_cmp, group_eq, proc_cmp}
use Rattle.cast_types.specs.declared.source.Source.{Source}

-- by group, then by view, and then by process
abbrev pub source_cmp : Source → Source → Ordering
source_cmp a b =
    ordering_then (group_cmp a.group b.group)
    (ordering_then (nat_cmp a.view b.view) (proc_cmp a.process b.process))

abbrev pub source : GroupNo → ℕ → Proc → Source
source g view p = record { group = g; view = view; process = p }

-- where messages of an id come from
abbrev pub source_of : Uid → Source
source_of u = source u.group u.view u.proc

-- a source whose view of the group has ended, where this is the number of the view that stands
abbrev pub is_ended : GroupNo → ℕ → Source → Bool
is_ended g number s = group_eq s.group g && nat_lt s.view number

-- what is kept of sources whose views have not
abbrev pub but_ended : {V : Type 0} → GroupNo → ℕ → List (Source × V) → List (Source × V)
but_ended g number es = filter (λ e. not (is_ended g number e.0)) es
