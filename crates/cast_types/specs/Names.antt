-- The orders of names, their equality, and what a message is called.
use Rattle.std.specs.Prelude.{ℕ, Bool, true, false, ◌&&◌, ◌==◌}
use Rattle.std.specs.declared.cmp.Ordering.{Ordering}
use Rattle.std.specs.Ordering.{nat_cmp, ordering_then}
use Rattle.cast_types.specs.declared.names.DomainNo.{DomainNo}
use Rattle.cast_types.specs.declared.names.SiteNo.{SiteNo}
use Rattle.cast_types.specs.declared.names.GroupNo.{GroupNo}
use Rattle.cast_types.specs.declared.names.Proc.{Proc}
use Rattle.cast_types.specs.declared.names.Uid.{Uid}
use Rattle.cast_types.specs.declared.names.Kind.{Kind}
use Rattle.cast_types.specs.declared.names.Kind.TheVariants.{Causal, Atomic, Order}

-- a process with a count: an entry of a vector, or the name of a message where group and view are
-- known
abbrev pub Entry : Type 0
Entry = Proc × ℕ

abbrev pub domain_cmp : DomainNo → DomainNo → Ordering
domain_cmp d e = nat_cmp d.0 e.0

abbrev pub site_cmp : SiteNo → SiteNo → Ordering
site_cmp s t = nat_cmp s.0 t.0

abbrev pub group_cmp : GroupNo → GroupNo → Ordering
group_cmp g h = nat_cmp g.0 h.0

-- by site, and then by serial
abbrev pub proc_cmp : Proc → Proc → Ordering
proc_cmp p q = ordering_then (nat_cmp p.site.0 q.site.0) (nat_cmp p.serial q.serial)

-- by process, and then by count
abbrev pub entry_cmp : Entry → Entry → Ordering
entry_cmp a b = ordering_then (proc_cmp a.0 b.0) (nat_cmp a.1 b.1)

-- by group, then by view, and then by process and count
abbrev pub uid_cmp : Uid → Uid → Ordering
uid_cmp a b =
    ordering_then (group_cmp a.group b.group)
    (ordering_then (nat_cmp a.view b.view) (entry_cmp (a.proc, a.count) (b.proc, b.count)))

abbrev pub site_eq : SiteNo → SiteNo → Bool
site_eq s t = s.0 == t.0

abbrev pub group_eq : GroupNo → GroupNo → Bool
group_eq g h = g.0 == h.0

abbrev pub proc_eq : Proc → Proc → Bool
proc_eq p q = site_eq p.site q.site && (p.serial == q.serial)

abbrev pub entry_eq : Entry → Entry → Bool
entry_eq a b = proc_eq a.0 b.0 && (a.1 == b.1)

abbrev pub uid_eq : Uid → Uid → Bool
uid_eq a b =
    group_eq a.group b.group
    && ((a.view == b.view)
    && (proc_eq a.proc b.proc
    && (a.count == b.count)))

abbrev pub is_atomic : Kind → Bool
is_atomic Causal = false
is_atomic Atomic = true
is_atomic Order = false

abbrev pub is_order : Kind → Bool
is_order Causal = false
is_order Atomic = false
is_order Order = true

-- the message with this entry, in this view of this group
abbrev pub uid_in : GroupNo → ℕ → Entry → Uid
uid_in g view e = record { group = g; view = view; proc = e.0; count = e.1 }

abbrev pub entry_of : Uid → Entry
entry_of u = (u.proc, u.count)
