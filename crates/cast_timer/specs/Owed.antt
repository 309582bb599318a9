-- The frames that a domain owes: a set in order of due moments, and at one moment in order of keys.
use Rattle.std.specs.Prelude.{ℕ, Bool, true, false, not, nat_le, ◌&&◌, ◌==◌, List, map, filter}
use Rattle.std.specs.List.{list_any, fold}
use Rattle.std.specs.declared.cmp.Ordering.{Ordering}
use Rattle.std.specs.Ordering.{nat_cmp, ordering_then}
use Rattle.cast_types.specs.Names.{site_cmp, group_cmp, proc_cmp, site_eq, group_eq, proc_eq}
use Rattle.cast_types.specs.Sets.{with_item}
use Rattle.cast_types.specs.declared.names.GroupNo.{GroupNo}
use Rattle.cast_timer.specs.declared.key.OwedKind.{OwedKind}
use Rattle.cast_timer.specs.declared.key.OwedKind.TheVariants.{Ask, Data, Prepare}
use Rattle.cast_timer.specs.declared.key.OwedKind.TheVariants.{Want, Install, Ack}
use Rattle.cast_timer.specs.declared.key.Side.{Side}
use Rattle.cast_timer.specs.declared.key.Side.TheVariants.{Site, Home}
use Rattle.cast_timer.specs.declared.key.OwedKey.{OwedKey}
use Rattle.cast_timer.specs.declared.key.Owed.{Owed}

-- the place of a kind in the order of kinds
abbrev pub kind_rank : OwedKind → ℕ
kind_rank Ask = 0
kind_rank Data = 1
kind_rank Prepare = 2
kind_rank Want = 3
kind_rank Install = 4
kind_rank Ack = 5

abbrev pub side_rank : Side → ℕ
side_rank Site = 0
side_rank Home = 1

-- by kind, then by group, process, count, site and side
abbrev pub key_cmp : OwedKey → OwedKey → Ordering
key_cmp a b =
    ordering_then (nat_cmp (kind_rank a.kind) (kind_rank b.kind))
    (ordering_then (group_cmp a.group b.group)
    (ordering_then (proc_cmp a.proc b.proc)
    (ordering_then (nat_cmp a.count b.count)
    (ordering_then (site_cmp a.site b.site)
    (nat_cmp (side_rank a.side) (side_rank b.side))))))

-- by due moment, and then by key
abbrev pub owed_cmp : Owed → Owed → Ordering
owed_cmp a b = ordering_then (nat_cmp a.due b.due) (key_cmp a.key b.key)

-- whether all parts of two keys are the same
abbrev pub key_eq : OwedKey → OwedKey → Bool
key_eq a b =
    (kind_rank a.kind == kind_rank b.kind)
    && (group_eq a.group b.group
    && (proc_eq a.proc b.proc
    && ((a.count == b.count)
    && (site_eq a.site b.site
    && (side_rank a.side == side_rank b.side)))))

abbrev pub is_owed : List Owed → OwedKey → Bool
is_owed owed key = list_any (λ o. key_eq o.key key) owed

-- owes a frame from now on, to be sent again at a moment
abbrev pub with_owed : List Owed → OwedKey → ℕ → List Owed
with_owed owed key due = with_item owed_cmp (record { due = due; key = key }) owed

-- owes no frame any more whose key passes a test
abbrev pub paid : (OwedKey → Bool) → List Owed → List Owed
paid test owed = filter (λ o. not (test o.key)) owed

-- whether the second key differs from the first at most in its count, and has no higher one
abbrev pub is_upto : OwedKey → OwedKey → Bool
is_upto key other = key_eq (record other { count = key.count }) key && nat_le other.count key.count

-- whether both keys are of messages, and of the same one: they differ at most in their sites
abbrev pub is_same_message : OwedKey → OwedKey → Bool
is_same_message key other =
    (kind_rank key.kind == kind_rank Data) && key_eq (record other { site = key.site }) key

-- whether a frame is about a message of the group, as a site owes it: its Data, its Ack or the
-- site's Want
abbrev pub is_of_messages : OwedKind → Side → Bool
is_of_messages Ask by = false
is_of_messages Data by = true
is_of_messages Prepare by = false
is_of_messages Want Site = true
is_of_messages Want Home = false
is_of_messages Install by = false
is_of_messages Ack by = true

-- whether a site owes a frame of the key for a view of the group, and no longer once that view has
-- ended
abbrev pub is_of_view : GroupNo → OwedKey → Bool
is_of_view g key = group_eq key.group g && is_of_messages key.kind key.side

-- owes a frame for a moment, and for no other
abbrev pub renew : List Owed → OwedKey → ℕ → List Owed
renew owed key due = with_owed (paid (key_eq key) owed) key due

-- the frames that are due at a moment
abbrev pub due_frames : ℕ → List Owed → List Owed
due_frames now owed = filter (λ o. nat_le o.due now) owed

-- their keys, in the order in which they are sent
abbrev pub due_at : ℕ → List Owed → List OwedKey
due_at now owed = map (λ o. o.key) (due_frames now owed)

-- all frames that are due at a moment are owed for another one, one after the other
abbrev pub all_renewed : ℕ → ℕ → List Owed → List Owed
all_renewed now due owed = fold (λ os key. renew os key due) owed (due_at now owed)
