-- The one spelling of each field of a frame. All numbers have their high byte first.
use Rattle.std.specs.Prelude.{ℕ, Bool, if◌then◌else◌, List, [], ◌∷◌}
use Rattle.std.specs.Prelude.{◌++◌, length, Option, Some, None}
use Rattle.std.specs.List.{flat_map, position_or_len}
use Rattle.std.specs.Int.{w16, w32, to_be_bytes}
use Rattle.cast_types.specs.declared.names.GroupNo.{GroupNo}
use Rattle.cast_types.specs.declared.names.Proc.{Proc}
use Rattle.cast_types.specs.declared.names.Uid.{Uid}
use Rattle.cast_types.specs.declared.names.Kind.{Kind}
use Rattle.cast_types.specs.declared.names.Kind.TheVariants as kind
use Rattle.cast_types.specs.declared.clock.Clock.{Clock}
use Rattle.cast_types.specs.Names.{Entry, proc_eq}
use Rattle.cast_message.specs.declared.message.Body.{Body}
use Rattle.cast_message.specs.declared.message.Body.TheVariants as body
use Rattle.cast_message.specs.declared.message.Message.{Message}
use Rattle.cast_message.specs.Membership.{Membership}
use Rattle.cast_message.specs.Tail.{Tail}
use Rattle.cast_message.specs.Placement.{Placement}
use Rattle.cast_message.specs.KeptIds.{Marked, KeptList}
use Rattle.cast_message.specs.Bodies.{kind_of}

unfoldable pub byte : ℕ → List ℕ
byte n = n ∷ []

unfoldable pub short : ℕ → List ℕ
short n = to_be_bytes w16 n

unfoldable pub word : ℕ → List ℕ
word n = to_be_bytes w32 n

-- site, serial
unfoldable pub spelled_proc : Proc → List ℕ
spelled_proc p = short p.site.0 ++ word p.serial

-- process, count
unfoldable pub spelled_entry : Entry → List ℕ
spelled_entry e = spelled_proc e.0 ++ word e.1

-- group, view, process, count
unfoldable pub spelled_uid : Uid → List ℕ
spelled_uid u = short u.group.0 ++ (word u.view ++ (spelled_proc u.proc ++ word u.count))

-- how many, and the counts
unfoldable pub spelled_counts : List Entry → List ℕ
spelled_counts c = byte (length c) ++ flat_map spelled_entry c

-- group, view, counts
unfoldable pub spelled_clock : GroupNo × Clock → List ℕ
spelled_clock e = short e.0.0 ++ (word e.1.view ++ spelled_counts e.1.counts)

-- how many, and the clocks
unfoldable pub spelled_times : List (GroupNo × Clock) → List ℕ
spelled_times t = byte (length t) ++ flat_map spelled_clock t

-- how many bytes, and the bytes
unfoldable pub spelled_payload : List ℕ → List ℕ
spelled_payload bytes = short (length bytes) ++ bytes

-- the new holder, if there is one
unfoldable pub spelled_new_holder : Option Proc → List ℕ
spelled_new_holder None = []
spelled_new_holder (Some p) = spelled_proc p

-- the first place, how many, the ids, and the new holder
unfoldable pub spelled_sequence : Placement → List ℕ
spelled_sequence s =
    word s.first
    ++ (byte (length s.ids) ++ (flat_map spelled_entry s.ids ++ spelled_new_holder s.holder))

abbrev pub kind_code : Kind → ℕ
kind_code kind.Causal = 1
kind_code kind.Atomic = 2
kind_code kind.Order = 3

unfoldable pub spelled_body : Body → List ℕ
spelled_body (body.Causal payload) = spelled_payload payload
spelled_body (body.Atomic payload) = spelled_payload payload
spelled_body (body.Order sequence) = spelled_sequence sequence

-- name, kind, times, what the message holds
unfoldable pub spelled_message : Message → List ℕ
spelled_message m =
    spelled_uid m.id
    ++ (byte (kind_code (kind_of m.body)) ++ (spelled_times m.times ++ spelled_body m.body))

-- the holder stands by its place among the members
unfoldable pub spelled_holder : List Proc → Option Proc → List ℕ
spelled_holder members None = []
spelled_holder members (Some p) = byte (position_or_len (proc_eq p) members)

-- how many, the members, and the holder
unfoldable pub spelled_members : Membership → List ℕ
spelled_members m =
    byte (length m.list) ++ (flat_map spelled_proc m.list ++ spelled_holder m.list m.holder)

-- how many before them, how many, and the ids
unfoldable pub spelled_tail : Tail → List ℕ
spelled_tail t = word t.start ++ (short (length t.ids) ++ flat_map spelled_entry t.ids)

abbrev pub mark_code : Bool → ℕ
mark_code mark = if mark then 1 else 0

-- process, count, mark
unfoldable pub spelled_marked : Marked → List ℕ
spelled_marked e = spelled_entry e.0 ++ byte (mark_code e.1)

-- how many, and the ids with their marks
unfoldable pub spelled_kept : KeptList → List ℕ
spelled_kept k = short (length k) ++ flat_map spelled_marked k
