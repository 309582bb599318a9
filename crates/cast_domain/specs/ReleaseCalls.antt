-- Which messages the calls of a domain let go, and what is settled of an order, exactly.
use Rattle.std.specs.Prelude.{ℕ, ◌+◌, ◌-◌, Bool, not, ◌&&◌, ◌==◌, nat_lt, if◌then◌else◌}
use Rattle.std.specs.Prelude.{List, length, map, filter, Option, Some, None}
use Rattle.std.specs.List.{fold}
use Rattle.cast_types.specs.declared.names.GroupNo.{GroupNo}
use Rattle.cast_types.specs.declared.names.Proc.{Proc}
use Rattle.cast_types.specs.declared.names.Uid.{Uid}
use Rattle.cast_types.specs.declared.names.Key.{Key}
use Rattle.cast_types.specs.declared.limits.TheConstants.{MAX_POSITION}
use Rattle.cast_types.specs.Names.{group_eq, uid_in}
use Rattle.cast_message.specs.declared.message.Received.{Received}
use Rattle.cast_delay.specs.Queue.{delivered_in}
use Rattle.cast_order.specs.Hand.{settled_by}
use Rattle.cast_order.specs.Log.{Log, log_of, hand_here, places_by, known_past, length_of}
use Rattle.cast_message.specs.Receipts.{key_eq}
use Rattle.cast_domain.specs.declared.record.GroupRecord.{GroupRecord}
use Rattle.cast_domain.specs.Shared.{part_without, part_paying_view}
use Rattle.cast_domain.specs.Records.{Records}
use Rattle.cast_domain.specs.PartCalls.{record_at, settled_in}

-- a message is kept and offered no longer
abbrev pub release_in : Records → Key → Records
release_in r key =
    record r {
      part = part_without r.part key;
      delay = record r.delay { offered = filter (λ o. not (key_eq o.key key)) r.delay.offered };
    }

-- the keys of messages whose ids pass a test
abbrev pub keys_passing : (Uid → Bool) → List Received → List Key
keys_passing passes kept = map (λ x. x.key) (filter (λ x. passes x.message.id) kept)

-- those of kept messages are released
abbrev pub release_all_in : Records → (Uid → Bool) → Records
release_all_in r passes = fold release_in r (keys_passing passes r.part.kept)

-- a message of a view that has ended, of the group at a place
abbrev pub is_ended_in : Records → ℕ → Uid → Bool
is_ended_in r i u =
    group_eq u.group (record_at r.groups i).name && nat_lt u.view (record_at r.groups i).here.number

abbrev pub pay_view_in : Records → GroupNo → Records
pay_view_in r g = record r { part = part_paying_view r.part g }

abbrev pub log_in : Records → GroupNo → Log
log_in r g = log_of r.orders g

-- how many ids that a process has to list will stand past so many places
abbrev pub waiting_past : Log → Proc → ℕ → ℕ
waiting_past l p places = length (hand_here l p).waiting - (places - length_of l)

-- how many ids past those places that it has settled a process has delivered, where its messages up
-- to a count are stable: of those that are forgotten all, of the order known as many as it has, and
-- what it has to list behind that
abbrev pub settled_at : Records → Proc → GroupRecord → ℕ
settled_at r p x = settled_by (settled_in r x.name x.here.number p) (hand_here (log_in r x.name) p)

abbrev pub unsettled_at : Records → Proc → GroupRecord → ℕ
unsettled_at r p x =
    ((log_in r x.name).base - settled_at r p x)
    + length (filter (λ e. delivered_in r.delay p (uid_in x.name x.here.number e))
    (known_past (settled_at r p x) (log_in r x.name)))
    + waiting_past (log_in r x.name) p (settled_at r p x)

-- the place from which another process would order
abbrev pub place_to_pass_of : Records → Proc → GroupRecord → Option ℕ
place_to_pass_of r p x =
    if (unsettled_at r p x == 0) && nat_lt (places_by (log_in r x.name) p) MAX_POSITION
    then Some (places_by (log_in r x.name) p + 1)
    else None
