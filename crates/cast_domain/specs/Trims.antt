-- What a domain forgets of the orders of its groups' views: the first ids, once they are over.
use Rattle.std.specs.Prelude.{ℕ, Bool, not, ◌&&◌, ◌||◌, nat_lt, nat_le}
use Rattle.std.specs.Prelude.{List, length, position, unwrap_or}
use Rattle.std.specs.List.{fold, list_any, range_with_len}
use Rattle.cast_types.specs.declared.names.Uid.{Uid}
use Rattle.cast_types.specs.Names.{Entry, site_eq, uid_eq, uid_in}
use Rattle.cast_clock.specs.Times.{count_in}
use Rattle.cast_message.specs.declared.message.Received.{Received}
use Rattle.cast_ready.specs.Ready.{is_member}
use Rattle.cast_order.specs.Log.{change_in, oldest_in, forgot}
use Rattle.cast_domain.specs.declared.record.GroupRecord.{GroupRecord}
use Rattle.cast_domain.specs.Records.{Records}
use Rattle.cast_domain.specs.PartCalls.{record_at, standing_of, time_of}
use Rattle.cast_domain.specs.FlushCalls.{is_awaited_of, is_received_of}
use Rattle.cast_domain.specs.ReleaseCalls.{log_in}

-- the process of a message has counted it, where it is a member of the group here
abbrev pub is_counted_of : Records → GroupRecord → Entry → Bool
is_counted_of r x e =
    not (site_eq e.0.site r.site && is_member (standing_of r.delay e.0 x.name))
    || nat_le e.1 (count_in (time_of r.delay e.0) x.name e.0)

-- each member of the group here is past a message of its view: it has delivered it, and counted it
-- where it sent it
abbrev pub is_past_of : Records → GroupRecord → Entry → Bool
is_past_of r x e = nat_lt 0 e.1 && (not (is_awaited_of r x e) && is_counted_of r x e)

-- a message is among those that are kept
abbrev pub is_kept_among : List Received → Uid → Bool
is_kept_among kept u = list_any (λ y. uid_eq y.message.id u) kept

-- a message of the view of a group is over: it was received, and is kept no longer, and each member
-- here is past it
abbrev pub is_over_of : Records → GroupRecord → List Received → Entry → Bool
is_over_of r x kept e =
    is_received_of r x e
    && (not (is_kept_among kept (uid_in x.name x.here.number e))
    && is_past_of r x e)

-- how many ids, the first ones, pass a test
abbrev pub count_first : (Entry → Bool) → List Entry → ℕ
count_first test ids = unwrap_or (position (λ e. not (test e)) ids) (length ids)

-- of the order of the group at a place the oldest ids are forgotten, those before the first that is
-- not over
abbrev pub trim_in : List Received → Records → ℕ → Records
trim_in kept r i =
    let x : GroupRecord = record_at r.groups i in
    record r {
      orders = change_in x.name
          (forgot (count_first (is_over_of r x kept) (oldest_in (log_in r x.name)))) r.orders;
    }

-- of each group's
abbrev pub trim_all_in : List Received → Records → Records
trim_all_in kept r = fold (trim_in kept) r (range_with_len 0 (length r.groups))
