-- Reading the fields of a frame: a value and the bytes after it, or the first fault from the left.
use Rattle.std.specs.Prelude.{◌≡◌, ◌≢◌, ℕ, zero, suc, ◌-◌, Bool, true, false, ◌&&◌, ◌==◌}
use Rattle.std.specs.Prelude.{nat_lt, nat_le, if◌then◌else◌, List, [], ◌∷◌, length, take}
use Rattle.std.specs.Prelude.{drop, slice_get, Option, Some, None, Result, Ok, Err}
use Rattle.std.specs.Int.{Width, w16, w32, byte_len, from_be_bytes}
use Rattle.std.specs.Borrow.{Bor}
use Rattle.std.specs.declared.cmp.Ordering.{Ordering}
use Rattle.std.specs.Ordering.{is_lt}
use Rattle.cast_types.specs.declared.names.DomainNo.{DomainNo}
use Rattle.cast_types.specs.declared.names.SiteNo.{SiteNo}
use Rattle.cast_types.specs.declared.names.GroupNo.{GroupNo}
use Rattle.cast_types.specs.declared.names.Proc.{Proc}
use Rattle.cast_types.specs.declared.names.Uid.{Uid}
use Rattle.cast_types.specs.declared.names.Kind.{Kind}
use Rattle.cast_types.specs.declared.names.Kind.TheVariants as kind
use Rattle.cast_types.specs.declared.clock.Clock.{Clock}
use Rattle.cast_types.specs.Names.{Entry, proc_cmp, group_cmp, entry_cmp}
use Rattle.cast_field.specs.declared.fault.FrameFault.{FrameFault}
use Rattle.cast_field.specs.declared.fault.FrameFault.TheVariants.{Short, NotSorted}
use Rattle.cast_field.specs.declared.fault.FrameFault.TheVariants.{Range, NoMemory}
use Rattle.cast_message.specs.declared.message.Body.{Body}
use Rattle.cast_message.specs.declared.message.Body.TheVariants as body
use Rattle.cast_message.specs.declared.message.Message.{Message}
use Rattle.cast_message.specs.Membership.{Membership}
use Rattle.cast_message.specs.Tail.{Tail}
use Rattle.cast_message.specs.Placement.{Placement}
use Rattle.cast_message.specs.KeptIds.{Marked, KeptList}

infixl 10 ◌>>=◌
abbrev pub ◌>>=◌ : {A B : Type 0} → Result A FrameFault → (A → Result B FrameFault)
    → Result B FrameFault
(Ok x) >>= f = f x
(Err e) >>= f = Err e

-- what a function returned, seen by view, is what reading gives, unless memory ran out
abbrev pub GivesAs : {X Y : Type 0} → (X → Y) → Result X FrameFault → Result Y FrameFault → Type 0
GivesAs view (Ok x) read = read ≡ Ok (view x)
GivesAs view (Err e) read = e ≢ NoMemory → read ≡ Err e

abbrev pub Gives : {X : Type 0} → Result X FrameFault → Result X FrameFault → Type 0
Gives result read = GivesAs (λ x. x) result read

-- the same of a value with the bytes after it
abbrev pub GivesField : {X : Type 0} → Result (X × Bor (List ℕ)) FrameFault
    → Result (X × List ℕ) FrameFault → Type 0
GivesField result read = GivesAs (λ x. (x.0, x.1.now)) result read

-- reads a value from the front of the bytes
abbrev pub Reader : Type 0 → Type 0
Reader A = List ℕ → Result (A × List ℕ) FrameFault

unfoldable pub within_range : ℕ → ℕ → ℕ → List ℕ → Result (ℕ × List ℕ) FrameFault
within_range low high n rest = if nat_le low n && nat_le n high then Ok (n, rest) else Err Range

-- one byte, from low to high
unfoldable pub byte_at : ℕ → ℕ → Reader ℕ
byte_at low high [] = Err Short
byte_at low high (b ∷ rest) = within_range low high b rest

-- a number of this width, from low to high
unfoldable pub number_at : Width → ℕ → ℕ → Reader ℕ
number_at w low high bytes =
    if nat_lt (length bytes) (byte_len w) then Err Short
    else within_range low high (from_be_bytes w (take (byte_len w) bytes)) (drop (byte_len w) bytes)

-- n bytes
unfoldable pub bytes_at : ℕ → Reader (List ℕ)
bytes_at n bytes = if nat_lt (length bytes) n then Err Short else Ok (take n bytes, drop n bytes)

-- n items, each read in view of what was seen in the one before
unfoldable pub many : {S A : Type 0} → (S → Reader A) → (A → S) → ℕ → S → Reader (List A)
many item seen zero last bytes = Ok ([], bytes)
many item seen (suc n) last bytes = do
  x ← item last bytes
  xs ← many item seen n (seen x.0) x.1
  Ok (x.0 ∷ xs.0, xs.1)

-- in a sorted list each key is above the one before
unfoldable pub above : {K : Type 0} → (K → K → Ordering) → Option K → K × List ℕ
    → Result (K × List ℕ) FrameFault
above cmp None k = Ok k
above cmp (Some last) k = if is_lt (cmp last k.0) then Ok k else Err NotSorted

unfoldable pub domain_at : Reader DomainNo
domain_at bytes = do
  n ← byte_at 1 255 bytes
  Ok (record { 0 = n.0 }, n.1)

unfoldable pub site_at : Reader SiteNo
site_at bytes = do
  n ← number_at w16 1 65535 bytes
  Ok (record { 0 = n.0 }, n.1)

unfoldable pub group_at : Reader GroupNo
group_at bytes = do
  n ← number_at w16 1 65535 bytes
  Ok (record { 0 = n.0 }, n.1)

-- a view, a count, a serial or the number of a request
unfoldable pub count_at : Reader ℕ
count_at bytes = number_at w32 1 4294967295 bytes

unfoldable pub proc_at : Reader Proc
proc_at bytes = do
  site ← site_at bytes
  serial ← count_at site.1
  Ok (record { site = site.0; serial = serial.0 }, serial.1)

unfoldable pub entry_at : Reader Entry
entry_at bytes = do
  proc ← proc_at bytes
  count ← count_at proc.1
  Ok ((proc.0, count.0), count.1)

unfoldable pub uid_at : Reader Uid
uid_at bytes = do
  group ← group_at bytes
  view ← count_at group.1
  proc ← proc_at view.1
  count ← count_at proc.1
  Ok (record { group = group.0; view = view.0; proc = proc.0; count = count.0 }, count.1)

-- a process above the one before
unfoldable pub proc_above : Option Proc → Reader Proc
proc_above last bytes = do
  proc ← proc_at bytes
  above proc_cmp last proc

-- a process above the one before, and its count
unfoldable pub entry_above : Option Proc → Reader Entry
entry_above last bytes = do
  proc ← proc_above last bytes
  count ← count_at proc.1
  Ok ((proc.0, count.0), count.1)

abbrev pub process_of : Entry → Option Proc
process_of e = Some e.0

unfoldable pub counts_at : Reader (List Entry)
counts_at bytes = do
  n ← byte_at 0 64 bytes
  many entry_above process_of n.0 None n.1

-- a group above the one before
unfoldable pub group_above : Option GroupNo → Reader GroupNo
group_above last bytes = do
  group ← group_at bytes
  above group_cmp last group

-- a group above the one before, and its clock
unfoldable pub clock_above : Option GroupNo → Reader (GroupNo × Clock)
clock_above last bytes = do
  group ← group_above last bytes
  view ← count_at group.1
  counts ← counts_at view.1
  Ok ((group.0, record { view = view.0; counts = counts.0 }), counts.1)

abbrev pub group_of : GroupNo × Clock → Option GroupNo
group_of e = Some e.0

unfoldable pub times_at : Reader (List (GroupNo × Clock))
times_at bytes = do
  n ← byte_at 1 32 bytes
  many clock_above group_of n.0 None n.1

unfoldable pub payload_at : Reader (List ℕ)
payload_at bytes = do
  n ← number_at w16 0 16384 bytes
  bytes_at n.0 n.1

-- an id, whatever id came before
unfoldable pub id_at : Unit {0} → Reader Entry
id_at last bytes = entry_at bytes

abbrev pub nothing_of : Entry → Unit {0}
nothing_of e = tt

-- The bytes of a message do not say whether it hands over the token: who reads it knows that
-- before. One that does is of the third kind, and need not have ids

abbrev pub least_kind : Bool → ℕ
least_kind handing = if handing then 3 else 1

abbrev pub least_ids : Bool → ℕ
least_ids handing = if handing then 0 else 1

-- only a message that hands over the token has a new holder
unfoldable pub new_holder_at : Bool → Reader (Option Proc)
new_holder_at true bytes = do
  proc ← proc_at bytes
  Ok (Some proc.0, proc.1)
new_holder_at false bytes = Ok (None, bytes)

-- the first place, the ids from it on, and the new holder
unfoldable pub sequence_at : Bool → Reader Placement
sequence_at handing bytes = do
  first ← number_at w32 1 4000000000 bytes
  n ← byte_at (least_ids handing) 64 first.1
  ids ← many id_at nothing_of n.0 tt n.1
  holder ← new_holder_at handing ids.1
  Ok (record { first = first.0; ids = ids.0; holder = holder.0 }, holder.1)

abbrev pub kind_numbered : ℕ → Kind
kind_numbered n = if n == 1 then kind.Causal else if n == 2 then kind.Atomic else kind.Order

unfoldable pub kind_at : Bool → Reader Kind
kind_at handing bytes = do
  n ← byte_at (least_kind handing) 3 bytes
  Ok (kind_numbered n.0, n.1)

unfoldable pub causal_at : Reader Body
causal_at bytes = do
  payload ← payload_at bytes
  Ok (body.Causal payload.0, payload.1)

unfoldable pub atomic_at : Reader Body
atomic_at bytes = do
  payload ← payload_at bytes
  Ok (body.Atomic payload.0, payload.1)

unfoldable pub order_at : Bool → Reader Body
order_at handing bytes = do
  sequence ← sequence_at handing bytes
  Ok (body.Order sequence.0, sequence.1)

-- the kind of a message says what it holds
unfoldable pub body_at : Bool → Kind → Reader Body
body_at handing kind.Causal bytes = causal_at bytes
body_at handing kind.Atomic bytes = atomic_at bytes
body_at handing kind.Order bytes = order_at handing bytes

unfoldable pub message_at : Bool → Reader Message
message_at handing bytes = do
  id ← uid_at bytes
  kind ← kind_at handing id.1
  times ← times_at kind.1
  body ← body_at handing kind.0 times.1
  Ok (record { id = id.0; times = times.0; body = body.0 }, body.1)

abbrev pub some_proc : Proc → Option Proc
some_proc p = Some p

-- the member at the place that is read; no members have no holder
unfoldable pub holder_at : List Proc → Reader (Option Proc)
holder_at list bytes =
    if length list == 0 then Ok (None, bytes)
    else (byte_at 0 (length list - 1) bytes >>= λ place. Ok (slice_get list place.0, place.1))

unfoldable pub members_at : Reader Membership
members_at bytes = do
  n ← byte_at 0 64 bytes
  list ← many proc_above some_proc n.0 None n.1
  holder ← holder_at list.0 list.1
  Ok (record { list = list.0; holder = holder.0 }, holder.1)

-- the end of an order, with at most so many ids
unfoldable pub tail_at : ℕ → Reader Tail
tail_at most bytes = do
  start ← number_at w32 0 4000000000 bytes
  n ← number_at w16 0 most start.1
  ids ← many id_at nothing_of n.0 tt n.1
  Ok (record { start = start.0; ids = ids.0 }, ids.1)

-- a process and a count, above those before
unfoldable pub id_above : Option Entry → Reader Entry
id_above last bytes = do
  id ← entry_at bytes
  above entry_cmp last id

-- a mark is 0 or 1
unfoldable pub mark_at : Reader Bool
mark_at bytes = do
  n ← byte_at 0 1 bytes
  Ok (n.0 == 1, n.1)

-- an id above the one before, and its mark
unfoldable pub marked_above : Option Entry → Reader Marked
marked_above last bytes = do
  id ← id_above last bytes
  mark ← mark_at id.1
  Ok ((id.0, mark.0), mark.1)

abbrev pub id_of : Marked → Option Entry
id_of e = Some e.0

unfoldable pub kept_at : Reader KeptList
kept_at bytes = do
  n ← number_at w16 0 2048 bytes
  many marked_above id_of n.0 None n.1
