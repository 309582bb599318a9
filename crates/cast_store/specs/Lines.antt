-- How a store keeps messages: each in a slot, and receipts that name the slots.
-- It has for each domain the receipts of its messages, in order.
use Rattle.std.specs.Prelude.{◌≡◌, ◌≢◌, ℕ, ◌+◌, ◌≤◌, ◌==◌, ◌&&◌, IsTrue, Bool, true}
use Rattle.std.specs.Prelude.{false, not, cond, List, [], ◌∷◌, ◌++◌, get_or, replicate}
use Rattle.std.specs.Prelude.{Option, Some, None, Contains, filter, filter_map}
use Rattle.std.specs.List.{find, list_any}
use Rattle.std.specs.Option.{option_map, option_map_or, unwrap_or}
use Rattle.cast_types.specs.declared.names.DomainNo.{DomainNo}
use Rattle.cast_types.specs.declared.names.Key.{Key}
use Rattle.cast_types.specs.declared.names.Uid.{Uid}
use Rattle.cast_types.specs.declared.source.Source.{Source}
use Rattle.cast_types.specs.Names.{uid_eq}
use Rattle.cast_types.specs.Sources.{source_of}
use Rattle.cast_message.specs.declared.message.Message.{Message}
use Rattle.cast_message.specs.declared.message.Received.{Received}
use Rattle.cast_index.specs.declared.entry.Entry.{Entry}
use Rattle.cast_index.specs.Index.{has, is_pair}
use Rattle.cast_index.specs.Rises.{rises, all_below}
use Rattle.slab.specs.Slab.{Slab, Updates, get as slot_at}
use Rattle.cast_store.specs.declared.row_ids.Ids.{Ids}
use Rattle.cast_store.specs.declared.receipt.Receipt.{Receipt}
use Rattle.cast_store.specs.declared.slot.Slot.{Slot}
use Rattle.cast_store.specs.Ids.{is_abcast}
use Rattle.cast_store.specs.Store.{Shelf}

-- Receipts

-- those of one domain, in order, and the number of its next one
pub record Line : Type 0 where
  pub next : ℕ
  pub receipts : List Receipt

-- the number of a receipt
abbrev pub number_of : Receipt → ℕ
number_of r = r.number

-- and the key under which its message is kept
abbrev pub key_of : Receipt → Key
key_of r = record { 0 = r.number }

-- the slot of the first receipt of a number, and of an id
abbrev pub slot_under : List Receipt → ℕ → Option ℕ
slot_under receipts n = option_map (λ r. r.slot) (find (λ r. r.number == n) receipts)

abbrev pub slot_of : List Receipt → Uid → Option ℕ
slot_of receipts id = option_map (λ r. r.slot) (find (λ r. uid_eq r.id id) receipts)

-- whether each number is below those of all receipts that stand behind it, and below the next one
abbrev pub is_numbered : ℕ → List Receipt → Bool
is_numbered next receipts = rises number_of receipts && all_below number_of next receipts

-- a receipt under the key, of an id that a test is true of
abbrev pub IsReceivedOf : (Uid → Type 0) → List Receipt → Key → Type 0
IsReceivedOf Passes receipts key =
    (r : Receipt) × Contains receipts r × (record { 0 = r.number } ≡ key) × Passes r.id

-- of each receipt's source there is a receipt that has no greater count, and whose id a test is
-- true of
abbrev pub IsLedByReceipts : (Uid → Type 0) → List Receipt → Type 0
IsLedByReceipts Fails receipts =
    (r : Receipt) → Contains receipts r → (s : Receipt)
    × Contains receipts s
    × (source_of s.id ≡ source_of r.id)
    × (s.id.count ≤ r.id.count)
    × Fails s.id

-- a receipt of a source has this id and number, and none of the source has a lower count
pub record IsFirstReceipt (receipts : List Receipt) (s : Source) (first : Uid × Key) : Type 0 where
  pub there : (r : Receipt) × Contains receipts r × (r.id ≡ first.0) × (key_of r ≡ first.1)
  pub own : source_of first.0 ≡ s
  pub least : (r : Receipt) → Contains receipts r → source_of r.id ≡ s → first.0.count ≤ r.id.count

-- no receipt is of a source
abbrev pub HasNoneOf : List Receipt → Source → Type 0
HasNoneOf receipts s = (r : Receipt) → Contains receipts r → source_of r.id ≢ s

-- whether an id and a key are a receipt's
abbrev pub is_named : Uid → Key → Receipt → Bool
is_named u k r = is_pair r.id (record { 0 = r.number }) u k

-- and whether that receipt is of an ABCAST
abbrev pub is_abcast_named : Uid → Key → Receipt → Bool
is_abcast_named u k r = r.atomic && is_named u k r

-- an index has the ids of receipts with their numbers, and no others
abbrev pub HasIdsOf : List Entry → List Receipt → Type 0
HasIdsOf entries receipts = (u : Uid) (k : Key) → has entries u k ≡ list_any (is_named u k) receipts

-- and those of the ABCASTs alone
abbrev pub HasAbcastsOf : List Entry → List Receipt → Type 0
HasAbcastsOf entries receipts =
    (u : Uid) (k : Key) → has entries u k ≡ list_any (is_abcast_named u k) receipts

-- numbers rise below the next one, one index has the ids, and another those of the ABCASTs
pub record IsInOrder (next : ℕ) (receipts : List Receipt) (names : Ids) : Type 0 where
  pub numbered : IsTrue (is_numbered next receipts)
  pub ids : HasIdsOf names.all receipts
  pub abcasts : HasAbcastsOf names.abcasts receipts

-- a receipt of an ABCAST of a source, with this count
abbrev pub HasAbcast : List Receipt → Source → ℕ → Type 0
HasAbcast receipts s count =
    (r : Receipt) × Contains receipts r × (r.atomic ≡ true) × (source_of r.id ≡ s)
    × (r.id.count ≡ count)

-- the least and the greatest count of the ABCASTs of a source that have receipts
pub record HasAbcastRange (receipts : List Receipt) (s : Source) (range : ℕ × ℕ) : Type 0 where
  pub least : HasAbcast receipts s range.0
  pub greatest : HasAbcast receipts s range.1
  pub within : (r : Receipt) → Contains receipts r → r.atomic ≡ true → source_of r.id ≡ s
      → (range.0 ≤ r.id.count) × (r.id.count ≤ range.1)

-- no receipt of a source is of an ABCAST
abbrev pub HasNoAbcast : List Receipt → Source → Type 0
HasNoAbcast receipts s = (r : Receipt) → Contains receipts r → source_of r.id ≡ s → r.atomic ≡ false

-- one more receipt, of a message in a slot, under the next number
abbrev pub receipt_of : ℕ → ℕ → Message → Receipt
receipt_of n slot m = record { number = n; slot = slot; id = m.id; atomic = is_abcast m }

abbrev pub with_receipt : ℕ → Message → Line → Line
with_receipt slot m l = record l {
  next = l.next + 1;
  receipts = l.receipts ++ receipt_of l.next slot m ∷ [];
}

-- none of a number
abbrev pub but_number : ℕ → List Receipt → List Receipt
but_number n receipts = filter (λ r. not (r.number == n)) receipts

abbrev pub without_number : ℕ → Line → Line
without_number n l = record l { receipts = but_number n l.receipts }

-- Slots

-- a message in a slot
abbrev pub slot_with : DomainNo → ℕ → Message → Slot
slot_with d n m = record { domain = d; number = n; message = m }

-- the message in a slot, if there is one
abbrev pub message_in : (ℕ → Option Slot) → Option ℕ → Option Message
message_in slots key = option_map_or (λ key. option_map (λ s. s.message) (slots key)) key None

-- the next slot, which was vacant, is filled
pub record IsFilled (s : Slot) (old new : Slab Slot) : Type 0 where
  pub vacant : slot_at old old.vacant_key ≡ None
  pub slot : Updates old new old.vacant_key (Some s)

-- a slot is emptied, if one is named
abbrev pub IsEmptied : Slab Slot → Slab Slot → Option ℕ → Type 0
IsEmptied old new None = new.slots ≡ old.slots
IsEmptied old new (Some key) = Updates old new key None

-- a slot, emptied where what it holds fails the test
abbrev pub only : {T : Type 0} → (T → Bool) → Option T → Option T
only test None = None
only test (Some x) = cond (test x) (Some x) None

-- What is seen

-- the message of a receipt
abbrev pub received_by : (ℕ → Option Slot) → Receipt → Option Received
received_by slots r =
    option_map (λ s. record { key = record { 0 = r.number }; message = s.message }) (slots r.slot)

abbrev pub kept_by : (ℕ → Option Slot) → List Receipt → List Received
kept_by slots receipts = filter_map (received_by slots) receipts

-- of the line of a domain, given the domain's number
abbrev pub shelf_by : (ℕ → Option Slot) → ℕ → Line → Shelf
shelf_by slots n l = record {
  domain = record { 0 = n };
  next = l.next;
  kept = kept_by slots l.receipts;
}

-- of lines that stand in order of the numbers of their domains, the first of them at this number
abbrev pub shelves_from : (ℕ → Option Slot) → ℕ → List (Option Line) → List Shelf
shelves_from slots n [] = []
shelves_from slots n (None ∷ rest) = shelves_from slots (n + 1) rest
shelves_from slots n (Some l ∷ rest) = shelf_by slots n l ∷ shelves_from slots (n + 1) rest

-- the first of them at 0
abbrev pub shelves_by : (ℕ → Option Slot) → List (Option Line) → List Shelf
shelves_by slots lines = shelves_from slots 0 lines

-- each receipt's slot holds a message, of its id, which is an ABCAST where the receipt says so
abbrev pub IsHeld : (ℕ → Option Slot) → List Receipt → Type 0
IsHeld slots receipts =
    (r : Receipt) → Contains receipts r → (s : Slot)
    × (slots r.slot ≡ Some s)
    × (s.message.id ≡ r.id)
    × (is_abcast s.message ≡ r.atomic)

-- What is kept

-- the line at the number of a domain, if there is one: its receipts, and the number of its next one
abbrev pub line_of : List (Option Line) → DomainNo → Option Line
line_of lines d = get_or lines d.0 None

abbrev pub receipts_of : Option Line → List Receipt
receipts_of o = option_map_or (λ l. l.receipts) o []

abbrev pub receipts_in : List (Option Line) → DomainNo → List Receipt
receipts_in lines d = receipts_of (line_of lines d)

abbrev pub next_number : List (Option Line) → DomainNo → ℕ
next_number lines d = option_map_or (λ l. l.next) (line_of lines d) 0

-- the line itself, or one that has no receipts yet
abbrev pub line_or_empty : Option Line → Line
line_or_empty o = unwrap_or o (record { next = 0; receipts = [] })

-- the line of one domain is another, and those of the others stay
pub record ChangesLine (d : DomainNo) (w : Option Line)
    (lines lines' : List (Option Line)) : Type 0 where
  pub here : line_of lines' d ≡ w
  pub others : (e : DomainNo) → e ≢ d → line_of lines' e ≡ line_of lines e

-- places without a line are added behind the last one
abbrev pub IsPadded : List (Option Line) → List (Option Line) → Type 0
IsPadded lines lines' = (n : ℕ) × (lines' ≡ lines ++ replicate n None)

-- Each receipt of a domain names a slot that holds a message of this domain, of this number and
-- this id, which is an ABCAST where the receipt says so. Each slot that holds a message is the one
-- that the receipt of its domain and number names: so no slot is named twice.
pub record IsStocked (receipts : DomainNo → List Receipt) (slots : ℕ → Option Slot) : Type 0 where
  pub taken : (d : DomainNo) (r : Receipt) → Contains (receipts d) r
      → (s : Slot)
      × (slots r.slot ≡ Some s)
      × (s.domain ≡ d)
      × (s.number ≡ r.number)
      × (s.message.id ≡ r.id)
      × (is_abcast s.message ≡ r.atomic)
  pub named : (key : ℕ) (s : Slot) → slots key ≡ Some s
      → slot_under (receipts s.domain) s.number ≡ Some key
