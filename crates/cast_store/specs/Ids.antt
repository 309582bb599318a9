-- What a store says of the ids of its messages.
use Rattle.std.specs.Prelude.{◌≡◌, ◌≢◌, ◌≤◌, ℕ, Bool, true, false, List, Contains, Option}
use Rattle.std.specs.List.{find}
use Rattle.std.specs.Option.{option_map}
use Rattle.cast_types.specs.declared.names.Key.{Key}
use Rattle.cast_types.specs.declared.names.Uid.{Uid}
use Rattle.cast_types.specs.declared.source.Source.{Source}
use Rattle.cast_types.specs.Names.{is_atomic, uid_eq}
use Rattle.cast_types.specs.Sources.{source_of}
use Rattle.cast_message.specs.declared.message.Message.{Message}
use Rattle.cast_message.specs.declared.message.Received.{Received}
use Rattle.cast_message.specs.Bodies.{kind_of}

-- the first message of an id
abbrev pub message_of : List Received → Uid → Option Message
message_of kept id = option_map (λ r. r.message) (find (λ r. uid_eq r.message.id id) kept)

-- a message under the key whose id a test is true of is kept
abbrev pub IsKeptOf : (Uid → Type 0) → List Received → Key → Type 0
IsKeptOf Passes kept key = (r : Received) × Contains kept r × (r.key ≡ key) × Passes r.message.id

-- of each message's source a message is kept that has no greater count, and whose id a test is true
-- of
abbrev pub IsLedBy : (Uid → Type 0) → List Received → Type 0
IsLedBy Fails kept =
    (r : Received) → Contains kept r
    → (s : Received)
    × Contains kept s
    × (source_of s.message.id ≡ source_of r.message.id)
    × (s.message.id.count ≤ r.message.id.count)
    × Fails s.message.id

-- a message of a source is kept with this id and under this key, and none of the source with a
-- lower count
pub record KeepsFirst (kept : List Received) (s : Source) (first : Uid × Key) : Type 0 where
  pub there : (r : Received) × Contains kept r × (r.message.id ≡ first.0) × (r.key ≡ first.1)
  pub own : source_of first.0 ≡ s
  pub least : (r : Received) → Contains kept r → source_of r.message.id ≡ s
      → first.0.count ≤ r.message.id.count

-- no message of a source is kept
abbrev pub KeepsNoneOf : List Received → Source → Type 0
KeepsNoneOf kept s = (r : Received) → Contains kept r → source_of r.message.id ≢ s

-- whether a message is an ABCAST
abbrev pub is_abcast : Message → Bool
is_abcast m = is_atomic (kind_of m.body)

-- an ABCAST of a source with this count is kept
abbrev pub KeepsAbcast : List Received → Source → ℕ → Type 0
KeepsAbcast kept s count =
    (r : Received)
    × Contains kept r
    × (is_abcast r.message ≡ true)
    × (source_of r.message.id ≡ s)
    × (r.message.id.count ≡ count)

-- the least and the greatest count of the ABCASTs of a source that are kept
pub record KeepsAbcastRange (kept : List Received) (s : Source) (range : ℕ × ℕ) : Type 0 where
  pub least : KeepsAbcast kept s range.0
  pub greatest : KeepsAbcast kept s range.1
  pub within : (r : Received) → Contains kept r → is_abcast r.message ≡ true
      → source_of r.message.id ≡ s → (range.0 ≤ r.message.id.count) × (r.message.id.count ≤ range.1)

-- no message of a source that is kept is an ABCAST
abbrev pub KeepsNoAbcast : List Received → Source → Type 0
KeepsNoAbcast kept s =
    (r : Received) → Contains kept r → source_of r.message.id ≡ s → is_abcast r.message ≡ false
