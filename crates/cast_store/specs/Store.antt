-- What contracts see of a store.
-- For each domain that it keeps messages for, these in order of receipt.
use Rattle.std.specs.Prelude.{ℕ, Bool, not, ◌&&◌, ◌==◌, List, [], Option, filter}
use Rattle.std.specs.List.{find}
use Rattle.std.specs.Option.{option_map_or}
use Rattle.cast_types.specs.declared.names.DomainNo.{DomainNo}
use Rattle.cast_types.specs.declared.names.Key.{Key}
use Rattle.cast_message.specs.declared.message.Received.{Received}
use Rattle.cast_message.specs.Receipts.{key_eq}
use Rattle.cast_index.specs.Rises.{rises, all_below}

-- what is kept for one domain, and the number of its next key
pub record Shelf : Type 0 where
  pub domain : DomainNo
  pub next : ℕ
  pub kept : List Received

-- whether a shelf is a domain's
abbrev pub is_of : DomainNo → Shelf → Bool
is_of d s = s.domain.0 == d.0

-- the first shelf of a domain
abbrev pub shelf_of : List Shelf → DomainNo → Option Shelf
shelf_of store d = find (is_of d) store

-- the messages that a domain keeps, in order of receipt
abbrev pub kept_in : List Shelf → DomainNo → List Received
kept_in store d = option_map_or (λ s. s.kept) (shelf_of store d) []

-- the number of a domain's next key
abbrev pub next_in : List Shelf → DomainNo → ℕ
next_in store d = option_map_or (λ s. s.next) (shelf_of store d) 0

-- messages but for those under a key
abbrev pub but_under : Key → List Received → List Received
but_under key received = filter (λ r. not (key_eq r.key key)) received

-- the number of a message's key
abbrev pub key_of : Received → ℕ
key_of r = r.key.0

-- whether each key is below those of all messages that stand behind it, and below the next one
abbrev pub is_rising : ℕ → List Received → Bool
is_rising next kept = rises key_of kept && all_below key_of next kept
