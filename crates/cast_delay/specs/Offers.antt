-- What is known of the messages, so that one is found without looking at all.
use Rattle.std.specs.Prelude.{◌≡◌, ℕ, Bool, true, false, not, List, take, Option, Some, None}
use Rattle.std.specs.List.{list_all}
use Rattle.std.specs.Option.{option_map_or}
use Rattle.cast_types.specs.declared.names.GroupNo.{GroupNo}
use Rattle.cast_index.specs.Rises.{rises, all_below}
use Rattle.cast_ready.specs.declared.gate.Gate.{Gate}
use Rattle.cast_ready.specs.declared.row.Row.{Row}
use Rattle.cast_ready.specs.declared.offered.Offered.{Offered}
use Rattle.cast_ready.specs.declared.turn.Turn.{Turn}
use Rattle.cast_ready.specs.Rows.{is_causally_ready_row, is_ready_row}
use Rattle.cast_delay.specs.Queue.{offered_under}

-- the number of a message's key
abbrev pub key_of : Offered → ℕ
key_of o = o.key.0

-- where a number is known that is above all keys, keys rise; else nothing is known
abbrev pub AreOrderly : Option ℕ → List Offered → Type 0
AreOrderly (Some top) offered =
    (rises key_of offered ≡ true) × (all_below key_of top offered ≡ true)
AreOrderly None offered = Unit {0}

-- whether none of the first n messages passes a test
abbrev pub none_of : (Offered → Bool) → ℕ → List Offered → Bool
none_of t n offered = list_all (λ o. not (t o)) (take n offered)

-- whether the message under a key of a number is ready for a row
abbrev pub is_ready_under : List (GroupNo × Turn) → List (GroupNo × Gate) → Row
    → List Offered → ℕ → Bool
is_ready_under turns gates row offered k =
    option_map_or (is_ready_row turns gates row) (offered_under offered (record { 0 = k })) false

-- and but for the turns of groups
abbrev pub is_candidate_under : List (GroupNo × Gate) → Row → List Offered → ℕ → Bool
is_candidate_under gates row offered k =
    option_map_or (λ o. is_causally_ready_row gates row o.id o.times)
    (offered_under offered (record { 0 = k })) false
