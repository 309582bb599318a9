-- The frames that are due at each moment, beside a map by their keys.
-- The map is one for each domain, and has the moment at which the frame of each key is due.
use Rattle.std.specs.Prelude.{◌≡◌, ◌≢◌, ℕ, Bool, true, false, cond, ◌&&◌, ◌==◌, nat_le}
use Rattle.std.specs.Prelude.{if◌then◌else◌, List, map, Option, None, Some, IsTrue}
use Rattle.std.specs.List.{list_any}
use Rattle.std.specs.Option.{option_map, option_map_or}
use Rattle.std.specs.Map.{lookup}
use Rattle.std.specs.BTreeMap.{BTreeMap}
use Rattle.cast_types.specs.declared.names.DomainNo.{DomainNo}
use Rattle.cast_types.specs.Rising.{is_rising}
use Rattle.cast_timer.specs.declared.key.Moment.{Moment}
use Rattle.cast_timer.specs.declared.key.OwedKey.{OwedKey}
use Rattle.cast_timer.specs.declared.key.Owed.{Owed}
use Rattle.cast_timer.specs.Owed.{owed_cmp, key_eq}
use Rattle.cast_timer.specs.Rows.{Row, is_held, IsShaped, IsFilled, Holds}

-- whether two frames have one key and one moment
abbrev pub frame_eq : Owed → Owed → Bool
frame_eq a b = (a.due == b.due) && key_eq a.key b.key

-- whether a frame is among those owed
abbrev pub has : List Owed → Owed → Bool
has owed o = list_any (frame_eq o) owed

-- the moment of a key by a domain's map
abbrev pub due_of : List (OwedKey × ℕ) → OwedKey → Option ℕ
due_of dues key = lookup (key_eq key) dues

-- a domain's map
abbrev pub table_of : List (DomainNo × BTreeMap OwedKey ℕ) → DomainNo → Option (BTreeMap OwedKey ℕ)
table_of tables d = lookup (λ e. d.0 == e.0) tables

-- the moment of a key by the maps of all domains
abbrev pub due_in : List (DomainNo × BTreeMap OwedKey ℕ) → DomainNo → OwedKey → Option ℕ
due_in tables d key = option_map_or (λ t. due_of t.entries key) (table_of tables d) None

-- whether a key that is due at this moment, if at any, is due at t
abbrev pub is_due : ℕ → Option ℕ → Bool
is_due t None = false
is_due t (Some s) = t == s

-- A frame of the domain is due at a moment exactly if the domain's map has the moment of its key:
-- so no key is owed twice.
pub record IsKept (d : DomainNo) (rows : List Row) (due : OwedKey → Option ℕ) : Type 0 where
  pub shaped : IsShaped rows
  pub filled : IsFilled rows
  pub told : (t : ℕ) (key : OwedKey)
      → is_held rows (record { due = t; domain = d }) key ≡ is_due t (due key)

-- this holds of all domains
abbrev pub IsIndexed : List Row → List (DomainNo × BTreeMap OwedKey ℕ) → Type 0
IsIndexed rows tables = (d : DomainNo) → IsKept d rows (due_in tables d)

-- it holds of a domain again, and the frames of all others are due when they were
pub record Keeps (d : DomainNo) (old new : List Row) (due : OwedKey → Option ℕ) : Type 0 where
  pub kept : IsKept d new due
  pub others : (p : Moment) (key : OwedKey) → p.domain ≢ d → is_held new p key ≡ is_held old p key

-- a frame that was due at one moment is due at another
pub record IsMoved (d : DomainNo) (key : OwedKey) (before after : ℕ)
    (old new : List Row) : Type 0 where
  pub between : List Row
  pub added : Holds (record { due = after; domain = d }) key true old between
  pub taken : Holds (record { due = before; domain = d }) key false between new

-- the map has the moment of each frame that is owed, and of no other
pub record IsIndex (due : OwedKey → Option ℕ) (owed : List Owed) : Type 0 where
  pub rising : IsTrue (is_rising owed_cmp owed)
  pub told : (o : Owed) → has owed o ≡ true → due o.key ≡ Some o.due
  pub owes : (key : OwedKey) (t : ℕ) → due key ≡ Some t
      → has owed (record { due = t; key = key }) ≡ true

-- the moment of a frame once all that are due at `now` are owed for `due`
abbrev pub renewed_due : ℕ → ℕ → ℕ → ℕ
renewed_due now due at = if nat_le at now then due else at

-- a map of moments once all frames that are due at `now` are owed for `due`
abbrev pub renewed_dues : ℕ → ℕ → List (OwedKey × ℕ) → List (OwedKey × ℕ)
renewed_dues now due dues = map (λ e. (e.0, renewed_due now due e.1)) dues

-- the moment of a key that is owed for another one, if it is among those that are moved
abbrev pub moved_to : ℕ → Bool → Option ℕ → Option ℕ
moved_to due moves m = cond moves (option_map (λ _. due) m) m
