-- What all domains owe: for each moment at which frames of a domain are due, their keys.
use Rattle.std.specs.Prelude.{◌≡◌, ◌≤◌, ◌<◌, ℕ, Bool, true, false, cond}
use Rattle.std.specs.Prelude.{nat_le, ◌==◌, ◌&&◌, if◌then◌else◌, List, []}
use Rattle.std.specs.Prelude.{◌∷◌, ◌++◌, map, Option, None, IsTrue, is_some}
use Rattle.std.specs.List.{list_any}
use Rattle.std.specs.Option.{option_map_or}
use Rattle.std.specs.Ordering.{nat_cmp, ordering_then}
use Rattle.std.specs.declared.cmp.Ordering.{Ordering}
use Rattle.std.specs.BTreeSet.{BTreeSet}
use Rattle.std.specs.Map.{keys_of, lookup}
use Rattle.cast_types.specs.declared.names.DomainNo.{DomainNo}
use Rattle.cast_types.specs.Names.{domain_cmp}
use Rattle.cast_types.specs.Rising.{is_rising}
use Rattle.cast_timer.specs.declared.key.Moment.{Moment}
use Rattle.cast_timer.specs.declared.key.OwedKey.{OwedKey}
use Rattle.cast_timer.specs.declared.key.Owed.{Owed}
use Rattle.cast_timer.specs.Owed.{key_cmp, key_eq}

-- a moment of a domain, and the keys of the frames that are due then
abbrev pub Row : Type 0
Row = Moment × BTreeSet OwedKey

-- by due moment, and then by domain
abbrev pub moment_cmp : Moment → Moment → Ordering
moment_cmp p q = ordering_then (nat_cmp p.due q.due) (domain_cmp p.domain q.domain)

-- whether both parts of two moments are the same
abbrev pub moment_eq : Moment → Moment → Bool
moment_eq p q = (p.due == q.due) && (p.domain.0 == q.domain.0)

-- whether a moment is one of a domain's
abbrev pub is_of : DomainNo → Moment → Bool
is_of d p = d.0 == p.domain.0

-- the frames of keys at a moment
abbrev pub frames_at : Moment → List OwedKey → List Owed
frames_at p keys = map (λ k. record { due = p.due; key = k }) keys

-- the frames of a row, if it is one of a domain's
abbrev pub frames_of : DomainNo → Row → List Owed
frames_of d r = if is_of d r.0 then frames_at r.0 r.1.keys else []

-- the frames of all rows of a domain
abbrev pub owed_among : List Row → DomainNo → List Owed
owed_among [] d = []
owed_among (r ∷ rs) d = frames_of d r ++ owed_among rs d

-- what a domain owes, in order of due moments and then of keys
unfoldable pub owed_in : List Row → DomainNo → List Owed
owed_in rows d = owed_among rows d

-- What is kept

-- the row of a moment
abbrev pub row_at : List Row → Moment → Option (BTreeSet OwedKey)
row_at rows p = lookup (moment_eq p) rows

-- the keys of the frames that are due at a moment
abbrev pub keys_at : List Row → Moment → List OwedKey
keys_at rows p = option_map_or (λ s. s.keys) (row_at rows p) []

-- whether a key is among keys
abbrev pub has_key : OwedKey → List OwedKey → Bool
has_key k keys = list_any (key_eq k) keys

-- whether there is any key
abbrev pub has_some : List OwedKey → Bool
has_some [] = false
has_some (k ∷ ks) = true

-- whether the frame of a key is due at a moment
abbrev pub is_held : List Row → Moment → OwedKey → Bool
is_held rows p k = has_key k (keys_at rows p)

-- the rows are in order, and so are the keys of each
pub record IsShaped (rows : List Row) : Type 0 where
  pub moments : IsTrue (is_rising moment_cmp (keys_of rows))
  pub keys : (p : Moment) → IsTrue (is_rising key_cmp (keys_at rows p))

-- whether the row of a moment has a key, if there is one
abbrev pub is_filled : List Row → Moment → Bool
is_filled rows p = option_map_or (λ s. has_some s.keys) (row_at rows p) true

-- each row has a key
abbrev pub IsFilled : List Row → Type 0
IsFilled rows = (p : Moment) → IsTrue (is_filled rows p)

-- no row is of the moment
abbrev pub IsFree : List Row → Moment → Type 0
IsFree rows p = row_at rows p ≡ None

-- Changes

-- the frame of one key at one moment is there or is not, as b says, and all others stay as they
-- were
pub record Changes (p : Moment) (k : OwedKey) (b : Bool) (old new : List Row) : Type 0 where
  pub shaped : IsShaped old → IsShaped new
  pub held : (q : Moment) (j : OwedKey)
      → is_held new q j ≡ cond (moment_eq p q && key_eq k j) b (is_held old q j)
  pub rest : (q : Moment) → moment_eq p q ≡ false → row_at new q ≡ row_at old q

-- and no row is left without a key
pub record Holds (p : Moment) (k : OwedKey) (b : Bool) (old new : List Row) : Type 0 where
  pub shaped : IsShaped old → IsShaped new
  pub filled : IsFilled old → IsFilled new
  pub held : (q : Moment) (j : OwedKey)
      → is_held new q j ≡ cond (moment_eq p q && key_eq k j) b (is_held old q j)

-- whether a moment is one of a domain's up to `now`
abbrev pub is_before : DomainNo → ℕ → Moment → Bool
is_before d now p = is_of d p && nat_le p.due now

-- Searches

-- t is the first moment of a domain between two moments
pub record IsNext (rows : List Row) (d : DomainNo) (from upto t : ℕ) : Type 0 where
  pub after : from ≤ t
  pub within : t ≤ upto
  pub there : IsTrue (is_some (row_at rows (record { due = t; domain = d })))
  pub first : (s : ℕ) → from ≤ s → s < t → IsFree rows (record { due = s; domain = d })

-- p is the first moment of any domain that is not before one moment of a domain and not after
-- another
pub record IsFirst (rows : List Row) (d : DomainNo) (from upto : ℕ) (p : Moment) : Type 0 where
  pub after : from ≤ p.due
  pub within : p.due ≤ upto
  pub there : IsTrue (is_some (row_at rows p))
  pub first : (s : ℕ) → from ≤ s → s < p.due → IsFree rows (record { due = s; domain = d })
  pub below : p.domain.0 < d.0 → from < p.due
  pub above : d.0 < p.domain.0 → (p.due < upto) × IsFree rows (record { due = p.due; domain = d })
