-- Which ids an index has, each with a key, and in which order they are gone through.
use Rattle.std.specs.Prelude.{◌≡◌, ◌⊎◌, ◌≤◌, ℕ, ◌+◌, Bool, true, not, ◌&&◌}
use Rattle.std.specs.Prelude.{◌==◌, List, length, filter, Option, Some, None}
use Rattle.std.specs.List.{list_any}
use Rattle.std.specs.Ordering.{is_le, is_lt, nat_cmp, ordering_then}
use Rattle.std.specs.declared.cmp.Ordering.{Ordering}
use Rattle.cast_types.specs.declared.names.Uid.{Uid}
use Rattle.cast_types.specs.declared.names.Key.{Key}
use Rattle.cast_types.specs.declared.source.Source.{Source}
use Rattle.cast_types.specs.Names.{uid_cmp, uid_eq}
use Rattle.cast_types.specs.Sources.{source_cmp, source_of}
use Rattle.cast_index.specs.declared.entry.Entry.{Entry}

-- by id, and then by the key's number
abbrev pub entry_cmp : Entry → Entry → Ordering
entry_cmp a b = ordering_then (uid_cmp a.id b.id) (nat_cmp a.number b.number)

-- whether an id and a key are these
abbrev pub is_pair : Uid → Key → Uid → Key → Bool
is_pair id key u k = uid_eq id u && (key.0 == k.0)

-- whether an index has an id with a key
abbrev pub has : List Entry → Uid → Key → Bool
has entries u k = list_any (λ e. uid_eq u e.id && (k.0 == e.number)) entries

-- whether an id's source stands behind another, as each does behind none
abbrev pub is_behind : Option Source → Uid → Bool
is_behind None u = true
is_behind (Some s) u = is_lt (source_cmp s (source_of u))

-- how many pairs have an id whose source stands behind one
abbrev pub behind_count : List Entry → Option Source → ℕ
behind_count entries after = length (filter (λ e. is_behind after e.id) entries)

-- the lowest entry that is of a source behind another
abbrev pub lowest_past : Source → Entry
lowest_past s =
    record {
      id = record {
        group = s.group;
        view = s.view;
        proc = record { site = s.process.site; serial = s.process.serial + 1 };
        count = 0;
      };
      number = 0;
    }

-- whether an entry is at or above another
abbrev pub is_from : Entry → Entry → Bool
is_from lowest e = is_le (entry_cmp lowest e)

-- the lowest entry that is of a source
abbrev pub lowest_of : Source → Entry
lowest_of s = record {
  id = record { group = s.group; view = s.view; proc = s.process; count = 0 };
  number = 0;
}

-- whether an entry is below another
abbrev pub is_below : Entry → Entry → Bool
is_below bound e = not (is_from bound e)

-- whether an id's source stands not behind another
abbrev pub is_upto : Source → Uid → Bool
is_upto s u = not (is_behind (Some s) u)

-- the first of the entries that pass a test
pub record IsFirstEntry (entries : List Entry) (test : Entry → Bool) (e : Entry) : Type 0 where
  pub there : has entries e.id (record { 0 = e.number }) ≡ true
  pub passes : test e ≡ true
  pub first : (u : Uid) (k : Key) → has entries u k ≡ true
      → test (record { id = u; number = k.0 }) ≡ true
      → is_le (entry_cmp e (record { id = u; number = k.0 })) ≡ true

-- the least id of those: each other is of its source and has no lower count, or is of a source
-- behind that
pub record IsFirstBehind (entries : List Entry) (after : Option Source) (id : Uid) : Type 0 where
  pub there : (k : Key) × (has entries id k ≡ true)
  pub behind : is_behind after id ≡ true
  pub least : (u : Uid) (k : Key) → has entries u k ≡ true → is_behind after u ≡ true
      → ((source_of u ≡ source_of id) × (id.count ≤ u.count))
      ⊎ (is_behind (Some (source_of id)) u ≡ true)

-- the last of the entries that pass a test
pub record IsLastEntry (entries : List Entry) (test : Entry → Bool) (e : Entry) : Type 0 where
  pub there : has entries e.id (record { 0 = e.number }) ≡ true
  pub passes : test e ≡ true
  pub last : (u : Uid) (k : Key) → has entries u k ≡ true
      → test (record { id = u; number = k.0 }) ≡ true
      → is_le (entry_cmp (record { id = u; number = k.0 }) e) ≡ true

-- an index has an id of a source under a key, and no id of the source has a lower count
pub record IsFirstOf (entries : List Entry) (s : Source) (first : Uid × Key) : Type 0 where
  pub there : has entries first.0 first.1 ≡ true
  pub own : source_of first.0 ≡ s
  pub least : (u : Uid) (k : Key) → has entries u k ≡ true → source_of u ≡ s
      → first.0.count ≤ u.count

-- an index has an id of a source with this count
abbrev pub HasCount : List Entry → Source → ℕ → Type 0
HasCount entries s count =
    (u : Uid) × (k : Key) × (has entries u k ≡ true) × (source_of u ≡ s) × (u.count ≡ count)

-- the least and the greatest count of the ids of a source
pub record IsCountRange (entries : List Entry) (s : Source) (range : ℕ × ℕ) : Type 0 where
  pub least : HasCount entries s range.0
  pub greatest : HasCount entries s range.1
  pub within : (u : Uid) (k : Key) → has entries u k ≡ true → source_of u ≡ s
      → (range.0 ≤ u.count) × (u.count ≤ range.1)
