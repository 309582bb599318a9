-- The order that the ABCASTs of the old view end with, as the home decides it from all reports.
use Rattle.std.specs.Prelude.{ℕ, ◌+◌, nat_lt, if◌then◌else◌, List}
use Rattle.std.specs.Prelude.{[], ◌++◌, length, take, map, filter}
use Rattle.std.specs.List.{fold, flat_map}
use Rattle.cast_types.specs.declared.limits.TheConstants.{MAX_PLACED, MAX_ORDER}
use Rattle.cast_types.specs.Names.{Entry, entry_eq, entry_cmp}
use Rattle.cast_types.specs.Sets.{set_of, apart_from}
use Rattle.cast_types.specs.Counts.{CountList, is_within}
use Rattle.cast_message.specs.Tail.{Tail}
use Rattle.cast_flush.specs.Reports.{Reports}

-- how far a part of an order reaches
abbrev pub end_of : Tail → ℕ
end_of t = t.start + length t.ids

abbrev pub no_stretch : Tail
no_stretch = record { start = 0; ids = [] }

-- the order that reaches farthest of those that are reported, and of equal ones that of the least
-- site
abbrev pub longest : Reports → Tail
longest reports =
    fold (λ t r. if nat_lt (end_of t) (end_of r.1.tail) then r.1.tail else t) no_stretch reports

-- the ABCASTs that some site keeps and knows no place for, by process and count
abbrev pub unplaced_entries : Reports → List Entry
unplaced_entries reports =
    set_of entry_cmp (flat_map (λ r. map (λ k. k.0) (filter (λ k. k.1) r.1.kept)) reports)

-- those of them within the cut that an order lacks, at most 64
abbrev pub added_entries : CountList → Reports → List Entry → List Entry
added_entries cut reports placed =
    take MAX_PLACED (apart_from entry_eq (filter (is_within cut) (unplaced_entries reports)) placed)

-- an order within the cut, and behind it the ABCASTs without a place
abbrev pub ids_behind : CountList → Reports → List Entry → List Entry
ids_behind cut reports order =
    let placed : List Entry = filter (is_within cut) order in
    placed ++ added_entries cut reports placed

-- the order that the old view ends with, within the cut: the longest one, and behind it the ABCASTs
-- without a place. No report of a site has more ids than leave room for them
abbrev pub ids_from : CountList → Reports → List Entry
ids_from cut reports = ids_behind cut reports (longest reports).ids

abbrev pub order_from : CountList → Reports → Tail
order_from cut reports = record {
  start = (longest reports).start;
  ids = take MAX_ORDER (ids_from cut reports);
}
