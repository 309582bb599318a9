-- How many messages of each source: of each process in each view of a group.
use Rattle.std.specs.Prelude.{ℕ, max, ◌&&◌, ◌==◌, List, map, filter, unwrap_or}
use Rattle.std.specs.FinMap.Entries.{find, put}
use Rattle.cast_types.specs.declared.names.GroupNo.{GroupNo}
use Rattle.cast_types.specs.Names.{Entry, group_eq}
use Rattle.cast_types.specs.Sources.{source_cmp}
use Rattle.cast_types.specs.declared.source.Source.{Source}

abbrev pub DeliveredCounts : Type 0
DeliveredCounts = List (Source × ℕ)

abbrev pub count_at : DeliveredCounts → Source → ℕ
count_at counts s = unwrap_or (find source_cmp s counts) 0

-- the count of a source raised to another, where that is greater
abbrev pub raised_at : Source → ℕ → DeliveredCounts → DeliveredCounts
raised_at s count counts = put source_cmp s (max (count_at counts s) count) counts

-- the counts of one view of a group
abbrev pub counts_in : GroupNo → ℕ → DeliveredCounts → List Entry
counts_in g view counts =
    map (λ e. (e.0.process, e.1)) (filter (λ e. group_eq e.0.group g && (e.0.view == view)) counts)
