-- Rows that stand in rising order of their processes, and processes that are in no group.
use Rattle.std.specs.Prelude.{◌≡◌, ℕ, suc, Bool, true, false, not, ◌==◌}
use Rattle.std.specs.Prelude.{if◌then◌else◌, List, [], ◌∷◌, length}
use Rattle.std.specs.List.{list_all}
use Rattle.std.specs.Option.{option_map_or}
use Rattle.std.specs.Ordering.{is_lt}
use Rattle.std.specs.declared.cmp.Ordering.{Ordering}
use Rattle.cast_types.specs.declared.names.Proc.{Proc}
use Rattle.cast_types.specs.declared.names.SiteNo.{SiteNo}
use Rattle.cast_types.specs.Names.{proc_cmp, site_eq}
use Rattle.cast_types.specs.Rising.{is_rising}
use Rattle.cast_ready.specs.declared.row.Row.{Row}
use Rattle.cast_delay.specs.Queue.{row_of}

-- rows by their processes
abbrev pub row_cmp : Row → Row → Ordering
row_cmp a b = proc_cmp a.process b.process

-- whether each row's process is below those of all rows behind it
abbrev pub rise : List Row → Bool
rise rows = is_rising row_cmp rows

-- whether all rows' processes are below one
abbrev pub all_below : Proc → List Row → Bool
all_below p rows = list_all (λ r. is_lt (proc_cmp r.process p)) rows

-- whether all rows' processes are of a site
abbrev pub are_of : SiteNo → List Row → Bool
are_of s rows = list_all (λ r. site_eq r.process.site s) rows

-- the site of the first of them, once another process stands behind them
abbrev pub site_with : SiteNo → Proc → List Row → SiteNo
site_with s p [] = p.site
site_with s p (row ∷ rows) = s

-- whether a process is admitted, and nothing was told of what it is in any group
abbrev pub is_idle : List Row → Proc → Bool
is_idle rows p = option_map_or (λ r. length r.standings == 0) (row_of rows p) false

-- whether something was told of what a row's process is in a group
abbrev pub is_busy : Row → Bool
is_busy row = not (length row.standings == 0)

-- the places of the rows that are busy, where that of the first row is a number
abbrev pub busy_places : ℕ → List Row → List ℕ
busy_places n [] = []
busy_places n (row ∷ rows) =
    if is_busy row then n ∷ busy_places (suc n) rows else busy_places (suc n) rows

-- these are the places of the busy rows, where they are kept up
abbrev pub AreBusy : Bool → List Row → List ℕ → Type 0
AreBusy kept rows places = kept ≡ true → places ≡ busy_places 0 rows
