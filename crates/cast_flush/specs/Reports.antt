-- What sites report of a view that ends, and what follows from all reports.
-- That is which messages belong to the view, which of them some of the sites lack, and who has
-- those.
use Rattle.std.specs.Prelude.{ℕ, max, Bool, not, ◌&&◌, nat_lt, List, map, filter, take, Option}
use Rattle.std.specs.List.{fold, flat_map, filter_map, find, list_any, list_all}
use Rattle.std.specs.Option.{option_map}
use Rattle.cast_types.specs.declared.limits.TheConstants.{MAX_PLACED}
use Rattle.cast_types.specs.declared.names.SiteNo.{SiteNo}
use Rattle.cast_types.specs.declared.names.GroupNo.{GroupNo}
use Rattle.cast_types.specs.declared.names.Proc.{Proc}
use Rattle.cast_types.specs.Names.{Entry, site_eq, entry_eq, entry_cmp, uid_eq, uid_in}
use Rattle.cast_types.specs.Sets.{set_of}
use Rattle.cast_types.specs.Counts.{CountList, count_of, is_within}
use Rattle.cast_message.specs.declared.message.Message.{Message}
use Rattle.cast_flush.specs.declared.report.Report.{Report}

-- the reports of sites, in rising order of the sites
abbrev pub Reports : Type 0
Reports = List (SiteNo × Report)

abbrev pub has_report : Reports → SiteNo → Bool
has_report reports s = list_any (λ r. site_eq r.0 s) reports

-- each of these sites has reported
abbrev pub is_complete : List SiteNo → Reports → Bool
is_complete awaited reports = list_all (has_report reports) awaited

-- The cut: how many messages of each member belong to the view

-- the greatest count of a process that a site reports
abbrev pub greatest_count : Reports → Proc → ℕ
greatest_count reports p = fold (λ n r. max n (count_of r.1.counts p)) 0 reports

-- for each member its greatest count, where that is not 0
abbrev pub cut_from : List Proc → Reports → CountList
cut_from members reports =
    filter (λ e. nat_lt 0 e.1) (map (λ p. (p, greatest_count reports p)) members)

-- What some of the sites lack

-- a site reports that it keeps the message
abbrev pub keeps : Report → Entry → Bool
keeps r e = list_any (λ k. entry_eq k.0 e) r.kept

-- all that sites report to keep
abbrev pub all_kept : Reports → List Entry
all_kept reports = set_of entry_cmp (flat_map (λ r. map (λ k. k.0) r.1.kept) reports)

-- a message within the cut that not all sites keep
abbrev pub is_needed : CountList → Reports → Entry → Bool
is_needed cut reports e = is_within cut e && not (list_all (λ r. keeps r.1 e) reports)

-- the messages within the cut that some of the sites keep, and not all
abbrev pub needed_entries : CountList → Reports → List Entry
needed_entries cut reports = filter (is_needed cut reports) (all_kept reports)

-- the first site that keeps a message: the least one
abbrev pub keeper_of : Reports → Entry → Option SiteNo
keeper_of reports e = option_map (λ r. r.0) (find (λ r. keeps r.1 e) reports)

-- the message of the view is there
abbrev pub has_body : GroupNo → ℕ → List Message → Entry → Bool
has_body g view bodies e = list_any (λ m. uid_eq m.id (uid_in g view e)) bodies

-- the needed messages that are not there
abbrev pub wanting : GroupNo → ℕ → CountList → Reports → List Message → List Entry
wanting g view cut reports bodies =
    filter (λ e. not (has_body g view bodies e)) (needed_entries cut reports)

-- a message with the site that it is wanted from
abbrev pub want_of : Reports → Entry → Option (SiteNo × Entry)
want_of reports e = option_map (λ s. (s, e)) (keeper_of reports e)

-- the first of the messages that are wanting, each with the site that it is wanted from
abbrev pub wants_of : GroupNo → ℕ → CountList → Reports → List Message → List (SiteNo × Entry)
wants_of g view cut reports bodies =
    filter_map (want_of reports) (take MAX_PLACED (wanting g view cut reports bodies))
