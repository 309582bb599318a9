-- What the reports of a flush decide, in words.
use Rattle.std.specs.Prelude.{◌≡◌, ◌↔◌, ℕ, ◌≤◌, ◌<◌, true, false, not, ◌&&◌}
use Rattle.std.specs.Prelude.{nat_le, List, [], ◌∷◌, ◌++◌, length, slice_get, ◌⊎◌, Some, sum_by}
use Rattle.std.specs.List.{list_any, list_all}
use Rattle.std.specs.Option.{option_map}
use Rattle.cast_types.specs.declared.limits.TheConstants.{MAX_TAIL}
use Rattle.cast_types.specs.declared.names.SiteNo.{SiteNo}
use Rattle.cast_types.specs.declared.names.GroupNo.{GroupNo}
use Rattle.cast_types.specs.declared.names.Proc.{Proc}
use Rattle.cast_types.specs.Names.{Entry, site_eq, proc_eq, entry_eq, entry_of, uid_in}
use Rattle.cast_types.specs.Sets.{is_among}
use Rattle.cast_types.specs.Counts.{CountList, count_of, is_within}
use Rattle.cast_message.specs.declared.message.Message.{Message}
use Rattle.cast_flush.specs.Reports.{Reports, cut_from, keeps, needed_entries, keeper_of}
use Rattle.cast_flush.specs.Reports.{wanting}
use Rattle.cast_flush.specs.Decisions.{end_of, no_stretch, longest}
use Rattle.cast_flush.specs.Decisions.{unplaced_entries, ids_from, order_from}

-- The cut covers of each member the least number of messages that is as great as each report, and
-- of nobody else any
abbrev pub CutInWords : Type 0
CutInWords =
    (members : List Proc) (reports : Reports) (p : Proc)
    → (is_among proc_eq p members ≡ true → (n : ℕ) →
    (count_of (cut_from members reports) p ≤ n)
    ↔ (list_all (λ r. nat_le (count_of r.1.counts p) n) reports ≡ true))
    × (is_among proc_eq p members ≡ false → count_of (cut_from members reports) p ≡ 0)

-- Needed are the messages within the cut that some site keeps and some site does not
abbrev pub NeededInWords : Type 0
NeededInWords =
    (cut : CountList) (reports : Reports) (e : Entry)
    → is_among entry_eq e (needed_entries cut reports)
    ≡ (is_within cut e
    && (list_any (λ r. keeps r.1 e) reports
    && not (list_all (λ r. keeps r.1 e) reports)))

-- Each of them is wanted from a site that keeps it
abbrev pub KeeperInWords : Type 0
KeeperInWords =
    (cut : CountList) (reports : Reports) (e : Entry)
    → is_among entry_eq e (needed_entries cut reports) ≡ true
    → (s : SiteNo)
    × (keeper_of reports e ≡ Some s)
    × (list_any (λ r. site_eq r.0 s && keeps r.1 e) reports ≡ true)

-- The longest order is that of a report, if any reaches anywhere, and no report's order reaches
-- farther
abbrev pub LongestInWords : Type 0
LongestInWords =
    (reports : Reports)
    → ((longest reports ≡ no_stretch)
    ⊎ ((i : ℕ) × (option_map (λ r. r.1.tail) (slice_get reports i) ≡ Some (longest reports))))
    × (list_all (λ r. nat_le (end_of r.1.tail) (end_of (longest reports))) reports ≡ true)

-- Without a place are the messages that some site keeps marked
abbrev pub UnplacedInWords : Type 0
UnplacedInWords =
    (reports : Reports) (e : Entry)
    → is_among entry_eq e (unplaced_entries reports)
    ≡ list_any (λ r. list_any (λ k. k.1 && entry_eq k.0 e) r.1.kept) reports

-- From reports of at most 512 ids each, as sites send them, nothing is cut off the order that is
-- decided
abbrev pub OrderIsWhole : Type 0
OrderIsWhole =
    (cut : CountList) (reports : Reports)
    → list_all (λ r. nat_le (length r.1.tail.ids) MAX_TAIL) reports ≡ true
    → (order_from cut reports).ids ≡ ids_from cut reports

-- Every id of it is within the cut
abbrev pub OrderIsWithinTheCut : Type 0
OrderIsWithinTheCut =
    (cut : CountList) (reports : Reports)
    → list_all (is_within cut) (order_from cut reports).ids ≡ true

-- Each message that comes and is wanted leaves fewer that are
abbrev pub EachBodyLeavesFewer : Type 0
EachBodyLeavesFewer =
    (g : GroupNo) (view : ℕ) (cut : CountList) (reports : Reports) (bodies : List Message)
    (m : Message)
    → m.id ≡ uid_in g view (entry_of m.id)
    → is_among entry_eq (entry_of m.id) (wanting g view cut reports bodies) ≡ true
    → length (wanting g view cut reports (bodies ++ m ∷ []))
    < length (wanting g view cut reports bodies)

-- At first no more are wanted than the reports name in all
abbrev pub WantingIsNamed : Type 0
WantingIsNamed =
    (g : GroupNo) (view : ℕ) (cut : CountList) (reports : Reports) (bodies : List Message)
    → length (wanting g view cut reports bodies) ≤ sum_by (λ r. length r.1.kept) reports
