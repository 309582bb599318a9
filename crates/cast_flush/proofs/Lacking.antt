-- What the sites lack of each other, and what they keep without a place.
use Rattle.std.proofs.Common.{◌≡◌, Bool, true, false, List, [], ◌∷◌, map, Some, cond, refl, sym, ap, ◌∙◌, inl, inr}
use Rattle.std.specs.Prelude.{not, ◌&&◌, ◌||◌}
use Rattle.std.specs.List.{list_any, list_all, filter, flat_map, find}
use Rattle.std.specs.Option.{option_map}
use Rattle.std.proofs.lemmas.Bool.{cases_Bool, false≢true, and_parts, and_from, or_left, or_right}
use Rattle.cast_types.specs.declared.names.SiteNo.{SiteNo}
use Rattle.cast_types.specs.Names.{Entry, site_eq, entry_eq, entry_cmp}
use Rattle.cast_types.specs.Sets.{is_among}
use Rattle.cast_types.specs.Counts.{is_within}
use Rattle.cast_types.proofs.Orders.{entry_exact, site_itself}
use Rattle.cast_message.specs.KeptIds.{KeptList}
use Rattle.cast_flush.specs.declared.report.Report.{Report}
use Rattle.cast_flush.specs.Reports.{Reports, keeps, all_kept, is_needed}
use Rattle.cast_flush.specs.Laws.{NeededInWords, KeeperInWords, UnplacedInWords}
use Rattle.cast_flush.proofs.Gathered.{any_flat_map, any_map, any_filter, any_same, any_set, entry_turned, among_filter}

-- an id is among those of all reports where a report has it
among_all : (f : SiteNo × Report → List Entry) (reports : Reports) (e : Entry) →
    is_among entry_eq e (flat_map f reports) ≡ list_any (λ r. is_among entry_eq e (f r)) reports
among_all f reports e = any_flat_map (entry_eq e) f reports

-- an id is among those that a site keeps where it keeps it
among_kept : (kept : KeptList) (e : Entry) → is_among entry_eq e (map (λ k. k.0) kept) ≡ list_any (λ k. entry_eq k.0 e) kept
among_kept kept e =
    any_map (entry_eq e) (λ k. k.0) kept
    ∙ any_same (λ k. entry_eq e k.0) (λ k. entry_eq k.0 e) (λ k. entry_turned e k.0) kept

-- an id is among all that sites keep where one of them keeps it
kept_by_any : (reports : Reports) (e : Entry) → is_among entry_eq e (all_kept reports) ≡ list_any (λ r. keeps r.1 e) reports
kept_by_any reports e =
    any_set entry_cmp entry_exact (entry_eq e) (flat_map (λ r. map (λ k. k.0) r.1.kept) reports)
    ∙ among_all (λ r. map (λ k. k.0) r.1.kept) reports e
    ∙ any_same (λ r. is_among entry_eq e (map (λ k. k.0) r.1.kept)) (λ r. keeps r.1 e) (λ r. among_kept r.1.kept e) reports

-- three tests of an `and` in another order
regrouped : (within all any : Bool) → ((within && not all) && any) ≡ (within && (any && not all))
regrouped false all any = refl
regrouped true true true = refl
regrouped true true false = refl
regrouped true false true = refl
regrouped true false false = refl

-- the needed messages are those of the rule in words
pub needed_in_words : NeededInWords
needed_in_words cut reports e =
    among_filter (is_needed cut reports) e (all_kept reports)
    ∙ ap (λ b. is_needed cut reports e && b) (kept_by_any reports e)
    ∙ regrouped (is_within cut e) (list_all (λ r. keeps r.1 e) reports) (list_any (λ r. keeps r.1 e) reports)

-- where a test passes some report, it finds one, and the report of the site that it finds passes it
found : (test : SiteNo × Report → Bool) (reports : Reports) → list_any test reports ≡ true →
    (s : SiteNo) × (option_map (λ r. r.0) (find test reports) ≡ Some s) × (list_any (λ r. site_eq r.0 s && test r) reports ≡ true)
found test [] any = absurd (false≢true any)
found test (r ∷ rs) any = elim (cases_Bool (test r)) [
  | inl here ↦ (
    r.0,
    ap (λ b. option_map (λ x. x.0) (cond b (Some r) (find test rs))) here,
    or_left (site_eq r.0 r.0 && test r) (list_any (λ x. site_eq x.0 r.0 && test x) rs)
        (and_from (site_eq r.0 r.0) (test r) (site_itself r.0) here),
  )
  | inr not_here ↦
      let rest = found test rs (sym (ap (λ b. b || list_any test rs) not_here) ∙ any) in (
        rest.0,
        ap (λ b. option_map (λ x. x.0) (cond b (Some r) (find test rs))) not_here ∙ rest.1,
        or_right (site_eq r.0 rest.0 && test r) (list_any (λ x. site_eq x.0 rest.0 && test x) rs) rest.2,
      )
]

-- a needed message is wanted from a site that keeps it
pub keeper_in_words : KeeperInWords
keeper_in_words cut reports e among =
    let parts =
    and_parts (is_within cut e) (list_any (λ r. keeps r.1 e) reports && not (list_all (λ r. keeps r.1 e) reports))
    (sym (needed_in_words cut reports e) ∙ among) in
    found (λ r. keeps r.1 e) reports (and_parts (list_any (λ r. keeps r.1 e) reports) (not (list_all (λ r. keeps r.1 e) reports)) parts.1).0

-- an id is among the marked ones of what a site keeps where it keeps it marked
marked_among : (kept : KeptList) (e : Entry) →
    is_among entry_eq e (map (λ k. k.0) (filter (λ k. k.1) kept)) ≡ list_any (λ k. k.1 && entry_eq k.0 e) kept
marked_among kept e = among_kept (filter (λ k. k.1) kept) e ∙ any_filter (λ k. entry_eq k.0 e) (λ k. k.1) kept

-- without a place is what some site keeps marked
pub unplaced_in_words : UnplacedInWords
unplaced_in_words reports e =
    any_set entry_cmp entry_exact (entry_eq e) (flat_map (λ r. map (λ k. k.0) (filter (λ k. k.1) r.1.kept)) reports)
    ∙ among_all (λ r. map (λ k. k.0) (filter (λ k. k.1) r.1.kept)) reports e
    ∙ any_same (λ r. is_among entry_eq e (map (λ k. k.0) (filter (λ k. k.1) r.1.kept)))
    (λ r. list_any (λ k. k.1 && entry_eq k.0 e) r.1.kept) (λ r. marked_among r.1.kept e) reports
