-- How many messages are wanted, at first and once one of them comes.
use Rattle.std.proofs.Common.{◌≡◌, ℕ, ◌+◌, ◌<◌, ◌≤◌, Bool, true, false, not, List, [], ◌∷◌, ◌++◌, length, filter, refl, ap, sym, ◌∙◌}
use Rattle.std.proofs.Common.{inl, inr, arith, map, sum_by, length-append}
use Rattle.std.proofs.lemmas.List.{length-map}
use Rattle.std.specs.Prelude.{◌&&◌, ◌||◌}
use Rattle.std.specs.List.{list_any, flat_map}
use Rattle.std.proofs.lemmas.Bool.{cases_Bool, or_cases, or_right, false≢true}
use Rattle.std.proofs.lemmas.List.Folds.{list_any-append}
use Rattle.std.proofs.lemmas.List.Sums.{sum_by-cons}
use Rattle.cast_types.specs.declared.names.SiteNo.{SiteNo}
use Rattle.cast_types.specs.declared.names.GroupNo.{GroupNo}
use Rattle.cast_types.specs.Names.{Entry, entry_eq, entry_cmp, entry_of, uid_eq, uid_in}
use Rattle.cast_types.specs.Sets.{is_among}
use Rattle.cast_types.specs.Counts.{CountList}
use Rattle.cast_types.proofs.Lengths.{filter_fewer, set_length}
use Rattle.cast_types.proofs.Orders.{same_entry, uid_itself}
use Rattle.cast_message.specs.declared.message.Message.{Message}
use Rattle.cast_flush.specs.declared.report.Report.{Report}
use Rattle.cast_flush.specs.Reports.{Reports, has_body, is_needed, all_kept, needed_entries, wanting}
use Rattle.cast_flush.proofs.Each.{length_filter}

-- an item of a filtered list that fails a second test is one that passes the first alone
module _ {X : Type 0} (eq : X → X → Bool) (x : X) (p q : X → Bool) (fails : (y : X) → eq x y ≡ true → p y ≡ false) where
  one_fails : (xs : List X) → is_among eq x (filter q xs) ≡ true → list_any (λ y. q y && not (p y)) xs ≡ true
  one_fails [] there = absurd (false≢true there)
  one_fails (y ∷ xs) there = elim (cases_Bool (q y)) [
    | inr none ↦
        rw (none) (one_fails xs (rw (none) at there))
    | inl passes ↦ elim (or_cases (eq x y) (is_among eq x (filter q xs)) (rw (passes) at there)) [
      | inl here ↦ rw (passes, fails y here) refl
      | inr later ↦ rw (one_fails xs later) (or_right (q y && not (p y)) true refl)
    ]
  ]

module _ (g : GroupNo) (view : ℕ) (bodies : List Message) (m : Message) where
  abbrev came : List Message
  came = bodies ++ m ∷ []

  is_there : (e : Entry) → has_body g view came e ≡ (has_body g view bodies e || (uid_eq m.id (uid_in g view e) || false))
  is_there e = list_any-append (λ x. uid_eq x.id (uid_in g view e)) bodies (m ∷ [])

  -- what still did not come did not come before
  still_wanting : (e : Entry) → not (has_body g view came e) ≡ true → not (has_body g view bodies e) ≡ true
  still_wanting e still = elim (cases_Bool (has_body g view bodies e)) [
    | inl had ↦
        absurd (false≢true (sym (ap not (is_there e ∙ ap (λ b. b || (uid_eq m.id (uid_in g view e) || false)) had)) ∙ still))
    | inr not_had ↦ ap not not_had
  ]

  -- the message that came is wanting no more
  wanting_no_more : m.id ≡ uid_in g view (entry_of m.id) → (e : Entry) → entry_eq (entry_of m.id) e ≡ true →
      not (has_body g view came e) ≡ false
  wanting_no_more of_view e same =
      let is : uid_eq m.id (uid_in g view e) ≡ true =
      ap (uid_eq m.id) (ap (uid_in g view) (sym (same_entry (entry_of m.id) e same)) ∙ sym of_view) ∙ uid_itself m.id in
      ap not (is_there e ∙ ap (λ b. has_body g view bodies e || (b || false)) is ∙ or_right (has_body g view bodies e) true refl)

pub leaves_fewer : (g : GroupNo) (view : ℕ) (cut : CountList) (reports : Reports) (bodies : List Message) (m : Message) →
    m.id ≡ uid_in g view (entry_of m.id) → is_among entry_eq (entry_of m.id) (wanting g view cut reports bodies) ≡ true →
    length (wanting g view cut reports (bodies ++ m ∷ [])) < length (wanting g view cut reports bodies)
leaves_fewer g view cut reports bodies m of_view wanted =
    let before : Entry → Bool = λ e. not (has_body g view bodies e) in
    let after : Entry → Bool = λ e. not (has_body g view (bodies ++ m ∷ []) e) in
    let needed = needed_entries cut reports in
    filter_fewer after before (still_wanting g view bodies m) needed
    (one_fails entry_eq (entry_of m.id) after before (wanting_no_more g view bodies m of_view) needed wanted)

-- so many messages do reports name
named_length : (reports : Reports) → length (flat_map (λ (r : SiteNo × Report). map (λ k. k.0) r.1.kept) reports) ≡
    sum_by (λ (r : SiteNo × Report). length r.1.kept) reports
named_length [] = refl
named_length (r ∷ reports) =
    let names : List Entry = map (λ k. k.0) r.1.kept in
    let others : List Entry = flat_map (λ (x : SiteNo × Report). map (λ k. k.0) x.1.kept) reports in
    length-append names others
    ∙ ap (λ n. n + length others) (length-map r.1.kept (λ (k : Entry × Bool). k.0))
    ∙ ap (λ n. length r.1.kept + n) (named_length reports)
    ∙ sym (sum_by-cons (λ (x : SiteNo × Report). length x.1.kept) r reports)

pub wanting_named : (g : GroupNo) (view : ℕ) (cut : CountList) (reports : Reports) (bodies : List Message) →
    length (wanting g view cut reports bodies) ≤ sum_by (λ (r : SiteNo × Report). length r.1.kept) reports
wanting_named g view cut reports bodies =
    let names : List Entry = flat_map (λ (x : SiteNo × Report). map (λ k. k.0) x.1.kept) reports in
    omega (
      arith,
      length_filter (λ e. not (has_body g view bodies e)) (needed_entries cut reports),
      length_filter (is_needed cut reports) (all_kept reports),
      set_length entry_cmp names,
      named_length reports,
    )
