-- What owing and paying do to the frames of one key and of others.
use Rattle.std.proofs.Common.{◌≡◌, ◌≢◌, ℕ, Bool, true, false, not, cond, ◌&&◌, List, [], ◌∷◌}
use Rattle.std.proofs.Common.{Ordering, Less, Equal, Greater, refl, sym, ap, ◌∙◌, inl, inr, arith}
use Rattle.std.specs.Prelude.{◌==◌, ◌||◌}
use Rattle.std.specs.List.{list_any}
use Rattle.std.specs.Ordering.{nat_cmp, ordering_then}
use Rattle.std.proofs.lemmas.Bool.{and_parts, and_from, cases_Bool, or_left, eqb-true, eq-eqb, false_from_ne_true, false≢true}
use Rattle.std.proofs.lemmas.Map.Lookups.{exact_unsigned}
use Rattle.cast_types.specs.Names.{group_cmp, proc_cmp, site_cmp, group_eq, proc_eq, site_eq}
use Rattle.cast_types.specs.Sets.{with_item, at_order}
use Rattle.cast_types.proofs.Orders.{group_exact, proc_exact, site_exact, group_itself}
use Rattle.cast_types.proofs.Orders.{proc_itself, site_itself, same_group, same_proc, same_site}
use Rattle.cast_timer.specs.declared.key.OwedKind.{OwedKind}
use Rattle.cast_timer.specs.declared.key.OwedKind.TheVariants.{Ask, Data, Prepare, Want, Install, Ack}
use Rattle.cast_timer.specs.declared.key.Side.{Side}
use Rattle.cast_timer.specs.declared.key.Side.TheVariants.{Site, Home}
use Rattle.cast_timer.specs.declared.key.OwedKey.{OwedKey}
use Rattle.cast_timer.specs.declared.key.Owed.{Owed}
use Rattle.cast_timer.specs.Owed.{kind_rank, side_rank, key_cmp, owed_cmp, key_eq, is_owed, with_owed, paid}
use Rattle.cast_timer.specs.Laws.{OwingOwes, OwingLeaves, PayingPays, PayingLeaves}

same_kind : (a b : OwedKind) → kind_rank a ≡ kind_rank b → a ≡ b
same_kind Ask Ask e = refl
same_kind Ask Data e = absurd (omega arith)
same_kind Ask Prepare e = absurd (omega arith)
same_kind Ask Want e = absurd (omega arith)
same_kind Ask Install e = absurd (omega arith)
same_kind Ask Ack e = absurd (omega arith)
same_kind Data Ask e = absurd (omega arith)
same_kind Data Data e = refl
same_kind Data Prepare e = absurd (omega arith)
same_kind Data Want e = absurd (omega arith)
same_kind Data Install e = absurd (omega arith)
same_kind Data Ack e = absurd (omega arith)
same_kind Prepare Ask e = absurd (omega arith)
same_kind Prepare Data e = absurd (omega arith)
same_kind Prepare Prepare e = refl
same_kind Prepare Want e = absurd (omega arith)
same_kind Prepare Install e = absurd (omega arith)
same_kind Prepare Ack e = absurd (omega arith)
same_kind Want Ask e = absurd (omega arith)
same_kind Want Data e = absurd (omega arith)
same_kind Want Prepare e = absurd (omega arith)
same_kind Want Want e = refl
same_kind Want Install e = absurd (omega arith)
same_kind Want Ack e = absurd (omega arith)
same_kind Install Ask e = absurd (omega arith)
same_kind Install Data e = absurd (omega arith)
same_kind Install Prepare e = absurd (omega arith)
same_kind Install Want e = absurd (omega arith)
same_kind Install Install e = refl
same_kind Install Ack e = absurd (omega arith)
same_kind Ack Ask e = absurd (omega arith)
same_kind Ack Data e = absurd (omega arith)
same_kind Ack Prepare e = absurd (omega arith)
same_kind Ack Want e = absurd (omega arith)
same_kind Ack Install e = absurd (omega arith)
same_kind Ack Ack e = refl

same_side : (a b : Side) → side_rank a ≡ side_rank b → a ≡ b
same_side Site Site e = refl
same_side Site Home e = absurd (omega arith)
same_side Home Site e = absurd (omega arith)
same_side Home Home e = refl

-- keys that test equal are one, and a key tests equal to itself
pub same_key : (a b : OwedKey) → key_eq a b ≡ true → a ≡ b
same_key a b h =
    let kinds =
    and_parts (kind_rank a.kind == kind_rank b.kind) (group_eq a.group b.group
    && (proc_eq a.proc b.proc
    && ((a.count == b.count)
    && (site_eq a.site b.site
    && (side_rank a.side == side_rank b.side))))) h in
    let groups =
    and_parts (group_eq a.group b.group)
    (proc_eq a.proc b.proc && ((a.count == b.count) && (site_eq a.site b.site && (side_rank a.side == side_rank b.side)))) kinds.1 in
    let procs =
    and_parts (proc_eq a.proc b.proc)
    ((a.count == b.count) && (site_eq a.site b.site && (side_rank a.side == side_rank b.side))) groups.1 in
    let counts = and_parts (a.count == b.count) (site_eq a.site b.site && (side_rank a.side == side_rank b.side)) procs.1 in
    let sites = and_parts (site_eq a.site b.site) (side_rank a.side == side_rank b.side) counts.1 in
    let kind = same_kind a.kind b.kind (eqb-true (kind_rank a.kind) (kind_rank b.kind) kinds.0) in
    let group = same_group a.group b.group groups.0 in
    let process = same_proc a.proc b.proc procs.0 in
    let count = eqb-true a.count b.count counts.0 in
    let site = same_site a.site b.site sites.0 in
    let side = same_side a.side b.side (eqb-true (side_rank a.side) (side_rank b.side) sites.1) in
    λ i. record { kind = kind i; group = group i; proc = process i; count = count i; site = site i; side = side i }

pub key_itself : (a : OwedKey) → key_eq a a ≡ true
key_itself a =
    and_from (kind_rank a.kind == kind_rank a.kind) (group_eq a.group a.group
    && (proc_eq a.proc a.proc
    && ((a.count == a.count)
    && (site_eq a.site a.site
    && (side_rank a.side == side_rank a.side))))) (eq-eqb (kind_rank a.kind) (kind_rank a.kind) refl)
    (and_from (group_eq a.group a.group) (proc_eq a.proc a.proc
    && ((a.count == a.count)
    && (site_eq a.site a.site
    && (side_rank a.side == side_rank a.side)))) (group_itself a.group)
    (and_from (proc_eq a.proc a.proc) ((a.count == a.count) && (site_eq a.site a.site && (side_rank a.side == side_rank a.side)))
    (proc_itself a.proc)
    (and_from (a.count == a.count) (site_eq a.site a.site && (side_rank a.side == side_rank a.side)) (eq-eqb a.count a.count refl)
    (and_from (site_eq a.site a.site) (side_rank a.side == side_rank a.side) (site_itself a.site)
    (eq-eqb (side_rank a.side) (side_rank a.side) refl)))))

equal_key : (a b : OwedKey) → a ≡ b → key_eq a b ≡ true
equal_key a b same = ap (key_eq a) (sym same) ∙ key_itself a

pub turned_key : (a b : OwedKey) → key_eq a b ≡ key_eq b a
turned_key a b = elim (cases_Bool (key_eq a b)) [
  | inl same ↦ same ∙ sym (equal_key b a (sym (same_key a b same)))
  | inr other ↦ other ∙ sym (false_from_ne_true (key_eq b a) (λ same. false≢true (sym other ∙ equal_key a b (sym (same_key b a same)))))
]

other_key : (a b : OwedKey) → a ≢ b → key_eq a b ≡ false
other_key a b differ = false_from_ne_true (key_eq a b) (λ h. differ (same_key a b h))

-- frames that tie have one key
pub both_tie : (r s : Ordering) → ordering_then r s ≡ Equal → (r ≡ Equal) × (s ≡ Equal)
both_tie Less s h = absurd (cc)
both_tie Equal s h = (refl, h)
both_tie Greater s h = absurd (cc)

pub tied_key : (a b : OwedKey) → key_cmp a b ≡ Equal → a ≡ b
tied_key a b h =
    let last = nat_cmp (side_rank a.side) (side_rank b.side) in
    let by_site = ordering_then (site_cmp a.site b.site) last in
    let by_count = ordering_then (nat_cmp a.count b.count) by_site in
    let by_proc = ordering_then (proc_cmp a.proc b.proc) by_count in
    let by_group = ordering_then (group_cmp a.group b.group) by_proc in
    let kinds = both_tie (nat_cmp (kind_rank a.kind) (kind_rank b.kind)) by_group h in
    let groups = both_tie (group_cmp a.group b.group) by_proc kinds.1 in
    let procs = both_tie (proc_cmp a.proc b.proc) by_count groups.1 in
    let counts = both_tie (nat_cmp a.count b.count) by_site procs.1 in
    let sites = both_tie (site_cmp a.site b.site) last counts.1 in
    let kind = same_kind a.kind b.kind (exact_unsigned (kind_rank a.kind) (kind_rank b.kind) kinds.0) in
    let group = group_exact a.group b.group groups.0 in
    let process = proc_exact a.proc b.proc procs.0 in
    let count = exact_unsigned a.count b.count counts.0 in
    let site = site_exact a.site b.site sites.0 in
    let side = same_side a.side b.side (exact_unsigned (side_rank a.side) (side_rank b.side) sites.1) in
    λ i. record { kind = kind i; group = group i; proc = process i; count = count i; site = site i; side = side i }

tied : (a b : Owed) → owed_cmp a b ≡ Equal → a.key ≡ b.key
tied a b h = tied_key a.key b.key (both_tie (nat_cmp a.due b.due) (key_cmp a.key b.key) h).1

pub tied_frame : (a b : Owed) → owed_cmp a b ≡ Equal → a ≡ b
tied_frame a b h =
    let parts = both_tie (nat_cmp a.due b.due) (key_cmp a.key b.key) h in
    let due = exact_unsigned a.due b.due parts.0 in
    let key = tied_key a.key b.key parts.1 in
    λ i. record { due = due i; key = key i }

-- a test of keys that a frame passes holds of some frame once it is owed
pub any_with : (test : Owed → Bool) (x : Owed) (os : List Owed) → ((o : Owed) → owed_cmp x o ≡ Equal → test o ≡ test x) →
    list_any test (with_item owed_cmp x os) ≡ (test x || list_any test os)
any_with test x [] alike = refl
any_with test x (o ∷ os) alike =
    elim (owed_cmp x o) as (λ r. owed_cmp x o ≡ r →
    list_any test (at_order r (x ∷ o ∷ os) (o ∷ os) (o ∷ with_item owed_cmp x os)) ≡ (test x || (test o || list_any test os))) [
      | Less ↦ λ lt. refl
      | Equal ↦ λ tie. tie_in (test o) (test x) (list_any test os) (alike o tie)
      | Greater ↦ λ gt. ap (λ b. test o || b) (any_with test x os alike) ∙ swap (test o) (test x) (list_any test os)
    ] refl
  where
    swap : (a b c : Bool) → (a || (b || c)) ≡ (b || (a || c))
    swap true true c = refl
    swap true false c = refl
    swap false true c = refl
    swap false false c = refl

    tie_in : (a b c : Bool) → a ≡ b → (a || c) ≡ (b || (a || c))
    tie_in true true c e = refl
    tie_in true false c e = refl
    tie_in false true c e = absurd (false≢true e)
    tie_in false false c e = refl

owing : (owed : List Owed) (key other : OwedKey) (due : ℕ) →
    is_owed (with_owed owed key due) other ≡ (key_eq key other || is_owed owed other)
owing owed key other due =
    let x : Owed = record { due = due; key = key } in
    any_with (λ o. key_eq o.key other) x owed (λ o tie. ap (λ (k : OwedKey). key_eq k other) (sym (tied x o tie)))

pub owing_owes : OwingOwes
owing_owes owed key due = owing owed key key due ∙ or_left (key_eq key key) (is_owed owed key) (key_itself key)

pub owing_leaves : OwingLeaves
owing_leaves owed key other due differ =
    owing owed key other due ∙ ap (λ b. b || is_owed owed other) (other_key key other (λ same. differ (sym same)))

pub paying_pays : PayingPays
paying_pays [] key = refl
paying_pays (o ∷ os) key =
    elim (key_eq key o.key)
    as (λ b. key_eq key o.key ≡ b → is_owed (cond (not b) (o ∷ paid (key_eq key) os) (paid (key_eq key) os)) key ≡ false) [
      | true ↦ λ same. paying_pays os key
      | false ↦ λ other.
          let differ : key_eq o.key key ≡ false = other_key o.key key (λ same. false≢true (sym other ∙ equal_key key o.key (sym same))) in
          ap (λ b. b || is_owed (paid (key_eq key) os) key) differ ∙ paying_pays os key
    ] refl

pub paying_leaves : PayingLeaves
paying_leaves [] key other differ = refl
paying_leaves (o ∷ os) key other differ =
    elim (key_eq key o.key) as (λ b. key_eq key o.key ≡ b →
    is_owed (cond (not b) (o ∷ paid (key_eq key) os) (paid (key_eq key) os)) other ≡ (key_eq o.key other || is_owed os other)) [
      | true ↦ λ same.
          let not_it : key_eq o.key other ≡ false = other_key o.key other (λ it. differ (sym it ∙ sym (same_key key o.key same))) in
          paying_leaves os key other differ ∙ sym (ap (λ b. b || is_owed os other) not_it)
      | false ↦ λ not_paid. ap (λ b. key_eq o.key other || b) (paying_leaves os key other differ)
    ] refl
