-- The maps of all domains: what is owed after one of them is changed.
use Rattle.std.proofs.Common.{◌≡◌, ◌≢◌, ℕ, Bool, false, cond, List, [], Option, Some, None, refl, sym, ap, subst, ◌∙◌, inl, inr}
use Rattle.std.specs.Prelude.{◌==◌, is_some}
use Rattle.std.specs.Option.{option_map_or}
use Rattle.std.specs.Ordering.{nat_cmp}
use Rattle.std.specs.BTreeMap.{BTreeMap, is_at}
use Rattle.std.specs.Map.{lookup}
use Rattle.std.proofs.lemmas.Bool.{cases_Bool, eqb-true, eq-eqb, false_from_ne_true, false≢true}
use Rattle.std.proofs.lemmas.Cmp.{tied_itself, nat_cmp_total}
use Rattle.std.proofs.lemmas.Map.Lookups.{exact_unsigned}
use Rattle.std.proofs.lemmas.Option.{none-some}
use Rattle.cast_types.specs.declared.names.DomainNo.{DomainNo}
use Rattle.cast_types.specs.contracts.names.DomainNoOrd.TheImpl as domains
use Rattle.cast_timer.specs.declared.key.OwedKey.{OwedKey}
use Rattle.cast_timer.specs.declared.key.Owed.{Owed}
use Rattle.cast_timer.specs.Owed.{key_eq, is_owed, with_owed, paid}
use Rattle.cast_timer.specs.Rows.{Row, owed_in}
use Rattle.cast_timer.specs.Index.{due_of, due_in, table_of, IsKept, IsIndexed, Keeps, IsIndex}
use Rattle.cast_timer.proofs.Index.{tests, owed_by, index_paid, index_with}
use Rattle.cast_timer.proofs.Rows.{same_domain}
use Rattle.cast_timer.proofs.Kept.{index_of}
use Rattle.cast_timer.proofs.AllRenewed.{one_index}

-- Searches

domain_tests : (d e : DomainNo) → is_at (domains.cmp-value.it d) e ≡ (d.0 == e.0)
domain_tests d e =
    tests (nat_cmp d.0 e.0) (d.0 == e.0)
    (λ tie. eq-eqb d.0 e.0 (exact_unsigned d.0 e.0 tie))
    (λ same. ap (nat_cmp d.0) (sym (eqb-true d.0 e.0 same)) ∙ tied_itself nat_cmp_total d.0)

abbrev pub Tables : Type 0
Tables = List (DomainNo × BTreeMap OwedKey ℕ)

pub table_found : (d : DomainNo) (tables : Tables) → lookup (is_at (domains.cmp-value.it d)) tables ≡ table_of tables d
table_found d tables = ap (λ (f : DomainNo → Bool). lookup f tables) (λ i e. domain_tests d e i)

-- the moments of a domain by its map
pub due_at_table : (tables : Tables) (d : DomainNo) (m : BTreeMap OwedKey ℕ) → table_of tables d ≡ Some m →
    due_in tables d ≡ due_of m.entries
due_at_table tables d m is = λ i key. option_map_or (λ t. due_of t.entries key) (is i) None

pub due_at_none : (tables : Tables) (d : DomainNo) → table_of tables d ≡ None → due_in tables d ≡ (λ key. None)
due_at_none tables d none = λ i key. option_map_or (λ t. due_of t.entries key) (none i) None

pub kept_of : (rows : List Row) (tables : Tables) (d : DomainNo) (m : BTreeMap OwedKey ℕ) → IsIndexed rows tables →
    table_of tables d ≡ Some m → IsKept d rows (due_of m.entries)
kept_of rows tables d m indexed is = subst (IsKept d rows) (due_at_table tables d m is) (indexed d)

-- a domain that has no map owes nothing
pub owed_none : (rows : List Row) (tables : Tables) (d : DomainNo) → IsIndexed rows tables → table_of tables d ≡ None → owed_in rows d ≡ []
owed_none rows tables d indexed none =
    one_index (due_in tables d) (owed_in rows d) [] (index_of d rows (due_in tables d) (indexed d))
    (subst (λ due. IsIndex due []) (sym (due_at_none tables d none)) (record {
      rising = refl;
      told = λ o there. absurd (false≢true there);
      owes = λ key t some. absurd (none-some t some);
    }))

-- Changes

-- one domain's map becomes another, or is taken out
module _ (d : DomainNo) (w : Option (BTreeMap OwedKey ℕ)) (old new : Tables) (is : (e : DomainNo) → lookup (is_at (domains.cmp-value.it e))
    new ≡ cond (is_at (domains.cmp-value.it d) e) w (lookup (is_at (domains.cmp-value.it e)) old)) where
  table_moved : (e : DomainNo) → table_of new e ≡ cond (d.0 == e.0) w (table_of old e)
  table_moved e = sym (table_found e new) ∙ is e ∙ (λ i. cond (domain_tests d e i) w (table_found e old i))

  pub table_here : table_of new d ≡ w
  table_here = table_moved d ∙ ap (λ b. cond b w (table_of old d)) (eq-eqb d.0 d.0 refl)

  pub due_there : (e : DomainNo) → e ≢ d → due_in new e ≡ due_in old e
  due_there e differ =
      let other =
      table_moved e ∙ ap (λ b. cond b w (table_of old e)) (false_from_ne_true (d.0 == e.0) (λ same. differ (sym (same_domain d e same)))) in
      λ i key. option_map_or (λ t. due_of t.entries key) (other i) None

-- what is owed once a domain's rows and its map are changed
module _ (d : DomainNo) (old new : List Row) (tables : Tables) (next : OwedKey → Option ℕ) (indexed : IsIndexed old tables)
    (keeps : Keeps d old new next) where
  -- what is kept of another domain
  kept_there : (e : DomainNo) → e ≢ d → IsKept e new (due_in tables e)
  kept_there e differ = record {
    shaped = keeps.kept.shaped;
    filled = keeps.kept.filled;
    told = λ t key. keeps.others (record { due = t; domain = e }) key differ ∙ (indexed e).told t key;
  }

  pub others_after : (e : DomainNo) → e ≢ d → owed_in new e ≡ owed_in old e
  others_after e differ =
      one_index (due_in tables e) (owed_in new e) (owed_in old e) (index_of e new (due_in tables e) (kept_there e differ))
      (index_of e old (due_in tables e) (indexed e))

  pub indexed_after : (tables' : Tables) → due_in tables' d ≡ next → ((e : DomainNo) → e ≢ d → due_in tables' e ≡ due_in tables e) →
      IsIndexed new tables'
  indexed_after tables' here there e = elim (cases_Bool (d.0 == e.0)) [
    | inl same ↦ subst (λ f. IsKept f new (due_in tables' f)) (same_domain d e same) (subst (IsKept d new) (sym here) keeps.kept)
    | inr other ↦
        let differ : e ≢ d = λ same. false≢true (sym other ∙ eq-eqb d.0 e.0 (ap (λ (f : DomainNo). f.0) (sym same))) in
        subst (IsKept e new) (sym (there e differ)) (kept_there e differ)
  ]

-- the same where the maps are written through
module _ (d : DomainNo) (old new : List Row) (tables tables' : Tables) (was now : BTreeMap OwedKey ℕ) (indexed : IsIndexed old tables)
    (keeps : Keeps d old new (due_of now.entries))
    (is : (e : DomainNo) → lookup (is_at (domains.cmp-value.it e)) tables' ≡ cond (is_at (domains.cmp-value.it d) e) (Some now)
    (lookup (is_at (domains.cmp-value.it e)) tables)) where
  pub indexed_written : IsIndexed new tables'
  indexed_written =
      indexed_after d old new tables (due_of now.entries) indexed keeps tables'
      (due_at_table tables' d now (table_here d (Some now) tables tables' is))
      (due_there d (Some now) tables tables' is)

-- frames are paid
pub own_paid : (d : DomainNo) (old new : List Row) (was now : List (OwedKey × ℕ)) (test : OwedKey → Bool) → IsKept d old (due_of was) →
    Keeps d old new (due_of now) → ((q : OwedKey) → due_of now q ≡ cond (test q) None (due_of was q)) →
    owed_in new d ≡ paid test (owed_in old d)
own_paid d old new was now test kept keeps paid_all =
    one_index (due_of now) (owed_in new d) (paid test (owed_in old d)) (index_of d new (due_of now) keeps.kept)
    (index_paid (due_of was) (owed_in old d) (index_of d old (due_of was) kept) test (due_of now) paid_all)

-- a frame is owed
pub own_owed : (d : DomainNo) (old new : List Row) (was now : List (OwedKey × ℕ)) (x : Owed) → IsKept d old (due_of was) →
    Keeps d old new (due_of now) → due_of was x.key ≡ None →
    ((q : OwedKey) → due_of now q ≡ cond (key_eq x.key q) (Some x.due) (due_of was q)) →
    owed_in new d ≡ with_owed (owed_in old d) x.key x.due
own_owed d old new was now x kept keeps fresh owes =
    one_index (due_of now) (owed_in new d) (with_owed (owed_in old d) x.key x.due) (index_of d new (due_of now) keeps.kept)
    (index_with (due_of was) (owed_in old d) (index_of d old (due_of was) kept) x (due_of now) fresh owes)

none_of : {X : Type 0} (o : Option X) → is_some o ≡ false → o ≡ None
none_of None none = refl
none_of (Some t) none = absurd (false≢true (sym none))

-- a key whose frame is not owed is not in the map
pub fresh_of : (d : DomainNo) (rows : List Row) (dues : List (OwedKey × ℕ)) (key : OwedKey) → IsKept d rows (due_of dues) →
    is_owed (owed_in rows d) key ≡ false → due_of dues key ≡ None
fresh_of d rows dues key kept unowed =
    none_of (due_of dues key) (owed_by (due_of dues) (owed_in rows d) (index_of d rows (due_of dues) kept) key ∙ unowed)

-- maps that have the same moments
pub indexed_same : (rows : List Row) (old new : Tables) → IsIndexed rows old →
    ((d : DomainNo) (key : OwedKey) → due_in new d key ≡ due_in old d key) → IsIndexed rows new
indexed_same rows old new indexed same d = subst (IsKept d rows) (λ i key. sym (same d key) i) (indexed d)

-- a domain's frames are dropped, and its map with them
pub indexed_gone : (d : DomainNo) (old new : List Row) (tables tables' : Tables) (dues : List (OwedKey × ℕ)) → IsIndexed old tables →
    Keeps d old new (due_of dues) → ((q : OwedKey) → due_of dues q ≡ None) →
    ((e : DomainNo) → lookup (is_at (domains.cmp-value.it e)) tables' ≡ cond (is_at (domains.cmp-value.it d) e)
    None (lookup (is_at (domains.cmp-value.it e)) tables)) → IsIndexed new tables'
indexed_gone d old new tables tables' dues indexed keeps none is =
    indexed_after d old new tables (due_of dues) indexed keeps tables'
    (due_at_none tables' d (table_here d None tables tables' is) ∙ (λ i key. sym (none key) i))
    (due_there d None tables tables' is)

-- a domain that had no map is given an empty one
pub opened : (d : DomainNo) (empty : BTreeMap OwedKey ℕ) (old new : Tables) → empty.entries ≡ [] →
    is_some (lookup (is_at (domains.cmp-value.it d)) old) ≡ false →
    ((e : DomainNo) → lookup (is_at (domains.cmp-value.it e)) new ≡ cond (is_at (domains.cmp-value.it d) e) (Some empty)
    (lookup (is_at (domains.cmp-value.it e)) old)) → (e : DomainNo) (key : OwedKey) → due_in new e key ≡ due_in old e key
opened d empty old new none unfound is e key =
    ap (λ (o : Option (BTreeMap OwedKey ℕ)). option_map_or (λ t. due_of t.entries key) o None) (table_moved d (Some empty) old new is e)
    ∙ elim (cases_Bool (d.0 == e.0)) [
      | inl same ↦
          ap (λ b. option_map_or (λ t. due_of t.entries key) (cond b (Some empty) (table_of old e)) None) same
          ∙ ap (λ (es : List (OwedKey × ℕ)). due_of es key) none
          ∙ sym (ap (λ (o : Option (BTreeMap OwedKey ℕ)). option_map_or (λ t. due_of t.entries key) o None)
          (ap (table_of old) (sym (same_domain d e same)) ∙ none_of (table_of old d) (ap is_some (sym (table_found d old)) ∙ unfound)))
      | inr other ↦ ap (λ b. option_map_or (λ t. due_of t.entries key) (cond b (Some empty) (table_of old e)) None) other
    ]
