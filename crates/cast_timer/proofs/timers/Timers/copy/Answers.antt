use Rattle.std.proofs.Common.{◌≡◌, ℕ, Bool, true, false, cond, List, [], ◌∷◌, Some, None, refl, subst, sym, ap, ◌∙◌}
use Rattle.std.specs.Prelude.{◌==◌}
use Rattle.std.specs.Option.{option_map_or}
use Rattle.std.specs.List.{AllZip}
use Rattle.cast_types.specs.declared.names.DomainNo.{DomainNo}
use Rattle.cast_timer.specs.declared.key.OwedKey.{OwedKey}
use Rattle.cast_timer.specs.Rows.{Row}
use Rattle.cast_timer.specs.Index.{due_of, due_in, table_of, IsIndexed}
use Rattle.cast_timer.proofs.Tables.{Tables, indexed_same}
use Rattle.cast_timer.proofs.timers.Timers.copy.Goals as goal

-- items that are each equal
all_same : {X : Type 0} (E : X → X → Type 0) → ((x y : X) → E x y → y ≡ x) → (xs ys : List X) → AllZip E xs ys → ys ≡ xs
all_same E same [] [] all = refl
all_same E same [] (y ∷ ys) all = absurd all
all_same E same (x ∷ xs) [] all = absurd all
all_same E same (x ∷ xs) (y ∷ ys) all = λ i. same x y all.0 i ∷ all_same E same xs ys all.1 i

same_rows : (rows copy : List Row) → AllZip (λ r s. (s.0 ≡ r.0) × AllZip (λ k l. l ≡ k) r.1.keys s.1.keys) rows copy → copy ≡ rows
same_rows = all_same (λ r s. (s.0 ≡ r.0) × AllZip (λ k l. l ≡ k) r.1.keys s.1.keys)
    (λ r s same i. (same.0 i, record { keys = all_same (λ k l. l ≡ k) (λ k l e. e) r.1.keys s.1.keys same.1 i }))

same_dues : (dues copy : List (OwedKey × ℕ)) → AllZip (λ e f. (f.0 ≡ e.0) × (f.1 ≡ e.1)) dues copy → copy ≡ dues
same_dues = all_same (λ e f. (f.0 ≡ e.0) × (f.1 ≡ e.1)) (λ e f same i. (same.0 i, same.1 i))

same_moments : (tables copy : Tables) →
    AllZip (λ t u. (u.0 ≡ t.0) × AllZip (λ e f. (f.0 ≡ e.0) × (f.1 ≡ e.1)) t.1.entries u.1.entries) tables copy →
    (d : DomainNo) (key : OwedKey) → due_in copy d key ≡ due_in tables d key
same_moments [] [] all d key = refl
same_moments [] (u ∷ us) all d key = absurd all
same_moments (t ∷ ts) [] all d key = absurd all
same_moments (t ∷ ts) (u ∷ us) all d key =
    ap (λ (e : DomainNo). option_map_or (λ m. due_of m.entries key) (cond (d.0 == e.0) (Some u.1) (table_of us d)) None) all.0.0
    ∙ either (d.0 == t.0.0) (same_moments ts us all.1 d key)
  where
    either : (b : Bool) → due_in us d key ≡ due_in ts d key → option_map_or (λ m. due_of m.entries key) (cond b (Some u.1) (table_of us d))
        None ≡ option_map_or (λ m. due_of m.entries key) (cond b (Some t.1) (table_of ts d)) None
    either true rest = ap (λ (es : List (OwedKey × ℕ)). due_of es key) (same_dues t.1.entries u.1.entries all.0.1)
    either false rest = rest

pub invariant_of-result : goal.invariant_of-result
invariant_of-result c =
    let s = c.self.inside in
    let rows = same_rows s.moments.entries c.in_ok-clone.field-0.entries c.in_ok-clone.ensures.cases in
    subst (λ (rows : List Row). IsIndexed rows c.in_ok-clone-2.field-0.entries) (sym rows)
    (indexed_same s.moments.entries s.dues.entries c.in_ok-clone-2.field-0.entries c.self.invariant
    (same_moments s.dues.entries c.in_ok-clone-2.field-0.entries c.in_ok-clone-2.ensures.cases))

pub returns : goal.returns
returns c = same_rows c.self.inside.moments.entries c.in_ok-clone.field-0.entries c.in_ok-clone.ensures.cases ∙ c.self.view_is
