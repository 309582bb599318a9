-- What the standard library's maps and sets say, in the words of lists.
use Rattle.std.proofs.Common.{◌≡◌, List, [], ◌∷◌, cond, Some, Ordering, Less, Equal, Greater, refl, sym, ap, ◌∙◌}
use Rattle.std.specs.BTreeMap.{is_at, insert_entry}
use Rattle.std.specs.BTreeSet.{insert_key}
use Rattle.std.specs.Cmp.{IsTotalOrder}
use Rattle.std.specs.FinMap.Entries.{by_order, find, put}
use Rattle.std.specs.List.Sorted.{IsStrictlySortedBy}
use Rattle.std.specs.Map.{keys_of, lookup, set_value}
use Rattle.std.specs.Ordering.{is_eq, match_ordering}
use Rattle.std.proofs.lemmas.Map.{lookup-none}
use Rattle.std.proofs.lemmas.Map.Entries.{none_below_head}
use Rattle.std.proofs.lemmas.Map.Keys.{sorted_tail}
use Rattle.std.proofs.lemmas.Option.{none-some}
use Rattle.cast_types.specs.Sets.{with_item, at_order}

module _ {K V : Type 0} (R : K → K → Ordering) where
  -- what is looked up is found
  pub lookup_finds : (q : K) (es : List (K × V)) → lookup (is_at (R q)) es ≡ find R q es
  lookup_finds q [] = refl
  lookup_finds q (e ∷ es) = ap (cond (is_at (R q) e.0) (Some e.1)) (lookup_finds q es)

  -- what is inserted is put
  pub insert_puts : (k : K) (v : V) (es : List (K × V)) → insert_entry R es k v ≡ put R k v es
  insert_puts k v [] = refl
  insert_puts k v (e ∷ es) =
      elim (R k e.0) as (λ o. match_ordering o ((k, v) ∷ e ∷ es) ((e.0, v) ∷ es) (e ∷ insert_entry R es k v)
      ≡ by_order o ((k, v) ∷ e ∷ es) ((e.0, v) ∷ es) (e ∷ put R k v es)) [
        | Less ↦ refl
        | Equal ↦ refl
        | Greater ↦ ap (λ rest. e ∷ rest) (insert_puts k v es)
      ]

  -- and so is what is written at a key that stands there
  pub set_puts : IsTotalOrder R → (k : K) (v w : V) (es : List (K × V)) → IsStrictlySortedBy R (keys_of es) →
      lookup (is_at (R k)) es ≡ Some v → set_value (is_at (R k)) es w ≡ put R k w es
  set_puts total k v w [] sorted found = absurd (none-some v found)
  set_puts total k v w (e ∷ es) sorted found =
      elim (R k e.0) as (λ o. R k e.0 ≡ o → cond (is_eq o) (Some e.1) (lookup (is_at (R k)) es) ≡ Some v →
      cond (is_eq o) ((e.0, w) ∷ es) (e ∷ set_value (is_at (R k)) es w) ≡ by_order o ((k, w) ∷ e ∷ es) ((e.0, w) ∷ es) (e ∷ put R k w es)) [
        | Less ↦
            λ below _. absurd (none-some v (sym (lookup-none (is_at (R k)) (e ∷ es) (none_below_head total k e es sorted below)) ∙ found))
        | Equal ↦ λ _ _. refl
        | Greater ↦ λ _ later. ap (λ rest. e ∷ rest) (set_puts total k v w es (sorted_tail R e.0 (keys_of es) sorted) later)
      ] refl found

-- a key is inserted where it is added
pub insert_key_adds : {K : Type 0} (R : K → K → Ordering) (k : K) (ks : List K) → insert_key R ks k ≡ with_item R k ks
insert_key_adds R k [] = refl
insert_key_adds R k (x ∷ xs) =
    elim (R k x)
    as (λ o. match_ordering o (k ∷ x ∷ xs) (x ∷ xs) (x ∷ insert_key R xs k) ≡ at_order o (k ∷ x ∷ xs) (x ∷ xs) (x ∷ with_item R k xs)) [
      | Less ↦ refl
      | Equal ↦ refl
      | Greater ↦ ap (λ ys. x ∷ ys) (insert_key_adds R k xs)
    ]
