-- What a binary search finds among what a site keeps.
use Rattle.std.proofs.Common.{◌≡◌, ℕ, ◌<◌, Bool, true, false, cond, [], ◌∷◌, length, Some, Ok, Err, Equal, refl, ap, ◌∙◌}
use Rattle.std.specs.Prelude.{◌||◌, is_some}
use Rattle.std.specs.List.{list_any}
use Rattle.std.specs.List.Sorted.{IsBinarySearchResult}
use Rattle.std.specs.Ordering.{is_eq}
use Rattle.std.specs.FinMap.Entries.{find, is_sorted}
use Rattle.cast_types.specs.Names.{Entry, entry_eq, entry_cmp}
use Rattle.cast_types.proofs.Orders.{entry_total, entry_exact, entry_itself, same_entry}
use Rattle.std.proofs.lemmas.Cmp.{tied_itself}
use Rattle.cast_types.proofs.Bools.{same_bools}
use Rattle.cast_message.specs.KeptIds.{KeptList}
use Rattle.cast_clock.proofs.Entries.{equal_is}
use Rattle.cast_clock.proofs.Halving.{search_found, search_absent}

-- entries are equal where they tie
tied : (a b : Entry) → entry_eq a b ≡ is_eq (entry_cmp b a)
tied a b =
    same_bools (entry_eq a b) (is_eq (entry_cmp b a))
    (λ same. ap (λ x. is_eq (entry_cmp b x)) (same_entry a b same) ∙ ap is_eq (itself b))
    (λ tie. ap (λ x. entry_eq a x) (entry_exact b a (equal_is (entry_cmp b a) tie)) ∙ entry_itself a)
  where
    itself : (x : Entry) → entry_cmp x x ≡ Equal
    itself x = tied_itself entry_total x

-- an id is kept where it is found among the entries
any_is_found : (e : Entry) (ks : KeptList) → list_any (λ k. entry_eq k.0 e) ks ≡ is_some (find entry_cmp e ks)
any_is_found e [] = refl
any_is_found e (k ∷ ks) =
    ap (λ b. b || list_any (λ x. entry_eq x.0 e) ks) (tied k.0 e)
    ∙ elim (is_eq (entry_cmp e k.0))
    as (λ b. (b || list_any (λ x. entry_eq x.0 e) ks) ≡ is_some (cond b (Some k.1) (find entry_cmp e ks))) [
      | true ↦ refl
      | false ↦ any_is_found e ks
    ]

pub search_keeps : (e : Entry) (ks : KeptList) (i : ℕ) (d : Entry × Bool) → is_sorted entry_cmp ks ≡ true → i < length ks →
    IsBinarySearchResult (λ k. entry_cmp k.0 e) ks (Ok i) → list_any (λ k. entry_eq k.0 e) ks ≡ true
search_keeps e ks i d up within is = any_is_found e ks ∙ ap is_some (search_found entry_cmp entry_total e ks i d up within is)

pub search_lacks : (e : Entry) (ks : KeptList) (i : ℕ) → is_sorted entry_cmp ks ≡ true →
    IsBinarySearchResult (λ k. entry_cmp k.0 e) ks (Err i) → list_any (λ k. entry_eq k.0 e) ks ≡ false
search_lacks e ks i up is = any_is_found e ks ∙ ap is_some (search_absent entry_cmp entry_total e ks i up is)
