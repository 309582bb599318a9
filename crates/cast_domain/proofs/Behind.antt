-- A walk over a list by place: what stands at a place, and what is behind it.
use Rattle.std.proofs.Common.{◌≡◌, ℕ, ◌+◌, Bool, true, false, cond, ◌||◌, List, [], ◌∷◌, ◌++◌}
use Rattle.std.proofs.Common.{append_assoc, map, filter, drop, Option, Some, None, refl, sym, ap, ◌∙◌}
use Rattle.std.specs.Prelude.{slice_get}
use Rattle.std.specs.Option.{option_map}
use Rattle.std.specs.List.{list_any}
use Rattle.std.proofs.lemmas.List.{at_drop_more}
use Rattle.cast_types.specs.declared.names.Key.{Key}
use Rattle.cast_types.specs.declared.names.Uid.{Uid}
use Rattle.cast_message.specs.declared.message.Received.{Received}
use Rattle.cast_domain.specs.ReleaseCalls.{keys_passing}
use Rattle.std.proofs.lemmas.Option.{slice_get_within, get_or_from_slice_get}

module _ {X : Type 0} (xs : List X) (i : ℕ) (x : X) (is : slice_get xs i ≡ Some x) where
  pub behind : {Y : Type 0} (f : List X → Y) → f (drop i xs) ≡ f (x ∷ drop (i + 1) xs)
  behind f = at_drop_more f xs i x (slice_get_within xs i x is) ∙ ap (λ y. f (y ∷ drop (i + 1) xs)) (get_or_from_slice_get xs i x x is)

  -- where none before passes
  module _ (test : X → Bool) (before : list_any test (drop i xs) ≡ list_any test xs) where
    pub any_found : test x ≡ true → true ≡ list_any test xs
    any_found passes = sym (ap (λ b. b || list_any test (drop (i + 1) xs)) passes) ∙ sym (behind (list_any test)) ∙ before

    pub any_more : test x ≡ false → list_any test (drop (i + 1) xs) ≡ list_any test xs
    any_more fails = sym (ap (λ b. b || list_any test (drop (i + 1) xs)) fails) ∙ sym (behind (list_any test)) ∙ before

-- the message of an id that is read
pub with_id : (o : Option Received) (id : Uid) → option_map (λ r. r.message.id) o ≡ Some id →
    (r : Received) × (o ≡ Some r) × (r.message.id ≡ id)
with_id None id is = absurd (cc is)
with_id (Some r) id is = (r, refl, cc is)

-- the keys of messages that pass, one more
module _ (passes : Uid → Bool) (kept : List Received) (i : ℕ) (r : Received) (is : slice_get kept i ≡ Some r) (keys : List Key)
    (before : keys ++ keys_passing passes (drop i kept) ≡ keys_passing passes kept) where
  here : (b : Bool) → passes r.message.id ≡ b → keys ++ map (λ x. x.key) (cond b (r ∷ filter (λ x. passes x.message.id) (drop (i + 1) kept))
      (filter (λ x. passes x.message.id) (drop (i + 1) kept))) ≡ keys_passing passes kept
  here b test =
      ap (λ a. keys ++ map (λ (x : Received). x.key) (cond a (r ∷ filter (λ x. passes x.message.id) (drop (i + 1) kept))
      (filter (λ x. passes x.message.id) (drop (i + 1) kept)))) (sym test)
      ∙ sym (behind kept i r is (λ xs. keys ++ keys_passing passes xs))
      ∙ before

  pub keys_found : (new : List Key) → new ≡ keys ++ r.key ∷ [] → passes r.message.id ≡ true →
      new ++ keys_passing passes (drop (i + 1) kept) ≡ keys_passing passes kept
  keys_found new made test =
      ap (λ (ks : List Key). ks ++ keys_passing passes (drop (i + 1) kept)) made
      ∙ append_assoc keys (r.key ∷ []) (keys_passing passes (drop (i + 1) kept))
      ∙ here true test

  pub keys_more : (new : List Key) → new ≡ keys → passes r.message.id ≡ false →
      new ++ keys_passing passes (drop (i + 1) kept) ≡ keys_passing passes kept
  keys_more new same test = ap (λ (ks : List Key). ks ++ keys_passing passes (drop (i + 1) kept)) same ∙ here false test
