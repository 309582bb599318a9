-- Of what bears the numbers of domains, what bears one domain's.
use Rattle.std.proofs.Common.{◌≡◌, ℕ, zero, suc, Bool, true, false, cond, List, [], ◌∷◌, ◌++◌, map, Some, refl, ap, ◌∙◌}
use Rattle.std.specs.Prelude.{filter, slice_get}
use Rattle.std.proofs.lemmas.List.{map-append}
use Rattle.std.proofs.lemmas.List.Elements.{filter-append}
use Rattle.cast_types.specs.declared.names.DomainNo.{DomainNo}
use Rattle.cast_domain.specs.Fits.{with_domain}
use Rattle.cast_table.specs.Tables.{domain_eq}
use Rattle.cast_table.proofs.Parts.{domain_itself}
use Rattle.cast_table.proofs.Places.{none_some, same_some}
use Rattle.cast_sites.specs.Daemons.{in_domain, paired}

-- what bears the number, with it
abbrev bearing : {X : Type 0} → DomainNo → List (DomainNo × X) → List (DomainNo × X)
bearing d xs = filter (λ x. domain_eq x.0 d) xs

abbrev untagged : {X : Type 0} → List (DomainNo × X) → List X
untagged xs = map (λ x. x.1) xs

pub in_more : {X : Type 0} (d : DomainNo) (xs ys : List (DomainNo × X)) → in_domain d (xs ++ ys) ≡ in_domain d xs ++ in_domain d ys
in_more {X} d xs ys =
    ap untagged (filter-append (λ (x : DomainNo × X). domain_eq x.0 d) xs ys)
    ∙ map-append (λ (x : DomainNo × X). x.1) (bearing d xs) (bearing d ys)

-- the first of them bears the number, or it does not

first_in : {X : Type 0} (d q : DomainNo) (x : X) (xs : List (DomainNo × X)) → domain_eq q d ≡ true →
    in_domain d ((q, x) ∷ xs) ≡ x ∷ in_domain d xs
first_in d q x xs same = ap (λ b. untagged (cond b ((q, x) ∷ bearing d xs) (bearing d xs))) same

first_not_in : {X : Type 0} (d q : DomainNo) (x : X) (xs : List (DomainNo × X)) → domain_eq q d ≡ false →
    in_domain d ((q, x) ∷ xs) ≡ in_domain d xs
first_not_in d q x xs other = ap (λ b. untagged (cond b ((q, x) ∷ bearing d xs) (bearing d xs))) other

-- Of what came of events

abbrev pub given_in : {A B : Type 0} → DomainNo → List (DomainNo × A × B) → List (A × B)
given_in d xs = in_domain d (paired xs)

pub given_more : {A B : Type 0} (d : DomainNo) (xs ys : List (DomainNo × A × B)) → given_in d (xs ++ ys) ≡ given_in d xs ++ given_in d ys
given_more {A} {B} d xs ys =
    ap (λ (zs : List (DomainNo × (A × B))). in_domain d zs) (map-append (λ (x : DomainNo × A × B). (x.0, (x.1, x.2))) xs ys)
    ∙ in_more d (paired xs) (paired ys)

-- of what bears one number, all is that domain's, and none another's

pub given_own : {A B : Type 0} (d : DomainNo) (xs : List (A × B)) → given_in d (with_domain d xs) ≡ xs
given_own d [] = refl
given_own {A} {B} d (x ∷ xs) =
    first_in d d x (paired (with_domain d xs)) (domain_itself d) ∙ ap (λ (later : List (A × B)). x ∷ later) (given_own d xs)

pub given_other : {A B : Type 0} (d q : DomainNo) (xs : List (A × B)) → domain_eq d q ≡ false → given_in q (with_domain d xs) ≡ []
given_other d q [] other = refl
given_other {A} {B} d q (x ∷ xs) other = first_not_in q d x (paired (with_domain d xs)) other ∙ given_other d q xs other

-- what is made of each
pub given_mapped : {A B Y : Type 0} (f : A × B → Y) (d : DomainNo) (xs : List (DomainNo × A × B)) →
    in_domain d (map (λ x. (x.0, f (x.1, x.2))) xs) ≡ map f (given_in d xs)
given_mapped f d [] = refl
given_mapped {A} {B} {Y} f d (x ∷ xs) = go (domain_eq x.0 d) (given_mapped f d xs)
  where
    made : List (DomainNo × Y)
    made = map (λ y. (y.0, f (y.1, y.2))) xs

    go : (b : Bool) → in_domain d made ≡ map f (given_in d xs) →
        untagged (cond b ((x.0, f (x.1, x.2)) ∷ bearing d made) (bearing d made))
        ≡ map f (untagged (cond b ((x.0, (x.1, x.2)) ∷ bearing d (paired xs)) (bearing d (paired xs))))
    go true later = ap (λ ys. f (x.1, x.2) ∷ ys) later
    go false later = later

-- what stands at a place among all stands at a place among its domain's
pub in_place : {X : Type 0} (d q : DomainNo) (x : X) (xs : List (DomainNo × X)) (k : ℕ) → domain_eq q d ≡ true →
    slice_get xs k ≡ Some (q, x) → (j : ℕ) × (slice_get (in_domain d xs) j ≡ Some x)
in_place d q x [] k same at = absurd (none_some (q, x) at)
in_place {X} d q x (y ∷ xs) zero same at = (
  0,
  ap (λ (z : DomainNo × X). slice_get (in_domain d (z ∷ xs)) 0) (same_some y (q, x) at)
      ∙ ap (λ (ys : List X). slice_get ys 0) (first_in d q x xs same),
)
in_place {X} d q x (y ∷ xs) (suc k) same at = go (domain_eq y.0 d) (in_place d q x xs k same at)
  where
    go : (b : Bool) → (j : ℕ) × (slice_get (in_domain d xs) j ≡ Some x) →
        (j : ℕ) × (slice_get (untagged (cond b (y ∷ bearing d xs) (bearing d xs))) j ≡ Some x)
    go true (j, stands) = (suc j, stands)
    go false later = later
