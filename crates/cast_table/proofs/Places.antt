-- Where domains stand in a table.
use Rattle.std.proofs.Common.{◌≡◌, ℕ, zero, suc, ◌+◌, ◌<◌, Bool, true, false, cond, List, [], ◌∷◌, ◌++◌}
use Rattle.std.proofs.Common.{length, take, get_or, Option, Some, None, unwrap_or, refl, sym, ap, ◌∙◌, arith}
use Rattle.std.specs.Prelude.{nat_eq, slice_get}
use Rattle.std.specs.List.{find, position_from}
use Rattle.std.specs.Option.{option_map, option_map_or}
use Rattle.std.proofs.lemmas.List.{take_more, length-take-le}
use Rattle.std.proofs.lemmas.List.Quantifiers.{position-Some}
use Rattle.std.proofs.lemmas.Iterator.Adapters.{position_from-zero}
use Rattle.indexmap.specs.IndexMap.{IndexMap, get as place_at}
use Rattle.cast_types.specs.declared.names.DomainNo.{DomainNo}
use Rattle.cast_events.specs.declared.config.DomainConfig.{DomainConfig}
use Rattle.cast_domain.specs.declared.domain.Domain.{Domain}
use Rattle.cast_domain.specs.Records.{number_of}
use Rattle.cast_table.specs.Tables.{ArePlaces, domain_eq, place_named}
use Rattle.cast_table.proofs.Parts.{same_domain}

-- what is read at a place stands there
pub stands_at : {X : Type 0} (xs : List X) (i : ℕ) (x : X) → i < length xs → x ≡ get_or xs i x → slice_get xs i ≡ Some x
stands_at [] i x below read = absurd (omega arith)
stands_at (y ∷ xs) zero x below read = ap Some (sym read)
stands_at (y ∷ xs) (suc i) x below read = stands_at xs i x (omega arith) read

pub none_some : {X : Type 0} (x : X) → None ≡ Some x → ⊥
none_some x e = cc

pub same_some : {X : Type 0} (x y : X) → Some x ≡ Some y → x ≡ y
same_some x y e = cc

pub read_at : {X : Type 0} (xs : List X) (k : ℕ) (x d : X) → slice_get xs k ≡ Some x → get_or xs k d ≡ x
read_at [] k x d stands = absurd (none_some x stands)
read_at (y ∷ xs) zero x d stands = same_some y x stands
read_at (y ∷ xs) (suc k) x d stands = read_at xs k x d stands

-- the domain at the place that was found has the number
pub named_there : (n : DomainNo) (ds : List Domain) (place : ℕ) (d : Domain) → Some place ≡ place_named n ds → slice_get ds place ≡ Some d →
    number_of d ≡ n
named_there n ds place d found stands =
    let test : Domain → Bool = λ x. domain_eq (number_of x) n in
    let first = position-Some test ds place d (position_from-zero test ds ∙ sym found) in
    same_domain (number_of d) n (ap test (sym (read_at ds place d d stands)) ∙ first.1)

-- it is a place of the list

found_within : {X : Type 0} (test : X → Bool) (k i : ℕ) (xs : List X) → Some i ≡ position_from test k xs → i < k + length xs
found_within test k i [] found = absurd (none_some i (sym found))
found_within test k i (x ∷ xs) found = go (test x) found (found_within test (k + 1) i xs)
  where
    go : (b : Bool) → Some i ≡ cond b (Some k) (position_from test (k + 1) xs) →
        (Some i ≡ position_from test (k + 1) xs → i < k + 1 + length xs) → i < k + suc (length xs)
    go true here later = let same = same_some i k here in omega (arith, same)
    go false there later = let within = later there in omega (arith, within)

pub named_within : (n : DomainNo) (ds : List Domain) (place : ℕ) → Some place ≡ place_named n ds → place < length ds
named_within n ds place found =
    let within = found_within (λ (d : Domain). domain_eq (number_of d) n) 0 place ds found in
    omega (arith, within)

-- what stands there is the first domain of the number

found_shifted : {X : Type 0} (test : X → Bool) (k : ℕ) (xs : List X) →
    position_from test (k + 1) xs ≡ option_map suc (position_from test k xs)
found_shifted test k [] = refl
found_shifted test k (x ∷ xs) = go (test x) (found_shifted test (k + 1) xs)
  where
    go : (b : Bool) → position_from test (k + 1 + 1) xs ≡ option_map suc (position_from test (k + 1) xs) →
        cond b (Some (k + 1)) (position_from test (k + 1 + 1) xs) ≡ option_map suc (cond b (Some k) (position_from test (k + 1) xs))
    go true later = ap Some (omega arith)
    go false later = later

-- the domain that stands at a place
abbrev standing_at : Option ℕ → List Domain → Option Domain
standing_at place ds = option_map_or (λ i. slice_get ds i) place None

behind_first : (d : Domain) (ds : List Domain) (place : Option ℕ) → standing_at (option_map suc place) (d ∷ ds) ≡ standing_at place ds
behind_first d ds None = refl
behind_first d ds (Some i) = refl

first_named : (n : DomainNo) (ds : List Domain) → standing_at (place_named n ds) ds ≡ find (λ d. domain_eq (number_of d) n) ds
first_named n [] = refl
first_named n (d ∷ ds) = go (domain_eq (number_of d) n) (first_named n ds)
  where
    test : Domain → Bool
    test x = domain_eq (number_of x) n

    go : (b : Bool) → standing_at (place_named n ds) ds ≡ find test ds →
        standing_at (cond b (Some 0) (position_from test 1 ds)) (d ∷ ds) ≡ cond b (Some d) (find test ds)
    go true later = refl
    go false later = ap (λ place. standing_at place (d ∷ ds)) (found_shifted test 0 ds) ∙ behind_first d ds (place_named n ds) ∙ later

module _ {S : Type 0} (places : IndexMap ℕ ℕ S) (ds : List Domain) (are : ArePlaces places ds) (n : DomainNo) where
  pub first_kept : (i : ℕ) → Some i ≡ place_at nat_eq places n.0 → slice_get ds i ≡ find (λ d. domain_eq (number_of d) n) ds
  first_kept i kept = ap (λ place. standing_at place ds) (kept ∙ are n) ∙ first_named n ds

  pub none_kept : None ≡ place_at nat_eq places n.0 → None ≡ find (λ d. domain_eq (number_of d) n) ds
  none_kept kept = ap (λ place. standing_at place ds) (kept ∙ are n) ∙ first_named n ds

-- one more domain is the first of its number where none before it has it

found_more : {X : Type 0} (test : X → Bool) (k : ℕ) (xs : List X) (x : X) → position_from test k (xs ++ x ∷ []) ≡ cond (test x)
    (Some (unwrap_or (position_from test k xs) (k + length xs))) (position_from test k xs)
found_more test k [] x = ap (λ j. cond (test x) (Some j) None) (omega arith)
found_more test k (y ∷ xs) x = go (test y) (test x) (found_more test (k + 1) xs x)
  where
    go : (b c : Bool) → position_from test (k + 1) (xs ++ x ∷ [])
        ≡ cond c (Some (unwrap_or (position_from test (k + 1) xs) (k + 1 + length xs))) (position_from test (k + 1) xs) →
        cond b (Some k) (position_from test (k + 1) (xs ++ x ∷ []))
        ≡ cond c (Some (unwrap_or (cond b (Some k) (position_from test (k + 1) xs)) (k + suc (length xs))))
        (cond b (Some k) (position_from test (k + 1) xs))
    go true true later = refl
    go true false later = refl
    go false c later =
        later ∙ ap (λ j. cond c (Some (unwrap_or (position_from test (k + 1) xs) j)) (position_from test (k + 1) xs)) (omega arith)

pub named_more : (n : DomainNo) (ds : List Domain) (i : ℕ) (d : Domain) → i < length ds → d ≡ get_or ds i d → place_named n
    (take (i + 1) ds) ≡ cond (domain_eq (number_of d) n) (Some (unwrap_or (place_named n (take i ds)) i)) (place_named n (take i ds))
named_more n ds i d below read =
    let test : Domain → Bool = λ x. domain_eq (number_of x) n in
    ap (place_named n) (take_more ds i d below ∙ ap (λ x. take i ds ++ x ∷ []) (sym read))
    ∙ found_more test 0 (take i ds) d
    ∙ ap (λ j. cond (test d) (Some (unwrap_or (place_named n (take i ds)) j)) (place_named n (take i ds)))
    (omega (arith, length-take-le i ds (omega arith)))

abbrev pub IsNumbered : DomainConfig → Domain → Type 0
IsNumbered c d = number_of d ≡ c.domain
