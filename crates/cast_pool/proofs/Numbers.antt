-- Numbers of domains: which are among others, and that no two are the same.
use Rattle.std.proofs.Common.{◌≡◌, ℕ, zero, suc, Bool, true, false, not, ◌&&◌, ◌||◌, List, [], ◌∷◌, map, Some, refl, sym, ap, ◌∙◌, inl, inr}
use Rattle.std.specs.Prelude.{slice_get}
use Rattle.std.specs.List.{AllZip}
use Rattle.std.specs.Option.{option_map_or}
use Rattle.std.proofs.lemmas.Bool.{cases_Bool, false≢true, false_from_ne_true, and_parts, or_left, or_right, not-true}
use Rattle.cast_types.specs.declared.names.DomainNo.{DomainNo}
use Rattle.cast_events.specs.declared.config.DomainConfig.{DomainConfig}
use Rattle.cast_events.specs.declared.event.Event.{Event}
use Rattle.cast_events.specs.Events.{domain_of}
use Rattle.cast_domain.specs.declared.domain.Domain.{Domain}
use Rattle.cast_domain.specs.Records.{number_of}
use Rattle.cast_table.specs.Tables.{domain_eq}
use Rattle.cast_table.specs.Owns.{is_configured, are_distinct, is_own}
use Rattle.cast_table.proofs.Parts.{same_domain, domain_itself, domain_flipped}
use Rattle.cast_table.proofs.Places.{IsNumbered, none_some, same_some}
use Rattle.cast_pool.specs.Traces.{is_among}

pub domain_swapped : (a b : DomainNo) → domain_eq a b ≡ domain_eq b a
domain_swapped a b =
    elim (cases_Bool (domain_eq a b)) [
      | inl same ↦
          ap (λ d. domain_eq d b) (same_domain a b same) ∙ ap (λ d. domain_eq b d) (sym (same_domain a b same))
      | inr other ↦ other ∙ sym (domain_flipped a b other)
    ]

-- the numbers of domains in order
abbrev pub numbers_in : List Domain → List DomainNo
numbers_in domains = map number_of domains

-- a domain that stands there has its number among them
pub stands_among : (ds : List Domain) (k : ℕ) (d : Domain) → slice_get ds k ≡ Some d → is_among (number_of d) (numbers_in ds) ≡ true
stands_among [] k d stands = absurd (none_some d stands)
stands_among (x ∷ ds) zero d stands =
    or_left (domain_eq (number_of d) (number_of x)) (is_among (number_of d) (numbers_in ds))
    (ap (λ (y : Domain). domain_eq (number_of d) (number_of y)) (same_some x d stands) ∙ domain_itself (number_of d))
stands_among (x ∷ ds) (suc k) d stands =
    or_right (domain_eq (number_of d) (number_of x)) (is_among (number_of d) (numbers_in ds)) (stands_among ds k d stands)

-- one that is among them is none that is not
pub other_number : (n q : DomainNo) (numbers : List DomainNo) → is_among n numbers ≡ false → is_among q numbers ≡ true →
    domain_eq n q ≡ false
other_number n q numbers none there =
    false_from_ne_true (domain_eq n q)
    (λ same. false≢true (sym none ∙ ap (λ d. is_among d numbers) (same_domain n q same) ∙ there))

-- no two of these are the same
abbrev pub are_apart : List DomainNo → Bool
are_apart [] = true
are_apart (d ∷ numbers) = not (is_among d numbers) && are_apart numbers

-- those of a list with no two alike: the first is none of the others
pub first_apart : (d : DomainNo) (numbers : List DomainNo) → are_apart (d ∷ numbers) ≡ true → is_among d numbers ≡ false
first_apart d numbers apart = not-true (is_among d numbers) (and_parts (not (is_among d numbers)) (are_apart numbers) apart).0

pub rest_apart : (d : DomainNo) (numbers : List DomainNo) → are_apart (d ∷ numbers) ≡ true → are_apart numbers ≡ true
rest_apart d numbers apart = (and_parts (not (is_among d numbers)) (are_apart numbers) apart).1

-- Configured domains

pub configured_among : (n : DomainNo) (cs : List DomainConfig) (ds : List Domain) → AllZip IsNumbered cs ds →
    is_among n (numbers_in ds) ≡ is_configured n cs
configured_among n [] [] all = refl
configured_among n [] (d ∷ ds) all = absurd all
configured_among n (c ∷ cs) [] all = absurd all
configured_among n (c ∷ cs) (d ∷ ds) all =
    let first = ap (domain_eq n) all.0 ∙ domain_swapped n c.domain in
    let rest = configured_among n cs ds all.1 in
    λ i. first i || rest i

pub apart_configured : (cs : List DomainConfig) (ds : List Domain) → AllZip IsNumbered cs ds → are_apart (numbers_in ds) ≡ are_distinct cs
apart_configured [] [] all = refl
apart_configured [] (d ∷ ds) all = absurd all
apart_configured (c ∷ cs) [] all = absurd all
apart_configured (c ∷ cs) (d ∷ ds) all =
    let first = configured_among (number_of d) cs ds all.1 ∙ ap (λ n. is_configured n cs) all.0 in
    let rest = apart_configured cs ds all.1 in
    λ i. not (first i) && rest i

-- Which domain's own an event is

pub own_named : (e : Event) (n d : DomainNo) → domain_of e ≡ Some n → is_own d e ≡ domain_eq n d
own_named e n d is = ap (λ o. option_map_or (λ m. domain_eq m d) o true) is
