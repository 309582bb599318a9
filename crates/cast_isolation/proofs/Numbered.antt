-- Domains that stand in a table, one for each configuration.
use Rattle.std.proofs.Common.{◌≡◌, ℕ, zero, suc, ◌+◌, true, false, cond, List, [], ◌∷◌}
use Rattle.std.proofs.Common.{Some, None, slice_set, refl, sym, ap, subst, ◌∙◌, inl, inr}
use Rattle.std.specs.Prelude.{slice_get}
use Rattle.std.specs.List.{AllZip, position_from}
use Rattle.std.proofs.lemmas.Bool.{cases_Bool, or_left, or_right}
use Rattle.cast_types.specs.declared.names.DomainNo.{DomainNo}
use Rattle.cast_events.specs.declared.config.DomainConfig.{DomainConfig}
use Rattle.cast_domain.specs.declared.domain.Domain.{Domain}
use Rattle.cast_domain.specs.Records.{number_of}
use Rattle.cast_table.specs.Tables.{domain_eq}
use Rattle.cast_table.specs.Owns.{is_configured}
use Rattle.cast_table.proofs.Parts.{domain_itself}
use Rattle.cast_table.proofs.Places.{IsNumbered, none_some, same_some}

-- a domain that stands in the table is configured
pub configured_at : (cs : List DomainConfig) (ds : List Domain) (k : ℕ) (d : Domain) → AllZip IsNumbered cs ds → slice_get ds k ≡ Some d →
    is_configured (number_of d) cs ≡ true
configured_at [] [] k d numbers stands = absurd (none_some d stands)
configured_at [] (x ∷ ds) k d numbers stands = absurd numbers
configured_at (c ∷ cs) [] k d numbers stands = absurd numbers
configured_at (c ∷ cs) (x ∷ ds) zero d numbers stands =
    or_left (domain_eq c.domain (number_of d)) (is_configured (number_of d) cs)
    (ap (λ n. domain_eq n (number_of d)) (sym numbers.0 ∙ ap number_of (same_some x d stands)) ∙ domain_itself (number_of d))
configured_at (c ∷ cs) (x ∷ ds) (suc k) d numbers stands =
    or_right (domain_eq c.domain (number_of d)) (is_configured (number_of d) cs) (configured_at cs ds k d numbers.1 stands)

-- where none is found, none is configured
pub none_configured : (n : DomainNo) (i : ℕ) (cs : List DomainConfig) (ds : List Domain) → AllZip IsNumbered cs ds →
    None ≡ position_from (λ d. domain_eq (number_of d) n) i ds → is_configured n cs ≡ false
none_configured n i [] [] numbers none = refl
none_configured n i [] (d ∷ ds) numbers none = absurd numbers
none_configured n i (c ∷ cs) [] numbers none = absurd numbers
none_configured n i (c ∷ cs) (d ∷ ds) numbers none =
    elim (cases_Bool (domain_eq (number_of d) n)) [
      | inl named ↦
          absurd (none_some i (none ∙ ap (λ b. cond b (Some i) (position_from (λ d. domain_eq (number_of d) n) (i + 1) ds)) named))
      | inr other ↦
          let later =
          none_configured n (i + 1)
          cs ds numbers.1 (none ∙ ap (λ b. cond b (Some i) (position_from (λ d. domain_eq (number_of d) n) (i + 1) ds)) other) in
          let here : domain_eq c.domain n ≡ false = ap (λ m. domain_eq m n) (sym numbers.0) ∙ other in
          cc
    ]

pub numbered_set : (cs : List DomainConfig) (ds : List Domain) (k : ℕ) (d new : Domain) → AllZip IsNumbered cs ds →
    slice_get ds k ≡ Some d → number_of new ≡ number_of d → AllZip IsNumbered cs (slice_set ds k new)
numbered_set [] [] k d new numbers stands number = numbers
numbered_set [] (x ∷ ds) k d new numbers stands number = absurd numbers
numbered_set (c ∷ cs) [] k d new numbers stands number = absurd numbers
numbered_set (c ∷ cs) (x ∷ ds) zero d new numbers stands number =
    (number ∙ sym (ap number_of (same_some x d stands)) ∙ numbers.0, numbers.1)
numbered_set (c ∷ cs) (x ∷ ds) (suc k) d new numbers stands number = (numbers.0, numbered_set cs ds k d new numbers.1 stands number)

-- what holds of each configuration and its domain holds of a domain of the table and one of the configurations
pub zip_at : {C D : Type 0} (P : C → D → Type 0) (cs : List C) (ds : List D) (k : ℕ) (d : D) → AllZip P cs ds → slice_get ds k ≡ Some d →
    (c : C) × P c d
zip_at P [] [] k d all stands = absurd (none_some d stands)
zip_at P [] (x ∷ ds) k d all stands = absurd all
zip_at P (c ∷ cs) [] k d all stands = absurd all
zip_at P (c ∷ cs) (x ∷ ds) zero d all stands = (c, subst (P c) (same_some x d stands) all.0)
zip_at P (c ∷ cs) (x ∷ ds) (suc k) d all stands = zip_at P cs ds k d all.1 stands
