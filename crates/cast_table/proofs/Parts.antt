-- Numbers of domains, and which events are a domain's own.
use Rattle.std.proofs.Common.{◌≡◌, ℕ, true, false, Some, None, refl, sym, ap, ◌∙◌}
use Rattle.std.specs.Option.{option_map_or}
use Rattle.std.proofs.lemmas.Bool.{eqb-true, eq-eqb, false≢true, false_from_ne_true}
use Rattle.cast_types.specs.declared.names.DomainNo.{DomainNo}
use Rattle.cast_events.specs.declared.event.Event.{Event}
use Rattle.cast_events.specs.Events.{domain_of}
use Rattle.cast_table.specs.Tables.{domain_eq}
use Rattle.cast_table.specs.Owns.{names, is_own}

pub same_domain : (a b : DomainNo) → domain_eq a b ≡ true → a ≡ b
same_domain a b h = ap (λ (n : ℕ). record { 0 = n }) (eqb-true a.0 b.0 h)

pub domain_itself : (a : DomainNo) → domain_eq a a ≡ true
domain_itself a = eq-eqb a.0 a.0 refl

pub domain_flipped : (a b : DomainNo) → domain_eq a b ≡ false → domain_eq b a ≡ false
domain_flipped a b h =
    false_from_ne_true (domain_eq b a) (λ e. false≢true (sym h ∙ ap (domain_eq a) (same_domain b a e) ∙ domain_itself a))

-- which events are a domain's own

pub named_own : (d : DomainNo) (e : Event) → names d e ≡ true → is_own d e ≡ true
named_own d e named =
    elim (domain_of e) as (λ o. option_map_or (λ n. domain_eq n d) o false ≡ true → option_map_or (λ n. domain_eq n d) o true ≡ true) [
      | None ↦ λ wrong. absurd (false≢true wrong)
      | Some n ↦ λ same. same
    ] named

pub other_unnamed : (d : DomainNo) (e : Event) → is_own d e ≡ false → names d e ≡ false
other_unnamed d e other =
    false_from_ne_true (names d e) (λ named. false≢true (sym other ∙ named_own d e named))
