-- A change of one domain's part leaves the parts of the others.
use Rattle.std.proofs.Common.{◌≡◌, ◌≢◌, true, false, refl}
use Rattle.std.specs.Prelude.{◌==◌, if◌then◌else◌}
use Rattle.std.proofs.lemmas.Bool.{false≢true, eq-eqb}
use Rattle.cast_types.specs.declared.names.DomainNo.{DomainNo}
use Rattle.cast_domain.specs.declared.shared.Shared.{Shared}
use Rattle.cast_domain.specs.Shared.{Part, no_part, part_of, rest_of, LeavesOthers}
use Rattle.std.proofs.Common.{sym, ap, ◌∙◌}

-- what leaves the part of each other domain leaves the others
pub leaves : (d : DomainNo) (old new : Shared) → ((e : DomainNo) → e ≢ d → part_of e new ≡ part_of e old) → LeavesOthers d old new
leaves d old new same = λ i e. at e i
  where
    at : (e : DomainNo) → rest_of d new e ≡ rest_of d old e
    at e = elim (e.0 == d.0) as (λ b. e.0 == d.0 ≡ b → (if b then no_part else part_of e new) ≡ (if b then no_part else part_of e old)) [
      | true ↦ λ _. refl
      | false ↦ λ other. same e (λ is. false≢true (sym other ∙ eq-eqb e.0 d.0 (ap (λ (x : DomainNo). x.0) is)))
    ] refl

-- and the part of each other domain stays
pub others_part : (d e : DomainNo) (old new : Shared) → LeavesOthers d old new → e.0 == d.0 ≡ false → part_of e new ≡ part_of e old
others_part d e old new leaves other =
    ap (λ b. if b then no_part else part_of e new) (sym other)
    ∙ ap (λ (parts : DomainNo → Part). parts e) leaves
    ∙ ap (λ b. if b then no_part else part_of e old) other
