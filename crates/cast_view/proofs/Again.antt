-- What a site is told again changes nothing.
use Rattle.std.proofs.Common.{◌≡◌, ℕ, ◌+◌, Bool, true, false, not, None, refl, ap, arith}
use Rattle.std.specs.Prelude.{nat_lt, nat_le, if◌then◌else◌}
use Rattle.std.proofs.lemmas.Bool.{le-ltb, ltb-false}
use Rattle.cast_view.specs.declared.member.Pending.{Pending}
use Rattle.cast_view.specs.declared.member.Verdict.{Verdict}
use Rattle.cast_view.specs.declared.member.Verdict.TheVariants.{Again, Skips, Completes, Pends, Ignored}
use Rattle.cast_view.specs.Laws.{PreparesOnce, InstallsOnce, OutsOnce}
use Rattle.cast_view.specs.MemberSide.{MemberSide, has_view, answers_prepare, verdict_of, with_pending, with_end}

abbrev frozen_now : MemberSide → MemberSide
frozen_now g = record g { frozen = true }

-- what a Prepare makes of a group, by whether it is answered
abbrev freezing : MemberSide → Bool → MemberSide
freezing g b = if b then frozen_now g else g

pub prepares_once : PreparesOnce
prepares_once g view =
    elim (answers_prepare g view)
    as (λ b. answers_prepare g view ≡ b → freezing (freezing g b) (answers_prepare (freezing g b) view) ≡ freezing g b) [
      | true ↦ λ is. ap (freezing (frozen_now g)) is
      | false ↦ λ is. ap (freezing g) is
    ] refl

-- what an Install makes of a group, by what the site does with it
abbrev taking : MemberSide → Pending → Verdict → MemberSide
taking g p v = elim v [ Again ↦ g | Skips ↦ g | Completes ↦ g | Pends ↦ with_pending g p | Ignored ↦ g ]

-- where one waits, none is to wait
waits_already : (reached skips none : Bool) (g : MemberSide) (p : Pending)
    → taking g p (if reached then Again else if skips then Skips else if none then Completes else Ignored) ≡ g
waits_already true skips none g p = refl
waits_already false true none g p = refl
waits_already false false true g p = refl
waits_already false false false g p = refl

pub installs_once : InstallsOnce
installs_once g n p q =
    elim (verdict_of g n) as (λ v. verdict_of g n ≡ v → taking (taking g p v) q (verdict_of (taking g p v) n) ≡ taking g p v) [
      | Again ↦ λ is. ap (taking g q) is
      | Skips ↦ λ is. ap (taking g q) is
      | Completes ↦ λ is. ap (taking g q) is
      | Pends ↦ λ is. waits_already (nat_le n g.number) (nat_lt (g.number + 1) n) (not (has_view g)) (with_pending g p) q
      | Ignored ↦ λ is. ap (taking g q) is
    ] refl

-- what an Out makes of a group, by whether it counts
abbrev ending : MemberSide → ℕ → Bool → MemberSide
ending g n b = if b then with_end g n None else g

pub outs_once : OutsOnce
outs_once g n m below =
    elim (nat_lt g.number n) as (λ b. nat_lt g.number n ≡ b → ending (ending g n b) m (nat_lt (ending g n b).number m) ≡ ending g n b) [
      | true ↦ λ _. ap (ending (with_end g n None) m) (le-ltb n m below)
      | false ↦ λ reached. ap (ending g m) (le-ltb g.number m (omega (arith, below, ltb-false g.number n reached)))
    ] refl
