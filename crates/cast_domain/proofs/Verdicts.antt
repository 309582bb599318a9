-- What an Install does, by its verdict.
use Rattle.std.proofs.Common.{◌≡◌, ℕ, true, sym, ap, ◌∙◌}
use Rattle.std.specs.Prelude.{if◌then◌else◌}
use Rattle.cast_types.specs.declared.names.SiteNo.{SiteNo}
use Rattle.cast_types.specs.Counts.{CountList}
use Rattle.cast_message.specs.Membership.{Membership}
use Rattle.cast_message.specs.Tail.{Tail}
use Rattle.cast_view.specs.declared.member.Verdict.{Verdict}
use Rattle.cast_view.specs.MemberSide.{verdict_of}
use Rattle.cast_rules.specs.Rules.Asking.{is_from_home}
use Rattle.cast_rules.specs.Rules.Interface.{Site}
use Rattle.cast_rules.specs.Rules.Views.{on_install}
use Rattle.cast_rules.proofs.Rules.Views.{by_verdict_of}

-- one from the home does what its verdict says
pub installs_by : {S H : Type 0} (d : Site S H) (s : S) (h : H) (from : SiteNo) (n : ℕ) (members : Membership) (request : ℕ)
    (cut : CountList) (tail : Tail) (v : Verdict) → is_from_home d s from ≡ true → verdict_of (d.group s h) n ≡ v →
    on_install d s h from n members request cut tail ≡ by_verdict_of d s h from n members request cut tail v
installs_by d s h from n members request cut tail v home is =
    ap (λ b. if b then by_verdict_of d s h from n members request cut tail (verdict_of (d.group s h) n) else s) home
    ∙ ap (by_verdict_of d s h from n members request cut tail) is

-- what leads to what its verdict says is what an Install of the home leads to
pub installed_by : {S H : Type 0} (d : Site S H) (s : S) (h : H) (from : SiteNo) (n : ℕ) (members : Membership) (request : ℕ)
    (cut : CountList) (tail : Tail) (v : Verdict) (new : S) → is_from_home d s from ≡ true → verdict_of (d.group s h) n ≡ v →
    new ≡ by_verdict_of d s h from n members request cut tail v → new ≡ on_install d s h from n members request cut tail
installed_by d s h from n members request cut tail v new home is made =
    made ∙ sym (installs_by d s h from n members request cut tail v home is)
