use Rattle.std.proofs.Common.{◌≡◌, List, [], ◌∷◌, length, ◌∙◌, refl, sym, ap, true, false, arith}
use Rattle.std.specs.Prelude.{◌==◌, if◌then◌else◌}
use Rattle.std.proofs.lemmas.Bool.Decides.{nat_tests}
use Rattle.cast_types.specs.declared.limits.TheConstants.{MAX_NUMBER}
use Rattle.cast_types.specs.declared.names.SiteNo.{SiteNo}
use Rattle.cast_types.specs.Names.{uid_in}
use Rattle.cast_stable.specs.Acks.{others_in, upto_in}
use Rattle.cast_view.specs.Home.{is_empty}
use Rattle.cast_domain.proofs.domain.Domain.stable_count.Goals as goal

none_is : (sites : List SiteNo) → (length sites == 0) ≡ is_empty sites
none_is [] = refl
none_is (s ∷ sites) = grind (arith, nat_tests)

pub returns-then-is_empty : goal.returns-then-is_empty
returns-then-is_empty c o part =
    let q = c.args.self.now.acks in
    let g = c.args.group in
    let alone : is_empty (others_in q g) ≡ true =
    ap is_empty (sym c.others.ensures) ∙ sym (none_is c.others.result.now) ∙ sym c.is_empty.ensures ∙ c.if-is_empty.true in
    sym (ap (λ b. if b then MAX_NUMBER else upto_in q (uid_in g c.args.view (c.args.process, 0))) alone)

pub returns : goal.returns
returns c o part =
    let q = c.args.self.now.acks in
    let g = c.args.group in
    let others : is_empty (others_in q g) ≡ false =
    ap is_empty (sym c.others.ensures) ∙ sym (none_is c.others.result.now) ∙ sym c.is_empty.ensures ∙ c.if-is_empty.false in
    c.stable_upto.ensures.value
    ∙ sym (ap (λ b. if b then MAX_NUMBER else upto_in q (uid_in g c.args.view (c.args.process, 0))) others)
