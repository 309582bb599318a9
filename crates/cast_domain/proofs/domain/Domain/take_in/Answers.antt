use Rattle.std.proofs.Common.{◌≡◌, ◌∙◌, sym, ap, true}
use Rattle.std.specs.Prelude.{if◌then◌else◌}
use Rattle.std.proofs.lemmas.Bool.{and_from}
use Rattle.cast_types.specs.Names.{site_eq}
use Rattle.cast_view.specs.MemberSide.{is_taken_in}
use Rattle.cast_domain.specs.Records.{records_of}
use Rattle.cast_domain.specs.PartCalls.{standing_of}
use Rattle.cast_domain.specs.ViewCalls.{enter_in}
use Rattle.cast_domain.proofs.domain.Domain.take_in.Goals as goal

pub returns-in_ok-enter-clause-made : goal.returns-in_ok-enter-clause-made
returns-in_ok-enter-clause-made c o part =
    let r = records_of c.args.self.now part o in
    let p = c.args.process in
    let g = c.args.group in
    let here : site_eq p.site r.site ≡ true = cc in
    let taken : is_taken_in c.args.request (standing_of r.delay p g) ≡ true = sym c.is_taken_in.ensures ∙ c.if-is_taken_in.true in
    c.in_ok-enter.ensures.made o part
    ∙ sym (ap (λ b. if b then enter_in g c.args.view r p else r) (and_from _ _ here taken))
