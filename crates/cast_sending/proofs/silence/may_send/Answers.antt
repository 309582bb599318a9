use Rattle.std.proofs.Common.{Some, None, subst}
use Rattle.cast_sending.specs.Silences.{Known, IsPlace}
use Rattle.cast_sending.proofs.Passing.{nothing_known, something_known}
use Rattle.cast_sending.proofs.silence.may_send.Goals as goal

pub returns-in_default : goal.returns-in_default
returns-in_default c =
    nothing_known c.args.sites.now.items c.args.site
    (subst (λ (known : Known). IsPlace known c.args.site None) c.deref.ensures.value c.in_default.ensures)

pub returns : goal.returns
returns c =
    something_known c.args.sites.now.items c.args.site c.in-Some.place c.index.result.now c.sent-passes.result.0 c.sent-passes.result.1
    (subst (λ (known : Known). IsPlace known c.args.site (Some c.in-Some.place)) c.deref.ensures.value c.in-Some.ensures) c.index.ensures
    c.sent-passes.ensures
