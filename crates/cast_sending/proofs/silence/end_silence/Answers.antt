use Rattle.std.proofs.Common.{Some, None, subst, ◌∙◌}
use Rattle.cast_sending.specs.Silences.{Known, IsPlace}
use Rattle.cast_sending.proofs.Passing.{nothing_ends, nothing_silent, something_ends, something_silent}
use Rattle.cast_sending.proofs.silence.end_silence.Goals as goal

pub returns-in_default-clause-silent : goal.returns-in_default-clause-silent
returns-in_default-clause-silent c =
    nothing_silent c.args.sites.now.items c.args.site
    (subst (λ (known : Known). IsPlace known c.args.site None) c.deref.ensures.value c.in_default.ensures)

pub returns-in_default-clause-ended : goal.returns-in_default-clause-ended
returns-in_default-clause-ended c =
    nothing_ends c.args.sites.now.items c.args.site
    (subst (λ (known : Known). IsPlace known c.args.site None) c.deref.ensures.value c.in_default.ensures)

pub returns-clause-silent : goal.returns-clause-silent
returns-clause-silent c =
    c.is_silent.ensures
    ∙ something_silent c.args.sites.now.items c.args.site c.in-Some.place c.index.result.now
    (subst (λ (known : Known). IsPlace known c.args.site (Some c.in-Some.place)) c.deref.ensures.value c.in-Some.ensures) c.index.ensures

pub returns-clause-ended : goal.returns-clause-ended
returns-clause-ended c =
    something_ends c.args.sites.now.items c.args.site c.in-Some.place c.index.result.now
    (subst (λ (known : Known). IsPlace known c.args.site (Some c.in-Some.place)) c.deref.ensures.value c.in-Some.ensures) c.index.ensures
