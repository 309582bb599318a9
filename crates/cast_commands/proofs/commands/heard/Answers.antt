use Rattle.std.proofs.Common.{◌∙◌, sym, ap}
use Rattle.std.specs.Option.{option_copied}
use Rattle.cast_clock.specs.Times.{view_of}
use Rattle.cast_domain.proofs.Times.{time_found, time_missing}
use Rattle.cast_commands.proofs.commands.heard.Goals as goal

pub returns-in-Some : goal.returns-in-Some
returns-in-Some c =
    let q = c.args.domain.now.delay in
    let p = c.args.process in
    c.view.ensures
    ∙ sym (ap (λ t. view_of t c.args.group) (time_found q p c.in-Some.time.now (sym c.time.ensures.value ∙ ap option_copied c.in-Some.is)))

pub returns-in-None : goal.returns-in-None
returns-in-None c =
    let q = c.args.domain.now.delay in
    let p = c.args.process in
    sym (ap (λ t. view_of t c.args.group) (time_missing q p (sym c.time.ensures.value ∙ ap option_copied c.in-None.is)))
