use Rattle.std.proofs.Common.{◌∙◌, sym, ap}
use Rattle.cast_rules.specs.Rules.Frames.{on_frame}
use Rattle.cast_domain.specs.Records.{records_in}
use Rattle.cast_domain.specs.Calls.{records}
use Rattle.cast_handlers.proofs.frames.frame_at.Goals as goal

pub returns-in_ok-on_install-in-Install-clause-made : goal.returns-in_ok-on_install-in-Install-clause-made
returns-in_ok-on_install-in-Install-clause-made c =
    c.in_ok-on_install-in-Install.ensures.made
    ∙ sym (ap (λ f. on_frame records (records_in c.args.domain.now c.args.lent.now) c.args.place c.args.from f) c.in-Install.is)

pub returns-in_ok-on_out-in-Out-clause-made : goal.returns-in_ok-on_out-in-Out-clause-made
returns-in_ok-on_out-in-Out-clause-made c =
    c.in_ok-on_out-in-Out.ensures.made
    ∙ sym (ap (λ f. on_frame records (records_in c.args.domain.now c.args.lent.now) c.args.place c.args.from f) c.in-Out.is)
