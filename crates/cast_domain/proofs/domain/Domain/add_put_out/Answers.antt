use Rattle.std.proofs.Common.{◌∙◌, sym, ap}
use Rattle.cast_events.specs.Outs.{no_outs}
use Rattle.cast_domain.specs.Shared.{no_part}
use Rattle.cast_domain.proofs.Rounds.{gathered}
use Rattle.cast_domain.proofs.domain.Domain.add_put_out.Goals as goal

pub returns-in_ok-push : goal.returns-in_ok-push
returns-in_ok-push c =
    c.in_ok-push.ensures.items
    ∙ sym (ap (λ b. gathered b c.args.out.now.items c.args.serial) (sym (c.is_put_out.ensures no_outs no_part) ∙ c.if-is_put_out.true))

pub returns-else-is_put_out : goal.returns-else-is_put_out
returns-else-is_put_out c =
    sym (ap (λ b. gathered b c.args.out.now.items c.args.serial) (sym (c.is_put_out.ensures no_outs no_part) ∙ c.if-is_put_out.false))
