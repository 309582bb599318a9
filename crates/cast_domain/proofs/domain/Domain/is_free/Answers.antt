use Rattle.std.proofs.Common.{◌≡◌, ◌∙◌, sym, ap, true, false, not}
use Rattle.std.specs.Prelude.{◌&&◌}
use Rattle.cast_delay.specs.Queue.{is_awaited}
use Rattle.cast_stable.specs.Acks.{is_stable_in}
use Rattle.cast_events.specs.Outs.{no_outs}
use Rattle.cast_domain.specs.Records.{records_of}
use Rattle.cast_domain.specs.Shared.{no_part}
use Rattle.cast_domain.specs.FlushCalls.{is_open_in}
use Rattle.cast_domain.proofs.domain.Domain.is_free.Goals as goal

pub returns-then-is_open_to : goal.returns-then-is_open_to
returns-then-is_open_to c =
    let d = c.args.self.now in
    let u = c.args.id in
    let open_to : is_open_in (records_of d no_part no_outs) u ≡ true = sym c.is_open_to.ensures ∙ c.if-is_open_to.true in
    c.is_done_with.ensures ∙ sym (ap (λ b. b && (is_stable_in d.acks u && not (is_awaited d.delay.rows u))) open_to)

pub returns-else-is_open_to : goal.returns-else-is_open_to
returns-else-is_open_to c =
    let d = c.args.self.now in
    let u = c.args.id in
    let open_to : is_open_in (records_of d no_part no_outs) u ≡ false = sym c.is_open_to.ensures ∙ c.if-is_open_to.false in
    c.if-is_open_to.false
    ∙ sym (ap (λ b. b && (is_stable_in d.acks u && not (is_awaited d.delay.rows u))) open_to)
