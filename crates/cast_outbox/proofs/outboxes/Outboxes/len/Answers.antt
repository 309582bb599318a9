use Rattle.std.proofs.Common.{List, length, Some, None, ap, sym, ◌∙◌}
use Rattle.std.specs.Option.{option_copied}
use Rattle.cast_message.specs.declared.client.Push.{Push}
use Rattle.cast_outbox.proofs.Kept.{seen_of}
use Rattle.cast_outbox.proofs.outboxes.Outboxes.len.Goals as goal

pub returns-in-Some : goal.returns-in-Some
returns-in-Some c =
    let s = c.self.inside in
    rw (← c.self.view_is)
    (c.len.ensures ∙ sym (ap (λ (xs : List Push). length xs) (seen_of s.names s.slots c.self.invariant c.args.domain c.args.serial
    (Some c.in-Some.outbox.now) (sym (ap option_copied c.in-Some.is) ∙ c.outbox_of.ensures))))

pub returns-in-None : goal.returns-in-None
returns-in-None c =
    let s = c.self.inside in
    rw (← c.self.view_is)
    (sym (ap (λ (xs : List Push). length xs) (seen_of s.names s.slots c.self.invariant c.args.domain c.args.serial None
    (sym (ap option_copied c.in-None.is) ∙ c.outbox_of.ensures))))
