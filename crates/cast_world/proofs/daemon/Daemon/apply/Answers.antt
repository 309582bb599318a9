use Rattle.std.proofs.Common.{◌∙◌, Err, subst}
use Rattle.cast_events.specs.declared.log.Fault.{Fault}
use Rattle.cast_table.specs.Tables.{IsApplied, lent_of}
use Rattle.cast_table.proofs.Numbers.{applied_numbers}
use Rattle.cast_world.specs.declared.daemon.Daemon.{Daemon}
use Rattle.cast_world.proofs.Alone.{never_nowhere}
use Rattle.cast_world.proofs.daemon.Daemon.apply.Goals as goal

pub invariant_of-self : goal.invariant_of-self
invariant_of-self c =
    let old : Daemon = c.args.self.now in
    let new = c.apply.new.self in
    record {
      alone = applied_numbers c.apply.result c.args.event.now old.table.domains new.domains (lent_of old.table c.args.outs.now)
          (lent_of new c.apply.new.outs) c.apply.ensures.applied ∙ old.alone;
    }

pub unreachable-requires : goal.unreachable-requires
unreachable-requires c =
    let old : Daemon = c.args.self.now in
    let e = c.args.event.now in
    let new = c.apply.new.self in
    let before = lent_of old.table c.args.outs.now in
    let after = lent_of new c.apply.new.outs in
    never_nowhere e old.number old.table.domains new.domains before after old.alone c.requires
    (subst (λ (f : Fault). IsApplied (Err f) e old.table.domains new.domains before after)
    c.in-Err-NoDomain.field-0-is c.in-Err-NoDomain.ensures.applied)
