use Rattle.std.proofs.Common.{◌++◌, sym, ap, ◌∙◌}
use Rattle.std.proofs.lemmas.List.{append-nil}
use Rattle.cast_events.specs.declared.event.Outs.{Outs}
use Rattle.cast_table.proofs.Numbers.{named_same, turns_numbers}
use Rattle.cast_table.proofs.Turns.{none_stopped}
use Rattle.cast_table.proofs.table.Table.apply_to_all.Goals as goal

pub returns-in_default-clause-halted : goal.returns-in_default-clause-halted
returns-in_default-clause-halted c =
    ap (λ (outs : Outs). outs.halted) c.in_default.ensures.err
    ∙ sym (append-nil c.args.outs.now.halted)
    ∙ ap (λ more. c.args.outs.now.halted ++ more) (sym (none_stopped c.args.self.now.domains))

pub invariant_of-self : goal.invariant_of-self
invariant_of-self c = λ n.
    c.self.invariant n
    ∙ named_same n c.self.inside.domains.items c.turns.new.domains.items
    (turns_numbers c.args.event.now c.self.inside.domains.items c.turns.new.domains.items _ _ c.turns.ensures.turns)
