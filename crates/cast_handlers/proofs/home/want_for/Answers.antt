use Rattle.std.proofs.Common.{◌∙◌, ap}
use Rattle.std.specs.List.{find}
use Rattle.cast_types.specs.Names.{entry_eq, entry_of}
use Rattle.cast_handlers.proofs.home.want_for.Goals as goal

pub returns : goal.returns
returns c o part =
    c.copied.ensures
    ∙ c.want_of.ensures
    ∙ ap (find (λ x. entry_eq x.1 (entry_of c.args.id))) (c.as_slice.ensures ∙ c.in_ok-wants.ensures o part)
