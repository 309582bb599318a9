use Rattle.std.proofs.Common.{◌||◌, ◌++◌, ◌∷◌, [], refl, ap, ◌∙◌}
use Rattle.cast_record.specs.Parts.{line_of}
use Rattle.cast_record.proofs.Joins.{joined_push}
use Rattle.cast_record.proofs.joined.Joined.add.Goals as goal

pub returns-clause-lines : goal.returns-clause-lines
returns-clause-lines c = λ lines is.
    joined_push c.args.self.now _ lines (line_of c.args.is_first c.args.line.now) c.shown-shown.result.now is refl c.shown-shown.ensures
    (c.in_ok-push.ensures.items ∙ ap (λ t. t ++ 10 ∷ []) c.in_ok-extend_from_slice.ensures.items)
    (ap (λ b. c.args.self.now.has_domain || b) c.is_domain.ensures)
    c.behind-self.ensures
