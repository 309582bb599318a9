use Rattle.std.proofs.Common.{Some, subst}
use Rattle.std.proofs.lemmas.Result.{on_ok_weaker}
use Rattle.cast_sending.specs.declared.dues.Due.{Due}
use Rattle.cast_sending.specs.Dues.{Becomes}
use Rattle.cast_sending.proofs.Known.{relearnt}
use Rattle.cast_sending.proofs.dues.hold_back.Goals as goal

pub returns : goal.returns
returns c =
    let old = c.args.dues.now.entries in
    let new = c.insert.new.self.entries in
    subst (λ (due : Due). Becomes old c.args.id (Some due) new) c.held_back.ensures
    (relearnt c.insert.result old new c.args.id c.args.due c.held_back.result c.requires.known c.insert.ensures.old
    (on_ok_weaker c.insert.result (λ updates. updates.0) c.insert.ensures.updates) c.insert.ensures.len c.insert.ensures.absent)
