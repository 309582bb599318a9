use Rattle.std.proofs.Common.{Some, None, cond, ap, ◌∙◌}
use Rattle.cast_timer.specs.Owed.{key_eq}
use Rattle.cast_timer.specs.Index.{due_of}
use Rattle.cast_timer.proofs.Index.{moved, put_back}
use Rattle.cast_timer.proofs.Kept.{keeps_added, keeps_still}
use Rattle.cast_timer.proofs.frames.owe_in.Goals as goal

pub returns-in-Ok-clause-kept : goal.returns-in-Ok-clause-kept
returns-in-Ok-clause-kept c =
    let frame = c.args.frame in
    let dues = c.args.dues.now.entries in
    keeps_added c.args.domain c.args.moments.now.entries c.add.new.moments.entries frame.due frame.key c.in-Ok.ensures.ok (due_of dues)
    (due_of c.insert.new.self.entries)
    c.requires.kept c.requires.fresh (moved frame.key (Some frame.due) dues c.insert.new.self.entries c.in_ok-insert.ensures.updates.0)

pub returns-in-Ok-clause-ok : goal.returns-in-Ok-clause-ok
returns-in-Ok-clause-ok c =
    moved c.args.frame.key (Some c.args.frame.due) c.args.dues.now.entries c.insert.new.self.entries c.in_ok-insert.ensures.updates.0

-- the moment of the key is taken out of the map again
pub returns-in-Err-clause-kept : goal.returns-in-Err-clause-kept
returns-in-Err-clause-kept c =
    let frame = c.args.frame in
    let dues = c.args.dues.now.entries in
    keeps_still c.args.domain c.args.moments.now.entries c.add.new.moments.entries (due_of dues) (due_of c.remove.new.self.entries)
    c.requires.kept c.in-Err.ensures.err
    (λ q. moved frame.key None c.insert.new.self.entries c.remove.new.self.entries c.remove.ensures.updates.0 q
    ∙ ap (λ m. cond (key_eq frame.key q) None m)
    (moved frame.key (Some frame.due) dues c.insert.new.self.entries c.in_ok-insert.ensures.updates.0 q)
    ∙ put_back (due_of dues) frame.key frame.due c.requires.fresh q)
