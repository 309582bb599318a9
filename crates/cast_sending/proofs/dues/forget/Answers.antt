use Rattle.cast_sending.proofs.Known.{removed}
use Rattle.cast_sending.proofs.dues.forget.Goals as goal

pub returns : goal.returns
returns c =
    removed c.remove.result c.args.dues.now.entries c.remove.new.self.entries c.args.id c.remove.ensures.value c.remove.ensures.updates.0
    c.remove.ensures.len
