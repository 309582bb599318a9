use Rattle.cast_sending.proofs.Parts.{pushed}
use Rattle.cast_sending.proofs.flight.push.Goals as goal

pub returns-clause-part : goal.returns-clause-part
returns-clause-part c = pushed c.args.line.now.items c.push_back.new.self.items c.args.sent _ c.push_back.ensures.items
