use Rattle.cast_domain.specs.Records.{records_in}
use Rattle.cast_commands.proofs.leaving.go.Goals as goal

pub returns-clause-made : goal.returns-clause-made
returns-clause-made c =
    let r = records_in c.args.domain.now c.args.lent.now in
    λ i. record r { used = (c.remove.ensures i).used; sessions = (c.remove.ensures i).records; part = c.close_outbox.ensures.part i }
