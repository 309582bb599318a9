use Rattle.std.proofs.Common.{◌∙◌, ap}
use Rattle.std.proofs.lemmas.Result.{on_ok_weaker}
use Rattle.cast_domain.specs.Records.{records_of}
use Rattle.cast_domain.specs.ViewCalls.{put_out_in}
use Rattle.cast_domain.proofs.domain.Domain.put_out.Goals as goal

pub returns-clause-made : goal.returns-clause-made
returns-clause-made c =
    on_ok_weaker c.tell.result (λ made o part.
    let r = records_of c.args.self.now part o in
    made o part ∙ ap (put_out_in c.args.group r) c.process-process.ensures) c.tell.ensures.made
