use Rattle.std.proofs.Common.{rules}
use Rattle.cast_domain.specs.Records.{records_in}
use Rattle.cast_domain.proofs.Freeing.{if_none_free}
use Rattle.cast_domain.proofs.domain.Domain.free_key.Goals as goal

pub returns-clause-none : goal.returns-clause-none
returns-clause-none c =
    if_none_free (records_in c.args.self.now c.args.lent.now) _ (λ id post. search rules)
    c.first_passing.result c.first_passing.ensures.none
