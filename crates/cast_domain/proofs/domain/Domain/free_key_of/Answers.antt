use Rattle.std.proofs.Common.{Option, Some, None, sym, ◌∙◌}
use Rattle.std.specs.Option.{IfNone}
use Rattle.cast_domain.specs.Records.{records_in}
use Rattle.cast_domain.specs.Freed.{AreNotFree, AreNotFreeBut}
use Rattle.cast_domain.proofs.Freeing.{first_not_free, none_kept_of}
use Rattle.cast_domain.proofs.domain.Domain.free_key_of.Goals as goal

if_none : {A : Type 0} (P : Type 0) → P → (o : Option A) → IfNone o P
if_none P holds None = holds
if_none P holds (Some x) = tt

pub returns-in_err-id-clause-none : goal.returns-in_err-id-clause-none
returns-in_err-id-clause-none c =
    let r = records_in c.args.self.now c.args.lent.now in
    if_none (AreNotFreeBut c.args.source r → AreNotFree r) (none_kept_of c.args.source r c.in_err-id.ensures.none) c.from_residual.result

pub returns-else-is_free-clause-none : goal.returns-else-is_free-clause-none
returns-else-is_free-clause-none c =
    first_not_free c.args.source (records_in c.args.self.now c.args.lent.now) (c.in_ok-id.id, c.in_ok-id.key)
    c.in_ok-id.ensures.some (sym c.is_free.ensures ∙ c.if-is_free.false)
