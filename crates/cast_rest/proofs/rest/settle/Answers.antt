use Rattle.std.proofs.Common.{◌≡◌, None, true, sym}
use Rattle.std.proofs.lemmas.Bool.{not_from_true}
use Rattle.cast_types.specs.declared.names.Proc.{Proc}
use Rattle.cast_domain.specs.Records.{records_in}
use Rattle.cast_domain.specs.PartCalls.{serials_in}
use Rattle.cast_domain.specs.RestCalls.{ready_key_in, turns_in}
use Rattle.cast_domain.proofs.Unready.{none_deliver, none_delivers}
use Rattle.cast_rest.proofs.rest.settle.Goals as goal
use Rattle.cast_rest.proofs.rest.settle.Goals.{Then-is_settled}

none : (c : Then-is_settled) → c.is_settled.result ≡ true → (p : Proc) →
    ready_key_in (records_in c.args.domain.now c.args.lent.now) p ≡ None
none c settled p =
    c.is_settled.ensures p (not_from_true c.is_settled.result settled) (turns_in (records_in c.args.domain.now c.args.lent.now) p)

pub returns-then-is_settled-clause-made : goal.returns-then-is_settled-clause-made
returns-then-is_settled-clause-made c _ =
    let r = records_in c.args.domain.now c.args.lent.now in
    sym (none_deliver r (none c c.if-is_settled.true) (serials_in r))

pub returns-then-is_settled-clause-told : goal.returns-then-is_settled-clause-told
returns-then-is_settled-clause-told c _ =
    let r = records_in c.args.domain.now c.args.lent.now in
    sym (none_delivers r (none c c.if-is_settled.true) (serials_in r))
