use Rattle.std.proofs.Common.{◌≡◌, subst}
use Rattle.std.specs.Prelude.{IfOk, OnOk}
use Rattle.cast_delay.specs.Queue.{Queue}
use Rattle.cast_rules.specs.Rules.Rest.{deliver_all}
use Rattle.cast_domain.specs.Calls.{records}
use Rattle.cast_domain.specs.RestCalls.{resting_records}
use Rattle.cast_domain.specs.Freed.{AreNotFree}
use Rattle.cast_domain.specs.Flags.{has_ready}
use Rattle.cast_domain.specs.Records.{records_in}
use Rattle.cast_rest.proofs.rest.deliver_to.Goals as goal

-- a look at what came changes nothing
pub returns-clause-made : goal.returns-clause-made
returns-clause-made c =
    let after = records_in c.deliver_all.new.domain c.deliver_all.new.lent in
    subst (λ (q : Queue).
    OnOk c.deliver_all.result (AreNotFree (records_in (record (c.args.domain.now) { delay = q }) c.args.lent.now) →
    after ≡ deliver_all records resting_records (records_in (record (c.args.domain.now) { delay = q }) c.args.lent.now) c.args.serial))
    c.look.ensures c.deliver_all.ensures.made

pub returns-clause-told : goal.returns-clause-told
returns-clause-told c =
    subst (λ (q : Queue). IfOk c.deliver_all.result
    (λ changed. changed ≡ has_ready (records_in (record (c.args.domain.now) { delay = q }) c.args.lent.now) c.args.serial))
    c.look.ensures c.deliver_all.ensures.told

pub returns-clause-none : goal.returns-clause-none
returns-clause-none c =
    let after = records_in c.deliver_all.new.domain c.deliver_all.new.lent in
    subst (λ (q : Queue).
    OnOk c.deliver_all.result (AreNotFree (records_in (record (c.args.domain.now) { delay = q }) c.args.lent.now) → AreNotFree after))
    c.look.ensures c.deliver_all.ensures.none
