use Rattle.std.proofs.Common.{◌≡◌, ◌≢◌, ◌∙◌, ◌+◌, ◌==◌, not, sym, ap, true, false, arith}
use Rattle.std.specs.Prelude.{Bool, if◌then◌else◌}
use Rattle.std.proofs.lemmas.Bool.{and_parts, eq-eqb, false≢true, not-true}
use Rattle.cast_types.specs.declared.limits.TheConstants.{MAX_NUMBER}
use Rattle.cast_types.specs.declared.refusal.Refusal.TheVariants.{TooManySessions}
use Rattle.cast_events.specs.declared.event.Taken.TheVariants.{Opened, Refused}
use Rattle.cast_quota.specs.Quotas.{may_open as may_open_by}
use Rattle.cast_rules.specs.Rules.Events.{may_open}
use Rattle.cast_domain.specs.Records.{records_in}
use Rattle.cast_domain.specs.Calls.{open_in, records, records_sessions}
use Rattle.cast_commands.proofs.events.open.Goals as goal

pub returns-then-not-may_open-clause-answer : goal.returns-then-not-may_open-clause-answer
returns-then-not-may_open-clause-answer c =
    let r = records_in c.args.domain.now c.args.lent.now in
    let no : may_open records records_sessions r ≡ false =
    sym (c.may_open.ensures c.args.lent.now.outs.now r.part) ∙ c.if-not-may_open.true in
    sym (ap (λ (b : Bool). if b then Opened (r.used + 1) else Refused TooManySessions) no)

pub returns-then-not-may_open-clause-made : goal.returns-then-not-may_open-clause-made
returns-then-not-may_open-clause-made c =
    let r = records_in c.args.domain.now c.args.lent.now in
    let no : may_open records records_sessions r ≡ false =
    sym (c.may_open.ensures c.args.lent.now.outs.now r.part) ∙ c.if-not-may_open.true in
    sym (ap (λ (b : Bool). if b then open_in r else r) no)

pub overflow_add-serial : goal.overflow_add-serial
overflow_add-serial c =
    let r = records_in c.args.domain.now c.args.lent.now in
    let may : may_open records records_sessions r ≡ true =
    sym (c.may_open.ensures c.args.lent.now.outs.now r.part) ∙ c.if-not-may_open.false in
    let left : (r.used == MAX_NUMBER) ≡ false =
    not-true (r.used == MAX_NUMBER) (and_parts (may_open_by r.quotas (records_sessions.count r)) (not (r.used == MAX_NUMBER)) may).1 in
    let other : r.used ≢ MAX_NUMBER = λ same. false≢true (sym left ∙ eq-eqb r.used MAX_NUMBER same) in
    omega (arith, other, c.used-serial.ensures)

pub returns-clause-answer : goal.returns-clause-answer
returns-clause-answer c =
    let r = records_in c.args.domain.now c.args.lent.now in
    let may : may_open records records_sessions r ≡ true =
    sym (c.may_open.ensures c.args.lent.now.outs.now r.part) ∙ c.if-not-may_open.false in
    ap (λ n. Opened (n + 1)) c.used-serial.ensures ∙ sym (ap (λ (b : Bool). if b then Opened (r.used + 1) else Refused TooManySessions) may)

pub returns-clause-made : goal.returns-clause-made
returns-clause-made c =
    let r = records_in c.args.domain.now c.args.lent.now in
    let may : may_open records records_sessions r ≡ true =
    sym (c.may_open.ensures c.args.lent.now.outs.now r.part) ∙ c.if-not-may_open.false in
    c.in_ok-open_next.ensures.made ∙ sym (ap (λ (b : Bool). if b then open_in r else r) may)
