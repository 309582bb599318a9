use Rattle.std.proofs.Common.{◌≡◌, ◌≢◌, ◌++◌, ◌∷◌, [], Err, take, ◌+◌, refl, sym, ap, subst, ◌∙◌}
use Rattle.std.proofs.lemmas.Bool.{false≢true}
use Rattle.std.proofs.lemmas.List.{take_more, take_all}
use Rattle.cast_events.specs.declared.log.Fault.TheVariants.{NoMemory}
use Rattle.cast_table.specs.Tables.{AreApplied, domains_of, lent_of}
use Rattle.cast_isolation.specs.Replays.{lacks_memory}
use Rattle.cast_isolation.proofs.Each.{applied_more}
use Rattle.cast_isolation.proofs.replays.apply_each.Goals as goal

pub loop-event-init : goal.loop-event-init
loop-event-init g c =
    let table = c.args.table.now in
    let l = lent_of table c.args.outs.now in
    subst (λ given. AreApplied given [] (domains_of table) (domains_of table) l l) (sym c.new-answers.ensures) (refl, refl)

pub loop-event-preserved : goal.loop-event-preserved
loop-event-preserved g c =
    let i = c.loop-event.event-index in
    let events = c.args.events.now in
    let e = c.event-item.result in
    let old = domains_of c.args.table.now in
    let new = domains_of c.apply-answer.new.self in
    let first = lent_of c.args.table.now c.args.outs.now in
    let last = lent_of c.loop-event.table c.loop-event.outs in
    let next = lent_of c.apply-answer.new.self c.apply-answer.new.outs in
    let begun : c.apply-answer.result ≢ Err NoMemory =
    λ is. false≢true (sym c.if-lacks_memory.false ∙ c.lacks_memory.ensures ∙ ap lacks_memory is) in
    let one : take i events ++ e ∷ [] ≡ take (i + 1) events =
    ap (λ x. take i events ++ x ∷ []) c.event-item.is ∙ sym (take_more events i e c.loop-event-test.true) in
    subst (λ es. AreApplied c.push.new.self es old new first next) one
    (subst (λ given. AreApplied given (take i events ++ e ∷ []) old new first next) (sym c.in_ok-push.ensures.ok)
    (applied_more c.loop-event.answers (take i events) c.apply-answer.result e old (domains_of c.loop-event.table)
    new first last next c.loop-event.invariant begun c.apply-answer.ensures.applied))

pub returns : goal.returns
returns g c = rw (take_all c.loop-event.event-index c.args.events.now c.loop-event-test.false) at c.loop-event.invariant
