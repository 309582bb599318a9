use Rattle.std.proofs.Common.{rules, ◌≡◌, true, false, Some, sym, subst}
use Rattle.cast_types.specs.declared.source.Source.{Source}
use Rattle.cast_events.specs.declared.event.Event.{Event}
use Rattle.cast_domain.specs.Records.{Records, records_in}
use Rattle.cast_domain.specs.Freed.{frees_nothing, source_freed, AreNotFree, AreNotFreeBut, AreFreed, AreFreedBy}
use Rattle.cast_domain.proofs.Freeing.{none_let_go}
use Rattle.cast_step.proofs.domain.let_go_after.Goals as goal

-- by an event that sets nothing free nothing is free, and by one that sets those of a source free no others are
none_freed : (e : Event) (r : Records) → frees_nothing e ≡ true → AreFreedBy e r → AreNotFree r
none_freed e r is by = subst (λ b. AreFreed b (source_freed e) r) is by

no_others_freed : (e : Event) (r : Records) (source : Source) → frees_nothing e ≡ false → source_freed e ≡ Some source → AreFreedBy e r →
    AreNotFreeBut source r
no_others_freed e r source is from by =
    subst (λ o. AreFreed false o r) from (subst (λ b. AreFreed b (source_freed e) r) is by)

pub returns-then-sets_nothing_free-clause-made : goal.returns-then-sets_nothing_free-clause-made
returns-then-sets_nothing_free-clause-made c by =
    let is : frees_nothing c.args.event.now ≡ true = search rules in
    let r = records_in c.args.domain.now c.args.lent.now in
    sym (none_let_go r (none_freed c.args.event.now r is by))

pub returns-then-sets_nothing_free-clause-none : goal.returns-then-sets_nothing_free-clause-none
returns-then-sets_nothing_free-clause-none c by =
    let is : frees_nothing c.args.event.now ≡ true = search rules in
    none_freed c.args.event.now (records_in c.args.domain.now c.args.lent.now) is by

pub returns-in-Some-clause-made : goal.returns-in-Some-clause-made
returns-in-Some-clause-made c by =
    let is : frees_nothing c.args.event.now ≡ false = search rules in
    let from : source_freed c.args.event.now ≡ Some c.in-Some.source = search rules in
    c.let_go_of.ensures.made (no_others_freed c.args.event.now (records_in c.args.domain.now c.args.lent.now) c.in-Some.source is from by)

pub returns-in-Some-clause-none : goal.returns-in-Some-clause-none
returns-in-Some-clause-none c by =
    let is : frees_nothing c.args.event.now ≡ false = search rules in
    let from : source_freed c.args.event.now ≡ Some c.in-Some.source = search rules in
    c.let_go_of.ensures.none (no_others_freed c.args.event.now (records_in c.args.domain.now c.args.lent.now) c.in-Some.source is from by)
