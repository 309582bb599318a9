use Rattle.cast_rules.specs.Rest.{let_go}
use Rattle.std.proofs.Common.{rules, ◌≡◌, ◌++◌, ◌∙◌, sym, ap, subst}
use Rattle.cast_events.specs.declared.config.DomainConfig.{DomainConfig}
use Rattle.cast_rules.specs.Run.{before_event}
use Rattle.cast_rules.specs.Step.{act_of_event}
use Rattle.cast_domain.specs.Shared.{part_of}
use Rattle.cast_events.specs.Outs.{no_outs, outs_then}
use Rattle.cast_domain.specs.Records.{Records, records_in, records_of}
use Rattle.cast_domain.specs.Stepped.{IsStepOf}
use Rattle.cast_types.specs.declared.names.DomainNo.{DomainNo}
use Rattle.cast_events.specs.declared.event.Event.{Event}
use Rattle.cast_events.specs.declared.event.Outs.{Outs}
use Rattle.cast_events.specs.declared.event.Taken.{Taken}
use Rattle.cast_rules.specs.State.{State}
use Rattle.cast_domain.specs.declared.domain.Domain.{Domain}
use Rattle.cast_domain.specs.declared.lent.Lent.{Lent}
use Rattle.cast_domain.specs.declared.shared.Shared.{Shared}
use Rattle.cast_domain.specs.Calls.{acted_in}
use Rattle.cast_rules.specs.Lawful.{IsLawful}
use Rattle.cast_domain.specs.Fits.{Fits, AreDismissed}
use Rattle.cast_domain.specs.Freed.{AreNotFree, AreFreedBy}
use Rattle.cast_rules.proofs.Lawful.{lawful_before}
use Rattle.cast_rules.proofs.LawfulMessages.{lawful_let_go}
use Rattle.cast_rules.proofs.LawfulSteps.{lawful_acted, lawful_rests}
use Rattle.cast_domain.proofs.EventSteps.{fits_acted, answer_acted}
use Rattle.cast_domain.proofs.Passes.{fits_between}
use Rattle.cast_domain.specs.Trims.{trim_all_in}
use Rattle.cast_domain.proofs.Dismissals.{dismissed_let_go, dismissed_trim_all}
use Rattle.cast_domain.proofs.Ending.{dismissed_acted}
use Rattle.cast_domain.proofs.Releases.{unborn, fits_let_go}
use Rattle.cast_domain.proofs.Touched.{freed_acted, freed_trim_all}
use Rattle.cast_domain.proofs.Trimmed.{fits_trim_all}
use Rattle.cast_step.proofs.domain.serve.Goals as goal

-- what is shared in the end, and what was added, is what the last call left
ended : (s : State) (e : Event) (answer : Taken) (new : Domain) (d : DomainNo) (before after : Outs) (last : Lent) {later : Shared} →
    later ≡ last.shared.now → after ≡ outs_then before last.outs.now →
    IsStepOf s e answer new (part_of d last.shared.now) before (outs_then before last.outs.now) →
    IsStepOf s e answer new (part_of d later) before after
ended s e answer new d before after last left added step =
    subst (λ h. IsStepOf s e answer new (part_of d h) before after) (sym left)
    (subst (λ o. IsStepOf s e answer new (part_of d last.shared.now) before o) (sym added) step)

pub returns-clause-steps : goal.returns-clause-steps
returns-clause-steps c s means =
    ended s c.args.event.now _ c.trim_orders.new.domain c.args.domain.now.config.domain c.args.outs.now c.append.new.self c.rest.new.lent
    (search rules) (search rules) (
    let here = c.args.domain.now in
    let part = part_of here.config.domain c.args.shared.now in
    let e = c.args.event.now in
    let before = c.args.outs.now in
    let r = records_of here part no_outs in
    let b = before_event s in
    let typed = c.in_ok-taken.ensures.typed in
    let lawful = lawful_before s means.lawful in
    let acted_records = records_in c.act.new.domain c.act.new.lent in
    let made : acted_records ≡ acted_in r e =
    c.in_ok-taken.ensures.made ∙ ap (λ o. acted_in (records_of here part o) e) c.new-step.ensures in
    let acts : Fits acted_records (act_of_event b e) =
    subst (λ x. Fits x (act_of_event b e)) (sym made) (fits_acted r b e means.fits lawful typed) in
    let acts_lawful : IsLawful (act_of_event b e) = lawful_acted b e lawful (unborn r b means.fits) typed in
    let acts_dismissed : AreDismissed acted_records =
    subst AreDismissed (sym made) (dismissed_acted r b e means.fits typed means.dismissed) in
    let acts_freed : AreFreedBy e acted_records = subst (AreFreedBy e) (sym made) (freed_acted r e means.freed) in
    let left : Records = records_in c.let_go_after.new.domain c.let_go_after.new.lent in
    let lets_go = c.let_go_after.ensures.made acts_freed in
    let after : Fits left (let_go (act_of_event b e)) =
    subst (λ x. Fits x (let_go (act_of_event b e))) (sym lets_go) (fits_let_go acted_records (act_of_event b e) acts acts_lawful) in
    let after_dismissed : AreDismissed left = subst AreDismissed (sym lets_go) (dismissed_let_go acted_records acts_dismissed) in
    let after_freed : AreNotFree left = c.let_go_after.ensures.none acts_freed in
    let after_lawful = lawful_let_go (act_of_event b e) acts_lawful in
    let rested = c.in_ok-rest.ensures.rests after_freed (let_go (act_of_event b e)) after after_lawful in
    let t = rested.0 in
    let fits = rested.2 in
    let lent = c.rest.new.lent in
    let same : c.rest.new.domain.config.domain ≡ here.config.domain =
    ap (λ (k : DomainConfig). k.domain)
    (c.in_ok-rest.ensures.stays.same.config ∙ c.let_go_after.ensures.stays.same.config ∙ c.in_ok-taken.ensures.same.1) in
    let last_lawful = lawful_rests (let_go (act_of_event b e)) t after_lawful rested.1 in
    let rested_records = records_of c.rest.new.domain (part_of c.rest.new.domain.config.domain lent.shared.now) lent.outs.now in
    let trimmed : Fits (records_of c.trim_orders.new.domain (part_of c.rest.new.domain.config.domain lent.shared.now) lent.outs.now) t =
    subst (λ x. Fits x t) (sym (c.trim_orders.ensures.made lent.outs.now (part_of c.rest.new.domain.config.domain lent.shared.now)))
    (subst (λ kept. Fits (trim_all_in kept rested_records) t) (sym c.messages-kept.ensures.value)
    (fits_trim_all rested_records t fits last_lawful)) in
    let still : AreDismissed (records_of c.trim_orders.new.domain (part_of c.rest.new.domain.config.domain lent.shared.now) no_outs) =
    subst AreDismissed (sym (c.trim_orders.ensures.made no_outs (part_of c.rest.new.domain.config.domain lent.shared.now)))
    (dismissed_trim_all c.messages-kept.result (records_of c.rest.new.domain (part_of c.rest.new.domain.config.domain lent.shared.now)
    no_outs) (c.in_ok-rest.ensures.dismissed after_freed after_dismissed)) in
    let still_freed : AreNotFree (records_of c.trim_orders.new.domain (part_of c.rest.new.domain.config.domain lent.shared.now) no_outs) =
    subst AreNotFree (sym (c.trim_orders.ensures.made no_outs (part_of c.rest.new.domain.config.domain lent.shared.now)))
    (freed_trim_all c.messages-kept.result (records_of c.rest.new.domain (part_of c.rest.new.domain.config.domain lent.shared.now) no_outs)
    (c.in_ok-rest.ensures.none after_freed)) in
    let fits_last : Fits (records_of c.trim_orders.new.domain (part_of here.config.domain lent.shared.now) lent.outs.now) t =
    subst (λ d. Fits (records_of c.trim_orders.new.domain (part_of d lent.shared.now) lent.outs.now) t) same trimmed in
    record {
      end = t;
      steps = record {
        answers = c.in_ok-taken.ensures.answer ∙ answer_acted r b e means.fits;
        rests = rested.1;
      };
      means = record {
        fits = fits_between (records_of c.trim_orders.new.domain (part_of here.config.domain lent.shared.now) lent.outs.now) t fits_last;
        lawful = last_lawful;
        dismissed = still;
        freed = subst (λ d. AreNotFree (records_of c.trim_orders.new.domain (part_of d lent.shared.now) no_outs)) same still_freed;
      };
      outs = λ j. record before {
        frames = before.frames ++ fits.frames j;
        delivered = before.delivered ++ fits.delivered j;
        pushed = before.pushed ++ fits.pushed j;
      };
    })
