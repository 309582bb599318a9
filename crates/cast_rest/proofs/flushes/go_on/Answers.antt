use Rattle.std.proofs.Common.{◌≡◌, ◌∙◌, true, Option, Some, None, sym, ap, subst}
use Rattle.std.proofs.lemmas.Result.{on_ok_weaker}
use Rattle.std.specs.Prelude.{if◌then◌else◌}
use Rattle.std.specs.List.{fold}
use Rattle.cast_message.specs.Membership.{Membership}
use Rattle.cast_view.specs.declared.member.Pending.{Pending}
use Rattle.cast_rules.specs.Rules.Flushes.{complete, complete_or_want, want_own}
use Rattle.cast_rules.specs.Rules.Release.{let_go}
use Rattle.cast_domain.specs.Records.{Records, records_in}
use Rattle.cast_domain.specs.PartCalls.{record_at}
use Rattle.cast_domain.specs.FlushCalls.{has_cut_of, missing_of}
use Rattle.cast_domain.specs.Calls.{records}
use Rattle.cast_domain.specs.RestCalls.{resting_records}
use Rattle.cast_domain.specs.Freed.{AreNotFree}
use Rattle.cast_domain.proofs.NotFree.{none_wants}
use Rattle.cast_rest.proofs.flushes.go_on.Goals as goal

pub returns-clause-made : goal.returns-clause-made
returns-clause-made c =
    let r = records_in c.args.domain.now c.args.lent.now in
    let i = c.args.place in
    let x = record_at r.groups i in
    let p : Pending = c.in-Some.pending.now in
    let waits : x.here.pending ≡ Some p = sym (c.in-Some.ensures.value ∙ ap (λ y. y.here.pending) c.record.ensures) in
    let cut : has_cut_of r x p.cut ≡ true = sym c.has_cut.ensures ∙ c.if-not-has_cut.false in
    let wants : Records = fold (want_own records i) r (missing_of r x p.cut) in
    let step : Option Pending → Records = λ o. elim o [ Some q ↦ complete_or_want records resting_records r i q | None ↦ r ] in
    c.let_go.ensures.made
    ∙ ap (let_go records resting_records) (c.in_ok-complete.ensures.made p.cut
    ∙ ap (λ (m : Membership). complete records r i (record { members = m; request = p.request; cut = p.cut })) c.in_ok-members.ensures)
    ∙ sym (ap (λ b. if b then let_go records resting_records (complete records r i p) else wants) cut)
    ∙ sym (ap step waits)

-- what is wanted frees none
pub returns-then-not-has_cut-clause-none : goal.returns-then-not-has_cut-clause-none
returns-then-not-has_cut-clause-none c =
    let r = records_in c.args.domain.now c.args.lent.now in
    let i = c.args.place in
    on_ok_weaker c.want_missing.result
    (λ made none. subst AreNotFree (sym made) (none_wants i (missing_of r (record_at r.groups i) c.in-Some.pending.now.cut) r none))
    c.want_missing.ensures.made
