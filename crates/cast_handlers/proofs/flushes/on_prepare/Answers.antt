use Rattle.std.proofs.Common.{◌≡◌, ◌∙◌, true, false, sym, ap}
use Rattle.std.specs.Prelude.{◌&&◌, if◌then◌else◌}
use Rattle.std.proofs.lemmas.Bool.{and_parts}
use Rattle.cast_view.specs.MemberSide.{answers_prepare}
use Rattle.cast_rules.specs.Rules.Flushes.{flushed_frame}
use Rattle.cast_rules.specs.Rules.Asking.{is_from_home}
use Rattle.cast_domain.specs.Records.{Records, records_in}
use Rattle.cast_domain.specs.PartCalls.{record_at, send_in}
use Rattle.cast_domain.specs.FlushCalls.{report_at, freeze_in}
use Rattle.cast_domain.specs.Calls.{records}
use Rattle.cast_domain.proofs.Loops.{seen_as}
use Rattle.cast_handlers.proofs.flushes.on_prepare.Goals as goal

pub returns-then-not-is_asked-clause-made : goal.returns-then-not-is_asked-clause-made
returns-then-not-is_asked-clause-made c =
    let r = records_in c.args.domain.now c.args.lent.now in
    let x = record_at r.groups c.args.place in
    let told : Records = send_in (freeze_in r c.args.place) c.args.from (flushed_frame x.name c.args.view (report_at r x)) in
    let unasked : (is_from_home records r c.args.from && answers_prepare x.here c.args.view) ≡ false =
    sym (c.is_asked.ensures c.args.lent.now.outs.now r.part) ∙ c.if-not-is_asked.true in
    sym (ap (λ b. if b then told else r) unasked)

pub freeze-requires-clause-answered : goal.freeze-requires-clause-answered
freeze-requires-clause-answered c =
    let r = records_in c.args.domain.now c.args.lent.now in
    let x = record_at r.groups c.args.place in
    let asked : (is_from_home records r c.args.from && answers_prepare x.here c.args.view) ≡ true =
    sym (c.is_asked.ensures c.args.lent.now.outs.now r.part) ∙ c.if-not-is_asked.false in
    (and_parts (is_from_home records r c.args.from) (answers_prepare x.here c.args.view) asked).1

pub returns-clause-made : goal.returns-clause-made
returns-clause-made c =
    let d = c.args.domain.now in
    let lent = c.args.lent.now in
    let r = records_in d lent in
    let from = c.args.from in
    let view = c.args.view in
    let x = record_at r.groups c.args.place in
    let told : Records = send_in (freeze_in r c.args.place) from (flushed_frame x.name view (report_at r x)) in
    let asked : (is_from_home records r from && answers_prepare x.here view) ≡ true =
    sym (c.is_asked.ensures lent.outs.now r.part) ∙ c.if-not-is_asked.false in
    seen_as d c.freeze.new.domain c.in_ok-freeze.ensures.same lent.shared.now c.send.new.outs
    ∙ c.in_ok-send.ensures r.part
    ∙ (λ j. send_in (c.in_ok-freeze.ensures.made lent.outs.now r.part j)
    from (flushed_frame (c.record.ensures j).name view (c.in_ok-report.ensures j)))
    ∙ sym (ap (λ b. if b then told else r) asked)
