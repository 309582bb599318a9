use Rattle.std.proofs.Common.{◌≡◌, ◌∙◌, ap, length, arith}
use Rattle.std.proofs.lemmas.Result.{on_ok_weaker}
use Rattle.cast_events.specs.Outs.{no_outs}
use Rattle.cast_domain.specs.Shared.{no_part}
use Rattle.cast_domain.specs.Records.{records_of}
use Rattle.cast_domain.specs.ViewCalls.{begin_view_in, put_out_all_in}
use Rattle.cast_domain.proofs.Staying.{put_out_all_groups, pass_length}
use Rattle.cast_domain.proofs.domain.Domain.pass_to.Goals as goal

pub begin_view-requires : goal.begin_view-requires
begin_view-requires c =
    let r = records_of c.args.self.now no_part no_outs in
    let same : length c.put_out_all.new.self.groups.items ≡ length r.groups =
    ap (λ x. length x.groups) (c.in_ok-put_out_all.ensures.made no_outs no_part)
    ∙ ap length (put_out_all_groups c.record.result.now.name c.args.skips c.args.members.now r) in
    omega arith

pub returns-clause-made : goal.returns-clause-made
returns-clause-made c =
    on_ok_weaker c.begin_view.result (λ made o part.
    let r = records_of c.args.self.now part o in
    let out =
    c.in_ok-put_out_all.ensures.made o part ∙ ap (λ x. put_out_all_in x.name c.args.skips c.args.members.now r) c.record.ensures in
    made o part ∙ ap (λ x. begin_view_in x c.args.place c.args.view c.args.members.now c.args.request) out) c.begin_view.ensures.made

pub returns-clause-len : goal.returns-clause-len
returns-clause-len c =
    on_ok_weaker c.begin_view.result (λ made.
    let r = records_of c.args.self.now no_part no_outs in
    let out =
    c.in_ok-put_out_all.ensures.made no_outs no_part ∙ ap (λ x. put_out_all_in x.name c.args.skips c.args.members.now r) c.record.ensures in
    let same : length c.begin_view.new.self.groups.items ≡ length r.groups =
    ap (λ x. length x.groups)
    (made no_outs no_part
    ∙ ap (λ x. begin_view_in x c.args.place c.args.view c.args.members.now c.args.request) out)
    ∙ pass_length r c.args.place c.args.skips c.args.view c.args.members.now c.args.request in
    omega arith) c.begin_view.ensures.made
