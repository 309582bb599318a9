use Rattle.std.proofs.Common.{◌≡◌, ◌∙◌, ap, filter}
use Rattle.std.specs.List.{fold}
use Rattle.std.proofs.lemmas.Result.{on_ok_weaker}
use Rattle.cast_rules.specs.Rules.Views.{tell_out, tell_view}
use Rattle.cast_domain.specs.declared.record.GroupRecord.{GroupRecord}
use Rattle.cast_domain.specs.Records.{Records, records_in}
use Rattle.cast_domain.specs.PartCalls.{record_at, serials_in}
use Rattle.cast_domain.specs.ViewCalls.{gone_in, is_member_in, is_put_out_in, members_in, pass_in}
use Rattle.cast_domain.specs.Calls.{records}
use Rattle.cast_domain.proofs.Loops.{seen_as}
use Rattle.cast_domain.proofs.domain.Domain.enter_and_tell.Goals as goal

pub returns-clause-made : goal.returns-clause-made
returns-clause-made c =
    let d = c.args.self.now in
    let lent = c.args.lent.now in
    let r = records_in d lent in
    let i = c.args.place in
    let n = c.args.view in
    let skips = c.args.skips in
    let members = c.args.members.now in
    let passed : Records = pass_in r i skips n members c.args.request in
    let made : records_in c.pass_to.new.self lent ≡ passed =
    seen_as d c.pass_to.new.self c.in_ok-pass_to.ensures.same lent.shared.now lent.outs.now
    ∙ c.in_ok-pass_to.ensures.made lent.outs.now r.part in
    let name : c.record.result.now.name ≡ (record_at r.groups i).name = ap (λ (x : GroupRecord). x.name) c.record.ensures in
    let later : c.record-2.result.now.name ≡ (record_at (records_in c.pass_to.new.self lent).groups i).name =
    ap (λ (x : GroupRecord). x.name) c.record-2.ensures in
    let out : c.as_slice.result.now ≡ gone_in r i skips members =
    c.as_slice.ensures.value ∙ c.in_ok-out.ensures ∙ ap (λ g. filter (is_put_out_in g skips members r) (serials_in r)) name in
    let here : c.as_slice-2.result.now ≡ members_in passed i =
    c.as_slice-2.ensures.value
    ∙ c.in_ok-here.ensures
    ∙ ap (λ g. filter (is_member_in (records_in c.pass_to.new.self lent) g) (serials_in (records_in c.pass_to.new.self lent))) later
    ∙ ap (λ x. members_in x i) made in
    on_ok_weaker c.tell_view.result (λ told cut.
    told
    ∙ ap (λ x. fold (tell_view records c.record.result.now.name n members) x c.as_slice-2.result.now) c.in_ok-tell_out.ensures.made
    ∙ (λ j. fold (tell_view records (name j) n members) (fold (tell_out records (name j) n) (made j) (out j)) (here j)))
    c.tell_view.ensures.made

pub returns-clause-len : goal.returns-clause-len
returns-clause-len c =
    on_ok_weaker c.tell_view.result (λ len. len ∙ c.in_ok-tell_out.ensures.len ∙ c.in_ok-pass_to.ensures.len) c.tell_view.ensures.len
