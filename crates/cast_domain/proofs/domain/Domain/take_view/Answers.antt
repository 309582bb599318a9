use Rattle.std.proofs.Common.{◌≡◌, ◌<◌, ◌∙◌, ap, length, arith}
use Rattle.std.proofs.lemmas.Result.{on_ok_weaker}
use Rattle.cast_types.specs.Places.{update}
use Rattle.cast_delay.specs.Queue.{queue_viewing}
use Rattle.cast_stable.specs.Acks.{told_ledger}
use Rattle.cast_order.specs.Log.{but_log}
use Rattle.cast_view.specs.MemberSide.{holder_at, members_of, with_view}
use Rattle.cast_view.specs.Sites.{other_sites}
use Rattle.cast_domain.specs.Records.{Records, records_of}
use Rattle.cast_domain.specs.PartCalls.{record_at}
use Rattle.cast_domain.specs.ViewCalls.{holding_from}
use Rattle.cast_domain.proofs.Loops.{record_at_update}
use Rattle.cast_domain.proofs.domain.Domain.take_view.Goals as goal

pub returns-clause-made : goal.returns-clause-made
returns-clause-made c =
    on_ok_weaker c.hold_from.result
    (λ made o part.
    let r = records_of c.args.self.now part o in
    let i = c.args.place in
    let n = c.args.view in
    let members = c.args.members.now in
    let within : i < length r.groups = omega arith in
    let name : c.record.result.now.name ≡ (record_at r.groups i).name = ap (λ x. x.name) c.record.ensures in
    let there : record_at c.view_at.new.groups.items i
    ≡ record (record_at r.groups i) { here = with_view r.site n members (record_at r.groups i).here } =
    ap (λ xs. record_at xs i) c.in_ok-view_at.ensures.items
    ∙ record_at_update (λ x. record x { here = with_view r.site n members x.here }) r.groups i within in
    let others : c.in_ok-others.others ≡ other_sites r.site (members_of (with_view r.site n members (record_at r.groups i).here)) =
    c.in_ok-others.ensures ∙ ap (other_sites r.site) (c.members.ensures.value ∙ ap (λ x. members_of x.here) (c.record-2.ensures ∙ there)) in
    let mid : Records = record r {
      groups = c.view_at.new.groups.items;
      delay = c.note_view.new.self;
      acks = c.tell.new.self;
      orders = c.forget.new.self;
    } in
    let before : mid ≡ (record r {
      groups = update r.groups i (λ x. record x { here = with_view r.site n members x.here });
      delay = queue_viewing (record_at r.groups i).name n r.delay;
      acks = told_ledger r.acks (record_at r.groups i).name n
          (other_sites r.site (members_of (with_view r.site n members (record_at r.groups i).here)));
      orders = but_log (record_at r.groups i).name r.orders;
    }) =
    (λ j. record r {
      groups = c.in_ok-view_at.ensures.items j;
      delay = c.in_ok-note_view.ensures j;
      acks = c.in_ok-tell.ensures.ok j;
      orders = c.forget.ensures j;
    })
    ∙ (λ j. record r {
      groups = update r.groups i (λ x. record x { here = with_view r.site n members x.here });
      delay = queue_viewing (name j) n r.delay;
      acks = told_ledger r.acks (name j) n (others j);
      orders = but_log (name j) r.orders;
    }) in
    made o part ∙ (λ j. record (before j) { orders = holding_from (name j) (holder_at r.site (there j).here) (before j).orders }))
    c.hold_from.ensures.made
