use Rattle.std.proofs.Common.{◌≡◌, ◌∙◌, ap}
use Rattle.cast_clock.specs.Times.{with_bump, count_in}
use Rattle.cast_message.specs.declared.message.Body.TheVariants as body
use Rattle.cast_message.specs.declared.message.Message.{Message}
use Rattle.cast_rules.specs.Rules.Sending.{send_message}
use Rattle.cast_domain.specs.Records.{records_in}
use Rattle.cast_domain.specs.PartCalls.{local_in, note_sent_by, record_at, time_of}
use Rattle.cast_domain.specs.Calls.{records}
use Rattle.cast_domain.proofs.Loops.{seen_as}
use Rattle.cast_rest.proofs.order.send_places.Goals as goal

pub returns-clause-made : goal.returns-clause-made
returns-clause-made c =
    let d = c.args.domain.now in
    let lent = c.args.lent.now in
    let r = records_in d lent in
    let k = c.args.serial in
    let p = local_in r k in
    let own : c.process-holder.result ≡ p = c.process-holder.ensures in
    let i = c.args.place in
    let name : c.record.result.now.name ≡ (record_at r.groups i).name = ap (λ x. x.name) c.record.ensures in
    let view : c.number-view.result ≡ (record_at r.groups i).here.number =
    c.number-view.ensures ∙ ap (λ x. x.here.number) c.record-2.ensures in
    let time : c.args.time ≡ with_bump (time_of r.delay p) (record_at r.groups i).name p = c.requires.raised in
    let count : c.count-count.result ≡ count_in (with_bump (time_of r.delay p) (record_at r.groups i).name p)
    (record_at r.groups i).name p = c.count-count.ensures ∙ λ j. count_in (time j) (name j) (own j) in
    let made : Message = record {
      id = record {
        group = c.record.result.now.name;
        view = c.number-view.result;
        proc = c.process-holder.result;
        count = c.count-count.result;
      };
      times = c.args.stamp;
      body = body.Order c.args.places;
    } in
    let noted : records_in c.note_sent.new.self lent ≡ note_sent_by r c.process-holder.result made =
    seen_as d c.note_sent.new.self c.in_ok-note_sent.ensures.same lent.shared.now lent.outs.now
    ∙ c.in_ok-note_sent.ensures.made lent.outs.now r.part in
    c.in_ok-send_message.ensures.made
    ∙ (λ j. send_message records (noted j) made)
    ∙ (λ j. send_message records (note_sent_by r (own j) (record {
      id = record { group = name j; view = view j; proc = own j; count = count j };
      times = (c.requires.stamped ∙ time) j;
      body = body.Order c.args.places;
    })) (record {
      id = record { group = name j; view = view j; proc = own j; count = count j };
      times = (c.requires.stamped ∙ time) j;
      body = body.Order c.args.places;
    }))
