use Rattle.std.proofs.Common.{◌≡◌, ◌∙◌, sym, ap, true, false, arith}
use Rattle.std.specs.Prelude.{nat_le}
use Rattle.std.proofs.lemmas.Bool.Decides.{nat_tests}
use Rattle.std.proofs.lemmas.Result.{on_ok_weaker}
use Rattle.cast_stable.specs.Acks.{upto_in}
use Rattle.cast_rules.specs.Rules.Stability.{is_used_ack, tell_more, tell_stable}
use Rattle.cast_domain.specs.Shared.{part_of}
use Rattle.cast_domain.specs.Records.{records_in}
use Rattle.cast_domain.specs.Calls.{records}
use Rattle.cast_handlers.proofs.stability.on_ack.Goals as goal

pub returns-then-not-is_used_ack-clause-made : goal.returns-then-not-is_used_ack-clause-made
returns-then-not-is_used_ack-clause-made c =
    let r = records_in c.args.domain.now c.args.lent.now in
    let unused : is_used_ack records r c.args.place c.args.from c.args.id ≡ false =
    sym (c.is_used_ack.ensures c.args.lent.now.outs.now r.part) ∙ c.if-not-is_used_ack.true in
    rw unused

pub returns-then-id-before-clause-made : goal.returns-then-id-before-clause-made
returns-then-id-before-clause-made c =
    let r = records_in c.args.domain.now c.args.lent.now in
    let u = c.args.id in
    let used : is_used_ack records r c.args.place c.args.from u ≡ true =
    sym (c.is_used_ack.ensures c.args.lent.now.outs.now r.part) ∙ c.if-not-is_used_ack.false in
    let before : c.stable_upto-before.result ≡ upto_in r.acks u = c.stable_upto-before.ensures.value in
    let known : nat_le u.count (upto_in r.acks u) ≡ true = ap (nat_le u.count) (sym before) ∙ grind (arith, nat_tests) in
    let part = part_of c.take_ack.new.domain.config.domain c.take_ack.new.lent.shared.now in
    on_ok_weaker c.tell_stable.result
    (λ told. rw (used, known) (told part ∙ (λ j. tell_stable records u (before j) (c.in_ok-take_ack.ensures.made j) c.args.from)))
    c.tell_stable.ensures

pub returns-clause-made : goal.returns-clause-made
returns-clause-made c =
    let r = records_in c.args.domain.now c.args.lent.now in
    let u = c.args.id in
    let used : is_used_ack records r c.args.place c.args.from u ≡ true =
    sym (c.is_used_ack.ensures c.args.lent.now.outs.now r.part) ∙ c.if-not-is_used_ack.false in
    let before : c.stable_upto-before.result ≡ upto_in r.acks u = c.stable_upto-before.ensures.value in
    let beyond : nat_le u.count (upto_in r.acks u) ≡ false = ap (nat_le u.count) (sym before) ∙ grind (arith, nat_tests) in
    let part = part_of c.take_ack.new.domain.config.domain c.take_ack.new.lent.shared.now in
    on_ok_weaker c.tell_more.result
    (λ told. rw (used, beyond) (told part ∙ (λ j. tell_more records u (before j) (c.in_ok-take_ack.ensures.made j))))
    c.tell_more.ensures
