use Rattle.std.proofs.Common.{◌≡◌, ◌<◌, Some, None, arith, rules}
use Rattle.std.proofs.lemmas.Bool.{eqb-true}
use Rattle.cast_message.specs.Receipts.{key_eq}
use Rattle.cast_ready.specs.declared.offered.Offered.{Offered}
use Rattle.cast_delay.specs.declared.looked.Looked.{Looked}
use Rattle.cast_delay.specs.Queue.{offered_under}
use Rattle.cast_delay.proofs.Looks.{waking_none, waking_one, within_less, within_more}
use Rattle.cast_delay.proofs.MemberLemmas.{found_member}
use Rattle.cast_delay.proofs.looked.Looked.wake_one.Goals as goal

pub returns-in_ok-judge-clause-within : goal.returns-in_ok-judge-clause-within
returns-in_ok-judge-clause-within c =
    let old = c.args.self.now in
    let mid : Looked = record old { filed = c.remove.new.self } in
    let m = c.in-Some.message.now in
    let under : offered_under c.args.offered.now c.args.key ≡ Some m = search rules in
    let same = eqb-true m.key.0 c.args.key.0 (found_member (λ (x : Offered). key_eq x.key c.args.key) c.args.offered.now m under).1 in
    let lt : m.key.0 < old.below = omega (arith, same, c.requires.within.filed c.args.id c.args.key c.requires.there) in
    within_more m.key mid c.judge.new.self c.in_ok-judge.ensures.adds lt
    (within_less c.args.id c.args.key old mid (omega arith) (λ k is. is) c.remove.ensures c.requires.within)

pub returns-in_ok-judge-clause-waking : goal.returns-in_ok-judge-clause-waking
returns-in_ok-judge-clause-waking c =
    let old = c.args.self.now in
    let mid : Looked = record old { filed = c.remove.new.self } in
    let m = c.in-Some.message.now in
    let under : offered_under c.args.offered.now c.args.key ≡ Some m = search rules in
    waking_one c.args.gates.now c.args.row.now c.args.offered.now c.requires.rising c.args.id c.args.key old mid (λ k is. is)
    c.remove.ensures m c.judge.new.self under c.in_ok-judge.ensures.known c.in_ok-judge.ensures.adds

pub returns-in_default-clause-waking : goal.returns-in_default-clause-waking
returns-in_default-clause-waking c =
    let old = c.args.self.now in
    let mid : Looked = record old { filed = c.remove.new.self } in
    let none : offered_under c.args.offered.now c.args.key ≡ None = search rules in
    waking_none c.args.gates.now c.args.row.now c.args.offered.now c.requires.rising c.args.id c.args.key old mid (λ k is. is)
    c.remove.ensures none
