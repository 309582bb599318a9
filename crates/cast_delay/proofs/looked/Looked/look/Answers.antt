use Rattle.std.proofs.Common.{◌≡◌, ◌<◌, ◌≤◌, ◌∙◌, List, length, get_or, Contains, subst, sym, arith, rules}
use Rattle.std.specs.Prelude.{nat_lt}
use Rattle.std.proofs.lemmas.Bool.{ltb-true}
use Rattle.std.proofs.lemmas.List.{take_all}
use Rattle.cast_ready.specs.declared.offered.Offered.{Offered}
use Rattle.cast_delay.specs.Offers.{key_of}
use Rattle.cast_delay.proofs.ListLemmas.{all_each}
use Rattle.cast_delay.proofs.Looks.{first_more, within_more}
use Rattle.cast_delay.proofs.looked.Looked.look.Goals as goal

-- one more is known
pub loop-place-preserved : goal.loop-place-preserved
loop-place-preserved c =
    let offered = c.args.offered.now in
    let m : Offered = c.at.result.now in
    let old = c.loop-place.self in
    let new = c.judge.new.self in
    let adds = c.in_ok-judge.ensures.adds in
    let lt : c.loop-place.place < length offered = search rules in
    let at : m ≡ get_or offered c.loop-place.place m = search rules in
    let below =
    ltb-true m.key.0 c.args.above
    (all_each (λ (o : Offered). nat_lt (key_of o) c.args.above) offered c.requires.above m (c.loop-place.place, lt, sym at)) in
    record {
      each = first_more c.args.gates.now c.args.row.now m.key old new adds offered c.loop-place.place m lt at c.in_ok-judge.ensures.known
          c.loop-place.invariant.each;
      within = within_more m.key old new adds (omega (arith, below, c.loop-place.invariant.above)) c.loop-place.invariant.within;
      above = omega (arith, c.loop-place.invariant.above, adds.below);
      process = adds.process ∙ c.loop-place.invariant.process;
    }

pub returns-clause-known : goal.returns-clause-known
returns-clause-known c =
    let offered = c.args.offered.now in
    let all : length offered ≤ c.loop-place.place = search rules in
    record {
      within = c.loop-place.invariant.within;
      each = λ o there lt. c.loop-place.invariant.each o
          (subst (λ (xs : List Offered). Contains xs o) (sym (take_all c.loop-place.place offered all)) there);
    }
