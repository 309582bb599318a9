use Rattle.cast_index.proofs.Lasts.{last_upto_bound, none_upto_bound, if_greatest}
use Rattle.cast_index.proofs.index.last_upto.Goals as goal

pub returns-in-Some-clause-some : goal.returns-in-Some-clause-some
returns-in-Some-clause-some c =
    last_upto_bound c.args.entries.now.keys c.args.source c.in-Some.bound.now c.in-Some.ensures.some c.last_below.result
    c.last_below.ensures.some

pub returns-in-Some-clause-none : goal.returns-in-Some-clause-none
returns-in-Some-clause-none c =
    none_upto_bound c.args.entries.now.keys c.args.source c.in-Some.bound.now c.in-Some.ensures.some c.last_below.result
    c.last_below.ensures.none

pub returns-in-None-clause-some : goal.returns-in-None-clause-some
returns-in-None-clause-some c =
    if_greatest c.args.entries.now.keys c.args.source c.in-None.ensures.none c.last.result c.last.ensures.member c.last.ensures.greatest
