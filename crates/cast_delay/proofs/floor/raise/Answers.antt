use Rattle.std.proofs.Common.{◌≡◌, sym, ◌∙◌}
use Rattle.cast_ready.specs.DeliveredCounts.{raised_at}
use Rattle.cast_delay.proofs.Floors.{raised_under}
use Rattle.cast_delay.proofs.Reached.{raised_least, raised_own}
use Rattle.cast_delay.proofs.floor.raise.Goals as goal

pub returns-in-Ok-clause-under : goal.returns-in-Ok-clause-under
returns-in-Ok-clause-under c =
    let is : c.raise.new.self ≡ raised_at c.args.source c.args.count c.args.counts.now = c.in-Ok.ensures.ok in
    rw is
    (raised_under c.args.counts.now c.args.rows.now c.args.source c.args.count (sym c.have_passed.ensures ∙ c.if-not-have_passed.false)
    c.requires)

pub returns-in-Ok-clause-rises : goal.returns-in-Ok-clause-rises
returns-in-Ok-clause-rises c = λ s.
    let is : c.raise.new.self ≡ raised_at c.args.source c.args.count c.args.counts.now = c.in-Ok.ensures.ok in
    rw is (raised_least c.args.counts.now c.args.source s c.args.count)

pub returns-in-Ok-clause-raised : goal.returns-in-Ok-clause-raised
returns-in-Ok-clause-raised c = λ _.
    let is : c.raise.new.self ≡ raised_at c.args.source c.args.count c.args.counts.now = c.in-Ok.ensures.ok in
    rw is (raised_own c.args.counts.now c.args.source c.args.count)
