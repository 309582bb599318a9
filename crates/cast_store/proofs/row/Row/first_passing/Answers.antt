use Rattle.std.proofs.Common.{true, false}
use Rattle.cast_store.proofs.Ids.{one_more, all_led, some_received}
use Rattle.cast_store.proofs.row.Row.first_passing.Goals as goal

pub returns-then-passes-clause-some : goal.returns-then-passes-clause-some
returns-then-passes-clause-some g c =
    rw (← c.self.view_is)
    (some_received (λ id. goal.F-post g c.args.passes id true) c.self.inside.ids.all c.self.inside.receipts.items c.in-Some.id
    c.key_of.result c.self.invariant.ids c.key_of.ensures.some c.if-passes.ensures)

pub loop-id-preserved : goal.loop-id-preserved
loop-id-preserved g c = (
  c.loop-id.invariant.0,
  rw c.source_of.ensures (one_more (λ id. goal.F-post g c.args.passes id false)
      c.self.inside.ids.all c.loop-id.after c.in-Some.id c.in-Some.ensures.some c.if-passes.ensures c.loop-id.invariant.1),
)

pub returns-clause-none : goal.returns-clause-none
returns-clause-none g c =
    rw (← c.self.view_is)
    (all_led (λ id. goal.F-post g c.args.passes id false)
    c.self.inside.ids.all c.self.inside.receipts.items c.loop-id.after c.self.invariant.ids c.in_default.ensures.none c.loop-id.invariant.1)
