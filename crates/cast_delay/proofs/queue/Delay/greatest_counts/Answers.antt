use Rattle.std.proofs.Common.{rules, ◌≡◌, ◌∙◌}
use Rattle.std.proofs.lemmas.Result.{IfOk-weaker}
use Rattle.cast_ready.specs.DeliveredCounts.{counts_in}
use Rattle.cast_delay.specs.Says.{SaysReached}
use Rattle.cast_delay.proofs.Queues.{reached_says}
use Rattle.cast_delay.proofs.queue.Delay.greatest_counts.Goals as goal

pub returns-clause-meaning : goal.returns-clause-meaning
returns-clause-meaning c =
    let q = c.args.self.now in
    let own : counts_in c.args.group c.args.view c.self.inside.reached ≡ counts_in c.args.group c.args.view q.reached = search rules in
    IfOk-weaker c.counts.result (λ counts. counts.items ≡ counts_in c.args.group c.args.view c.self.inside.reached)
    (λ counts. SaysReached q c.args.group c.args.view counts.items)
    (λ counts is. reached_says q c.args.group c.args.view counts.items (is ∙ own)) c.counts.ensures
