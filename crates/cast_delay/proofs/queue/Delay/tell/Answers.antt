use Rattle.std.proofs.Common.{◌≡◌, rules}
use Rattle.cast_ready.specs.Rows.{told_row}
use Rattle.cast_delay.specs.Queue.{change_row}
use Rattle.cast_delay.specs.Settled.{despite_fact}
use Rattle.cast_delay.specs.Waits.{waits_despite}
use Rattle.cast_delay.proofs.Settled.{tell_settled}
use Rattle.cast_delay.proofs.Passed.{tell_looked}
use Rattle.cast_delay.proofs.queue.Delay.tell.Goals as goal

-- what was settled before the fact is, as far as it is settled despite it
pub settled_from-self-inside-requires : goal.settled_from-self-inside-requires
settled_from-self-inside-requires c =
    let rows : c.tell_rows.new.rows ≡ change_row c.args.process (told_row c.args.fact.now) c.self.inside.rows = search rules in
    let first : c.despite_fact-settled.result ≡ despite_fact c.args.fact.now c.self.inside.settled = search rules in
    rw (rows, first) (tell_settled c.self.inside.gates c.self.inside.rows c.args.process c.args.fact.now c.self.inside.offered
    c.self.inside.settled c.self.invariant.settled)

-- and what was looked at is known
pub invariant_of-self-2 : goal.invariant_of-self-2
invariant_of-self-2 c =
    let d = c.self.inside in
    let rows : c.tell_rows.new.rows ≡ change_row c.args.process (told_row c.args.fact.now) d.rows = search rules in
    let waits : c.forget_told.new.waits ≡ waits_despite c.args.fact.now c.args.process d.waits = search rules in
    record {
      settled = c.settled_from-self-inside.ensures;
      looked = rw (rows, waits) (tell_looked d.gates d.rows c.args.process c.args.fact.now d.offered d.waits c.self.invariant.looked);
      lies = c.tell_rows.ensures.floor;
    }
