use Rattle.std.proofs.Common.{◌≡◌, refl, rules}
use Rattle.std.specs.FinMap.Entries.{put}
use Rattle.cast_types.specs.Names.{group_cmp}
use Rattle.cast_ready.specs.Ready.{frozen_gate}
use Rattle.cast_ready.specs.Rows.{gate_in}
use Rattle.cast_delay.proofs.Settled.{gate_settled}
use Rattle.cast_delay.proofs.Passed.{gate_looked}
use Rattle.cast_delay.proofs.queue.Delay.freeze.Goals as goal

-- the group's view is the same
pub invariant_of-self-2 : goal.invariant_of-self-2
invariant_of-self-2 c =
    let d = c.self.inside in
    let gate = (frozen_gate (gate_in d.gates c.args.group)) in
    let gates : c.put.new.self ≡ put group_cmp c.args.group gate d.gates = search rules in
    rw gates (record {
      settled = gate_settled d.gates c.args.group gate refl d.rows d.offered d.settled
          c.self.invariant.settled;
      looked = gate_looked d.gates c.args.group gate refl d.rows d.offered d.waits c.self.invariant.looked;
      lies = c.self.invariant.lies;
    })
