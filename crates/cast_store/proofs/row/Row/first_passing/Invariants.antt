use Rattle.std.proofs.Common.{false}
use Rattle.cast_index.specs.Index.{behind_count}
use Rattle.cast_store.proofs.Ids.{HasFailed}
use Rattle.cast_store.proofs.row.Row.first_passing.Given as goal

-- of each source that is passed over an id with no greater count failed
abbrev pub invariant-loop-id : goal.invariant-loop-id
invariant-loop-id g l =
    goal.F-IsAlwaysCallable g l.passes × HasFailed (λ id. goal.F-post g l.fn.passes id false) l.self-inside.ids.all l.after

abbrev pub decreases-loop-id : goal.decreases-loop-id
decreases-loop-id g l = behind_count l.self-inside.ids.all l.after
