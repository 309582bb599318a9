use Rattle.std.proofs.Common.{◌≡◌, ◌||◌, ap, ◌∙◌}
use Rattle.std.specs.Prelude.{◌==◌}
use Rattle.std.specs.Ordering.{nat_cmp}
use Rattle.cast_stable.specs.Runs.{Run, contains, insert_count}
use Rattle.cast_types.proofs.Maps.{insert_key_adds}
use Rattle.cast_stable.proofs.Runs.{meant, still_run, inserted_next, inserted_apart}
use Rattle.cast_stable.proofs.counted.Counted.insert.Goals as goal

-- the count goes on with the run
pub invariant_of-self : goal.invariant_of-self
invariant_of-self c =
    let run : Run = record { upto = c.self.inside.upto; above = c.self.inside.above.keys } in
    let next : Run = record { upto = c.absorb-self-inside.result; above = c.absorb-self-inside.new.above.keys } in
    let same : next ≡ insert_count run c.args.count =
    inserted_next run c.args.count c.if-count-self.false next.upto next.above c.if-count-self-2.true c.absorb-self-inside.ensures.last
    c.absorb-self-inside.ensures.rest in
    still_run run next c.args.count same c.self.invariant

pub returns-then-count-self-2-clause-meaning : goal.returns-then-count-self-2-clause-meaning
returns-then-count-self-2-clause-meaning c m positive =
    let run : Run = record { upto = c.self.inside.upto; above = c.self.inside.above.keys } in
    let next : Run = record { upto = c.absorb-self-inside.result; above = c.absorb-self-inside.new.above.keys } in
    let same : next ≡ insert_count run c.args.count =
    inserted_next run c.args.count c.if-count-self.false next.upto next.above c.if-count-self-2.true c.absorb-self-inside.ensures.last
    c.absorb-self-inside.ensures.rest in
    meant run next c.args.count same m positive ∙ ap (λ (r : Run). contains r m || (m == c.args.count)) c.self.view_is

-- or stands apart from it
abbrev run_of : goal.In_ok-insert → Run
run_of c = record { upto = c.self.inside.upto; above = c.self.inside.above.keys }

abbrev next_of : goal.In_ok-insert → Run
next_of c = record { upto = c.self.inside.upto; above = c.insert.new.self.keys }

apart : (c : goal.In_ok-insert) → next_of c ≡ insert_count (run_of c) c.args.count
apart c =
    inserted_apart (run_of c) c.args.count c.if-count-self.false (next_of c).above c.if-count-self-2.false
    (c.in_ok-insert.ensures.keys ∙ insert_key_adds nat_cmp c.args.count (run_of c).above)

pub invariant_of-self-2 : goal.invariant_of-self-2
invariant_of-self-2 c = still_run (run_of c) (next_of c) c.args.count (apart c) c.self.invariant

pub returns-clause-ok : goal.returns-clause-ok
returns-clause-ok c = apart c ∙ ap (λ r. insert_count r c.args.count) c.self.view_is

pub returns-clause-meaning : goal.returns-clause-meaning
returns-clause-meaning c m positive =
    meant (run_of c) (next_of c) c.args.count (apart c) m positive ∙ ap (λ (r : Run). contains r m || (m == c.args.count)) c.self.view_is
