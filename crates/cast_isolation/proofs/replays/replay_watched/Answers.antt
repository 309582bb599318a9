use Rattle.cast_table.specs.Tables.{domains_of, lent_of}
use Rattle.cast_isolation.proofs.SoFars.{ordered, so_far_all}
use Rattle.cast_isolation.proofs.Replayed.{replayed, answered_all, told_no_domain}
use Rattle.cast_isolation.proofs.replays.replay_watched.Goals as goal

pub returns-clause-all : goal.returns-clause-all
returns-clause-all g c =
    let last = lent_of c.apply_each.new.table c.apply_each.new.outs in
    let so_far =
    so_far_all (ordered c.args.config) c.args.events.now c.in_ok-answers.answers (lent_of c.in_ok-table.table c.new-outs.result) last
    (domains_of c.in_ok-table.table) (domains_of c.apply_each.new.table)
    c.new-outs.ensures c.in_ok-table.ensures.unshared c.in_ok-table.ensures.domains c.in_ok-answers.ensures in
    answered_all (ordered c.args.config) c.args.events.now c.in_ok-answers.answers last (domains_of c.apply_each.new.table) so_far

pub returns-clause-replayed : goal.returns-clause-replayed
returns-clause-replayed g c =
    let last = lent_of c.apply_each.new.table c.apply_each.new.outs in
    let so_far =
    so_far_all (ordered c.args.config) c.args.events.now c.in_ok-answers.answers (lent_of c.in_ok-table.table c.new-outs.result) last
    (domains_of c.in_ok-table.table) (domains_of c.apply_each.new.table)
    c.new-outs.ensures c.in_ok-table.ensures.unshared c.in_ok-table.ensures.domains c.in_ok-answers.ensures in
    replayed c.args.config c.args.events.now (record { answers = c.in_ok-answers.answers; given = c.in_ok-given.given }) last
    (domains_of c.apply_each.new.table) c.in_ok-given.ensures so_far

pub returns-clause-no_domain : goal.returns-clause-no_domain
returns-clause-no_domain g c =
    let last = lent_of c.apply_each.new.table c.apply_each.new.outs in
    let so_far =
    so_far_all (ordered c.args.config) c.args.events.now c.in_ok-answers.answers (lent_of c.in_ok-table.table c.new-outs.result) last
    (domains_of c.in_ok-table.table) (domains_of c.apply_each.new.table)
    c.new-outs.ensures c.in_ok-table.ensures.unshared c.in_ok-table.ensures.domains c.in_ok-answers.ensures in
    told_no_domain c.args.config c.args.events.now c.in_ok-answers.answers last (domains_of c.apply_each.new.table) so_far
