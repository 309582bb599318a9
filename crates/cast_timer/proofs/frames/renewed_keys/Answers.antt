use Rattle.std.proofs.Common.{◌≡◌, rules, tests, filter, map}
use Rattle.std.specs.Prelude.{IsTrue}
use Rattle.std.specs.Option.{option_map}
use Rattle.cast_types.specs.Rising.{is_rising}
use Rattle.cast_timer.specs.declared.key.OwedKey.{OwedKey}
use Rattle.cast_timer.specs.Owed.{key_cmp}
use Rattle.cast_timer.specs.Rows.{has_key}
use Rattle.cast_timer.specs.Index.{due_of, is_due, renewed_due}
use Rattle.std.specs.BTreeSet.{IsFromIterResult}
use Rattle.std.proofs.lemmas.Result.{IfOk-weaker}
use Rattle.std.proofs.lemmas.Iterator.{YieldsList-from_map}
use Rattle.std.proofs.lemmas.Iterator.Consumers.{YieldsList-at, YieldsList-from_rest, YieldsList-from_filter}
use Rattle.std.proofs.lemmas.Iterator.Adapters.{fact_from_collect}
use Rattle.cast_timer.specs.contracts.key.OwedKeyOrd.TheImpl as keys
use Rattle.cast_timer.proofs.Kept.{is_renewed, renewed_set}
use Rattle.cast_timer.proofs.Rows.{keys_rise}
use Rattle.cast_timer.proofs.frames.renewed_keys.Goals as goal

pub returns-clause-rising : goal.returns-clause-rising
returns-clause-rising c =
    let entries = c.args.dues.now.entries in
    let test = is_renewed c.args.now c.args.due in
    IfOk-weaker c.collect.result (IsFromIterResult keys.cmp-value.it (map (λ e. e.0) (filter test entries)))
    (λ set. IsTrue (is_rising key_cmp set.keys)) (λ set made. keys_rise set.keys made.1)
    (fact_from_collect (IsFromIterResult keys.cmp-value.it) c.collect.result c.collect.ensures.ran
    (YieldsList-from_map _ (λ e. e.0)
    (YieldsList-at c.map.ensures.source
    (YieldsList-from_filter _ test (YieldsList-at c.filter.ensures.source (YieldsList-from_rest entries c.iter.ensures.rest))
    c.filter.ensures.closure (λ x r q k. search (rules, tests))))
    c.map.ensures.closure (λ x r q k. search rules)))

pub returns-clause-keys : goal.returns-clause-keys
returns-clause-keys c =
    let entries = c.args.dues.now.entries in
    let test = is_renewed c.args.now c.args.due in
    IfOk-weaker c.collect.result (IsFromIterResult keys.cmp-value.it (map (λ e. e.0) (filter test entries)))
    (λ set. (q : OwedKey) → has_key q set.keys ≡ is_due c.args.due (option_map (renewed_due c.args.now c.args.due) (due_of entries q)))
    (λ set made q. renewed_set c.args.now c.args.due entries set.keys c.iter.ensures.found made.0 q)
    (fact_from_collect (IsFromIterResult keys.cmp-value.it) c.collect.result c.collect.ensures.ran
    (YieldsList-from_map _ (λ e. e.0)
    (YieldsList-at c.map.ensures.source
    (YieldsList-from_filter _ test (YieldsList-at c.filter.ensures.source (YieldsList-from_rest entries c.iter.ensures.rest))
    c.filter.ensures.closure (λ x r q k. search (rules, tests))))
    c.map.ensures.closure (λ x r q k. search rules)))
