use Rattle.std.proofs.Common.{◌+◌, List, length, sym, ap, arith}
use Rattle.std.proofs.lemmas.Bool.{false_from_ne_true, lt-ltb, ltb-true}
use Rattle.std.specs.Prelude.{nat_lt}
use Rattle.cast_timer.specs.declared.key.OwedKey.{OwedKey}
use Rattle.cast_timer.specs.Owed.{due_at}
use Rattle.cast_timer.specs.Rows.{owed_in}
use Rattle.cast_timer.proofs.Searches.{keys_between, next_count, none_due, past_now}
use Rattle.cast_timer.proofs.moments.are_more_due.Goals as goal

pub loop-due-preserved : goal.loop-due-preserved
loop-due-preserved c =
    let next = c.in-Some.ensures.some in
    let counts = next_count c.args.moments.now.entries c.args.domain c.requires c.loop-due.from c.args.now c.in-Some.due next in
    record {
      within = omega (arith, next.within, c.if-due-now.false);
      counted = omega (arith, counts, c.loop-due.invariant.counted, c.count_at-count.ensures, c.if-left-count.false);
    }

pub returns-then-left-count : goal.returns-then-left-count
returns-then-left-count c =
    let rows = c.args.moments.now.entries in
    let counts = next_count rows c.args.domain c.requires c.loop-due.from c.args.now c.in-Some.due c.in-Some.ensures.some in
    let all = length (due_at c.args.now (owed_in rows c.args.domain)) in
    sym (lt-ltb c.args.limit all (omega (arith, counts, c.loop-due.invariant.counted, c.count_at-count.ensures, c.if-left-count.true)))

pub returns-then-due-now : goal.returns-then-due-now
returns-then-due-now c =
    let rows = c.args.moments.now.entries in
    let d = c.args.domain in
    let counts = next_count rows d c.requires c.loop-due.from c.args.now c.in-Some.due c.in-Some.ensures.some in
    let all = length (due_at c.args.now (owed_in rows d)) in
    let rest = ap (λ n. length (keys_between (n + 1) c.args.now (owed_in rows d))) c.if-due-now.true in
    let none = ap (λ (ks : List OwedKey). length ks) (past_now c.args.now (owed_in rows d)) in
    sym (false_from_ne_true (nat_lt c.args.limit all) (λ lt. absurd (omega (
      arith,
      ltb-true c.args.limit all
          lt,
      counts,
      rest,
      none,
      c.loop-due.invariant.counted,
      c.count_at-count.ensures,
      c.if-left-count.false,
    ))))

pub returns-in_default : goal.returns-in_default
returns-in_default c =
    let rows = c.args.moments.now.entries in
    let d = c.args.domain in
    let all = length (due_at c.args.now (owed_in rows d)) in
    let none = ap (λ (ks : List OwedKey). length ks) (none_due rows d c.requires c.loop-due.from c.args.now c.in_default.ensures.none) in
    sym (false_from_ne_true (nat_lt c.args.limit all)
    (λ lt. absurd (omega (arith, ltb-true c.args.limit all lt, none, c.loop-due.invariant.counted))))
