use Rattle.std.proofs.Common.{◌≡◌, ◌+◌, List, ◌++◌, sym, ap, ◌∙◌, append_assoc, append-nil, arith, Vec, Global}
use Rattle.cast_timer.specs.declared.key.OwedKey.{OwedKey}
use Rattle.cast_timer.specs.Owed.{due_at}
use Rattle.cast_timer.specs.Rows.{keys_at, owed_in}
use Rattle.cast_timer.proofs.Searches.{at_time, keys_between, next_keys, none_due, past_now}
use Rattle.cast_timer.proofs.moments.due_keys.Goals as goal
use Rattle.cast_timer.proofs.moments.due_keys.Goals.{in-Some+in_ok-add_keys+then-due-now, in_default}

-- the keys of the next moment are given
given_next : (given ks rest more all next : List OwedKey) → given ++ rest ≡ all → rest ≡ ks ++ more → next ≡ given ++ ks →
    next ++ more ≡ all
given_next given ks rest more all next so_far is then =
    ap (λ xs. xs ++ more) then ∙ append_assoc given ks more ∙ ap (λ xs. given ++ xs) (sym is) ∙ so_far

pub loop-due-preserved : goal.loop-due-preserved
loop-due-preserved c =
    let rows = c.args.moments.now.entries in
    let d = c.args.domain in
    let t = c.in-Some.due in
    let next = c.in-Some.ensures.some in
    record {
      within = omega (arith, next.within, c.if-due-now.false);
      given =
          given_next c.loop-due.keys.items (keys_at rows (at_time t d)) (keys_between c.loop-due.from c.args.now (owed_in rows d))
          (keys_between (t + 1) c.args.now (owed_in rows d)) (due_at c.args.now (owed_in rows d)) c.add_keys.new.keys.items
          c.loop-due.invariant.given (next_keys rows d c.requires c.loop-due.from c.args.now t next) c.in_ok-add_keys.ensures;
    }

pub returns : goal.returns
returns c =
    let rows = c.args.moments.now.entries in
    let d = c.args.domain in
    let all = due_at c.args.now (owed_in rows d) in
    elim c.match-next_due.branch [
      | in-Some+in_ok-add_keys+then-due-now w ↦
          let t = w.in-Some.due in
          let given =
          given_next c.loop-due.keys.items (keys_at rows (at_time t d)) (keys_between c.loop-due.from c.args.now (owed_in rows d))
          (keys_between (t + 1) c.args.now (owed_in rows d)) all w.add_keys.new.keys.items
          c.loop-due.invariant.given (next_keys rows d c.requires c.loop-due.from c.args.now t w.in-Some.ensures.some)
          w.in_ok-add_keys.ensures in
          ap (λ (keys : Vec OwedKey Global). keys.items) w.keys-is
          ∙ sym (append-nil w.add_keys.new.keys.items)
          ∙ ap (λ (ks : List OwedKey). w.add_keys.new.keys.items ++ ks)
          (sym (ap (λ n. keys_between (n + 1) c.args.now (owed_in rows d)) w.if-due-now.true ∙ past_now c.args.now (owed_in rows d)))
          ∙ given
      | in_default w ↦
          ap (λ (keys : Vec OwedKey Global). keys.items) w.keys-is
          ∙ sym (append-nil c.loop-due.keys.items)
          ∙ ap (λ (ks : List OwedKey). c.loop-due.keys.items ++ ks)
          (sym (none_due rows d c.requires c.loop-due.from c.args.now w.in_default.ensures.none))
          ∙ c.loop-due.invariant.given
    ]
