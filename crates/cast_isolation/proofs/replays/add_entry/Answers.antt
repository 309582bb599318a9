use Rattle.std.proofs.Common.{◌≡◌, ◌∙◌, ◌++◌, ◌+◌, ◌-◌, [], ◌∷◌, length, replicate, set, List, ℕ, ap, sym, arith}
use Rattle.cast_message.specs.declared.client.Push.{Push}
use Rattle.cast_isolation.specs.Replays.{by_session}
use Rattle.cast_isolation.proofs.Grouped.{nowhere_more, session_more}
use Rattle.cast_isolation.proofs.replays.add_entry.Goals as goal

pub returns-in_ok-push : goal.returns-in_ok-push
returns-in_ok-push c = λ pushed was.
    let k : ℕ = c.args.serial in
    let lists : List (List Push) = c.reach.new.sessions.items in
    let at : 1 + (k - 1) ≡ k = omega (arith, c.if-serial-gt0.true) in
    let is : lists ≡ by_session pushed ++ replicate (k - length (by_session pushed)) [] =
    c.in_ok-reach.ensures ∙ ap (λ (xs : List (List Push)). xs ++ replicate (k - length xs) []) was in
    ap (set lists (k - 1)) c.in_ok-push.ensures.ok
    ∙ session_more pushed k (k - 1) at c.args.entry lists is c.index_mut.result.now c.index_mut.ensures.value

pub returns-else-serial-gt0 : goal.returns-else-serial-gt0
returns-else-serial-gt0 c = λ pushed was.
    let k : ℕ = c.args.serial in
    let none : k ≡ 0 = omega (arith, c.if-serial-gt0.false) in
    c.in_ok-reach.ensures
    ∙ ap (λ (xs : List (List Push)). xs ++ replicate (k - length xs) []) was
    ∙ ap (λ (n : ℕ). by_session pushed ++ replicate (n - length (by_session pushed)) []) none
    ∙ nowhere_more pushed c.args.entry
    ∙ ap (λ (n : ℕ). by_session (pushed ++ (n, c.args.entry) ∷ [])) (sym none)
