use Rattle.std.proofs.Common.{◌-◌, ◌+◌, ◌/◌, ◌<◌, ℕ, length, slice_index_or, arith}
use Rattle.std.proofs.lemmas.List.Elements.{Contains-get_or}
use Rattle.cast_pace.proofs.Rising.{at_most_all, few_follow, many_follow}
use Rattle.cast_pace.proofs.casts.awaited_in.Goals as goal

pub returns-then-casts-window-clause-none : goal.returns-then-casts-window-clause-none
returns-then-casts-window-clause-none c = omega (arith, at_most_all c.args.oldest c.args.casts.now, c.if-casts-window.true)

pub returns-then-casts-first-clause-none : goal.returns-then-casts-first-clause-none
returns-then-casts-first-clause-none c =
    let first : ℕ = length c.args.casts.now - c.args.window in
    let within : first < length c.args.casts.now = omega (arith, c.requires.some, c.if-casts-window.false) in
    let few = few_follow c.args.oldest 0 c.args.casts.now first c.requires.rise within c.if-casts-first.true in
    omega (arith, c.requires.some, c.if-casts-window.false, few)

pub returns-clause-some : goal.returns-clause-some
returns-clause-some c =
    let first : ℕ = length c.args.casts.now - c.args.window in
    let place : ℕ = first + c.args.window / 4 in
    let within : place < length c.args.casts.now = omega (arith, c.requires.some, c.if-casts-window.false) in (
      omega (
        arith,
        c.if-casts-window.false,
        many_follow c.args.oldest 0 c.args.casts.now first c.requires.rise (omega (arith, c.requires.some, c.if-casts-window.false))
            c.if-casts-first.false,
      ),
      Contains-get_or c.args.casts.now place 0 within,
      omega (
        arith,
        c.requires.some,
        c.if-casts-window.false,
        few_follow (slice_index_or c.args.casts.now place 0) 0 c.args.casts.now place c.requires.rise within (omega arith),
      ),
    )
