use Rattle.std.proofs.Common.{◌≡◌, true, false, sym, ◌∙◌}
use Rattle.cast_types.specs.declared.names.Uid.{Uid}
use Rattle.cast_types.specs.declared.names.Key.{Key}
use Rattle.cast_index.specs.Index.{has, is_below}
use Rattle.cast_index.proofs.Firsts.{if_none, none_found, none_kept}
use Rattle.cast_index.proofs.Lasts.{kept_below, last_found}
use Rattle.cast_index.proofs.index.last_below.Goals as goal

pub returns-clause-some : goal.returns-clause-some
returns-clause-some c =
    let keys = c.args.entries.now.keys in
    last_found keys c.range.ensures.ordered (is_below c.args.bound) c.in_ok-entry.entry.now c.next_back.new.self
    (sym (kept_below c.args.bound keys) ∙ sym (c.range.ensures.between tt) ∙ c.in_ok-entry.ensures.steps)

pub returns-in_err-entry-clause-none : goal.returns-in_err-entry-clause-none
returns-in_err-entry-clause-none c =
    let keys = c.args.entries.now.keys in
    if_none ((u : Uid) (k : Key) → has keys u k ≡ true → is_below c.args.bound (record { id = u; number = k.0 }) ≡ false)
    (none_found keys (is_below c.args.bound)
    (none_kept (is_below c.args.bound)
    keys (sym (kept_below c.args.bound keys) ∙ sym (c.range.ensures.between tt) ∙ c.in_err-entry.ensures.steps.0))) c.from_residual.result
