use Rattle.std.proofs.Common.{◌≡◌, true, false, sym, ◌∙◌}
use Rattle.cast_types.specs.declared.names.Uid.{Uid}
use Rattle.cast_types.specs.declared.names.Key.{Key}
use Rattle.cast_index.specs.Index.{has, is_from}
use Rattle.cast_index.proofs.Firsts.{first_found, none_found, head_found, none_kept, kept_from, if_none}
use Rattle.cast_index.proofs.index.first_from.Goals as goal

pub returns-clause-some : goal.returns-clause-some
returns-clause-some c =
    let keys = c.args.entries.now.keys in
    first_found keys c.range.ensures.ordered (is_from c.args.lowest) c.in_ok-entry.entry.now
    (head_found (is_from c.args.lowest) keys c.in_ok-entry.entry.now c.next.new.self
    (sym (kept_from c.args.lowest keys) ∙ sym (c.range.ensures.between tt) ∙ c.in_ok-entry.ensures.steps))

pub returns-in_err-entry-clause-none : goal.returns-in_err-entry-clause-none
returns-in_err-entry-clause-none c =
    let keys = c.args.entries.now.keys in
    if_none ((u : Uid) (k : Key) → has keys u k ≡ true → is_from c.args.lowest (record { id = u; number = k.0 }) ≡ false)
    (none_found keys (is_from c.args.lowest)
    (none_kept (is_from c.args.lowest)
    keys (sym (kept_from c.args.lowest keys) ∙ sym (c.range.ensures.between tt) ∙ c.in_err-entry.ensures.steps.0))) c.from_residual.result
