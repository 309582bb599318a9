use Rattle.std.proofs.Common.{◌≡◌, true, false, Some, Bor, sym, ap, subst, ◌∙◌}
use Rattle.cast_types.specs.declared.names.Uid.{Uid}
use Rattle.cast_types.specs.declared.names.Key.{Key}
use Rattle.cast_index.specs.declared.entry.Entry.{Entry}
use Rattle.cast_index.specs.Index.{has, is_behind, is_from, IsFirstEntry}
use Rattle.cast_index.proofs.Orders.{from_lowest}
use Rattle.cast_index.proofs.Firsts.{first_behind, if_some, none_as, if_found, if_not_found}
use Rattle.cast_index.proofs.index.first_past.Goals as goal

pub returns-in-Some-clause-some : goal.returns-in-Some-clause-some
returns-in-Some-clause-some c =
    let keys = c.args.entries.now.keys in
    if_some (λ (e : Bor Entry). IsFirstEntry keys (is_from c.in-Some.lowest) e.now)
    (λ e. IsFirstEntry keys (λ x. is_behind (Some c.args.source) x.id) e.now)
    (λ e first. first_behind keys c.args.source e.now (subst (λ l. IsFirstEntry keys (is_from l) e.now) c.in-Some.ensures first))
    c.first_from.result c.first_from.ensures.some

pub returns-in-Some-clause-none : goal.returns-in-Some-clause-none
returns-in-Some-clause-none c =
    let keys = c.args.entries.now.keys in
    none_as ((u : Uid) (k : Key) → has keys u k ≡ true → is_from c.in-Some.lowest (record { id = u; number = k.0 }) ≡ false)
    ((u : Uid) (k : Key) → has keys u k ≡ true → is_behind (Some c.args.source) u ≡ false)
    (λ none u k there. sym (from_lowest c.args.source (record { id = u; number = k.0 }))
    ∙ ap (λ l. is_from l (record { id = u; number = k.0 })) (sym c.in-Some.ensures)
    ∙ none u k there)
    c.first_from.result c.first_from.ensures.none

pub returns-in-None-clause-some : goal.returns-in-None-clause-some
returns-in-None-clause-some c =
    if_found c.args.entries.now.keys c.found_past.ensures.rising (λ e. is_behind (Some c.args.source) e.id)
    c.found_past.result c.found_past.ensures.value

pub returns-in-None-clause-none : goal.returns-in-None-clause-none
returns-in-None-clause-none c =
    if_not_found c.args.entries.now.keys (λ e. is_behind (Some c.args.source) e.id) c.found_past.result c.found_past.ensures.value
