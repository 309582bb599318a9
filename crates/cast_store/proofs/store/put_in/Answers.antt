use Rattle.std.proofs.Common.{◌≡◌, ◌∙◌, ◌<◌, ℕ, Option, Some, get_or, length, set, ap, sym, subst, arith}
use Rattle.std.proofs.lemmas.Result.{on_ok_weaker}
use Rattle.cast_store.specs.Lines.{Line, line_of, line_or_empty, with_receipt, ChangesLine}
use Rattle.cast_store.proofs.Lines.{any_default, changes_set, padded_line, padded_changes}
use Rattle.cast_store.proofs.Slots.{when_ok}
use Rattle.cast_store.proofs.store.put_in.Goals as goal

pub returns-clause-ok : goal.returns-clause-ok
returns-clause-ok c =
    let d = c.args.domain in
    let old = c.args.rows.now.items in
    let lines = c.make_place.new.rows.items in
    let place = c.put_at.new.place in
    let padded = c.make_place.ensures.padded in
    let line : Option Line → Option Line = λ o. Some (with_receipt c.args.slots.now.vacant_key c.args.message (line_or_empty o)) in
    let here = when_ok c.make_place.result (sym c.is_err.ensures.value ∙ c.if-is_err.false) c.make_place.ensures.within in
    let within : d.0 < length lines = omega (arith, here, c.make_place.new.rows.ok.0) in
    let was : c.index_mut-row.result.now ≡ line_of old d =
    c.index_mut-row.ensures.value
    ∙ ap (λ (n : ℕ). get_or lines n c.index_mut-row.result.now) c.from.ensures
    ∙ any_default lines d.0 c.index_mut-row.result.now within
    ∙ padded_line old lines padded d in
    on_ok_weaker c.put_at.result
    (λ ok.
    subst (λ (n : ℕ). ChangesLine d (line (line_of old d)) old (set lines n place)) (sym c.from.ensures)
    (padded_changes old lines padded d (line (line_of old d)) (set lines d.0 place)
    (subst (λ (w : Option Line). ChangesLine d w lines (set lines d.0 place)) (ok ∙ ap line was) (changes_set d place lines within))))
    c.put_at.ensures.ok
