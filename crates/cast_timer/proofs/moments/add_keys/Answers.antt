use Rattle.std.proofs.Common.{List, [], ◌∷◌, ◌++◌, sym, ap, ◌∙◌, append_assoc, append-nil}
use Rattle.std.specs.Option.{option_map_or}
use Rattle.std.specs.BTreeSet.{BTreeSet}
use Rattle.std.specs.Prelude.{Option}
use Rattle.cast_timer.specs.declared.key.OwedKey.{OwedKey}
use Rattle.cast_timer.proofs.Rows.{looked_at}
use Rattle.cast_timer.proofs.moments.add_keys.Goals as goal

pub loop-key-preserved : goal.loop-key-preserved
loop-key-preserved c =
    let given = c.loop-key.keys.items in
    rw c.in_ok-push.ensures.items
    (append_assoc given (c.in-Some-key.key.now ∷ []) c.next.new.self
    ∙ ap (λ (ks : List OwedKey). given ++ ks) (sym c.in-Some-key.ensures.steps)
    ∙ c.loop-key.invariant)

pub returns-in-None : goal.returns-in-None
returns-in-None c =
    let given = c.loop-key.keys.items in
    sym (append-nil given)
    ∙ ap (λ (ks : List OwedKey). given ++ ks) (sym c.in-None.ensures.steps.0)
    ∙ c.loop-key.invariant
    ∙ ap (λ (ks : List OwedKey). c.args.keys.now.items ++ ks)
    (c.into_iter-key-iterator.ensures.into_iter_gives.0
    ∙ ap (λ (o : Option (BTreeSet OwedKey)). option_map_or (λ s. s.keys) o [])
    (c.in-Some.ensures.value ∙ looked_at c.args.moment.now c.args.moments.now.entries))
