use Rattle.std.proofs.Common.{◌≡◌, ◌∙◌}
use Rattle.std.specs.BTreeMap.Range.{entries_between}
use Rattle.std.specs.declared.ops.Bound.TheVariants.{Included}
use Rattle.cast_timer.specs.contracts.key.OwedKeyOrd.TheImpl as keys
use Rattle.cast_timer.proofs.Index.{between, all_owed, none_between}
use Rattle.cast_timer.proofs.frames.upto.Goals as goal

pub loop-owed-init : goal.loop-owed-init
loop-owed-init c =
    let key = c.args.key.now in
    let dues = c.args.dues.now.entries in
    let all : c.into_iter-owed-iterator.result ≡ between key dues =
    c.into_iter-owed-iterator.ensures.into_iter_gives
    ∙ c.range-owed-items.ensures.between c.new.ensures.exhausted
    ∙ (λ i. entries_between keys.cmp-value.it (Included (c.new.ensures.start i)) (Included (c.new.ensures.end i)) dues) in
    rw all (all_owed dues key, none_between dues key)
