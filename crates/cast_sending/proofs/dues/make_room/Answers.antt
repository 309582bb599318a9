use Rattle.std.proofs.Common.{◌∙◌, sym, arith}
use Rattle.cast_sending.proofs.Known.{all_forgotten, known_stays, few_stay}
use Rattle.cast_sending.proofs.dues.make_room.Goals as goal
use Rattle.cast_sending.proofs.dues.make_room.Goals.{else-len-ge-MOST_DUE-via-then-len-ge-MOST_DUE+else-not-contains_key}
use Rattle.cast_sending.proofs.dues.make_room.Goals.{else-len-ge-MOST_DUE-via-else-len-ge-MOST_DUE}

pub returns-then-not-contains_key : goal.returns-then-not-contains_key
returns-then-not-contains_key c =
    c.clear.ensures.empty
    ∙ sym (all_forgotten c.args.dues.now.entries c.args.id (omega (arith, c.if-len-ge-MOST_DUE.true, c.len.ensures.len))
    (sym c.contains_key.ensures ∙ c.if-not-contains_key.true))

pub returns-else-len-ge-MOST_DUE : goal.returns-else-len-ge-MOST_DUE
returns-else-len-ge-MOST_DUE c =
    let dues = c.args.dues.now.entries in
    elim c.else-len-ge-MOST_DUE.branch [
      | else-len-ge-MOST_DUE-via-then-len-ge-MOST_DUE+else-not-contains_key w ↦
          sym (known_stays dues c.args.id (sym w.contains_key.ensures ∙ w.if-not-contains_key.false))
      | else-len-ge-MOST_DUE-via-else-len-ge-MOST_DUE w ↦
          sym (few_stay dues c.args.id (omega (arith, w.if-len-ge-MOST_DUE.false, c.len.ensures.len)))
    ]
