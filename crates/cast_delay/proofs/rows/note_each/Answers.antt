use Rattle.std.proofs.Common.{◌≡◌, ◌∙◌, ◌++◌, ◌∷◌, [], sym, ap, length, take, arith, rules}
use Rattle.std.specs.Prelude.{not, if◌then◌else◌}
use Rattle.std.specs.Vec.{vec_capacity, vec_len}
use Rattle.std.proofs.lemmas.List.{length-take-le}
use Rattle.cast_delay.proofs.Busy.{places_at_most, places_next}
use Rattle.cast_delay.proofs.rows.note_each.Goals as goal
use Rattle.cast_delay.proofs.rows.note_each.Goals.{then-not-is_idle, else-not-is_idle}

-- no more are noted than rows were passed
pub push_reserved-requires : goal.push_reserved-requires
push_reserved-requires c =
    let rows = c.args.rows.now in
    let passed = take c.loop-place.place rows in
    let len : vec_len c.loop-place.busy ≡ length c.loop-place.busy.items = search rules in
    let short : length passed ≡ c.loop-place.place = length-take-le c.loop-place.place rows (omega (arith, c.loop-place-test.true)) in
    omega (
      arith,
      len,
      ap length c.loop-place.invariant.noted,
      places_at_most 0 passed,
      short,
      c.loop-place-test.true,
      c.loop-place.invariant.room,
    )

-- of the row that is passed the place is noted where it is busy
pub loop-place-preserved : goal.loop-place-preserved
loop-place-preserved c =
    let row = c.index-rows-place.result in
    let was = c.loop-place.busy.items in
    let next =
    places_next c.args.rows.now was c.loop-place.place row c.loop-place.invariant.noted c.loop-place-test.true c.index-rows-place.is in
    elim c.if-not-is_idle.branch [
      | then-not-is_idle w ↦ record {
        noted =
            ap (λ v. v.items) w.busy-is
            ∙ w.push_reserved.ensures.items
            ∙ sym (next ∙ ap (λ b. if not b then was ++ c.loop-place.place ∷ [] else was) (sym w.if-not-is_idle.ensures));
        room = omega (arith, ap vec_capacity w.busy-is, w.push_reserved.ensures.capacity, c.loop-place.invariant.room);
      }
      | else-not-is_idle w ↦ record {
        noted = ap (λ v. v.items) w.busy-is
            ∙ sym (next ∙ ap (λ b. if not b then was ++ c.loop-place.place ∷ [] else was) (sym w.if-not-is_idle.ensures));
        room = omega (arith, ap vec_capacity w.busy-is, c.loop-place.invariant.room);
      }
    ]
