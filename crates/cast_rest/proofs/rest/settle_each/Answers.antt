use Rattle.std.proofs.Common.{◌≡◌, ◌+◌, ◌∙◌, false, refl, sym, rules}
use Rattle.std.proofs.lemmas.Bool.{or_parts}
use Rattle.cast_domain.specs.Records.{KeepsBeside, records_in}
use Rattle.cast_domain.specs.Freed.{AreNotFree}
use Rattle.cast_domain.proofs.Loops.{beside_then}
use Rattle.cast_domain.proofs.Skipped.{IsRound, round_begins, round_delivers, round_passes, round_skips}
use Rattle.cast_rest.proofs.rest.settle_each.Goals as goal
use Rattle.cast_rest.proofs.rest.settle_each.Goals.{in-Some+in_ok-delivered, in_default}

pub loop-place-init : goal.loop-place-init
loop-place-init c =
    let first = records_in c.args.domain.now c.args.lent.now in
    record {
      stays = search rules;
      clear = λ none. none;
      round = λ _. round_skips first first _ 0 c.busy_from-place.result (round_begins first)
          c.busy_from-place.ensures.from c.busy_from-place.ensures.idle;
      still = λ _. refl;
    }

pub loop-place-preserved : goal.loop-place-preserved
loop-place-preserved c =
    let first = records_in c.args.domain.now c.args.lent.now in
    let r = records_in c.loop-place.domain c.loop-place.lent in
    let m = c.match-process_at in
    let i = c.loop-place.place in
    let next : KeepsBeside c.args.domain.now c.args.lent.now m.domain m.lent
    × (AreNotFree first → AreNotFree (records_in m.domain m.lent))
    × (AreNotFree first → IsRound first (records_in m.domain m.lent) m.changed (i + 1))
    × (m.changed ≡ false → records_in m.domain m.lent ≡ first) = elim m.branch [
      | in-Some+in_ok-delivered w ↦
          let p = w.in-Some.process in
          rw (w.domain-is, w.lent-is, w.changed-is) (
            beside_then c.loop-place.invariant.stays w.in_ok-delivered.ensures.stays,
            λ none. w.in_ok-delivered.ensures.none (c.loop-place.invariant.clear none),
            λ none. round_delivers first r (records_in w.deliver_to.new.domain w.deliver_to.new.lent)
                c.loop-place.changed w.in_ok-delivered.delivered i p (c.loop-place.invariant.round none) (sym w.in-Some.ensures)
                (w.in_ok-delivered.ensures.made (c.loop-place.invariant.clear none))
                w.in_ok-delivered.ensures.told w.in_ok-delivered.ensures.still,
            λ e.
                let parts =
                or_parts c.loop-place.changed w.in_ok-delivered.delivered e in
                w.in_ok-delivered.ensures.still parts.1 ∙ c.loop-place.invariant.still parts.0,
          )
      | in_default w ↦
          rw (w.domain-is, w.lent-is, w.changed-is) (
            c.loop-place.invariant.stays,
            c.loop-place.invariant.clear,
            λ none. round_passes first r c.loop-place.changed i (c.loop-place.invariant.round none) (sym w.in_default.ensures),
            c.loop-place.invariant.still,
          )
    ] in
    record {
      stays = next.0;
      clear = next.1;
      round = λ none. round_skips first (records_in m.domain m.lent) m.changed (i + 1) c.busy_from-place-in-loop-place.result (next.2 none)
          c.busy_from-place-in-loop-place.ensures.from c.busy_from-place-in-loop-place.ensures.idle;
      still = next.3;
    }
