use Rattle.std.proofs.Common.{refl}
use Rattle.cast_sending.specs.Marks.{marks_of}
use Rattle.cast_sending.proofs.Parts.{enters_on, flying, known_first}
use Rattle.cast_sending.proofs.flight.Flight.enter.Goals as goal

pub loop-turn-preserved : goal.loop-turn-preserved
loop-turn-preserved c =
    let inside = c.loop-turn.self-inside in
    let between = flying inside.domain inside.site inside.sent.items inside.early.items in
    let new = flying inside.domain inside.site c.turn_sent.new.line.items inside.early.items in
    record {
      sent = c.turn_sent.ensures.few;
      early = c.loop-turn.invariant.early;
      entered = enters_on c.args.self.now between new c.loop-turn.invariant.entered
          (known_first (marks_of inside.sent.items) (marks_of c.turn_sent.new.line.items) (marks_of inside.early.items)
          c.turn_sent.ensures.known) refl
          refl;
    }

pub loop-turn-2-preserved : goal.loop-turn-2-preserved
loop-turn-2-preserved c =
    let inside = c.loop-turn-2.self-inside in
    let between = flying inside.domain inside.site inside.sent.items inside.early.items in
    let new = flying inside.domain inside.site c.turn_early.new.sent.items c.turn_early.new.early.items in
    record {
      sent = c.turn_early.ensures.few_sent;
      early = c.turn_early.ensures.few_early;
      entered = enters_on c.args.self.now between new c.loop-turn-2.invariant.entered c.turn_early.ensures.known refl refl;
    }
