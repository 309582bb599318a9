use Rattle.cast_sending.proofs.Parts.{answers_on}
use Rattle.cast_sending.proofs.flight.Flight.repeat_lost.Goals as goal

pub loop-turn-preserved : goal.loop-turn-preserved
loop-turn-preserved c =
    answers_on c.args.self.now c.loop-turn.self c.repeat.new.self c.loop-turn._turn 1 c.args.outs.now c.loop-turn.outs c.repeat.new.outs
    c.loop-turn.invariant c.repeat.ensures
