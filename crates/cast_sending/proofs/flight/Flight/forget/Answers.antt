use Rattle.std.proofs.Common.{[], refl, subst}
use Rattle.cast_sending.specs.Flights.{Flying, Repeats}
use Rattle.cast_sending.proofs.Parts.{repeat_on, early_forgotten, flying}
use Rattle.cast_sending.proofs.flight.Flight.forget.Goals as goal

pub loop-turn-preserved : goal.loop-turn-preserved
loop-turn-preserved c =
    repeat_on c.args.self.now c.loop-turn.self c.leave_first.new.self [] [] c.loop-turn.invariant c.leave_first.ensures

pub loop-turn-2-preserved : goal.loop-turn-2-preserved
loop-turn-2-preserved c =
    let inside = c.self-in-loop-turn-2.inside in
    let old = flying inside.domain inside.site inside.sent.items inside.early.items in
    let new = flying inside.domain inside.site inside.sent.items c.forget_first.new.line.items in
    repeat_on c.args.self.now c.loop-turn-2.self new [] [] c.loop-turn-2.invariant
    (subst (λ (f : Flying). Repeats f new []) c.self-in-loop-turn-2.view_is
    (early_forgotten old new c.forget_first.ensures.part refl refl refl))
