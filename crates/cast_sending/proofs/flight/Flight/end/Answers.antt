use Rattle.std.proofs.Common.{◌<◌, length, refl, subst, arith}
use Rattle.cast_sending.specs.Flights.{Flying, LosesOne}
use Rattle.cast_sending.proofs.Parts.{flying, loses_one}
use Rattle.cast_sending.proofs.flight.Flight.end.Goals as goal

pub returns-then-sent-lt-REPEATS : goal.returns-then-sent-lt-REPEATS
returns-then-sent-lt-REPEATS c =
    let inside = c.self.inside in
    let old = flying inside.domain inside.site inside.sent.items inside.early.items in
    let rest = c.remove.new.self.items in
    let new = flying inside.domain inside.site c.count_later.new.line.items inside.early.items in
    let within : c.args.place < length inside.sent.items = omega (arith, c.in_ok-sent.ensures.variant.0 refl, inside.sent.ok.0) in
    rw c.note_trip.ensures
    (subst (λ (f : Flying). LosesOne f c.args.place new) c.self.view_is
    (loses_one old new inside.sent.items rest c.args.place within refl c.in_ok-sent.ensures.items c.count_later.ensures refl refl
    refl))

pub returns : goal.returns
returns c =
    let inside = c.self.inside in
    let old = flying inside.domain inside.site inside.sent.items inside.early.items in
    let rest = c.remove.new.self.items in
    let new = flying inside.domain inside.site c.count_later.new.line.items inside.early.items in
    let within : c.args.place < length inside.sent.items = omega (arith, c.in_ok-sent.ensures.variant.0 refl, inside.sent.ok.0) in
    rw c.note_trip.ensures
    (subst (λ (f : Flying). LosesOne f c.args.place new) c.self.view_is
    (loses_one old new inside.sent.items rest c.args.place within refl c.in_ok-sent.ensures.items c.count_later.ensures refl refl
    refl))
