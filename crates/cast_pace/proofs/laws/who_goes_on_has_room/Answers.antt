use Rattle.cast_pace.proofs.Rising.{who_goes_on_has_room}
use Rattle.cast_pace.proofs.laws.who_goes_on_has_room.Goals as goal

pub returns : goal.returns
returns c = who_goes_on_has_room
