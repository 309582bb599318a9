-- What of a message that was sent says how often it may be sent again.
use Rattle.std.specs.Prelude.{List, map}
use Rattle.cast_sending.specs.declared.sent.Sent.{Sent}
use Rattle.cast_sending.specs.Flights.{Mark}

abbrev pub mark_of : Sent → Mark
mark_of sent = (sent.message, sent.left)

abbrev pub marks_of : List Sent → List Mark
marks_of sent = map mark_of sent
