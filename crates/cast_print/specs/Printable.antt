-- The events that have a line in a script: every number is in its range.
use Rattle.std.specs.Prelude.{ℕ, ◌<◌, ◌^◌}
use Rattle.hex.specs.Hex.{IsBytes}
use Rattle.cast_types.specs.declared.names.DomainNo.{DomainNo}
use Rattle.cast_message.specs.declared.message.Body.{Body}
use Rattle.cast_message.specs.declared.message.Body.TheVariants as body
use Rattle.cast_message.specs.declared.client.Request.{Request}
use Rattle.cast_message.specs.declared.client.Request.TheVariants as request
use Rattle.cast_message.specs.declared.client.Command.TheVariants as command
use Rattle.cast_message.specs.declared.site.SiteFrame.{SiteFrame}
use Rattle.cast_message.specs.declared.site.SiteFrame.TheVariants as frame
use Rattle.cast_frame.specs.Spelled.{IsSpelled}
use Rattle.cast_events.specs.declared.event.Event.{Event}
use Rattle.cast_events.specs.declared.event.Event.TheVariants as event
use Rattle.cast_script.specs.Words.{IsDomain, IsNumber, IsProc, IsSite}
use Rattle.cast_script.specs.Lines.{AreNumbers}

-- the payload of a message, if it has one, is of bytes
abbrev pub IsByteBody : Body → Type 0
IsByteBody (body.Causal payload) = IsBytes payload
IsByteBody (body.Atomic payload) = IsBytes payload
IsByteBody (body.Order sequence) = Unit {0}

-- that of the message of a frame, if it has one
abbrev pub IsByteFrame : SiteFrame → Type 0
IsByteFrame (frame.Data m) = IsByteBody m.body
IsByteFrame (frame.Ack u) = Unit {0}
IsByteFrame (frame.Stable u) = Unit {0}
IsByteFrame (frame.Ask g number change p) = Unit {0}
IsByteFrame (frame.Asked g number full) = Unit {0}
IsByteFrame (frame.Prepare g view) = Unit {0}
IsByteFrame (frame.Flushed g view counts tail kept) = Unit {0}
IsByteFrame (frame.Want u) = Unit {0}
IsByteFrame (frame.Forward m) = IsByteBody m.body
IsByteFrame (frame.Install g view members request cut tail) = Unit {0}
IsByteFrame (frame.Installed g view) = Unit {0}
IsByteFrame (frame.Out g view) = Unit {0}

abbrev pub IsPrintableRequest : DomainNo → ℕ → Request → Type 0
IsPrintableRequest d serial (request.Join tag group) = AreNumbers d serial tag group
IsPrintableRequest d serial (request.Leave tag group) = AreNumbers d serial tag group
IsPrintableRequest d serial (request.Cast tag group how payload) =
    AreNumbers d serial tag group × IsBytes payload
IsPrintableRequest d serial (request.Pass tag group to) = AreNumbers d serial tag group × IsProc to

abbrev pub IsPrintable : Event → Type 0
IsPrintable (event.Open d) = IsDomain d
IsPrintable (event.Command d serial (command.Request r)) = IsPrintableRequest d serial r
IsPrintable (event.Command d serial command.Bad) = IsDomain d × IsNumber serial
IsPrintable (event.Gone d serial) = IsDomain d × IsNumber serial
IsPrintable (event.Frame d s f) = IsSpelled d s f × IsByteFrame f
IsPrintable (event.Suspect d site) = IsDomain d × IsSite site
IsPrintable (event.Quota d name value) = IsDomain d × IsNumber value
IsPrintable (event.Take d serial most) = IsDomain d × IsNumber serial × IsNumber most
IsPrintable (event.Tick now) = now < 2 ^ 64
