-- Which frames between a program and its daemon are no longer than one may be.
use Rattle.std.specs.Prelude.{Bool, true, nat_le, length}
use Rattle.cast_message.specs.declared.client.Request.{Request}
use Rattle.cast_message.specs.declared.client.Request.TheVariants.{Join, Leave, Cast, Pass}
use Rattle.cast_message.specs.declared.client.ClientFrame.{ClientFrame}
use Rattle.cast_message.specs.declared.client.ClientFrame.TheVariants as client

-- the frame is no longer than one may be; only a payload that a program sends may be too long
abbrev pub request_fits : Request → Bool
request_fits (Join tag g) = true
request_fits (Leave tag g) = true
request_fits (Cast tag g kind payload) = nat_le (length payload) 19988
request_fits (Pass tag g to) = true

abbrev pub client_fits : ClientFrame → Bool
client_fits (client.Request r) = request_fits r
client_fits (client.Push p) = true
