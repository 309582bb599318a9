use Rattle.std.proofs.Common.{◌≡◌, drop, Ok, Err, arith}
use Rattle.cast_message.specs.declared.client.ClientFrame.TheVariants as client
use Rattle.cast_field.specs.declared.fault.FrameFault.TheVariants.{WrongType}
use Rattle.cast_client.specs.declared.front.ClientRead.TheVariants as read
use Rattle.cast_client.specs.Reading.{client_of}
use Rattle.cast_session.specs.declared.incoming.InEnd.TheVariants.{NoMemory}
use Rattle.cast_session.proofs.Heard.{by_what_stands}
use Rattle.cast_session.proofs.Pumping.{at_rest, frame_fits, handed_further, stops_there, stops_without_memory, stops_bad, refused, granted}
use Rattle.cast_session.proofs.incoming.hand_on.Goals as goal

pub returns-then-is_err : goal.returns-then-is_err
returns-then-is_err g c =
    let rest = drop c.loop-frame.done c.args.bytes.now in
    let nothing = refused c.take.result c.if-is_err.ensures.value c.take.ensures.err in
    stops_there (g.S.Sink.taken c.take.new.self) NoMemory c.loop-frame.invariant (stops_without_memory rest nothing)

pub loop-frame-smaller : goal.loop-frame-smaller
loop-frame-smaller g c =
    let request = c.in-Request.request in
    let stands : client_of (drop c.loop-frame.done c.args.bytes.now) ≡ Ok (read.Frame (client.Request request) c.in-Ok-Frame.len) =
    at_rest c.args.bytes.now c.loop-frame.done (Ok (read.Frame (client.Request request) c.in-Ok-Frame.len))
    (cc (c.in-Ok-Frame.ensures.exact)) in
    let fits = frame_fits c.in-Ok-Frame.len request c.loop-frame.invariant stands in
    omega (arith, fits.some, fits.within)

pub loop-frame-preserved : goal.loop-frame-preserved
loop-frame-preserved g c =
    let request = c.in-Request.request in
    let stands : client_of (drop c.loop-frame.done c.args.bytes.now) ≡ Ok (read.Frame (client.Request request) c.in-Ok-Frame.len) =
    at_rest c.args.bytes.now c.loop-frame.done (Ok (read.Frame (client.Request request) c.in-Ok-Frame.len))
    (cc (c.in-Ok-Frame.ensures.exact)) in
    handed_further (g.S.Sink.taken c.take.new.self) c.in-Ok-Frame.len request c.loop-frame.invariant stands
    (granted c.take.result c.if-is_err.ensures.value c.take.ensures.ok)

pub returns-in-Push : goal.returns-in-Push
returns-in-Push g c =
    let bytes = c.args.bytes.now in
    let done = c.loop-frame.done in
    let stands : client_of (drop done bytes) ≡ Ok (read.Frame (client.Push c.in-Push.field-0) c.in-Ok-Frame.len) =
    at_rest bytes done (Ok (read.Frame (client.Push c.in-Push.field-0) c.in-Ok-Frame.len)) (cc (c.in-Ok-Frame.ensures.exact)) in
    stops_there (g.S.Sink.taken c.end_bad.new.sink) c.end_bad.result c.loop-frame.invariant
    (stops_bad (drop done bytes) WrongType c.end_bad.result (λ other.
    by_what_stands (drop done bytes) (Ok (read.Frame (client.Push c.in-Push.field-0) c.in-Ok-Frame.len)) stands) c.end_bad.ensures)

pub returns-in-Err : goal.returns-in-Err
returns-in-Err g c =
    let bytes = c.args.bytes.now in
    let done = c.loop-frame.done in
    let end = c.end_bad-in-Err.result in
    stops_there (g.S.Sink.taken c.end_bad-in-Err.new.sink) end c.loop-frame.invariant
    (stops_bad (drop done bytes) c.in-Err.fault end (λ other. by_what_stands (drop done bytes) (Err c.in-Err.fault)
    (at_rest bytes done (Err c.in-Err.fault) (c.in-Err.ensures.exact other))) c.end_bad-in-Err.ensures)
