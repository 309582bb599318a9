use Rattle.std.proofs.Common.{refl}
use Rattle.std.proofs.lemmas.Bool.{le-ltb, lt-ltb}
use Rattle.cast_client.specs.Reading.{short_end_at}
use Rattle.cast_client.proofs.reading.read_short_end.Goals as goal

pub returns : goal.returns
unfolding short_end_at
returns c = rw (le-ltb _ _ c.if-bytes-gt-MAX_PAYLOAD.false, c.from_bytes.ensures, c.in_ok-payload.ensures) refl

pub returns-then-bytes-gt-MAX_PAYLOAD : goal.returns-then-bytes-gt-MAX_PAYLOAD
unfolding short_end_at
returns-then-bytes-gt-MAX_PAYLOAD c = λ other. rw (lt-ltb _ _ c.if-bytes-gt-MAX_PAYLOAD.true) refl
