use Rattle.std.proofs.Common.{refl}
use Rattle.std.proofs.lemmas.Bool.{lt-ltb, le-ltb}
use Rattle.cast_field.specs.Reading.{bytes_at}
use Rattle.cast_field.proofs.reading.read_bytes.Goals as goal

pub returns-then-bytes-count : goal.returns-then-bytes-count
unfolding bytes_at
returns-then-bytes-count c = λ other. rw (lt-ltb _ _ c.if-bytes-count.true) refl

pub returns : goal.returns
unfolding bytes_at
returns c = rw (le-ltb _ _ c.if-bytes-count.false, c.split_at.ensures.front, c.split_at.ensures.back) refl
