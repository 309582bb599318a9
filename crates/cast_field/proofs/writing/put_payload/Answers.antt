use Rattle.std.proofs.Common.{append_assoc, length}
use Rattle.cast_field.specs.Spelling.{spelled_payload, short}
use Rattle.cast_field.proofs.writing.put_payload.Goals as goal

pub returns : goal.returns
unfolding spelled_payload short
returns c =
    rw (c.in_ok-put_slice.ensures.ok, c.in_ok-put_u16.ensures.ok, c.as_slice.ensures.value, c.len.ensures.value)
    (append_assoc c.args.out.now.items (short (length c.args.payload.now)) c.args.payload.now)
