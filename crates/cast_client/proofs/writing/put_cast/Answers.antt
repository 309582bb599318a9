use Rattle.cast_field.specs.Spelling.{byte, short, word}
use Rattle.cast_client.specs.Spelling.{cast_code}
use Rattle.cast_field.proofs.Pieces.{four}
use Rattle.cast_client.proofs.writing.put_cast.Goals as goal

pub returns : goal.returns
unfolding byte short word
returns c =
    rw (
      c.in_ok-put_slice.ensures.ok,
      c.in_ok-put_u8.ensures.ok,
      c.in_ok-put_u16.ensures.ok,
      c.in_ok-put_u32.ensures.ok,
      c.code_of_cast.ensures,
      c.as_slice.ensures,
    )
    (four c.args.out.now.items (word c.args.tag) (short c.args.group.0) (byte (cast_code c.args.kind)) c.args.payload.now)
