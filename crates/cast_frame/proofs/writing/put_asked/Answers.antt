use Rattle.cast_frame.specs.Spelling.{spelled_fields, full_code}
use Rattle.cast_field.specs.Spelling.{byte, short, word}
use Rattle.cast_field.proofs.Pieces.{three}
use Rattle.cast_frame.proofs.writing.put_asked.Goals as goal

pub returns : goal.returns
unfolding spelled_fields byte short word
returns c =
    rw (c.in_ok-put_u8.ensures.ok, c.in_ok-put_u32.ensures.ok, c.in_ok-put_u16.ensures.ok, c.code_of_full.ensures)
    (three c.args.out.now.items (short c.args.group.0) (word c.args.number) (byte (full_code c.args.full)))
