use Rattle.cast_frame.specs.Spelling.{spelled_fields, change_code}
use Rattle.cast_field.specs.Spelling.{byte, short, word, spelled_proc}
use Rattle.cast_field.proofs.Pieces.{four}
use Rattle.cast_frame.proofs.writing.put_ask.Goals as goal

pub returns : goal.returns
unfolding spelled_fields byte short word
returns c =
    rw (
      c.in_ok-put_proc.ensures,
      c.in_ok-put_u8.ensures.ok,
      c.in_ok-put_u32.ensures.ok,
      c.in_ok-put_u16.ensures.ok,
      c.code_of_change.ensures,
    )
    (four c.args.out.now.items (short c.args.group.0) (word c.args.number) (byte (change_code c.args.change)) (spelled_proc c.args.proc))
