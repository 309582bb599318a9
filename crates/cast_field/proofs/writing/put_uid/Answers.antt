use Rattle.cast_field.specs.Spelling.{spelled_uid, short, word, spelled_proc}
use Rattle.cast_field.proofs.Pieces.{four}
use Rattle.cast_field.proofs.writing.put_uid.Goals as goal

pub returns : goal.returns
unfolding spelled_uid short word
returns c =
    rw (c.in_ok-put_u32-2.ensures.ok, c.in_ok-put_proc.ensures, c.in_ok-put_u32.ensures.ok, c.in_ok-put_u16.ensures.ok)
    (four c.args.out.now.items (short c.args.id.group.0) (word c.args.id.view) (spelled_proc c.args.id.proc) (word c.args.id.count))
