use Rattle.std.proofs.Common.{append_assoc}
use Rattle.cast_field.specs.Spelling.{short, word}
use Rattle.cast_field.proofs.writing.put_view.Goals as goal

pub returns : goal.returns
unfolding short word
returns c =
    rw (c.in_ok-put_u32.ensures.ok, c.in_ok-put_u16.ensures.ok)
    (append_assoc c.args.out.now.items (short c.args.group.0) (word c.args.view))
