use Rattle.cast_frame.specs.Spelling.{spelled_fields}
use Rattle.cast_field.specs.Spelling.{short, word, spelled_counts, spelled_members, spelled_tail}
use Rattle.cast_field.proofs.Pieces.{six}
use Rattle.cast_frame.proofs.writing.put_install.Goals as goal

pub returns : goal.returns
unfolding spelled_fields short word
returns c =
    rw (
      c.in_ok-put_tail.ensures,
      c.in_ok-put_counts.ensures,
      c.in_ok-put_u32-2.ensures.ok,
      c.in_ok-put_members.ensures,
      c.in_ok-put_u32.ensures.ok,
      c.in_ok-put_u16.ensures.ok,
    )
    (six c.args.out.now.items (short c.args.group.0) (word c.args.view) (spelled_members c.args.members.now) (word c.args.request)
    (spelled_counts c.args.cut.now) (spelled_tail c.args.tail.now))
