use Rattle.cast_frame.specs.Spelling.{spelled_fields}
use Rattle.cast_field.specs.Spelling.{short, word, spelled_counts, spelled_kept, spelled_tail}
use Rattle.cast_field.proofs.Pieces.{five}
use Rattle.cast_frame.proofs.writing.put_flushed.Goals as goal

pub returns : goal.returns
unfolding spelled_fields short word
returns c =
    rw (
      c.in_ok-put_kept.ensures,
      c.in_ok-put_tail.ensures,
      c.in_ok-put_counts.ensures,
      c.in_ok-put_u32.ensures.ok,
      c.in_ok-put_u16.ensures.ok,
    )
    (five c.args.out.now.items (short c.args.group.0) (word c.args.view) (spelled_counts c.args.counts.now) (spelled_tail c.args.tail.now)
    (spelled_kept c.args.kept.now))
