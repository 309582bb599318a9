use Rattle.cast_field.specs.Spelling.{spelled_clock, short, word, spelled_counts}
use Rattle.cast_field.proofs.Pieces.{three}
use Rattle.cast_field.proofs.writing.put_clock.Goals as goal

pub returns : goal.returns
unfolding spelled_clock short word
returns c =
    rw (c.in_ok-put_counts.ensures, c.in_ok-put_u32.ensures.ok, c.in_ok-put_u16.ensures.ok)
    (three c.args.out.now.items (short c.args.group.0) (word c.args.clock.now.view) (spelled_counts c.args.clock.now.counts))
