use Rattle.std.proofs.Common.{append_assoc}
use Rattle.cast_field.specs.Spelling.{spelled_entry, word, spelled_proc}
use Rattle.cast_field.proofs.writing.put_entry.Goals as goal

pub returns : goal.returns
unfolding spelled_entry word
returns c =
    rw (c.in_ok-put_u32.ensures.ok, c.in_ok-put_proc.ensures)
    (append_assoc c.args.out.now.items (spelled_proc c.args.entry.0) (word c.args.entry.1))
