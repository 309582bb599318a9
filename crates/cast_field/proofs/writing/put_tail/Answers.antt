use Rattle.std.proofs.Common.{length}
use Rattle.std.specs.List.{flat_map}
use Rattle.cast_field.specs.Spelling.{spelled_tail, short, word, spelled_entry}
use Rattle.cast_field.proofs.Pieces.{three}
use Rattle.cast_field.proofs.writing.put_tail.Goals as goal

pub returns : goal.returns
unfolding spelled_tail short word
returns c =
    rw (c.in_ok-put_entries.ensures, c.in_ok-put_u16.ensures.ok, c.in_ok-put_u32.ensures.ok, c.ids-ids.ensures.value, c.start.ensures.value)
    (three c.args.out.now.items (word c.args.tail.now.start) (short (length c.args.tail.now.ids))
    (flat_map spelled_entry c.args.tail.now.ids))
