use Rattle.std.proofs.Common.{append_assoc, length}
use Rattle.std.specs.List.{flat_map}
use Rattle.cast_field.specs.Spelling.{spelled_counts, byte, spelled_entry}
use Rattle.cast_field.proofs.writing.put_counts.Goals as goal

pub returns : goal.returns
unfolding spelled_counts byte
returns c =
    rw (c.in_ok-put_entries.ensures, c.in_ok-put_u8.ensures.ok, c.entries.ensures.value, c.len.ensures.value)
    (append_assoc c.args.out.now.items (byte (length c.args.counts.now)) (flat_map spelled_entry c.args.counts.now))
