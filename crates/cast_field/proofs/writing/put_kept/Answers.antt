use Rattle.std.proofs.Common.{append_assoc, length}
use Rattle.std.specs.List.{flat_map}
use Rattle.cast_field.specs.Spelling.{spelled_kept, short, spelled_marked}
use Rattle.cast_field.proofs.writing.put_kept.Goals as goal

pub returns : goal.returns
unfolding spelled_kept short
returns c =
    rw (c.in_ok-put_all_marked.ensures, c.in_ok-put_u16.ensures.ok, c.entries-entries.ensures.value)
    (append_assoc c.args.out.now.items (short (length c.args.kept.now)) (flat_map spelled_marked c.args.kept.now))
