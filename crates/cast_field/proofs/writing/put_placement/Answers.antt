use Rattle.std.proofs.Common.{length}
use Rattle.std.specs.List.{flat_map}
use Rattle.cast_field.specs.Spelling.{spelled_sequence, spelled_new_holder, byte, word, spelled_entry}
use Rattle.cast_field.proofs.Pieces.{four}
use Rattle.cast_field.proofs.writing.put_placement.Goals as goal

pub returns : goal.returns
unfolding spelled_sequence byte word
returns c =
    rw (
      c.in_ok-put_new_holder.ensures,
      c.in_ok-put_entries.ensures,
      c.in_ok-put_u8.ensures.ok,
      c.in_ok-put_u32.ensures.ok,
      c.ids-ids.ensures.value,
      c.first.ensures.value,
      c.holder.ensures.value,
    )
    (four c.args.out.now.items (word c.args.placement.now.first) (byte (length c.args.placement.now.ids))
    (flat_map spelled_entry c.args.placement.now.ids) (spelled_new_holder c.args.placement.now.holder))
