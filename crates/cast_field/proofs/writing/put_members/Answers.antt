use Rattle.std.proofs.Common.{length}
use Rattle.std.specs.List.{flat_map}
use Rattle.cast_field.specs.Spelling.{spelled_members, byte, spelled_holder, spelled_proc}
use Rattle.cast_field.proofs.Pieces.{three}
use Rattle.cast_field.proofs.writing.put_members.Goals as goal

pub returns : goal.returns
unfolding spelled_members byte
returns c =
    rw (c.in_ok-put_holder.ensures, c.in_ok-put_procs.ensures, c.in_ok-put_u8.ensures.ok, c.list-list.ensures.value, c.holder.ensures.value)
    (three c.args.out.now.items (byte (length c.args.members.now.list)) (flat_map spelled_proc c.args.members.now.list)
    (spelled_holder c.args.members.now.list c.args.members.now.holder))
