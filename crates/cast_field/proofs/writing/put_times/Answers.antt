use Rattle.std.proofs.Common.{append_assoc, length}
use Rattle.std.specs.List.{flat_map}
use Rattle.cast_field.specs.Spelling.{spelled_times, byte, spelled_clock}
use Rattle.cast_field.proofs.writing.put_times.Goals as goal

pub returns : goal.returns
unfolding spelled_times byte
returns c =
    rw (c.in_ok-put_clocks.ensures, c.in_ok-put_u8.ensures.ok, c.clocks-clocks.ensures.value)
    (append_assoc c.args.out.now.items (byte (length c.args.times.now)) (flat_map spelled_clock c.args.times.now))
