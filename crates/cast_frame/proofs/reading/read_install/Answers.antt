use Rattle.std.proofs.Common.{refl}
use Rattle.cast_frame.specs.Reading.{install_at}
use Rattle.cast_frame.proofs.reading.read_install.Goals as goal

pub returns : goal.returns
unfolding install_at
returns c =
    rw (
      c.in_ok-group.ensures,
      c.in_ok-view.ensures,
      c.in_ok-members.ensures,
      c.in_ok-request.ensures,
      c.in_ok-cut.ensures,
      c.in_ok-tail.ensures,
    ) refl
