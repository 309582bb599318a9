use Rattle.std.proofs.Common.{rules}
use Rattle.cast_field.specs.Spelling.{short, byte}
use Rattle.cast_frame.specs.Spelling.{spelled_site}
use Rattle.cast_frame.proofs.writing.encode_site.Goals as goal

pub returns : goal.returns
unfolding spelled_site short byte
returns c = search rules
