use Rattle.cast_frame.proofs.Sizes.{spelled_fits}
use Rattle.cast_frame.proofs.laws.spelled_fits.Goals as goal

pub returns : goal.returns
returns c = spelled_fits
