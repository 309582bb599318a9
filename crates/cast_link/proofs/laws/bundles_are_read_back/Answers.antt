use Rattle.cast_link.proofs.Bundles.{bundles_are_unique, frames_stand_alone}
use Rattle.cast_link.proofs.Readings.{sites_read_their_frames}
use Rattle.cast_link.proofs.laws.bundles_are_read_back.Goals as goal

pub returns-clause-unique : goal.returns-clause-unique
returns-clause-unique c = bundles_are_unique

pub returns-clause-alone : goal.returns-clause-alone
returns-clause-alone c = frames_stand_alone

pub returns-clause-sites : goal.returns-clause-sites
returns-clause-sites c = sites_read_their_frames
