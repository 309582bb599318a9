use Rattle.cast_trust.proofs.Seals.{sealed_frames_are_sent}
use Rattle.cast_trust.proofs.laws.sealed_frames_are_sent.Goals as goal

pub returns : goal.returns
returns c = sealed_frames_are_sent
