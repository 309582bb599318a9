use Rattle.cast_flush.proofs.Wanting.{leaves_fewer, wanting_named}
use Rattle.cast_flush.proofs.laws.what_comes_is_bounded.Goals as goal

pub returns : goal.returns
returns c = record { fewer = leaves_fewer; named = wanting_named }
