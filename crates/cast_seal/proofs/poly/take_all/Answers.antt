use Rattle.std.proofs.Common.{arith}
use Rattle.cast_seal.specs.Words.{factor_of}
use Rattle.cast_seal.proofs.Poly1305.{after_none}
use Rattle.cast_seal.proofs.poly.take_all.Goals as goal

pub loop-place-init : goal.loop-place-init
loop-place-init c = record {
  same = after_none (factor_of c.args.by) c.args.message.now;
  high = omega arith;
}
