use Rattle.std.proofs.Common.{◌≡◌, ◌+◌, ◌*◌, ◌^◌, drop, arith, rules}
use Rattle.byteorder.specs.Endian.{little_number}
use Rattle.std.proofs.lemmas.List.{take_rest, length-drop}
use Rattle.cast_seal.specs.Poly1305.{number_of, block_at}
use Rattle.cast_seal.specs.Words.{value_of, factor_of}
use Rattle.cast_seal.proofs.Poly1305.{block_taken, whole_block}
use Rattle.cast_seal.proofs.poly.take_block.Goals as goal

pub returns : goal.returns
returns c =
    let rest = drop (16 * c.args.place) c.args.message.now in
    let read : c.read_u128.result ≡ little_number 16 rest = rw (← take_rest c.args.message.now (16 * c.args.place)) (search rules) in
    let block : c.read_u128.result + 1 * 2 ^ 128 ≡ number_of (block_at c.args.message.now c.args.place) =
    omega (arith, read, whole_block rest (omega (arith, length-drop (16 * c.args.place) c.args.message.now, c.requires.whole))) in
    record {
      same = block_taken (factor_of c.args.by) c.args.message.now c.args.place (value_of c.args.number) (c.read_u128.result + 1 * 2 ^ 128)
          (value_of c.take_in.result) c.requires.before.same (search rules) block;
      high = c.take_in.ensures.high;
    }
