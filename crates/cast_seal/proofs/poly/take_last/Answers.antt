use Rattle.std.proofs.Common.{◌≡◌, ◌+◌, ◌*◌, ◌^◌, ◌++◌, ◌∷◌, [], take, drop, arith, ap, rules}
use Rattle.std.proofs.lemmas.List.{take_rest, take_all, length-drop}
use Rattle.cast_seal.specs.Poly1305.{number_of, block_at}
use Rattle.cast_seal.specs.Words.{value_of, factor_of}
use Rattle.cast_seal.proofs.Poly1305.{block_taken}
use Rattle.cast_seal.proofs.poly.take_last.Goals as goal

pub returns : goal.returns
returns c =
    let rest = drop (16 * c.args.place) c.args.message.now in
    let cut : c.cut_number.result ≡ number_of (rest ++ 1 ∷ []) = rw (← take_rest c.args.message.now (16 * c.args.place)) (search rules) in
    let all : take 16 rest ≡ rest =
    take_all 16 rest (omega (arith, length-drop (16 * c.args.place) c.args.message.now, c.requires.cut)) in
    let block : c.cut_number.result + 0 * 2 ^ 128 ≡ number_of (block_at c.args.message.now c.args.place) =
    omega (arith, cut, ap (λ bytes. number_of (bytes ++ 1 ∷ [])) all) in
    record {
      same = block_taken (factor_of c.args.by) c.args.message.now c.args.place (value_of c.args.number) (c.cut_number.result + 0 * 2 ^ 128)
          (value_of c.take_in.result) c.requires.before.same (search rules) block;
      high = c.take_in.ensures.high;
    }
