use Rattle.std.proofs.Common.{◌*◌, ◌^◌, ◌<◌, arith, rules}
use Rattle.std.proofs.lemmas.Nat.{mul-lt}
use Rattle.cast_seal.proofs.poly.multiply.Goals as goal

pub returns-clause-high : goal.returns-clause-high
returns-clause-high c =
    let n = c.args.number in
    let by = c.args.by in
    let low : n.low < 2 ^ 64 = search rules in
    let middle : n.middle < 2 ^ 64 = search rules in
    let few : n.high < 7 = omega (arith, c.requires.high) in
    let four : 4 * by.quarter < 2 ^ 60 = omega (arith, c.requires.quarter) in
    let five : 5 * by.quarter < 2 ^ 61 = omega (arith, c.requires.quarter) in
    omega (
      arith,
      mul-lt n.high by.low 7 (2 ^ 60) few c.requires.low,
      mul-lt n.low (4 * by.quarter) (2 ^ 64) (2 ^ 60) low four,
      mul-lt n.middle by.low (2 ^ 64) (2 ^ 60) middle c.requires.low,
      mul-lt n.high (5 * by.quarter) 7 (2 ^ 61) few five,
      mul-lt n.low by.low (2 ^ 64) (2 ^ 60) low c.requires.low,
      mul-lt n.middle (5 * by.quarter) (2 ^ 64) (2 ^ 61) middle five,
    )
