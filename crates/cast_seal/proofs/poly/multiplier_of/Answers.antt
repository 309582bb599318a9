use Rattle.std.proofs.Common.{◌≡◌, ◌+◌, ◌*◌, ◌/◌, ◌^◌, ◌<◌, length, take, drop, bit_and, arith, subst, ◌∙◌, rules}
use Rattle.std.proofs.lemmas.List.{take_rest, length-drop}
use Rattle.byteorder.specs.Endian.{little_number}
use Rattle.cast_seal.specs.Poly1305.{number_of}
use Rattle.cast_seal.proofs.Poly1305.{read_number, cleared}
use Rattle.cast_seal.proofs.poly.multiplier_of.Goals as goal

pub returns-clause-factor : goal.returns-clause-factor
returns-clause-factor c =
    let key = c.args.key.now in
    let long : length key ≡ 32 = search rules in
    let read : c.read_u64.result ≡ little_number 8 key = search rules in
    let read_behind : c.read_u64-2.result ≡ little_number 8 (drop 8 key) = rw (← take_rest key 8) (search rules) in
    let low : c.read_u64.result ≡ number_of (take 8 key) = read ∙ read_number 8 key (omega (arith, long)) in
    let high : c.read_u64-2.result ≡ number_of (take 8 (drop 8 key)) =
    read_behind ∙ read_number 8 (drop 8 key) (omega (arith, long, length-drop 8 key)) in
    let fits : c.read_u64.result < 2 ^ 64 = search rules in
    (λ i. bit_and (low i) 0x0FFFFFFC0FFFFFFF + 4 * bit_and (high i / 4) 0x03FFFFFF03FFFFFF * 2 ^ 64)
    ∙ cleared key (omega (arith, long)) (subst (λ n. n < 2 ^ 64) low fits)
