use Rattle.std.proofs.Common.{◌≡◌, ◌+◌, ◌%◌, ◌^◌, length, drop, arith, ap, ◌∙◌, rules}
use Rattle.std.proofs.lemmas.List.{take_rest, take_all, length-drop}
use Rattle.byteorder.specs.Endian.{little_number}
use Rattle.cast_seal.specs.Poly1305.{prime, number_of, number_after, multiplier, block_count}
use Rattle.cast_seal.specs.Words.{value_of}
use Rattle.cast_seal.proofs.Poly1305.{read_number, after_below}
use Rattle.cast_seal.proofs.poly.one_time_sum.Goals as goal

pub returns : goal.returns
returns c =
    let key = c.args.key.now in
    let message = c.args.message.now in
    let long : length key ≡ 32 = search rules in
    let read : c.read_u128.result ≡ little_number 16 (drop 16 key) = rw (← take_rest key 16) (search rules) in
    let added : c.read_u128.result ≡ number_of (drop 16 key) =
    read ∙ read_number 16 (drop 16 key) (omega (arith, long, length-drop 16 key))
    ∙ ap number_of (take_all 16 (drop 16 key) (omega (arith, long, length-drop 16 key))) in
    let number : value_of c.take_all-number.result % prime ≡ number_after (multiplier key) message (block_count message) =
    c.take_all-number.ensures.same ∙ ap (λ by. number_after by message (block_count message) % prime) c.multiplier_of.ensures.factor
    ∙ after_below (multiplier key) message (block_count message) in
    c.end.ensures ∙ (λ i. (number i + added i) % 2 ^ 128)
