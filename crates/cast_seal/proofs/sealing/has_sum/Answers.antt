use Rattle.std.proofs.Common.{◌≡◌, IsTrue, nat_eq, drop, take, rules, sym, ◌∙◌}
use Rattle.std.proofs.lemmas.List.{take_rest}
use Rattle.byteorder.specs.Endian.{little_number}
use Rattle.cast_seal.specs.Seals.{seal_sum}
use Rattle.cast_seal.proofs.sealing.has_sum.Goals as goal

pub returns : goal.returns
returns c =
    let d = c.args.datagram.now in
    let read : c.read_u128.result ≡ little_number 16 (drop 22 d) = rw (← take_rest d 22) (search rules) in
    let sum : c.sum_of-sum.result ≡ seal_sum c.args.key.now (take 22 d) c.args.to (drop 38 d) = rw (← take_rest d 38) (search rules) in (
      λ t. let same : c.read_u128.result ≡ c.sum_of-sum.result = search rules in sym read ∙ same ∙ sum,
      λ e. let same : c.read_u128.result ≡ c.sum_of-sum.result = read ∙ e ∙ sym sum in
          let is : IsTrue (nat_eq c.read_u128.result c.sum_of-sum.result) = search rules in is,
    )
