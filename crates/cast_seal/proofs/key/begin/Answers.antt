use Rattle.std.proofs.Common.{◌≡◌, ◌-◌, ◌++◌, List, ℕ, length, map, replicate, subst, ap, ◌∙◌, rules}
use Rattle.std.specs.Prelude.{bit_xor}
use Rattle.sha2.specs.Hashers.{Holds256}
use Rattle.cast_seal.proofs.Hmac.{padded_parts}
use Rattle.cast_seal.proofs.key.begin.Goals as goal

pub returns : goal.returns
returns c =
    let key = c.args.key.now in
    let bits = c.args.bits in
    let last : c.loop-place._place ≡ 64 = search rules in
    subst (λ (message : List ℕ). Holds256 c.loop-place.hasher message)
    (ap (λ n. map (λ b. bit_xor bits b) key ++ replicate (n - length key) bits) last ∙ padded_parts bits (64 - length key) key)
    c.loop-place.invariant
