use Rattle.std.proofs.Common.{◌≡◌, List, ℕ, IsTrue, drop, inl, inr, arith, rules, subst, sym, slice_index_or}
use Rattle.std.proofs.lemmas.Bool.{cases_lt}
use Rattle.std.proofs.lemmas.List.{get_or_read, take_rest}
use Rattle.cast_seal.specs.Seals.{IsSealed, IsSealedByAny}
use Rattle.cast_seal.specs.declared.sealing.SealKey.{SealKey}
use Rattle.cast_seal.proofs.Seals.{sealed_has_parts}
use Rattle.cast_seal.proofs.sealing.open.Goals as goal

pub returns-then-is_sealed : goal.returns-then-is_sealed
returns-then-is_sealed c =
    let keys = c.args.keys.now in
    let d = c.args.datagram.now in
    let k = c.key-item.result in
    let at : slice_index_or keys c.loop-key.key-index k ≡ k = search rules in
    let is : IsSealed k c.args.from c.args.to (drop 38 d) d = search rules in
    subst (λ (body : List ℕ). IsSealedByAny keys c.args.from c.args.to body d) (sym (take_rest d 38))
    (k, (c.loop-key.key-index, c.loop-key-test.true, at), is)

pub loop-key-preserved : goal.loop-key-preserved
loop-key-preserved c = λ k place body lt is.
    let keys = c.args.keys.now in
    let d = c.args.datagram.now in
    elim (cases_lt place c.loop-key.key-index) [
      | inl earlier ↦ c.loop-key.invariant k place body earlier is
      | inr later ↦
          let here : place ≡ c.loop-key.key-index = omega (arith, lt, later) in
          let item : slice_index_or keys c.loop-key.key-index k ≡ c.key-item.result =
          sym (get_or_read keys c.loop-key.key-index c.key-item.result c.loop-key-test.true c.key-item.is k) in
          let same : IsSealed c.key-item.result c.args.from c.args.to body d =
          subst (λ (x : SealKey). IsSealed x c.args.from c.args.to body d) item
          (subst (λ (n : ℕ). IsSealed (slice_index_or keys n k) c.args.from c.args.to body d) here is) in
          let ends : body ≡ drop 38 d = sym (sealed_has_parts c.key-item.result c.args.from c.args.to body d same).ends in
          let whole : IsSealed c.key-item.result c.args.from c.args.to (drop 38 d) d =
          subst (λ (b : List ℕ). IsSealed c.key-item.result c.args.from c.args.to b d) ends same in
          let found : IsTrue c.is_sealed.result = c.is_sealed.ensures.1 whole in
          search rules
    ]

pub returns : goal.returns
returns c = λ body (k, (place, lt, at), is).
    c.loop-key.invariant k place body (omega (arith, lt, c.loop-key-test.false))
    (subst (λ (x : SealKey). IsSealed x c.args.from c.args.to body c.args.datagram.now) (sym at) is)
