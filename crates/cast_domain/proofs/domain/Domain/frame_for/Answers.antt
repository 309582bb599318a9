use Rattle.std.proofs.Common.{ℕ, Option, ◌∙◌, sym, ap}
use Rattle.std.specs.Option.{option_and_then}
use Rattle.std.proofs.lemmas.Result.{IfOk-weaker}
use Rattle.cast_domain.specs.Records.{records_in}
use Rattle.cast_rules.specs.Rules.Owing.{frame_of_kind}
use Rattle.cast_domain.specs.Calls.{records}
use Rattle.cast_domain.proofs.domain.Domain.frame_for.Goals as goal

pub returns-in-Some : goal.returns-in-Some
returns-in-Some c =
    let key = c.args.key.now in
    IfOk-weaker c.frame_at_key.result _ _ (λ f made.
    let r = records_in c.args.self.now c.args.lent.now in
    made ∙ ap (λ (p : Option ℕ). option_and_then (λ i. frame_of_kind records r i key key.kind) p)
    (sym c.in-Some.is ∙ c.place_of.ensures.place)) c.frame_at_key.ensures
