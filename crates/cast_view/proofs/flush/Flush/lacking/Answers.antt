use Rattle.std.proofs.Common.{◌≡◌, subst, sym, ◌∙◌}
use Rattle.cast_view.specs.Flush.{lacking_in, AreReckoned}
use Rattle.cast_types.proofs.Orders.{same_group}
use Rattle.cast_view.proofs.Reckoned.{same_members}
use Rattle.cast_view.proofs.flush.Flush.lacking.Goals as goal

-- what was reckoned was reckoned of this view and these members
pub returns-then-eq-2 : goal.returns-then-eq-2
returns-then-eq-2 c =
    let was : c.in-Some.lacking.ids.items
    ≡ lacking_in c.in-Some.lacking.group c.in-Some.lacking.view c.in-Some.lacking.members.items c.self.inside.phase =
    subst (λ l. AreReckoned l c.self.inside.phase) c.in-Some.is c.self.invariant in
    let groups : c.in-Some.lacking.group ≡ c.args.group =
    same_group c.in-Some.lacking.group c.args.group (sym c.eq.ensures ∙ c.if-eq.true) in
    let views : c.in-Some.lacking.view ≡ c.args.view = c.if-lacking-view.true in
    let members : c.in-Some.lacking.members.items ≡ c.args.members.now =
    sym c.as_slice.ensures.value
    ∙ same_members c.as_slice.result.now c.args.members.now (sym c.eq-then-lacking-view.ensures ∙ c.if-eq-2.true) in
    c.as_slice-then-eq-2.ensures.value ∙ was ∙ (λ i. lacking_in (groups i) (views i) (members i) (c.self.view_is i))
