use Rattle.std.proofs.Common.{◌≡◌, subst, sym, ◌∙◌}
use Rattle.std.specs.Prelude.{not, filter}
use Rattle.cast_types.specs.Names.{uid_eq, uid_in}
use Rattle.cast_view.specs.declared.flush.Lacking.{Lacking}
use Rattle.cast_view.specs.Home.{phase_with_body}
use Rattle.cast_view.specs.Flush.{lacking_in, AreReckoned}
use Rattle.cast_view.proofs.Reckoned.{lacking_but}
use Rattle.cast_view.proofs.flush.lacking_but.Goals as goal

-- what was lacking is so but for the message
pub returns-in-Some : goal.returns-in-Some
returns-in-Some c m phase is reckoned =
    let old : Lacking = c.in-Some.lacking in
    let new : Lacking = c.without.result in
    let was : old.ids.items ≡ lacking_in old.group old.view old.members.items phase =
    subst (λ l. AreReckoned l phase) c.in-Some.is reckoned in
    c.without.ensures.ids
    ∙ (λ i. filter (λ e. not (uid_eq (sym is i) (uid_in old.group old.view e))) (was i))
    ∙ lacking_but old.group old.view m old.members.items phase
    ∙ sym
    (λ i. lacking_in (c.without.ensures.group i) (c.without.ensures.view i) (c.without.ensures.members i).items (phase_with_body m phase))
