use Rattle.std.proofs.Common.{Option, false, ap, ◌∙◌}
use Rattle.std.specs.Prelude.{unwrap_or}
use Rattle.cast_view.specs.declared.phase.Answer.{Answer}
use Rattle.cast_view.specs.Home.{Home, answer_of}
use Rattle.cast_view.proofs.home.HomeSide.last_answer.Goals as goal

-- what is found of the site, and where nothing is, that it has asked nothing
abbrev or_none : Option Answer → Answer
or_none answer = unwrap_or answer (record { number = 0; full = false })

pub returns-in-Some : goal.returns-in-Some
returns-in-Some c = ap or_none c.in-Some.ensures ∙ ap (λ (h : Home). answer_of h c.args.site) c.self.view_is

pub returns-in-None : goal.returns-in-None
returns-in-None c = ap or_none c.in-None.ensures ∙ ap (λ (h : Home). answer_of h c.args.site) c.self.view_is
