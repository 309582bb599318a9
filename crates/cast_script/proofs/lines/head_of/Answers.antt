use Rattle.std.proofs.Common.{◌≢◌, sym, ap, ◌∙◌}
use Rattle.cast_script.specs.declared.lines.Head.TheVariants.{Site, Domain, Open, Join, Leave, Cast, Abcast}
use Rattle.cast_script.specs.declared.lines.Head.TheVariants.{Pass, Bad, Gone, Frame, Suspect, Quota, Take, Tick}
use Rattle.cast_script.specs.Lines.{head_text}
use Rattle.cast_script.specs.LineReadings.{head_of}
use Rattle.cast_script.proofs.Heads.{head_again, head_not}
use Rattle.cast_script.proofs.lines.head_of.Goals as goal

pub returns-in-site : goal.returns-in-site
returns-in-site c = sym (ap head_of c.in-site.is ∙ head_again Site)

pub returns-in-domain : goal.returns-in-domain
returns-in-domain c = sym (ap head_of c.in-domain.is ∙ head_again Domain)

pub returns-in-open : goal.returns-in-open
returns-in-open c = sym (ap head_of c.in-open.is ∙ head_again Open)

pub returns-in-join : goal.returns-in-join
returns-in-join c = sym (ap head_of c.in-join.is ∙ head_again Join)

pub returns-in-leave : goal.returns-in-leave
returns-in-leave c = sym (ap head_of c.in-leave.is ∙ head_again Leave)

pub returns-in-cast : goal.returns-in-cast
returns-in-cast c = sym (ap head_of c.in-cast.is ∙ head_again Cast)

pub returns-in-abcast : goal.returns-in-abcast
returns-in-abcast c = sym (ap head_of c.in-abcast.is ∙ head_again Abcast)

pub returns-in-pass : goal.returns-in-pass
returns-in-pass c = sym (ap head_of c.in-pass.is ∙ head_again Pass)

pub returns-in-bad : goal.returns-in-bad
returns-in-bad c = sym (ap head_of c.in-bad.is ∙ head_again Bad)

pub returns-in-gone : goal.returns-in-gone
returns-in-gone c = sym (ap head_of c.in-gone.is ∙ head_again Gone)

pub returns-in-frame : goal.returns-in-frame
returns-in-frame c = sym (ap head_of c.in-frame.is ∙ head_again Frame)

pub returns-in-suspect : goal.returns-in-suspect
returns-in-suspect c = sym (ap head_of c.in-suspect.is ∙ head_again Suspect)

pub returns-in-quota : goal.returns-in-quota
returns-in-quota c = sym (ap head_of c.in-quota.is ∙ head_again Quota)

pub returns-in-take : goal.returns-in-take
returns-in-take c = sym (ap head_of c.in-take.is ∙ head_again Take)

pub returns-in-tick : goal.returns-in-tick
returns-in-tick c = sym (ap head_of c.in-tick.is ∙ head_again Tick)

pub returns-in_default : goal.returns-in_default
returns-in_default c =
    sym (head_not c.args.word.now (λ h.
    elim h as (λ h. c.args.word.now ≢ head_text h) [
      | Site ↦ c.in_default.not-site
      | Domain ↦ c.in_default.not-domain
      | Open ↦ c.in_default.not-open
      | Join ↦ c.in_default.not-join
      | Leave ↦ c.in_default.not-leave
      | Cast ↦ c.in_default.not-cast
      | Abcast ↦ c.in_default.not-abcast
      | Pass ↦ c.in_default.not-pass
      | Bad ↦ c.in_default.not-bad
      | Gone ↦ c.in_default.not-gone
      | Frame ↦ c.in_default.not-frame
      | Suspect ↦ c.in_default.not-suspect
      | Quota ↦ c.in_default.not-quota
      | Take ↦ c.in_default.not-take
      | Tick ↦ c.in_default.not-tick
    ]))
