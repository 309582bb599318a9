use Rattle.std.proofs.Common.{◌≢◌, refl, sym}
use Rattle.cast_console.specs.declared.line.Head.TheVariants as head
use Rattle.cast_console.specs.Lines.{head_of, head_text}
use Rattle.cast_console.proofs.Heads.{head_not}
use Rattle.cast_console.proofs.line.head_of.Goals as goal

pub returns-in-domains : goal.returns-in-domains
unfolding head_of
returns-in-domains c = rw c.in-domains.is refl

pub returns-in-show : goal.returns-in-show
unfolding head_of
returns-in-show c = rw c.in-show.is refl

pub returns-in-groups : goal.returns-in-groups
unfolding head_of
returns-in-groups c = rw c.in-groups.is refl

pub returns-in-suspect : goal.returns-in-suspect
unfolding head_of
returns-in-suspect c = rw c.in-suspect.is refl

pub returns-in-quota : goal.returns-in-quota
unfolding head_of
returns-in-quota c = rw c.in-quota.is refl

pub returns-in-retire : goal.returns-in-retire
unfolding head_of
returns-in-retire c = rw c.in-retire.is refl

pub returns-in-trace : goal.returns-in-trace
unfolding head_of
returns-in-trace c = rw c.in-trace.is refl

pub returns-in-datagrams : goal.returns-in-datagrams
unfolding head_of
returns-in-datagrams c = rw c.in-datagrams.is refl

pub returns-in-record : goal.returns-in-record
unfolding head_of
returns-in-record c = rw c.in-record.is refl

pub returns-in-keys : goal.returns-in-keys
unfolding head_of
returns-in-keys c = rw c.in-keys.is refl

pub returns-in-stop : goal.returns-in-stop
unfolding head_of
returns-in-stop c = rw c.in-stop.is refl

pub returns-in_default : goal.returns-in_default
returns-in_default c =
    sym (head_not c.args.word.now (λ h.
    elim h as (λ h. c.args.word.now ≢ head_text h) [
      | head.Domains ↦ c.in_default.not-domains
      | head.Show ↦ c.in_default.not-show
      | head.Groups ↦ c.in_default.not-groups
      | head.Suspect ↦ c.in_default.not-suspect
      | head.Quota ↦ c.in_default.not-quota
      | head.Retire ↦ c.in_default.not-retire
      | head.Trace ↦ c.in_default.not-trace
      | head.Datagrams ↦ c.in_default.not-datagrams
      | head.Record ↦ c.in_default.not-record
      | head.Keys ↦ c.in_default.not-keys
      | head.Stop ↦ c.in_default.not-stop
    ]))
