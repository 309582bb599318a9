use Rattle.std.proofs.Common.{◌≢◌, sym, ap, ◌∙◌}
use Rattle.cast_quota.specs.declared.quotas.QuotaName.TheVariants as name
use Rattle.cast_script.specs.Words.{quota_name_text}
use Rattle.cast_script.specs.WordReadings.{quota_name_of}
use Rattle.cast_script.proofs.Parts.{quota_name_again, quota_name_not}
use Rattle.cast_script.proofs.words.quota_name_word.Goals as goal

pub returns-in-sessions : goal.returns-in-sessions
returns-in-sessions c = sym (ap quota_name_of c.in-sessions.is ∙ quota_name_again name.Sessions)

pub returns-in-held : goal.returns-in-held
returns-in-held c = sym (ap quota_name_of c.in-held.is ∙ quota_name_again name.Held)

pub returns-in-outbox : goal.returns-in-outbox
returns-in-outbox c = sym (ap quota_name_of c.in-outbox.is ∙ quota_name_again name.Outbox)

pub returns-in-resend : goal.returns-in-resend
returns-in-resend c = sym (ap quota_name_of c.in-resend.is ∙ quota_name_again name.Resend)

pub returns-in_default : goal.returns-in_default
returns-in_default c =
    sym (quota_name_not c.args.word.now (λ n.
    elim n as (λ n. c.args.word.now ≢ quota_name_text n) [
      | name.Sessions ↦ c.in_default.not-sessions
      | name.Held ↦ c.in_default.not-held
      | name.Outbox ↦ c.in_default.not-outbox
      | name.Resend ↦ c.in_default.not-resend
    ]))
