-- What an event does to a domain's records it does to their history, and it is answered alike.
use Rattle.std.proofs.Common.{◌≡◌, ℕ, ◌+◌, not, take, refl, sym, ap, ◌∙◌}
use Rattle.std.specs.Prelude.{◌==◌, ◌&&◌, if◌then◌else◌}
use Rattle.std.proofs.lemmas.Bool.{and_parts, not-true}
use Rattle.cast_types.specs.declared.refusal.Refusal.TheVariants.{NotOpen, TooManySessions, OutOfRange}
use Rattle.cast_types.specs.declared.limits.TheConstants.{MAX_NUMBER}
use Rattle.cast_events.specs.declared.event.Event.{Event}
use Rattle.cast_events.specs.declared.event.Event.TheVariants as event
use Rattle.cast_events.specs.declared.event.Taken.TheVariants as taken
use Rattle.cast_quota.specs.Quotas as quota
use Rattle.cast_rules.specs.State.{State, taking, setting_quota}
use Rattle.cast_events.specs.Session.{is_open_status, is_gone, is_gone_status}
use Rattle.cast_rules.specs.History.{history}
use Rattle.cast_rules.specs.Step.{opening_next, sessions_given, act_of_event, answer_of_event}
use Rattle.cast_rules.specs.Rules.Events as rules
use Rattle.cast_domain.specs.Records.{Records}
use Rattle.cast_domain.specs.PartCalls.{take_entries_in, set_quota_in}
use Rattle.cast_domain.specs.Calls.{records, records_sessions, open_in, acted_in}
use Rattle.cast_rules.specs.Lawful.{IsLawful, IsTyped}
use Rattle.cast_domain.specs.GivenSessions.{status_in}
use Rattle.cast_domain.specs.Fits.{Fits}
use Rattle.cast_domain.proofs.Standing.{fits_if}
use Rattle.cast_domain.proofs.SessionChanges.{fits_take_entries, fits_counted, sessions_there, status_there, box_there}
use Rattle.cast_domain.proofs.Arrivals.{fits_open}
use Rattle.cast_domain.proofs.Framing.{fits_on_site_frame, fits_on_command, fits_suspect}
use Rattle.cast_domain.proofs.Ending.{fits_ended}
use Rattle.cast_domain.proofs.Following.{fits_tick}

-- one more session may be opened on both sides, or on neither
may_open_same : (r : Records) (s : State) → Fits r s → rules.may_open records records_sessions r ≡ rules.may_open history sessions_given s
may_open_same r s f = λ i. quota.may_open (f.core i).quotas (sessions_there r s f i) && not ((f.core i).used == MAX_NUMBER)

-- a session is gone on both sides, or on neither
gone_same : (r : Records) (s : State) → Fits r s → (k : ℕ) → is_gone_status (status_in r.sessions k) ≡ is_gone (s.session k)
gone_same r s f k = ap is_gone_status (status_there r s f k)

-- each event
pub fits_acted : (r : Records) (s : State) (e : Event) → Fits r s → IsLawful s → IsTyped e → Fits (acted_in r e) (act_of_event s e)
fits_acted r s (event.Open d) f l typed =
    fits_if (rules.may_open records records_sessions r) (rules.may_open history sessions_given s) (open_in r) r (opening_next s)
    s (may_open_same r s f)
    (λ _. fits_open r s f) (λ _. f)
fits_acted r s (event.Command d k c) f l typed = fits_on_command r s f l k c
fits_acted r s (event.Gone d k) f l typed = fits_ended r s f l k
fits_acted r s (event.Suspect d site) f l typed = fits_suspect r s f l site
fits_acted r s (event.Frame d from x) f l typed = fits_on_site_frame r s f l from x typed
fits_acted r s (event.Quota d name value) f l typed =
    fits_if (quota.is_in_range name value) (quota.is_in_range name value) (set_quota_in r name value) r (setting_quota s name value) s refl
    (λ _. fits_counted r s f (quota.with_quota name value) (λ n. n)) (λ _. f)
fits_acted r s (event.Take d k most) f l typed =
    fits_if (not (is_gone_status (status_in r.sessions k)) && rules.is_taken most) (not (is_gone (s.session k)) && rules.is_taken most)
    (take_entries_in r k most) r (taking s k most) s
    (ap (λ b. not b && rules.is_taken most) (gone_same r s f k))
    (λ may. fits_take_entries r s f k most (not-true (is_gone (s.session k)) (and_parts (not (is_gone (s.session k))) (rules.is_taken most)
    (sym (ap (λ b. not b && rules.is_taken most) (gone_same r s f k)) ∙ may)).0))
    (λ _. f)
fits_acted r s (event.Tick t) f l typed = fits_tick r s f t

-- and its answer
pub answer_acted : (r : Records) (s : State) (e : Event) → Fits r s
    → rules.answer_to_event records records_sessions r e ≡ answer_of_event s e
answer_acted r s (event.Open d) f =
    λ i. if may_open_same r s f i then taken.Opened ((f.core i).used + 1) else taken.Refused TooManySessions
answer_acted r s (event.Command d k c) f =
    ap (λ b. if b then taken.Nothing else taken.Refused NotOpen) (ap is_open_status (status_there r s f k))
answer_acted r s (event.Gone d k) f = ap (λ b. if b then taken.Refused NotOpen else taken.Nothing) (gone_same r s f k)
answer_acted r s (event.Frame d from x) f = refl
answer_acted r s (event.Suspect d site) f = refl
answer_acted r s (event.Quota d name value) f = refl
answer_acted r s (event.Take d k most) f =
    λ i. if gone_same r s f k i then taken.Refused NotOpen
    else if rules.is_taken most then taken.Entries (take most (box_there r s f k i)) else taken.Refused OutOfRange
answer_acted r s (event.Tick t) f = refl
