-- What a domain's records keep of owed frames is what the history keeps that they stand for.
use Rattle.std.proofs.Common.{◌≡◌, ℕ, ◌+◌, true, false, cond, List, [], ◌∷◌, min, max, Some, refl, ap, ◌∙◌}
use Rattle.std.specs.List.{find}
use Rattle.std.specs.Option.{option_map}
use Rattle.cast_types.specs.declared.names.GroupNo.{GroupNo}
use Rattle.cast_types.specs.declared.names.Uid.{Uid}
use Rattle.cast_types.specs.declared.limits.TheConstants.{MAX_MOMENT}
use Rattle.cast_types.specs.Names.{uid_eq}
use Rattle.cast_message.specs.declared.message.Message.{Message}
use Rattle.cast_message.specs.declared.message.Received.{Received}
use Rattle.cast_message.specs.Receipts.{messages}
use Rattle.cast_timer.specs.declared.key.Owed.{Owed}
use Rattle.cast_timer.specs.declared.key.OwedKey.{OwedKey}
use Rattle.cast_timer.specs.Owed.{with_owed, paid, is_of_view, is_upto, renew, key_eq}
use Rattle.cast_rules.specs.State.{State, message_of}
use Rattle.cast_rules.specs.Owing.{next_due, noting_owed, noting_resent, paying, paying_upto, paying_view, at_moment}
use Rattle.cast_domain.specs.Records.{Records}
use Rattle.cast_domain.specs.PartCalls.{message_in, next_due_in, note_owed_in, note_resent_in, pay_in, pay_upto_in, note_moment_in}
use Rattle.cast_domain.specs.ReleaseCalls.{pay_view_in}
use Rattle.cast_domain.specs.Fits.{Fits}
use Rattle.cast_domain.proofs.Standing.{orders_same}

-- What is owed

-- what is owed changes on both sides alike
pub fits_owed : (r : Records) (s : State) → Fits r s → (o p : List Owed) → o ≡ p →
    Fits (record r { part = record r.part { owed = o } }) (record s { owed = p })
fits_owed r s fits o p same = record {
  core = λ i. record (fits.core i) { owed = same i };
  opened = fits.opened;
  groups = fits.groups;
  messages = fits.messages;
  processes = fits.processes;
  acks = fits.acks;
  orders = orders_same s (record s { owed = p }) r.orders refl refl refl refl refl refl refl refl (λ u is. is) fits.orders;
  frames = fits.frames;
  delivered = fits.delivered;
  pushed = fits.pushed;
}

-- a frame is owed no more
pub fits_pay : (r : Records) (s : State) → Fits r s → (key : OwedKey) → Fits (pay_in r key) (paying s key)
fits_pay r s fits key =
    fits_owed r s fits (paid (key_eq key) r.part.owed) (paid (key_eq key) s.owed) (ap (paid (key_eq key)) (ap (λ c. c.owed) fits.core))

-- nor those of its kind about the process's messages before
pub fits_pay_upto : (r : Records) (s : State) → Fits r s → (key : OwedKey) → Fits (pay_upto_in r key) (paying_upto s key)
fits_pay_upto r s fits key =
    fits_owed r s fits (paid (is_upto key) r.part.owed) (paid (is_upto key) s.owed) (ap (paid (is_upto key)) (ap (λ c. c.owed) fits.core))

-- nor what the site owes for a view
pub fits_pay_view : (r : Records) (s : State) → Fits r s → (g : GroupNo) → Fits (pay_view_in r g) (paying_view s g)
fits_pay_view r s fits g =
    fits_owed r s fits (paid (is_of_view g) r.part.owed) (paid (is_of_view g) s.owed)
    (ap (paid (is_of_view g)) (ap (λ c. c.owed) fits.core))

-- the kept message of an id
found_mapped : (u : Uid) (kept : List Received) → option_map (λ (x : Received). x.message)
    (find (λ (x : Received). uid_eq x.message.id u) kept) ≡ find (λ (m : Message). uid_eq m.id u) (messages kept)
found_mapped u [] = refl
found_mapped u (x ∷ kept) =
    elim (uid_eq x.message.id u)
    as (λ b. option_map (λ (y : Received). y.message) (cond b (Some x) (find (λ (y : Received). uid_eq y.message.id u) kept))
    ≡ cond b (Some x.message) (find (λ (m : Message). uid_eq m.id u) (messages kept))) [
      | true ↦ refl
      | false ↦ found_mapped u kept
    ]

pub message_same : (r : Records) (s : State) → Fits r s → (u : Uid) → message_in r u ≡ message_of s u
message_same r s fits u = found_mapped u r.part.kept ∙ ap (find (λ (m : Message). uid_eq m.id u)) fits.messages.kept_in

-- the moment at which what is sent now is due again
due_same : (r : Records) (s : State) → Fits r s → next_due_in r ≡ next_due s
due_same r s fits = λ i. (fits.core i).moment + (fits.core i).quotas.resend

-- a frame is owed from now on, or was sent again now

pub fits_note_owed : (r : Records) (s : State) → Fits r s → (key : OwedKey) → Fits (note_owed_in r key) (noting_owed s key)
fits_note_owed r s fits key =
    fits_owed r s fits (with_owed r.part.owed key (next_due_in r)) (with_owed s.owed key (next_due s))
    (λ i. with_owed (fits.core i).owed key (due_same r s fits i))

pub fits_note_resent : (r : Records) (s : State) → Fits r s → (key : OwedKey) → Fits (note_resent_in r key) (noting_resent s key)
fits_note_resent r s fits key =
    fits_owed r s fits (renew r.part.owed key (next_due_in r)) (renew s.owed key (next_due s))
    (λ i. renew (fits.core i).owed key (due_same r s fits i))

-- time passes
pub fits_moment : (r : Records) (s : State) → Fits r s → (t : ℕ) → Fits (note_moment_in r t) (at_moment s t)
fits_moment r s fits t = record {
  core = λ i. record (fits.core i) { moment = max (fits.core i).moment (min t MAX_MOMENT) };
  opened = fits.opened;
  groups = fits.groups;
  messages = fits.messages;
  processes = fits.processes;
  acks = fits.acks;
  orders = orders_same s (at_moment s t) r.orders refl refl refl refl refl refl refl refl (λ u is. is) fits.orders;
  frames = fits.frames;
  delivered = fits.delivered;
  pushed = fits.pushed;
}
