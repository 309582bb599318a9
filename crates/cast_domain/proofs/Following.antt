-- The records follow the history: each question of a rule has the same answer, and each of its moves keeps what the records stand for.
use Rattle.std.proofs.Common.{◌≡◌, ◌<◌, ℕ, true, List, Some, None, refl, sym, ap, subst, ◌∙◌}
use Rattle.std.specs.Prelude.{if◌then◌else◌, slice_get}
use Rattle.std.specs.List.{fold}
use Rattle.std.proofs.lemmas.Bool.{lt-ltb, ltb-true}
use Rattle.cast_types.specs.declared.names.SiteNo.{SiteNo}
use Rattle.cast_types.specs.declared.names.GroupNo.{GroupNo}
use Rattle.cast_types.specs.declared.names.Uid.{Uid}
use Rattle.cast_types.specs.Sources.{source_of}
use Rattle.cast_timer.specs.Owed.{is_owed, due_at}
use Rattle.cast_stable.specs.Stable.{Acked}
use Rattle.cast_stable.specs.Acks.{Acks, acked_ledger, learnt_ledger}
use Rattle.cast_stable.specs.Fits.{Fits as AcksFits}
use Rattle.cast_stable.proofs.Meanings.{upto_meant, ack_fits, learn_fits}
use Rattle.cast_order.specs.Log.{log_of}
use Rattle.cast_rules.specs.State.{State, is_group, noting_ack, noting_stable}
use Rattle.cast_rules.specs.History.{history}
use Rattle.cast_rules.specs.Rules.Owing.{tick}
use Rattle.cast_rules.specs.Rules.Sending.{send_data}
use Rattle.cast_rules.proofs.Rules.Follows.{AtBoth, IsInvariant, Follows}
use Rattle.cast_rules.proofs.Rules.Owing.{tick_follows}
use Rattle.cast_rules.proofs.Rules.Sending.{sends_follow}
use Rattle.cast_domain.specs.declared.record.GroupRecord.{GroupRecord}
use Rattle.cast_domain.specs.Records.{Records}
use Rattle.cast_domain.specs.PartCalls.{place_in, note_ack_in, note_stable_in}
use Rattle.cast_domain.specs.Calls.{records}
use Rattle.cast_domain.specs.Fits.{is_live, past_of, LogFits, Fits}
use Rattle.cast_domain.proofs.Logs.{logs_ack}
use Rattle.cast_domain.proofs.Standing.{orders_same, record_there, place_some, place_none, fits_send}
use Rattle.cast_domain.proofs.Owings.{message_same, fits_note_owed, fits_note_resent, fits_pay, fits_pay_upto, fits_pay_view, fits_moment}

-- the group at a place of these
abbrev pub IsAt : List GroupNo → ℕ → GroupNo → Type 0
IsAt groups i g = slice_get groups i ≡ Some g

-- the records stand for a history of a domain of these groups
abbrev pub FitsIn : List GroupNo → Records → State → Type 0
FitsIn groups r s = Fits r s × (s.config.groups ≡ groups)

-- a group stands at a place, or is none of the domain's
place_both : (groups : List GroupNo) (r : Records) (s : State) → FitsIn groups r s → (g : GroupNo) →
    AtBoth (IsAt groups) (place_in r g) (if is_group s g then Some g else None)
place_both groups r s f g =
    elim (place_in r g) as (λ o. place_in r g ≡ o → AtBoth (IsAt groups) o (if is_group s g then Some g else None)) [
      | Some i ↦ λ is.
          let at = place_some r s f.0 g i is in
          subst (λ b. AtBoth (IsAt groups) (Some i) (if b then Some g else None)) (sym at.1) (sym (ap (λ l. slice_get l i) f.1) ∙ at.0)
      | None ↦ λ is. subst (λ b. AtBoth (IsAt groups) None (if b then Some g else None)) (sym (place_none r s f.0 g is)) tt
    ] refl

-- what was acknowledged and told is noted on both sides
fits_noted : (r : Records) (s : State) → Fits r s → (acks : List Acked) (told : List Uid) (ledger : Acks) →
    AcksFits (record (past_of s) { acks = acks; told = told }) ledger →
    ((g : GroupNo) → LogFits (record s { acks = acks; told = told }) g (log_of r.orders g)) →
    Fits (record r { acks = ledger }) (record s { acks = acks; told = told })
fits_noted r s f acks told ledger known orders = record {
  core = f.core;
  opened = f.opened;
  groups = f.groups;
  messages = f.messages;
  processes = f.processes;
  acks = known;
  orders = orders;
  frames = f.frames;
  delivered = f.delivered;
  pushed = f.pushed;
}

fits_note_ack : (r : Records) (s : State) → Fits r s → (from : SiteNo) (u : Uid) → Fits (note_ack_in r from u) (noting_ack s from u)
fits_note_ack r s f from u =
    fits_noted r s f (noting_ack s from u).acks s.told (acked_ledger r.acks from u)
    (ack_fits (past_of s) r.acks f.acks from u)
    (λ g. logs_ack s from u g (log_of r.orders g) (f.orders g))

fits_note_stable : (r : Records) (s : State) → Fits r s → (u : Uid) → Fits (note_stable_in r u) (noting_stable s u)
fits_note_stable r s f u =
    fits_noted r s f s.acks (noting_stable s u).told (learnt_ledger r.acks u)
    (learn_fits (past_of s) r.acks f.acks u)
    (orders_same s (noting_stable s u) r.orders refl refl refl refl refl refl refl refl (λ v is. is) f.orders)

-- a rule asks of messages of live sources by which sites they are acknowledged
abbrev pub asked_of : State → Uid → Type 0
asked_of s u = is_live s (source_of u) ≡ true

still_asked : (u : Uid) → IsInvariant history (λ s. asked_of s u)
still_asked u = record {
  send = λ s live to f. live;
  note_owed = λ s live key. live;
  note_resent = λ s live key. live;
  pay = λ s live key. live;
  pay_upto = λ s live key. live;
  pay_view = λ s live g. live;
  note_moment = λ s live t. live;
  note_ack = λ s live from v. live;
  note_stable = λ s live v. live;
}

pub records_follow : (groups : List GroupNo) → Follows records history (FitsIn groups) (IsAt groups)
records_follow groups = record {
  asked = asked_of;
  still_asked = still_asked;
  here = λ r s f. (ap (λ c. c.site) f.0.core);
  config = λ r s f. (ap (λ c. c.config) f.0.core);
  place = place_both groups;
  group = λ r s f i g at. ap (λ (x : GroupRecord). x.here) (record_there r s f.0 i g (ap (λ l. slice_get l i) f.1 ∙ at));
  home = λ r s f i g at. ap (λ (x : GroupRecord). x.home) (record_there r s f.0 i g (ap (λ l. slice_get l i) f.1 ∙ at));
  others = λ r s f. f.0.acks.views;
  stable_upto = λ r s f. upto_meant (past_of s) r.acks f.0.acks;
  has_acked = λ r s f u asked counted to. f.0.acks.acked to u asked (ltb-true 0 u.count counted);
  message = λ r s f. message_same r s f.0;
  is_owed = λ r s f key. ap (λ o. is_owed o key) (ap (λ c. c.owed) f.0.core);
  due = λ r s f. λ i. due_at (f.0.core i).moment (f.0.core i).owed;
  send = λ r s f to x. (fits_send r s f.0 to x, f.1);
  note_owed = λ r s f key. (fits_note_owed r s f.0 key, f.1);
  note_resent = λ r s f key. (fits_note_resent r s f.0 key, f.1);
  pay = λ r s f key. (fits_pay r s f.0 key, f.1);
  pay_upto = λ r s f key. (fits_pay_upto r s f.0 key, f.1);
  pay_view = λ r s f g. (fits_pay_view r s f.0 g, f.1);
  note_moment = λ r s f t. (fits_moment r s f.0 t, f.1);
  note_ack = λ r s f from u. (fits_note_ack r s f.0 from u, f.1);
  note_stable = λ r s f u. (fits_note_stable r s f.0 u, f.1);
}

pub records_ask : (groups : List GroupNo) (s : State) (u : Uid) → asked_of s u → (records_follow groups).asked s u
unfolding records_follow
records_ask groups s u asked = asked

-- So by each rule the records go on standing for the history

module _ (r : Records) (s : State) (f : Fits r s) where
  abbrev groups : List GroupNo
  groups = s.config.groups

  pub fits_sends : (u : Uid) → 0 < u.count → asked_of s u → (sites : List SiteNo) →
      Fits (fold (send_data records u) r sites) (fold (send_data history u) s sites)
  fits_sends u counted asked sites =
      (sends_follow records history (FitsIn groups) (IsAt groups) (records_follow groups) u (lt-ltb 0 u.count counted) sites r s (f, refl)
      (records_ask groups s u asked)).0

  pub fits_tick : (t : ℕ) → Fits (tick records r t) (tick history s t)
  fits_tick t = (tick_follows records history (FitsIn groups) (IsAt groups) (records_follow groups) r s (f, refl) t).0
