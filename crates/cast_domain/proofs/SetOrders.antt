-- Set-order messages of the records are those of the history that they stand for.
use Rattle.std.proofs.Common.{◌≡◌, ℕ, Bool, true, false, not, Some, None, refl, sym, ap, subst, ◌∙◌, inl, inr}
use Rattle.std.specs.Prelude.{◌&&◌, if◌then◌else◌, slice_get}
use Rattle.std.specs.Option.{IsSome, option_map_or}
use Rattle.std.proofs.lemmas.Bool.{cases_Bool, and_from, eq-eqb}
use Rattle.cast_types.specs.declared.names.GroupNo.{GroupNo}
use Rattle.cast_types.specs.declared.names.Proc.{Proc}
use Rattle.cast_types.specs.Stamps.{ClockList}
use Rattle.cast_types.specs.Sources.{source_of}
use Rattle.cast_clock.specs.Times.{count_in, with_bump}
use Rattle.cast_message.specs.declared.message.Body.TheVariants as body
use Rattle.cast_message.specs.declared.message.Message.{Message}
use Rattle.cast_message.specs.Placement.{Placement}
use Rattle.cast_ready.specs.Ready.{is_member}
use Rattle.cast_delay.specs.Queue.{row_of}
use Rattle.cast_order.specs.Log.{next_places}
use Rattle.cast_rules.specs.Rules.Room.{may_order}
use Rattle.cast_rules.specs.History.{history}
use Rattle.cast_rules.specs.Rules.Sending.{send_message, may_raise}
use Rattle.cast_domain.specs.declared.record.GroupRecord.{GroupRecord}
use Rattle.cast_view.specs.Home.{is_empty}
use Rattle.cast_rules.specs.State.{State, local, noting_sent}
use Rattle.cast_rules.specs.Order.{order_told, unlisted_ids, has_place}
use Rattle.cast_rules.specs.Effects.{next_message, sending}
use Rattle.cast_rules.specs.Rest.{set_order_by, let_go}
use Rattle.cast_rules.proofs.Setting.{may_set_order, set_order_is}
use Rattle.cast_domain.specs.Records.{Records}
use Rattle.cast_rules.specs.Rules.Release as release
use Rattle.cast_domain.specs.PartCalls.{standing_of, time_of, record_at, learn_in, note_sent_by}
use Rattle.cast_domain.specs.ReleaseCalls.{log_in}
use Rattle.cast_domain.specs.Calls.{records}
use Rattle.cast_domain.specs.RestCalls.{resting_records}
use Rattle.cast_rules.specs.Resting.{places_of}
use Rattle.cast_rules.specs.Rules.Order as order
use Rattle.cast_rules.specs.Lawful.{IsLawful}
use Rattle.cast_domain.specs.Fits.{record_for, Fits}
use Rattle.cast_rules.proofs.Alikes.{alike_sending}
use Rattle.cast_rules.proofs.LawfulSteps.{lawful_order_sent}
use Rattle.cast_domain.proofs.Logs.{logs_receive}
use Rattle.cast_domain.proofs.Ordering.{order_room_there, unfrozen_waits, places_there}
use Rattle.cast_types.proofs.Bools.{and_none}
use Rattle.cast_domain.proofs.Standing.{record_there, member_row, standing_there, time_there}
use Rattle.cast_domain.proofs.Releases.{fits_let_go}
use Rattle.cast_domain.proofs.CommandSteps.{fits_noted, noted_new, next_sound, fits_send_message_with}
use Rattle.cast_domain.proofs.TurnSteps.{Kept, kept_self, kept_if}
use Rattle.cast_domain.proofs.Receipts.{live_now}
use Rattle.cast_rules.proofs.LawfulMessages.{local_speaks}

-- The message

-- a process lists these ids, over a record of the group that is at hand
abbrev sent_at : Records → Proc → GroupRecord → Placement → Records
sent_at r p x places =
    let times : ClockList = with_bump (time_of r.delay p) x.name p in
    let m : Message = record {
      id = record { group = x.name; view = x.here.number; proc = p; count = count_in times x.name p };
      times = times;
      body = body.Order places;
    } in
    send_message records (note_sent_by r p m) m

fits_places : (r : Records) (s : State) → Fits r s → IsLawful s → (k : ℕ) (g : GroupNo) → is_member ((s.process k).standing g) ≡ true →
    may_raise (s.process k).time g (local s k) ≡ true → (q : Placement) →
    Fits (sent_at r (local s k) (record_for s g) q) (sending s g k (body.Order q))
fits_places r s f l k g member raises q =
    subst (λ x. Fits x (sending s g k (body.Order q))) (sym same)
    (fits_send_message_with (note_sent_by r p m) s1 noted m (next_sound s g k (body.Order q) l member)
    (live_now s1 (source_of m.id) refl (local_speaks s1 g k)) (learn_in (note_sent_by r p m).orders g (body.Order q))
    (logs_receive s1 m (note_sent_by r p m).orders noted.orders (eq-eqb (s.group g).number (s.group g).number refl)
    (noted_new r s f l k g (body.Order q) member raises)))
  where
    p : Proc
    p = local s k

    m : Message
    m = next_message s g k (body.Order q)

    s1 : State
    s1 = noting_sent s k m

    noted : Fits (note_sent_by r p m) s1
    noted = fits_noted r s f l k g (body.Order q) member raises

    row : IsSome (row_of r.delay.rows p)
    row = member_row r s f k g member

    same : sent_at r p (record_for s g) q ≡ send_message records (note_sent_by r p m) m
    same = λ j. sent_with (with_bump (time_there r s f k row j) g p)
      where
        sent_with : ClockList → Records
        sent_with times =
            let x : Message = record {
              id = record { group = g; view = (s.group g).number; proc = p; count = count_in times g p };
              times = times;
              body = body.Order q;
            } in
            send_message records (note_sent_by r p x) x

-- six tests, one after another
choose : (m w o e h y : Bool) (x : Placement → Records) (z : Placement → State) (q : Placement) (r : Records) (s : State) → Fits r s →
    (m ≡ true → w ≡ true → o ≡ true → e ≡ true → h ≡ true → y ≡ true → Fits (x q) (z q)) →
    Fits (if m && (w && o) then option_map_or (λ p. if y then x p else r) (if e && h then Some q else None) r else r)
    (if m && (w && o) then option_map_or (λ p. if y then z p else s) (if e && h then Some q else None) s else s)
choose false w o e h y x z q r s f go = f
choose true false o e h y x z q r s f go = f
choose true true false e h y x z q r s f go = f
choose true true true false h y x z q r s f go = f
choose true true true true false y x z q r s f go = f
choose true true true true true false x z q r s f go = f
choose true true true true true true x z q r s f go = go refl refl refl refl refl refl

-- over the name of the process, and a record of the group that is at hand
abbrev set_at_hand : Records → Proc → GroupRecord → Records
set_at_hand r p x =
    if is_member (standing_of r.delay p x.name) && (not x.here.frozen && may_order records r)
    then option_map_or (λ places. if may_raise (time_of r.delay p) x.name p
    then release.let_go records resting_records (sent_at r p x places)
    else r) (next_places (log_in r x.name) p) r
    else r

pub fits_set_order_by : (r : Records) (s : State) → Fits r s → IsLawful s → (i : ℕ) (g : GroupNo) → slice_get s.config.groups i ≡ Some g →
    (k : ℕ) → Fits (order.set_order_by records resting_records r i k) (set_order_by s g k)
fits_set_order_by r s f l i g at k =
    subst (λ t. Fits (set_at_hand r (record { site = t; serial = k }) (record_at r.groups i)) (set_order_by s g k))
    (sym (ap (λ c. c.site) f.core))
    (subst (λ x. Fits (set_at_hand r p x) (set_order_by s g k)) (sym (record_there r s f i g at))
    (subst (λ x. Fits x (set_order_by s g k)) (sym tested)
    (choose member unfrozen room some place raised (λ q. release.let_go records resting_records (sent_at r p (record_for s g) q))
    (λ q. let_go (sending s g k (body.Order q))) (places_of s g k) r s f sets)))
  where
    p : Proc
    p = local s k

    member : Bool
    member = is_member ((s.process k).standing g)

    unfrozen : Bool
    unfrozen = not (s.group g).frozen

    room : Bool
    room = may_order history s

    some : Bool
    some = not (is_empty (unlisted_ids s g k))

    place : Bool
    place = has_place (order_told s g)

    raised : Bool
    raised = may_raise (s.process k).time g p

    -- where it may list
    at_hand : Records
    at_hand =
        option_map_or (λ q. if may_raise (time_of r.delay p) g p
        then release.let_go records resting_records (sent_at r p (record_for s g) q)
        else r) (next_places (log_in r g) p) r

    listing : Records
    listing =
        option_map_or (λ q. if raised then release.let_go records resting_records (sent_at r p (record_for s g) q) else r)
        (if some && place then Some (places_of s g k) else None) r

    tested : set_at_hand r p (record_for s g) ≡ (if member && (unfrozen && room) then listing else r)
    tested = elim (cases_Bool member) [
      | inl is ↦ elim (cases_Bool unfrozen) [
        | inl goes ↦
            let row = member_row r s f k g is in
            (λ j.
            if is_member (standing_there r s f k g j) && (unfrozen && order_room_there r s f j)
            then option_map_or (λ q. if may_raise (time_there r s f k row j) g p then release.let_go records resting_records
            (sent_at r p (record_for s g) q) else r) (places_there r s f g k (unfrozen_waits s l g goes) j) r
            else r)
        | inr frozen ↦
            ap (λ b. if is_member (standing_of r.delay p g) && (b && may_order records r) then at_hand else r) frozen
            ∙ ap (λ b. if b then at_hand else r) (and_none (is_member (standing_of r.delay p g)))
            ∙ sym (ap (λ b. if member && (b && room) then listing else r) frozen ∙ ap (λ b. if b then listing else r) (and_none member))
      ]
      | inr away ↦
          ap (λ b. if b && (unfrozen && may_order records r) then at_hand else r) (ap is_member (standing_there r s f k g) ∙ away)
          ∙ sym (ap (λ b. if b && (unfrozen && room) then listing else r) away)
    ]

    sets : member ≡ true → unfrozen ≡ true → room ≡ true → some ≡ true →
        place ≡ true → raised ≡ true → Fits (release.let_go records resting_records (sent_at r p (record_for s g) (places_of s g k)))
        (let_go (sending s g k (body.Order (places_of s g k))))
    sets a w b c d e =
        let q : Placement = places_of s g k in
        let may : may_set_order s g k ≡ true =
        and_from member _ a (and_from unfrozen _ w (and_from room _ b (and_from some _ c (and_from place raised d e)))) in
        fits_let_go (sent_at r p (record_for s g) q) (sending s g k (body.Order q))
        (fits_places r s f l k g a e q)
        (lawful_order_sent s g k (body.Order q) l may)

pub kept_set_order_by : (s : State) (g : GroupNo) (k : ℕ) → Kept s (set_order_by s g k)
kept_set_order_by s g k =
    let t : State = sending s g k (body.Order (places_of s g k)) in
    let a = alike_sending s g k (body.Order (places_of s g k)) in
    subst (Kept s) (sym (set_order_is s g k))
    (kept_if s (let_go t) s (may_set_order s g k) (record { here = a.here; config = a.config; used = a.used }) (kept_self s))
