-- Where no message was free before an event, it sets free none but such as are of one source, where that is known: a message that comes, an
-- acknowledgement and the news that messages are stable change nothing for other sources.
use Rattle.std.proofs.Common.{◌≡◌, ◌≢◌, ◌∙◌, true, false, cond, not, ◌&&◌, min, List}
use Rattle.std.proofs.Common.{[], ◌∷◌, map, length, Some, None, refl, sym, ap, inl, inr}
use Rattle.std.specs.Prelude.{ℕ, nat_lt, nat_le, if◌then◌else◌, unwrap_or}
use Rattle.std.specs.List.{fold, reduce, range_with_len}
use Rattle.std.specs.Option.{option_map_or}
use Rattle.std.proofs.lemmas.List.Elements.{Contains-push_cases}
use Rattle.cast_types.specs.declared.names.SiteNo.{SiteNo}
use Rattle.cast_types.specs.declared.names.Uid.{Uid}
use Rattle.cast_types.specs.Names.{site_eq}
use Rattle.cast_types.specs.Sources.{source_of}
use Rattle.cast_types.specs.Sets.{is_among}
use Rattle.cast_types.proofs.Sources.{source_total, source_exact}
use Rattle.cast_message.specs.declared.message.Message.{Message}
use Rattle.cast_message.specs.declared.message.Received.{Received}
use Rattle.cast_message.specs.declared.site.SiteFrame.{SiteFrame}
use Rattle.cast_message.specs.declared.site.SiteFrame.TheVariants as frame
use Rattle.cast_delay.specs.Queue.{is_awaited}
use Rattle.cast_timer.specs.Owed.{is_owed}
use Rattle.cast_timer.specs.declared.key.OwedKey.{OwedKey}
use Rattle.cast_timer.specs.declared.key.OwedKind.TheVariants as kinds
use Rattle.cast_view.specs.MemberSide.{is_current}
use Rattle.cast_stable.specs.Runs.{no_counts, insert_count}
use Rattle.cast_stable.specs.declared.witness.Witness.{Witness}
use Rattle.cast_stable.specs.Witnesses.{witness}
use Rattle.cast_stable.specs.Acks.{Acks, acked_run, told_count, is_received_in, is_stable_among}
use Rattle.cast_stable.specs.Acks.{is_stable_in, others_in, upto_in, acked_ledger, learnt_ledger}
use Rattle.cast_stable.proofs.Witnesses.{witness_total, witness_exact, put_elsewhere}
use Rattle.cast_events.specs.declared.event.Event.{Event}
use Rattle.cast_events.specs.declared.event.Event.TheVariants as event
use Rattle.cast_events.specs.Session.{is_gone_status}
use Rattle.cast_quota.specs.Quotas.{is_in_range}
use Rattle.cast_rules.specs.Rules.Keys.{message_key}
use Rattle.cast_rules.specs.Rules.Events.{is_taken}
use Rattle.cast_rules.specs.Rules.Owing.{frame_for, send_for, owe}
use Rattle.cast_rules.specs.Rules.Room.{may_take}
use Rattle.cast_rules.specs.Rules.Data.{is_used, is_outdated, acknowledge, want_no_more, use_data, on_data}
use Rattle.cast_rules.specs.Rules.Stability.{is_used_ack, with_ack, tell_stable, tell_more, on_ack, on_stable}
use Rattle.cast_rules.specs.Rules.Frames.{on_site_frame, group_of, on_frame}
use Rattle.cast_domain.specs.GivenSessions.{status_in}
use Rattle.cast_domain.specs.Records.{Records}
use Rattle.cast_domain.specs.PartCalls.{place_in, record_at, send_in, note_owed_in, pay_upto_in, note_ack_in}
use Rattle.cast_domain.specs.PartCalls.{note_stable_in, receive_in, set_quota_in, take_entries_in}
use Rattle.cast_domain.specs.FlushCalls.{is_open_in}
use Rattle.cast_domain.specs.Calls.{acted_in, records}
use Rattle.cast_domain.specs.Trims.{trim_in, trim_all_in}
use Rattle.cast_domain.specs.Freed.{AreNotFree, AreNotFreeBut, AreFreedBy}

-- What is acknowledged and told of one source changes nothing for another

stable_acked : (l : Acks) (from : SiteNo) (u v : Uid) → source_of v ≢ source_of u →
    is_stable_in (acked_ledger l from u) v ≡ is_stable_in l v
stable_acked l from u v apart = among (others_in l v.group)
  where
    counts : (sites : List SiteNo) → map (λ site. (acked_run (acked_ledger l from u) (source_of v) site).upto)
        sites ≡ map (λ site. (acked_run l (source_of v) site).upto) sites
    counts [] = refl
    counts (site ∷ sites) =
        λ i. (put_elsewhere witness_total witness_exact l.acked (witness (source_of v) site) (witness (source_of u) from)
        (insert_count (acked_run l (source_of u) from) u.count) no_counts (λ same. apart (ap (λ (w : Witness). w.source) same)) i).upto
        ∷ counts sites i

    among : (sites : List SiteNo) → is_stable_among (acked_ledger l from u) sites v ≡ is_stable_among l sites v
    among [] = refl
    among (site ∷ sites) =
        ap (λ ns. cond (site_eq v.proc.site l.here) (nat_le v.count (unwrap_or (reduce min ns) 0))
        (nat_le v.count (told_count l (source_of v)))) (counts (site ∷ sites))

stable_learnt : (l : Acks) (u v : Uid) → source_of v ≢ source_of u → is_stable_in (learnt_ledger l u) v ≡ is_stable_in l v
stable_learnt l u v apart = among (others_in l v.group)
  where
    among : (sites : List SiteNo) → is_stable_among (learnt_ledger l u) sites v ≡ is_stable_among l sites v
    among [] = refl
    among (site ∷ sites) =
        ap (λ n. cond (site_eq v.proc.site l.here)
        (nat_le v.count (unwrap_or (reduce min (map (λ s. (acked_run l (source_of v) s).upto) (site ∷ sites))) 0)) (nat_le v.count n))
        (put_elsewhere source_total source_exact l.told (source_of v) (source_of u) _ 0 apart)

-- What holds after each step of a walk holds after the walk

walked : {X : Type 0} (holds : Records → Type 0) (f : Records → X → Records) → ((r : Records) → holds r → (x : X) → holds (f r x)) →
    (xs : List X) (r : Records) → holds r → holds (fold f r xs)
walked holds f one [] r h = h
walked holds f one (x ∷ xs) r h = walked holds f one xs (f r x) (one r h x)

-- Frames about a message of a source

module _ (u : Uid) where
  abbrev Only : Records → Type 0
  Only = AreNotFreeBut (source_of u)

  only_sent : (r : Records) → Only r → (key : OwedKey) → Only (send_for records r key)
  only_sent r h key = elim (frame_for records r key) as (λ o. Only (option_map_or (send_in r key.site) o r)) [
    | Some f ↦ h
    | None ↦ h
  ]

  only_owed : (r : Records) → Only r → (key : OwedKey) → Only (owe records r key)
  only_owed r h key = elim (is_owed r.part.owed key) as (λ b. Only (if b then r else note_owed_in (send_for records r key) key)) [
    | true ↦ h
    | false ↦ only_sent r h key
  ]

  only_acked : (r : Records) → Only r → (from : SiteNo) → Only (note_ack_in r from u)
  only_acked r h from y there apart =
      ap (λ b. is_open_in r y.message.id && (b && not (is_awaited r.delay.rows y.message.id)))
      (stable_acked r.acks from u y.message.id apart) ∙ h y there apart

  only_learnt : (r : Records) → Only r → Only (note_stable_in r u)
  only_learnt r h y there apart =
      ap (λ b. is_open_in r y.message.id && (b && not (is_awaited r.delay.rows y.message.id))) (stable_learnt r.acks u y.message.id apart)
      ∙ h y there apart

  -- an acknowledgement
  only_told : (n : ℕ) (sites : List SiteNo) (r : Records) → Only r → Only (fold (tell_stable records u n) r sites)
  only_told n = walked Only (tell_stable records u n) (λ x h to. h)

  only_more : (before : ℕ) (r : Records) → Only r → Only (tell_more records u before r)
  only_more before r h =
      elim (nat_lt before (upto_in r.acks u))
      as (λ b. Only (if b then fold (tell_stable records u (upto_in r.acks u)) r (others_in r.acks u.group) else r)) [
        | true ↦ only_told (upto_in r.acks u) (others_in r.acks u.group) r h
        | false ↦ h
      ]

  only_on_ack : (r : Records) → Only r → (i : ℕ) (from : SiteNo) → Only (on_ack records r i from u)
  only_on_ack r h i from =
      let before : ℕ = upto_in r.acks u in
      let now : Records = with_ack records r from u in
      let noted : Only now = only_acked r h from in
      elim (is_used_ack records r i from u) as (λ b.
      Only (if b then (if nat_le u.count before then tell_stable records u before now from else tell_more records u before now) else r)) [
        | true ↦
            elim (nat_le u.count before)
            as (λ b. Only (if b then tell_stable records u before now from else tell_more records u before now)) [
              | true ↦ noted
              | false ↦ only_more before now noted
            ]
        | false ↦ h
      ]

  -- the news that messages are stable
  only_on_stable : (r : Records) → Only r → (i : ℕ) (from : SiteNo) → Only (on_stable records r i from u)
  only_on_stable r h i from =
      let paid : Records = pay_upto_in r (message_key kinds.Ack u u.proc.site) in
      elim (is_current (record_at r.groups i).here u.view && site_eq u.proc.site from)
      as (λ b. Only (if b then note_stable_in paid u else r)) [
        | true ↦ only_learnt paid h
        | false ↦ h
      ]

-- A message

module _ (m : Message) where
  only_taken : (r : Records) → Only m.id r → Only m.id (receive_in r m)
  only_taken r h y there apart = elim (Contains-push_cases r.part.kept (record { key = record { 0 = r.part.next }; message = m }) y there) [
    | inl before ↦ h y before apart
    | inr same ↦ absurd (apart (ap (λ (x : Received). source_of x.message.id) (sym same)))
  ]

  only_acknowledged : (r : Records) → Only m.id r → (to : SiteNo) → Only m.id (acknowledge records r to m.id)
  only_acknowledged r h to =
      elim (is_stable_in r.acks m.id)
      as (λ b. Only m.id (if b then send_in r to (frame.Ack m.id) else owe records r (message_key kinds.Ack m.id to))) [
        | true ↦ h
        | false ↦ only_owed m.id r h (message_key kinds.Ack m.id to)
      ]

  only_used : (r : Records) → Only m.id r → (from : SiteNo) → Only m.id (use_data records r from m)
  only_used r h from =
      let noted : Records = acknowledge records (receive_in r m) from m.id in
      elim (is_received_in r.acks m.id) as (λ b.
      Only m.id (if b then send_in r from (frame.Ack m.id) else if may_take records r m.body then want_no_more records noted m.id else r)) [
        | true ↦ h
        | false ↦ elim (may_take records r m.body) as (λ b. Only m.id (if b then want_no_more records noted m.id else r)) [
          | true ↦ only_acknowledged (receive_in r m) (only_taken r h) from
          | false ↦ h
        ]
      ]

  only_on_data : (r : Records) → Only m.id r → (i : ℕ) (from : SiteNo) → Only m.id (on_data records r i from m)
  only_on_data r h i from =
      let out : SiteFrame = frame.Out (record_at r.groups i).name (record_at r.groups i).here.number in
      elim (is_used records r i from m)
      as (λ b. Only m.id (if b then use_data records r from m else if is_outdated records r i from m then send_in r from out else r)) [
        | true ↦ only_used r h from
        | false ↦ elim (is_outdated records r i from m) as (λ b. Only m.id (if b then send_in r from out else r)) [
          | true ↦ h
          | false ↦ h
        ]
      ]

-- Events

-- a frame changes what its rule changes, where its group is configured
module _ (holds : Records → Type 0) where
  framed_only : (r : Records) → holds r → (from : SiteNo) (f : SiteFrame) → ((i : ℕ) → holds (on_frame records r i from f)) →
      holds (on_site_frame records r from f)
  framed_only r h from f on =
      elim (is_among site_eq from r.config.sites)
      as (λ b. holds (if b then option_map_or (λ i. on_frame records r i from f) (place_in r (group_of f)) r else r)) [
        | true ↦ elim (place_in r (group_of f)) as (λ o. holds (option_map_or (λ i. on_frame records r i from f) o r)) [
          | Some i ↦ on i
          | None ↦ h
        ]
        | false ↦ h
      ]

pub freed_acted : (r : Records) (e : Event) → AreNotFree r → AreFreedBy e (acted_in r e)
freed_acted r (event.Frame d from (frame.Data m)) none =
    let only : Only m.id r = λ y there apart. none y there in
    framed_only (Only m.id) r only from (frame.Data m) (λ i. only_on_data m r only i from)
freed_acted r (event.Frame d from (frame.Ack u)) none =
    let only : Only u r = λ y there apart. none y there in
    framed_only (Only u) r only from (frame.Ack u) (λ i. only_on_ack u r only i from)
freed_acted r (event.Frame d from (frame.Stable u)) none =
    let only : Only u r = λ y there apart. none y there in
    framed_only (Only u) r only from (frame.Stable u) (λ i. only_on_stable u r only i from)
freed_acted r (event.Quota d name value) none =
    elim (is_in_range name value) as (λ b. AreNotFree (if b then set_quota_in r name value else r)) [
      | true ↦ none
      | false ↦ none
    ]
freed_acted r (event.Take d k most) none =
    elim (not (is_gone_status (status_in r.sessions k)) && is_taken most) as (λ b. AreNotFree (if b then take_entries_in r k most else r)) [
      | true ↦ none
      | false ↦ none
    ]
freed_acted r e none = tt

-- What a domain forgets of its orders sets nothing free

pub freed_trim_all : (kept : List Received) (r : Records) → AreNotFree r → AreNotFree (trim_all_in kept r)
freed_trim_all kept r = walked AreNotFree (trim_in kept) (λ x none i. none) (range_with_len 0 (length r.groups)) r
