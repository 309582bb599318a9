-- No rule but the end of a session changes which sessions are gone, and none but an opening and an end which processes have rows: so none
-- of a session that is gone comes to have one.
use Rattle.std.proofs.Common.{ℕ, Bool, true, false, List, length, Some, None, refl, sym, ap, ◌∙◌}
use Rattle.std.specs.Prelude.{◌+◌, if◌then◌else◌}
use Rattle.std.specs.List.{fold, range_with_len}
use Rattle.std.specs.Option.{option_map_or}
use Rattle.cast_types.specs.declared.names.SiteNo.{SiteNo}
use Rattle.cast_types.specs.declared.names.GroupNo.{GroupNo}
use Rattle.cast_types.specs.declared.names.Proc.{Proc}
use Rattle.cast_message.specs.declared.client.Push.TheVariants as push
use Rattle.cast_message.specs.Placement.{Placement}
use Rattle.cast_message.specs.declared.message.Body.TheVariants as body
use Rattle.cast_message.specs.declared.message.Message.{Message}
use Rattle.cast_message.specs.declared.message.Received.{Received}
use Rattle.cast_ready.specs.declared.row.ProcessUpdate.TheVariants as fact
use Rattle.cast_delay.specs.Queue.{row_of}
use Rattle.cast_rules.specs.Rules.Commands.{message_sent}
use Rattle.cast_rules.specs.Rules.Sending.{may_raise, send_data}
use Rattle.cast_rules.specs.Rules.Release.{let_go}
use Rattle.cast_rules.specs.Rules.Order.{may_list, send_places, list_places, set_order_by}
use Rattle.cast_rules.specs.Rules.Views.{tell_out, tell_view}
use Rattle.cast_rules.proofs.Rules.Leaving.{told_keeps}
use Rattle.cast_rules.specs.Rules.Flushes.{own_want_key, complete, want_own, complete_or_want, go_on}
use Rattle.cast_rules.specs.Rules.Rest.{deliver_all, pass}
use Rattle.cast_rules.proofs.Rules.Follows.{AlsoHolds, SamePlace, follows_itself_in_all}
use Rattle.cast_rules.proofs.Rules.Sending.{send_data_keeps}
use Rattle.cast_rules.proofs.Rules.Owing.{owe_keeps}
use Rattle.cast_rules.proofs.Rules.Rest.{FollowsToRest, pass_follows}
use Rattle.cast_domain.specs.Records.{Records}
use Rattle.cast_domain.specs.PartCalls.{local_in, serials_in, record_at, time_of}
use Rattle.cast_domain.specs.ViewCalls.{pass_in, gone_in, members_in}
use Rattle.cast_domain.specs.ReleaseCalls.{is_ended_in}
use Rattle.cast_domain.specs.Calls.{records}
use Rattle.cast_domain.specs.RestCalls.{resting_records}
use Rattle.cast_domain.specs.Trims.{trim_in, trim_all_in}
use Rattle.cast_domain.specs.Fits.{AreDismissed}
use Rattle.cast_domain.proofs.Rows.{names_of, row_by_names}
use Rattle.cast_domain.proofs.Remaining.{Remain, RemainAs, gone_of, remain_as, remain_tell, remain_fold}
use Rattle.cast_domain.proofs.Remaining.{remain_release, remain_pass_to, moves_remain, all_remain, remain_let_go}
use Rattle.cast_domain.proofs.Rounds.{same_serials, remain_deliver_all}

module _ (site : SiteNo) (names : List Proc) (gone : ℕ → Bool) where
  abbrev Same : Records → Type 0
  Same = Remain site names gone

  -- a process lists what it has to list
  remain_listed : (r : Records) → Same r → (i k : ℕ) (places : Placement) → Same (list_places records resting_records r i k places)
  remain_listed r h i k places =
      elim (may_raise (time_of r.delay (local_in r k)) (record_at r.groups i).name (local_in r k))
      as (λ b. Same (if b then let_go records resting_records (send_places records resting_records r i k places) else r)) [
        | true ↦ remain_let_go site names gone (send_places records resting_records r i k places) sent
        | false ↦ h
      ]
    where
      m : Message
      m = message_sent records r k (record_at r.groups i).name i (body.Order places)

      taken : Records
      taken = records.receive (records.note_sent r k m) m

      sent : Same (send_places records resting_records r i k places)
      sent =
          remain_fold site names gone (send_data records m.id)
          (λ x same to. send_data_keeps records Same (moves_remain site names gone) m.id x same to) (records.others taken m.id.group) taken
          (remain_tell site names gone r h (local_in r k) (fact.Time m.times))

  remain_set_order : (r : Records) → Same r → (i k : ℕ) → Same (set_order_by records resting_records r i k)
  remain_set_order r h i k =
      elim (may_list records resting_records r i k)
      as (λ b. Same (if b then option_map_or (list_places records resting_records r i k) (resting_records.next_places r i k) r else r)) [
        | true ↦ elim (resting_records.next_places r i k) as (λ o. Same (option_map_or (list_places records resting_records r i k) o r)) [
          | Some places ↦ remain_listed r h i k places
          | None ↦ h
        ]
        | false ↦ h
      ]

  -- an Install is completed, or what it lacks is wanted
  remain_go_on : (r : Records) → Same r → (i : ℕ) → Same (go_on records resting_records r i)
  remain_go_on r h i =
      elim (record_at r.groups i).here.pending
      as (λ o. Same (elim o [ Some p ↦ complete_or_want records resting_records r i p | None ↦ r ])) [
        | Some p ↦
            elim (resting_records.has_cut r i p.cut) as (λ b. Same (if b then let_go records resting_records (complete records r i p)
            else fold (want_own records i) r (resting_records.missing r i p.cut))) [
              | true ↦
                  let v : ℕ = (record_at r.groups i).here.number + 1 in
                  let g : GroupNo = (record_at r.groups i).name in
                  let entered : Records = pass_in r i false v p.members p.request in
                  let out : Records = fold (tell_out records g v) entered (gone_in r i false p.members) in
                  let told : Records = fold (tell_view records g v p.members) out (members_in entered i) in
                  remain_let_go site names gone (complete records r i p)
                  (remain_release site names gone told
                  (remain_fold site names gone (tell_view records g v p.members)
                  (λ x same k. told_keeps records Same (all_remain site names gone) x same k (push.View g v p.members))
                  (members_in entered i) out
                  (remain_fold site names gone (tell_out records g v) (λ x same k.
                  told_keeps records Same (all_remain site names gone) x same k (push.Ejected g v)) (gone_in r i false p.members) entered
                  (remain_pass_to site names gone r h i false v p.members p.request)))
                  (is_ended_in told i))
              | false ↦
                  remain_fold site names gone (want_own records i)
                  (λ x same e. owe_keeps records Same (moves_remain site names gone) x same (own_want_key records x i e))
                  (resting_records.missing r i p.cut) r h
            ]
        | None ↦ h
      ]

remain_to_rest : (site : SiteNo) (names : List Proc) (gone : ℕ → Bool) →
    FollowsToRest records records resting_records resting_records (AlsoHolds (Remain site names gone)) SamePlace
remain_to_rest site names gone = record {
  all = follows_itself_in_all records (Remain site names gone) (all_remain site names gone);
  serials = λ r s f. ap serials_in f.0;
  same_serials = λ s k. same_serials s (deliver_all records resting_records s k)
      (remain_deliver_all s.site (names_of s.delay.rows) (gone_of s) s (remain_as s) k);
  delivers = λ r s f k at. (λ i. deliver_all records resting_records (f.0 i) k, remain_deliver_all site names gone s f.1 k);
  holders = λ r s f h l at. λ i. resting_records.holders (f.0 i) (at i);
  orders = λ r s f h l at k. (λ i. set_order_by records resting_records (f.0 i) (at i) k, remain_set_order site names gone s f.1 l k);
  goes_on = λ r s f h l at. (λ i. go_on records resting_records (f.0 i) (at i), remain_go_on site names gone s f.1 l);
}

pub remain_pass : (r : Records) → RemainAs r (pass records resting_records r)
remain_pass r =
    (pass_follows records records resting_records resting_records (AlsoHolds (RemainAs r))
    SamePlace (remain_to_rest r.site (names_of r.delay.rows) (gone_of r)) r r (refl, remain_as r)).1

-- So whoever was dismissed is so still

pub still_dismissed : (r x : Records) → RemainAs r x → AreDismissed r → AreDismissed x
still_dismissed r x h dismissed k left =
    ap (λ t. row_of x.delay.rows (record { site = t; serial = k })) h.0
    ∙ row_by_names x.delay.rows r.delay.rows (record { site = r.site; serial = k }) h.1 (dismissed k (sym (h.2 k) ∙ left))

pub dismissed_let_go : (r : Records) → AreDismissed r → AreDismissed (let_go records resting_records r)
dismissed_let_go r =
    still_dismissed r (let_go records resting_records r) (remain_let_go r.site (names_of r.delay.rows) (gone_of r) r (remain_as r))

pub dismissed_pass : (r : Records) → AreDismissed r → AreDismissed (pass records resting_records r)
dismissed_pass r = still_dismissed r (pass records resting_records r) (remain_pass r)

pub dismissed_trim_all : (kept : List Received) (r : Records) → AreDismissed r → AreDismissed (trim_all_in kept r)
dismissed_trim_all kept r =
    still_dismissed r (trim_all_in kept r)
    (remain_fold r.site (names_of r.delay.rows) (gone_of r) (trim_in kept) (λ x same i. same) (range_with_len 0 (length r.groups))
    r (remain_as r))
