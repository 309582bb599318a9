-- Steps of a table, computed from its records: what an event makes of the domain that it names.
-- Where a few equations hold of what is computed, the table answers the event so.
use Rattle.std.proofs.Common.{◌≡◌, ℕ, zero, suc, Bool, true, false, not, List, [], ◌∷◌, ◌++◌, Option, Some, None}
use Rattle.std.proofs.Common.{refl, sym, ap, subst, ◌∙◌, arith, inl, inr, length, take, drop}
use Rattle.std.specs.Prelude.{◌==◌, ◌&&◌, ◌||◌, Contains, if◌then◌else◌, is_some}
use Rattle.std.specs.List.{fold, list_all, list_any}
use Rattle.std.specs.Option.{option_map_or}
use Rattle.std.specs.Vec.{with_items}
use Rattle.std.proofs.lemmas.Bool.{and_parts, eqb-true, false≢true, not-false, not-true, or_parts}
use Rattle.cast_types.specs.Counts.{is_counts}
use Rattle.cast_types.specs.Repeat.{iterate}
use Rattle.cast_types.specs.Stamps.{is_stamp}
use Rattle.cast_types.proofs.Iterates.{iterate_still}
use Rattle.cast_message.specs.Membership.{is_members}
use Rattle.cast_message.specs.Placement.{Placement}
use Rattle.cast_message.specs.declared.message.Message.{Message}
use Rattle.cast_message.specs.declared.message.Received.{Received}
use Rattle.cast_message.specs.declared.site.SiteFrame.{SiteFrame}
use Rattle.cast_message.specs.declared.site.SiteFrame.TheVariants as frame
use Rattle.cast_events.specs.Outs.{no_outs}
use Rattle.cast_events.specs.declared.event.Event.{Event}
use Rattle.cast_events.specs.declared.event.Event.TheVariants as event
use Rattle.cast_events.specs.declared.event.Outs.{Outs}
use Rattle.cast_timer.specs.Owed.{is_owed}
use Rattle.cast_timer.specs.declared.key.OwedKey.{OwedKey}
use Rattle.cast_view.specs.Home.{may_decide, may_start}
use Rattle.cast_view.specs.Home.HomeMove.{Decided, Started}
use Rattle.cast_view.specs.declared.member.Pending.{Pending}
use Rattle.cast_rules.specs.Lawful.{IsLawful, IsTyped, IsTypedFrame}
use Rattle.cast_rules.specs.Rest.{let_go as let_go_of, pass as pass_of}
use Rattle.cast_rules.specs.Rules.Asking.{is_home}
use Rattle.cast_rules.specs.Rules.Flushes.{complete, complete_or_want, go_on, go_on_all, own_want_key, want_own}
use Rattle.cast_rules.specs.Rules.Home.{announce, decide, lead, lead_group, prepare, start, want, want_bodies, wants}
use Rattle.cast_rules.specs.Rules.Keys.{want_key}
use Rattle.cast_rules.specs.Rules.Order.{may_list, send_places, set_order, set_order_by, set_orders}
use Rattle.cast_rules.specs.Rules.Owing.{owe, send_for}
use Rattle.cast_rules.specs.Rules.Release.{is_free, let_go}
use Rattle.cast_rules.specs.Rules.Rest.{deliver, deliver_all, deliver_first, pass, settle}
use Rattle.cast_rules.specs.Rules.Sending.{may_raise}
use Rattle.cast_rules.specs.Run.{IsStep, before_event}
use Rattle.cast_rules.specs.State.{State}
use Rattle.cast_rules.specs.Step.{act_of_event}
use Rattle.cast_rules.proofs.Lawful.{lawful_before}
use Rattle.cast_rules.proofs.LawfulMessages.{lawful_let_go}
use Rattle.cast_rules.proofs.LawfulSteps.{lawful_acted}
use Rattle.cast_rules.proofs.Still.{in_all}
use Rattle.cast_rules.proofs.Totals.{In}
use Rattle.cast_domain.specs.Calls.{acted_in, answered_in, records}
use Rattle.cast_domain.specs.Fits.{AreDismissed, Fits, Represents}
use Rattle.cast_domain.specs.Flags.{goes_on, has_ready, lists_some, wants_own_more}
use Rattle.cast_domain.specs.PartCalls.{local_in, note_owed_in, record_at, serials_in, time_of}
use Rattle.cast_domain.specs.Records.{Records, records_of}
use Rattle.cast_domain.specs.RestCalls.{next_ready_in, resting_records}
use Rattle.cast_domain.specs.Shared.{Part}
use Rattle.cast_domain.specs.Trims.{trim_all_in}
use Rattle.cast_domain.specs.declared.domain.Domain.{Domain}
use Rattle.cast_domain.specs.declared.record.GroupRecord.{GroupRecord}
use Rattle.cast_domain.proofs.Dismissals.{dismissed_let_go, dismissed_pass, dismissed_trim_all}
use Rattle.cast_domain.proofs.Ending.{dismissed_acted}
use Rattle.cast_domain.proofs.EventSteps.{answer_acted, fits_acted}
use Rattle.cast_domain.proofs.Passes.{Stands, fits_between, stands_pass}
use Rattle.cast_domain.proofs.Releases.{fits_let_go, unborn}
use Rattle.cast_domain.proofs.Standstill.{still_pass}
use Rattle.cast_domain.proofs.Trimmed.{fits_trim_all}
use Rattle.std.proofs.Common.{Vec}

-- What an event makes of a domain's records

-- at once, and what is free then is let go
abbrev pub served_in : Records → Event → Records
served_in r e = let_go records resting_records (acted_in r e)

-- then a number of passes
abbrev pub rested_in : ℕ → Records → Event → Records
rested_in n r e = iterate n (pass records resting_records) (served_in r e)

-- and of each order the oldest ids are forgotten
abbrev pub ended_in : ℕ → Records → Event → Records
ended_in n r e = trim_all_in (rested_in n r e).part.kept (rested_in n r e)

-- a domain that has these records
abbrev pub domain_with : Domain → Records → Domain
domain_with d r = record d {
  site = r.site;
  config = r.config;
  quotas = r.quotas;
  moment = r.moment;
  casts = r.casts;
  sessions = record { used = r.used; records = r.sessions };
  groups = with_items d.groups r.groups;
  delay = r.delay;
  acks = r.acks;
  orders = r.orders;
}

-- what was sent, delivered and pushed
abbrev pub outs_in : Records → Outs
outs_in r = record { frames = r.frames; halted = []; delivered = r.delivered; pushed = r.pushed }

-- the records of a domain before a step
abbrev pub before_step : Domain → Part → Records
before_step d part = records_of d part no_outs

-- the records of the domain behind the step
abbrev pub left_by : ℕ → Domain → Part → Event → Records
left_by n d part e = before_step (domain_with d (ended_in n (before_step d part) e)) (ended_in n (before_step d part) e).part

-- What is tested

-- no kept message is free
abbrev pub none_is_free : Records → Bool
none_is_free r = list_all (λ x. not (is_free records resting_records r x.message.id)) r.part.kept

-- the home of the group at a place has nothing to start and nothing to decide, and what it wants is owed
abbrev pub is_led : Records → ℕ → Bool
is_led r i =
    not (may_start (record_at r.groups i).home)
    && (not (may_decide (record_at r.groups i).name (record_at r.groups i).home)
    && list_all (λ w. is_owed r.part.owed (want_key (record_at r.groups i).name w)) (wants records r i))

-- nothing is left to be done for the group at a place
abbrev pub is_group_still : Records → ℕ → Bool
is_group_still r i =
    list_all (λ k. not (lists_some r i k)) (resting_records.holders r i)
    && (not (goes_on r i) && (not (is_home records r) || is_led r i))

-- nor for any, and nothing is ready for any process
abbrev pub is_still : Records → Bool
is_still r = list_all (λ k. not (has_ready r k)) (serials_in r) && list_all (is_group_still r) (records.places r)

abbrev pub is_typed_frame : SiteFrame → Bool
is_typed_frame (frame.Data m) = is_stamp m.times && list_all (λ c. is_counts c.1.counts) m.times
is_typed_frame (frame.Ack u) = true
is_typed_frame (frame.Stable u) = true
is_typed_frame (frame.Ask g number what p) = true
is_typed_frame (frame.Asked g number full) = true
is_typed_frame (frame.Prepare g view) = true
is_typed_frame (frame.Flushed g view counts tail kept) = true
is_typed_frame (frame.Want u) = true
is_typed_frame (frame.Forward m) = is_stamp m.times && list_all (λ c. is_counts c.1.counts) m.times
is_typed_frame (frame.Install g view members request cut tail) = is_members members
is_typed_frame (frame.Installed g view) = true
is_typed_frame (frame.Out g view) = true

-- the parts of an event are as their types say
abbrev pub is_typed : Event → Bool
is_typed (event.Open d) = true
is_typed (event.Command d k c) = true
is_typed (event.Gone d k) = true
is_typed (event.Frame d from f) = is_typed_frame f
is_typed (event.Suspect d site) = true
is_typed (event.Quota d name value) = true
is_typed (event.Take d k most) = true
is_typed (event.Tick t) = true

-- so many passes are enough; there are as many groups as before; and no message is left that is free
abbrev pub suffices : ℕ → Domain → Part → Event → Bool
suffices n d part e =
    is_typed e
    && (is_still (rested_in n (before_step d part) e)
    && ((length (ended_in n (before_step d part) e).groups == d.groups.len)
    && none_is_free (left_by n d part e)))

-- What is still stays so

still_over : {X : Type 0} (f : Records → X → Records) (xs : List X) (r : Records) → ((x : X) → In x xs → f r x ≡ r) → fold f r xs ≡ r
still_over f [] r h = refl
still_over f (x ∷ xs) r h = subst (λ z. fold f z xs ≡ r) (sym (h x (inl refl))) (still_over f xs r (λ y at. h y (inr at)))

none_any : {X : Type 0} (f : X → Bool) (xs : List X) → list_any f xs ≡ false → (x : X) → In x xs → f x ≡ false
none_any f [] none x at = absurd at
none_any f (y ∷ xs) none x (inl is) = subst (λ z. f z ≡ false) (sym is) (or_parts (f y) (list_any f xs) none).0
none_any f (y ∷ xs) none x (inr there) = none_any f xs (or_parts (f y) (list_any f xs) none).1 x there

in_not : {X : Type 0} (f : X → Bool) (xs : List X) → list_all (λ x. not (f x)) xs ≡ true → (x : X) → In x xs → f x ≡ false
in_not f xs all x at = not-true (f x) (in_all (λ y. not (f y)) xs all x at)

module _ (r : Records) where
  owed_stays : (key : OwedKey) → is_owed r.part.owed key ≡ true → owe records r key ≡ r
  owed_stays key is = ap (λ b. if b then r else note_owed_in (send_for records r key) key) is

  first_still : (k : ℕ) (o : Option Message) → is_some o ≡ false →
      elim o as (λ _. Records) [ Some m ↦ let_go records resting_records (deliver records resting_records r k m) | None ↦ r ] ≡ r
  first_still k (Some m) none = absurd (false≢true (sym none))
  first_still k None none = refl

  none_delivered : (k : ℕ) → has_ready r k ≡ false → deliver_all records resting_records r k ≡ r
  none_delivered k none =
      iterate_still (length r.part.kept) (deliver_first records resting_records k) r (first_still k (next_ready_in r k) none)

  order_still : (i k : ℕ) (may : Bool) (o : Option Placement) (raise : Bool) → (may && (is_some o && raise)) ≡ false →
      (if may
      then option_map_or (λ places.
      if raise then let_go records resting_records (send_places records resting_records r i k places) else r) o r
      else r) ≡ r
  order_still i k false o raise none = refl
  order_still i k true None raise none = refl
  order_still i k true (Some places) false none = refl
  order_still i k true (Some places) true none = absurd (false≢true (sym none))

  none_listed : (i : ℕ) → list_all (λ k. not (lists_some r i k)) (resting_records.holders r i) ≡ true →
      set_order records resting_records r i ≡ r
  none_listed i none =
      still_over (λ t k. set_order_by records resting_records t i k) (resting_records.holders r i) r (λ k at.
      order_still i k (may_list records resting_records r i k) (resting_records.next_places r i k)
      (may_raise (time_of r.delay (local_in r k)) (record_at r.groups i).name (local_in r k))
      (in_not (lists_some r i) (resting_records.holders r i) none k at))

  pending_still : (i : ℕ) (o : Option Pending) →
      elim o as (λ _. Bool) [
        | Some p ↦ resting_records.has_cut r i p.cut || list_any (wants_own_more r i) (resting_records.missing r i p.cut)
        | None ↦ false
      ] ≡ false →
      elim o as (λ _. Records) [ Some p ↦ complete_or_want records resting_records r i p | None ↦ r ] ≡ r
  pending_still i None none = refl
  pending_still i (Some p) none =
      let parts = or_parts (resting_records.has_cut r i p.cut) (list_any (wants_own_more r i) (resting_records.missing r i p.cut)) none in
      ap (λ b. if b then let_go records resting_records (complete records r i p)
      else fold (want_own records i) r (resting_records.missing r i p.cut)) parts.0
      ∙ still_over (want_own records i) (resting_records.missing r i p.cut) r (λ e at.
      owed_stays (own_want_key records r i e)
      (not-false (is_owed r.part.owed (own_want_key records r i e))
      (none_any (wants_own_more r i) (resting_records.missing r i p.cut) parts.1 e at)))

  none_led : (i : ℕ) → is_led r i ≡ true → lead_group records r i ≡ r
  none_led i led =
      let x : GroupRecord = record_at r.groups i in
      let one = and_parts (not (may_start x.home)) _ led in
      let two =
      and_parts (not (may_decide x.name x.home)) (list_all (λ w. is_owed r.part.owed (want_key x.name w)) (wants records r i)) one.1 in
      let first : start records r i ≡ r =
      ap (λ b. if b then prepare records (records.move_home r i Started) i else r) (not-true (may_start x.home) one.0) in
      let second : want_bodies records r i ≡ r =
      still_over (want records i) (wants records r i) r (λ w at.
      owed_stays (want_key x.name w) (in_all (λ y. is_owed r.part.owed (want_key x.name y)) (wants records r i) two.1 w at)) in
      let third : decide records r i ≡ r =
      ap (λ b. if b then announce records (records.move_home r i Decided) i else r) (not-true (may_decide x.name x.home) two.0) in
      ap (λ y. decide records (want_bodies records y i) i) first ∙ ap (λ y. decide records y i) second ∙ third

  pub still_passes : is_still r ≡ true → pass records resting_records r ≡ r
  still_passes still =
      let parts = and_parts (list_all (λ k. not (has_ready r k)) (serials_in r)) (list_all (is_group_still r) (records.places r)) still in
      let groups : (i : ℕ) → In i (records.places r) → is_group_still r i ≡ true = in_all (is_group_still r) (records.places r) parts.1 in
      let listed : (i : ℕ) → In i (records.places r) → list_all (λ k. not (lists_some r i k)) (resting_records.holders r i) ≡ true =
      λ i at. (and_parts (list_all (λ k. not (lists_some r i k)) (resting_records.holders r i)) _ (groups i at)).0 in
      let behind : (i : ℕ) → In i (records.places r) → (not (goes_on r i) && (not (is_home records r) || is_led r i)) ≡ true =
      λ i at. (and_parts (list_all (λ k. not (lists_some r i k)) (resting_records.holders r i)) _ (groups i at)).1 in
      let first : settle records resting_records r ≡ r =
      still_over (deliver_all records resting_records) (serials_in r) r (λ k at.
      none_delivered k (in_not (has_ready r) (serials_in r) parts.0 k at)) in
      let second : set_orders records resting_records r ≡ r =
      still_over (set_order records resting_records) (records.places r) r (λ i at. none_listed i (listed i at)) in
      let third : go_on_all records resting_records r ≡ r =
      still_over (go_on records resting_records) (records.places r) r (λ i at.
      pending_still i (record_at r.groups i).here.pending
      (not-true (goes_on r i) (and_parts (not (goes_on r i)) (not (is_home records r) || is_led r i) (behind i at)).0)) in
      let fourth : lead records r ≡ r =
      elim (is_home records r) as (λ b. is_home records r ≡ b → (if b then fold (lead_group records) r (records.places r) else r) ≡ r) [
        | true ↦ λ home. still_over (lead_group records) (records.places r) r (λ i at.
            none_led i (ap (λ b. not b || is_led r i) (sym home)
            ∙ (and_parts (not (goes_on r i)) (not (is_home records r) || is_led r i) (behind i at)).1))
        | false ↦ λ _. refl
      ] refl in
      ap (λ x. lead records (go_on_all records resting_records (set_orders records resting_records x))) first
      ∙ ap (λ x. lead records (go_on_all records resting_records x)) second
      ∙ ap (lead records) third
      ∙ fourth

typed_frame : (f : SiteFrame) → is_typed_frame f ≡ true → IsTypedFrame f
typed_frame (frame.Data m) is = and_parts (is_stamp m.times) (list_all (λ c. is_counts c.1.counts) m.times) is
typed_frame (frame.Ack u) is = tt
typed_frame (frame.Stable u) is = tt
typed_frame (frame.Ask g number what p) is = tt
typed_frame (frame.Asked g number full) is = tt
typed_frame (frame.Prepare g view) is = tt
typed_frame (frame.Flushed g view counts tail kept) is = tt
typed_frame (frame.Want u) is = tt
typed_frame (frame.Forward m) is = and_parts (is_stamp m.times) (list_all (λ c. is_counts c.1.counts) m.times) is
typed_frame (frame.Install g view members request cut tail) is = is
typed_frame (frame.Installed g view) is = tt
typed_frame (frame.Out g view) is = tt

typed_by : (e : Event) → is_typed e ≡ true → IsTyped e
typed_by (event.Open d) is = tt
typed_by (event.Command d k c) is = tt
typed_by (event.Gone d k) is = tt
typed_by (event.Frame d from f) is = typed_frame f is
typed_by (event.Suspect d site) is = tt
typed_by (event.Quota d name value) is = tt
typed_by (event.Take d k most) is = tt
typed_by (event.Tick t) is = tt

-- Its step

take_front : {X : Type 0} (xs ys : List X) → take (length xs) (xs ++ ys) ≡ xs
take_front [] ys = refl
take_front (x ∷ xs) ys = ap (λ rest. x ∷ rest) (take_front xs ys)

pub refilled : {X Z : Type 0} (v : Vec X Z) (xs : List X) → length xs ≡ v.len → (with_items v xs).items ≡ xs
refilled v xs same = ap (λ n. take n (xs ++ drop (length xs) v.items)) (sym same) ∙ take_front xs (drop (length xs) v.items)

stands_iterate : (n : ℕ) (r : Records) (s : State) → Stands r s →
    Stands (iterate n (pass records resting_records) r) (iterate n pass_of s)
stands_iterate zero r s h = h
stands_iterate (suc n) r s h =
    stands_iterate n (pass records resting_records r) (pass_of s) (stands_pass r (pass records resting_records r) refl s h)

dismissed_iterate : (n : ℕ) (r : Records) → AreDismissed r → AreDismissed (iterate n (pass records resting_records) r)
dismissed_iterate zero r h = h
dismissed_iterate (suc n) r h = dismissed_iterate n (pass records resting_records r) (dismissed_pass r h)

-- which holds of each holds of one
listed : {X : Type 0} (f : X → Bool) (xs : List X) → list_all (λ x. not (f x)) xs ≡ true → (x : X) → Contains xs x → f x ≡ false
listed f [] all x (k, lt, at) = absurd (omega (arith, lt))
listed f (y ∷ xs) all x (zero, lt, at) =
    let parts = and_parts (not (f y)) (list_all (λ z. not (f z)) xs) all in
    subst (λ z. f z ≡ false) at (not-true (f y) parts.0)
listed f (y ∷ xs) all x (suc k, lt, at) =
    let parts = and_parts (not (f y)) (list_all (λ z. not (f z)) xs) all in
    listed f xs parts.1 x (k, omega (arith, lt), at)

-- the history in which the step ends, and what it has to do with the records
pub record Ends (n : ℕ) (d : Domain) (part : Part) (e : Event) (s : State) : Type 0 where
  pub end : State
  pub steps : IsStep s e (answered_in (before_step d part) e) end
  pub fits : Fits (ended_in n (before_step d part) e) end
  pub means : Represents (domain_with d (ended_in n (before_step d part) e)) (ended_in n (before_step d part) e).part end

pub ends : (n : ℕ) (d : Domain) (part : Part) (e : Event) → suffices n d part e ≡ true → (s : State) →
    Represents d part s → Ends n d part e s
ends n d part e enough s means =
    let one = and_parts (is_typed e) _ enough in
    let two = and_parts (is_still (rested_in n (before_step d part) e)) _ one.1 in
    let three = and_parts (length (ended_in n (before_step d part) e).groups == d.groups.len) (none_is_free (left_by n d part e)) two.1 in
    let typed : IsTyped e = typed_by e one.0 in
    let r = before_step d part in
    let same_groups : (domain_with d (ended_in n r e)).groups.items ≡ (ended_in n r e).groups =
    refilled d.groups (ended_in n r e).groups (eqb-true _ _ three.0) in
    let b = before_event s in
    let lawful = lawful_before s means.lawful in
    let acts : Fits (acted_in r e) (act_of_event b e) = fits_acted r b e means.fits lawful typed in
    let acts_lawful : IsLawful (act_of_event b e) = lawful_acted b e lawful (unborn r b means.fits) typed in
    let after : Fits (served_in r e) (let_go_of (act_of_event b e)) = fits_let_go (acted_in r e) (act_of_event b e) acts acts_lawful in
    let after_lawful = lawful_let_go (act_of_event b e) acts_lawful in
    let stands : Stands (rested_in n r e) (iterate n pass_of (let_go_of (act_of_event b e))) =
    stands_iterate n (served_in r e) (let_go_of (act_of_event b e)) (after, after_lawful) in
    let t : State = iterate n pass_of (let_go_of (act_of_event b e)) in
    let once_more : Fits (rested_in n r e) (pass_of t) =
    subst (λ x. Fits x (pass_of t)) (still_passes (rested_in n r e) two.0)
    (stands_pass (rested_in n r e) (pass records resting_records (rested_in n r e)) refl t stands).0 in
    let still : pass_of t ≡ t = still_pass (rested_in n r e) t stands.0 stands.1 once_more in
    let fits : Fits (ended_in n r e) t = fits_trim_all (rested_in n r e) t stands.0 stands.1 in
    let dismissed : AreDismissed (ended_in n r e) =
    dismissed_trim_all (rested_in n r e).part.kept (rested_in n r e)
    (dismissed_iterate n (served_in r e) (dismissed_let_go (acted_in r e) (dismissed_acted r b e means.fits typed means.dismissed))) in
    record {
      end = t;
      steps = record { answers = answer_acted r b e means.fits; rests = (n, refl, still) };
      fits = fits;
      means = record {
        fits = subst (λ (groups : List GroupRecord). Fits (record (ended_in n r e) {
          groups = groups;
          frames = [];
          delivered = [];
          pushed = [];
        }) (before_event t)) (sym same_groups)
            (fits_between (ended_in n r e) t fits);
        lawful = stands.1;
        dismissed = dismissed;
        freed = listed (λ (x : Received). is_free records resting_records (left_by n d part e) x.message.id)
            (left_by n d part e).part.kept three.1;
      };
    }
