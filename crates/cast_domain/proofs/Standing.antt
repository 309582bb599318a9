-- What a domain's records say of the history that they stand for.
-- The invariant is `Fits`: the records `r` stand for the history `s`. By it each part of the
-- records is that of the history: the group at a place (`record_there`, `place_some`), and the
-- standing and the time of a process (`standing_there`, `time_there`). Where a history changes in
-- nothing that the logs of orders rest on, or in one process or one group, the logs tell of it
-- still (`orders_same`, `orders_process`, `orders_group`); what changes the records goes by these.
use Rattle.std.proofs.Common.{◌≡◌, ℕ, suc, ◌+◌, ◌<◌, ◌≤◌, Bool, true, false, ◌&&◌, List, [], ◌∷◌, ◌++◌}
use Rattle.std.proofs.Common.{map, Option, Some, None, refl, sym, ap, subst, ◌∙◌, inl, inr, arith}
use Rattle.std.specs.Prelude.{◌==◌, if◌then◌else◌, slice_get, is_some}
use Rattle.std.specs.Option.{IsSome, option_map, option_map_or}
use Rattle.std.proofs.lemmas.Bool.{cases_Bool, false≢true, false_from_ne_true, eqb-true, ne_eqb, or_from, or_left, or_right}
use Rattle.std.proofs.lemmas.List.{map-append}
use Rattle.std.proofs.lemmas.Option.{none-some, same_Some, slice_get-map, get_or_from_slice_get}
use Rattle.cast_types.specs.declared.names.SiteNo.{SiteNo}
use Rattle.cast_types.specs.declared.names.GroupNo.{GroupNo}
use Rattle.cast_types.specs.declared.names.Proc.{Proc}
use Rattle.cast_types.specs.Names.{site_eq, group_eq, uid_eq}
use Rattle.cast_types.specs.Sets.{is_among}
use Rattle.cast_types.specs.Stamps.{ClockList}
use Rattle.cast_types.proofs.Orders.{same_group, same_site, group_itself, site_itself}
use Rattle.cast_clock.specs.Times.{no_time, count_in}
use Rattle.cast_clock.proofs.Entries.{option_cases}
use Rattle.cast_message.specs.declared.site.SiteFrame.{SiteFrame}
use Rattle.cast_ready.specs.declared.row.Row.{Row}
use Rattle.cast_ready.specs.Ready.{Process, has_delivered, is_member}
use Rattle.cast_delay.specs.Queue.{row_of}
use Rattle.cast_delay.specs.Fits.{HasNotBegun, set_process as set_named}
use Rattle.cast_delay.proofs.Queues.{standing_is, time_is, no_row_is}
use Rattle.cast_delay.proofs.RowLemmas.{some_row}
use Rattle.cast_order.specs.Log.{Log, log_of}
use Rattle.cast_view.specs.MemberSide.{MemberSide, is_pending}
use Rattle.cast_rules.specs.State.{State, no_process, local, is_group, gate_of, set_process, set_group, emit, was_given}
use Rattle.cast_domain.specs.Records.{Records}
use Rattle.cast_domain.specs.PartCalls.{place_among, place_in, no_record, record_at, standing_of, time_of, send_in}
use Rattle.cast_domain.specs.Fits.{process_named, record_for, LogFits, Fits}
use Rattle.cast_domain.proofs.Receipts.{group_same}
use Rattle.cast_domain.proofs.Logs.{log_alike, same_alike}
use Rattle.cast_domain.proofs.Over.{KeepsNoMore, all_stay, over_alike, one_counts_on}
use Rattle.cast_rules.proofs.Rules.Follows.{choose}
use Rattle.cast_types.proofs.Bools.{same_bools}

-- Choices on both sides

-- the same choice on both sides
pub fits_if : (a b : Bool) (x y : Records) (u v : State) → a ≡ b → (a ≡ true → Fits x u) → (a ≡ false → Fits y v) →
    Fits (if a then x else y) (if b then u else v)
fits_if a b x y u v same then_fits else_fits = choose Fits a b x y u v same (λ is. then_fits (same ∙ is)) (λ is. else_fits (same ∙ is))

-- The order of views

-- each log tells still of a history that has the same of groups, processes, messages and acknowledgements, and keeps no more
pub orders_same : (s t : State) (orders : List Log) → t.here ≡ s.here → t.group ≡ s.group → t.closed ≡ s.closed → t.process ≡ s.process →
    t.got ≡ s.got → t.abcasts ≡ s.abcasts → t.acts ≡ s.acts → t.acks ≡ s.acks → KeepsNoMore s t →
    ((g : GroupNo) → LogFits s g (log_of orders g)) → (g : GroupNo) → LogFits t g (log_of orders g)
orders_same s t orders here group tell_end process got abcasts acts acks kept fits g =
    log_alike s t g (log_of orders g)
    (same_alike s t g (log_of orders g) here (λ i. (group i g).view) (λ i. (group i g).number) got (λ k i. abcasts i k)
    (λ k i. acts i k) acks
    (λ p u is. (λ i. has_delivered (if site_eq p.site (here i) then process i p.serial else no_process) u) ∙ is))
    (λ i. is_pending (group i g)) (λ i. tell_end i g)
    (λ p is. (λ i. is_member ((if site_eq p.site (sym here i) then sym process i p.serial else no_process).standing g)) ∙ is)
    (λ _. over_alike s t g here (λ i. (group i g).number) got kept (λ k member. record {
      member = (λ i. is_member ((sym process i k).standing g)) ∙ member;
      counts = let same : count_in (t.process k).time g (local s k) ≡ count_in (s.process k).time g (local s k) =
          ap (λ (ps : ℕ → Process). count_in (ps k).time g (local s k)) process in omega (arith, same);
    }))
    (fits g)

-- a process counts no fewer of its own messages in a group of whose order something is forgotten
abbrev pub CountsStill : List Log → Proc → ClockList → ClockList → Type 0
CountsStill orders p before now = (g : GroupNo) → 0 < (log_of orders g).base → count_in before g p ≤ count_in now g p

-- or where a process changed that has delivered the same, is a member of no group of which it was none, and counts no fewer
pub orders_process : (s : State) (k : ℕ) (v : Process) (orders : List Log) → v.delivered ≡ (s.process k).delivered →
    ((g : GroupNo) → is_member (v.standing g) ≡ true → is_member ((s.process k).standing g) ≡ true) →
    CountsStill orders (local s k) (s.process k).time v.time → ((g : GroupNo) → LogFits s g (log_of orders g)) → (g : GroupNo) →
    LogFits (set_process s k v) g (log_of orders g)
orders_process s k v orders same were counts fits g =
    log_alike s (set_process s k v) g (log_of orders g)
    (same_alike s (set_process s k v) g (log_of orders g) refl refl refl refl (λ j. refl) (λ j. refl) refl
    (λ p u is. ap (is_among uid_eq u) (at p (site_eq p.site s.here) (k == p.serial) (eqb-true k p.serial)) ∙ is))
    refl refl
    (λ p is. was p (site_eq p.site s.here) (k == p.serial) (eqb-true k p.serial) is)
    (λ some. over_alike s (set_process s k v) g refl refl refl (λ u is. is)
    (one_counts_on s k v g (λ member. record { member = were g member; counts = counts g some })))
    (fits g)
  where
    was : (p : Proc) (a b : Bool) → (b ≡ true → k ≡ p.serial) →
        is_member ((if a then (if b then v else s.process p.serial) else no_process).standing g) ≡ true →
        is_member ((if a then s.process p.serial else no_process).standing g) ≡ true
    was p true true is member = ap (λ n. is_member ((s.process n).standing g)) (sym (is refl)) ∙ were g member
    was p true false is member = member
    was p false b is member = member

    at : (p : Proc) (a b : Bool) → (b ≡ true → k ≡ p.serial) → (if a then (if b then v else s.process p.serial) else no_process).delivered
        ≡ (if a then s.process p.serial else no_process).delivered
    at p true true is = same ∙ ap (λ n. (s.process n).delivered) (is refl)
    at p true false is = refl
    at p false b is = refl

-- or where a group changed that has the same number and view, and an Install that waits as before
pub orders_group : (s : State) (g : GroupNo) (v : MemberSide) (orders : List Log) → v.number ≡ (s.group g).number →
    v.view ≡ (s.group g).view → is_pending v ≡ is_pending (s.group g) → ((h : GroupNo) → LogFits s h (log_of orders h)) → (h : GroupNo) →
    LogFits (set_group s g v) h (log_of orders h)
orders_group s g v orders number view waits fits h =
    let views = group_same (λ x. x.view) s g v view h in
    let numbers = group_same (λ x. x.number) s g v number h in
    log_alike s (set_group s g v) h (log_of orders h)
    (same_alike s (set_group s g v) h (log_of orders h) refl views numbers refl (λ k. refl) (λ k. refl) refl (λ p u is. is))
    (group_same (λ x. is_pending x) s g v waits h) refl (λ p is. is)
    (λ _. over_alike s (set_group s g v) h refl numbers refl (λ u is. is) (all_stay s h)) (fits h)

-- Groups

-- the record at a place is that of the group at that place
pub record_there : (r : Records) (s : State) → Fits r s → (i : ℕ) (g : GroupNo) → slice_get s.config.groups i ≡ Some g →
    record_at r.groups i ≡ record_for s g
record_there r s fits i g at =
    ap (λ gs. record_at gs i) fits.groups
    ∙ get_or_from_slice_get (map (record_for s) s.config.groups) i (record_for s g) no_record
    (slice_get-map (record_for s) s.config.groups i ∙ ap (λ (o : Option GroupNo). option_map (record_for s) o) at)

-- where a group stands among the records
mapped_some : {A B : Type 0} (f : A → B) (o : Option A) (y : B) → option_map f o ≡ Some y → (x : A) × (o ≡ Some x) × (f x ≡ y)
mapped_some f None y at = absurd (none-some y at)
mapped_some f (Some x) y at = (x, refl, same_Some (f x) y at)

pub mapped_none : {A B : Type 0} (f : A → B) (o : Option A) → option_map f o ≡ None → o ≡ None
mapped_none f None at = refl
mapped_none f (Some x) at = absurd (none-some (f x) (sym at))

place_found : (s : State) (g : GroupNo) (gs : List GroupNo) (i : ℕ) → place_among g (map (record_for s) gs) ≡ Some i →
    (slice_get gs i ≡ Some g) × (is_among group_eq g gs ≡ true)
place_found s g [] i at = absurd (none-some i at)
place_found s g (x ∷ gs) i at = elim (cases_Bool (group_eq x g)) [
  | inl here ↦
      let is : x ≡ g = same_group x g here in
      let zeroth : ◌≡◌ {A = ℕ} 0 i =
      same_Some 0 i (sym (ap (λ b. if b then Some 0 else option_map (λ j. j + 1) (place_among g (map (record_for s) gs))) here) ∙ at) in (
        subst (λ j. slice_get (x ∷ gs) j ≡ Some g) zeroth (ap Some is),
        or_left (group_eq g x) (is_among group_eq g gs) (ap (group_eq g) is ∙ group_itself g),
      )
  | inr later ↦
      let (j, found, next) = mapped_some (λ j. j + 1) (place_among g (map (record_for s) gs)) i
      (sym (ap (λ b. if b then Some 0 else option_map (λ j. j + 1) (place_among g (map (record_for s) gs))) later) ∙ at) in
      let rest = place_found s g gs j found in
      let is : suc j ≡ i = omega (arith, next) in (
        subst (λ n. slice_get (x ∷ gs) n ≡ Some g) is rest.0,
        or_right (group_eq g x) (is_among group_eq g gs) rest.1,
      )
]

place_lost : (s : State) (g : GroupNo) (gs : List GroupNo) → place_among g (map (record_for s) gs) ≡ None → is_among group_eq g gs ≡ false
place_lost s g [] at = refl
place_lost s g (x ∷ gs) at = elim (cases_Bool (group_eq x g)) [
  | inl here ↦
      absurd (none-some 0 (sym at ∙ ap (λ b. if b then Some 0 else option_map (λ j. j + 1) (place_among g (map (record_for s) gs))) here))
  | inr later ↦
      or_from (group_eq g x) (is_among group_eq g gs)
      (false_from_ne_true (group_eq g x)
      (λ same. false≢true (sym later ∙ ap (λ h. group_eq h g) (sym (same_group g x same)) ∙ group_itself g)))
      (place_lost s g gs (mapped_none (λ j. j + 1) (place_among g (map (record_for s) gs))
      (sym (ap (λ b. if b then Some 0 else option_map (λ j. j + 1) (place_among g (map (record_for s) gs))) later) ∙ at)))
]

-- a group that is found is configured, and stands at that place
pub place_some : (r : Records) (s : State) → Fits r s → (g : GroupNo) (i : ℕ) → place_in r g ≡ Some i →
    (slice_get s.config.groups i ≡ Some g) × (is_group s g ≡ true)
place_some r s fits g i at = place_found s g s.config.groups i (sym (ap (place_among g) fits.groups) ∙ at)

-- and one that is not found is not configured
pub place_none : (r : Records) (s : State) → Fits r s → (g : GroupNo) → place_in r g ≡ None → is_group s g ≡ false
place_none r s fits g at = place_lost s g s.config.groups (sym (ap (place_among g) fits.groups) ∙ at)

-- Processes

-- a local process by its name
pub process_here : (s : State) (k : ℕ) → process_named s (local s k) ≡ s.process k
process_here s k = ap (λ b. if b then s.process k else no_process) (site_itself s.here)

site_turned : (a b : SiteNo) → site_eq a b ≡ site_eq b a
site_turned a b = same_bools (site_eq a b) (site_eq b a)
    (λ e. ap (site_eq b) (same_site a b e) ∙ site_itself b)
    (λ e. ap (site_eq a) (same_site b a e) ∙ site_itself a)

-- a process changed by its serial is changed by its name
pub process_set : (s : State) (k : ℕ) (v : Process) → process_named (set_process s k v) ≡ set_named (process_named s) (local s k) v
process_set s k v = λ i p. at_name p i
  where
    at_tests : (b c : Bool) (x y : Process) → (if b then (if c then v else x) else y) ≡ (if b && c then v else if b then x else y)
    at_tests true true x y = refl
    at_tests true false x y = refl
    at_tests false c x y = refl

    at_name : (p : Proc) → process_named (set_process s k v) p ≡ set_named (process_named s) (local s k) v p
    at_name p =
        at_tests (site_eq p.site s.here) (k == p.serial) (s.process p.serial) no_process
        ∙ ap (λ b. if b && (k == p.serial) then v else process_named s p) (site_turned p.site s.here)

-- where the process of a serial that was given changes, those without a serial do not begin
pub still_idle : (s : State) (k : ℕ) (v : Process) → was_given s.used k ≡ true →
    ((j : ℕ) → was_given s.used j ≡ false → HasNotBegun (process_named s (local s j))) → (j : ℕ) → was_given s.used j ≡ false →
    HasNotBegun (process_named (set_process s k v) (local s j))
still_idle s k v given idle j none =
    subst HasNotBegun (process_here s j ∙ sym (process_here (set_process s k v) j ∙ ap (λ b. if b then v else s.process j)
    (ne_eqb k j (λ same. false≢true (sym none ∙ ap (was_given s.used) (sym same) ∙ given))))) (idle j none)

-- the queue knows the standing of each local process, and the time of each that was admitted
pub standing_there : (r : Records) (s : State) → Fits r s → (k : ℕ) (g : GroupNo) →
    standing_of r.delay (local s k) g ≡ (s.process k).standing g
standing_there r s fits k g =
    standing_is r.delay (local s k) g (standing_of r.delay (local s k) g) refl s.config.groups (gate_of s) (process_named s)
    r.part.kept fits.processes.delay
    ∙ ap (λ (p : Process). p.standing g) (process_here s k)

-- a process without a row is a member of no group
pub member_of_none : (r : Records) (s : State) → Fits r s → (k : ℕ) → row_of r.delay.rows (local s k) ≡ None → (g : GroupNo) →
    is_member ((s.process k).standing g) ≡ false
member_of_none r s fits k none g =
    ap (λ (p : Process). is_member (p.standing g)) (sym (process_here s k))
    ∙ ap is_member (no_row_is r.delay (local s k) none s.config.groups (gate_of s) (process_named s) r.part.kept fits.processes.delay g)

-- so a member has one
pub member_row : (r : Records) (s : State) → Fits r s → (k : ℕ) (g : GroupNo) → is_member ((s.process k).standing g) ≡ true →
    IsSome (row_of r.delay.rows (local s k))
member_row r s fits k g member = elim (option_cases (row_of r.delay.rows (local s k))) [
  | inl none ↦ absurd (false≢true (sym (member_of_none r s fits k none g) ∙ member))
  | inr (row, some) ↦ ap is_some some
]

pub time_there : (r : Records) (s : State) → Fits r s → (k : ℕ) → IsSome (row_of r.delay.rows (local s k)) →
    time_of r.delay (local s k) ≡ (s.process k).time
time_there r s fits k admitted =
    let (row, at) = some_row (row_of r.delay.rows (local s k)) admitted in
    ap (λ (o : Option Row). option_map_or (λ x. x.time) o no_time) at
    ∙ time_is r.delay (local s k) row at s.config.groups (gate_of s) (process_named s) r.part.kept fits.processes.delay
    ∙ ap (λ (p : Process). p.time) (process_here s k)

-- What is sent and pushed

-- a frame is sent
pub fits_send : (r : Records) (s : State) → Fits r s → (to : SiteNo) (f : SiteFrame) → Fits (send_in r to f) (emit s to f)
fits_send r s fits to f = record {
  core = fits.core;
  opened = fits.opened;
  groups = fits.groups;
  messages = fits.messages;
  processes = fits.processes;
  acks = fits.acks;
  orders = orders_same s (emit s to f) r.orders refl refl refl refl refl refl refl refl (λ u is. is) fits.orders;
  frames = (λ i. fits.frames i ++ ((fits.core i).config.domain, to, f) ∷ [])
      ∙ sym (map-append (λ (x : SiteNo × SiteFrame). (s.config.domain, x.0, x.1)) s.frames ((to, f) ∷ []));
  delivered = fits.delivered;
  pushed = fits.pushed;
}
