-- What changes a group in a domain's records changes it in the history that they stand for.
-- The record at a place changes, and so does the group that stands there (`groups_here`,
-- `groups_home`). `fits_here` is a change that leaves the group's gate as it is, `fits_gated` one
-- of which the queue is told by another gate, `fits_view` a later view, and `fits_home` a change
-- at the home. The other groups stand, and processes and sessions are the same.
use Rattle.std.proofs.Common.{◌≡◌, ℕ, ◌<◌, true, false, List, map, Some, refl, sym, ap, subst, ◌∙◌, inl, inr, arith}
use Rattle.std.specs.Prelude.{if◌then◌else◌, slice_get}
use Rattle.std.proofs.lemmas.Bool.{cases_Bool}
use Rattle.cast_types.specs.declared.names.GroupNo.{GroupNo}
use Rattle.cast_types.specs.Names.{Entry, group_eq, group_cmp}
use Rattle.cast_types.specs.Places.{update}
use Rattle.cast_types.specs.Sets.{set_at}
use Rattle.cast_types.proofs.Orders.{same_group, group_itself}
use Rattle.cast_message.specs.Membership.{Membership}
use Rattle.cast_ready.specs.declared.gate.Gate.{Gate}
use Rattle.cast_ready.specs.Ready.{open_gate}
use Rattle.cast_ready.specs.Rows.{gate_in}
use Rattle.std.specs.FinMap.Entries.{put}
use Rattle.cast_delay.specs.Queue.{queue_viewing}
use Rattle.cast_stable.specs.Acks.{told_ledger}
use Rattle.cast_stable.specs.Fits.{Fits as AcksFits}
use Rattle.cast_stable.proofs.Meanings.{tell_fits as acks_tell_fits}
use Rattle.cast_delay.specs.Fits.{Fits as QueueFits}
use Rattle.cast_delay.proofs.Queues.{view_fits}
use Rattle.cast_delay.proofs.RowLemmas.{row_of_some, names_ended}
use Rattle.cast_order.specs.Log.{Log, log_of, but_log}
use Rattle.cast_domain.specs.declared.record.GroupRecord.{GroupRecord}
use Rattle.cast_view.specs.MemberSide.{MemberSide, is_pending, members_of, with_view, holder_at}
use Rattle.cast_view.specs.Home.{Home}
use Rattle.cast_view.specs.Sites.{other_sites}
use Rattle.cast_rules.specs.State.{State, local, gate_for, gate_of, others_of, set_group, set_home}
use Rattle.cast_domain.specs.Records.{Records}
use Rattle.cast_domain.specs.PartCalls.{record_at}
use Rattle.cast_domain.specs.ViewCalls.{view_in, holding_from}
use Rattle.cast_rules.specs.Lawful.{IsLawful}
use Rattle.cast_domain.specs.Fits.{process_named, record_for, is_live, past_of, LogFits, Fits}
use Rattle.cast_domain.proofs.Receipts.{others_told, past_same, live_and_stands}
use Rattle.cast_domain.proofs.Logs.{logs_view}
use Rattle.cast_rules.proofs.Spots.{update_mapped}
use Rattle.cast_domain.proofs.Standing.{orders_same, orders_group, record_there}

-- the gate of a group, as the queue has it
pub gate_told : (s : State) (g : GroupNo) (v : MemberSide) (gate : Gate) → gate ≡ gate_for v →
    set_at group_eq (gate_of s) g gate ≡ gate_of (set_group s g v)
gate_told s g v gate same = λ i h. at_group h i
  where
    at_group : (h : GroupNo) → set_at group_eq (gate_of s) g gate h ≡ gate_of (set_group s g v) h
    at_group h =
        elim (group_eq g h) as (λ b.
        ◌≡◌ {A = Gate} (if b then gate else gate_for (s.group h)) (gate_for (if b then v else s.group h))) [ true ↦ same | false ↦ refl ]

gate_same : (s : State) (g : GroupNo) (v : MemberSide) → gate_for v ≡ gate_of s g → gate_of s ≡ gate_of (set_group s g v)
gate_same s g v same = λ i h. at_group h i
  where
    at_group : (h : GroupNo) → gate_of s h ≡ gate_of (set_group s g v) h
    at_group h = elim (cases_Bool (group_eq g h)) [
      | inl here ↦ ap (gate_of s) (sym (same_group g h here)) ∙ sym same ∙ ap (λ b. gate_for (if b then v else s.group h)) (sym here)
      | inr other ↦ ap (λ b. gate_for (if b then v else s.group h)) (sym other)
    ]

-- the record of a group with another state
groups_here : (s : State) → IsLawful s → (i : ℕ) (g : GroupNo) →
    slice_get s.config.groups i ≡ Some g → (change : MemberSide → MemberSide) → update (map (record_for s) s.config.groups)
    i (λ x. record x { here = change x.here }) ≡ map (record_for (set_group s g (change (s.group g)))) s.config.groups
groups_here s lawful i g at change =
    update_mapped (record_for s) (record_for (set_group s g (change (s.group g)))) (λ x. record x { here = change x.here })
    s.config.groups i g lawful.rising at
    (ap (λ b. record { name = g; here = if b then change (s.group g) else s.group g; home = s.home g }) (sym (group_itself g)))
    (λ h other. ap (λ b. record { name = h; here = if b then change (s.group g) else s.group h; home = s.home h }) (sym other))

groups_home : (s : State) → IsLawful s →
    (i : ℕ) (g : GroupNo) → slice_get s.config.groups i ≡ Some g → (change : Home → Home) → update (map (record_for s) s.config.groups)
    i (λ x. record x { home = change x.home }) ≡ map (record_for (set_home s g (change (s.home g)))) s.config.groups
groups_home s lawful i g at change =
    update_mapped (record_for s) (record_for (set_home s g (change (s.home g)))) (λ x. record x { home = change x.home })
    s.config.groups i g lawful.rising at
    (ap (λ b. record { name = g; here = s.group g; home = if b then change (s.home g) else s.home g }) (sym (group_itself g)))
    (λ h other. ap (λ b. record { name = h; here = s.group h; home = if b then change (s.home g) else s.home h }) (sym other))

-- a change of the group at this site that leaves its number, its view, and how far a flush of it has come
pub fits_here : (r : Records) (s : State) → Fits r s → IsLawful s → (i : ℕ) (g : GroupNo) → slice_get s.config.groups i ≡ Some g →
    (change : MemberSide → MemberSide) → (change (s.group g)).number ≡ (s.group g).number → (change (s.group g)).view ≡ (s.group g).view →
    gate_for (change (s.group g)) ≡ gate_of s g → is_pending (change (s.group g)) ≡ is_pending (s.group g) →
    Fits (record r { groups = update r.groups i (λ x. record x { here = change x.here }) }) (set_group s g (change (s.group g)))
fits_here r s fits lawful i g at change same seen gate waits = record {
  core = fits.core;
  opened = fits.opened;
  groups = ap (λ gs. update gs i (λ x. record x { here = change x.here })) fits.groups ∙ groups_here s lawful i g at change;
  messages = fits.messages;
  processes = record {
    delay = subst (λ gate. QueueFits s.config.groups gate (process_named s) r.part.kept r.delay) (gate_same s g (change (s.group g)) gate)
        fits.processes.delay;
    admitted = fits.processes.admitted;
    has_row = fits.processes.has_row;
    rows = fits.processes.rows;
    idle = fits.processes.idle;
  };
  acks = subst (λ past. AcksFits past r.acks) (past_same s g (change (s.group g)) same seen) fits.acks;
  orders = orders_group s g (change (s.group g)) r.orders same seen waits fits.orders;
  frames = fits.frames;
  delivered = fits.delivered;
  pushed = fits.pushed;
}

-- a change of the group at this site that leaves its number and its view, of which the queue is told by its gate, beside a change of what
-- is kept of orders
pub fits_gated : (r : Records) (s : State) → Fits r s → IsLawful s → (i : ℕ) (g : GroupNo) → slice_get s.config.groups i ≡ Some g →
    (change : MemberSide → MemberSide) → (change (s.group g)).number ≡ (s.group g).number → (change (s.group g)).view ≡ (s.group g).view →
    (gate : Gate → Gate) →
    gate (gate_of s g) ≡ gate_for (change (s.group g)) → QueueFits s.config.groups (set_at group_eq (gate_of s) g (gate (gate_of s g)))
    (process_named s) r.part.kept (record r.delay { gates = put group_cmp g (gate (gate_in r.delay.gates g)) r.delay.gates }) →
    (orders : List Log) (closed : GroupNo → List Entry) →
    ((h : GroupNo) → LogFits (record (set_group s g (change (s.group g))) { closed = closed }) h (log_of orders h)) →
    Fits (record r {
      groups = update r.groups i (λ x. record x { here = change x.here });
      delay = record r.delay {
        gates = put group_cmp
            (record_at r.groups i).name (gate (gate_in r.delay.gates (record_at r.groups i).name)) r.delay.gates;
      };
      orders = orders;
    })
    (record (set_group s g (change (s.group g))) { closed = closed })
fits_gated r s fits lawful i g at change same seen gate told delay orders closed logs = record {
  core = fits.core;
  opened = fits.opened;
  groups = ap (λ gs. update gs i (λ x. record x { here = change x.here })) fits.groups ∙ groups_here s lawful i g at change;
  messages = fits.messages;
  processes = record {
    delay =
        subst (λ h. QueueFits s.config.groups (gate_of (set_group s g (change (s.group g)))) (process_named s)
        r.part.kept (record r.delay { gates = put group_cmp h (gate (gate_in r.delay.gates h)) r.delay.gates }))
        (sym (ap (λ (x : GroupRecord). x.name) (record_there r s fits i g at)))
        (subst (λ gates. QueueFits s.config.groups gates (process_named s)
        r.part.kept (record r.delay { gates = put group_cmp g (gate (gate_in r.delay.gates g)) r.delay.gates }))
        (gate_told s g (change (s.group g)) (gate (gate_of s g)) told) delay);
    admitted = fits.processes.admitted;
    has_row = fits.processes.has_row;
    rows = fits.processes.rows;
    idle = fits.processes.idle;
  };
  acks = subst (λ past. AcksFits past r.acks) (past_same s g (change (s.group g)) same seen) fits.acks;
  orders = logs;
  frames = fits.frames;
  delivered = fits.delivered;
  pushed = fits.pushed;
}

-- a view is known, and the queue is told of its number
pub fits_view : (r : Records) (s : State) → Fits r s → IsLawful s → (i : ℕ) (g : GroupNo) → slice_get s.config.groups i ≡ Some g →
    (n : ℕ) (members : Membership) → (s.group g).number < n →
    Fits (view_in r i n members) (set_group s g (with_view s.here n members (s.group g)))
fits_view r s fits lawful i g at n members newer = record {
  core = fits.core;
  opened = fits.opened;
  groups = (λ j. update (fits.groups j) i (λ x. record x { here = with_view (fits.core j).site n members x.here }))
      ∙ groups_here s lawful i g at (with_view s.here n members);
  messages = fits.messages;
  processes = record {
    delay =
        subst (λ h. QueueFits s.config.groups (gate_of (set_group s g (with_view s.here n members (s.group g)))) (process_named s)
        r.part.kept (queue_viewing h n r.delay))
        (sym (ap (λ (x : GroupRecord). x.name) (record_there r s fits i g at)))
        (subst (λ gate. QueueFits s.config.groups gate (process_named s) r.part.kept (queue_viewing g n r.delay))
        (gate_told s g (with_view s.here n members (s.group g)) (open_gate n) refl)
        (view_fits s.config.groups (gate_of s) (process_named s) r.part.kept r.delay fits.processes.delay g n (omega (arith, newer))));
    admitted = λ k was. row_of_some (record_at r.groups i).name n r.delay.rows (local s k) (fits.processes.admitted k was);
    has_row = fits.processes.has_row;
    rows = names_ended (record_at r.groups i).name n r.delay.rows ∙ fits.processes.rows;
    idle = fits.processes.idle;
  };
  acks =
      subst (λ others. AcksFits (record (past_of (set_group s g (with_view s.here n members (s.group g)))) { others = others })
      (view_in r i n members).acks) (others_told s g (with_view s.here n members (s.group g)))
      (subst (λ l. AcksFits (record (past_of (set_group s g (with_view s.here n members (s.group g)))) {
        others = set_at group_eq
            (others_of s) g (other_sites s.here (members_of (with_view s.here n members (s.group g))));
      }) l)
      (λ j. told_ledger r.acks (sym (record_there r s fits i g at) j).name n (other_sites ((sym fits.core j).site)
      (members_of (with_view ((sym fits.core j).site) n members (sym (record_there r s fits i g at) j).here))))
      (acks_tell_fits (past_of s) r.acks fits.acks g n (other_sites s.here (members_of (with_view s.here n members (s.group g))))
      (is_live (set_group s g (with_view s.here n members (s.group g))))
      (live_and_stands s g (with_view s.here n members (s.group g)) newer)));
  orders = subst (λ os. (x : GroupNo) → LogFits (set_group s g (with_view s.here n members (s.group g))) x (log_of os x))
      (λ j. holding_from (sym (record_there r s fits i g at) j).name
      (holder_at ((sym fits.core j).site) (with_view ((sym fits.core j).site) n members (sym (record_there r s fits i g at) j).here))
      (but_log (sym (record_there r s fits i g at) j).name r.orders))
      (logs_view s g n members r.orders lawful.traced newer fits.orders);
  frames = fits.frames;
  delivered = fits.delivered;
  pushed = fits.pushed;
}

-- a change of the group at the home
pub fits_home : (r : Records) (s : State) → Fits r s → IsLawful s → (i : ℕ) (g : GroupNo) → slice_get s.config.groups i ≡ Some g →
    (change : Home → Home) →
    Fits (record r { groups = update r.groups i (λ x. record x { home = change x.home }) }) (set_home s g (change (s.home g)))
fits_home r s fits lawful i g at change = record {
  core = fits.core;
  opened = fits.opened;
  groups = ap (λ gs. update gs i (λ x. record x { home = change x.home })) fits.groups ∙ groups_home s lawful i g at change;
  messages = fits.messages;
  processes = fits.processes;
  acks = fits.acks;
  orders = orders_same s (set_home s g (change (s.home g))) r.orders refl refl refl refl refl refl refl refl (λ u is. is) fits.orders;
  frames = fits.frames;
  delivered = fits.delivered;
  pushed = fits.pushed;
}
