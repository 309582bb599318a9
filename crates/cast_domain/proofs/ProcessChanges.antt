-- What changes a process in a domain's records changes it in the history that they stand for.
-- `fits_told` says so of a fact that a process is told, and `fits_member` of one that makes it a
-- member. A fact changes one row of the queue and one process of the history, and both in the same
-- way (`named_set`); it changes nothing of what was delivered, so the logs of orders tell of it
-- still if the process counts no fewer of its own messages (`CountsStill`).
use Rattle.std.proofs.Common.{◌≡◌, ℕ, ◌≤◌, Bool, true, false, cond, List, [], ◌∷◌, map, Some, refl, sym, ap, subst, ◌∙◌, inl, inr, arith}
use Rattle.std.specs.Prelude.{◌==◌, if◌then◌else◌, is_some}
use Rattle.std.specs.Option.{IsSome}
use Rattle.std.proofs.lemmas.Bool.{cases_Bool, false≢true, eqb-true}
use Rattle.cast_types.specs.declared.names.GroupNo.{GroupNo}
use Rattle.cast_types.specs.declared.names.Proc.{Proc}
use Rattle.cast_types.specs.declared.names.Standing.{Standing}
use Rattle.cast_types.specs.declared.names.Standing.TheVariants.{Member}
use Rattle.cast_types.specs.declared.names.Uid.{Uid}
use Rattle.cast_types.specs.Names.{site_eq, group_eq, proc_eq}
use Rattle.cast_types.specs.Stamps.{ClockList}
use Rattle.cast_types.proofs.Orders.{same_group}
use Rattle.cast_message.specs.declared.message.Message.{Message}
use Rattle.cast_ready.specs.declared.row.Row.{Row}
use Rattle.cast_ready.specs.declared.row.ProcessUpdate.{ProcessUpdate}
use Rattle.cast_ready.specs.declared.row.ProcessUpdate.TheVariants as fact
use Rattle.cast_ready.specs.Ready.{Process, is_outside, has_delivered, is_member}
use Rattle.cast_ready.specs.Rows.{told_row}
use Rattle.cast_delay.specs.Queue.{row_of, change_row}
use Rattle.cast_delay.specs.Fits.{FactFits, Fits as QueueFits, set_process as set_named, tell_process as told_of}
use Rattle.cast_delay.proofs.Queues.{tell_fits}
use Rattle.cast_order.specs.Log.{Log, log_of, place_of}
use Rattle.cast_view.specs.MemberSide.{is_pending}
use Rattle.cast_types.specs.declared.limits.TheConstants.{MAX_NUMBER}
use Rattle.cast_rules.specs.Order.{is_of_view}
use Rattle.cast_rules.specs.State.{State, no_process, local, is_group, gate_of, set_process, set_standing, noting_act, noting_sent}
use Rattle.cast_rules.specs.Acts.{Act}
use Rattle.cast_rules.specs.Acts.Act.{Sent}
use Rattle.cast_domain.specs.Records.{Records}
use Rattle.cast_domain.specs.PartCalls.{tell_in, orders_sent}
use Rattle.cast_domain.specs.Fits.{settled_of, process_named, LogFits, Fits}
use Rattle.cast_domain.proofs.Rows.{row_given}
use Rattle.cast_domain.proofs.Logs.{IsAlike, log_alike, same_alike, log_starts}
use Rattle.cast_domain.proofs.Acting.{logs_sent}
use Rattle.cast_domain.proofs.Over.{over_alike, one_counts_on}
use Rattle.cast_domain.proofs.Standing.{CountsStill, orders_process, process_here, process_set, still_idle}

-- a row that is told something is the row of the same process
pub told_keeps : (f : ProcessUpdate) (r : Row) → (told_row f r).process ≡ r.process
told_keeps (fact.Standing h s) r = refl
told_keeps (fact.Time time) r = refl

-- who has a row has one still, whichever row changes
pub still_in : (p : Proc) (f : Row → Row) → ((r : Row) → (f r).process ≡ r.process) → (q : Proc) (rows : List Row) →
    IsSome (row_of rows q) → IsSome (row_of (change_row p f rows) q)
still_in p f keeps q rows was = same_in rows ∙ was
  where
    same_name : (b : Bool) (r : Row) → (cond b (f r) r).process ≡ r.process
    same_name true r = keeps r
    same_name false r = refl

    same_in : (rows : List Row) → is_some (row_of (change_row p f rows) q) ≡ is_some (row_of rows q)
    same_in [] = refl
    same_in (r ∷ rows) =
        ap (λ x. is_some (cond (proc_eq x q) (Some (cond (proc_eq r.process p) (f r) r)) (row_of (change_row p f rows) q)))
        (same_name (proc_eq r.process p) r)
        ∙ elim (proc_eq r.process q) as (λ b. is_some (cond b (Some (cond (proc_eq r.process p) (f r) r)) (row_of (change_row p f rows) q))
        ≡ is_some (cond b (Some r) (row_of rows q))) [
          | true ↦ refl
          | false ↦ same_in rows
        ]

-- and the rows are those of the same processes
pub same_names : (p : Proc) (f : Row → Row) → ((r : Row) → (f r).process ≡ r.process) → (rows : List Row) →
    map (λ row. row.process) (change_row p f rows) ≡ map (λ row. row.process) rows
same_names p f keeps [] = refl
same_names p f keeps (r ∷ rows) = (λ i. name (proc_eq r.process p) i ∷ same_names p f keeps rows i)
  where
    name : (b : Bool) → (cond b (f r) r).process ≡ r.process
    name true = keeps r
    name false = refl

-- what changes a process by its name changes it by its serial
pub named_set : (s : State) (k : ℕ) (f : Process → Process) →
    set_named (process_named s) (local s k) (f (process_named s (local s k))) ≡ process_named (set_process s k (f (s.process k)))
named_set s k f = ap (λ p. set_named (process_named s) (local s k) (f p)) (process_here s k) ∙ sym (process_set s k (f (s.process k)))

-- a fact changes nothing of what was delivered
told_delivered : (f : ProcessUpdate) (p : Process) → (told_of f p).delivered ≡ p.delivered
told_delivered (fact.Standing g v) p = refl
told_delivered (fact.Time t) p = refl

-- a fact that makes nobody a member
abbrev pub MakesNoMember : ProcessUpdate → Type 0
MakesNoMember (fact.Standing g v) = is_member v ≡ false
MakesNoMember (fact.Time t) = Unit {0}

-- it leaves no more members
told_members : (f : ProcessUpdate) (p : Process) → MakesNoMember f → (g : GroupNo) → is_member ((told_of f p).standing g) ≡ true →
    is_member (p.standing g) ≡ true
told_members (fact.Standing h v) p none g =
    elim (group_eq h g) as (λ b. is_member (if b then v else p.standing g) ≡ true → is_member (p.standing g) ≡ true) [
      | true ↦ λ is. absurd (false≢true (sym none ∙ is))
      | false ↦ λ is. is
    ]
told_members (fact.Time t) p none g = λ is. is

-- a process that was admitted is told of a fact, and the logs tell of that
pub fits_told_with : (r : Records) (s : State) → Fits r s → (k : ℕ) → IsSome (row_of r.delay.rows (local s k)) → (f : ProcessUpdate) →
    FactFits s.config.groups f → ((g : GroupNo) → LogFits (set_process s k (told_of f (s.process k))) g (log_of r.orders g)) →
    Fits (tell_in r (local s k) f) (set_process s k (told_of f (s.process k)))
fits_told_with r s fits k row f ok logs = record {
  core = fits.core;
  opened = fits.opened;
  groups = fits.groups;
  messages = fits.messages;
  processes = record {
    delay =
        subst (λ ps. QueueFits s.config.groups (gate_of s)
        ps r.part.kept (record r.delay { rows = change_row (local s k) (told_row f) r.delay.rows })) (named_set s k (told_of f))
        (tell_fits s.config.groups (gate_of s) (process_named s) r.part.kept r.delay fits.processes.delay (local s k) f row ok);
    admitted = λ j was. still_in (local s k) (told_row f) (told_keeps f) (local s j) r.delay.rows (fits.processes.admitted j was);
    has_row = fits.processes.has_row;
    rows = same_names (local s k) (told_row f) (told_keeps f) r.delay.rows ∙ fits.processes.rows;
    idle = still_idle s k (told_of f (s.process k)) (row_given s r.delay.rows fits.processes.has_row s.used fits.processes.rows k row)
        fits.processes.idle;
  };
  acks = fits.acks;
  orders = logs;
  frames = fits.frames;
  delivered = fits.delivered;
  pushed = fits.pushed;
}

-- a fact that makes nobody a member, and by which the process counts no fewer
pub fits_told : (r : Records) (s : State) → Fits r s → (k : ℕ) → IsSome (row_of r.delay.rows (local s k)) → (f : ProcessUpdate) →
    FactFits s.config.groups f → MakesNoMember f → CountsStill r.orders (local s k) (s.process k).time (told_of f (s.process k)).time →
    Fits (tell_in r (local s k) f) (set_process s k (told_of f (s.process k)))
fits_told r s fits k row f ok none counts =
    fits_told_with r s fits k row f ok
    (orders_process s k (told_of f (s.process k)) r.orders (told_delivered f (s.process k)) (told_members f (s.process k) none)
    counts fits.orders)

-- a process enters the view of a group of whose order nothing is kept yet
pub fits_member : (r : Records) (s : State) → Fits r s → (k : ℕ) → IsSome (row_of r.delay.rows (local s k)) → (g : GroupNo) →
    is_group s g ≡ true → is_pending (s.group g) ≡ false → ((p : Proc) → place_of (log_of r.orders g) p ≡ 0) →
    Fits (tell_in r (local s k) (fact.Standing g Member)) (set_standing s k g Member)
fits_member r s fits k row g listed unclosed new = fits_told_with r s fits k row (fact.Standing g Member) (λ _. listed) logs
  where
    t : State
    t = set_standing s k g Member

    delivered : (p : Proc) (u : Uid) (a b : Bool) →
        (b ≡ true → k ≡ p.serial) → has_delivered (if a then s.process p.serial else no_process) u ≡ true → has_delivered
        (if a then (if b then told_of (fact.Standing g Member) (s.process k) else s.process p.serial) else no_process) u ≡ true
    delivered p u true true is was = ap (λ n. has_delivered (s.process n) u) (is refl) ∙ was
    delivered p u true false is was = was
    delivered p u false b is was = was

    same : (p : Proc) (h : GroupNo) → group_eq g h ≡ false → (a b : Bool) → (b ≡ true → k ≡ p.serial) → is_member
        ((if a then (if b then told_of (fact.Standing g Member) (s.process k) else s.process p.serial) else no_process).standing h) ≡ true →
        is_member ((if a then s.process p.serial else no_process).standing h) ≡ true
    same p h apart true true is member =
        ap (λ n. is_member ((s.process n).standing h)) (sym (is refl))
        ∙ sym (ap (λ b. is_member (if b then Member else (s.process k).standing h)) apart) ∙ member
    same p h apart true false is member = member
    same p h apart false b is member = member

    alike : (h : GroupNo) → IsAlike s t h (log_of r.orders h)
    alike h =
        same_alike s t h (log_of r.orders h) refl refl refl refl (λ j. refl) (λ j. refl)
        refl (λ p u is. delivered p u (site_eq p.site s.here) (k == p.serial) (eqb-true k p.serial) is)

    logs : (h : GroupNo) → LogFits t h (log_of r.orders h)
    logs h = elim (cases_Bool (group_eq g h)) [
      | inl here ↦ subst (λ x. LogFits t x (log_of r.orders x)) (same_group g h here) own
      | inr apart ↦
          log_alike s t h (log_of r.orders h) (alike h) refl refl
          (λ p is. same p h apart (site_eq p.site s.here) (k == p.serial) (eqb-true k p.serial) is)
          (λ _. over_alike s t h refl refl refl (λ u is. is)
          (one_counts_on s k (told_of (fact.Standing g Member) (s.process k)) h
          (λ member. record {
            member = sym (ap (λ b. is_member (if b then Member else (s.process k).standing h)) apart)
                ∙ member;
            counts = omega arith;
          })))
          (fits.orders h)
    ]
      where
        own : LogFits t g (log_of r.orders g)
        own = log_starts s t g (log_of r.orders g) (alike g) unclosed unclosed new (fits.orders g)

pub fits_standing : (r : Records) (s : State) → Fits r s → (k : ℕ) → IsSome (row_of r.delay.rows (local s k)) →
    (g : GroupNo) (v : Standing) → (is_outside v ≡ false → is_group s g ≡ true) → is_member v ≡ false →
    Fits (tell_in r (local s k) (fact.Standing g v)) (set_standing s k g v)
fits_standing r s fits k row g v ok none = fits_told r s fits k row (fact.Standing g v) ok none (λ h _. omega arith)

pub fits_time : (r : Records) (s : State) → Fits r s → (k : ℕ) → IsSome (row_of r.delay.rows (local s k)) → (t : ClockList) →
    CountsStill r.orders (local s k) (s.process k).time t →
    Fits (tell_in r (local s k) (fact.Time t)) (set_process s k (record (s.process k) { time = t }))
fits_time r s fits k row t counts = fits_told r s fits k row (fact.Time t) tt tt counts

-- what processes did is the history's alone, but for what the logs tell of it
pub fits_acts : (r : Records) (s : State) → Fits r s → (acts : ℕ → List Act) → (orders : List Log) →
    ((g : GroupNo) → LogFits (record s { acts = acts }) g (log_of orders g)) →
    Fits (record r { orders = orders }) (record s { acts = acts })
fits_acts r s fits acts orders logs = record {
  core = fits.core;
  opened = fits.opened;
  groups = fits.groups;
  messages = fits.messages;
  processes = fits.processes;
  acks = fits.acks;
  orders = logs;
  frames = fits.frames;
  delivered = fits.delivered;
  pushed = fits.pushed;
}

pub fits_sent : (r : Records) (s : State) → Fits r s → (k : ℕ) → IsSome (row_of r.delay.rows (local s k)) → (m : Message) →
    CountsStill r.orders (local s k) (s.process k).time m.times → m.id.proc ≡ local s k → is_of_view s m.id.group m.id ≡ true →
    m.id.count ≤ MAX_NUMBER → (stable : ℕ) → stable ≡ settled_of s m.id.group (local s k) →
    Fits (record (tell_in r (local s k) (fact.Time m.times)) { orders = orders_sent r.orders m.id stable m.body }) (noting_sent s k m)
fits_sent r s fits k row m counts own current most stable settled =
    let now : State = set_process s k (record (s.process k) { time = m.times }) in
    let timed = fits_time r s fits k row m.times counts in
    fits_acts (tell_in r (local s k) (fact.Time m.times)) now timed (noting_act now k (Sent m)).acts
    (orders_sent r.orders m.id stable m.body)
    (logs_sent now k m stable r.orders timed.orders own current most settled)
