-- What changes a session in a domain's records changes it in the history that they stand for.
-- Each lemma named `fits_` and a change keeps `Fits`: an entry is pushed or taken, a session is
-- closed, or gone. One serial changes, and all of these but the last are a session put in the
-- place of one that is there (`fits_session`), with what was pushed noted on both sides
-- (`fits_noted_push`). Groups, processes and orders stay, so the other clauses hold as they did.
use Rattle.std.proofs.Common.{◌≡◌, ℕ, true, false, not, List, [], ◌∷◌, ◌++◌, length, map, filter, drop, refl, sym, ap, subst, ◌∙◌, inl, inr}
use Rattle.std.specs.Prelude.{◌==◌, if◌then◌else◌}
use Rattle.std.specs.Option.{IsSome}
use Rattle.std.proofs.lemmas.Bool.{cases_Bool, false≢true, eqb-true}
use Rattle.std.proofs.lemmas.List.{map-append, length-map}
use Rattle.cast_types.specs.declared.names.DomainNo.{DomainNo}
use Rattle.cast_message.specs.declared.client.Push.{Push}
use Rattle.cast_delay.specs.Queue.{row_of}
use Rattle.cast_domain.specs.GivenSessions.{SessionRecord, status_in}
use Rattle.cast_quota.specs.declared.quotas.Quotas.{Quotas}
use Rattle.cast_message.specs.declared.client.Push.TheVariants as push
use Rattle.cast_events.specs.declared.session.Status.TheVariants.{Closed}
use Rattle.cast_events.specs.Session.{Session, no_session, is_open, is_gone, pushed_to, tell_end, taken_from}
use Rattle.cast_types.specs.declared.refusal.Refusal.{Refusal}
use Rattle.cast_rules.specs.State.{State, local, set_session, was_given, serials, sessions, with_push, pushing, closing, going, taking}
use Rattle.cast_domain.specs.Shared.{part_boxing, part_pushing}
use Rattle.cast_domain.specs.Records.{Records}
use Rattle.cast_domain.specs.PartCalls.{push_in, with_status, close_in, go_in, take_entries_in}
use Rattle.cast_domain.specs.Fits.{with_domain, session_for, is_there, Fits}
use Rattle.cast_domain.proofs.Statuses.{open_remains, status_given, roster, same_roster, set_one}
use Rattle.cast_domain.proofs.Statuses.{same_status, roster_closed, roster_gone, boxes_set, unused_set}
use Rattle.cast_domain.proofs.Standing.{orders_same}

-- the records say of each serial how its session stands
pub status_there : (r : Records) (s : State) → Fits r s → (k : ℕ) → status_in r.sessions k ≡ (s.session k).status
status_there r s fits k = ap (λ xs. status_in xs k) fits.opened.rows ∙ status_given s.session s.used k fits.opened.unused

-- and its outbox
pub box_there : (r : Records) (s : State) → Fits r s → (k : ℕ) → r.part.outboxes k ≡ (s.session k).outbox
box_there r s fits k = ap (λ f. f k) fits.opened.boxes

-- there are as many as are not gone
pub sessions_there : (r : Records) (s : State) → Fits r s → length r.sessions ≡ sessions s
sessions_there r s fits = ap length fits.opened.rows ∙ length-map (filter (is_there s.session) (serials s)) (session_for s.session)

-- so the process of an open session has a row
pub open_row : (r : Records) (s : State) → Fits r s → (k : ℕ) → is_open (s.session k) ≡ true → IsSome (row_of r.delay.rows (local s k))
open_row r s fits k is = fits.processes.admitted k (open_remains (s.session k) is)

-- an open session has a serial that was given
pub open_given : (r : Records) (s : State) → Fits r s → (k : ℕ) → is_open (s.session k) ≡ true → was_given s.used k ≡ true
open_given r s fits k is_so = elim (cases_Bool (was_given s.used k)) [
  | inl given ↦ given
  | inr none ↦ absurd (false≢true (ap is_open (sym (fits.opened.unused k none)) ∙ is_so))
]

-- what was pushed is noted on both sides
pub pushed_more : (r : Records) (s : State) → Fits r s → (k : ℕ) (p : Push) →
    r.pushed ++ (r.config.domain, k, p) ∷ [] ≡ with_domain s.config.domain (s.pushes ++ (k, p) ∷ [])
pushed_more r s fits k p =
    (λ i. fits.pushed i ++ ((fits.core i).config.domain, k, p) ∷ [])
    ∙ sym (map-append (λ (x : ℕ × Push). (s.config.domain, x.0, x.1)) s.pushes ((k, p) ∷ []))

-- one session is another, and is not gone where it was not
fits_session : (r : Records) (s : State) → Fits r s → (k : ℕ) (v : Session) → was_given s.used k ≡ true →
    (is_gone v ≡ false → is_gone (s.session k) ≡ false) → (rows : List SessionRecord) → rows ≡ roster (set_one s.session k v) (serials s) →
    (entries : List Push) → entries ≡ v.outbox →
    Fits (record r { sessions = rows; part = part_boxing r.part k entries }) (set_session s k v)
fits_session r s fits k v given remains rows listed entries boxed = record {
  core = fits.core;
  opened = record {
    rows = listed;
    boxes = boxes_set s.session r.part.outboxes fits.opened.boxes k v entries boxed;
    unused = unused_set s.session s.used k v given fits.opened.unused;
  };
  groups = fits.groups;
  messages = fits.messages;
  processes = record {
    delay = fits.processes.delay;
    admitted = λ j there.
        fits.processes.admitted j
        (elim (k == j) as (λ b. k == j ≡ b → is_gone (if b then v else s.session j) ≡ false → is_gone (s.session j) ≡ false) [
          | true ↦ λ is left. ap (λ i. is_gone (s.session i)) (sym (eqb-true k j is)) ∙ remains left
          | false ↦ λ _ left. left
        ] refl there);
    has_row = fits.processes.has_row;
    rows = fits.processes.rows;
    idle = fits.processes.idle;
  };
  acks = fits.acks;
  orders = orders_same s (set_session s k v) r.orders refl refl refl refl refl refl refl refl (λ u is. is) fits.orders;
  frames = fits.frames;
  delivered = fits.delivered;
  pushed = fits.pushed;
}

-- and it is noted that an entry was pushed
fits_noted_push : (r : Records) (s : State) → Fits r s → (pushed : List (DomainNo × ℕ × Push)) (pushes : List (ℕ × Push)) →
    pushed ≡ with_domain s.config.domain pushes → Fits (record r { pushed = pushed }) (record s { pushes = pushes })
fits_noted_push r s fits pushed pushes same = record {
  core = fits.core;
  opened = record { rows = fits.opened.rows; boxes = fits.opened.boxes; unused = fits.opened.unused };
  groups = fits.groups;
  messages = fits.messages;
  processes = record {
    delay = fits.processes.delay;
    admitted = fits.processes.admitted;
    has_row = fits.processes.has_row;
    rows = fits.processes.rows;
    idle = fits.processes.idle;
  };
  acks = fits.acks;
  orders = orders_same s (record s { pushes = pushes }) r.orders refl refl refl refl refl refl refl refl (λ u is. is) fits.orders;
  frames = fits.frames;
  delivered = fits.delivered;
  pushed = same;
}

-- an open session is told of an entry
pub fits_push : (r : Records) (s : State) → Fits r s → (k : ℕ) → is_open (s.session k) ≡ true → (p : Push) →
    Fits (push_in r k p) (pushing s k p)
fits_push r s fits k is p =
    let v : Session = pushed_to (s.session k) p in
    subst (λ b. Fits (push_in r k p) (if b then with_push s k v p else s)) (sym is)
    (fits_noted_push (record r { part = part_pushing r.part k p }) (set_session s k v)
    (fits_session r s fits k v (open_given r s fits k is) (λ left. left) r.sessions
    (fits.opened.rows ∙ same_roster s.session (set_one s.session k v) (same_status s.session k v refl) (serials s))
    (r.part.outboxes k ++ p ∷ []) (ap (λ entries. entries ++ p ∷ []) (box_there r s fits k)))
    (r.pushed ++ (r.config.domain, k, p) ∷ []) (s.pushes ++ (k, p) ∷ []) (pushed_more r s fits k p))

-- it is closed
pub fits_close : (r : Records) (s : State) → Fits r s → (k : ℕ) → is_open (s.session k) ≡ true → (refusal : Refusal) →
    Fits (close_in r k refusal) (closing s k refusal)
fits_close r s fits k is refusal =
    let v : Session = tell_end refusal (s.session k) in
    let there : is_there s.session k ≡ true = ap not (open_remains (s.session k) is) in
    subst (λ b. Fits (close_in r k refusal) (if b then with_push s k v (push.Closed refusal) else s)) (sym is)
    (fits_noted_push (record r { sessions = map (with_status k Closed) r.sessions; part = part_pushing r.part k (push.Closed refusal) })
    (set_session s k v)
    (fits_session r s fits k v (open_given r s fits k is) (λ _. open_remains (s.session k) is) (map (with_status k Closed) r.sessions)
    (ap (map (with_status k Closed)) fits.opened.rows ∙ roster_closed s.session k v refl there (serials s))
    (r.part.outboxes k ++ push.Closed refusal ∷ []) (ap (λ entries. entries ++ push.Closed refusal ∷ []) (box_there r s fits k)))
    (r.pushed ++ (r.config.domain, k, push.Closed refusal) ∷ []) (s.pushes ++ (k, push.Closed refusal) ∷ [])
    (pushed_more r s fits k (push.Closed refusal)))

-- the first entries of its outbox are taken, where it is not gone
pub fits_take_entries : (r : Records) (s : State) → Fits r s → (k most : ℕ) → is_gone (s.session k) ≡ false →
    Fits (take_entries_in r k most) (taking s k most)
fits_take_entries r s fits k most remains =
    let v : Session = taken_from most (s.session k) in
    fits_session r s fits k v given (λ left. left) r.sessions
    (fits.opened.rows ∙ same_roster s.session (set_one s.session k v) (same_status s.session k v refl) (serials s))
    (drop most (r.part.outboxes k)) (ap (drop most) (box_there r s fits k))
  where
    given : was_given s.used k ≡ true
    given = elim (cases_Bool (was_given s.used k)) [
      | inl is ↦ is
      | inr none ↦ absurd (false≢true (sym remains ∙ ap is_gone (fits.opened.unused k none)))
    ]

-- it is gone
pub fits_go : (r : Records) (s : State) → Fits r s → (k : ℕ) → Fits (go_in r k) (going s k)
fits_go r s fits k = record {
  core = fits.core;
  opened = record {
    rows = ap (filter (λ (x : SessionRecord). not (x.serial == k))) fits.opened.rows ∙ roster_gone s.session k (serials s);
    boxes = boxes_set s.session r.part.outboxes fits.opened.boxes k no_session [] refl;
    unused = λ j none.
        elim (k == j) as (λ b. (if b then no_session else s.session j) ≡ no_session) [ true ↦ refl | false ↦ fits.opened.unused j none ];
  };
  groups = fits.groups;
  messages = fits.messages;
  processes = record {
    delay = fits.processes.delay;
    admitted = λ j there.
        fits.processes.admitted j
        (elim (k == j) as (λ b. is_gone (if b then no_session else s.session j) ≡ false → is_gone (s.session j) ≡ false) [
          | true ↦ λ left. absurd (false≢true (sym left))
          | false ↦ λ left. left
        ] there);
    has_row = fits.processes.has_row;
    rows = fits.processes.rows;
    idle = fits.processes.idle;
  };
  acks = fits.acks;
  orders = orders_same s (going s k) r.orders refl refl refl refl refl refl refl refl (λ u is. is) fits.orders;
  frames = fits.frames;
  delivered = fits.delivered;
  pushed = fits.pushed;
}

-- what both may use, and how many casts they count, is another
pub fits_counted : (r : Records) (s : State) → Fits r s → (quotas : Quotas → Quotas) (casts : ℕ → ℕ) →
    Fits (record r { quotas = quotas r.quotas; casts = casts r.casts }) (record s { quotas = quotas s.quotas; casts = casts s.casts })
fits_counted r s fits quotas casts = record {
  core = λ i. record (fits.core i) { quotas = quotas (fits.core i).quotas; casts = casts (fits.core i).casts };
  opened = record { rows = fits.opened.rows; boxes = fits.opened.boxes; unused = fits.opened.unused };
  groups = fits.groups;
  messages = fits.messages;
  processes = record {
    delay = fits.processes.delay;
    admitted = fits.processes.admitted;
    has_row = fits.processes.has_row;
    rows = fits.processes.rows;
    idle = fits.processes.idle;
  };
  acks = fits.acks;
  orders = orders_same s (record s { quotas = quotas s.quotas; casts = casts s.casts }) r.orders refl refl refl refl refl refl refl refl
      (λ u is. is) fits.orders;
  frames = fits.frames;
  delivered = fits.delivered;
  pushed = fits.pushed;
}
