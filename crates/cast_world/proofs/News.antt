-- What a program was told is what its process did, through every event of a site.
-- `Stage` says it of one process: its session was never opened; or it is open, and all that the process did was told but for what is due;
-- or it is not, and the process is outside all groups. What is due is told as a part of the move that makes it due (`told_keeps`), and
-- where the outbox is full that closes the session (`closed_keeps`).
use Rattle.std.proofs.Common.{ap, append_assoc, arith, inl, inr, subst, sym, ◌∙◌}
use Rattle.std.proofs.lemmas.Bool.{and_parts, cases_Bool, cases_lt, eq-eqb, eqb-true, false≢true, true≢false}
use Rattle.std.proofs.lemmas.Grind.{flat_map-append}
use Rattle.std.proofs.lemmas.List.{append-nil}
use Rattle.std.proofs.lemmas.List.Elements.{Contains-push, Contains-push_cases}
use Rattle.std.specs.List.{fold, range_with_len}
use Rattle.std.specs.Prelude.{◌&&◌, ◌+◌, ◌++◌, ◌<◌, ◌==◌, Bool, Contains, List, [], cond, false, filter, if◌then◌else◌, length, map}
use Rattle.std.specs.Prelude.{refl, suc, true, zero, ℕ, ◌∷◌, ◌≡◌, ◌≤◌, ◌⊎◌}
use Rattle.cast_clock.specs.Times.{join, view_of}
use Rattle.cast_ready.specs.Ready.{Process, is_causally_ready, is_member, is_outside}
use Rattle.cast_rules.specs.Acts.{Act}
use Rattle.cast_rules.specs.Acts.Act.{Delivered, Entered, Left, Sent}
use Rattle.cast_rules.specs.Effects.{delivering, next_message}
use Rattle.cast_rules.specs.Entering.{enters, in_view, is_put_out, passing, put_outside, putting_out}
use Rattle.cast_rules.specs.History.{history}
use Rattle.cast_rules.specs.Rules.Asking.{is_home}
use Rattle.cast_rules.specs.Rules.Leaving.{close_session, end_session, leave_all, tell}
use Rattle.cast_rules.specs.Rules.Rest.{tell_if, told_of}
use Rattle.cast_rules.specs.Rules.Views.{change_view, tell_out, tell_view}
use Rattle.cast_rules.specs.Run.{IsStep, after_event, before_event, entries_for}
use Rattle.cast_rules.specs.State.{State, is_filled, is_group, local, local_members, noting_act, outside, serials, with_delivery}
use Rattle.cast_rules.specs.State.{gate_of, with_push}
use Rattle.cast_rules.specs.State.{going as going_now}
use Rattle.cast_rules.specs.Step.{opening_next}
use Rattle.cast_message.specs.Membership.{Membership}
use Rattle.cast_message.specs.declared.client.Push.{Push}
use Rattle.cast_message.specs.declared.message.Body.{Body}
use Rattle.cast_message.specs.declared.message.Message.{Message}
use Rattle.cast_events.specs.Session.{Session, first_session, is_gone, is_open, no_session, pushed_to, taken_from, tell_end}
use Rattle.cast_events.specs.declared.event.Event.{Event}
use Rattle.cast_events.specs.declared.event.Taken.{Taken}
use Rattle.cast_types.specs.Counts.{CountList}
use Rattle.cast_types.specs.Names.{group_eq, proc_eq, site_eq}
use Rattle.cast_types.specs.Sets.{is_among, set_at}
use Rattle.cast_types.specs.declared.names.GroupNo.{GroupNo}
use Rattle.cast_types.specs.declared.names.Standing.{Standing}
use Rattle.cast_types.specs.declared.names.Standing.TheVariants.{Joining, Member, Outside}
use Rattle.cast_types.specs.declared.refusal.Refusal.{Refusal}
use Rattle.cast_types.specs.declared.refusal.Refusal.TheVariants.{Slow}
use Rattle.cast_view.specs.MemberSide.{is_taken_in}
use Rattle.cast_world.proofs.Acts.{contains_cons, contains_here}
use Rattle.cast_world.proofs.Allowed.{contains_kept, contains_more, contains_range, passed}
use Rattle.cast_world.proofs.Events.{any_came, any_happens, event_keeps_wholly, rests_keeps_wholly, sets_any}
use Rattle.cast_world.proofs.Firsts.{apart_kept}
use Rattle.cast_world.proofs.Kept.{Any, KeptByOwing, WhollyKept}
use Rattle.cast_world.proofs.Laters.{set_all, set_both}
use Rattle.cast_world.proofs.Leavings.{closed_last, gone_last, leaves_all, left_same, why_closed}
use Rattle.cast_world.proofs.Lists.{before, last, place}
use Rattle.cast_world.proofs.Moves.{member_is}
use Rattle.cast_world.proofs.Orders.{Apart}
use Rattle.cast_world.proofs.Telling.{leave_all_keeps}
use Rattle.cast_world.proofs.Views.{still_member}
use Rattle.cast_world.specs.Programs.{News, all_done, all_told, news_by, news_in, news_of}
use Rattle.cast_world.specs.Programs.News.{Cast, View}
use Rattle.cast_message.specs.declared.client.CastKind.TheVariants as kind
use Rattle.cast_message.specs.declared.client.Push.TheVariants as push
use Rattle.cast_message.specs.declared.message.Body.TheVariants as body

-- Of one process

abbrev pub IsShut : (GroupNo → Standing) → Type 0
IsShut standing = (g : GroupNo) → is_outside (standing g) ≡ true

abbrev pub NoneClosed : List Push → Type 0
NoneClosed told = (refusal : Refusal) → Contains told (push.Closed refusal) → ⊥

abbrev pub NoneAfterClosed : List Push → Type 0
NoneAfterClosed told = (refusal : Refusal) (a b : List Push) → told ≡ a ++ push.Closed refusal ∷ b → b ≡ []

-- all was told, or all but the last
abbrev pub AllButSlow : List Push → List Act → Type 0
AllButSlow told acts =
    (all_told told ≡ all_done acts)
    ⊎ ((x : News) × (all_told told ++ x ∷ [] ≡ all_done acts) × Contains told (push.Closed Slow))

pub record Going (used k : ℕ) (live : Bool) (told : List Push) (acts : List Act) (due : List News) : Type 0 where
  pub given : (1 ≤ k) × (k ≤ used)
  pub open_it : live ≡ true
  pub none_closed : NoneClosed told
  pub all : all_told told ++ due ≡ all_done acts

pub data Stage (used k : ℕ) (live : Bool) (standing : GroupNo → Standing) (told : List Push) (acts : List Act)
    (due : List News) : Type 0 where
  unused : (1 ≤ k → k ≤ used → ⊥) → live ≡ false → IsShut standing → told ≡ [] → acts ≡ [] → due ≡ [] →
      Stage used k live standing told acts due
  going : Going used k live told acts due → Stage used k live standing told acts due
  ended : k ≤ used → live ≡ false → IsShut standing → AllButSlow told acts → NoneAfterClosed told → due ≡ [] →
      Stage used k live standing told acts due

module _ (used k : ℕ) (live : Bool) (standing : GroupNo → Standing) (told : List Push) (acts : List Act) (due : List News) where
  -- one whose session is open, or that is not outside some group
  opened : Stage used k live standing told acts due → live ≡ true → Going used k live told acts due
  opened (unused never shut out t a d) is = absurd (false≢true (sym shut ∙ is))
  opened (going g) is = g
  opened (ended given shut out all after d) is = absurd (false≢true (sym shut ∙ is))

  pub inside : Stage used k live standing told acts due → (g : GroupNo) → is_outside (standing g) ≡ false → Going used k live told acts due
  inside (unused never shut out t a d) g is = absurd (false≢true (sym is ∙ out g))
  inside (going x) g is = x
  inside (ended given shut out all after d) g is = absurd (false≢true (sym is ∙ out g))

  -- where the session is not open it is outside all groups
  pub shut_of : Stage used k live standing told acts due → live ≡ false → IsShut standing
  shut_of (unused never shut out t a d) is = out
  shut_of (going g) is = absurd (true≢false (sym g.open_it ∙ is))
  shut_of (ended given shut out all after d) is = out

  -- and nothing is due
  none_due : Stage used k live standing told acts due → live ≡ false → due ≡ []
  none_due (unused never shut out t a d) is = d
  none_due (going g) is = absurd (true≢false (sym g.open_it ∙ is))
  none_due (ended given shut out all after d) is = d

  -- what is due is due of one that is going
  with_due : Stage used k live standing told acts due → (due ≡ [] → ⊥) → Going used k live told acts due
  with_due (unused never shut out t a d) some = absurd (some d)
  with_due (going g) some = g
  with_due (ended given shut out all after d) some = absurd (some d)

  -- nothing else is due of it
  due_else : Stage used k live standing told acts due → (other : List News) → other ≡ due → Stage used k live standing told acts other
  due_else s other same = subst (Stage used k live standing told acts) (sym same) s

  -- it is outside one group more
  shut_more : Stage used k live standing told acts due → (g : GroupNo) →
      Stage used k live (set_at group_eq standing g Outside) told acts due
  shut_more s g = by s
    where
      more : IsShut standing → IsShut (set_at group_eq standing g Outside)
      more out h = still (group_eq g h)
        where
          still : (b : Bool) → is_outside (if b then Outside else standing h) ≡ true
          still true = refl
          still false = out h

      by : Stage used k live standing told acts due → Stage used k live (set_at group_eq standing g Outside) told acts due
      by (unused never shut out t a d) = unused never shut (more out) t a d
      by (going x) = going x
      by (ended given shut out all after d) = ended given shut (more out) all after d

  -- one that is going does one thing more, which comes to be due
  does_more : Going used k live told acts [] → (y : Act) (new : GroupNo → Standing) →
      Stage used k live new told (acts ++ y ∷ []) (news_by y)
  does_more x y new = going record {
    given = x.given;
    open_it = x.open_it;
    none_closed = x.none_closed;
    all = ap (λ l. l ++ news_by y) (sym (append-nil (all_told told)) ∙ x.all)
        ∙ ap (λ l. all_done acts ++ l) (sym (append-nil (news_by y)))
        ∙ sym (flat_map-append news_by acts (y ∷ []));
  }

  -- or of which there is nothing to tell
  does_quietly : Going used k live told acts due → (y : Act) → news_by y ≡ [] → (new : GroupNo → Standing) →
      Stage used k live new told (acts ++ y ∷ []) due
  does_quietly x y none new = going record {
    given = x.given;
    open_it = x.open_it;
    none_closed = x.none_closed;
    all = x.all
        ∙ sym (append-nil (all_done acts))
        ∙ ap (λ l. all_done acts ++ l) (sym (append-nil []) ∙ ap (λ l. l ++ []) (sym none))
        ∙ sym (flat_map-append news_by acts (y ∷ []));
  }

-- an entry that closes a session
abbrev is_closing : Push → Bool
is_closing (push.Opened p) = false
is_closing (push.Reply tag refusal) = false
is_closing (push.View g view members) = false
is_closing (push.Deliver u kind payload) = false
is_closing (push.Ejected g view) = false
is_closing (push.Denied g refusal) = false
is_closing (push.Closed refusal) = true

none_closed_more : (told : List Push) (p : Push) → NoneClosed told → is_closing p ≡ false → NoneClosed (told ++ p ∷ [])
none_closed_more told p none is refusal at = elim (Contains-push_cases told p (push.Closed refusal) at) [
  | inl old ↦ none refusal old
  | inr same ↦ false≢true (sym is ∙ ap is_closing same)
]

none_after : (told : List Push) → NoneClosed told → NoneAfterClosed told
none_after told none refusal a b is = absurd (none refusal (subst (λ l. Contains l (push.Closed refusal)) (sym is) (contains_here a b _)))

closed_then_none : (told : List Push) (refusal : Refusal) → NoneClosed told → NoneAfterClosed (told ++ push.Closed refusal ∷ [])
closed_then_none told refusal none other a b is = elim (place told a b (push.Closed refusal) (push.Closed other) is) [
  | last same closing end ↦ end
  | before d end same ↦ absurd (none other (subst (λ l. Contains l (push.Closed other)) (sym same) (contains_here a d _)))
]

-- Entries for a session

pub entries_more : (pushes : List (ℕ × Push)) (k : ℕ) (p : Push) (j : ℕ) →
    entries_for (pushes ++ (k, p) ∷ []) j ≡ entries_for pushes j ++ cond (k == j) (p ∷ []) []
entries_more [] k p j = go (k == j)
  where
    go : (b : Bool) → map (λ (x : ℕ × Push). x.1) (cond b ((k, p) ∷ []) []) ≡ cond b (p ∷ []) []
    go true = refl
    go false = refl
entries_more (x ∷ pushes) k p j = go (x.0 == j) (entries_more pushes k p j)
  where
    go : (b : Bool) → entries_for (pushes ++ (k, p) ∷ []) j ≡ entries_for pushes j ++ cond (k == j) (p ∷ []) [] →
        map (λ (y : ℕ × Push). y.1)
        (cond b (x ∷ filter (λ y. y.0 == j) (pushes ++ (k, p) ∷ [])) (filter (λ y. y.0 == j) (pushes ++ (k, p) ∷ [])))
        ≡ map (λ (y : ℕ × Push). y.1) (cond b (x ∷ filter (λ y. y.0 == j) pushes) (filter (λ y. y.0 == j) pushes))
        ++ cond (k == j) (p ∷ []) []
    go true more = ap (λ l. x.1 ∷ l) more
    go false more = more

apart_range : (a n : ℕ) → Apart (range_with_len a n)
apart_range a zero = tt
apart_range a (suc n) = ((λ at. low (a + 1) n a at (omega arith)), apart_range (a + 1) n)
  where
    low : (b n k : ℕ) → Contains (range_with_len b n) k → k < b → ⊥
    low b zero k at lt = omega (arith, at.1)
    low b (suc n) k at lt = elim (contains_cons b (range_with_len (b + 1) n) k at) [
      | inl same ↦ omega (arith, same, lt)
      | inr later ↦ low (b + 1) n k later (omega (arith, lt))
    ]

-- Of a site

module _ (s : State) (earlier : ℕ → List Push) where
  -- all that the program of a serial was pushed, in earlier events and in this one
  abbrev told : State → ℕ → List Push
  told t k = earlier k ++ entries_for t.pushes k

  abbrev StageOf : State → ℕ → List News → Type 0
  StageOf t k due = Stage t.used k (is_open (t.session k)) (t.process k).standing (told t k) (t.acts k) due

  -- who is not outside a group is so of a configured one
  abbrev Known : State → (GroupNo → Standing) → Type 0
  Known t standing = (g : GroupNo) → is_outside (standing g) ≡ false → is_group t g ≡ true

  -- each process is at some stage, and the site is the same as in s
  abbrev AtStages : (ℕ → List News) → State → Type 0
  AtStages due t =
      (t.here ≡ s.here) × (t.config ≡ s.config) × ((k : ℕ) → Known t (t.process k).standing) × ((k : ℕ) → StageOf t k (due k))

  abbrev none : ℕ → List News
  none k = []

  stages_as : (t : State) (due other : ℕ → List News) → ((k : ℕ) → other k ≡ due k) → AtStages due t → AtStages other t
  stages_as t due other same f = (
    f.0,
    f.1,
    f.2,
    λ k. due_else t.used k (is_open (t.session k)) (t.process k).standing (told t k) (t.acts k) (due k) (f.3 k) (other k) (same k),
  )

  known_set : (t : State) (standing : GroupNo → Standing) (g : GroupNo) (v : Standing) → Known t standing →
      (is_outside v ≡ false → is_group t g ≡ true) → Known t (set_at group_eq standing g v)
  known_set t standing g v known new h = go (group_eq g h) refl
    where
      go : (b : Bool) → group_eq g h ≡ b → is_outside (if b then v else standing h) ≡ false → is_group t h ≡ true
      go true same is = subst (λ x. is_group t x ≡ true) (ap (λ n. record { 0 = n }) (eqb-true g.0 h.0 same)) (new is)
      go false apart is = known h is

  -- a process parts from a group
  parted : (due : ℕ → List News) (t : State) (k : ℕ) (g : GroupNo) → AtStages due t → AtStages due (outside t k g)
  parted due t k g f = (
    f.0,
    f.1,
    set_all (λ j (p : Process). Known t p.standing) t.process k (put_outside g (t.process k)) f.2
        (known_set t (t.process k).standing g Outside (f.2 k) (λ e. absurd (true≢false e))),
    go (is_member ((t.process k).standing g)) refl,
  )
    where
      not_out : (x : Standing) → is_member x ≡ true → is_outside x ≡ false
      not_out Outside e = absurd (false≢true e)
      not_out (Joining number heard) e = absurd (false≢true e)
      not_out Member e = refl

      go : (b : Bool) → is_member ((t.process k).standing g) ≡ b → (j : ℕ) →
          Stage t.used j (is_open (t.session j)) (set_at (λ a c. a == c) t.process k (put_outside g (t.process k)) j).standing (told t j)
          ((if b then (noting_act t k (Left g)).acts else t.acts) j) (due j)
      go true e =
          set_both (λ j (p : Process) acts. Stage t.used j (is_open (t.session j)) p.standing (told t j) acts (due j)) t.process t.acts k
          (put_outside g (t.process k)) (t.acts k ++ Left g ∷ []) f.3
          (does_quietly t.used k (is_open (t.session k)) (t.process k).standing (told t k) (t.acts k) (due k)
          (inside t.used k (is_open (t.session k)) (t.process k).standing (told t k) (t.acts k) (due k) (f.3 k) g
          (not_out ((t.process k).standing g) e)) (Left g) refl (put_outside g (t.process k)).standing)
      go false e =
          set_all (λ j (p : Process). Stage t.used j (is_open (t.session j)) p.standing (told t j) (t.acts j) (due j)) t.process k
          (put_outside g (t.process k)) f.3
          (shut_more t.used k (is_open (t.session k)) (t.process k).standing (told t k) (t.acts k) (due k) (f.3 k) g)

  owing : (due : ℕ → List News) → KeptByOwing Any (AtStages due)
  owing due = record {
    emits = λ t to f x says adds draws. x;
    books = λ t moment casts x. x;
    owes = λ t key later x owes wants lacks awaited. x;
    renews = λ t key later x owes owed. x;
    pays = λ t test x. x;
    releases = λ t passes x. x;
    parts = λ t k g x. parted due t k g x;
    requests = λ t g what p x inside. x;
  }

  -- Entries

  -- an entry is pushed, and what is due of the process is this
  pushed : (due : ℕ → List News) (t : State) (k : ℕ) (v : Session) (p : Push) (left : List News) → AtStages due t →
      Stage t.used k (is_open v) (t.process k).standing (told t k ++ p ∷ []) (t.acts k) left →
      AtStages (set_at (λ a b. a == b) due k left) (with_push t k v p)
  pushed due t k v p left f one = (f.0, f.1, f.2, λ j. go j (k == j) refl)
    where
      entries : (j : ℕ) (b : Bool) → (k == j) ≡ b → earlier j ++ entries_for (t.pushes ++ (k, p) ∷ []) j ≡ told t j ++ cond b (p ∷ []) []
      entries j b e =
          ap (λ l. earlier j ++ l) (entries_more t.pushes k p j ∙ ap (λ c. entries_for t.pushes j ++ cond c (p ∷ []) []) e)
          ∙ sym (append_assoc (earlier j) (entries_for t.pushes j) (cond b (p ∷ []) []))

      go : (j : ℕ) (b : Bool) → (k == j) ≡ b →
          Stage t.used j (is_open (if b then v else t.session j)) (t.process j).standing
          (earlier j ++ entries_for (t.pushes ++ (k, p) ∷ []) j) (t.acts j) (if b then left else due j)
      go j true e =
          subst (λ l. Stage t.used j (is_open v) (t.process j).standing l (t.acts j) left) (sym (entries j true e))
          (subst (λ i. Stage t.used i (is_open v) (t.process i).standing (told t i ++ p ∷ []) (t.acts i) left) (eqb-true k j e) one)
      go j false e =
          subst (λ l. Stage t.used j (is_open (t.session j)) (t.process j).standing l (t.acts j) (due j))
          (sym (append-nil (told t j)) ∙ sym (entries j false e)) (f.3 j)

  -- who has left all groups is outside each
  shut_all : (due : ℕ → List News) (t : State) (k : ℕ) → AtStages due t → AtStages due (leave_all history t k) →
      IsShut ((leave_all history t k).process k).standing
  shut_all due t k f after g = elim (cases_Bool (is_outside (((leave_all history t k).process k).standing g))) [
    | inl out ↦ out
    | inr within ↦
        leaves_all k t g (subst (λ c. is_among group_eq g c.groups ≡ true) (after.1 ∙ sym f.1) (after.2 k g within))
  ]

  -- what is at most one piece of news
  abbrev AtMostOne : List News → Type 0
  AtMostOne due = (due ≡ []) ⊎ ((x : News) × (due ≡ x ∷ []))

  -- a session is closed: where something is due, because its program was too slow
  closed_keeps : (due : ℕ → List News) (t : State) (k : ℕ) (refusal : Refusal) → AtStages due t → is_open (t.session k) ≡ true →
      (due k ≡ []) ⊎ ((x : News) × (due k ≡ x ∷ []) × (why_closed t k refusal ≡ Slow)) →
      AtStages (set_at (λ a b. a == b) due k []) (close_session history t k refusal)
  closed_keeps due t k refusal f open_it few =
      let why : Refusal = why_closed t k refusal in
      let u : State = leave_all history t k in
      let after : AtStages due u = leave_all_keeps (AtStages due) (owing due) t k f in
      let still : is_open (u.session k) ≡ true = ap (λ (x : State). is_open (x.session k)) (left_same t k) ∙ open_it in
      let x = opened u.used k (is_open (u.session k)) (u.process k).standing (told u k) (u.acts k) (due k) (after.3 k) still in
      let same : all_told (told u k ++ push.Closed why ∷ []) ≡ all_told (told u k) =
      flat_map-append news_in (told u k) (push.Closed why ∷ []) ∙ append-nil (all_told (told u k)) in
      subst (AtStages (set_at (λ a b. a == b) due k [])) (sym (closed_last t k refusal open_it))
      (pushed due u k (tell_end why (t.session k)) (push.Closed why) [] after
      (ended x.given.1 refl (shut_all due t k f after) (elim few [
        | inl nothing ↦ inl (same ∙ sym (append-nil (all_told (told u k))) ∙ ap (λ l. all_told (told u k) ++ l) (sym nothing) ∙ x.all)
        | inr (y, is, slow) ↦ inr (
          y,
          ap (λ l. l ++ y ∷ []) same ∙ ap (λ l. all_told (told u k) ++ l) (sym is) ∙ x.all,
          subst (λ r. Contains (told u k ++ push.Closed why ∷ []) (push.Closed r)) slow (Contains-push (told u k) (push.Closed why)),
        )
      ]) (closed_then_none (told u k) why x.none_closed) refl))

  -- a program is told what is due, or nothing where nothing is
  told_keeps : (due : ℕ → List News) (t : State) (k : ℕ) (p : Push) → AtStages due t → news_in p ≡ due k → AtMostOne (due k) →
      is_closing p ≡ false →
      AtStages (set_at (λ a b. a == b) due k []) (tell history t k p)
  told_keeps due t k p f is few plain = go (is_open (t.session k)) refl (is_filled t k) refl
    where
      no_more : (k_due : List News) → due k ≡ k_due → k_due ≡ [] → (j : ℕ) → set_at (λ a b. a == b) due k [] j ≡ due j
      no_more k_due same nil j = at (k == j) refl
        where
          at : (b : Bool) → (k == j) ≡ b → (if b then [] else due j) ≡ due j
          at true e = sym nil ∙ sym same ∙ ap due (eqb-true k j e)
          at false e = refl

      as_slow : (b : Bool) → (if b then Slow else Slow) ≡ Slow
      as_slow true = refl
      as_slow false = refl

      go : (b : Bool) → is_open (t.session k) ≡ b → (full : Bool) → is_filled t k ≡ full →
          AtStages (set_at (λ a b. a == b) due k [])
          (if b then (if full then close_session history t k Slow
          else (if b then with_push t k (pushed_to (t.session k) p) p else t)) else t)
      go false shut full e =
          stages_as t due (set_at (λ a b. a == b) due k [])
          (no_more (due k) refl
          (none_due t.used k (is_open (t.session k)) (t.process k).standing (told t k) (t.acts k) (due k) (f.3 k) shut)) f
      go true open_it true e = closed_keeps due t k Slow f open_it (elim few [
        | inl nothing ↦ inl nothing
        | inr (x, one) ↦ inr (x, one, as_slow (is_filled t k))
      ])
      go true open_it false e =
          let x = opened t.used k (is_open (t.session k)) (t.process k).standing (told t k) (t.acts k) (due k) (f.3 k) open_it in
          pushed due t k (pushed_to (t.session k) p) p [] f (going record {
            given = x.given;
            open_it = open_it;
            none_closed = none_closed_more (told t k) p x.none_closed plain;
            all = append-nil (all_told (told t k ++ p ∷ []))
                ∙ flat_map-append news_in (told t k) (p ∷ [])
                ∙ ap (λ l. all_told (told t k) ++ l) (append-nil (news_in p) ∙ is)
                ∙ x.all;
          })

  -- where nothing is due, nothing is after it
  told_nothing : (due : ℕ → List News) (t : State) (k : ℕ) (p : Push) → AtStages due t → due k ≡ [] → news_in p ≡ [] →
      is_closing p ≡ false → AtStages due (tell history t k p)
  told_nothing due t k p f nothing quiet plain =
      stages_as (tell history t k p) (set_at (λ a b. a == b) due k []) due (λ j. at j (k == j) refl)
      (told_keeps due t k p f (quiet ∙ sym nothing) (inl nothing) plain)
    where
      at : (j : ℕ) (b : Bool) → (k == j) ≡ b → due j ≡ (if b then [] else due j)
      at j true e = ap due (sym (eqb-true k j e)) ∙ nothing
      at j false e = refl

  -- a session is gone
  gone_keeps : (t : State) (k : ℕ) → AtStages none t → AtStages none (end_session history t k)
  gone_keeps t k f = go (is_gone (t.session k))
    where
      after : AtStages none (leave_all history t k)
      after = leave_all_keeps (AtStages none) (owing none) t k f

      one : (used : ℕ) (live : Bool) (standing : GroupNo → Standing) (entries : List Push) (acts : List Act) →
          Stage used k live standing entries acts [] → IsShut standing → Stage used k false standing entries acts []
      one used live standing entries acts (unused never shut out t_is a_is d) all_out = unused never refl out t_is a_is d
      one used live standing entries acts (going x) all_out =
          ended x.given.1 refl all_out (inl (sym (append-nil (all_told entries)) ∙ x.all)) (none_after entries x.none_closed) refl
      one used live standing entries acts (ended given shut out all after_it d) all_out = ended given refl out all after_it d

      go : (b : Bool) → AtStages none (if b then t else leave_all history (going_now t k) k)
      go true = f
      go false =
          subst (AtStages none) (sym (gone_last t k)) (
            after.0,
            after.1,
            after.2,
            set_all (λ j (v : Session). Stage (leave_all history t k).used j (is_open v) ((leave_all history t k).process j).standing
                (told (leave_all history t k) j) ((leave_all history t k).acts j) []) (leave_all history t k).session k no_session after.3
                (one (leave_all history t k).used (is_open ((leave_all history t k).session k))
                ((leave_all history t k).process k).standing (told (leave_all history t k) k) ((leave_all history t k).acts k) (after.3 k)
                (shut_all none t k f after)),
          )

  -- What a process does

  -- it sends a message
  sent : (t : State) (k : ℕ) (m : Message) (g : GroupNo) → AtStages none t → is_member ((t.process k).standing g) ≡ true →
      (j : ℕ) → Stage t.used j (is_open (t.session j))
      (set_at (λ a b. a == b) t.process k (record (t.process k) { time = m.times }) j).standing (told t j)
      (set_at (λ a b. a == b) t.acts k (t.acts k ++ Sent m ∷ []) j) []
  sent t k m g f member =
      set_both (λ j (p : Process) acts. Stage t.used j (is_open (t.session j)) p.standing (told t j) acts []) t.process t.acts k
      (record (t.process k) { time = m.times }) (t.acts k ++ Sent m ∷ []) f.3
      (does_quietly t.used k (is_open (t.session k)) (t.process k).standing (told t k) (t.acts k) []
      (inside t.used k (is_open (t.session k)) (t.process k).standing (told t k) (t.acts k) [] (f.3 k) g
      (ap is_outside (member_is ((t.process k).standing g) member))) (Sent m) refl (t.process k).standing)

  -- it delivers one, which is due then
  delivered : (t : State) (k : ℕ) (m : Message) → AtStages none t → is_member ((t.process k).standing m.id.group) ≡ true →
      AtStages (set_at (λ a b. a == b) none k (news_of m.id m.body)) (with_delivery t k m)
  delivered t k m f member = (
    f.0,
    f.1,
    set_all (λ j (p : Process). Known t p.standing) t.process k (record (t.process k) {
      time = join (t.process k).time m.times;
      delivered = (t.process k).delivered ++ m.id ∷ [];
    }) f.2 (f.2 k),
    λ j. go j (k == j) refl,
  )
    where
      go : (j : ℕ) (b : Bool) → (k == j) ≡ b →
          Stage t.used j (is_open (t.session j))
          (if b then record (t.process k) { time = join (t.process k).time m.times; delivered = (t.process k).delivered ++ m.id ∷ [] }
          else t.process j).standing (told t j) (if b then t.acts k ++ Delivered m ∷ [] else t.acts j)
          (if b then news_of m.id m.body else [])
      go j true e =
          subst (λ i. Stage t.used i (is_open (t.session i)) (t.process k).standing (told t i) (t.acts k ++ Delivered m ∷ [])
          (news_of m.id m.body)) (eqb-true k j e)
          (does_more t.used k (is_open (t.session k)) (t.process k).standing (told t k) (t.acts k) []
          (inside t.used k (is_open (t.session k)) (t.process k).standing (told t k) (t.acts k) [] (f.3 k) m.id.group
          (ap is_outside (member_is ((t.process k).standing m.id.group) member))) (Delivered m) (t.process k).standing)
      go j false e = f.3 j

  -- and its program is told
  delivering_keeps : (t : State) (k : ℕ) (m : Message) → AtStages none t → is_member ((t.process k).standing m.id.group) ≡ true →
      AtStages none (delivering t k m)
  delivering_keeps t k m f member = go m.body (delivered t k m f member)
    where
      here : (l : List News) → set_at (λ a b. a == b) none k l k ≡ l
      here l = ap (λ b. if b then l else []) (eq-eqb k k refl)

      cleared : (l : List News) (j : ℕ) → [] ≡ set_at (λ a b. a == b) (set_at (λ a b. a == b) none k l) k [] j
      cleared l j = at (k == j)
        where
          at : (b : Bool) → [] ≡ (if b then [] else if b then l else [])
          at true = refl
          at false = refl

      nothing : (j : ℕ) → [] ≡ set_at (λ a b. a == b) none k [] j
      nothing j = at (k == j)
        where
          at : (b : Bool) → ◌≡◌ {A = List News} [] (if b then [] else [])
          at true = refl
          at false = refl

      one : (x : News) (p : Push) → news_in p ≡ x ∷ [] → is_closing p ≡ false →
          AtStages (set_at (λ a b. a == b) none k (x ∷ [])) (with_delivery t k m) → AtStages none (tell history (with_delivery t k m) k p)
      one x p is plain f_now =
          let due : ℕ → List News = set_at (λ a b. a == b) none k (x ∷ []) in
          stages_as (tell history (with_delivery t k m) k p) (set_at (λ a b. a == b) due k []) none (cleared (x ∷ []))
          (told_keeps due (with_delivery t k m) k p f_now (is ∙ sym (here (x ∷ []))) (inr (x, here (x ∷ []))) plain)

      go : (b : Body) → AtStages (set_at (λ a c. a == c) none k (news_of m.id b)) (with_delivery t k m) →
          AtStages none (tell_if history (with_delivery t k m) k (told_of m.id b))
      go (body.Causal payload) f_now =
          one (Cast m.id kind.Causal payload) (push.Deliver m.id kind.Causal payload) refl refl f_now
      go (body.Atomic payload) f_now =
          one (Cast m.id kind.Atomic payload) (push.Deliver m.id kind.Atomic payload) refl refl f_now
      go (body.Order sequence) f_now = stages_as (with_delivery t k m) (set_at (λ a c. a == c) none k []) none nothing f_now

  -- A site passes to a view

  module _ (t : State) (f : AtStages none t) (g : GroupNo) (skipped : Bool) (n : ℕ) (members : Membership) (request : ℕ)
      (cut : CountList) where
    abbrev left : State
    left = putting_out t g skipped members

    abbrev entered : State
    entered = passing t g skipped n members request cut

    -- whoever enters is to be told
    abbrev due_to : Bool → List News
    due_to b = if b then View g n ∷ [] else []

    abbrev view_due : ℕ → List News
    view_due k = due_to (enters left g members request k)

    left_known : (k : ℕ) → Known t (left.process k).standing
    left_known k = go (is_put_out t g skipped members k)
      where
        go : (b : Bool) → Known t (if b then put_outside g (t.process k) else t.process k).standing
        go true = known_set t (t.process k).standing g Outside (f.2 k) (λ e. absurd (true≢false e))
        go false = f.2 k

    left_stage : (k : ℕ) → Stage t.used k (is_open (t.session k)) (left.process k).standing (told t k) (left.acts k) []
    left_stage k = go (is_put_out t g skipped members k) refl
      where
        go : (b : Bool) → is_put_out t g skipped members k ≡ b →
            Stage t.used k (is_open (t.session k)) (if b then put_outside g (t.process k) else t.process k).standing (told t k)
            (if b then t.acts k ++ Left g ∷ [] else t.acts k) []
        go true e =
            does_quietly t.used k (is_open (t.session k)) (t.process k).standing (told t k) (t.acts k) []
            (inside t.used k (is_open (t.session k)) (t.process k).standing (told t k) (t.acts k) [] (f.3 k) g
            (ap is_outside (member_is ((t.process k).standing g) (and_parts (is_member ((t.process k).standing g)) _ e).0)))
            (Left g) refl (put_outside g (t.process k)).standing
        go false e = f.3 k

    taken_inside : (x : Standing) → is_taken_in request x ≡ true → is_outside x ≡ false
    taken_inside Outside e = absurd (false≢true e)
    taken_inside (Joining number heard) e = refl
    taken_inside Member e = refl

    was_inside : (k : ℕ) → enters left g members request k ≡ true → is_outside ((left.process k).standing g) ≡ false
    was_inside k e =
        taken_inside ((left.process k).standing g)
        (and_parts (is_taken_in request ((left.process k).standing g)) (is_among proc_eq (local t k) members.list) e).0

    entered_stages : AtStages view_due entered
    entered_stages = (f.0, f.1, (λ k. known k (enters left g members request k) refl), λ k. stage k (enters left g members request k) refl)
      where
        known : (k : ℕ) (b : Bool) → enters left g members request k ≡ b →
            Known t (if b then in_view g n (left.process k) else left.process k).standing
        known k true e = known_set t (left.process k).standing g Member (left_known k) (λ _. left_known k g (was_inside k e))
        known k false e = left_known k

        stage : (k : ℕ) (b : Bool) → enters left g members request k ≡ b →
            Stage t.used k (is_open (t.session k)) (if b then in_view g n (left.process k) else left.process k).standing (told t k)
            (if b then left.acts k ++ Entered g n cut ∷ [] else left.acts k) (if b then View g n ∷ [] else [])
        stage k true e =
            does_more t.used k (is_open (t.session k)) (left.process k).standing (told t k) (left.acts k) []
            (inside t.used k (is_open (t.session k)) (left.process k).standing (told t k) (left.acts k) [] (left_stage k) g
            (was_inside k e)) (Entered g n cut) (in_view g n (left.process k)).standing
        stage k false e = left_stage k

    -- who was put out does not enter
    out_not_due : (k : ℕ) → Contains (history.put_out t g skipped members) k → view_due k ≡ []
    out_not_due k at = go (enters left g members request k) refl (is_put_out t g skipped members k) refl
        (passed (is_put_out t g skipped members) (serials t) k at)
      where
        go : (b : Bool) → enters left g members request k ≡ b → (out : Bool) → is_put_out t g skipped members k ≡ out → out ≡ true →
            due_to b ≡ []
        go false e out is put = refl
        go true e out is put =
            let outside_it : is_outside ((left.process k).standing g) ≡ true =
            ap (λ c. is_outside ((if c then put_outside g (t.process k) else t.process k).standing g)) (is ∙ put)
            ∙ ap (λ c. is_outside (if c then Outside else (t.process k).standing g)) (eq-eqb g.0 g.0 refl) in
            absurd (true≢false (sym outside_it ∙ was_inside k e))

    -- each member enters
    member_due : (k : ℕ) → Contains (local_members entered g) k → view_due k ≡ View g n ∷ []
    member_due k at =
        go (enters left g members request k) refl (passed (λ j. is_member ((entered.process j).standing g)) (serials entered) k at)
      where
        taken : is_member ((left.process k).standing g) ≡ true → enters left g members request k ≡ true
        taken member =
            let is = member_is ((left.process k).standing g) member in
            let named = (still_member t g skipped members k is).2 in
            λ i. is_taken_in request (is i) && named i

        go : (b : Bool) → enters left g members request k ≡ b →
            is_member ((if b then in_view g n (left.process k) else left.process k).standing g) ≡ true → due_to b ≡ View g n ∷ []
        go true e member = refl
        go false e member = absurd (false≢true (sym e ∙ taken member))

    -- and whoever enters is a member
    due_member : (k : ℕ) → (view_due k ≡ []) ⊎ ((view_due k ≡ View g n ∷ []) × Contains (local_members entered g) k)
    due_member k = go (enters left g members request k) refl
      where
        some : View g n ∷ [] ≡ [] → ⊥
        some e = let l = ap length e in omega (arith, l)

        go : (b : Bool) → enters left g members request k ≡ b →
            (due_to b ≡ []) ⊎ ((due_to b ≡ View g n ∷ []) × Contains (local_members entered g) k)
        go false e = inl refl
        go true e =
            let x = with_due t.used k (is_open (t.session k)) (entered.process k).standing (told t k) (entered.acts k) (view_due k)
            (entered_stages.3 k) (subst (λ b. due_to b ≡ [] → ⊥) (sym e) some) in
            let low = x.given.0 in
            let high = x.given.1 in
            inr (
              refl,
              contains_kept (λ j. is_member ((entered.process j).standing g)) (serials entered) k
                  (contains_range 1 t.used k low (omega (arith, high)))
                  (ap (λ b. is_member ((if b then in_view g n (left.process k) else left.process k).standing g)) e
                  ∙ ap (λ b. is_member (if b then Member else (left.process k).standing g)) (eq-eqb g.0 g.0 refl)),
            )

    tell_outs : (who : List ℕ) (u : State) → AtStages view_due u → ((k : ℕ) → Contains who k → view_due k ≡ []) →
        AtStages view_due (fold (tell_out history g n) u who)
    tell_outs [] u x nothing = x
    tell_outs (k ∷ who) u x nothing =
        tell_outs who (tell history u k (push.Ejected g n))
        (told_nothing view_due u k (push.Ejected g n) x (nothing k (contains_here [] who k)) refl refl)
        (λ j at. nothing j (contains_more k who j at))

    tell_views : (who : List ℕ) (u : State) (due : ℕ → List News) → AtStages due u → Apart who →
        ((k : ℕ) → Contains who k → due k ≡ View g n ∷ []) →
        ((k : ℕ) → (due k ≡ []) ⊎ ((due k ≡ View g n ∷ []) × Contains who k)) →
        AtStages none (fold (tell_view history g n members) u who)
    tell_views [] u due x apart is all =
        stages_as u due none (λ k. elim (all k) [ inl nothing ↦ sym nothing | inr (is_due, at) ↦ absurd (omega (arith, at.1)) ]) x
    tell_views (k ∷ who) u due x apart is all =
        let here = is k (contains_here [] who k) in
        tell_views who (tell history u k (push.View g n members)) (set_at (λ a b. a == b) due k [])
        (told_keeps due u k (push.View g n members) x (sym here) (inr (View g n, here)) refl) apart.1 (λ j at. later j at (k == j) refl)
        (λ j. rest j (k == j) refl)
      where
        later : (j : ℕ) → Contains who j → (b : Bool) → (k == j) ≡ b → (if b then [] else due j) ≡ View g n ∷ []
        later j at true e = absurd (apart.0 (subst (Contains who) (sym (eqb-true k j e)) at))
        later j at false e = is j (contains_more k who j at)

        rest : (j : ℕ) (b : Bool) → (k == j) ≡ b →
            ((if b then [] else due j) ≡ []) ⊎ (((if b then [] else due j) ≡ View g n ∷ []) × Contains who j)
        rest j true e = inl refl
        rest j false e = elim (all j) [
          | inl nothing ↦ inl nothing
          | inr (is_due, at) ↦ elim (contains_cons k who j at) [
            | inl same ↦ absurd (false≢true (sym e ∙ eq-eqb k j same))
            | inr there ↦ inr (is_due, there)
          ]
        ]

    change_view_keeps : AtStages none (change_view history skipped t g n members request cut)
    change_view_keeps =
        tell_views (local_members entered g) (fold (tell_out history g n) entered (history.put_out t g skipped members)) view_due
        (tell_outs (history.put_out t g skipped members) entered entered_stages out_not_due)
        (apart_kept (λ k. is_member ((entered.process k).standing g)) (serials entered) (apart_range 1 t.used))
        member_due due_member

  -- A session is opened

  opens_keeps : (t : State) → AtStages none t → AtStages none (opening_next t)
  opens_keeps t f = (f.0, f.1, f.2, λ j. go j (t.used + 1 == j) refl)
    where
      up : (j : ℕ) → (t.used + 1 == j) ≡ false → Stage t.used j (is_open (t.session j)) (t.process j).standing (told t j) (t.acts j) [] →
          Stage (t.used + 1) j (is_open (t.session j)) (t.process j).standing (told t j) (t.acts j) []
      up j apart (unused never shut out t_is a_is d) =
          unused (λ low high. elim (cases_lt t.used j) [
            | inl over ↦ true≢false (sym (eq-eqb (t.used + 1) j (omega (arith, over, high))) ∙ apart)
            | inr under ↦ never low under
          ]) shut out t_is a_is d
      up j apart (going x) = going record {
        given = (x.given.0, let was = x.given.1 in omega (arith, was));
        open_it = x.open_it;
        none_closed = x.none_closed;
        all = x.all;
      }
      up j apart (ended given shut out all after d) = ended (omega (arith, given)) shut out all after d

      entries : (j : ℕ) (b : Bool) → (t.used + 1 == j) ≡ b →
          earlier j ++ entries_for (t.pushes ++ (t.used + 1, push.Opened (local t (t.used + 1))) ∷ []) j
          ≡ told t j ++ cond b (push.Opened (local t (t.used + 1)) ∷ []) []
      entries j b e =
          ap (λ l. earlier j ++ l) (entries_more t.pushes (t.used + 1) (push.Opened (local t (t.used + 1))) j
          ∙ ap (λ c. entries_for t.pushes j ++ cond c (push.Opened (local t (t.used + 1)) ∷ []) []) e)
          ∙ sym (append_assoc (earlier j) (entries_for t.pushes j) (cond b (push.Opened (local t (t.used + 1)) ∷ []) []))

      new : (j : ℕ) → t.used + 1 ≡ j → Stage t.used j (is_open (t.session j)) (t.process j).standing (told t j) (t.acts j) [] →
          Stage (t.used + 1) j true (t.process j).standing (told t j ++ push.Opened (local t (t.used + 1)) ∷ []) (t.acts j) []
      new j is (unused never shut out t_is a_is d) = going record {
        given = (omega (arith, is), omega (arith, is));
        open_it = refl;
        none_closed = none_closed_more (told t j) (push.Opened (local t (t.used + 1)))
            (subst NoneClosed (sym t_is) (λ refusal at. omega (arith, at.1))) refl;
        all = ap (λ l. all_told (l ++ push.Opened (local t (t.used + 1)) ∷ []) ++ []) t_is ∙ ap all_done (sym a_is);
      }
      new j is (going x) = absurd (let high = x.given.1 in omega (arith, high, is))
      new j is (ended given shut out all after d) = absurd (omega (arith, given, is))

      go : (j : ℕ) (b : Bool) → (t.used + 1 == j) ≡ b →
          Stage (t.used + 1) j (is_open (if b then first_session (local t (t.used + 1)) else t.session j)) (t.process j).standing
          (earlier j ++ entries_for (t.pushes ++ (t.used + 1, push.Opened (local t (t.used + 1))) ∷ []) j) (t.acts j) []
      go j true e =
          subst (λ l. Stage (t.used + 1) j true (t.process j).standing l (t.acts j) []) (sym (entries j true e))
          (new j (eqb-true (t.used + 1) j e) (f.3 j))
      go j false e =
          subst (λ l. Stage (t.used + 1) j (is_open (t.session j)) (t.process j).standing l (t.acts j) [])
          (sym (append-nil (told t j)) ∙ sym (entries j false e)) (up j e (f.3 j))

  kept_news : WhollyKept (AtStages none) (λ u. AtStages none) Any (is_home history s) true
  kept_news = record {
    owing = owing none;
    during = λ u. owing none;
    truly = inr ((λ t key x owed is known. x), λ t key due x owed. x);
    fixed = λ t x. λ i. site_eq (x.0 i) (x.1 i).home;
    opens = opens_keeps;
    takes = λ t k most x. (
      x.0,
      x.1,
      x.2,
      set_all (λ j (v : Session). Stage t.used j (is_open v) (t.process j).standing (told t j) (t.acts j) []) t.session k
          (taken_from most (t.session k)) x.3 (x.3 k),
    );
    replies = λ t k tag refusal x. told_nothing none t k (push.Reply tag refusal) x refl refl refl;
    denies = λ t k g refusal x. told_nothing none t k (push.Denied g refusal) x refl refl refl;
    closes = λ t k refusal x open_it.
        stages_as (close_session history t k refusal) (set_at (λ a b. a == b) none k []) none (λ j. nothing (k == j))
        (closed_keeps none t k refusal x open_it (inl refl));
    goes = gone_keeps;
    answers = λ t g x. x;
    joins = λ t k g x open_it known out. (
      x.0,
      x.1,
      set_all (λ j (p : Process). Known t p.standing) t.process k (record (t.process k) {
        standing = set_at group_eq (t.process k).standing g
            (Joining ((t.group g).asked + 1) (view_of (t.process k).time g));
      }) x.2 (known_set t (t.process k).standing g (Joining ((t.group g).asked + 1) (view_of (t.process k).time g)) (x.2 k) (λ _. known)),
      set_all (λ j (p : Process). Stage t.used j (is_open (t.session j)) p.standing (told t j) (t.acts j) []) t.process k
          (record (t.process k) {
            standing = set_at group_eq (t.process k).standing g
                (Joining ((t.group g).asked + 1) (view_of (t.process k).time g));
          }) x.3 (going (opened t.used k (is_open (t.session k)) (t.process k).standing (told t k) (t.acts k) [] (x.3 k) open_it)),
    );
    sends = λ t g k content x member may room open_it asked_for.
        let m : Message = next_message t g k content in (
          x.0,
          x.1,
          set_all (λ j (p : Process). Known t p.standing) t.process k (record (t.process k) { time = m.times }) x.2 (x.2 k),
          sent t k m g x member,
        );
    receives = λ t from m x came view member may new. x;
    received = λ t u x. x;
    acknowledged = λ t from u x came. x;
    learns = λ t from u x came. x;
    delivers = λ t k m x c ready.
        delivering_keeps t k m x
        (and_parts (is_member ((t.process k).standing m.id.group)) _
        (and_parts (is_causally_ready t.config.groups (gate_of t) (t.process k) m) _ ready).0).0;
    freezes = λ t g x current. x;
    pends = λ t from g p tail x came current waits known. x;
    enters = λ t g skipped n members request cut x comes. change_view_keeps t x g skipped n members request cut;
    homes = λ t g what x may. x;
  }
    where
      nothing : (b : Bool) → ◌≡◌ {A = List News} [] (if b then [] else [])
      nothing true = refl
      nothing false = refl

  -- a step of the site, from entries pushed before
  pub step_news : (e : Event) (answer : Taken) (t : State) → IsStep s e answer t → AtStages none (before_event s) → AtStages none t
  step_news e answer t is x =
      rests_keeps_wholly (AtStages none) (λ u. AtStages none) Any (is_home history s) true kept_news (after_event s e) t is.rests
      (event_keeps_wholly (AtStages none) (λ u. AtStages none) Any (is_home history s) true kept_news s e x (any_came e)
      (sets_any (AtStages none) (λ u quotas y. y) (before_event s) e x) (any_happens e))
