-- What is kept by owing frames, asking the home, leaving groups and telling programs.
use Rattle.cast_world.specs.Laws.{AgreesWith}
use Rattle.std.proofs.Common.{ap, arith, inl, inr, subst, sym, ◌∙◌}
use Rattle.std.proofs.lemmas.Bool.{cases_Bool, false≢true}
use Rattle.std.specs.Option.{option_and_then, option_map, option_map_or}
use Rattle.std.specs.List.{fold, list_any}
use Rattle.std.specs.Prelude.{cond, map, nat_le, not, suc, zero, ◌⊎◌, ◌==◌, Bool, Contains, List}
use Rattle.std.specs.Prelude.{None, Option, Some, [], false, if◌then◌else◌, refl, true, ℕ, ◌∷◌, ◌≡◌}
use Rattle.cast_ready.specs.Ready.{is_outside}
use Rattle.cast_rules.specs.History.{history}
use Rattle.cast_rules.specs.Owing.{at_moment, next_due, noting_owed, paying}
use Rattle.cast_rules.specs.Rules.Asking.{ask_home, request}
use Rattle.cast_rules.specs.Rules.Keys.{ask_key, id_in}
use Rattle.cast_rules.specs.Rules.Leaving.{Attempt, close_session, end_session, leave_all}
use Rattle.cast_rules.specs.Rules.Leaving.{leave_at, leave_each, leave_group, tell, tell_open}
use Rattle.cast_rules.specs.Rules.Owing.{ask_frame, frame_for, frame_of_kind, install_frame, owe, resend, send_for, tick}
use Rattle.cast_rules.specs.State.{State, closing, emit, going, is_filled, is_group, local}
use Rattle.cast_rules.specs.State.{message_of, outside, pushing, set_group, set_session, with_push}
use Rattle.cast_message.specs.declared.client.Push.{Push}
use Rattle.cast_message.specs.declared.message.Message.{Message}
use Rattle.cast_message.specs.declared.site.Change.{Change}
use Rattle.cast_message.specs.declared.site.SiteFrame.{SiteFrame}
use Rattle.cast_events.specs.Session.{Session, tell_end, is_gone, is_open, no_session, pushed_to}
use Rattle.cast_timer.proofs.Owing.{same_key, tied_frame}
use Rattle.cast_timer.specs.Owed.{due_at, due_frames, is_owed, key_eq, owed_cmp, paid, renew}
use Rattle.cast_timer.specs.declared.key.Owed.{Owed}
use Rattle.cast_timer.specs.declared.key.OwedKey.{OwedKey}
use Rattle.cast_timer.specs.declared.key.OwedKind.{OwedKind}
use Rattle.cast_types.specs.Names.{uid_eq}
use Rattle.cast_types.specs.declared.limits.TheConstants.{MAX_NUMBER}
use Rattle.cast_types.specs.declared.names.GroupNo.{GroupNo}
use Rattle.cast_types.specs.declared.names.Proc.{Proc}
use Rattle.cast_types.specs.declared.names.SiteNo.{SiteNo}
use Rattle.cast_types.specs.declared.refusal.Refusal.{Refusal}
use Rattle.cast_types.specs.declared.refusal.Refusal.TheVariants.{NotMember, Slow}
use Rattle.cast_view.specs.Home.{is_empty}
use Rattle.cast_view.specs.MemberSide.{first_asking, with_request}
use Rattle.cast_view.specs.declared.member.PendingRequest.{PendingRequest}
use Rattle.cast_view.specs.declared.phase.Phase.{Phase}
use Rattle.cast_view.specs.declared.phase.Phase.TheVariants.{Gathering, Idle, Installing}
use Rattle.cast_world.proofs.Allowed.{contains_kept}
use Rattle.cast_world.proofs.Homes.{item_here, item_more}
use Rattle.cast_world.proofs.Keeps.{found_is, keeps_fold, keeps_if}
use Rattle.cast_world.proofs.Kept.{AcksFreely, Adds, Draws, IsAwaited, IsDue, IsInside, IsOwed, KeptByOwing, Lacks}
use Rattle.cast_world.proofs.Kept.{FullyKeptByTelling, Owes, OwedTrue, OwesOf, Says, Wants}
use Rattle.cast_world.proofs.Kept.{owing_of}
use Rattle.cast_message.specs.declared.site.Change.TheVariants as change
use Rattle.cast_message.specs.declared.site.SiteFrame.TheVariants as frame
use Rattle.cast_timer.specs.declared.key.OwedKind.TheVariants as kinds
use Rattle.cast_message.specs.declared.client.Push.TheVariants as push

-- what a call that may be refused leaves
abbrev pub outcome : Attempt State → State
outcome a = a.0

abbrev pub OnSome : {A : Type 0} → (A → Type 0) → Option A → Type 0
OnSome P None = Unit {0}
OnSome P (Some x) = P x

-- The frame of a key says what is so

module _ (Came : SiteNo → SiteFrame → Type 0) (I : State → Type 0) where
  abbrev Tells : State → SiteNo → SiteFrame → Type 0
  Tells s to f = Says s to f × Adds s f × Draws Came I s f

  asks : (s : State) (to : SiteNo) (g : GroupNo) → is_group s g ≡ true → (a : List PendingRequest) → (s.group g).requests ≡ a →
      OnSome (Tells s to) (option_map (ask_frame g) (first_asking a))
  asks s to g known [] e = tt
  asks s to g known (a ∷ rest) e =
      let first : Contains (s.group g).requests a = subst (λ as_listed. Contains as_listed a) (sym e) (0, omega arith, refl) in
      ((a, first, refl), tt, (a, known, first, refl, refl))

  installs_it : (s : State) (to : SiteNo) (g : GroupNo) → is_group s g ≡ true → (p : Phase) → (s.home g).phase ≡ p →
      OnSome (Tells s to) (install_frame g (s.home g) to p)
  installs_it s to g known Idle e = tt
  installs_it s to g known (Gathering awaited reports bodies) e = tt
  installs_it s to g known (Installing waiting d bodies) e =
      ((waiting, d, bodies, e, refl, refl, refl, refl), (waiting, d, bodies, e, refl), known)

  data_says : (s : State) (to : SiteNo) (o : Option Message) → ((m : Message) → o ≡ Some m → Contains s.kept m) →
      OnSome (Tells s to) (option_map frame.Data o)
  data_says s to None has = tt
  data_says s to (Some m) has = (has m refl, tt, tt)

  kind_says : (s : State) (key : OwedKey) (kind : OwedKind) → key.kind ≡ kind → is_group s key.group ≡ true → IsDue s key →
      OwesOf s key kind → OnSome (Tells s key.site) (frame_of_kind history s key.group key kind)
  kind_says s key kinds.Ask is known due owes = asks s key.site key.group known (s.group key.group).requests refl
  kind_says s key kinds.Data is known due owes = data_says s key.site (message_of s (id_in (s.group key.group).number key))
      (λ m e. (found_is (λ x. uid_eq x.id (id_in (s.group key.group).number key)) s.kept m e).1)
  kind_says s key kinds.Prepare is known due owes = (tt, tt, (key, is, refl, known, refl, due))
  kind_says s key kinds.Want is known due owes = (tt, tt, (key, is, known, refl, due))
  kind_says s key kinds.Install is known due owes = installs_it s key.site key.group known (s.home key.group).phase refl
  kind_says s key kinds.Ack is known due owes = (tt, owes, tt)

  pub says_for : (s : State) (key : OwedKey) → Owes s key → IsDue s key → OnSome (Tells s key.site) (frame_for history s key)
  says_for s key owes due = go (is_group s key.group) refl
    where
      go : (b : Bool) → is_group s key.group ≡ b →
          OnSome (Tells s key.site) (option_and_then (λ h. frame_of_kind history s h key key.kind) (if b then Some key.group else None))
      go true known = kind_says s key key.kind refl known due owes
      go false known = tt

due_owed : (now : ℕ) (owed : List Owed) (key : OwedKey) → Contains (due_at now owed) key → (o : Owed) × Contains owed o × (o.key ≡ key)
due_owed now [] key at = absurd (omega (arith, at.1))
due_owed now (o ∷ owed) key at = go (nat_le o.due now) at (due_owed now owed key)
  where
    more : ((x : Owed) × Contains owed x × (x.key ≡ key)) → (x : Owed) × Contains (o ∷ owed) x × (x.key ≡ key)
    more r = (r.0, (suc r.1.0, omega (arith, r.1.1), r.1.2), r.2)

    go : (b : Bool) → Contains (map (λ (x : Owed). x.key) (cond b (o ∷ due_frames now owed) (due_frames now owed))) key →
        (Contains (due_at now owed) key → (x : Owed) × Contains owed x × (x.key ≡ key)) →
        (x : Owed) × Contains (o ∷ owed) x × (x.key ≡ key)
    go true (zero, lt, is) rest = (o, (0, omega arith, refl), is)
    go true (suc n, lt, is) rest = more (rest (n, omega (arith, lt), is))
    go false there rest = more (rest there)

-- sending changes nothing that an owed Ack rests on
pub owes_same : (s t : State) (key : OwedKey) (kind : OwedKind) → t.got ≡ s.got → t.group ≡ s.group → OwesOf s key kind → OwesOf t key kind
owes_same s t key kinds.Ask got group owes = tt
owes_same s t key kinds.Data got group owes = tt
owes_same s t key kinds.Prepare got group owes = tt
owes_same s t key kinds.Want got group owes = tt
owes_same s t key kinds.Install got group owes = tt
owes_same s t key kinds.Ack got group owes =
    (λ i. list_any (λ (m : Message). uid_eq m.id (id_in (group i key.group).number key)) (got i)) ∙ owes

owes_sent : (s : State) (sent other : OwedKey) → Owes s other → Owes (send_for history s sent) other
owes_sent s sent other owes = go (frame_for history s sent)
  where
    go : (o : Option SiteFrame) → Owes (option_map_or (history.send s sent.site) o s) other
    go None = owes
    go (Some f) = owes_same s (emit s sent.site f) other other.kind refl refl owes

wants_sent : (s : State) (sent other : OwedKey) → Wants s other → Wants (send_for history s sent) other
wants_sent s sent other wants = go (frame_for history s sent)
  where
    go : (o : Option SiteFrame) → Wants (option_map_or (history.send s sent.site) o s) other
    go None = wants
    go (Some f) = wants

lacks_sent : (s : State) (sent other : OwedKey) → Lacks s other → Lacks (send_for history s sent) other
lacks_sent s sent other lacks = go (frame_for history s sent)
  where
    go : (o : Option SiteFrame) → Lacks (option_map_or (history.send s sent.site) o s) other
    go None = lacks
    go (Some f) = lacks

awaited_sent : (s : State) (sent other : OwedKey) → IsAwaited s other → IsAwaited (send_for history s sent) other
awaited_sent s sent other awaited = go (frame_for history s sent)
  where
    go : (o : Option SiteFrame) → IsAwaited (option_map_or (history.send s sent.site) o s) other
    go None = awaited
    go (Some f) = awaited

-- what was owed is owed after a frame was sent
owed_sent : (s : State) (sent other : OwedKey) → IsOwed s other → IsOwed (send_for history s sent) other
owed_sent s sent other owed = go (frame_for history s sent)
  where
    go : (o : Option SiteFrame) → IsOwed (option_map_or (history.send s sent.site) o s) other
    go None = owed
    go (Some f) = owed

-- and after one was sent again
owed_renewed : (s : State) (key other : OwedKey) (due : ℕ) → IsOwed s other → IsOwed (record s { owed = renew s.owed key due }) other
owed_renewed s key other due (o, at, is) = elim (cases_Bool (key_eq key o.key)) [
  | inl same ↦ (
    record { due = due; key = key },
    item_here owed_cmp tied_frame (record { due = due; key = key }) (paid (key_eq key) s.owed),
    same_key key o.key same ∙ is,
  )
  | inr apart ↦ (
    o,
    item_more owed_cmp (record { due = due; key = key }) (paid (key_eq key) s.owed)
        o (contains_kept (λ (x : Owed). not (key_eq key x.key)) s.owed o at (ap not apart)),
    is,
  )
]

module _ (I : State → Type 0) {Came : SiteNo → SiteFrame → Type 0} (k : KeptByOwing Came I) where
  pub pay_keeps : (s : State) (key : OwedKey) → I s → I (paying s key)
  pay_keeps s key i = k.pays s (key_eq key) i

  pub send_for_keeps : (s : State) (key : OwedKey) → I s → Owes s key → IsDue s key → I (send_for history s key)
  send_for_keeps s key i owes due = go (frame_for history s key) (says_for Came I s key owes due)
    where
      go : (o : Option SiteFrame) → OnSome (Tells Came I s key.site) o → I (option_map_or (history.send s key.site) o s)
      go None says = i
      go (Some f) says = k.emits s key.site f i says.0 says.1 says.2

  pub owe_keeps : (s : State) (key : OwedKey) → I s → Owes s key → Wants s key → Lacks s key → IsAwaited s key → I (owe history s key)
  owe_keeps s key i owes wants lacks awaited = keeps_if I (is_owed s.owed key) s (noting_owed (send_for history s key) key) (λ _. i)
      (λ _. k.owes (send_for history s key) key (next_due (send_for history s key)) (send_for_keeps s key i owes (inr (wants, awaited)))
      (owes_sent s key key owes) (wants_sent s key key wants) (lacks_sent s key key lacks) (awaited_sent s key key awaited))

  resend_keeps : (s : State) (key : OwedKey) → I s → Owes s key → IsOwed s key → I (resend history s key)
  resend_keeps s key i owes owed =
      k.renews (send_for history s key) key (next_due (send_for history s key)) (send_for_keeps s key i owes (inl owed))
      (owes_sent s key key owes) (owed_sent s key key owed)

  owes_resent : (s : State) (sent other : OwedKey) → Owes s other → Owes (resend history s sent) other
  owes_resent s sent other owes =
      owes_same (send_for history s sent) (resend history s sent) other other.kind refl refl (owes_sent s sent other owes)

  owed_resent : (s : State) (sent other : OwedKey) → IsOwed s other → IsOwed (resend history s sent) other
  owed_resent s sent other owed =
      owed_renewed (send_for history s sent) sent other (next_due (send_for history s sent)) (owed_sent s sent other owed)

  -- where what is owed is so
  resend_all : (keys : List OwedKey) (s : State) → I s → ((key : OwedKey) → Contains keys key → Owes s key × IsOwed s key) →
      I (fold (resend history) s keys)
  resend_all [] s i owes = i
  resend_all (key ∷ keys) s i owes =
      let first = owes key (0, omega arith, refl) in
      resend_all keys (resend history s key) (resend_keeps s key i first.0 first.1)
      (λ other at.
      (let more = owes other (suc at.0, omega (arith, at.1), at.2) in (owes_resent s key other more.0, owed_resent s key other more.1)))

  -- and where Acks may be sent freely
  send_freely : AcksFreely I → (s : State) (key : OwedKey) → I s → IsOwed s key → I (send_for history s key)
  send_freely free s key i owed = go (is_group s key.group) refl key.kind refl
    where
      other : (o : Option SiteFrame) → OnSome (Tells Came I s key.site) o → I (option_map_or (history.send s key.site) o s)
      other None says = i
      other (Some f) says = k.emits s key.site f i says.0 says.1 says.2

      by : (kind : OwedKind) → key.kind ≡ kind → is_group s key.group ≡ true → OwesOf s key kind →
          I (option_map_or (history.send s key.site) (frame_of_kind history s key.group key kind) s)
      by kind is known owes = other (frame_of_kind history s key.group key kind) (kind_says Came I s key kind is known (inl owed) owes)

      go : (b : Bool) → is_group s key.group ≡ b → (kind : OwedKind) → key.kind ≡ kind →
          I (option_map_or (history.send s key.site)
          (option_and_then (λ h. frame_of_kind history s h key kind) (if b then Some key.group else None)) s)
      go false known kind is = i
      go true known kinds.Ask is = by kinds.Ask is known tt
      go true known kinds.Data is = by kinds.Data is known tt
      go true known kinds.Prepare is = by kinds.Prepare is known tt
      go true known kinds.Want is = by kinds.Want is known tt
      go true known kinds.Install is = by kinds.Install is known tt
      go true known kinds.Ack is = free.0 s key i owed is known

  resend_freely : AcksFreely I → (keys : List OwedKey) (s : State) → I s → ((key : OwedKey) → Contains keys key → IsOwed s key) →
      I (fold (resend history) s keys)
  resend_freely free [] s i owed = i
  resend_freely free (key ∷ keys) s i owed =
      resend_freely free keys (resend history s key)
      (free.1 (send_for history s key) key (next_due (send_for history s key)) (send_freely free s key i (owed key (0, omega arith, refl)))
      (owed_sent s key key (owed key (0, omega arith, refl))))
      (λ other at. owed_resent s key other (owed other (suc at.0, omega (arith, at.1), at.2)))

  pub tick_keeps : (s : State) (t : ℕ) → I s → OwedTrue s ⊎ AcksFreely I → I (tick history s t)
  tick_keeps s t i truly =
      let now : State = at_moment s t in
      let j : I now = k.books s now.moment s.casts i in
      elim truly [
        | inl true_of ↦ resend_all (history.due now) now j (λ key at.
            let from = due_owed now.moment s.owed key at in
            let owes = true_of from.0 from.1 in
            (subst (λ (z : OwedKey). Owes now z) from.2 (owes_same s now from.0.key from.0.key.kind refl refl owes), from))
        | inr free ↦ resend_freely free (history.due now) now j (λ key at. due_owed now.moment s.owed key at)
      ]

  -- Requests of local processes

  pub ask_home_keeps : (s : State) (g : GroupNo) → I s → I (ask_home history s g)
  ask_home_keeps s g i =
      keeps_if I (is_empty (s.group g).requests) s (owe history s (ask_key g s.config.home)) (λ _. i)
      (λ _. owe_keeps s (ask_key g s.config.home) i tt tt tt tt)

  -- where one more request is queued, the home is asked
  pub asked_keeps : (s : State) (g : GroupNo) (what : Change) (p : Proc) → I (set_group s g (with_request (s.group g) what p)) →
      I (request history s g what p)
  asked_keeps s g what p i =
      let now : State = set_group s g (with_request (s.group g) what p) in
      keeps_if I (is_empty (s.group g).requests) (ask_home history now g) now (λ _. ask_home_keeps now g i) (λ _. i)

  pub request_keeps : (s : State) (g : GroupNo) (what : Change) (p : Proc) → I s → IsInside s g p → I (request history s g what p)
  request_keeps s g what p i inside = asked_keeps s g what p (k.requests s g what p i inside)

  -- who leaves is inside when it asks to, and outside then
  pub leave_group_keeps : (s : State) (n : ℕ) (g : GroupNo) → I s → is_outside ((s.process n).standing g) ≡ false →
      I (leave_group history s n g g)
  leave_group_keeps s n g i inside =
      keeps_if I ((s.group g).asked == MAX_NUMBER) (outside s n g) (request history (outside s n g) g change.Leave (local s n))
      (λ _. k.parts s n g i)
      (λ _. asked_keeps (outside s n g) g change.Leave (local s n)
      (k.parts (set_group s g (with_request (s.group g) change.Leave (local s n))) n g
      (k.requests s g change.Leave (local s n) i (refl, inside))))

  pub leave_at_keeps : (s : State) (n : ℕ) (g : GroupNo) → I s → I (outcome (leave_at history s n g g))
  leave_at_keeps s n g i = go (is_outside ((s.process n).standing g)) refl
    where
      go : (b : Bool) → is_outside ((s.process n).standing g) ≡ b →
          I (outcome (if b then (s, Some NotMember) else (leave_group history s n g g, None)))
      go true out = i
      go false inside = leave_group_keeps s n g i inside

  pub leave_all_keeps : (s : State) (n : ℕ) → I s → I (leave_all history s n)
  leave_all_keeps s n i = keeps_fold I (leave_each history n) (λ t g j. leave_at_keeps t n g j) s.config.groups s i

-- Sessions

module _ (I : State → Type 0) {Came : SiteNo → SiteFrame → Type 0} (k : FullyKeptByTelling Came I) where
  with_push_keeps : (s : State) (n : ℕ) (v : Session) (p : Push) → I s → AgreesWith (s.acts n) p → is_open (s.session n) ≡ true →
      I (with_push s n v p)
  with_push_keeps s n v p i agrees is = k.pushes (set_session s n v) n p (k.sets_session s n v i (λ _. is)) agrees

  pub push_keeps : (s : State) (n : ℕ) (p : Push) → I s → AgreesWith (s.acts n) p → I (pushing s n p)
  push_keeps s n p i agrees =
      keeps_if I (is_open (s.session n)) (with_push s n (pushed_to (s.session n) p) p)
      s (λ is. with_push_keeps s n (pushed_to (s.session n) p) p i agrees is) (λ _. i)

  pub close_keeps : (s : State) (n : ℕ) (refusal : Refusal) → I s → I (closing s n refusal)
  close_keeps s n refusal i = keeps_if I (is_open (s.session n)) (with_push s n (tell_end refusal (s.session n)) (push.Closed refusal)) s
      (λ is. with_push_keeps s n (tell_end refusal (s.session n)) (push.Closed refusal) i tt is) (λ _. i)

  pub close_session_keeps : (s : State) (n : ℕ) (refusal : Refusal) → I s → I (close_session history s n refusal)
  close_session_keeps s n refusal i =
      let why : Refusal = if is_filled s n then Slow else refusal in
      leave_all_keeps I (owing_of I k) (closing s n why) n (close_keeps s n why i)

  pub tell_keeps : (s : State) (n : ℕ) (p : Push) → I s → AgreesWith (s.acts n) p → I (tell history s n p)
  tell_keeps s n p i agrees = keeps_if I (is_open (s.session n)) (tell_open history s n p) s
      (λ _. keeps_if I (is_filled s n) (close_session history s n Slow) (pushing s n p) (λ _. close_session_keeps s n Slow i)
      (λ _. push_keeps s n p i agrees)) (λ _. i)

  pub end_session_keeps : (s : State) (n : ℕ) → I s → I (end_session history s n)
  end_session_keeps s n i = keeps_if I (is_gone (s.session n)) s (leave_all history (going s n) n) (λ _. i)
      (λ _. leave_all_keeps I (owing_of I k) (going s n) n (k.sets_session s n no_session i (λ e. absurd (false≢true e))))
