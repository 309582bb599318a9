-- Every move of one site keeps what holds of acknowledgements and of what sites know of orders.
-- The claim is `kept_window`: `WindowNow` is kept by all moves of a site. It says how much of each
-- order every site knows, that each acknowledgement is of a message that its site has, and that
-- what is owed is true. A move under which no order grows, and by which no one who tells an order
-- delivers, keeps it (`quiet`). `sends_window` and `delivers_window` are the others, by the lemmas
-- of `WindowMoves`.
use Rattle.cast_types.proofs.Orders.{group_itself, same_uid}
use Rattle.std.proofs.Common.{ap, arith, inl, inr, subst, sym, ◌∙◌}
use Rattle.std.proofs.lemmas.Bool.{false≢true, true≢false}
use Rattle.std.proofs.lemmas.List.Elements.{Contains-append_left, Contains-push_cases}
use Rattle.std.specs.List.{list_any}
use Rattle.std.specs.Prelude.{◌&&◌, ◌+◌, ◌++◌, Bool, Contains, List, [], false, is_some}
use Rattle.std.specs.Prelude.{length, not, refl, suc, true, ◌||◌, ℕ, ◌∷◌, ◌≡◌, ◌≤◌, ◌⊎◌}
use Rattle.cast_clock.specs.Times.{view_of}
use Rattle.cast_ready.specs.Ready.{Process, is_member}
use Rattle.cast_rules.specs.Acts.{Act}
use Rattle.cast_rules.specs.Acts.Act.{Sent}
use Rattle.cast_rules.specs.Effects.{next_message}
use Rattle.cast_rules.specs.Entering.{passing, pending_install}
use Rattle.cast_rules.specs.Owing.{paying_view}
use Rattle.cast_quota.specs.declared.quotas.Quotas.{Quotas}
use Rattle.cast_rules.specs.Rules.Keys.{id_in, message_key}
use Rattle.cast_rules.specs.State.{State, emit, is_ended, is_received, noting_ack, noting_sent, noting_stable, outside, receiving}
use Rattle.cast_rules.specs.State.{releasing, releasing_ended, set_group, set_home, set_session, set_standing, with_delivery}
use Rattle.cast_rules.specs.Step.{opening_next}
use Rattle.cast_rules.specs.Turns.{is_ready_for}
use Rattle.cast_message.specs.Bodies.{kind_of}
use Rattle.cast_message.specs.Membership.{Membership}
use Rattle.cast_message.specs.declared.message.Body.{Body}
use Rattle.cast_message.specs.declared.message.Message.{Message}
use Rattle.cast_message.specs.declared.site.SiteFrame.{SiteFrame}
use Rattle.cast_timer.specs.Owed.{is_of_messages, is_of_view, key_eq, owed_cmp, paid, renew, with_owed}
use Rattle.cast_timer.specs.declared.key.Owed.{Owed}
use Rattle.cast_timer.specs.declared.key.OwedKey.{OwedKey}
use Rattle.cast_timer.specs.declared.key.OwedKind.{OwedKind}
use Rattle.cast_types.specs.Counts.{CountList}
use Rattle.cast_types.specs.Names.{group_eq, is_order, site_eq, uid_eq}
use Rattle.cast_types.specs.Sets.{set_at}
use Rattle.cast_types.specs.declared.limits.TheConstants.{MAX_UNSETTLED}
use Rattle.cast_types.specs.declared.names.GroupNo.{GroupNo}
use Rattle.cast_types.specs.declared.names.SiteNo.{SiteNo}
use Rattle.cast_types.specs.declared.names.Standing.TheVariants.{Joining, Member}
use Rattle.cast_types.specs.declared.names.Uid.{Uid}
use Rattle.cast_view.specs.Home.{apply_move}
use Rattle.cast_view.specs.MemberSide.{MemberSide, frozen_side, is_pending, with_answer, with_pending, with_request, with_view}
use Rattle.cast_world.proofs.Allowed.{passed}
use Rattle.cast_world.proofs.Homes.{among_kept, item_was}
use Rattle.cast_world.proofs.Invariants.{Later, Sites}
use Rattle.cast_world.proofs.Kept.{Adds, Comes, MaySend, Owes, OwesOf, FullyKept, FullyKeptByTelling, casts, hands, lists}
use Rattle.cast_world.proofs.Laters.{later_same, set_all, set_group_all}
use Rattle.cast_world.proofs.Moves.{later_delivered, later_group, later_home, later_join, later_part, later_passing, later_sent}
use Rattle.cast_world.proofs.Onward.{asks}
use Rattle.cast_world.proofs.Ones.{set_other}
use Rattle.cast_world.proofs.OrderMoves.{OrderNow, delivers_ordered}
use Rattle.cast_world.proofs.OrderPasses.{none_done, passes_ordered, token_stays_apart}
use Rattle.cast_world.proofs.OrderSites.{part_ordered, parts_group, parts_same, token_outside}
use Rattle.cast_world.proofs.OrderSteps.{From, TellsNoMore, begin, cast_ordered, cast_tells, delivery_tells}
use Rattle.cast_world.proofs.OrderSteps.{flush, keep, moves_up, outside_tells, own, passing_tells, sends_kept}
use Rattle.cast_world.proofs.Orders.{SiteOrdered, done_in}
use Rattle.cast_world.proofs.Steps.{Arrived, sites_at}
use Rattle.cast_world.proofs.Tokens.{cast_hands_none, tells, token_in, token_sends}
use Rattle.cast_world.proofs.WindowGrows.{widened, window_grows, window_hands}
use Rattle.cast_world.proofs.WindowMoves.{Leading, Packets, own_leading, packets_later, window_delivers, window_keep}
use Rattle.cast_world.proofs.Windows.{AckTrue, AllWindow, HasGot, Safe}
use Rattle.cast_world.specs.Network.{Network}
use Rattle.cast_message.specs.declared.site.SiteFrame.TheVariants as frame
use Rattle.cast_timer.specs.declared.key.OwedKind.TheVariants as kinds

-- What is owed

-- but for keys that pass a test, what is owed is so
abbrev pub OwedBut : (OwedKey → Bool) → State → Type 0
OwedBut skip t = (o : Owed) → Contains t.owed o → (skip o.key ≡ true) ⊎ Owes t o.key

abbrev pub no_key : OwedKey → Bool
no_key key = false

pub owes_moved : (t u : State) (key : OwedKey) (kind : OwedKind) → (u.group key.group).number ≡ (t.group key.group).number →
    ((z : Uid) → is_received t z ≡ true → is_received u z ≡ true) → OwesOf t key kind → OwesOf u key kind
owes_moved t u key kinds.Ask number has owes = tt
owes_moved t u key kinds.Data number has owes = tt
owes_moved t u key kinds.Prepare number has owes = tt
owes_moved t u key kinds.Want number has owes = tt
owes_moved t u key kinds.Install number has owes = tt
owes_moved t u key kinds.Ack number has owes =
    subst (λ n. is_received u (id_in n key) ≡ true) (sym number) (has (id_in (t.group key.group).number key) owes)

pub owed_moved : (skip : OwedKey → Bool) (t u : State) → ((o : Owed) → Contains u.owed o → Contains t.owed o) →
    ((h : GroupNo) → (u.group h).number ≡ (t.group h).number) → ((z : Uid) → is_received t z ≡ true → is_received u z ≡ true) →
    OwedBut skip t → OwedBut skip u
owed_moved skip t u less number has owed o c =
    elim (owed o (less o c)) [ inl e ↦ inl e | inr owes ↦ inr (owes_moved t u o.key o.key.kind (number o.key.group) has owes) ]

pub received_more : (got : List Message) (m : Message) (z : Uid) → list_any (λ x. uid_eq x.id z) got ≡ true →
    list_any (λ x. uid_eq x.id z) (got ++ m ∷ []) ≡ true
received_more [] m z e = absurd (false≢true e)
received_more (x ∷ got) m z e = go (uid_eq x.id z) e (received_more got m z)
  where
    go : (b : Bool) → (b || list_any (λ x. uid_eq x.id z) got) ≡ true →
        (list_any (λ x. uid_eq x.id z) got ≡ true → list_any (λ x. uid_eq x.id z) (got ++ m ∷ []) ≡ true) →
        (b || list_any (λ x. uid_eq x.id z) (got ++ m ∷ [])) ≡ true
    go true is more = refl
    go false is more = more is

pub received_got : (got : List Message) (z : Uid) → list_any (λ x. uid_eq x.id z) got ≡ true → HasGot got z
received_got [] z e = absurd (false≢true e)
received_got (x ∷ got) z e = go (uid_eq x.id z) refl e (received_got got z)
  where
    go : (b : Bool) → uid_eq x.id z ≡ b → (b || list_any (λ x. uid_eq x.id z) got) ≡ true →
        (list_any (λ x. uid_eq x.id z) got ≡ true → HasGot got z) → HasGot (x ∷ got) z
    go true same is more = (x, (0, omega arith, refl), same_uid x.id z same)
    go false other is more = let r = more is in (r.0, (suc r.1.0, omega (arith, r.1.1), r.1.2), r.2)

pub adds_true : (t : State) (f : SiteFrame) → Adds t f → AckTrue t.got f
adds_true t (frame.Data m) adds = tt
adds_true t (frame.Ack u) adds = received_got t.got u adds
adds_true t (frame.Stable u) adds = tt
adds_true t (frame.Ask g number what p) adds = tt
adds_true t (frame.Asked g number full) adds = tt
adds_true t (frame.Prepare g view) adds = tt
adds_true t (frame.Flushed g view counts tail kept) adds = tt
adds_true t (frame.Want u) adds = tt
adds_true t (frame.Forward m) adds = tt
adds_true t (frame.Install g view members request cut tail) adds = tt
adds_true t (frame.Installed g view) adds = tt
adds_true t (frame.Out g view) adds = tt

module _ (home : SiteNo) (w : Network) (a : SiteNo) where
  abbrev at : State → Sites
  at t = sites_at home w a t

  -- what holds at a moment within the step, but for what is owed by keys that pass a test
  abbrev pub WindowNow : (OwedKey → Bool) → State → Type 0
  WindowNow skip t =
      (i : OrderNow home w a t)
      × (safe : Safe)
      × AllWindow i.1 (λ g. ((at t home).home g).number) (at t) i.3 safe
      × Packets home w a t
      × OwedBut skip t

  -- where no order grows, and no one that tells one delivers
  abbrev pub keepw : (skip new : OwedKey → Bool) (t u : State) (later : Later t u) (i : WindowNow skip t) (r : From home w a t i.0 u) →
      TellsNoMore home w a t u → SiteOrdered i.0.3 i.0.4 u → ((m : Message) → Contains t.got m → Contains u.got m) →
      ((q : SiteNo) (z : Uid) → Contains u.acks (q, z) → Contains t.acks (q, z) ⊎ HasGot (at t q).got z) →
      ((to : SiteNo) (f : SiteFrame) → Contains u.frames (to, f) → Contains t.frames (to, f) ⊎ AckTrue t.got f) →
      Leading home w a u i.1 → OwedBut new u → WindowNow new u
  keepw skip new t u later i r acts here got acks frames leads owed = (
    keep home w a t u later i.0 r acts here,
    i.1,
    window_keep home w a t u later i.0 r i.1 i.2 got acks frames acts leads,
    packets_later home w a t u later i.0 r i.1 i.2 got i.3,
    owed,
  )

  pub leading : (skip : OwedKey → Bool) (t : State) (i : WindowNow skip t) → Leading home w a t i.1
  leading skip t i = own_leading home w a t i.0.1 i.0.3 i.1 i.2

  -- a group changes in what no order rests on
  abbrev pub group_keepw : (skip : OwedKey → Bool) (t : State) (g : GroupNo) (v : MemberSide) (asked : (t.group g).asked ≤ v.asked)
      (i : WindowNow skip t) (r : From home w a t i.0 (set_group t g v)) → SiteOrdered i.0.3 i.0.4 (set_group t g v) →
      v.number ≡ (t.group g).number →
      ((k : ℕ) → tells t.here v g (t.acts k) k ≡ true → is_pending v ≡ false →
      length (done_in g v.number (t.abcasts k)) ≤ i.1 g v.number + MAX_UNSETTLED) → WindowNow skip (set_group t g v)
  group_keepw skip t g v asked i r here same new =
      keepw skip skip t (set_group t g v) (later_group t g v asked) i r (λ k m c. inl c) here (λ m c. c) (λ q z c. inl c) (λ to f c. inl c)
      (set_group_all (λ h (z : MemberSide). (k : ℕ) → tells t.here z h (t.acts k) k ≡ true → is_pending z ≡ false →
      length (done_in h z.number (t.abcasts k)) ≤ i.1 h z.number + MAX_UNSETTLED) t.group g v (leading skip t i) new)
      (owed_moved skip t (set_group t g v) (λ o c. c)
      (set_group_all (λ h (z : MemberSide). z.number ≡ (t.group h).number) t.group g v (λ h. refl) same) (λ z e. e) i.4)

  -- nothing that is told of here changes
  abbrev pub quiet : (skip new : OwedKey → Bool) (t u : State) (later : Later t u) (i : WindowNow skip t) (r : From home w a t i.0 u) →
      TellsNoMore home w a t u → SiteOrdered i.0.3 i.0.4 u → u.got ≡ t.got → u.acks ≡ t.acks → u.frames ≡ t.frames →
      Leading home w a u i.1 → OwedBut new u → WindowNow new u
  quiet skip new t u later i r acts here got acks frames leads owed =
      keepw skip new t u later i r acts here (λ m c. subst (λ l. Contains l m) (sym got) c)
      (λ q z c. inl (subst (λ l. Contains l (q, z)) acks c))
      (λ to f c. inl (subst (λ l. Contains l (to, f)) frames c)) leads owed

  module _ (skip : OwedKey → Bool) where
    pub same_owed : (t u : State) → u.owed ≡ t.owed → u.group ≡ t.group → u.got ≡ t.got → OwedBut skip t → OwedBut skip u
    same_owed t u owed group got =
        owed_moved skip t u (λ o c. subst (λ l. Contains l o) owed c) (λ h. ap (λ (f : GroupNo → MemberSide). (f h).number) group)
        (λ z e. ap (list_any (λ (x : Message). uid_eq x.id z)) got ∙ e)

    abbrev pub books_window : (t : State) (quotas : Quotas) (moment count : ℕ) → WindowNow skip t →
        WindowNow skip (record t { quotas = quotas; moment = moment; casts = count })
    books_window t quotas moment count i =
        let u : State = record t { quotas = quotas; moment = moment; casts = count } in
        quiet skip skip t u (later_same t)
        i ((flush home w a t i.0).telling.books t quotas moment t.acks t.told t.owed count t.pushes (begin home w a t i.0)) (λ k m c. inl c)
        (own home w a t i.0) refl refl refl
        (leading skip t i) (same_owed t u refl refl refl i.4)

    abbrev pub window_telling : FullyKeptByTelling (Arrived home w a) (WindowNow skip)
    window_telling = record {
      emits = λ t to f i says adds draws.
          let u : State = emit t to f in
          keepw skip skip t u (later_same t) i ((flush home w a t i.0).telling.emits t to f (begin home w a t i.0) says) (λ k m c. inl c)
          (own home w a t i.0) (λ m c. c) (λ q z c. inl c)
          (λ to_it f_it c. elim (Contains-push_cases t.frames (to, f) (to_it, f_it) c) [
            | inl old ↦ inl old
            | inr same ↦ inr (subst (λ (p : SiteNo × SiteFrame). AckTrue t.got p.1) same (adds_true t f adds))
          ])
          (leading skip t i) (same_owed t u refl refl refl i.4);
      books = λ t moment count i. books_window t t.quotas moment count i;
      pushes = λ t k p i agrees.
          let u : State = record t { pushes = t.pushes ++ (k, p) ∷ [] } in
          quiet skip skip t u (later_same t) i ((flush home w a t i.0).telling.books t t.quotas t.moment t.acks t.told t.owed t.casts
          (t.pushes ++ (k, p) ∷ []) (begin home w a t i.0)) (λ n m c. inl c) (own home w a t i.0) refl refl refl
          (leading skip t i) (same_owed t u refl refl refl i.4);
      owes = λ t key due i owes wants lacks awaited.
          let u : State = record t { owed = with_owed t.owed key due } in
          quiet skip skip t u (later_same t) i ((flush home w a t i.0).telling.books t t.quotas t.moment t.acks t.told
          (with_owed t.owed key due) t.casts t.pushes (begin home w a t i.0)) (λ k m c. inl c) (own home w a t i.0) refl refl refl
          (leading skip t i)
          (λ o c. elim (item_was owed_cmp (record { due = due; key = key }) t.owed o c) [
            | inl new ↦ inr (subst (λ (z : Owed). Owes u z.key) new (owes_moved t u key key.kind refl (λ z e. e) owes))
            | inr old ↦ same_owed t (record t { owed = t.owed }) refl refl refl i.4 o old
          ]);
      renews = λ t key due i owes owed.
          let u : State = record t { owed = renew t.owed key due } in
          quiet skip skip t u (later_same t) i ((flush home w a t i.0).telling.books t t.quotas t.moment t.acks t.told
          (renew t.owed key due) t.casts t.pushes (begin home w a t i.0)) (λ k m c. inl c) (own home w a t i.0) refl refl refl
          (leading skip t i)
          (λ o c. elim (item_was owed_cmp (record { due = due; key = key }) (paid (key_eq key) t.owed) o c) [
            | inl new ↦ inr (subst (λ (z : Owed). Owes u z.key) new (owes_moved t u key key.kind refl (λ z e. e) owes))
            | inr old ↦
                elim (i.4 o (among_kept (λ (z : Owed). not (key_eq key z.key)) t.owed o old)) [
                  | inl e ↦ inl e
                  | inr is ↦ inr (owes_moved t u o.key o.key.kind refl (λ z e. e) is)
                ]
          ]);
      pays = λ t test i.
          let u : State = record t { owed = paid test t.owed } in
          quiet skip skip t u (later_same t) i ((flush home w a t i.0).telling.books t t.quotas t.moment t.acks t.told (paid test t.owed)
          t.casts t.pushes (begin home w a t i.0)) (λ k m c. inl c) (own home w a t i.0) refl refl refl
          (leading skip t i)
          (owed_moved skip t u (λ o c. among_kept (λ (z : Owed). not (test z.key)) t.owed o c) (λ h. refl) (λ z e. e) i.4);
      releases = λ t lets i.
          let u : State = releasing t lets in
          quiet skip skip t u (later_same t) i ((flush home w a t i.0).telling.releases t lets (begin home w a t i.0)) (λ k m c. inl c)
          (own home w a t i.0) refl refl refl (leading skip t i) (same_owed t u refl refl refl i.4);
      sets_session = λ t n v i same.
          let u : State = set_session t n v in
          quiet skip skip t u (later_same t) i ((flush home w a t i.0).telling.sets_session t n v (begin home w a t i.0) same)
          (λ k m c. inl c) (own home w a t i.0) refl refl refl (leading skip t i) (same_owed t u refl refl refl i.4);
      parts = λ t n g i.
          let u : State = outside t n g in
          quiet skip skip t u (later_part t n g) i ((flush home w a t i.0).telling.parts t n g (begin home w a t i.0))
          (outside_tells home w a t n g) (part_ordered i.0.3 i.0.4 t (own home w a t i.0) n g) refl refl refl
          (λ h k held quiet. leading skip t i h k (sym (ap is_some (token_outside t n g k h)) ∙ held) quiet)
          (same_owed t u refl refl refl i.4);
      requests = λ t g what p i inside.
          group_keepw skip t g (with_request (t.group g) what p) (omega arith)
          i ((flush home w a t i.0).telling.requests t g what p (begin home w a t i.0))
          (parts_group i.0.3 i.0.4 t.here t.process t.acts t.abcasts t.group t.got (own home w a t i.0) g (with_request (t.group g) what p)
          ((own home w a t i.0).frozen g) (omega arith) (λ k held. (own home w a t i.0).tokens g k held)
          (λ k waits. (own home w a t i.0).ones g k waits)) refl (leading skip t i g);
    }

  -- once nothing is owed for the view before it, all that is owed is so
  pub all_owed : (t : State) (g : GroupNo) → OwedBut (is_of_view g) t → OwedBut no_key (paying_view t g)
  all_owed t g owed o c = elim (owed o (among_kept (λ (z : Owed). not (is_of_view g z.key)) t.owed o c)) [
    | inl e ↦ absurd (false≢true (sym (ap not e) ∙ passed (λ (z : Owed). not (is_of_view g z.key)) t.owed o c))
    | inr owes ↦ inr (owes_moved t (paying_view t g) o.key o.key.kind refl (λ z e. e) owes)
  ]

  -- a passing makes only what is owed for the group's messages stale
  pub owed_passing : (t : State) (g : GroupNo) (skipped : Bool) (n : ℕ) (members : Membership) (request : ℕ) (cut : CountList) →
      OwedBut no_key t → OwedBut (is_of_view g) (passing t g skipped n members request cut)
  owed_passing t g skipped n members request cut owed o c = elim (owed o c) [
    | inl e ↦ absurd (false≢true e)
    | inr owes ↦ by o.key.kind refl owes
  ]
    where
      u : State
      u = passing t g skipped n members request cut

      by : (kind : OwedKind) → o.key.kind ≡ kind → OwesOf t o.key o.key.kind →
          (is_of_view g o.key ≡ true) ⊎ Owes (passing t g skipped n members request cut) o.key
      by kinds.Ack e owes = go (group_eq o.key.group g) refl
        where
          go : (b : Bool) → group_eq o.key.group g ≡ b →
              (is_of_view g o.key ≡ true) ⊎ Owes (passing t g skipped n members request cut) o.key
          go true same = inl (λ i. same i && is_of_messages (e i) o.key.side)
          go false other = inr (owes_moved t (passing t g skipped n members request cut) o.key o.key.kind
              (ap (λ (z : MemberSide). z.number) (set_other t.group g (with_view t.here n members (t.group g))
              o.key.group (λ same. true≢false (sym (ap (λ h. group_eq h g) (sym same) ∙ group_itself g) ∙ other)))) (λ z is. is) owes)
      by kinds.Ask e owes = inr (subst (OwesOf (passing t g skipped n members request cut) o.key) (sym e) tt)
      by kinds.Data e owes = inr (subst (OwesOf (passing t g skipped n members request cut) o.key) (sym e) tt)
      by kinds.Prepare e owes = inr (subst (OwesOf (passing t g skipped n members request cut) o.key) (sym e) tt)
      by kinds.Want e owes = inr (subst (OwesOf (passing t g skipped n members request cut) o.key) (sym e) tt)
      by kinds.Install e owes = inr (subst (OwesOf (passing t g skipped n members request cut) o.key) (sym e) tt)

  pub leads_new : (t : State) (i : WindowNow no_key t) (g : GroupNo) (skipped : Bool) (n : ℕ) (members : Membership) (request : ℕ)
      (cut : CountList) (comes : Comes (Arrived home w a) t g skipped n members request cut) →
      From home w a t i.0 (passing t g skipped n members request cut) → Leading home w a (passing t g skipped n members request cut) i.1
  leads_new t i g skipped n members request cut comes r =
      set_group_all (λ h (z : MemberSide). (k : ℕ) → tells t.here z h ((passing t g skipped n members request cut).acts k) k ≡ true →
      is_pending z ≡ false → length (done_in h z.number (t.abcasts k)) ≤ i.1 h z.number + MAX_UNSETTLED)
      t.group g (with_view t.here n members (t.group g))
      (λ h k held quiet. leading no_key t i h k (sym
      (ap is_some (token_stays_apart home w a t i.0.0 i.0.1 i.0.2 i.0.3 i.0.4 i.0.5 g skipped n members request cut comes r.1 r.2 r.3 h k))
      ∙ held) quiet)
      (λ k held waits.
      let none =
      ap length (none_done home w a t i.0.0 i.0.1 i.0.2 i.0.3 i.0.4 i.0.5 g skipped n members request cut comes r.1 r.2 r.3 k) in
      omega (arith, none))

  -- a message is sent
  module _ (t : State) (g : GroupNo) (n : ℕ) (content : Body) (i : WindowNow no_key t) where
    abbrev m : Message
    m = next_message t g n content

    abbrev u : State
    u = receiving (noting_sent t n m) m

    pub sent_owed : OwedBut no_key u
    sent_owed = owed_moved no_key t u (λ o c. c) (λ h. refl) (received_more t.got m) i.4

    pub cast_leads : is_order (kind_of content) ≡ false → Leading home w a u i.1
    cast_leads none h j held quiet =
        leading no_key t i h j (sym (ap is_some (set_all (λ l (acts : List Act). token_in t.here (t.group h) h acts l
        ≡ token_in t.here (t.group h) h (t.acts l) l) t.acts n (t.acts n ++ Sent m ∷ []) (λ l. refl)
        (token_sends t.here (t.group h) h (t.acts n) n m (cast_hands_none content none)) j)) ∙ held) quiet

    abbrev pub sends_window : is_member ((t.process n).standing g) ≡ true → MaySend t g n content → WindowNow no_key u
    sends_window member (casts none open_it) =
        keepw no_key no_key t u (later_sent t n m) i
        ((flush home w a t i.0).sends t g n content (begin home w a t i.0) member (casts none open_it))
        (cast_tells home w a t g n content i.0 none) (cast_ordered home w a t g n content i.0 none)
        (λ z c. Contains-append_left t.got (m ∷ []) z c) (λ q z c. inl c) (λ to f c. inl c) (cast_leads none) sent_owed
    sends_window member (lists held open_it is) = (
      sends_kept home w a t g n content i.0 member (lists held open_it is),
      i.1,
      window_grows home w a t g n content i.0 member held open_it is i.1 i.2 (later_sent t n m)
          ((flush home w a t i.0).sends t g n content (begin home w a t i.0) member (lists held open_it is)),
      packets_later home w a t u (later_sent t n m)
          i.0 ((flush home w a t i.0).sends t g n content (begin home w a t i.0) member (lists held open_it is))
          i.1 i.2 (λ z c. Contains-append_left t.got (m ∷ []) z c) i.3,
      sent_owed,
    )
    sends_window member (hands place to held open_it settled is named_it) = (
      sends_kept home w a t g n content i.0 member (hands place to held open_it settled is named_it),
      widened home w a t g n content i.0 member place to held open_it settled is i.1 i.2,
      window_hands home w a t g n content i.0 member place to held open_it settled is i.1 i.2 (later_sent t n m)
          ((flush home w a t i.0).sends t g n content (begin home w a t i.0) member (hands place to held open_it settled is named_it)),
      packets_later home w a t u (later_sent t n m)
          i.0 ((flush home w a t i.0).sends t g n content (begin home w a t i.0) member (hands place to held open_it settled is named_it))
          i.1 i.2 (λ z c. Contains-append_left t.got (m ∷ []) z c) i.3,
      sent_owed,
    )

  -- a message is delivered
  abbrev pub delivers_window : (t : State) (k : ℕ) (m : Message) (i : WindowNow no_key t) → Contains t.got m → is_ready_for t k m ≡ true →
      WindowNow no_key (with_delivery t k m)
  delivers_window t k m i c ready =
      let u : State = with_delivery t k m in
      let r : From home w a t i.0 u = (flush home w a t i.0).delivers t k m (begin home w a t i.0) c ready in
      let more = window_delivers home w a t k m i.0 r (later_delivered t k m) (delivery_tells home w a t k m) i.1 i.2 c ready in (
        keep home w a t u (later_delivered t k m) i.0 r (delivery_tells home w a t k m)
            (delivers_ordered home w a t i.0.0 i.0.1 i.0.2 i.0.3 i.0.4 i.0.5 k m c ready),
        more.0,
        more.1,
        packets_later home w a t u (later_delivered t k m) i.0 r i.1 i.2 (λ z c_it. c_it) i.3,
        same_owed no_key t u refl refl refl i.4,
      )

  abbrev pub kept_window : FullyKept (WindowNow no_key) (λ g. WindowNow (is_of_view g)) (λ u. WindowNow no_key) (Arrived home w a)
      (site_eq a home) true
  kept_window = record {
    telling = window_telling no_key;
    between = λ g. window_telling (is_of_view g);
    during = λ u. window_telling no_key;
    truly = inl (λ t i o c. elim (i.4 o c) [ inl e ↦ absurd (false≢true e) | inr owes ↦ owes ]);
    fixed = λ t i. (flush home w a t i.0).fixed t (begin home w a t i.0);
    opens = λ t i. quiet no_key no_key t (opening_next t) (later_same t) i ((flush home w a t i.0).opens t (begin home w a t i.0))
        (λ k m c. inl c) (own home w a t i.0) refl refl refl (leading no_key t i) (same_owed no_key t (opening_next t) refl refl refl i.4);
    answers = λ t g i.
        group_keepw no_key t g (with_answer (t.group g)) (omega arith) i ((flush home w a t i.0).answers t g (begin home w a t i.0))
        (parts_group i.0.3 i.0.4 t.here t.process t.acts t.abcasts t.group t.got (own home w a t i.0) g (with_answer (t.group g))
        ((own home w a t i.0).frozen g) (omega arith) (λ k held. (own home w a t i.0).tokens g k held)
        (λ k waits. (own home w a t i.0).ones g k waits)) refl (leading no_key t i g);
    joins = λ t n g i open_it known out.
        let u : State = set_standing t n g (Joining ((t.group g).asked + 1) (view_of (t.process n).time g)) in
        quiet no_key no_key t u (later_join t n g (view_of (t.process n).time g))
        i ((flush home w a t i.0).joins t n g (begin home w a t i.0) open_it known out) (λ k m c. inl c)
        (parts_same i.0.3 i.0.4 t.here t.process t.acts t.abcasts t.group t.got (own home w a t i.0) u.process t.acts t.got (λ k. refl)
        (λ k m c. inl c) (λ k y c. c) (λ k h. refl)
        (set_all (λ j (q : Process). (h : GroupNo) → q.standing h ≡ Member → (t.process j).standing h ≡ Member) t.process n
        (record (t.process n) {
          standing = set_at group_eq (t.process n).standing g
              (Joining ((t.group g).asked + 1) (view_of (t.process n).time g));
        }) (λ j h e. e)
        (λ h e. asks ((t.process n).standing h) (group_eq g h) ((t.group g).asked + 1) (view_of (t.process n).time g) e)) (λ m c. c))
        refl refl refl (leading no_key t i) (same_owed no_key t u refl refl refl i.4);
    sends = λ t g n content i member may room open_it asked_for. sends_window t g n content i member may;
    receives = λ t from m i came view member may new.
        let u : State = receiving t m in
        keepw no_key no_key t u (later_same t) i ((flush home w a t i.0).receives t from m (begin home w a t i.0) came view member)
        (λ k z c. inl c)
        (parts_same i.0.3 i.0.4 t.here t.process t.acts t.abcasts t.group t.got (own home w a t i.0) t.process t.acts (t.got ++ m ∷ [])
        (λ k. refl) (λ k z c. inl c) (λ k y c. c) (λ k h. refl) (λ k g e. e) (λ z c. Contains-append_left t.got (m ∷ []) z c))
        (λ z c. Contains-append_left t.got (m ∷ []) z c) (λ q z c. inl c) (λ to f c. inl c) (leading no_key t i)
        (owed_moved no_key t u (λ o c. c) (λ h. refl) (received_more t.got m) i.4);
    received = λ t u i. (window_telling no_key).pays t (key_eq (message_key kinds.Want u t.config.home)) i;
    acknowledged = λ t from z i came.
        let u : State = noting_ack t from z in
        keepw no_key no_key t u (later_same t) i ((flush home w a t i.0).telling.books t t.quotas t.moment (t.acks ++ (from, z) ∷ [])
        t.told t.owed t.casts t.pushes (begin home w a t i.0)) (λ k m c. inl c) (own home w a t i.0) (λ m c. c)
        (λ q y c. elim (Contains-push_cases t.acks (from, z) (q, y) c) [
          | inl old ↦ inl old
          | inr same ↦
              inr (subst (λ (p : SiteNo × Uid). HasGot (at t p.0).got p.1)
              same (i.3 (record { from = from; to = a; frame = frame.Ack z }) came))
        ]) (λ to f c. inl c) (leading no_key t i) (same_owed no_key t u refl refl refl i.4);
    learns = λ t from z i came.
        let u : State = noting_stable t z in
        quiet no_key no_key t u (later_same t) i
        ((flush home w a t i.0).telling.books t t.quotas t.moment t.acks (t.told ++ z ∷ []) t.owed t.casts t.pushes (begin home w a t i.0))
        (λ k m c. inl c) (own home w a t i.0) refl refl refl
        (leading no_key t i) (same_owed no_key t u refl refl refl i.4);
    delivers = delivers_window;
    freezes = λ t g i current.
        group_keepw no_key t g (frozen_side (t.group g)) (omega arith) i ((flush home w a t i.0).freezes t g (begin home w a t i.0) current)
        (parts_group i.0.3 i.0.4 t.here t.process t.acts t.abcasts t.group t.got (own home w a t i.0) g (frozen_side (t.group g))
        (λ e. refl) (omega arith) (λ k held. (own home w a t i.0).tokens g k held) (λ k waits. (own home w a t i.0).ones g k waits))
        refl (leading no_key t i g);
    pends = λ t from g p tail i came current waits known.
        let u : State = pending_install t g p tail in
        quiet no_key no_key t u (later_group t g (with_pending (t.group g) p) (omega arith))
        i ((flush home w a t i.0).pends t from g p tail (begin home w a t i.0) came current) (λ k m c. inl c)
        (parts_group i.0.3 i.0.4 t.here t.process t.acts t.abcasts t.group t.got (own home w a t i.0) g (with_pending (t.group g) p)
        (λ e. refl) (omega arith) (λ k held. (own home w a t i.0).tokens g k held) (λ k waits_it. absurd (true≢false waits_it)))
        refl refl refl
        (set_group_all (λ h (z : MemberSide). (k : ℕ) → tells t.here z h (t.acts k) k ≡ true → is_pending z ≡ false →
        length (done_in h z.number (t.abcasts k)) ≤ i.1 h z.number + MAX_UNSETTLED) t.group g (with_pending (t.group g) p)
        (leading no_key t i)
        (λ k held waits_it. absurd (true≢false waits_it)))
        (owed_moved no_key t u (λ o c. c)
        (set_group_all (λ h (z : MemberSide). z.number ≡ (t.group h).number) t.group g (with_pending (t.group g) p) (λ h. refl) refl)
        (λ z e. e) i.4);
    passes = λ t g skipped n members request cut i comes.
        let u : State = passing t g skipped n members request cut in
        let r : From home w a t i.0 u = (flush home w a t i.0).passes t g skipped n members request cut (begin home w a t i.0) comes in
        quiet no_key (is_of_view g) t u (later_passing t g skipped n members request cut)
        i r (passing_tells home w a t g skipped n members request cut)
        (passes_ordered home w a t i.0.0 i.0.1 i.0.2 i.0.3 i.0.4 i.0.5 g skipped n members request cut comes r.1 r.2 r.3) refl refl refl
        (leads_new t i g skipped n members request cut comes r) (owed_passing t g skipped n members request cut i.4);
    ends = λ t g i.
        let less : State = releasing_ended t g in
        let x : WindowNow (is_of_view g) less = (window_telling (is_of_view g)).releases t (is_ended t g) i in
        let u : State = paying_view less g in
        quiet (is_of_view g) no_key less u (later_same less) x
        ((flush home w a less x.0).telling.books less less.quotas less.moment less.acks less.told (paid (is_of_view g) less.owed)
        less.casts less.pushes (begin home w a less x.0)) (λ k m c. inl c) (own home w a less x.0) refl refl refl
        (leading (is_of_view g) less x) (all_owed less g x.4);
    homes = λ t g what i may.
        let u : State = set_home t g (apply_move what (t.home g)) in
        quiet no_key no_key t u (later_home t g (apply_move what (t.home g)) (moves_up home w a t g what may))
        i ((flush home w a t i.0).homes t g what (begin home w a t i.0) may) (λ k m c. inl c) (own home w a t i.0) refl refl refl
        (leading no_key t i) (same_owed no_key t u refl refl refl i.4);
  }
