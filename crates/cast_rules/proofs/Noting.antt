-- In each state that a history passes its acts say what each process did.
-- `acts_are_noted` says so of each state (`IsNoted`): what the acts say that a process sent was
-- received here, in that order, and what they say that it delivered is what it delivered. Each
-- move by which a process sends or delivers adds the act for it, and each other move adds none of
-- these. What the acts of two lists say, one behind the other, is what each says
-- (`delivered_append`), so one more act adds its own part alone.
use Rattle.std.proofs.Common.{◌≡◌, ℕ, Bool, true, false, List, [], ◌∷◌, ◌++◌, cond, filter, Some, None, refl, sym, ap, subst, ◌∙◌, inl, inr}
use Rattle.std.specs.Prelude.{◌==◌, ◌+◌, not, ◌&&◌, if◌then◌else◌}
use Rattle.std.specs.List.{fold, find}
use Rattle.std.proofs.lemmas.Bool.{eqb-true}
use Rattle.std.proofs.lemmas.List.{append-nil}
use Rattle.std.proofs.lemmas.List.Elements.{filter-append}
use Rattle.cast_types.specs.declared.names.GroupNo.{GroupNo}
use Rattle.cast_types.specs.declared.names.Standing.TheVariants.{Outside}
use Rattle.cast_types.specs.Names.{group_eq, proc_eq, is_atomic}
use Rattle.cast_types.specs.Sets.{set_at}
use Rattle.cast_types.specs.Counts.{CountList}
use Rattle.cast_types.proofs.Orders.{site_itself}
use Rattle.cast_clock.specs.Times.{join}
use Rattle.cast_message.specs.declared.message.Body.{Body}
use Rattle.cast_message.specs.declared.message.Body.TheVariants as body
use Rattle.cast_message.specs.declared.message.Message.{Message}
use Rattle.cast_message.specs.declared.client.Push.{Push}
use Rattle.cast_message.specs.declared.client.Push.TheVariants as push
use Rattle.cast_message.specs.Bodies.{kind_of}
use Rattle.cast_message.specs.Membership.{Membership}
use Rattle.cast_ready.specs.Ready.{Process, is_member}
use Rattle.cast_types.specs.declared.refusal.Refusal.{Refusal}
use Rattle.cast_events.specs.Session.{is_open, is_gone, pushed_to, tell_end}
use Rattle.cast_view.specs.declared.member.Pending.{Pending}
use Rattle.cast_view.specs.MemberSide.{with_view}
use Rattle.cast_rules.specs.Order.{holders}
use Rattle.cast_events.specs.declared.event.Event.{Event}
use Rattle.cast_events.specs.declared.event.Event.TheVariants as event
use Rattle.cast_rules.specs.Acts.{Act}
use Rattle.cast_rules.specs.Acts.Act.{Sent, Delivered, Entered, Left}
use Rattle.cast_rules.specs.State.{State, local, serials, receiving, noting_sent, pushing, closing, taking, setting_quota, with_push}
use Rattle.cast_rules.specs.State.{local_members, set_process, set_group, with_delivery, noting_act, outside, acts_outside, set_standing}
use Rattle.cast_rules.specs.Entering.{put_outside, is_put_out, all_parted, putting_out, enters, in_view, all_in_view, passing}
use Rattle.cast_rules.specs.Turns.{is_ready_for}
use Rattle.cast_rules.specs.Lawful.{IsTyped}
use Rattle.cast_rules.specs.History.{history}
use Rattle.cast_rules.specs.Step.{opening_next, sessions_given, act_of_event}
use Rattle.cast_rules.specs.Effects.{next_message, sending, delivering}
use Rattle.cast_rules.specs.Resting.{places_of, resting}
use Rattle.cast_rules.specs.Reports.{has_delivered_cut, missing_in}
use Rattle.cast_rules.specs.Rules.Views.{tell_out, tell_view}
use Rattle.cast_rules.specs.Rules.Flushes.{own_want_key, complete, want_own, complete_or_want, go_on}
use Rattle.cast_rules.specs.Rest.{deliver_first, set_order_by, set_order, let_go}
use Rattle.cast_rules.specs.Rules.Commands.{message_sent}
use Rattle.cast_rules.specs.Rules.Sending.{send_data}
use Rattle.cast_quota.specs.Quotas.{is_in_range}
use Rattle.cast_rules.specs.Rules.Events.{is_taken, may_open}
use Rattle.cast_rules.specs.Rules.Rest.{told_of}
use Rattle.cast_rules.specs.Raising.{opens, begins, acts, lets_go, delivers, orders, goes_on, starts, wants, decides}
use Rattle.cast_rules.specs.Noted.{sent_by, delivered_by, abcasts_by, AreWithin, IsNoted, ActsAreNoted}
use Rattle.cast_rules.proofs.Setting.{may_set_order, set_order_is}
use Rattle.cast_rules.proofs.Rules.Follows.{IsInvariant, IsInvariantOfAll}
use Rattle.cast_rules.proofs.Rules.Sending.{send_data_keeps}
use Rattle.cast_rules.proofs.Rules.Owing.{owe_keeps, tick_keeps}
use Rattle.cast_rules.proofs.Rules.Commands.{on_command_keeps}
use Rattle.cast_rules.proofs.Rules.Leaving.{told_keeps, ended_keeps}
use Rattle.cast_rules.proofs.Rules.Rest.{told_if_keeps}
use Rattle.cast_rules.proofs.Rules.Frames.{on_site_frame_keeps}
use Rattle.cast_rules.proofs.Rules.Home.{start_keeps, want_bodies_keeps, decide_keeps, suspect_keeps}

-- What acts say, one after another

sent_append : (xs ys : List Act) → sent_by (xs ++ ys) ≡ sent_by xs ++ sent_by ys
sent_append [] ys = refl
sent_append (Sent m ∷ xs) ys = ap (λ ms. m ∷ ms) (sent_append xs ys)
sent_append (Delivered m ∷ xs) ys = sent_append xs ys
sent_append (Entered g view cut ∷ xs) ys = sent_append xs ys
sent_append (Left g ∷ xs) ys = sent_append xs ys

delivered_append : (xs ys : List Act) → delivered_by (xs ++ ys) ≡ delivered_by xs ++ delivered_by ys
delivered_append [] ys = refl
delivered_append (Sent m ∷ xs) ys = delivered_append xs ys
delivered_append (Delivered m ∷ xs) ys = ap (λ us. m.id ∷ us) (delivered_append xs ys)
delivered_append (Entered g view cut ∷ xs) ys = delivered_append xs ys
delivered_append (Left g ∷ xs) ys = delivered_append xs ys

abcasts_append : (xs ys : List Act) → abcasts_by (xs ++ ys) ≡ abcasts_by xs ++ abcasts_by ys
abcasts_append [] ys = refl
abcasts_append (Sent m ∷ xs) ys = abcasts_append xs ys
abcasts_append (Delivered m ∷ xs) ys =
    elim (is_atomic (kind_of m.body)) as (λ b. (if b then m.id ∷ abcasts_by (xs ++ ys) else abcasts_by (xs ++ ys))
    ≡ (if b then m.id ∷ abcasts_by xs else abcasts_by xs) ++ abcasts_by ys) [
      | true ↦ ap (λ us. m.id ∷ us) (abcasts_append xs ys)
      | false ↦ abcasts_append xs ys
    ]
abcasts_append (Entered g view cut ∷ xs) ys = abcasts_append xs ys
abcasts_append (Left g ∷ xs) ys = abcasts_append xs ys

-- an act of another kind adds nothing
nothing_sent : (xs : List Act) (a : Act) → sent_by (a ∷ []) ≡ [] → sent_by xs ≡ sent_by (xs ++ a ∷ [])
nothing_sent xs a none = sym (append-nil (sent_by xs)) ∙ ap (λ ms. sent_by xs ++ ms) (sym none) ∙ sym (sent_append xs (a ∷ []))

nothing_delivered : (xs : List Act) (a : Act) → delivered_by (a ∷ []) ≡ [] → delivered_by xs ≡ delivered_by (xs ++ a ∷ [])
nothing_delivered xs a none =
    sym (append-nil (delivered_by xs)) ∙ ap (λ us. delivered_by xs ++ us) (sym none) ∙ sym (delivered_append xs (a ∷ []))

no_abcast : (xs : List Act) (a : Act) → abcasts_by (a ∷ []) ≡ [] → abcasts_by xs ≡ abcasts_by (xs ++ a ∷ [])
no_abcast xs a none = sym (append-nil (abcasts_by xs)) ∙ ap (λ us. abcasts_by xs ++ us) (sym none) ∙ sym (abcasts_append xs (a ∷ []))

-- Lists within lists

-- nothing is within each
nothing_within : {A : Type 0} (ys : List A) → AreWithin [] ys
nothing_within [] = refl
nothing_within (y ∷ ys) = inr (nothing_within ys)

-- each list is within itself
all_within : {A : Type 0} (xs : List A) → AreWithin xs xs
all_within [] = refl
all_within (x ∷ xs) = inl (xs, refl, all_within xs)

within_append : {A : Type 0} (xs ys us vs : List A) → AreWithin xs ys → AreWithin us vs → AreWithin (xs ++ us) (ys ++ vs)
within_append xs [] us vs none more = subst (λ zs. AreWithin (zs ++ us) vs) (sym none) more
within_append xs (y ∷ ys) us vs (inl (rest, is, within)) more =
    inl (rest ++ us, ap (λ zs. zs ++ us) is, within_append rest ys us vs within more)
within_append xs (y ∷ ys) us vs (inr within) more = inr (within_append xs ys us vs within more)

-- a list is within one that goes on
within_more : {A : Type 0} (xs ys vs : List A) → AreWithin xs ys → AreWithin xs (ys ++ vs)
within_more xs ys vs within = subst (λ zs. AreWithin zs (ys ++ vs)) (append-nil xs) (within_append xs ys [] vs within (nothing_within vs))

-- The moves of the rules

-- the messages of a process that were received
abbrev own : State → ℕ → List Message
own s k = filter (λ m. proc_eq m.id.proc (local s k)) s.got

noted_pushing : (s : State) → IsNoted s → (k : ℕ) (p : Push) → IsNoted (pushing s k p)
noted_pushing s n k p = elim (is_open (s.session k)) as (λ b. IsNoted (if b then with_push s k (pushed_to (s.session k) p) p else s)) [
  | true ↦ record { sent = n.sent; delivered = n.delivered; abcasts = n.abcasts }
  | false ↦ n
]

noted_closing : (s : State) → IsNoted s → (k : ℕ) (refusal : Refusal) → IsNoted (closing s k refusal)
noted_closing s n k refusal =
    elim (is_open (s.session k)) as (λ b. IsNoted (if b then with_push s k (tell_end refusal (s.session k)) (push.Closed refusal) else s)) [
      | true ↦ record { sent = n.sent; delivered = n.delivered; abcasts = n.abcasts }
      | false ↦ n
    ]

-- a process that has delivered what it had delivered
noted_process : (s : State) → IsNoted s → (k : ℕ) (p : Process) → p.delivered ≡ (s.process k).delivered → IsNoted (set_process s k p)
noted_process s n k p same = record {
  sent = n.sent;
  delivered = λ j. elim (k == j) as (λ b. k == j ≡ b → (if b then p else s.process j).delivered ≡ delivered_by (s.acts j)) [
    | true ↦ λ is. same ∙ ap (λ i. (s.process i).delivered) (eqb-true k j is) ∙ n.delivered j
    | false ↦ λ _. n.delivered j
  ] refl;
  abcasts = n.abcasts;
}

-- a process is outside a group, and left it where it was a member
noted_outside : (s : State) → IsNoted s → (k : ℕ) (g : GroupNo) → IsNoted (outside s k g)
noted_outside s n k g = record {
  sent = λ j. subst (λ ms. AreWithin ms (own s j)) (left_same sent_by (λ xs. nothing_sent xs (Left g) refl) j) (n.sent j);
  delivered = λ j. now.delivered j ∙ left_same delivered_by (λ xs. nothing_delivered xs (Left g) refl) j;
  abcasts = λ j. n.abcasts j ∙ left_same abcasts_by (λ xs. no_abcast xs (Left g) refl) j;
}
  where
    now : IsNoted (set_standing s k g Outside)
    now = noted_process s n k (record (s.process k) { standing = set_at group_eq (s.process k).standing g Outside }) refl

    left_same : {A : Type 0} (f : List Act → A) → ((xs : List Act) → f xs ≡ f (xs ++ Left g ∷ [])) → (j : ℕ) →
        f (s.acts j) ≡ f (acts_outside s k g j)
    left_same f same j =
        elim (is_member ((s.process k).standing g)) as (λ b. f (s.acts j) ≡ f ((if b then (noting_act s k (Left g)).acts else s.acts) j)) [
          | true ↦ elim (k == j) as (λ b. k == j ≡ b → f (s.acts j) ≡ f (if b then s.acts k ++ Left g ∷ [] else s.acts j)) [
            | true ↦ λ is. ap (λ i. f (s.acts i)) (sym (eqb-true k j is)) ∙ same (s.acts k)
            | false ↦ λ _. refl
          ] refl
          | false ↦ refl
        ]

-- a message is received: of another site, or one that the home brings, which may be under the name of a process of this site
noted_receiving : (s : State) → IsNoted s → (m : Message) → IsNoted (receiving s m)
noted_receiving s n m = record {
  sent = λ k.
      let is_own : Message → Bool = λ x. proc_eq x.id.proc (local s k) in
      subst (AreWithin (sent_by (s.acts k))) (sym (filter-append is_own s.got (m ∷ [])))
      (within_more (sent_by (s.acts k)) (own s k) (filter is_own (m ∷ [])) (n.sent k));
  delivered = n.delivered;
  abcasts = n.abcasts;
}

-- a process sends a message of its own
noted_sent : (s : State) → IsNoted s → (k : ℕ) (m : Message) → m.id.proc ≡ local s k → IsNoted (receiving (noting_sent s k m) m)
noted_sent s n k m named = record {
  sent = λ j.
      let grown : filter (λ x. proc_eq x.id.proc (local s j)) (s.got ++ m ∷ []) ≡ own s j ++ cond (k == j) (m ∷ []) [] =
      filter-append (λ x. proc_eq x.id.proc (local s j)) s.got (m ∷ [])
      ∙ ap (λ p. own s j ++ cond (proc_eq p (local s j)) (m ∷ []) []) named
      ∙ ap (λ b. own s j ++ cond (b && (k == j)) (m ∷ []) []) (site_itself s.here) in
      subst (AreWithin (sent_by (if k == j then s.acts k ++ Sent m ∷ [] else s.acts j))) (sym grown)
      (elim (k == j)
      as (λ b. k == j ≡ b → AreWithin (sent_by (if b then s.acts k ++ Sent m ∷ [] else s.acts j)) (own s j ++ cond b (m ∷ []) [])) [
        | true ↦ λ is.
            subst (λ i. AreWithin (sent_by (s.acts k ++ Sent m ∷ [])) (own s i ++ m ∷ [])) (eqb-true k j is)
            (subst (λ ms. AreWithin ms (own s k ++ m ∷ [])) (sym (sent_append (s.acts k) (Sent m ∷ [])))
            (within_append (sent_by (s.acts k)) (own s k) (m ∷ []) (m ∷ []) (n.sent k) (all_within (m ∷ []))))
        | false ↦ λ _. subst (AreWithin (sent_by (s.acts j))) (sym (append-nil (own s j))) (n.sent j)
      ] refl);
  delivered = λ j.
      elim (k == j) as (λ b. (if b then record (s.process k) { time = m.times } else s.process j).delivered
      ≡ delivered_by (if b then s.acts k ++ Sent m ∷ [] else s.acts j)) [
        | true ↦ n.delivered k ∙ nothing_delivered (s.acts k) (Sent m) refl
        | false ↦ n.delivered j
      ];
  abcasts = λ j. elim (k == j) as (λ b. k == j ≡ b → s.abcasts j ≡ abcasts_by (if b then s.acts k ++ Sent m ∷ [] else s.acts j)) [
    | true ↦ λ is. ap s.abcasts (sym (eqb-true k j is)) ∙ n.abcasts k ∙ no_abcast (s.acts k) (Sent m) refl
    | false ↦ λ _. n.abcasts j
  ] refl;
}

noted_delivery : (s : State) → IsNoted s → (k : ℕ) (m : Message) → IsNoted (with_delivery s k m)
noted_delivery s n k m = record {
  sent = λ j. elim (k == j) as (λ b. k == j ≡ b → AreWithin (sent_by (if b then s.acts k ++ Delivered m ∷ [] else s.acts j)) (own s j)) [
    | true ↦ λ is.
        subst (λ ms. AreWithin ms (own s j)) (nothing_sent (s.acts k) (Delivered m) refl)
        (subst (λ i. AreWithin (sent_by (s.acts i)) (own s j)) (sym (eqb-true k j is)) (n.sent j))
    | false ↦ λ _. n.sent j
  ] refl;
  delivered = λ j.
      elim (k == j)
      as (λ b. (if b then now else s.process j).delivered ≡ delivered_by (if b then s.acts k ++ Delivered m ∷ [] else s.acts j)) [
        | true ↦ ap (λ us. us ++ m.id ∷ []) (n.delivered k) ∙ sym (delivered_append (s.acts k) (Delivered m ∷ []))
        | false ↦ n.delivered j
      ];
  abcasts = λ j.
      elim (is_atomic (kind_of m.body)) as (λ a. is_atomic (kind_of m.body) ≡ a →
      (if a then (λ i. if k == i then s.abcasts k ++ m.id ∷ [] else s.abcasts i)
      else s.abcasts) j ≡ abcasts_by (if k == j then s.acts k ++ Delivered m ∷ [] else s.acts j)) [
        | true ↦ λ atomic.
            elim (k == j) as (λ b.
            (if b then s.abcasts k ++ m.id ∷ [] else s.abcasts j) ≡ abcasts_by (if b then s.acts k ++ Delivered m ∷ [] else s.acts j)) [
              | true ↦ ap (λ us. us ++ m.id ∷ []) (n.abcasts k)
                  ∙ ap (λ b. abcasts_by (s.acts k) ++ (if b then m.id ∷ [] else [])) (sym atomic)
                  ∙ sym (abcasts_append (s.acts k) (Delivered m ∷ []))
              | false ↦ n.abcasts j
            ]
        | false ↦
            λ other. elim (k == j) as (λ b. k == j ≡ b → s.abcasts j ≡ abcasts_by (if b then s.acts k ++ Delivered m ∷ [] else s.acts j)) [
              | true ↦ λ is.
                  ap s.abcasts (sym (eqb-true k j is))
                  ∙ n.abcasts k
                  ∙ no_abcast (s.acts k) (Delivered m) (ap (λ b. if b then m.id ∷ [] else []) other)
              | false ↦ λ _. n.abcasts j
            ] refl
      ] refl;
}
  where
    now : Process
    now = record (s.process k) { time = join (s.process k).time m.times; delivered = (s.process k).delivered ++ m.id ∷ [] }

-- processes enter a view
noted_in_view : (s : State) → IsNoted s → (g : GroupNo) (v : ℕ) (members : Membership) (request : ℕ) (cut : CountList) →
    IsNoted (all_in_view s g v members request cut)
noted_in_view s n g v members request cut = record {
  sent = λ k.
      elim (enters s g members request k)
      as (λ b. AreWithin (sent_by (if b then s.acts k ++ Entered g v cut ∷ [] else s.acts k)) (own s k)) [
        | true ↦ subst (λ ms. AreWithin ms (own s k)) (nothing_sent (s.acts k) (Entered g v cut) refl) (n.sent k)
        | false ↦ n.sent k
      ];
  delivered = λ k.
      elim (enters s g members request k) as (λ b. (if b then in_view g v (s.process k) else s.process k).delivered
      ≡ delivered_by (if b then s.acts k ++ Entered g v cut ∷ [] else s.acts k)) [
        | true ↦ n.delivered k ∙ nothing_delivered (s.acts k) (Entered g v cut) refl
        | false ↦ n.delivered k
      ];
  abcasts = λ k.
      n.abcasts k ∙ (elim (enters s g members request k)
      as (λ b. abcasts_by (s.acts k) ≡ abcasts_by (if b then s.acts k ++ Entered g v cut ∷ [] else s.acts k)) [
        | true ↦ no_abcast (s.acts k) (Entered g v cut) refl
        | false ↦ refl
      ]);
}

noted_fold : {X : Type 0} (f : State → X → State) → ((s : State) (x : X) → IsNoted s → IsNoted (f s x)) → (xs : List X) (s : State) →
    IsNoted s → IsNoted (fold f s xs)
noted_fold f h [] s n = n
noted_fold f h (x ∷ xs) s n = noted_fold f h xs (f s x) (h s x n)

-- members are put out
noted_all_parted : (s : State) → IsNoted s → (g : GroupNo) (goes : ℕ → Bool) → IsNoted (all_parted s g goes)
noted_all_parted s n g goes = record {
  sent = λ k. elim (goes k) as (λ b. AreWithin (sent_by (if b then s.acts k ++ Left g ∷ [] else s.acts k)) (own s k)) [
    | true ↦ subst (λ ms. AreWithin ms (own s k)) (nothing_sent (s.acts k) (Left g) refl) (n.sent k)
    | false ↦ n.sent k
  ];
  delivered = λ k.
      elim (goes k) as (λ b.
      (if b then put_outside g (s.process k) else s.process k).delivered ≡ delivered_by (if b then s.acts k ++ Left g ∷ [] else s.acts k)) [
        | true ↦ n.delivered k ∙ nothing_delivered (s.acts k) (Left g) refl
        | false ↦ n.delivered k
      ];
  abcasts = λ k. n.abcasts k
      ∙ (elim (goes k) as (λ b. abcasts_by (s.acts k) ≡ abcasts_by (if b then s.acts k ++ Left g ∷ [] else s.acts k)) [
        | true ↦
            no_abcast (s.acts k) (Left g) refl
        | false ↦ refl
      ]);
}

noted_passing : (s : State) → IsNoted s → (g : GroupNo) (skips : Bool) (v : ℕ) (members : Membership) (request : ℕ) (cut : CountList) →
    IsNoted (passing s g skips v members request cut)
noted_passing s n g skips v members request cut =
    let left : State = putting_out s g skips members in
    let parted : IsNoted left = noted_all_parted s n g (is_put_out s g skips members) in
    noted_in_view (set_group left g (with_view s.here v members (s.group g)))
    (record { sent = parted.sent; delivered = parted.delivered; abcasts = parted.abcasts }) g v members request cut

noted_moves : IsInvariant history IsNoted
noted_moves = record {
  send = λ s n to f. record { sent = n.sent; delivered = n.delivered; abcasts = n.abcasts };
  note_owed = λ s n key. record { sent = n.sent; delivered = n.delivered; abcasts = n.abcasts };
  note_resent = λ s n key. record { sent = n.sent; delivered = n.delivered; abcasts = n.abcasts };
  pay = λ s n key. record { sent = n.sent; delivered = n.delivered; abcasts = n.abcasts };
  pay_upto = λ s n key. record { sent = n.sent; delivered = n.delivered; abcasts = n.abcasts };
  pay_view = λ s n g. record { sent = n.sent; delivered = n.delivered; abcasts = n.abcasts };
  note_moment = λ s n t. record { sent = n.sent; delivered = n.delivered; abcasts = n.abcasts };
  note_ack = λ s n from u. record { sent = n.sent; delivered = n.delivered; abcasts = n.abcasts };
  note_stable = λ s n u. record { sent = n.sent; delivered = n.delivered; abcasts = n.abcasts };
}

all_noted : IsInvariantOfAll history IsNoted
all_noted = record {
  keeps = noted_moves;
  push = λ s n k given room p. noted_pushing s n k p;
  note_cast = λ s n. record { sent = n.sent; delivered = n.delivered; abcasts = n.abcasts };
  note_joining = λ s n k given g h at number heard. noted_process s n k _ refl;
  note_outside = λ s n k g is. noted_outside s n k g;
  sends = λ s n h k g content sent. noted_sent s n k (message_sent history s k g h content) refl;
  receive = λ s n h from m taken. noted_receiving s n m;
  brings = λ s n h m brought. noted_receiving s n m;
  freeze = λ s n g. record { sent = n.sent; delivered = n.delivered; abcasts = n.abcasts };
  pend = λ s n g p tail pended. record { sent = n.sent; delivered = n.delivered; abcasts = n.abcasts };
  note_request = λ s n g what p. record { sent = n.sent; delivered = n.delivered; abcasts = n.abcasts };
  note_answer = λ s n g. record { sent = n.sent; delivered = n.delivered; abcasts = n.abcasts };
  move_home = λ s n g move. record { sent = n.sent; delivered = n.delivered; abcasts = n.abcasts };
  enter_view = λ s n h g skips v members request cut is. noted_passing s n h skips v members request cut;
  release_ended = λ s n g. record { sent = n.sent; delivered = n.delivered; abcasts = n.abcasts };
  close = λ s n k given refusal. noted_closing s n k refusal;
}

-- Events, and what follows until the state rests

noted_acted : (s : State) (e : Event) → IsNoted s → IsTyped e → IsNoted (act_of_event s e)
noted_acted s (event.Open d) n typed = elim (may_open history sessions_given s) as (λ b. IsNoted (if b then opening_next s else s)) [
  | true ↦ record { sent = n.sent; delivered = n.delivered; abcasts = n.abcasts }
  | false ↦ n
]
noted_acted s (event.Command d k c) n typed = on_command_keeps history IsNoted all_noted s n k c
noted_acted s (event.Gone d k) n typed =
    ended_keeps history IsNoted all_noted s n k (record { sent = n.sent; delivered = n.delivered; abcasts = n.abcasts })
noted_acted s (event.Suspect d site) n typed = suspect_keeps history IsNoted all_noted s n site
noted_acted s (event.Frame d from f) n typed = on_site_frame_keeps history IsNoted all_noted s n from f typed
noted_acted s (event.Quota d name value) n typed =
    elim (is_in_range name value) as (λ b. IsNoted (if b then setting_quota s name value else s)) [
      | true ↦ record { sent = n.sent; delivered = n.delivered; abcasts = n.abcasts }
      | false ↦ n
    ]
noted_acted s (event.Take d k most) n typed =
    elim (not (is_gone (s.session k)) && is_taken most) as (λ b. IsNoted (if b then taking s k most else s)) [
      | true ↦ record { sent = n.sent; delivered = n.delivered; abcasts = n.abcasts }
      | false ↦ n
    ]
noted_acted s (event.Tick t) n typed = tick_keeps history IsNoted noted_moves s n t

noted_let_go : (s : State) → IsNoted s → IsNoted (let_go s)
noted_let_go s n = record { sent = n.sent; delivered = n.delivered; abcasts = n.abcasts }

noted_first : (s : State) (k : ℕ) → IsNoted s → IsNoted (deliver_first k s)
noted_first s k n = elim (find (is_ready_for s k) s.got) as (λ o. IsNoted (elim o [ Some m ↦ let_go (delivering s k m) | None ↦ s ])) [
  | Some m ↦
      noted_let_go (delivering s k m)
      (told_if_keeps history IsNoted all_noted (with_delivery s k m) (noted_delivery s n k m) k (told_of m.id m.body))
  | None ↦ n
]

noted_sending : (s : State) (g : GroupNo) (k : ℕ) (content : Body) → IsNoted s → IsNoted (sending s g k content)
noted_sending s g k content n =
    let m : Message = next_message s g k content in
    let taken : State = receiving (noting_sent s k m) m in
    noted_fold (send_data history m.id) (λ t to h. send_data_keeps history IsNoted noted_moves m.id t h to) (history.others taken g)
    taken (noted_sent s n k m refl)

noted_set_order_by : (s : State) (g : GroupNo) (k : ℕ) → IsNoted s → IsNoted (set_order_by s g k)
noted_set_order_by s g k n =
    let content : Body = body.Order (places_of s g k) in
    subst IsNoted (sym (set_order_is s g k))
    (elim (may_set_order s g k) as (λ b. IsNoted (if b then let_go (sending s g k content) else s)) [
      | true ↦ noted_let_go (sending s g k content) (noted_sending s g k content n)
      | false ↦ n
    ])

noted_set_order : (s : State) (g : GroupNo) → IsNoted s → IsNoted (set_order s g)
noted_set_order s g n = noted_fold (λ t k. set_order_by t g k) (λ t k m. noted_set_order_by t g k m) (holders s g) s n

-- the Install that waits is completed
noted_complete : (s : State) (g : GroupNo) (p : Pending) → IsNoted s → IsNoted (complete history s g p)
noted_complete s g p n =
    let v : ℕ = (s.group g).number + 1 in
    let entered : State = passing s g false v p.members p.request p.cut in
    let out : State = fold (tell_out history g v) entered (filter (is_put_out s g false p.members) (serials s)) in
    let told : IsNoted (fold (tell_view history g v p.members) out (local_members entered g)) =
    noted_fold (tell_view history g v p.members) (λ t k m. told_keeps history IsNoted all_noted t m k (push.View g v p.members))
    (local_members entered g) out
    (noted_fold (tell_out history g v) (λ t k m. told_keeps history IsNoted all_noted t m k (push.Ejected g v))
    (filter (is_put_out s g false p.members) (serials s)) entered
    (noted_passing s n g false v p.members p.request p.cut)) in
    record { sent = told.sent; delivered = told.delivered; abcasts = told.abcasts }

-- or what it lacks is wanted
noted_go_on : (s : State) (g : GroupNo) → IsNoted s → IsNoted (go_on history resting s g)
noted_go_on s g n = elim (s.group g).pending as (λ o. IsNoted (elim o [ Some p ↦ complete_or_want history resting s g p | None ↦ s ])) [
  | Some p ↦
      elim (has_delivered_cut s g p.cut)
      as (λ b. IsNoted (if b then let_go (complete history s g p) else fold (want_own history g) s (missing_in s g p.cut))) [
        | true ↦ noted_let_go (complete history s g p) (noted_complete s g p n)
        | false ↦
            noted_fold (want_own history g) (λ t e m. owe_keeps history IsNoted noted_moves t m (own_want_key history t g e))
            (missing_in s g p.cut) s n
      ]
  | None ↦ n
]

pub acts_are_noted : ActsAreNoted
acts_are_noted here config s opens = record { sent = λ k. refl; delivered = λ k. refl; abcasts = λ k. refl }
acts_are_noted here config s (begins t p) =
    let n = acts_are_noted here config t p in record { sent = n.sent; delivered = n.delivered; abcasts = n.abcasts }
acts_are_noted here config s (acts t e typed p) = noted_acted t e (acts_are_noted here config t p) typed
acts_are_noted here config s (lets_go t p) = noted_let_go t (acts_are_noted here config t p)
acts_are_noted here config s (delivers t k p) = noted_first t k (acts_are_noted here config t p)
acts_are_noted here config s (orders t g p) = noted_set_order t g (acts_are_noted here config t p)
acts_are_noted here config s (goes_on t g listed p) = noted_go_on t g (acts_are_noted here config t p)
acts_are_noted here config s (starts t g p) =
    start_keeps history IsNoted noted_moves all_noted.move_home t (acts_are_noted here config t p) g
acts_are_noted here config s (wants t g p) =
    want_bodies_keeps history IsNoted noted_moves all_noted.move_home t (acts_are_noted here config t p) g
acts_are_noted here config s (decides t g p) =
    decide_keeps history IsNoted noted_moves all_noted.move_home t (acts_are_noted here config t p) g
