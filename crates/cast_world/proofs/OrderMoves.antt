-- What holds of orders at a site follows from what holds of all sites, and is kept where a process delivers a message.
use Rattle.cast_types.proofs.Orders.{group_itself, proc_itself}
use Rattle.std.proofs.Common.{ap, arith, inl, inr, subst, sym, ◌∙◌}
use Rattle.std.proofs.lemmas.Bool.{and_parts, cases_lt, eq-eqb, eqb-true, false_from_ne_true, false≢true, true≢false}
use Rattle.std.proofs.lemmas.List.{append-nil, length-append, length_push}
use Rattle.std.proofs.lemmas.List.Elements.{Contains-push}
use Rattle.std.specs.Prelude.{◌&&◌, ◌+◌, ◌++◌, ◌==◌, Contains, List, Option, Some, [], false}
use Rattle.std.specs.Prelude.{if◌then◌else◌, is_some, length, refl, true, unwrap_or, ℕ, ◌∷◌, ◌≡◌, ◌≤◌}
use Rattle.cast_ready.specs.Ready.{has_delivered, is_causally_ready, is_member}
use Rattle.cast_rules.specs.Acts.Act.{Delivered, Sent}
use Rattle.cast_rules.specs.Noted.{abcasts_by}
use Rattle.cast_rules.specs.Order.{order_of, told_by, token_told}
use Rattle.cast_rules.specs.Rules.Commands.{body_handing}
use Rattle.cast_rules.specs.State.{State, gate_of, local, with_delivery}
use Rattle.cast_rules.specs.Turns.{is_ready_for, turn_of}
use Rattle.cast_message.specs.Bodies.{kind_of, new_holder}
use Rattle.cast_message.specs.declared.message.Message.{Message}
use Rattle.cast_types.specs.Names.{Entry, entry_of, is_atomic, uid_in, uid_eq}
use Rattle.cast_types.specs.Sets.{is_among}
use Rattle.cast_types.specs.declared.names.GroupNo.{GroupNo}
use Rattle.cast_types.specs.declared.names.Proc.{Proc}
use Rattle.cast_types.specs.declared.names.SiteNo.{SiteNo}
use Rattle.cast_types.specs.declared.names.Standing.TheVariants.{Member}
use Rattle.cast_types.specs.declared.names.Uid.{Uid}
use Rattle.cast_view.specs.MemberSide.{is_pending, is_process}
use Rattle.cast_world.proofs.Acts.{contains_here}
use Rattle.cast_world.proofs.Allowed.{found_among, ready_allowed, ready_new}
use Rattle.cast_world.proofs.Facts.{IsAllowed}
use Rattle.cast_world.proofs.Flush.{Choice, numbers}
use Rattle.cast_world.proofs.FlushSteps.{Flushing, own_agrees}
use Rattle.cast_world.proofs.Invariants.{Known, Sites, WasSent}
use Rattle.cast_world.proofs.Listings.{abcast_among, abcast_of, done_has, done_here, done_named, parts_of_id, uid_among}
use Rattle.cast_world.proofs.Lists.{contains_split}
use Rattle.cast_world.proofs.Moves.{member_is}
use Rattle.cast_world.proofs.OrderLaters.{each_at, one_message}
use Rattle.cast_world.proofs.OrderSites.{delivered_ordered}
use Rattle.cast_world.proofs.OrderTells.{told_place, has_place_for, has_room, is_next, is_open, knows_begin}
use Rattle.cast_world.proofs.Orders.{AllOrdered, Apart, Follows, LastHolds, OneOrdered, Orders, SiteOrdered, Stands, done_in}
use Rattle.cast_world.proofs.Prefixes.{apart_both, knows_beyond, next_begins, prefix_trans}
use Rattle.cast_world.proofs.Steps.{Now, own_holds, own_is, sites_at}
use Rattle.cast_world.proofs.Tokens.{HandOvers, HasToken, named_is, tells, token_in, token_takes}
use Rattle.cast_world.specs.Agreement.{IsPrefix, is_in}
use Rattle.cast_world.specs.Laws.{Covers}
use Rattle.cast_world.specs.Network.{Network}

module _ (home : SiteNo) (w : Network) (a : SiteNo) where
  abbrev at : State → Sites
  at t = sites_at home w a t

  abbrev number : State → GroupNo → ℕ
  number t = numbers (sites_at home w a t) home

  -- what holds at a moment within the step
  abbrev pub OrderNow : State → Type 0
  OrderNow t =
      Now home w a t
      × (choice : Choice)
      × Flushing home w a t choice
      × (order : Orders)
      × (handed : HandOvers)
      × AllOrdered choice (number t) (at t) order handed

  module _ (t : State) (now : Now home w a t) (choice : Choice) (f : Flushing home w a t choice) (order : Orders) (handed : HandOvers)
      (x : AllOrdered choice (number t) (at t) order handed) where
    pub own_ordered : SiteOrdered order handed t
    own_ordered = subst (SiteOrdered order handed) (own_is home w a t) (x.sites a)

    -- what a message that was received here tells stands in the order of its view
    pub stand_in : (g : GroupNo) (v : ℕ) (m : Message) (fact : ℕ × Entry) → Contains t.got m → is_in g v m.id ≡ true →
        Contains (told_by m.body) fact → Stands (order g v) fact
    stand_in g v m fact got is told =
        let two = parts_of_id g v m.id is in
        subst (λ (l : List Entry). Stands l fact) (λ i. order (two.0 i) (two.1 i))
        (x.told m.id.proc.site m.id.proc.serial m fact ((own_holds home w a t now).received m got).sent told)

    -- an ABCAST that a process noted it has delivered, and the message was sent
    pub abcast_had : (k : ℕ) (u : Uid) → Contains (t.abcasts k) u → (m : Message)
        × WasSent (at t) m
        × (m.id ≡ u)
        × (is_atomic (kind_of m.body) ≡ true)
        × Contains (t.acts k) (Delivered m)
        × (has_delivered (t.process k) u ≡ true)
    abcast_had k u c =
        let from = abcast_of (t.acts k) u (subst (λ us. Contains us u) (own_ordered.listed k) c) in
        let m : Message = from.0 in (
          m,
          ((own_holds home w a t now).ones k).done m from.1,
          from.2,
          from.3,
          from.1,
          subst (λ z. is_among uid_eq z (t.process k).delivered ≡ true)
              from.2 (uid_among (t.process k).delivered m.id (((own_agrees home w a t choice f).ones k).has m from.1)),
        )

    -- and an ABCAST that a process has delivered is one that it noted
    pub noted_abcast : (k : ℕ) (g : GroupNo) (v : ℕ) (e : Entry) →
        ((m : Message) × WasSent (at t) m × (m.id ≡ uid_in g v e) × (is_atomic (kind_of m.body) ≡ true)) →
        has_delivered (t.process k) (uid_in g v e) ≡ true →
        Contains (done_in g v (t.abcasts k)) e
    noted_abcast k g v e one had =
        let two = ((own_holds home w a t now).ones k).fits.listed (uid_in g v e) (found_among (uid_in g v e) (t.process k).delivered had) in
        let same : two.0 ≡ one.0 =
        one_message (at t) home now.0 two.0 one.0 (((own_holds home w a t now).ones k).done two.0 two.2) one.1 (two.1 ∙ sym one.2) in
        let atomic : is_atomic (kind_of two.0.body) ≡ true = ap (λ (m : Message). is_atomic (kind_of m.body)) same ∙ one.3 in
        let noted : Contains (t.abcasts k) (uid_in g v e) =
        subst (λ us. Contains us (uid_in g v e)) (sym (own_ordered.listed k))
        (subst (λ u. Contains (abcasts_by (t.acts k)) u) two.1 (abcast_among (t.acts k) two.0 two.2 atomic)) in
        done_has g v (t.abcasts k) (uid_in g v e) noted (λ i. group_itself g i && eq-eqb v v refl i)

    -- as is an id of an order
    pub noted_had : (k : ℕ) (g : GroupNo) (v : ℕ) (e : Entry) → Contains (order g v) e → has_delivered (t.process k) (uid_in g v e) ≡ true →
        Contains (done_in g v (t.abcasts k)) e
    noted_had k g v e c had = noted_abcast k g v e ((x.orders g v).atomic e c) had

    -- A delivery

    module _ (k : ℕ) (m : Message) (got : Contains t.got m) (ready : is_ready_for t k m ≡ true) where
      abbrev g : GroupNo
      g = m.id.group

      abbrev v : ℕ
      v = (t.group m.id.group).number

      abbrev done : List Entry
      done = done_in g v (t.abcasts k)

      not_had : Contains (t.process k).delivered m.id → ⊥
      not_had = ready_new t.config.groups (gate_of t) (turn_of t k) (t.process k) m ready tt

      is_new : Contains (t.abcasts k) m.id → ⊥
      is_new c = not_had (found_among m.id (t.process k).delivered (abcast_had k m.id c).5)

      never_did : Contains (t.acts k) (Delivered m) → ⊥
      never_did did = not_had (((own_agrees home w a t choice f).ones k).has m did)

      pub is_member_here : (t.process k).standing g ≡ Member
      is_member_here =
          member_is _ (and_parts (is_member ((t.process k).standing g))
          _ (and_parts (is_causally_ready t.config.groups (gate_of t) (t.process k) m) _ ready).0).0

      is_of_it : m.id.view ≡ v
      is_of_it =
          eqb-true m.id.view v (and_parts (m.id.view == v) _ (and_parts (is_member ((t.process k).standing g))
          _ (and_parts (is_causally_ready t.config.groups (gate_of t) (t.process k) m) _ ready).0).1).0

      claim : is_pending (t.group g) ≡ false → is_atomic (kind_of m.body) ≡ true →
          OneOrdered ((t.process k).standing g) (token_in t.here (t.group g) g (t.acts k) k) (order g v)
          g v (record { site = t.here; serial = k }) (t.abcasts k ++ m.id ∷ []) t.got
      claim waits atomic = record {
        follows = λ member other.
            let was = old.follows member other in
            let next = is_next t k m tt ready atomic other in
            let known = knows_begin (order g v) t g waits (stand_in g v) in
            let listed : (e : Entry) → Contains done e → has_delivered (t.process k) (uid_in g v e) ≡ true =
            λ e c. (abcast_had k (uid_in g v e) (done_named g v (t.abcasts k) e c)).5 in
            record {
              begins = subst (λ l. IsPrefix l (order g v)) (sym more)
                  (next_begins (λ e. has_delivered (t.process k) (uid_in g v e)) done (order_of t g) (order g v) (entry_of m.id)
                  (x.orders g v).apart was.begins known listed (λ e c. noted_had k g v e c) next);
              known = λ b c e is lt. elim (cases_lt (length b) (length done)) [
                | inl low ↦ was.known b c e is low
                | inr high ↦
                    let beyond =
                    knows_beyond (λ e. has_delivered (t.process k) (uid_in g v e)) done (order_of t g) (order g v) (entry_of m.id)
                    was.begins known listed next in
                    let longer = ap length more in
                    let one = length_push done (entry_of m.id) in
                    told_place (order g v) t g waits (stand_in g v) b c e is (omega (arith, lt, longer, one, high, beyond))
              ];
            };
        leads = λ held.
            let l = old.leads held in
            record {
              all = subst (IsPrefix (order g v)) (sym more)
                  (prefix_trans (order g v) done (done ++ entry_of m.id ∷ []) l.all (entry_of m.id ∷ [], refl));
              known = l.known;
              told = l.told;
              low = l.low;
              places =
                  (let room =
                  has_place_for (order g v) t g waits (stand_in g v) k (unwrap_or (token_in t.here (t.group g) g (t.acts k) k) 1)
                  l (own_ordered.once k) (has_room t k m tt ready atomic held (is_open t k m tt ready waits)) in
                  let longer = ap length more in
                  let one = length_push done (entry_of m.id) in
                  omega (arith, room, longer, one));
            };
      }
        where
          old : OneOrdered ((t.process k).standing g) (token_in t.here (t.group g) g (t.acts k) k) (order g v)
              g v (record { site = t.here; serial = k }) (t.abcasts k) t.got
          old = own_ordered.ones g k waits

          more : done_in g v (t.abcasts k ++ m.id ∷ []) ≡ done_in g v (t.abcasts k) ++ entry_of m.id ∷ []
          more = done_here g v (t.abcasts k) m.id (λ i. group_itself g i && eq-eqb m.id.view v is_of_it i)

      -- A hand-over to the process: it has delivered all of the order, since that was delivered by who sent the hand-over

      module _ (names : is_process (local t k) (new_holder m.body) ≡ true) where
        known : Known (at t) home m
        known = (own_holds home w a t now).received m got

        here_is : at t t.here ≡ t
        here_is = ap (at t) (own_holds home w a t now).here_is ∙ own_is home w a t

        did_here : (p : Proc) → p ≡ local t k → Contains ((at t p.site).acts p.serial) (Delivered m) → ⊥
        did_here p is did =
            never_did (subst (λ (s : State). Contains (s.acts k) (Delivered m))
            here_is (subst (λ (q : Proc). Contains ((at t q.site).acts q.serial) (Delivered m)) is did))

        is_last : handed g m.id.view ≡ Some m
        is_last = elim (x.hands m.id.proc.site m.id.proc.serial m (local t k) known.sent (named_is (local t k) (new_holder m.body) names)) [
          | inl last ↦ last
          | inr did ↦ absurd (did_here (local t k) refl did)
        ]

        abbrev Last : Type 0
        Last = LastHolds (at t) g m.id.view (order g m.id.view) m

        last : Last
        last = (x.orders g m.id.view).last m is_last

        to_is : last.to ≡ local t k
        to_is =
            ap (λ (o : Option Proc). unwrap_or o (local t k)) (sym (ap new_holder last.is) ∙ named_is (local t k) (new_holder m.body) names)

        body_is : m.body ≡ body_handing last.place (local t k)
        body_is = last.is ∙ ap (body_handing last.place) to_is

        under_way : (last.place ≡ length (order g m.id.view) + 1)
            × ((e : Entry) → Contains (order g m.id.view) e → Covers m.times (uid_in g m.id.view e))
        under_way = elim last.taken [ inl did ↦ absurd (did_here last.to to_is did) | inr way ↦ way ]

        pub in_it : is_in g v m.id ≡ true
        in_it = λ i. group_itself g i && eq-eqb m.id.view v is_of_it i

        -- it had no token
        pub had_none : tells t.here (t.group g) g (t.acts k) k ≡ false
        had_none = false_from_ne_true (tells t.here (t.group g) g (t.acts k) k) (λ held. go (own_ordered.tokens g k held))
          where
            last_here : handed m.id.group (t.group m.id.group).number ≡ Some m
            last_here = ap (handed m.id.group) (sym is_of_it) ∙ is_last

            go : HasToken (handed m.id.group (t.group m.id.group).number) (t.group m.id.group) (local t k) (t.acts k)
                (unwrap_or (token_in t.here (t.group m.id.group) m.id.group (t.acts k) k) 1) → ⊥
            go (inl none) = false≢true (ap is_some (sym none.0 ∙ last_here))
            go (inr other) =
                let same : other.0 ≡ m = ap (λ (o : Option Message). unwrap_or o m) (sym other.1 ∙ last_here) in
                never_did (subst (λ z. Contains (t.acts k) (Delivered z)) same other.3)

        token_now : token_in t.here (t.group g) g (t.acts k ++ Delivered m ∷ []) k ≡ Some last.place
        token_now =
            token_takes t.here (t.group g) g (t.acts k) k m in_it
            ∙ ap (token_told (local t k) (token_in t.here (t.group g) g (t.acts k) k)) body_is
            ∙ ap (λ b. if b then Some last.place else token_in t.here (t.group g) g (t.acts k) k) (proc_itself (local t k))

        first_now : unwrap_or (token_in t.here (t.group g) g (t.acts k ++ Delivered m ∷ []) k) 1 ≡ last.place
        first_now = ap (λ o. unwrap_or o 1) token_now

        has_token : HasToken (handed g m.id.view) (t.group g) (local t k) (t.acts k ++ Delivered m ∷ [])
            (unwrap_or (token_in t.here (t.group g) g (t.acts k ++ Delivered m ∷ []) k) 1)
        has_token = inr (m, is_last, body_is ∙ ap (λ n. body_handing n (local t k)) (sym first_now), Contains-push (t.acts k) (Delivered m))

        allowed : IsAllowed (t.process k) m
        allowed =
            let one = (own_holds home w a t now).ones k in
            ready_allowed t.config.groups (gate_of t) (turn_of t k) (t.process k) m (λ h inside. (one.given h inside).2)
            (λ h is. (one.member h is).0) ready

        -- it has delivered each ABCAST of the order
        all_had : (e : Entry) → Contains (order g m.id.view) e → has_delivered (t.process k) (uid_in g m.id.view e) ≡ true
        all_had e c =
            let z = (x.orders g m.id.view).atomic e c in
            let sent = contains_split ((at t z.0.id.proc.site).acts z.0.id.proc.serial) (Sent z.0) z.1 in
            let counted = (each_at (at t) home now.0 z.0.id.proc sent.0 sent.1 (Sent z.0) sent.2).counted in
            let one : 1 ≤ e.1 = subst (λ (u : Uid). 1 ≤ u.count) z.2 counted in
            let current = ((own_holds home w a t now).ones k).member g is_member_here in
            let number = current.0 in
            let high = allowed.view g is_member_here in
            let other : uid_in g m.id.view e ≡ m.id → ⊥ = λ same.
            true≢false (sym z.3 ∙ ap (λ (y : Message). is_atomic (kind_of y.body))
            (one_message (at t) home now.0 z.0 m z.1 known.sent (z.2 ∙ same)) ∙ ap (λ b. is_atomic (kind_of b)) body_is) in
            elim (under_way.1 e c) [
              | inl above ↦ absurd (let view = is_of_it in omega (arith, above, high, number, view))
              | inr level ↦
                  let view = is_of_it in
                  uid_among (t.process k).delivered (uid_in g m.id.view e)
                  (allowed.past (uid_in g m.id.view e) tt is_member_here level.0 (omega (arith, view, number)) level.1 one other)
            ]

        taken : is_pending (t.group g) ≡ false →
            OneOrdered ((t.process k).standing g) (token_in t.here (t.group g) g (t.acts k ++ Delivered m ∷ []) k) (order g m.id.view)
            g m.id.view (local t k) (t.abcasts k) t.got
        taken waits = record {
          follows = λ _ none. absurd (true≢false (sym (ap is_some token_now) ∙ none));
          leads = λ _. record {
            all = ([], append-nil (order g m.id.view) ∙ sym all_done);
            known = λ b c e is lt. was.known b c e is (let n = ap length all_done in omega (arith, n, lt));
            told = λ b c e is low. absurd (
                let whole = ap length is in
                let parts = length-append b (e ∷ c) in
                let place = under_way.0 in
                let first = first_now in
                omega (arith, whole, parts, place, first, low));
            low = (let place = under_way.0 in let first = first_now in omega (arith, place, first));
            places = (let n = ap length all_done in let few = (x.orders g m.id.view).few in omega (arith, n, few));
          };
        }
          where
            was : Follows (order m.id.group m.id.view) m.id.group m.id.view (t.abcasts k) t.got
            was =
                subst (λ n. Follows (order m.id.group n) m.id.group n (t.abcasts k) t.got) (sym is_of_it)
                ((own_ordered.ones m.id.group k waits).follows is_member_here had_none)

            -- nothing of the order stands beyond what it has delivered
            no_more : (rest : List Entry) → done_in m.id.group m.id.view (t.abcasts k) ++ rest ≡ order m.id.group m.id.view → rest ≡ []
            no_more [] is = refl
            no_more (e ∷ rest) is = absurd (
                let c : Contains (order m.id.group m.id.view) e =
                subst (λ l. Contains l e) is (contains_here (done_in m.id.group m.id.view (t.abcasts k)) rest e) in
                let apart = subst Apart (sym is) (x.orders m.id.group m.id.view).apart in
                apart_both (done_in m.id.group m.id.view (t.abcasts k)) (e ∷ rest)
                apart e (noted_had k m.id.group m.id.view e c (all_had e c)) (contains_here [] rest e))

            all_done : done_in m.id.group m.id.view (t.abcasts k) ≡ order m.id.group m.id.view
            all_done =
                sym (append-nil (done_in m.id.group m.id.view (t.abcasts k)))
                ∙ ap (λ l. done_in m.id.group m.id.view (t.abcasts k) ++ l) (sym (no_more was.begins.0 was.begins.1))
                ∙ was.begins.1

      pub delivers_ordered : SiteOrdered order handed (with_delivery t k m)
      delivers_ordered = delivered_ordered order handed t own_ordered k m is_new is_of_it is_member_here
          (λ waits atomic. subst (λ z. OneOrdered ((t.process k).standing g) (token_in t.here (t.group g) g (t.acts k) k) (order g z)
          g z (record { site = t.here; serial = k }) (t.abcasts k ++ m.id ∷ []) t.got) (sym is_of_it) (claim waits atomic))
          taken (λ names held. has_token names)
