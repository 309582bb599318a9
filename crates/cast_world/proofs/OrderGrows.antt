-- What holds of orders is kept where a set-order message is sent: the order of its view grows by
-- what the message tells.
-- The claim is `told_ordered`: the sites go by the order `longer`, which is the order of the view
-- with the ids of the message behind it. Only who has the token sends such a message. By then it
-- has delivered the order and those ids (`all_done`), and the message tells the places that come
-- next (`tells_it`); so the new order begins with the old one, and the order of each other view
-- stands as it was.
use Rattle.cast_types.proofs.Orders.{group_cases, group_itself, site_itself}
use Rattle.std.proofs.Common.{ap, append_assoc, arith, inl, inr, subst, sym, ◌∙◌}
use Rattle.std.proofs.lemmas.Bool.{and_parts, eq-eqb, eqb-true, false≢true, true≢false}
use Rattle.std.proofs.lemmas.List.Elements.{Contains-append_left, Contains-push, Contains-push_cases}
use Rattle.std.proofs.lemmas.List.{append-nil, length-append, take-append-drop}
use Rattle.std.specs.List.{enumerate_from}
use Rattle.std.specs.Prelude.{◌&&◌, ◌+◌, ◌++◌, ◌==◌, Bool, Contains, List, None, Option, Some, [], drop, false}
use Rattle.std.specs.Prelude.{if◌then◌else◌, is_some, length, refl, true, unwrap_or, ℕ, ◌∷◌, ◌≡◌, ◌≤◌, ◌⊎◌}
use Rattle.cast_ready.specs.Ready.{Process, has_delivered, is_member}
use Rattle.cast_rules.specs.Acts.{Act}
use Rattle.cast_rules.specs.Acts.Act.{Delivered, Sent}
use Rattle.cast_rules.specs.Effects.{next_message}
use Rattle.cast_rules.specs.Noted.{abcasts_by}
use Rattle.cast_rules.specs.Order.{holds, last_place, told_by, unlisted_ids}
use Rattle.cast_rules.specs.Resting.{places_of}
use Rattle.cast_rules.specs.Rules.Commands.{body_handing}
use Rattle.cast_rules.specs.State.{State, local, noting_sent, receiving}
use Rattle.cast_message.specs.Bodies.{kind_of, new_holder}
use Rattle.cast_message.specs.declared.message.Body.{Body}
use Rattle.cast_message.specs.declared.message.Message.{Message}
use Rattle.cast_order.specs.Order.{ids_to_list}
use Rattle.cast_types.specs.Names.{Entry, group_eq, is_atomic, uid_in, site_eq}
use Rattle.cast_types.specs.declared.limits.TheConstants.{MAX_PLACED}
use Rattle.cast_types.specs.declared.names.GroupNo.{GroupNo}
use Rattle.cast_types.specs.declared.names.Proc.{Proc}
use Rattle.cast_types.specs.declared.names.SiteNo.{SiteNo}
use Rattle.cast_types.specs.declared.names.Standing.TheVariants.{Member}
use Rattle.cast_types.specs.declared.names.Uid.{Uid}
use Rattle.cast_view.specs.MemberSide.{holder_of, is_pending, is_process}
use Rattle.cast_world.proofs.Facts.{HasDone}
use Rattle.cast_world.proofs.Flush.{Choice, GroupAgrees, numbers}
use Rattle.cast_world.proofs.FlushLaters.{Extends}
use Rattle.cast_world.proofs.FlushSteps.{Flushing, own_agrees}
use Rattle.cast_world.proofs.Invariants.{Later, Sites, WasSent}
use Rattle.cast_world.proofs.Laters.{set_all}
use Rattle.cast_world.proofs.Listings.{apart_done, done_named, no_abcast}
use Rattle.cast_world.proofs.Lists.{done_sent, sent_same}
use Rattle.cast_world.proofs.Moves.{later_sent}
use Rattle.cast_world.proofs.OrderLaters.{begun_later, named_chosen, order_later, sent_later, teller_chosen}
use Rattle.cast_world.proofs.OrderMoves.{abcast_had, own_ordered, stand_in}
use Rattle.cast_world.proofs.OrderSites.{one_grown, parts_same}
use Rattle.cast_world.proofs.OrderTells.{knows_told, still_lists}
use Rattle.cast_world.proofs.Orders.{AllOrdered, Apart, Begun, Leads, OneOrdered, OrderHolds}
use Rattle.cast_world.proofs.Orders.{Orders, SiteOrdered, Stands, done_in, token_at}
use Rattle.cast_world.proofs.Prefixes.{apart_first, place_in, stands_grown, told_at, told_stand}
use Rattle.cast_world.proofs.Steps.{Now, ahead_at, own_holds, own_is, sites_at}
use Rattle.cast_world.proofs.Tokens.{HandOvers, HasToken, tells, token_in, token_sends}
use Rattle.cast_world.specs.Agreement.{IsPrefix, is_in}
use Rattle.cast_world.specs.Network.{Network}
use Rattle.cast_message.specs.declared.message.Body.TheVariants as body

module _ (home : SiteNo) (w : Network) (a : SiteNo) where
  abbrev at : State → Sites
  at t = sites_at home w a t

  abbrev number : State → GroupNo → ℕ
  number t = numbers (sites_at home w a t) home

  module _ (t : State) (now : Now home w a t) (choice : Choice) (f : Flushing home w a t choice) (order : Orders) (handed : HandOvers)
      (x : AllOrdered choice (number t) (at t) order handed) where
    abbrev own : SiteOrdered order handed t
    own = own_ordered home w a t now choice f order handed x

    abbrev stand : (g : GroupNo) (v : ℕ) (m : Message) (fact : ℕ × Entry) → Contains t.got m → is_in g v m.id ≡ true →
        Contains (told_by m.body) fact → Stands (order g v) fact
    stand = stand_in home w a t now choice f order handed x

    abbrev noted : (k : ℕ) (z : Uid) → Contains (t.abcasts k) z → (m : Message)
        × WasSent (at t) m
        × (m.id ≡ z)
        × (is_atomic (kind_of m.body) ≡ true)
        × Contains (t.acts k) (Delivered m)
        × (has_delivered (t.process k) z ≡ true)
    noted = abcast_had home w a t now choice f order handed x

    module _ (g : GroupNo) (k : ℕ) (content : Body) (member : is_member ((t.process k).standing g) ≡ true) (held : holds t g k ≡ true)
        (open_it : (t.group g).frozen ≡ false)
        (is : content ≡ body.Order (places_of t g k)) where
      abbrev m : Message
      m = next_message t g k content

      abbrev u : State
      u = receiving (noting_sent t k m) m

      abbrev v : ℕ
      v = (t.group g).number

      abbrev ids : List Entry
      ids = ids_to_list (unlisted_ids t g k)

      abbrev beyond : List Entry
      beyond = drop MAX_PLACED (unlisted_ids t g k)

      -- the order of this view grows by them, and no other
      abbrev pub longer : Orders
      longer j z = if group_eq g j && (z == v) then order j z ++ ids else order j z

      pub grows : (j : GroupNo) (z : ℕ) → IsPrefix (order j z) (longer j z)
      grows j z = go (group_eq g j && (z == v))
        where
          go : (b : Bool) → IsPrefix (order j z) (if b then order j z ++ ids else order j z)
          go true = (ids, refl)
          go false = ([], append-nil (order j z))

      pub longer_here : longer g v ≡ order g v ++ ids
      longer_here = λ i. if group_itself g i && eq-eqb v v refl i then order g v ++ ids else order g v

      pub cases_here : (j : GroupNo) (z : ℕ) → ((g ≡ j) × (z ≡ v)) ⊎ (longer j z ≡ order j z)
      cases_here j z = go (group_eq g j && (z == v)) refl
        where
          go : (b : Bool) → (group_eq g j && (z == v)) ≡ b → ((g ≡ j) × (z ≡ v)) ⊎ ((if b then order j z ++ ids else order j z) ≡ order j z)
          go true e =
              let two = and_parts (group_eq g j) (z == v) e in inl (ap (λ n. record { 0 = n }) (eqb-true g.0 j.0 two.0), eqb-true z v two.1)
          go false e = inr refl

      pub waits : is_pending (t.group g) ≡ false
      waits = go (is_pending (t.group g)) refl
        where
          go : (b : Bool) → is_pending (t.group g) ≡ b → is_pending (t.group g) ≡ false
          go true e = absurd (true≢false (sym (own.frozen g e) ∙ open_it))
          go false e = e

      abbrev first : ℕ
      first = unwrap_or (token_in t.here (t.group g) g (t.acts k) k) 1

      pub leads : Leads (order g v) first g v (local t k) (t.abcasts k) t.got
      leads = (own.ones g k waits).leads held

      -- the message tells the places that follow
      pub tells_it : told_by content ≡ enumerate_from (length (order g v) + 1) ids
      tells_it =
          ap told_by is
          ∙ ap (λ l. enumerate_from (length l + 1) ids) (knows_told (order g v) t g waits (stand g v) k first leads (own.once k))

      pub all_done : (order g v ++ ids) ++ beyond ≡ done_in g v (t.abcasts k)
      all_done =
          append_assoc (order g v) ids beyond
          ∙ ap (λ l. order g v ++ l) (take-append-drop MAX_PLACED (unlisted_ids t g k)
          ∙ still_lists (order g v) t g waits (stand g v) k first leads (own.once k)) ∙ leads.all.1

      in_it : is_in g v m.id ≡ true
      in_it = λ i. group_itself g i && eq-eqb v v refl i

      -- the message tells a place beyond the order
      told_now : (b c new : List Entry) (e : Entry) → b ≡ order g v ++ new → ids ≡ new ++ e ∷ c →
          Contains (told_by content) (length b + 1, e)
      told_now b c new e at_it rest =
          subst (λ l. Contains l (length b + 1, e)) (sym (tells_it ∙ ap (enumerate_from (length (order g v) + 1)) rest))
          (subst (λ n. Contains (enumerate_from (length (order g v) + 1) (new ++ e ∷ c)) (n, e))
          (let whole = ap length at_it in let parts = length-append (order g v) new in omega (arith, whole, parts))
          (told_at new c e (length (order g v) + 1)))

      leads_more : Leads (order g v ++ ids) first g v (local t k) (t.abcasts k) (t.got ++ m ∷ [])
      leads_more = record {
        all = (beyond, all_done);
        known = λ b c e at_it lt. elim (place_in (order g v) ids b c e at_it) [
          | inl old ↦
              let was =
              leads.known b old.0 e old.1
              (let whole = ap length old.1 in let parts = length-append b (e ∷ old.0) in omega (arith, whole, parts)) in
              (was.0, Contains-append_left t.got (m ∷ []) was.0 was.1, was.2, was.3)
          | inr new ↦ (m, Contains-push t.got m, in_it, told_now b c new.0 e new.1 new.2)
        ];
        told = λ b c e at_it low. elim (place_in (order g v) ids b c e at_it) [
          | inl old ↦
              (let was = leads.told b old.0 e old.1 low in (was.0, Contains-append_left t.got (m ∷ []) was.0 was.1, was.2, was.3, was.4))
          | inr new ↦ (m, Contains-push t.got m, in_it, refl, told_now b c new.0 e new.1 new.2)
        ];
        low = (let was = leads.low in let parts = length-append (order g v) ids in omega (arith, was, parts));
        places = leads.places;
      }

      -- and no place past these
      last_now : last_place content ≡ length (order g v ++ ids)
      last_now =
          let told = ap length (knows_told (order g v) t g waits (stand g v) k first leads (own.once k)) in
          let last = ap last_place is in
          let parts = length-append (order g v) ids in
          omega (arith, told, last, parts)

      pub told_acts : (j : ℕ) (z : Message) → Contains (u.acts j) (Sent z) → Contains (t.acts j) (Sent z) ⊎ (m ≡ z)
      told_acts =
          set_all (λ j (l : List Act). (z : Message) → Contains l (Sent z) → Contains (t.acts j) (Sent z) ⊎ (m ≡ z))
          t.acts k (t.acts k ++ Sent m ∷ []) (λ j z c. inl c)
          (λ z c. elim (Contains-push_cases (t.acts k) (Sent m) (Sent z) c) [ inl old ↦ inl old | inr same ↦ inr (sent_same m z same) ])

      hands_none : new_holder content ≡ None
      hands_none = ap new_holder is

      -- who has a token has it still
      pub token_as : (j : ℕ) (h : GroupNo) → token_in t.here (t.group h) h (u.acts j) j ≡ token_in t.here (t.group h) h (t.acts j) j
      token_as j h =
          set_all (λ i (l : List Act). token_in t.here (t.group h) h l i ≡ token_in t.here (t.group h) h (t.acts i) i)
          t.acts k (t.acts k ++ Sent m ∷ []) (λ i. refl) (token_sends t.here (t.group h) h (t.acts k) k m hands_none) j

      base : SiteOrdered order handed u
      base = parts_same order handed t.here t.process t.acts t.abcasts t.group t.got own u.process u.acts u.got
          (set_all (λ j (l : List Act). abcasts_by (t.acts j) ≡ abcasts_by l) t.acts k (t.acts k ++ Sent m ∷ []) (λ j. refl)
          (no_abcast (t.acts k) (Sent m) refl))
          (set_all (λ j (l : List Act). (z : Message) → HasDone l z → HasDone (t.acts j) z ⊎ (z.id.view ≤ (t.group z.id.group).number))
          t.acts k (t.acts k ++ Sent m ∷ []) (λ j z c. inl c)
          (λ z c. elim (done_sent (t.acts k) m z c) [
            | inl old ↦ inl old
            | inr same ↦ inr (subst (λ (y : Message). y.id.view ≤ (t.group y.id.group).number) same (omega arith))
          ]))
          (later_sent t k m).did token_as
          (set_all (λ j (q : Process). (h : GroupNo) → q.standing h ≡ Member → (t.process j).standing h ≡ Member)
          t.process k (record (t.process k) { time = m.times }) (λ j h e. e) (λ h e. e))
          (λ z c. Contains-append_left t.got (m ∷ []) z c)

      tells_as : (j : ℕ) → tells t.here (t.group g) g (u.acts j) j ≡ true → tells t.here (t.group g) g (t.acts j) j ≡ true
      tells_as j e = sym (ap is_some (token_as j g)) ∙ e

      -- it has the token
      pub has_token : token_at choice handed g v ≡ Some (local t k)
      has_token =
          teller_chosen choice handed g (t.group g) ((own_agrees home w a t choice f).groups g) t.here k (t.acts k)
          first (own.tokens g k held)

      -- the last hand-over, where there was one, is the one by which it has it
      last_taken : (z : Message) → handed g v ≡ Some z → (to : Proc) (place : ℕ) → z.body ≡ body_handing place to →
          Contains ((at t to.site).acts to.serial) (Delivered z)
      last_taken z last to place body_is = go (own.tokens g k held)
        where
          here_is : at t t.here ≡ t
          here_is = ap (at t) (own_holds home w a t now).here_is ∙ own_is home w a t

          go : HasToken (handed g (t.group g).number) (t.group g) (local t k) (t.acts k)
              (unwrap_or (token_in t.here (t.group g) g (t.acts k) k) 1) → Contains ((at t to.site).acts to.serial) (Delivered z)
          go (inl none) = absurd (false≢true (ap is_some (sym none.0 ∙ last)))
          go (inr other) =
              let same : other.0 ≡ z = ap (λ (o : Option Message). unwrap_or o z) (sym other.1 ∙ last) in
              let to_is : local t k ≡ to =
              ap (λ (b : Body). unwrap_or (new_holder b) to) (sym other.2 ∙ ap (λ (y : Message). y.body) same ∙ body_is) in
              subst (λ (p : Proc). Contains ((at t p.site).acts p.serial) (Delivered z)) to_is
              (subst (λ (s : State). Contains (s.acts k) (Delivered z)) (sym here_is)
              (subst (λ y. Contains (t.acts k) (Delivered y)) same other.3))

      module _ (later : Later t u) (now_u : Now home w a u) (more : Choice) (fu : Flushing home w a u more)
          (ext : Extends choice (number t) more (number u)) where
        -- there is one who tells the order
        one_tells : (j : ℕ) → tells t.here (t.group g) g (t.acts j) j ≡ true → k ≡ j
        one_tells j other =
            let second =
            teller_chosen choice handed g (t.group g) ((own_agrees home w a t choice f).groups g) t.here j (t.acts j)
            (unwrap_or (token_in t.here (t.group g) g (t.acts j) j) 1) (own.tokens g j other) in
            ap (λ (o : Option Proc). (unwrap_or o (local t k)).serial) (sym has_token ∙ second)

        one_here : (j : ℕ) → OneOrdered ((u.process j).standing g) (token_in t.here (t.group g) g (u.acts j) j) (longer g v)
            g v (record { site = t.here; serial = j }) (t.abcasts j) (t.got ++ m ∷ [])
        one_here j = go (k == j) refl
          where
            go : (b : Bool) → (k == j) ≡ b → OneOrdered ((u.process j).standing g) (token_in t.here (t.group g) g (u.acts j) j) (longer g v)
                g v (record { site = t.here; serial = j }) (t.abcasts j) (t.got ++ m ∷ [])
            go true e =
                subst (λ i. OneOrdered ((u.process i).standing g) (token_in t.here (t.group g) g (u.acts i) i) (longer g v)
                g v (record { site = t.here; serial = i }) (t.abcasts i) (t.got ++ m ∷ [])) (eqb-true k j e)
                (subst (λ z. OneOrdered ((u.process k).standing g) z (longer g v) g v (local t k) (t.abcasts k) (t.got ++ m ∷ []))
                (sym (token_as k g)) record {
                  follows = λ _ other. absurd (true≢false (sym held ∙ other));
                  leads = λ _. subst (λ l. Leads l first g v (local t k) (t.abcasts k) (t.got ++ m ∷ [])) (sym longer_here) leads_more;
                })
            go false e =
                one_grown ((u.process j).standing g) (token_in t.here (t.group g) g (u.acts j) j) (order g v) (longer g v)
                g v (record { site = t.here; serial = j }) (t.abcasts j) (t.got ++ m ∷ []) (grows g v)
                (λ other. absurd (true≢false (sym (eq-eqb k j (one_tells j (tells_as j other))) ∙ e))) (base.ones g j waits)

        own_told : SiteOrdered longer handed u
        own_told = record {
          listed = base.listed;
          once = base.once;
          frozen = base.frozen;
          low = base.low;
          low_done = base.low_done;
          tokens = base.tokens;
          ones = λ h j quiet. elim (group_cases g h) [
            | inl same ↦
                subst (λ y. OneOrdered ((u.process j).standing y) (token_in t.here (t.group y) y (u.acts j) j) (longer y (t.group y).number)
                y (t.group y).number (record { site = t.here; serial = j }) (t.abcasts j) (t.got ++ m ∷ [])) same
                (one_here j)
            | inr apart ↦
                subst (λ l. OneOrdered ((u.process j).standing h) (token_in t.here (t.group h) h (u.acts j) j)
                l h (t.group h).number (record { site = t.here; serial = j }) (t.abcasts j) (t.got ++ m ∷ []))
                (elim (cases_here h (t.group h).number) [ inl two ↦ absurd (apart two.0) | inr same ↦ sym same ]) (base.ones h j quiet)
          ];
        }

        -- at other sites nobody tells it
        other_told : (s : SiteNo) (st : State) → (site_eq a s ≡ true → ⊥) → st.here ≡ s →
            ((h : GroupNo) → GroupAgrees choice h (st.group h)) → SiteOrdered order handed st → SiteOrdered longer handed st
        other_told s st apart here agrees old = record {
          listed = old.listed;
          once = old.once;
          frozen = old.frozen;
          low = old.low;
          low_done = old.low_done;
          tokens = old.tokens;
          ones = λ h j quiet.
              one_grown ((st.process j).standing h) (token_in st.here (st.group h) h (st.acts j) j) (order h (st.group h).number)
              (longer h (st.group h).number) h (st.group h).number (record { site = st.here; serial = j }) (st.abcasts j) st.got
              (grows h (st.group h).number) (λ other. elim (cases_here h (st.group h).number) [
                | inl two ↦ absurd (
                    let second =
                    teller_chosen choice handed h (st.group h) (agrees h) st.here j (st.acts j)
                    (unwrap_or (token_in st.here (st.group h) h (st.acts j) j) 1) (old.tokens h j other) in
                    let both_are : token_at choice handed g v ≡ Some (record { site = st.here; serial = j }) =
                    (λ i. token_at choice handed (two.0 i) (sym two.1 i)) ∙ second in
                    let same : t.here ≡ st.here = ap (λ (o : Option Proc). (unwrap_or o (local t k)).site) (sym has_token ∙ both_are) in
                    let same_place : a ≡ s = sym ((own_holds home w a t now).here_is) ∙ same ∙ here in
                    apart (ap (site_eq a) (sym same_place) ∙ site_itself a))
                | inr same ↦ same
              ]) (old.ones h j quiet);
        }

        named_begun : is_process (local t k) (holder_of (t.group g)) ≡ true → Begun more (number u) (at u) g v
        named_begun named = record {
          holder = local t k;
          message = m;
          decided = ((own_holds home w a u now_u).groups g).number;
          chosen = named_chosen more g (t.group g) ((own_agrees home w a u more fu).groups g) t.here k named;
          sent = ((own_holds home w a u now_u).received m (Contains-push t.got m)).sent;
          own = refl;
          in_view = in_it;
        }

        begun : HasToken (handed g v) (t.group g) (local t k) (t.acts k) first → Begun more (number u) (at u) g v
        begun (inl named) = named_begun named.1
        begun (inr other) = elim (x.orders g v).begun [
          | inl none ↦ absurd (false≢true (ap is_some (sym none.1 ∙ other.1)))
          | inr b ↦ begun_later home choice more (at t) (at u) ext (ahead_at home w a t u later) g v b
        ]

        new_order : OrderHolds more (number u) (at u) g v (order g v ++ ids) (handed g v)
        new_order = record {
          few =
              (let whole = ap length all_done in
              let parts = length-append (order g v ++ ids) beyond in
              let room = leads.places in
              omega (arith, whole, parts, room));
          apart = apart_first (order g v ++ ids) beyond (subst Apart (sym all_done) (apart_done g v (t.abcasts k) (own.once k)));
          atomic = λ e c.
              let known =
              done_named g v (t.abcasts k) e (subst (λ l. Contains l e) all_done (Contains-append_left (order g v ++ ids) beyond e c)) in
              let had = noted k (uid_in g v e) known in
              (had.0, sent_later home choice more (at t) (at u) ext (ahead_at home w a t u later) had.0 had.1, had.2, had.3);
          begun = inr (begun (own.tokens g k held));
          last = λ z last.
              let was = (x.orders g v).last z last in
              record {
                place = was.place;
                to = was.to;
                is = was.is;
                sent = sent_later home choice more (at t) (at u) ext (ahead_at home w a t u later) z was.sent;
                in_view = was.in_view;
                taken = inl
                    ((ahead_at home w a t u later was.to.site).did was.to.serial (Delivered z) (last_taken z last was.to was.place was.is));
              };
        }

        pub told_ordered : AllOrdered more (number u) (at u) longer handed
        told_ordered = record {
          sites = λ s. site s (site_eq a s) refl (x.sites s) (now.0 s).here_is (f.sites s).groups;
          told = λ s j z fact c at_it. fact_in s j z fact (site_eq a s) (x.told s j z fact) c at_it;
          placed = λ s j z c. placed_in s j z (site_eq a s) (x.placed s j z) c;
          hands = λ s j z to c names. hands_in s j z to (site_eq a s) (x.hands s j z to) c names;
          orders = λ j z. elim (cases_here j z) [
            | inl two ↦
                subst (λ y. OrderHolds more (number u) (at u) y z (longer y z) (handed y z)) two.0
                (subst (λ y. OrderHolds more (number u) (at u) g y (longer g y) (handed g y)) (sym two.1)
                (subst (λ l. OrderHolds more (number u) (at u) g v l (handed g v)) (sym longer_here) new_order))
            | inr same ↦
                subst (λ l. OrderHolds more (number u) (at u) j z l (handed j z)) (sym same)
                (order_later home choice more (at t) (at u) ext (ahead_at home w a t u later) j z (order j z) (handed j z) (x.orders j z))
          ];
        }
          where
            site : (s : SiteNo) (b : Bool) → site_eq a s ≡ b → SiteOrdered order handed (if b then t else w.at s) →
                (if b then t else w.at s).here ≡ s → ((h : GroupNo) → GroupAgrees choice h ((if b then t else w.at s).group h)) →
                SiteOrdered longer handed (if b then u else w.at s)
            site s true e old here agrees = own_told
            site s false e old here agrees = other_told s (w.at s) (λ same. true≢false (sym same ∙ e)) here agrees old

            still_placed : (z : Message) → last_place z.body ≤ length (order z.id.group z.id.view) →
                last_place z.body ≤ length (longer z.id.group z.id.view)
            still_placed z low =
                let p = grows z.id.group z.id.view in
                let whole = ap length p.1 in
                let parts = length-append (order z.id.group z.id.view) p.0 in
                omega (arith, low, whole, parts)

            placed_in : (s : SiteNo) (j : ℕ) (z : Message) (b : Bool) →
                (Contains ((if b then t else w.at s).acts j) (Sent z) → last_place z.body ≤ length (order z.id.group z.id.view)) →
                Contains ((if b then u else w.at s).acts j) (Sent z) → last_place z.body ≤ length (longer z.id.group z.id.view)
            placed_in s j z false old c = still_placed z (old c)
            placed_in s j z true old c = elim (told_acts j z c) [
              | inl was ↦ still_placed z (old was)
              | inr same ↦
                  subst (λ (y : Message). last_place y.body ≤ length (longer y.id.group y.id.view))
                  same (let last = last_now in let here = ap length longer_here in omega (arith, last, here))
            ]

            hands_in : (s : SiteNo) (j : ℕ) (z : Message) (to : Proc) (b : Bool) →
                (Contains ((if b then t else w.at s).acts j) (Sent z) → new_holder z.body ≡ Some to →
                (handed z.id.group z.id.view ≡ Some z) ⊎ Contains ((at t to.site).acts to.serial) (Delivered z)) →
                Contains ((if b then u else w.at s).acts j) (Sent z) → new_holder z.body ≡ Some to →
                (handed z.id.group z.id.view ≡ Some z) ⊎ Contains ((at u to.site).acts to.serial) (Delivered z)
            hands_in s j z to b old c names = elim (was b old c) [
              | inl last ↦ inl last
              | inr did ↦ inr ((ahead_at home w a t u later to.site).did to.serial (Delivered z) did)
            ]
              where
                was : (b : Bool) →
                    (Contains ((if b then t else w.at s).acts j) (Sent z) → new_holder z.body ≡ Some to →
                    (handed z.id.group z.id.view ≡ Some z) ⊎ Contains ((at t to.site).acts to.serial) (Delivered z)) →
                    Contains ((if b then u else w.at s).acts j) (Sent z) →
                    (handed z.id.group z.id.view ≡ Some z) ⊎ Contains ((at t to.site).acts to.serial) (Delivered z)
                was false old c = old c names
                was true old c = elim (told_acts j z c) [
                  | inl sent ↦ old sent names
                  | inr same ↦ absurd (false≢true (ap is_some (sym hands_none ∙ ap (λ (y : Message). new_holder y.body) same ∙ names)))
                ]

            fact_in : (s : SiteNo) (j : ℕ) (z : Message) (fact : ℕ × Entry) (b : Bool) →
                (Contains ((if b then t else w.at s).acts j) (Sent z) → Contains (told_by z.body) fact →
                Stands (order z.id.group z.id.view) fact) →
                Contains ((if b then u else w.at s).acts j) (Sent z) → Contains (told_by z.body) fact →
                Stands (longer z.id.group z.id.view) fact
            fact_in s j z fact false old c at_it =
                stands_grown (order z.id.group z.id.view) (longer z.id.group z.id.view) fact (grows z.id.group z.id.view) (old c at_it)
            fact_in s j z fact true old c at_it = elim (told_acts j z c) [
              | inl was ↦
                  stands_grown (order z.id.group z.id.view) (longer z.id.group z.id.view) fact (grows z.id.group z.id.view) (old was at_it)
              | inr same ↦ subst (λ (y : Message). Contains (told_by y.body) fact → Stands (longer y.id.group y.id.view) fact) same
                  (λ here. subst (λ l. Stands l fact) (sym longer_here)
                  (told_stand (order g v) ids fact (subst (λ l. Contains l fact) tells_it here))) at_it
            ]
