-- What holds of orders is kept where a hand-over is sent: who sent it has delivered nothing beyond
-- the order, and nobody has the token until the process that it names delivers it.
-- The claim is `handed_ordered`: the order stays, and the last hand-over of the view is now this
-- message (`next_handed`). Who sends it holds the token and has settled all that it delivered,
-- which is the whole order (`settles_all`, `place_is`). By sending it gives the token away, so no
-- process has it until the process that is named delivers the message; the hand-overs of other
-- views stand.
use Rattle.cast_types.proofs.Orders.{group_itself, site_itself}
use Rattle.std.proofs.Common.{ap, arith, inl, inr, subst, sym, ◌∙◌}
use Rattle.std.proofs.lemmas.Bool.{and_parts, cases_Bool, eq-eqb, eqb-true, false≢true, true≢false}
use Rattle.std.proofs.lemmas.List.Elements.{Contains-append_left, Contains-push, Contains-push_cases}
use Rattle.std.proofs.lemmas.List.{append-nil, length-append}
use Rattle.std.specs.Prelude.{◌&&◌, ◌+◌, ◌++◌, ◌==◌, Bool, Contains, List, None, Option, Some, [], false}
use Rattle.std.specs.Prelude.{if◌then◌else◌, is_some, length, refl, true, unwrap_or, ℕ, ◌∷◌, ◌≡◌, ◌≤◌, ◌⊎◌}
use Rattle.cast_ready.specs.Ready.{Process, has_delivered, is_member}
use Rattle.cast_rules.specs.Acts.{Act}
use Rattle.cast_rules.specs.Acts.Act.{Delivered, Sent}
use Rattle.cast_rules.specs.Effects.{next_message}
use Rattle.cast_rules.specs.Noted.{abcasts_by}
use Rattle.cast_rules.specs.Order.{has_place, holds, last_place, order_by, place_to_pass, settled_to, told_by, unsettled_ids}
use Rattle.cast_rules.specs.Rules.Commands.{body_handing}
use Rattle.cast_rules.specs.State.{State, local, noting_sent, receiving}
use Rattle.cast_message.specs.Bodies.{kind_of, new_holder}
use Rattle.cast_message.specs.declared.message.Body.{Body}
use Rattle.cast_message.specs.declared.message.Message.{Message}
use Rattle.cast_order.specs.Order.{place_after}
use Rattle.cast_types.specs.Names.{Entry, group_eq, is_atomic, uid_in, site_eq}
use Rattle.cast_types.specs.declared.names.GroupNo.{GroupNo}
use Rattle.cast_types.specs.declared.names.Proc.{Proc}
use Rattle.cast_types.specs.declared.names.SiteNo.{SiteNo}
use Rattle.cast_types.specs.declared.names.Standing.TheVariants.{Member}
use Rattle.cast_types.specs.declared.names.Uid.{Uid}
use Rattle.cast_view.specs.Home.{is_empty}
use Rattle.cast_view.specs.MemberSide.{is_pending}
use Rattle.cast_world.proofs.Facts.{HasDone}
use Rattle.cast_world.proofs.Flush.{Choice, GroupAgrees, numbers}
use Rattle.cast_world.proofs.FlushLaters.{Extends}
use Rattle.cast_world.proofs.FlushSteps.{Flushing, own_agrees}
use Rattle.cast_world.proofs.Invariants.{Later, Sites, WasSent}
use Rattle.cast_world.proofs.Laters.{set_all}
use Rattle.cast_world.proofs.Listings.{done_named, no_abcast, parts_of_id}
use Rattle.cast_world.proofs.Lists.{contains_split, done_sent, sent_same}
use Rattle.cast_world.proofs.Moves.{later_sent}
use Rattle.cast_world.proofs.OrderLaters.{begun_later, each_at, named_chosen, order_later, teller_chosen}
use Rattle.cast_world.proofs.OrderMoves.{abcast_had, own_ordered, stand_in}
use Rattle.cast_world.proofs.OrderSites.{one_same}
use Rattle.cast_world.proofs.OrderTells.{order_by_is}
use Rattle.cast_world.proofs.Orders.{AllOrdered, Begun, LastHolds, Leads, OneOrdered}
use Rattle.cast_world.proofs.Orders.{OrderHolds, Orders, SiteOrdered, Stands, done_in, token_at}
use Rattle.cast_world.proofs.Settles.{settled_low, settled_near}
use Rattle.cast_world.proofs.Steps.{Now, ahead_at, own_holds, own_is, sites_at}
use Rattle.cast_world.proofs.Tokens.{HandOvers, HasToken, tells, token_hands, token_in, token_kept, token_sent_apart}
use Rattle.cast_world.specs.Agreement.{is_in}
use Rattle.cast_world.specs.Laws.{Covers}
use Rattle.cast_world.specs.Network.{Network}

empty_is : {X : Type 0} (xs : List X) → is_empty xs ≡ true → xs ≡ []
empty_is [] e = refl
empty_is (x ∷ xs) e = absurd (false≢true e)

no_length : {X : Type 0} (xs : List X) → length xs ≤ 0 → xs ≡ []
no_length [] le = refl
no_length (x ∷ xs) le = absurd (omega (arith, le))

module _ (home : SiteNo) (w : Network) (a : SiteNo) where
  abbrev at : State → Sites
  at t = sites_at home w a t

  abbrev number : State → GroupNo → ℕ
  number t = numbers (sites_at home w a t) home

  module _ (t : State) (now : Now home w a t) (choice : Choice) (f : Flushing home w a t choice) (order : Orders) (handed : HandOvers)
      (x : AllOrdered choice (number t) (at t) order handed) where
    abbrev own : SiteOrdered order handed t
    own = own_ordered home w a t now choice f order handed x

    abbrev stand : (g : GroupNo) (v : ℕ) (m : Message) (fact : ℕ × Entry) → Contains t.got m → is_in g v m.id ≡ true →
        Contains (told_by m.body) fact → Stands (order g v) fact
    stand = stand_in home w a t now choice f order handed x

    abbrev noted : (k : ℕ) (z : Uid) → Contains (t.abcasts k) z → (m : Message)
        × WasSent (at t) m
        × (m.id ≡ z)
        × (is_atomic (kind_of m.body) ≡ true)
        × Contains (t.acts k) (Delivered m)
        × (has_delivered (t.process k) z ≡ true)
    noted = abcast_had home w a t now choice f order handed x

    -- what it has settled is of the order, and the rest of what it delivered is unsettled
    module _ (g : GroupNo) (k : ℕ) (held : holds t g k ≡ true) (waits : is_pending (t.group g) ≡ false) where
      abbrev first : ℕ
      first = unwrap_or (token_in t.here (t.group g) g (t.acts k) k) 1

      pub leads : Leads (order g (t.group g).number) first g (t.group g).number (local t k) (t.abcasts k) t.got
      leads = (own.ones g k waits).leads held

      placed_low : (m : Message) → Contains (t.acts k) (Sent m) → is_in g (t.group g).number m.id ≡ true →
          last_place m.body ≤ length (order g (t.group g).number)
      placed_low m c is =
          let two = parts_of_id g (t.group g).number m.id is in
          let low = x.placed a k m (subst (λ (s : State). Contains (s.acts k) (Sent m)) (sym (own_is home w a t)) c) in
          subst (λ l. last_place m.body ≤ length l) (λ i. order (two.0 i) (two.1 i)) low

      pub settled_told : settled_to t g k ≤ length (order g (t.group g).number)
      settled_told = settled_low t g k (length (order g (t.group g).number)) leads.low placed_low

      pub unsettled_rest : length (done_in g (t.group g).number (t.abcasts k)) ≤ settled_to t g k + length (unsettled_ids t g k)
      unsettled_rest =
          settled_near t g k (done_in g (t.group g).number (t.abcasts k))
          (order_by_is (order g (t.group g).number) t g waits (stand g (t.group g).number) k first leads (own.once k))
          (λ e c. (noted k (uid_in g (t.group g).number e) (done_named g (t.group g).number (t.abcasts k) e c)).5)

    module _ (g : GroupNo) (k : ℕ) (content : Body) (place : ℕ) (to : Proc) (member : is_member ((t.process k).standing g) ≡ true)
        (held : holds t g k ≡ true) (open_it : (t.group g).frozen ≡ false)
        (settled : place_to_pass t g k ≡ Some place) (is : content ≡ body_handing place to) where
      abbrev m : Message
      m = next_message t g k content

      abbrev v : ℕ
      v = (t.group g).number

      abbrev u : State
      u = receiving (noting_sent t k m) m

      pub waits_here : is_pending (t.group g) ≡ false
      waits_here = go (is_pending (t.group g)) refl
        where
          go : (b : Bool) → is_pending (t.group g) ≡ b → is_pending (t.group g) ≡ false
          go true e = absurd (true≢false (sym (own.frozen g e) ∙ open_it))
          go false e = e

      abbrev lead : Leads (order g v) (first g k held waits_here) g v (local t k) (t.abcasts k) t.got
      lead = leads g k held waits_here

      settled_all : (place ≡ length (order_by t g k) + 1) × (unsettled_ids t g k ≡ [])
      settled_all = go (is_empty (unsettled_ids t g k) && has_place (order_by t g k)) refl settled
        where
          go : (b : Bool) → (is_empty (unsettled_ids t g k) && has_place (order_by t g k)) ≡ b →
              (if b then Some (place_after (order_by t g k)) else None) ≡ Some place →
              (place ≡ length (order_by t g k) + 1) × (unsettled_ids t g k ≡ [])
          go true e some = (
            sym (ap (λ o. unwrap_or o place) some),
            empty_is (unsettled_ids t g k) (and_parts (is_empty (unsettled_ids t g k)) (has_place (order_by t g k)) e).0,
          )
          go false e some = absurd (false≢true (ap is_some some))

      -- so it has delivered the order and no more
      done_is : done_in g v (t.abcasts k) ≡ order g v
      done_is =
          let near = unsettled_rest g k held waits_here in
          let low = settled_told g k held waits_here in
          let none = ap length settled_all.1 in
          let whole = ap length lead.all.1 in
          let parts = length-append (order g v) lead.all.0 in
          let rest = no_length lead.all.0 (omega (arith, near, low, none, whole, parts)) in
          sym lead.all.1 ∙ ap (λ l. order g v ++ l) rest ∙ append-nil (order g v)

      pub settles_all : length (order g v) ≤ settled_to t g k
      settles_all =
          let near = unsettled_rest g k held waits_here in
          let none = ap length settled_all.1 in
          let same = ap length done_is in
          omega (arith, near, none, same)

      pub place_is : place ≡ length (order g v) + 1
      place_is =
          let one = settled_all.0 in
          let two =
          ap length (order_by_is (order g v) t g waits_here (stand g v) k (first g k held waits_here) lead (own.once k) ∙ done_is) in
          omega (arith, one, two)

      -- the last hand-over of this view is the message, and that of each other is as it was
      abbrev pub next_handed : HandOvers
      next_handed j z = if group_eq g j && (z == v) then Some m else handed j z

      handed_here : next_handed g v ≡ Some m
      handed_here = λ i. if group_itself g i && eq-eqb v v refl i then Some m else handed g v

      pub hand_cases : (j : GroupNo) (z : ℕ) → ((g ≡ j) × (z ≡ v)) ⊎ (next_handed j z ≡ handed j z)
      hand_cases j z = go (group_eq g j && (z == v)) refl
        where
          go : (b : Bool) → (group_eq g j && (z == v)) ≡ b → ((g ≡ j) × (z ≡ v)) ⊎ ((if b then Some m else handed j z) ≡ handed j z)
          go true e =
              let two = and_parts (group_eq g j) (z == v) e in inl (ap (λ n. record { 0 = n }) (eqb-true g.0 j.0 two.0), eqb-true z v two.1)
          go false e = inr refl

      in_it : is_in g v m.id ≡ true
      in_it = λ i. group_itself g i && eq-eqb v v refl i

      acts_here : u.acts k ≡ t.acts k ++ Sent m ∷ []
      acts_here = ap (λ b. if b then t.acts k ++ Sent m ∷ [] else t.acts k) (eq-eqb k k refl)

      pub told_acts : (j : ℕ) (z : Message) → Contains (u.acts j) (Sent z) → Contains (t.acts j) (Sent z) ⊎ (m ≡ z)
      told_acts =
          set_all (λ j (l : List Act). (z : Message) → Contains l (Sent z) → Contains (t.acts j) (Sent z) ⊎ (m ≡ z))
          t.acts k (t.acts k ++ Sent m ∷ []) (λ j z c. inl c)
          (λ z c. elim (Contains-push_cases (t.acts k) (Sent m) (Sent z) c) [ inl old ↦ inl old | inr same ↦ inr (sent_same m z same) ])

      -- who sent it has no token more, and all others are as they were
      pub token_cases : (h : GroupNo) (j : ℕ) → ((k ≡ j) × (g ≡ h) × (token_in t.here (t.group h) h (u.acts j) j ≡ None))
          ⊎ (token_in t.here (t.group h) h (u.acts j) j ≡ token_in t.here (t.group h) h (t.acts j) j)
      token_cases h =
          set_all (λ j (l : List Act). ((k ≡ j) × (g ≡ h) × (token_in t.here (t.group h) h l j ≡ None))
          ⊎ (token_in t.here (t.group h) h l j ≡ token_in t.here (t.group h) h (t.acts j) j))
          t.acts k (t.acts k ++ Sent m ∷ []) (λ j. inr refl)
          (elim (cases_Bool (is_in h (t.group h).number m.id)) [
            | inl here ↦
                inl (refl, (parts_of_id h (t.group h).number m.id here).0, token_hands t.here (t.group h) h (t.acts k) k m place to here is)
            | inr apart ↦ inr (token_sent_apart t.here (t.group h) h (t.acts k) k m apart)
          ])

      token_gone : token_in t.here (t.group g) g (u.acts k) k ≡ None
      token_gone = ap (λ l. token_in t.here (t.group g) g l k) acts_here ∙ token_hands t.here (t.group g) g (t.acts k) k m place to in_it is

      pub hand_token : token_at choice handed g v ≡ Some (local t k)
      hand_token =
          teller_chosen choice handed g (t.group g) ((own_agrees home w a t choice f).groups g) t.here k (t.acts k)
          (first g k held waits_here) (own.tokens g k held)

      one_tells : (j : ℕ) → tells t.here (t.group g) g (t.acts j) j ≡ true → k ≡ j
      one_tells j other =
          let second =
          teller_chosen choice handed g (t.group g) ((own_agrees home w a t choice f).groups g) t.here j (t.acts j)
          (unwrap_or (token_in t.here (t.group g) g (t.acts j) j) 1) (own.tokens g j other) in
          ap (λ (o : Option Proc). (unwrap_or o (local t k)).serial) (sym hand_token ∙ second)

      no_teller : (j : ℕ) → tells t.here (t.group g) g (u.acts j) j ≡ true → ⊥
      no_teller j e = elim (token_cases g j) [
        | inl gone ↦ false≢true (sym (ap is_some gone.2) ∙ e)
        | inr same ↦
            let is_k = one_tells j (sym (ap is_some same) ∙ e) in
            false≢true (sym (ap is_some token_gone) ∙ subst (λ i. tells t.here (t.group g) g (u.acts i) i ≡ true) (sym is_k) e)
      ]

      -- the last hand-over before, where there was one, is the one by which it had the token
      last_taken : (z : Message) → handed g v ≡ Some z → (q : Proc) → new_holder z.body ≡ Some q →
          Contains ((at t q.site).acts q.serial) (Delivered z)
      last_taken z last q names = go (own.tokens g k held)
        where
          here_is : at t t.here ≡ t
          here_is = ap (at t) (own_holds home w a t now).here_is ∙ own_is home w a t

          go : HasToken (handed g (t.group g).number) (t.group g) (local t k) (t.acts k)
              (unwrap_or (token_in t.here (t.group g) g (t.acts k) k) 1) → Contains ((at t q.site).acts q.serial) (Delivered z)
          go (inl none) = absurd (false≢true (ap is_some (sym none.0 ∙ last)))
          go (inr other) =
              let same : other.0 ≡ z = ap (λ (o : Option Message). unwrap_or o z) (sym other.1 ∙ last) in
              let to_is : local t k ≡ q =
              ap (λ (o : Option Proc). unwrap_or o q)
              (sym (ap new_holder other.2) ∙ ap (λ (y : Message). new_holder y.body) same ∙ names) in
              subst (λ (p : Proc). Contains ((at t p.site).acts p.serial) (Delivered z)) to_is
              (subst (λ (s : State). Contains (s.acts k) (Delivered z)) (sym here_is)
              (subst (λ y. Contains (t.acts k) (Delivered y)) same other.3))

      one_follows : OneOrdered ((u.process k).standing g) None (order g v) g v (local t k) (t.abcasts k) (t.got ++ m ∷ [])
      one_follows = record {
        follows = λ _ _. record {
          begins = ([], append-nil (done_in g v (t.abcasts k)) ∙ done_is);
          known = λ b c e at_it lt.
              let z = lead.known b c e at_it (let n = ap length done_is in omega (arith, n, lt)) in
              (z.0, Contains-append_left t.got (m ∷ []) z.0 z.1, z.2, z.3);
        };
        leads = λ none. absurd (false≢true none);
      }

      own_handed : SiteOrdered order next_handed u
      own_handed = record {
        listed = λ j. own.listed j ∙ set_all (λ i (l : List Act). abcasts_by (t.acts i) ≡ abcasts_by l) t.acts k (t.acts k ++ Sent m ∷ [])
            (λ i. refl) (no_abcast (t.acts k) (Sent m) refl) j;
        once = own.once;
        frozen = own.frozen;
        low = own.low;
        low_done =
            set_all (λ j (l : List Act). (z : Message) → HasDone l z → z.id.view ≤ (t.group z.id.group).number)
            t.acts k (t.acts k ++ Sent m ∷ []) (λ j z c. own.low_done j z c)
            (λ z c. elim (done_sent (t.acts k) m z c) [
              | inl old ↦ own.low_done k z old
              | inr same ↦ subst (λ (y : Message). y.id.view ≤ (t.group y.id.group).number) same (omega arith)
            ]);
        tokens = λ h j tells_it. elim (hand_cases h (t.group h).number) [
          | inl two ↦ absurd (no_teller j (subst (λ y. tells t.here (t.group y) y (u.acts j) j ≡ true) (sym two.0) tells_it))
          | inr same ↦ elim (token_cases h j) [
            | inl gone ↦ absurd (false≢true (sym (ap is_some gone.2) ∙ tells_it))
            | inr token ↦
                subst (λ o. HasToken o (t.group h) (record { site = t.here; serial = j }) (u.acts j)
                (unwrap_or (token_in t.here (t.group h) h (u.acts j) j) 1)) (sym same)
                (token_kept (handed h (t.group h).number) (t.group h) (record { site = t.here; serial = j }) (t.acts j) (u.acts j)
                (token_in t.here (t.group h) h (t.acts j) j) (token_in t.here (t.group h) h (u.acts j) j) token
                ((later_sent t k m).did j) (own.tokens h j) tells_it)
          ]
        ];
        ones = λ h j quiet. elim (token_cases h j) [
          | inl gone ↦
              subst (λ z. OneOrdered ((u.process j).standing h) z (order h (t.group h).number)
              h (t.group h).number (record { site = t.here; serial = j }) (t.abcasts j) (t.got ++ m ∷ [])) (sym gone.2)
              (subst (λ y. OneOrdered ((u.process j).standing y) None (order y (t.group y).number)
              y (t.group y).number (record { site = t.here; serial = j }) (t.abcasts j) (t.got ++ m ∷ [])) gone.1
              (subst (λ i. OneOrdered ((u.process i).standing g) None (order g v) g v (record { site = t.here; serial = i }) (t.abcasts i)
              (t.got ++ m ∷ [])) gone.0 one_follows))
          | inr token ↦
              subst (λ z. OneOrdered ((u.process j).standing h) z (order h (t.group h).number)
              h (t.group h).number (record { site = t.here; serial = j }) (t.abcasts j) (t.got ++ m ∷ [])) (sym token)
              (one_same ((t.process j).standing h) ((u.process j).standing h) (token_in t.here (t.group h) h (t.acts j) j)
              (order h (t.group h).number) h (t.group h).number (record { site = t.here; serial = j }) (t.abcasts j) (t.abcasts j)
              t.got (t.got ++ m ∷ [])
              refl (λ z c. Contains-append_left t.got (m ∷ []) z c) (stood j h) (own.ones h j quiet))
        ];
      }
        where
          stood : (j : ℕ) (h : GroupNo) →
              ((receiving (noting_sent t k (next_message t g k content)) (next_message t g k content)).process j).standing h ≡ Member →
              (t.process j).standing h ≡ Member
          stood =
              set_all (λ j (q : Process). (h : GroupNo) → q.standing h ≡ Member → (t.process j).standing h ≡ Member)
              t.process k (record (t.process k) { time = (next_message t g k content).times }) (λ j h e. e) (λ h e. e)

      module _ (later : Later t u) (now_u : Now home w a u) (more : Choice) (fu : Flushing home w a u more)
          (ext : Extends choice (number t) more (number u)) where
        -- at other sites nobody tells the order
        other_handed : (s : SiteNo) (st : State) → (site_eq a s ≡ true → ⊥) → st.here ≡ s →
            ((h : GroupNo) → GroupAgrees choice h (st.group h)) → SiteOrdered order handed st → SiteOrdered order next_handed st
        other_handed s st apart here agrees old = record {
          listed = old.listed;
          once = old.once;
          frozen = old.frozen;
          low = old.low;
          low_done = old.low_done;
          ones = old.ones;
          tokens = λ h j other. elim (hand_cases h (st.group h).number) [
            | inl two ↦ absurd (
                let second =
                teller_chosen choice handed h (st.group h) (agrees h) st.here j (st.acts j)
                (unwrap_or (token_in st.here (st.group h) h (st.acts j) j) 1) (old.tokens h j other) in
                let both_are : token_at choice handed g v ≡ Some (record { site = st.here; serial = j }) =
                (λ i. token_at choice handed (two.0 i) (sym two.1 i)) ∙ second in
                let same : t.here ≡ st.here = ap (λ (o : Option Proc). (unwrap_or o (local t k)).site) (sym hand_token ∙ both_are) in
                let same_place : a ≡ s = sym ((own_holds home w a t now).here_is) ∙ same ∙ here in
                apart (ap (site_eq a) (sym same_place) ∙ site_itself a))
            | inr same ↦
                subst (λ o. HasToken o (st.group h) (record { site = st.here; serial = j }) (st.acts j)
                (unwrap_or (token_in st.here (st.group h) h (st.acts j) j) 1)) (sym same) (old.tokens h j other)
          ];
        }

        begun : HasToken (handed g v) (t.group g) (local t k) (t.acts k) (first g k held waits_here) → Begun more (number u) (at u) g v
        begun (inl first_one) = record {
          holder = local t k;
          message = m;
          decided = ((own_holds home w a u now_u).groups g).number;
          chosen = named_chosen more g (t.group g) ((own_agrees home w a u more fu).groups g) t.here k first_one.1;
          sent = ((own_holds home w a u now_u).received m (Contains-push t.got m)).sent;
          own = refl;
          in_view = in_it;
        }
        begun (inr other) = elim (x.orders g v).begun [
          | inl none ↦ absurd (false≢true (ap is_some (sym none.1 ∙ other.1)))
          | inr b ↦ begun_later home choice more (at t) (at u) ext (ahead_at home w a t u later) g v b
        ]

        -- the message comes after all of the order, since its process had delivered that
        covers : (e : Entry) → Contains (order g v) e → Covers m.times (uid_in g v e)
        covers e c =
            let had = noted k (uid_in g v e) (done_named g v (t.abcasts k) e (subst (λ l. Contains l e) (sym done_is) c)) in
            let sent = contains_split ((at t had.0.id.proc.site).acts had.0.id.proc.serial) (Sent had.0) had.1 in
            let itself = (each_at (at t) home now.0 had.0.id.proc sent.0 sent.1 (Sent had.0) sent.2).itself in
            (((own_holds home w a u now_u).ones k).fits.each (t.acts k) [] (Sent m) acts_here).rises had.0 (inr had.4) (uid_in g v e)
            tt (subst (Covers had.0.times) had.2 itself)

        handed_order : OrderHolds more (number u) (at u) g v (order g v) (Some m)
        handed_order =
            let was =
            order_later home choice more (at t) (at u) ext (ahead_at home w a t u later) g v (order g v) (handed g v) (x.orders g v) in
            record {
              apart = was.apart;
              few = was.few;
              atomic = was.atomic;
              begun = inr (begun (own.tokens g k held));
              last = λ z last. subst (λ y. LastHolds (at u) g v (order g v) y) (ap (λ (o : Option Message). unwrap_or o m) last) record {
                place = place;
                to = to;
                is = is;
                sent = ((own_holds home w a u now_u).received m (Contains-push t.got m)).sent;
                in_view = in_it;
                taken = inr (place_is, covers);
              };
            }

        pub handed_ordered : AllOrdered more (number u) (at u) order next_handed
        handed_ordered = record {
          sites = λ s. site s (site_eq a s) refl (x.sites s) (now.0 s).here_is (f.sites s).groups;
          told = λ s j z fact c at_it. fact_in s j z fact (site_eq a s) (x.told s j z fact) c at_it;
          placed = λ s j z c. placed_in s j z (site_eq a s) (x.placed s j z) c;
          hands = λ s j z q c names. hands_in s j z q (site_eq a s) (x.hands s j z q) c names;
          orders = λ j z. elim (hand_cases j z) [
            | inl two ↦
                subst (λ y. OrderHolds more (number u) (at u) y z (order y z) (next_handed y z))
                two.0 (subst (λ y. OrderHolds more (number u) (at u) g y (order g y) (next_handed g y)) (sym two.1)
                (subst (OrderHolds more (number u) (at u) g v (order g v)) (sym handed_here) handed_order))
            | inr same ↦
                subst (OrderHolds more (number u) (at u) j z (order j z)) (sym same)
                (order_later home choice more (at t) (at u) ext (ahead_at home w a t u later) j z (order j z) (handed j z) (x.orders j z))
          ];
        }
          where
            site : (s : SiteNo) (b : Bool) → site_eq a s ≡ b → SiteOrdered order handed (if b then t else w.at s) →
                (if b then t else w.at s).here ≡ s → ((h : GroupNo) → GroupAgrees choice h ((if b then t else w.at s).group h)) →
                SiteOrdered order next_handed (if b then u else w.at s)
            site s true e old here agrees = own_handed
            site s false e old here agrees = other_handed s (w.at s) (λ same. true≢false (sym same ∙ e)) here agrees old

            fact_in : (s : SiteNo) (j : ℕ) (z : Message) (fact : ℕ × Entry) (b : Bool) →
                (Contains ((if b then t else w.at s).acts j) (Sent z) → Contains (told_by z.body) fact →
                Stands (order z.id.group z.id.view) fact) →
                Contains ((if b then u else w.at s).acts j) (Sent z) → Contains (told_by z.body) fact →
                Stands (order z.id.group z.id.view) fact
            fact_in s j z fact false old c at_it = old c at_it
            fact_in s j z fact true old c at_it = elim (told_acts j z c) [
              | inl was ↦ old was at_it
              | inr same ↦
                  absurd (let none = subst (λ l. Contains l fact) (ap (λ (y : Message). told_by y.body) (sym same) ∙ ap told_by is) at_it in
                  omega (arith, none.1))
            ]

            placed_in : (s : SiteNo) (j : ℕ) (z : Message) (b : Bool) →
                (Contains ((if b then t else w.at s).acts j) (Sent z) → last_place z.body ≤ length (order z.id.group z.id.view)) →
                Contains ((if b then u else w.at s).acts j) (Sent z) → last_place z.body ≤ length (order z.id.group z.id.view)
            placed_in s j z false old c = old c
            placed_in s j z true old c = elim (told_acts j z c) [
              | inl was ↦ old was
              | inr same ↦
                  subst (λ (y : Message). last_place y.body ≤ length (order y.id.group y.id.view))
                  same (let last = ap last_place is in let one = place_is in omega (arith, last, one))
            ]

            hands_in : (s : SiteNo) (j : ℕ) (z : Message) (q : Proc) (b : Bool) →
                (Contains ((if b then t else w.at s).acts j) (Sent z) → new_holder z.body ≡ Some q →
                (handed z.id.group z.id.view ≡ Some z) ⊎ Contains ((at t q.site).acts q.serial) (Delivered z)) →
                Contains ((if b then u else w.at s).acts j) (Sent z) → new_holder z.body ≡ Some q →
                (next_handed z.id.group z.id.view ≡ Some z) ⊎ Contains ((at u q.site).acts q.serial) (Delivered z)
            hands_in s j z q b old c names = was b old c
              where
                did_later : Contains ((at t q.site).acts q.serial) (Delivered z) → Contains ((at u q.site).acts q.serial) (Delivered z)
                did_later did = (ahead_at home w a t u later q.site).did q.serial (Delivered z) did

                before : (handed z.id.group z.id.view ≡ Some z) ⊎ Contains ((at t q.site).acts q.serial) (Delivered z) →
                    (next_handed z.id.group z.id.view ≡ Some z) ⊎ Contains ((at u q.site).acts q.serial) (Delivered z)
                before (inr did) = inr (did_later did)
                before (inl last) = elim (hand_cases z.id.group z.id.view) [
                  | inl two ↦ inr (did_later (last_taken z ((λ i. handed (two.0 i) (sym two.1 i)) ∙ last) q names))
                  | inr same ↦ inl (same ∙ last)
                ]

                was : (b : Bool) →
                    (Contains ((if b then t else w.at s).acts j) (Sent z) → new_holder z.body ≡ Some q →
                    (handed z.id.group z.id.view ≡ Some z) ⊎ Contains ((at t q.site).acts q.serial) (Delivered z)) →
                    Contains ((if b then u else w.at s).acts j) (Sent z) →
                    (next_handed z.id.group z.id.view ≡ Some z) ⊎ Contains ((at u q.site).acts q.serial) (Delivered z)
                was false old c = before (old c names)
                was true old c = elim (told_acts j z c) [
                  | inl sent ↦ before (old sent names)
                  | inr same ↦ inl (subst (λ (y : Message). next_handed y.id.group y.id.view ≡ Some y) same handed_here)
                ]
