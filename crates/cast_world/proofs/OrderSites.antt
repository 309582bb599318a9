-- What a site does keeps what holds of orders there, where no order grows.
use Rattle.std.proofs.Common.{ap, arith, inl, inr, subst, sym, ◌∙◌}
use Rattle.std.proofs.lemmas.Bool.{cases_Bool, false_from_ne_true, false≢true}
use Rattle.std.proofs.lemmas.List.Elements.{Contains-append_left, Contains-push_cases}
use Rattle.std.proofs.lemmas.List.{length-append}
use Rattle.std.specs.Prelude.{◌++◌, ◌==◌, Bool, Contains, List, Option, [], cond, false, if◌then◌else◌}
use Rattle.std.specs.Prelude.{is_some, length, refl, true, unwrap_or, ℕ, ◌∷◌, ◌≡◌, ◌≤◌, ◌⊎◌}
use Rattle.cast_clock.specs.Times.{join}
use Rattle.cast_ready.specs.Ready.{Process, is_member}
use Rattle.cast_rules.specs.Acts.{Act}
use Rattle.cast_rules.specs.Acts.Act.{Delivered, Left}
use Rattle.cast_rules.specs.Entering.{all_parted, put_outside}
use Rattle.cast_rules.specs.Noted.{abcasts_by}
use Rattle.cast_rules.specs.State.{State, noting_act, outside, with_delivery}
use Rattle.cast_message.specs.Bodies.{kind_of, new_holder}
use Rattle.cast_message.specs.declared.message.Message.{Message}
use Rattle.cast_types.specs.Names.{Entry, group_eq, is_atomic}
use Rattle.cast_types.specs.Sets.{set_at}
use Rattle.cast_types.specs.declared.names.GroupNo.{GroupNo}
use Rattle.cast_types.specs.declared.names.Proc.{Proc}
use Rattle.cast_types.specs.declared.names.SiteNo.{SiteNo}
use Rattle.cast_types.specs.declared.names.Standing.{Standing}
use Rattle.cast_types.specs.declared.names.Standing.TheVariants.{Member}
use Rattle.cast_types.specs.declared.names.Uid.{Uid}
use Rattle.cast_view.specs.MemberSide.{MemberSide, is_pending, is_process}
use Rattle.cast_world.proofs.Facts.{HasDone}
use Rattle.cast_world.proofs.Laters.{set_all, set_both, set_group_all}
use Rattle.cast_world.proofs.Listings.{abcasts_append, done_apart, no_abcast, parts_of_id}
use Rattle.cast_world.proofs.Lists.{done_delivered, done_left}
use Rattle.cast_world.proofs.Moves.{later_delivered, later_part, later_parted}
use Rattle.cast_world.proofs.Onward.{stands}
use Rattle.cast_world.proofs.Orders.{Apart, Leads, OneOrdered, OrderParts, Orders, SiteOrdered, done_in}
use Rattle.cast_world.proofs.Prefixes.{apart_more, place_in, prefix_trans}
use Rattle.cast_world.proofs.Tokens.{HandOvers, HasToken, abcast_hands_none, tells, token_apart}
use Rattle.cast_world.proofs.Tokens.{token_in, token_kept, token_left, token_stays}
use Rattle.cast_world.specs.Agreement.{IsPrefix, is_in}

-- One process

pub one_same : (st new : Standing) (token : Option ℕ) (order : List Entry) (g : GroupNo) (v : ℕ) (p : Proc) (us vs : List Uid)
    (got more : List Message) → done_in g v vs ≡ done_in g v us → ((m : Message) → Contains got m → Contains more m) →
    (new ≡ Member → st ≡ Member) → OneOrdered st token order g v p us got → OneOrdered new token order g v p vs more
one_same st new token order g v p us vs got more same has member o = record {
  follows = λ s e.
      let was = o.follows (member s) e in
      record {
        begins = subst (λ d. IsPrefix d order) (sym same) was.begins;
        known = λ a c x is lt. let t = was.known a c x is (let n = ap length same in omega (arith, lt, n)) in (t.0, has t.0 t.1, t.2, t.3);
      };
  leads = λ e.
      let l = o.leads e in
      record {
        all = subst (IsPrefix order) (sym same) l.all;
        known = λ a c x is lt. let t = l.known a c x is lt in (t.0, has t.0 t.1, t.2, t.3);
        told = λ a c x is low. let t = l.told a c x is low in (t.0, has t.0 t.1, t.2, t.3, t.4);
        low = l.low;
        places = (let low = l.places in let n = ap length same in omega (arith, low, n));
      };
}

-- when the order has grown, which only who tells it needs to know of
pub one_grown : (st : Standing) (token : Option ℕ) (order next : List Entry) (g : GroupNo) (v : ℕ) (p : Proc) (us : List Uid)
    (got : List Message) → IsPrefix order next → (is_some token ≡ true → next ≡ order) → OneOrdered st token order g v p us got →
    OneOrdered st token next g v p us got
one_grown st token order next g v p us got grows stays o = record {
  follows = λ s e.
      let was = o.follows s e in
      record {
        begins = prefix_trans (done_in g v us) order next was.begins grows;
        known = λ a c x is lt. elim (place_in order grows.0 a c x (grows.1 ∙ is)) [
          | inl old ↦ was.known a old.0 x old.1 lt
          | inr new ↦ absurd (
              let whole = ap length new.1 in
              let parts = length-append order new.0 in
              let done = ap length was.begins.1 in
              let more = length-append (done_in g v us) was.begins.0 in
              omega (arith, whole, parts, done, more, lt))
        ];
      };
  leads = λ e. subst (λ l. Leads l (unwrap_or token 1) g v p us got) (sym (stays e)) (o.leads e);
}

module _ (order : Orders) (handed : HandOvers) (here : SiteNo) (process : ℕ → Process) (acts : ℕ → List Act) (abcasts : ℕ → List Uid)
    (group : GroupNo → MemberSide) (got : List Message)
    (x : OrderParts order handed here process acts abcasts group got) where
  -- processes did what delivers no ABCAST and moves no token, no one became a member, and more was received
  pub parts_same : (new_process : ℕ → Process) (new_acts : ℕ → List Act) (more : List Message) →
      ((k : ℕ) → abcasts_by (acts k) ≡ abcasts_by (new_acts k)) →
      ((k : ℕ) (m : Message) → HasDone (new_acts k) m → HasDone (acts k) m ⊎ (m.id.view ≤ (group m.id.group).number)) →
      ((k : ℕ) (y : Act) → Contains (acts k) y → Contains (new_acts k) y) →
      ((k : ℕ) (g : GroupNo) → token_in here (group g) g (new_acts k) k ≡ token_in here (group g) g (acts k) k) →
      ((k : ℕ) (g : GroupNo) → (new_process k).standing g ≡ Member → (process k).standing g ≡ Member) →
      ((m : Message) → Contains got m → Contains more m) →
      OrderParts order handed here new_process new_acts abcasts group more
  parts_same new_process new_acts more same done did token member has = record {
    listed = λ k. x.listed k ∙ same k;
    once = x.once;
    frozen = x.frozen;
    low = x.low;
    low_done = λ k m c. elim (done k m c) [ inl old ↦ x.low_done k m old | inr new ↦ new ];
    tokens = λ g k. token_kept (handed g (group g).number) (group g) (record { site = here; serial = k }) (acts k) (new_acts k)
        (token_in here (group g) g (acts k) k) (token_in here (group g) g (new_acts k) k) (token k g) (did k) (x.tokens g k);
    ones = λ g k waits.
        subst (λ z. OneOrdered ((new_process k).standing g) z (order g (group g).number)
        g (group g).number (record { site = here; serial = k }) (abcasts k) more) (sym (token k g))
        (one_same ((process k).standing g) ((new_process k).standing g) (token_in here (group g) g (acts k) k) (order g (group g).number)
        g (group g).number (record { site = here; serial = k }) (abcasts k) (abcasts k) got more refl has
        (member k g) (x.ones g k waits));
  }

  -- a group changed
  pub parts_group : (g : GroupNo) (v : MemberSide) → (is_pending v ≡ true → v.frozen ≡ true) → (group g).number ≤ v.number →
      ((k : ℕ) → tells here v g (acts k) k ≡ true →
      HasToken (handed g v.number) v (record { site = here; serial = k }) (acts k) (unwrap_or (token_in here v g (acts k) k) 1)) →
      ((k : ℕ) → is_pending v ≡ false → OneOrdered ((process k).standing g) (token_in here v g (acts k) k) (order g v.number)
      g v.number (record { site = here; serial = k }) (abcasts k) got) →
      OrderParts order handed here process acts abcasts (set_at group_eq group g v) got
  parts_group g v frozen_it up token new = record {
    listed = x.listed;
    once = x.once;
    low = λ k u c. later u.group u.view (x.low k u c);
    low_done = λ k m c. later m.id.group m.id.view (x.low_done k m c);
    frozen = set_group_all (λ h (z : MemberSide). is_pending z ≡ true → z.frozen ≡ true) group g v x.frozen frozen_it;
    tokens =
        set_group_all (λ h (z : MemberSide). (k : ℕ) → tells here z h (acts k) k ≡ true →
        HasToken (handed h z.number) z (record { site = here; serial = k }) (acts k) (unwrap_or (token_in here z h (acts k) k) 1))
        group g v x.tokens token;
    ones =
        set_group_all (λ h (z : MemberSide). (k : ℕ) → is_pending z ≡ false → OneOrdered ((process k).standing h)
        (token_in here z h (acts k) k) (order h z.number) h z.number (record { site = here; serial = k }) (abcasts k) got)
        group g v x.ones new;
  }
    where
      later : (h : GroupNo) (n : ℕ) → n ≤ (group h).number → n ≤ (set_at group_eq group g v h).number
      later h n =
          set_group_all (λ j (z : MemberSide). n ≤ (group j).number → n ≤ z.number) group g v (λ j le. le) (λ le. omega (arith, le, up)) h

-- Who leaves has its tokens still

pub token_outside : (t : State) (k : ℕ) (g : GroupNo) (j : ℕ) (h : GroupNo) →
    token_in t.here (t.group h) h ((outside t k g).acts j) j ≡ token_in t.here (t.group h) h (t.acts j) j
token_outside t k g j h = go (is_member ((t.process k).standing g))
  where
    go : (b : Bool) → token_in t.here (t.group h) h ((if b then (noting_act t k (Left g)).acts else t.acts) j)
        j ≡ token_in t.here (t.group h) h (t.acts j) j
    go true =
        set_all (λ i (l : List Act). token_in t.here (t.group h) h l i ≡ token_in t.here (t.group h) h (t.acts i) i)
        t.acts k (t.acts k ++ Left g ∷ []) (λ i. refl) (token_left t.here (t.group h) h (t.acts k) k g) j
    go false = refl

pub token_parted : (t : State) (g : GroupNo) (goes : ℕ → Bool) (k : ℕ) (h : GroupNo) →
    token_in t.here (t.group h) h ((all_parted t g goes).acts k) k ≡ token_in t.here (t.group h) h (t.acts k) k
token_parted t g goes k h = go (goes k)
  where
    go : (b : Bool) →
        token_in t.here (t.group h) h (if b then t.acts k ++ Left g ∷ [] else t.acts k) k ≡ token_in t.here (t.group h) h (t.acts k) k
    go true = token_left t.here (t.group h) h (t.acts k) k g
    go false = refl

-- Moves

module _ (order : Orders) (handed : HandOvers) (t : State) (x : SiteOrdered order handed t) where
  pub part_ordered : (k : ℕ) (g : GroupNo) → SiteOrdered order handed (outside t k g)
  part_ordered k g =
      parts_same order handed t.here t.process t.acts t.abcasts t.group t.got x
      (set_at (λ a b. a == b) t.process k (put_outside g (t.process k)))
      (outside t k g).acts t.got (acts_same (is_member ((t.process k).standing g)))
      (λ j m c. inl (done_as (is_member ((t.process k).standing g)) j m c)) (later_part t k g).did (token_outside t k g) member (λ m at. at)
    where
      acts_same : (b : Bool) (j : ℕ) → abcasts_by (t.acts j) ≡ abcasts_by ((if b then (noting_act t k (Left g)).acts else t.acts) j)
      acts_same true j =
          set_all (λ i (l : List Act). abcasts_by (t.acts i) ≡ abcasts_by l) t.acts k (t.acts k ++ Left g ∷ []) (λ i. refl)
          (no_abcast (t.acts k) (Left g) refl) j
      acts_same false j = refl

      done_as : (b : Bool) (j : ℕ) (m : Message) → HasDone ((if b then (noting_act t k (Left g)).acts else t.acts) j) m →
          HasDone (t.acts j) m
      done_as true j m c =
          set_all (λ i (l : List Act). HasDone l m → HasDone (t.acts i) m) t.acts k (t.acts k ++ Left g ∷ []) (λ i c. c)
          (done_left (t.acts k) g m) j c
      done_as false j m c = c

      member : (j : ℕ) (h : GroupNo) → (set_at (λ a b. a == b) t.process k (put_outside g (t.process k)) j).standing h ≡ Member →
          (t.process j).standing h ≡ Member
      member =
          set_all (λ j (q : Process). (h : GroupNo) → q.standing h ≡ Member → (t.process j).standing h ≡ Member)
          t.process k (put_outside g (t.process k)) (λ j h e. e) (λ h e. stands ((t.process k).standing h) (group_eq g h) e)

  pub all_part_ordered : (g : GroupNo) (goes : ℕ → Bool) → SiteOrdered order handed (all_parted t g goes)
  all_part_ordered g goes =
      parts_same order handed t.here t.process t.acts t.abcasts t.group t.got x (all_parted t g goes).process
      (all_parted t g goes).acts t.got (λ k. acts_same k (goes k))
      (λ k m c. inl (done_as k m (goes k) c)) (later_parted t g goes).did (token_parted t g goes) (λ k h. member k h (goes k)) (λ m at. at)
    where
      acts_same : (k : ℕ) (b : Bool) → abcasts_by (t.acts k) ≡ abcasts_by (if b then t.acts k ++ Left g ∷ [] else t.acts k)
      acts_same k true = no_abcast (t.acts k) (Left g) refl
      acts_same k false = refl

      done_as : (k : ℕ) (m : Message) (b : Bool) → HasDone (if b then t.acts k ++ Left g ∷ [] else t.acts k) m → HasDone (t.acts k) m
      done_as k m true c = done_left (t.acts k) g m c
      done_as k m false c = c

      member : (k : ℕ) (h : GroupNo) (b : Bool) → (if b then put_outside g (t.process k) else t.process k).standing h ≡ Member →
          (t.process k).standing h ≡ Member
      member k h true e = stands ((t.process k).standing h) (group_eq g h) e
      member k h false e = e

  -- a message is delivered
  module _ (k : ℕ) (m : Message) where
    abbrev now : State
    now = with_delivery t k m

    abbrev had : Process
    had = t.process k

    abbrev has : Process
    has = record had { time = join had.time m.times; delivered = had.delivered ++ m.id ∷ [] }

    member_same : (j : ℕ) (h : GroupNo) → (now.process j).standing h ≡ Member → (t.process j).standing h ≡ Member
    member_same =
        set_all (λ j (q : Process). (h : GroupNo) → q.standing h ≡ Member → (t.process j).standing h ≡ Member)
        t.process k has (λ j h e. e) (λ h e. e)

    abbrev me : Proc
    me = record { site = t.here; serial = k }

    abbrev acts_now : List Act
    acts_now = t.acts k ++ Delivered m ∷ []

    done_was : (j : ℕ) (z : Message) → HasDone (now.acts j) z → HasDone (t.acts j) z ⊎ (m ≡ z)
    done_was j z =
        set_all (λ i (l : List Act). HasDone l z → HasDone (t.acts i) z ⊎ (m ≡ z)) t.acts k (t.acts k ++ Delivered m ∷ []) (λ i c. inl c)
        (done_delivered (t.acts k) m z) j

    done_low : m.id.view ≡ (t.group m.id.group).number → (j : ℕ) (z : Message) → HasDone (now.acts j) z →
        HasDone (t.acts j) z ⊎ (z.id.view ≤ (t.group z.id.group).number)
    done_low view j z c = elim (done_was j z c) [
      | inl old ↦ inl old
      | inr same ↦ inr (subst (λ (y : Message). y.id.view ≤ (t.group y.id.group).number) same (omega (arith, view)))
    ]

    acts_as : (b : Bool) → is_atomic (kind_of m.body) ≡ b →
        abcasts_by (t.acts k ++ Delivered m ∷ []) ≡ abcasts_by (t.acts k) ++ cond b (m.id ∷ []) []
    acts_as b e = abcasts_append (t.acts k) (Delivered m ∷ []) ∙ ap (λ z. abcasts_by (t.acts k) ++ cond z (m.id ∷ []) []) e

    -- of what was said of the message's group and view
    at_group : (P : GroupNo → ℕ → Type 0) (h : GroupNo) → is_in h (t.group h).number m.id ≡ true → m.id.view ≡ (t.group m.id.group).number →
        P m.id.group m.id.view → P h (t.group h).number
    at_group P h is view one =
        let two = parts_of_id h (t.group h).number m.id is in subst (λ z. P z (t.group z).number) two.0 (subst (P m.id.group) view one)

    pub delivered_ordered : (Contains (t.abcasts k) m.id → ⊥) → m.id.view ≡ (t.group m.id.group).number →
        (t.process k).standing m.id.group ≡ Member →
        (is_pending (t.group m.id.group) ≡ false → is_atomic (kind_of m.body) ≡ true →
        OneOrdered ((t.process k).standing m.id.group) (token_in t.here (t.group m.id.group) m.id.group (t.acts k) k)
        (order m.id.group m.id.view) m.id.group m.id.view (record { site = t.here; serial = k }) (t.abcasts k ++ m.id ∷ []) t.got) →
        (is_process me (new_holder m.body) ≡ true → is_pending (t.group m.id.group) ≡ false →
        OneOrdered ((t.process k).standing m.id.group) (token_in t.here (t.group m.id.group) m.id.group acts_now k)
        (order m.id.group m.id.view) m.id.group m.id.view me (t.abcasts k) t.got) →
        (is_process me (new_holder m.body) ≡ true → tells t.here (t.group m.id.group) m.id.group acts_now k ≡ true →
        HasToken (handed m.id.group m.id.view) (t.group m.id.group)
        me acts_now (unwrap_or (token_in t.here (t.group m.id.group) m.id.group acts_now k) 1)) →
        SiteOrdered order handed now
    delivered_ordered new view member next taken token = by (is_process me (new_holder m.body)) refl
      where
        claim : is_atomic (kind_of m.body) ≡ true → (h : GroupNo) → is_pending (t.group h) ≡ false →
            OneOrdered ((t.process k).standing h) (token_in t.here (t.group h) h (t.acts k) k) (order h (t.group h).number)
            h (t.group h).number (record { site = t.here; serial = k }) (t.abcasts k ++ m.id ∷ []) t.got
        claim atomic h waits = elim (cases_Bool (is_in h (t.group h).number m.id)) [
          | inl is ↦
              let two = parts_of_id h (t.group h).number m.id is in
              subst
              (λ z. is_pending (t.group z) ≡ false → OneOrdered ((t.process k).standing z) (token_in t.here (t.group z) z (t.acts k) k)
              (order z (t.group z).number) z (t.group z).number (record { site = t.here; serial = k }) (t.abcasts k ++ m.id ∷ []) t.got)
              two.0 (λ waits_it. subst (λ v. OneOrdered ((t.process k).standing m.id.group) (token_in t.here (t.group m.id.group) m.id.group
              (t.acts k) k) (order m.id.group v) m.id.group v (record { site = t.here; serial = k }) (t.abcasts k ++ m.id ∷ []) t.got)
              view (next waits_it atomic)) waits
          | inr other ↦
              one_same ((t.process k).standing h) ((t.process k).standing h) (token_in t.here (t.group h) h (t.acts k) k)
              (order h (t.group h).number) h (t.group h).number (record { site = t.here; serial = k }) (t.abcasts k)
              (t.abcasts k ++ m.id ∷ []) t.got t.got
              (done_apart h (t.group h).number (t.abcasts k) m.id other) (λ z at. at) (λ e. e) (x.ones h k waits)
        ]

        -- it hands the token to another, or to no one
        token_as : is_process (record { site = t.here; serial = k }) (new_holder m.body) ≡ false → (j : ℕ) (h : GroupNo) →
            token_in t.here (t.group h) h (now.acts j) j ≡ token_in t.here (t.group h) h (t.acts j) j
        token_as other j h =
            set_all (λ i (l : List Act). token_in t.here (t.group h) h l i ≡ token_in t.here (t.group h) h (t.acts i) i)
            t.acts k (t.acts k ++ Delivered m ∷ []) (λ i. refl) (token_stays t.here (t.group h) h (t.acts k) k m other) j

        stays : is_process (record { site = t.here; serial = k }) (new_holder m.body) ≡ false → (b : Bool) →
            is_atomic (kind_of m.body) ≡ b →
            OrderParts order handed t.here now.process now.acts
            (if b then set_at (λ a c. a == c) t.abcasts k (t.abcasts k ++ m.id ∷ []) else t.abcasts) t.group t.got
        stays other false e = parts_same order handed t.here t.process t.acts t.abcasts t.group t.got x now.process now.acts t.got
            (set_all (λ j (l : List Act). abcasts_by (t.acts j) ≡ abcasts_by l) t.acts k (t.acts k ++ Delivered m ∷ []) (λ j. refl)
            (no_abcast (t.acts k) (Delivered m) (ap (λ z. cond z (m.id ∷ []) []) e)))
            (done_low view) (later_delivered t k m).did (token_as other) member_same (λ z at. at)
        stays other true e = record {
          listed =
              set_both (λ j (us : List Uid) (l : List Act). us ≡ abcasts_by l) t.abcasts t.acts k (t.abcasts k ++ m.id ∷ [])
              (t.acts k ++ Delivered m ∷ []) x.listed
              (ap (λ us. us ++ m.id ∷ []) (x.listed k) ∙ sym (acts_as true e));
          once = set_all (λ j (us : List Uid). Apart us) t.abcasts k (t.abcasts k ++ m.id ∷ [])
              x.once (apart_more (t.abcasts k) m.id (x.once k) new);
          frozen = x.frozen;
          low =
              set_all (λ j (us : List Uid). (u : Uid) → Contains us u → u.view ≤ (t.group u.group).number)
              t.abcasts k (t.abcasts k ++ m.id ∷ []) x.low
              (λ u c. elim (Contains-push_cases (t.abcasts k) m.id u c) [
                | inl old ↦ x.low k u old
                | inr same ↦ subst (λ (z : Uid). z.view ≤ (t.group z.group).number) same (omega (arith, view))
              ]);
          low_done = λ j z c. elim (done_low view j z c) [ inl old ↦ x.low_done j z old | inr low ↦ low ];
          tokens = λ h j.
              token_kept (handed h (t.group h).number) (t.group h) (record { site = t.here; serial = j }) (t.acts j) (now.acts j)
              (token_in t.here (t.group h) h (t.acts j) j) (token_in t.here (t.group h) h (now.acts j) j)
              (token_as other j h) ((later_delivered t k m).did j) (x.tokens h j);
          ones = λ h j waits.
              subst (λ z. OneOrdered ((now.process j).standing h) z (order h (t.group h).number) h (t.group h).number
              (record { site = t.here; serial = j }) (set_at (λ a c. a == c) t.abcasts k (t.abcasts k ++ m.id ∷ []) j) t.got)
              (sym (token_as other j h))
              (set_both (λ i (us : List Uid) (q : Process). OneOrdered (q.standing h) (token_in t.here (t.group h) h (t.acts i) i)
              (order h (t.group h).number) h (t.group h).number (record { site = t.here; serial = i }) us t.got)
              t.abcasts t.process k (t.abcasts k ++ m.id ∷ []) has (λ i. x.ones h i waits) (claim e h waits) j);
        }

        -- it hands the token to the process
        moves : is_process (record { site = t.here; serial = k }) (new_holder m.body) ≡ true → is_atomic (kind_of m.body) ≡ false →
            OrderParts order handed t.here now.process now.acts t.abcasts t.group t.got
        moves names plain = record {
          listed = set_all (λ j (l : List Act). t.abcasts j ≡ abcasts_by l) t.acts k (t.acts k ++ Delivered m ∷ []) x.listed
              (x.listed k ∙ no_abcast (t.acts k) (Delivered m) (ap (λ z. cond z (m.id ∷ []) []) plain));
          once = x.once;
          frozen = x.frozen;
          low = x.low;
          low_done = λ j z c. elim (done_low view j z c) [ inl old ↦ x.low_done j z old | inr low ↦ low ];
          tokens = λ h.
              set_all (λ i (l : List Act). tells t.here (t.group h) h l i ≡ true → HasToken (handed h (t.group h).number) (t.group h)
              (record { site = t.here; serial = i }) l (unwrap_or (token_in t.here (t.group h) h l i) 1))
              t.acts k (t.acts k ++ Delivered m ∷ []) (x.tokens h) (token_here h);
          ones = λ h j waits.
              set_both (λ i (l : List Act) (q : Process). OneOrdered (q.standing h) (token_in t.here (t.group h) h l i)
              (order h (t.group h).number) h (t.group h).number (record { site = t.here; serial = i }) (t.abcasts i) t.got)
              t.acts t.process k (t.acts k ++ Delivered m ∷ []) has (λ i. x.ones h i waits) (one_here h waits) j;
        }
          where
            token_here : (h : GroupNo) → tells t.here (t.group h) h (t.acts k ++ Delivered m ∷ []) k ≡ true →
                HasToken (handed h (t.group h).number) (t.group h) (record { site = t.here; serial = k }) (t.acts k ++ Delivered m ∷ [])
                (unwrap_or (token_in t.here (t.group h) h (t.acts k ++ Delivered m ∷ []) k) 1)
            token_here h = elim (cases_Bool (is_in h (t.group h).number m.id)) [
              | inl is ↦ at_group (λ z v. tells t.here (t.group z) z (t.acts k ++ Delivered m ∷ []) k ≡ true →
                  HasToken (handed z v) (t.group z) (record { site = t.here; serial = k }) (t.acts k ++ Delivered m ∷ [])
                  (unwrap_or (token_in t.here (t.group z) z (t.acts k ++ Delivered m ∷ []) k) 1)) h is view (token names)
              | inr other ↦
                  token_kept (handed h (t.group h).number) (t.group h) (record { site = t.here; serial = k }) (t.acts k)
                  (t.acts k ++ Delivered m ∷ []) (token_in t.here (t.group h) h (t.acts k) k)
                  (token_in t.here (t.group h) h (t.acts k ++ Delivered m ∷ []) k) (token_apart t.here (t.group h) h (t.acts k) k m other)
                  (λ y c. Contains-append_left (t.acts k) (Delivered m ∷ []) y c) (x.tokens h k)
            ]

            one_here : (h : GroupNo) → is_pending (t.group h) ≡ false →
                OneOrdered ((t.process k).standing h) (token_in t.here (t.group h) h (t.acts k ++ Delivered m ∷ []) k)
                (order h (t.group h).number) h (t.group h).number (record { site = t.here; serial = k }) (t.abcasts k) t.got
            one_here h waits = elim (cases_Bool (is_in h (t.group h).number m.id)) [
              | inl is ↦ at_group (λ z v. is_pending (t.group z) ≡ false →
                  OneOrdered ((t.process k).standing z) (token_in t.here (t.group z) z (t.acts k ++ Delivered m ∷ []) k) (order z v)
                  z v (record { site = t.here; serial = k }) (t.abcasts k) t.got) h is view (taken names) waits
              | inr other ↦
                  subst (λ z. OneOrdered ((t.process k).standing h) z (order h (t.group h).number)
                  h (t.group h).number (record { site = t.here; serial = k }) (t.abcasts k) t.got)
                  (sym (token_apart t.here (t.group h) h (t.acts k) k m other)) (x.ones h k waits)
            ]

        by : (b : Bool) → is_process (record { site = t.here; serial = k }) (new_holder m.body) ≡ b → SiteOrdered order handed now
        by false other = stays other (is_atomic (kind_of m.body)) refl
        by true names =
            subst (λ b. OrderParts order handed t.here now.process now.acts
            (if b then set_at (λ a c. a == c) t.abcasts k (t.abcasts k ++ m.id ∷ []) else t.abcasts) t.group t.got) (sym plain)
            (moves names plain)
          where
            plain : is_atomic (kind_of m.body) ≡ false
            plain =
                false_from_ne_true (is_atomic (kind_of m.body))
                (λ e. false≢true (sym (ap (is_process (record { site = t.here; serial = k })) (abcast_hands_none m.body e)) ∙ names))
