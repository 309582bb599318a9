-- The stable set-order messages of who tells an order are known at each site of the view, and tell a prefix of the order.
use Rattle.cast_types.proofs.Orders.{same_site, site_itself}
use Rattle.std.proofs.Common.{ap, arith, inl, inr, subst, sym, ◌∙◌}
use Rattle.std.proofs.lemmas.Bool.{cases_lt, le-leb, leb-true}
use Rattle.std.specs.Prelude.{◌+◌, ◌<◌, Bool, Contains, List, [], false, if◌then◌else◌}
use Rattle.std.specs.Prelude.{length, nat_le, not, refl, true, unwrap_or, ℕ, ◌∷◌, ◌≡◌, ◌≤◌}
use Rattle.cast_rules.specs.Acts.Act.{Sent}
use Rattle.cast_rules.specs.Order.{last_place, settled_to, told_by, unsettled_ids}
use Rattle.cast_rules.specs.State.{State, is_stable, local, others_of}
use Rattle.cast_message.specs.Bodies.{new_holder}
use Rattle.cast_message.specs.declared.message.Message.{Message}
use Rattle.cast_stable.specs.Stable.{Acked, is_known_stable, stable_upto, was_told}
use Rattle.cast_types.specs.Names.{Entry, uid_in, site_eq}
use Rattle.cast_types.specs.declared.names.GroupNo.{GroupNo}
use Rattle.cast_types.specs.declared.names.Proc.{Proc}
use Rattle.cast_types.specs.declared.names.SiteNo.{SiteNo}
use Rattle.cast_types.specs.declared.names.Uid.{Uid}
use Rattle.cast_view.specs.MemberSide.{has_view, is_pending, members_of}
use Rattle.cast_view.specs.Sites.{sites_of}
use Rattle.cast_world.proofs.Allowed.{contains_kept}
use Rattle.cast_world.proofs.Flush.{Choice, IsChosen, numbers}
use Rattle.cast_world.proofs.FlushSites.{chosen_members}
use Rattle.cast_world.proofs.FlushSteps.{Flushing, own_agrees}
use Rattle.cast_world.proofs.Homes.{site_in}
use Rattle.cast_world.proofs.Invariants.{Sites}
use Rattle.cast_world.proofs.Listings.{name_is, parts_of_id}
use Rattle.cast_world.proofs.Lists.{contains_split}
use Rattle.cast_world.proofs.OrderHands.{leads, settled_told, unsettled_rest}
use Rattle.cast_world.proofs.OrderLaters.{each_at, one_message}
use Rattle.cast_world.proofs.OrderMoves.{own_ordered}
use Rattle.cast_world.proofs.Orders.{AllOrdered, KnowsFirst, Leads, Orders, SiteOrdered, done_in}
use Rattle.cast_world.proofs.Settles.{settled_by}
use Rattle.cast_world.proofs.Steps.{Now, own_holds, own_is, sites_at}
use Rattle.cast_world.proofs.Tokens.{HandOvers, HasToken, tells, token_in}
use Rattle.cast_world.proofs.Windows.{AllWindow, Safe, ack_of, stable_acked}
use Rattle.cast_world.specs.Agreement.{is_in}
use Rattle.cast_world.specs.Network.{Network}

-- what is stable of a local process
module _ (here : SiteNo) (acks : List Acked) (told : List Uid) (g : GroupNo) (v k : ℕ) where
  abbrev me : Proc
  me = record { site = here; serial = k }

  by_acks : (others : List SiteNo) (c : ℕ) →
      (if site_eq here here then nat_le c (stable_upto acks others g v me)
      else was_told told (uid_in g v (me, c))) ≡ nat_le c (stable_upto acks others g v me)
  by_acks others c =
      ap (λ b. if b then nat_le c (stable_upto acks others g v me) else was_told told (uid_in g v (me, c))) (site_itself here)

  pub stable_less : (others : List SiteNo) (c d : ℕ) → c ≤ d → is_known_stable here others acks told (uid_in g v (me, d)) ≡ true →
      is_known_stable here others acks told (uid_in g v (me, c)) ≡ true
  stable_less [] c d le e = refl
  stable_less (s ∷ others) c d le e =
      let up : d ≤ stable_upto acks (s ∷ others) g v me =
      leb-true d (stable_upto acks (s ∷ others) g v me) (sym (by_acks (s ∷ others) d) ∙ e) in
      by_acks (s ∷ others) c ∙ le-leb c (stable_upto acks (s ∷ others) g v me) (omega (arith, le, up))

  pub stable_reads : (others : List SiteNo) (s : SiteNo) (d : ℕ) → Contains others s →
      is_known_stable here others acks told (uid_in g v (me, d)) ≡ true → d ≤ stable_upto acks others g v me
  stable_reads [] s d at e = absurd (omega (arith, at.1))
  stable_reads (z ∷ others) s d at e = leb-true d (stable_upto acks (z ∷ others) g v me) (sym (by_acks (z ∷ others) d) ∙ e)

module _ (home : SiteNo) (w : Network) (a : SiteNo) where
  abbrev at : State → Sites
  at t = sites_at home w a t

  abbrev number : State → GroupNo → ℕ
  number t = numbers (sites_at home w a t) home

  module _ (t : State) (now : Now home w a t) (choice : Choice) (f : Flushing home w a t choice) (order : Orders) (handed : HandOvers)
      (x : AllOrdered choice (number t) (at t) order handed) (safe : Safe)
      (y : AllWindow choice (number t) (at t) order safe) (g : GroupNo) (k : ℕ) (held : tells t.here (t.group g) g (t.acts k) k ≡ true)
      (waits : is_pending (t.group g) ≡ false) (viewed : has_view (t.group g) ≡ true) where
    abbrev own : SiteOrdered order handed t
    own = own_ordered home w a t now choice f order handed x

    abbrev v : ℕ
    v = (t.group g).number

    abbrev told : List Entry
    told = order g v

    abbrev done : List Entry
    done = done_in g v (t.abcasts k)

    abbrev first : ℕ
    first = unwrap_or (token_in t.here (t.group g) g (t.acts k) k) 1

    lead : Leads told first g v (local t k) (t.abcasts k) t.got
    lead = leads home w a t now choice f order handed x g k held waits

    -- the process's own set-order messages in the view
    abbrev Own : Message → Type 0
    Own m = Contains t.got m × (is_in g v m.id ≡ true) × (m.id.proc ≡ local t k)

    abbrev is_settled : Message → Bool
    is_settled m = is_stable t (uid_in g v (local t k, m.id.count))

    here_is : at t t.here ≡ t
    here_is = ap (at t) (own_holds home w a t now).here_is ∙ own_is home w a t

    own_sent : (m : Message) → Own m → Contains ((at t t.here).acts k) (Sent m)
    own_sent m o =
        subst (λ (p : Proc). Contains ((at t p.site).acts p.serial) (Sent m)) o.2 ((own_holds home w a t now).received m o.0).sent

    -- so many places are known at each site of the view
    abbrev pub settles : ℕ
    settles = settled_to t g k

    pub settles_told : settles ≤ length told
    settles_told = settled_told home w a t now choice f order handed x g k held waits

    -- and what was delivered beyond them is unsettled
    pub settles_near : length done ≤ settles + length (unsettled_ids t g k)
    settles_near = unsettled_rest home w a t now choice f order handed x g k held waits

    -- the places before the first one are known at each of them
    first_known : first ≤ safe g v + 1
    first_known = go (own.tokens g k held)
      where
        go : HasToken (handed g (t.group g).number) (t.group g) (local t k) (t.acts k)
            (unwrap_or (token_in t.here (t.group g) g (t.acts k) k) 1) →
            ◌≤◌ (unwrap_or (token_in t.here (t.group g) g (t.acts k) k) 1) (safe g (t.group g).number + 1)
        go (inl named) = let one = named.2 in omega (arith, one)
        go (inr m) =
            let last = (x.orders g (t.group g).number).last m.0 m.1 in
            let two = parts_of_id g (t.group g).number m.0.id last.in_view in
            let low = y.hands m.0.id.proc.site m.0.id.proc.serial m.0 (local t k) last.sent (ap new_holder m.2) in
            let place = ap last_place m.2 in
            let same : safe m.0.id.group m.0.id.view ≡ safe g (t.group g).number = λ i. safe (two.0 i) (two.1 i) in
            omega (arith, low, place, same)

    -- a settled message was received at each site of the view
    got_there : (q : Proc) → IsChosen choice g v q → (m : Message) → Own m → is_settled m ≡ true → Contains (at t q.site).got m
    got_there q chosen m o stable = go (site_eq t.here q.site) refl
      where
        go : (b : Bool) → site_eq t.here q.site ≡ b → Contains (at t q.site).got m
        go true e = subst (λ (z : State). Contains z.got m) (sym here_is ∙ ap (at t) (same_site t.here q.site e)) o.0
        go false e =
            let member = chosen_members choice g (t.group g) ((own_agrees home w a t choice f).groups g) viewed q chosen in
            let other : Contains (others_of t g) q.site =
            contains_kept (λ s. not (site_eq t.here s)) (sites_of (members_of (t.group g)))
            q.site (site_in (members_of (t.group g)) q member) (ap not e) in
            let counted : 1 ≤ m.id.count =
            (let s = contains_split ((at t t.here).acts k) (Sent m) (own_sent m o) in
            (each_at (at t) home now.0 (local t k) s.0 s.1 (Sent m) s.2).counted) in
            let up = stable_reads t.here t.acks t.told g v k (others_of t g) q.site m.id.count other stable in
            let ack =
            ack_of t.acks (uid_in g v (local t k, m.id.count))
            q.site (stable_acked t.acks (others_of t g) g v (local t k) m.id.count counted up q.site other) in
            let has =
            y.acked t.here q.site (uid_in g v (local t k, m.id.count))
            (subst (λ (z : State). Contains z.acks (q.site, uid_in g v (local t k, m.id.count))) (sym here_is) ack) in
            let name : uid_in g v (local t k, m.id.count) ≡ m.id = ap (λ p. uid_in g v (p, m.id.count)) (sym o.2) ∙ name_is g v m.id o.1 in
            let same : has.0 ≡ m =
            one_message (at t) home now.0 has.0 m ((now.0 q.site).received has.0 has.1).sent
            ((own_holds home w a t now).received m o.0).sent (has.2 ∙ name) in
            subst (Contains (at t q.site).got) same has.1

    -- a place before the last one that a stable message sets was told by a stable message
    is_stable_too : (z m : Message) (n : ℕ) (e : Entry) → Contains (t.acts k) (Sent z) → is_in g v z.id ≡ true → is_settled z ≡ true →
        n < last_place z.body → Own m → Contains (told_by m.body) (n + 1, e) → is_settled m ≡ true
    is_stable_too z m n e sent is stable lt o told_it = elim (cases_lt z.id.count m.id.count) [
      | inl later ↦ absurd (
          let one = parts_of_id g v z.id is in
          let two = parts_of_id g v m.id o.1 in
          let up =
          y.rising t.here k z m (n + 1, e) (subst (λ (s : State). Contains (s.acts k) (Sent z)) (sym here_is) sent) (own_sent m o)
          (one.0 ∙ sym two.0) (one.1 ∙ sym two.1) later told_it in
          omega (arith, up, lt))
      | inr le ↦ stable_less t.here t.acks t.told g v k (others_of t g) m.id.count z.id.count (omega (arith, le)) stable
    ]

    pub settles_known : (q : Proc) → IsChosen choice g v q → KnowsFirst (at t q.site).got g v told settles
    settles_known q chosen b c e is lt = elim (cases_lt (length b) (safe g v)) [
      | inl low ↦ y.knows g v q ((own_holds home w a t now).groups g).number chosen b c e is low
      | inr high ↦ elim (settled_by t g k (length b) lt) [
        | inl before ↦ absurd (let low = first_known in omega (arith, before, low, high))
        | inr late ↦
            let m = lead.told b c e is (let low = first_known in omega (arith, low, high)) in (
              m.0,
              got_there q chosen m.0 (m.1, m.2, m.3)
                  (is_stable_too late.0 m.0 (length b) e late.1.0 late.1.1 late.2 late.3 (m.1, m.2, m.3) m.4),
              m.2,
              m.4,
            )
      ]
    ]
