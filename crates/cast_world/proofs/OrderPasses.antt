-- What holds of orders at a site is kept where it passes to a view. Nothing of that view was delivered yet, and a process here that is to
-- tell its order first has told nothing.
use Rattle.std.proofs.Common.{ap, arith, inl, inr, subst, sym, ◌∙◌}
use Rattle.std.proofs.lemmas.Bool.{false_from_ne_true, false≢true}
use Rattle.std.proofs.lemmas.List.Elements.{Contains-append_left}
use Rattle.std.specs.Prelude.{◌++◌, ◌<◌, Bool, Contains, None, [], false, if◌then◌else◌}
use Rattle.std.specs.Prelude.{is_some, length, refl, true, unwrap_or, ℕ, ◌∷◌, ◌≡◌, ◌≤◌}
use Rattle.cast_rules.specs.Acts.{Act}
use Rattle.cast_rules.specs.Acts.Act.{Entered, Sent}
use Rattle.cast_rules.specs.Entering.{enters, in_view, is_put_out, passing, putting_out}
use Rattle.cast_rules.specs.Noted.{abcasts_by}
use Rattle.cast_rules.specs.State.{State, local}
use Rattle.cast_message.specs.Membership.{Membership}
use Rattle.cast_message.specs.declared.message.Message.{Message}
use Rattle.cast_types.specs.Counts.{CountList}
use Rattle.cast_types.specs.Names.{group_eq}
use Rattle.cast_types.specs.Sets.{set_at}
use Rattle.cast_types.specs.declared.names.GroupNo.{GroupNo}
use Rattle.cast_types.specs.declared.names.Proc.{Proc}
use Rattle.cast_types.specs.declared.names.SiteNo.{SiteNo}
use Rattle.cast_types.specs.declared.names.Standing.TheVariants.{Member}
use Rattle.cast_view.specs.MemberSide.{MemberSide, holder_of, is_pending, is_process, with_view}
use Rattle.cast_world.proofs.Facts.{HasDone}
use Rattle.cast_world.proofs.Flush.{Choice, Chosen, GroupAgrees, numbers}
use Rattle.cast_world.proofs.FlushLaters.{Extends}
use Rattle.cast_world.proofs.FlushSteps.{Flushing, own_agrees, passes_up}
use Rattle.cast_world.proofs.Invariants.{Sites}
use Rattle.cast_world.proofs.Kept.{Comes}
use Rattle.cast_world.proofs.Laters.{set_group_all}
use Rattle.cast_world.proofs.Listings.{done_none, no_abcast, parts_of_id}
use Rattle.cast_world.proofs.Lists.{done_entered, never_nil}
use Rattle.cast_world.proofs.Local.{cases_group}
use Rattle.cast_world.proofs.Ones.{set_here, set_other}
use Rattle.cast_world.proofs.OrderLaters.{named_chosen}
use Rattle.cast_world.proofs.OrderMoves.{own_ordered}
use Rattle.cast_world.proofs.OrderSites.{all_part_ordered, one_same, token_parted}
use Rattle.cast_world.proofs.Orders.{AllOrdered, OneOrdered, Orders, SiteOrdered, done_in}
use Rattle.cast_world.proofs.Steps.{Arrived, Now, own_holds, own_is, sites_at}
use Rattle.cast_world.proofs.Tokens.{HandOvers, HasToken, first_token, tells, token_entered, token_first, token_in, token_kept}
use Rattle.cast_world.specs.Agreement.{IsPrefix, is_in}
use Rattle.cast_world.specs.Network.{Network}

module _ (home : SiteNo) (w : Network) (a : SiteNo) where
  abbrev at : State → Sites
  at t = sites_at home w a t

  abbrev number : State → GroupNo → ℕ
  number t = numbers (sites_at home w a t) home

  module _ (t : State) (now : Now home w a t) (choice : Choice) (f : Flushing home w a t choice) (order : Orders) (handed : HandOvers)
      (x : AllOrdered choice (number t) (at t) order handed) where
    abbrev own : SiteOrdered order handed t
    own = own_ordered home w a t now choice f order handed x

    module _ (g : GroupNo) (skipped : Bool) (n : ℕ) (members : Membership) (request : ℕ) (cut : CountList)
        (comes : Comes (Arrived home w a) t g skipped n members request cut) where
      abbrev u : State
      u = passing t g skipped n members request cut

      abbrev left : State
      left = putting_out t g skipped members

      abbrev side : MemberSide
      side = with_view t.here n members (t.group g)

      module _ (more : Choice) (fu : Flushing home w a u more) (ext : Extends choice (number t) more (number u)) where
        left_ordered : SiteOrdered order handed left
        left_ordered = all_part_ordered order handed t own g (is_put_out t g skipped members)

        up : (t.group g).number < n
        up = passes_up home w a choice (number t) t g skipped n members request cut comes

        -- nothing was delivered of the view yet
        pub none_done : (k : ℕ) → done_in g n (t.abcasts k) ≡ []
        none_done k = done_none g n (t.abcasts k) (λ z c is.
            let two = parts_of_id g n z is in
            let was = own.low k z c in
            let same : (t.group z.group).number ≡ (t.group g).number = ap (λ y. (t.group y).number) two.0 in
            let view = two.1 in
            let lt = up in
            omega (arith, was, same, view, lt))

        -- and where a process here is to tell its order first nothing of it was told, and no hand-over was sent
        none_told : (k : ℕ) → is_process (local t k) (holder_of side) ≡ true → (order g n ≡ []) × (handed g n ≡ None)
        none_told k named = elim (x.orders g n).begun [
          | inl none ↦ none
          | inr b ↦ absurd (
              let agrees : GroupAgrees more g side =
              subst (GroupAgrees more g) (set_here t.group g side g refl) ((own_agrees home w a u more fu).groups g) in
              let named_it = named_chosen more g side agrees t.here k named in
              let was : more g n ≡ choice g n = (ext g).1 n b.decided in
              let holder : b.holder ≡ local t k =
              ap (λ o. unwrap_or o b.holder) (sym b.chosen ∙ sym (ap (λ (c : Chosen). c.members.holder) was) ∙ named_it) in
              let two = parts_of_id g n b.message.id b.in_view in
              let sent : Contains ((at t t.here).acts k) (Sent b.message) =
              subst (λ (p : Proc). Contains ((at t p.site).acts p.serial) (Sent b.message)) (b.own ∙ holder) b.sent in
              let here : at t t.here ≡ t = ap (at t) (own_holds home w a t now).here_is ∙ own_is home w a t in
              let before = own.low_done k b.message (inl (subst (λ (z : State). Contains (z.acts k) (Sent b.message)) here sent)) in
              let same : (t.group b.message.id.group).number ≡ (t.group g).number = ap (λ y. (t.group y).number) two.0 in
              let lt = up in
              let view = two.1 in
              omega (arith, before, same, view, lt))
        ]

        done_was : (k : ℕ) (m : Message) (b : Bool) → HasDone (if b then left.acts k ++ Entered g n cut ∷ [] else left.acts k) m →
            HasDone (left.acts k) m
        done_was k m true c = done_entered (left.acts k) g n cut m c
        done_was k m false c = c

        -- no process here did anything in the view, so it has the token where the Install names it
        none_in_view : (k : ℕ) (m : Message) → HasDone (u.acts k) m → is_in g n m.id ≡ false
        none_in_view k m did = false_from_ne_true (is_in g n m.id) (λ is.
            let two = parts_of_id g n m.id is in
            let was = left_ordered.low_done k m (done_was k m (enters left g members request k) did) in
            let same : (t.group m.id.group).number ≡ (t.group g).number = ap (λ y. (t.group y).number) two.0 in
            let view = two.1 in
            let lt = up in
            omega (arith, was, same, view, lt))

        token_new : (k : ℕ) → token_in t.here side g (u.acts k) k ≡ first_token (is_process (local t k) (holder_of side))
        token_new k = token_first (local t k) g n (first_token (is_process (local t k) (holder_of side))) (u.acts k) (none_in_view k)

        named_first : (b : Bool) → is_some (first_token b) ≡ true → (b ≡ true) × (unwrap_or (first_token b) 1 ≡ 1)
        named_first true e = (refl, refl)
        named_first false e = absurd (false≢true e)

        named : (k : ℕ) → tells t.here side g (u.acts k) k ≡ true →
            (is_process (local t k) (holder_of side) ≡ true) × (unwrap_or (token_in t.here side g (u.acts k) k) 1 ≡ 1)
        named k held =
            let two = named_first (is_process (local t k) (holder_of side)) (sym (ap is_some (token_new k)) ∙ held) in
            (two.0, ap (λ o. unwrap_or o 1) (token_new k) ∙ two.1)

        token_here : (k : ℕ) → tells t.here side g (u.acts k) k ≡ true →
            HasToken (handed g n) side (local t k) (u.acts k) (unwrap_or (token_in t.here side g (u.acts k) k) 1)
        token_here k held = let is = named k held in inl ((none_told k is.0).1, is.0, is.1)

        one_new : (k : ℕ) → OneOrdered ((u.process k).standing g) (token_in t.here side g (u.acts k) k) (order g n)
            g n (record { site = t.here; serial = k }) (t.abcasts k) t.got
        one_new k = record {
          follows = λ _ _. record {
            begins = (order g n, ap (λ l. l ++ order g n) (none_done k));
            known = λ b c y is lt. absurd (let none = ap length (none_done k) in omega (arith, none, lt));
          };
          leads = λ held.
              let none = (none_told k (named k held).0).0 in
              record {
                all = subst (λ l. IsPrefix l (done_in g n (t.abcasts k))) (sym none) (done_in g n (t.abcasts k), refl);
                known = λ b c y is lt. absurd (never_nil b c y (sym none ∙ is));
                told = λ b c y is low. absurd (never_nil b c y (sym none ∙ is));
                low = (let one = (named k held).1 in omega (arith, one));
                places = (let few = ap length (none_done k) in omega (arith, few));
              };
        }

        abbrev next : GroupNo → MemberSide
        next = set_at group_eq t.group g side

        -- in another group who has the token has it still
        token_same : (h : GroupNo) (k : ℕ) (b : Bool) → token_in t.here (t.group h)
            h (if b then left.acts k ++ Entered g n cut ∷ [] else left.acts k) k ≡ token_in t.here (t.group h) h (left.acts k) k
        token_same h k true = token_entered t.here (t.group h) h (left.acts k) k g n cut
        token_same h k false = refl

        pub token_stays_apart : (h : GroupNo) (k : ℕ) →
            token_in t.here (t.group h) h (u.acts k) k ≡ token_in t.here (t.group h) h (t.acts k) k
        token_stays_apart h k = token_same h k (enters left g members request k) ∙ token_parted t g (is_put_out t g skipped members) k h

        did : (k : ℕ) (y : Act) (b : Bool) → Contains (left.acts k) y →
            Contains (if b then left.acts k ++ Entered g n cut ∷ [] else left.acts k) y
        did k y true c = Contains-append_left (left.acts k) (Entered g n cut ∷ []) y c
        did k y false c = c

        tokens_in : (h : GroupNo) (k : ℕ) → tells t.here (next h) h (u.acts k) k ≡ true → HasToken (handed h (next h).number) (next h)
            (record { site = t.here; serial = k }) (u.acts k) (unwrap_or (token_in t.here (next h) h (u.acts k) k) 1)
        tokens_in h k = elim (cases_group g h) [
          | inl here ↦
              subst (λ (z : MemberSide). tells t.here z h (u.acts k) k ≡ true → HasToken (handed h z.number)
              z (record { site = t.here; serial = k }) (u.acts k) (unwrap_or (token_in t.here z h (u.acts k) k) 1))
              (sym (set_here t.group g side h here))
              (subst (λ y. tells t.here side y (u.acts k) k ≡ true → HasToken (handed y n) side (record { site = t.here; serial = k })
              (u.acts k) (unwrap_or (token_in t.here side y (u.acts k) k) 1)) here (token_here k))
          | inr apart ↦
              subst (λ (z : MemberSide). tells t.here z h (u.acts k) k ≡ true → HasToken (handed h z.number)
              z (record { site = t.here; serial = k }) (u.acts k) (unwrap_or (token_in t.here z h (u.acts k) k) 1))
              (sym (set_other t.group g side h apart))
              (token_kept (handed h (t.group h).number) (t.group h) (record { site = t.here; serial = k }) (left.acts k) (u.acts k)
              (token_in t.here (t.group h) h (left.acts k) k) (token_in t.here (t.group h) h (u.acts k) k)
              (token_same h k (enters left g members request k)) (λ y c. did k y (enters left g members request k) c)
              (left_ordered.tokens h k))
        ]

        -- in another group it is as it was
        pub standing_same : (h : GroupNo) (k : ℕ) → (g ≡ h → ⊥) → (u.process k).standing h ≡ Member → (left.process k).standing h ≡ Member
        standing_same h k apart e = go (enters left g members request k) e
          where
            go : (b : Bool) → (if b then in_view g n (left.process k) else left.process k).standing h ≡ Member →
                (left.process k).standing h ≡ Member
            go true s = sym (set_other (left.process k).standing g Member h apart) ∙ s
            go false s = s

        one_in : (h : GroupNo) (k : ℕ) → is_pending (next h) ≡ false →
            OneOrdered ((u.process k).standing h) (token_in t.here (next h) h (u.acts k) k) (order h (next h).number)
            h (next h).number (record { site = t.here; serial = k }) (t.abcasts k) t.got
        one_in h k waits = elim (cases_group g h) [
          | inl here ↦
              subst (λ (z : MemberSide). OneOrdered ((u.process k).standing h) (token_in t.here z h (u.acts k) k) (order h z.number)
              h z.number (record { site = t.here; serial = k }) (t.abcasts k) t.got) (sym (set_here t.group g side h here))
              (subst (λ y. OneOrdered ((u.process k).standing y) (token_in t.here side y (u.acts k) k) (order y n)
              y n (record { site = t.here; serial = k }) (t.abcasts k) t.got) here (one_new k))
          | inr apart ↦
              subst (λ (z : MemberSide). is_pending z ≡ false → OneOrdered ((u.process k).standing h) (token_in t.here z h (u.acts k) k)
              (order h z.number) h z.number (record { site = t.here; serial = k }) (t.abcasts k) t.got)
              (sym (set_other t.group g side h apart))
              (λ quiet. subst (λ z. OneOrdered ((u.process k).standing h) z (order h (t.group h).number) h (t.group h).number
              (record { site = t.here; serial = k }) (t.abcasts k) t.got) (sym (token_same h k (enters left g members request k)))
              (one_same ((left.process k).standing h) ((u.process k).standing h) (token_in t.here (t.group h) h (left.acts k) k)
              (order h (t.group h).number) h (t.group h).number (record { site = t.here; serial = k }) (t.abcasts k) (t.abcasts k)
              t.got t.got refl (λ m c. c)
              (standing_same h k apart) (left_ordered.ones h k quiet))) waits
        ]

        later : (h : GroupNo) (z : ℕ) → z ≤ (t.group h).number → z ≤ (next h).number
        later h z =
            set_group_all (λ j (y : MemberSide). z ≤ (t.group j).number → z ≤ y.number) t.group g side (λ j le. le)
            (λ le. let lt = up in omega (arith, le, lt)) h

        acts_same : (k : ℕ) (b : Bool) →
            abcasts_by (left.acts k) ≡ abcasts_by (if b then left.acts k ++ Entered g n cut ∷ [] else left.acts k)
        acts_same k true = no_abcast (left.acts k) (Entered g n cut) refl
        acts_same k false = refl

        pub passes_ordered : SiteOrdered order handed u
        passes_ordered = record {
          listed = λ k. left_ordered.listed k ∙ acts_same k (enters left g members request k);
          once = own.once;
          low = λ k z c. later z.group z.view (own.low k z c);
          low_done = λ k m c. later m.id.group m.id.view (left_ordered.low_done k m (done_was k m (enters left g members request k) c));
          tokens = tokens_in;
          frozen = set_group_all (λ h (z : MemberSide). is_pending z ≡ true → z.frozen ≡ true)
              t.group g side own.frozen (λ e. absurd (false≢true e));
          ones = one_in;
        }
