-- A site reports the order that it has of a view that is flushed. Each of its members has delivered a prefix of that order.
use Rattle.cast_types.proofs.Orders.{same_entry}
use Rattle.std.proofs.Common.{ap, append_assoc, arith, inl, inr, subst, sym, ◌∙◌}
use Rattle.std.proofs.lemmas.Bool.{and_parts, cases_Bool, false≢true, true≢false}
use Rattle.std.proofs.lemmas.List.Elements.{Contains-append_left}
use Rattle.std.proofs.lemmas.List.{append-nil, length-append}
use Rattle.std.specs.List.{find, list_any}
use Rattle.std.specs.Option.{option_map_or}
use Rattle.std.specs.Prelude.{◌&&◌, ◌++◌, Bool, Contains, List, None, Option, Some, [], false, if◌then◌else◌}
use Rattle.std.specs.Prelude.{is_some, length, map, not, refl, suc, true, unwrap_or, ◌||◌, ℕ, ◌∷◌, ◌≡◌, ◌⊎◌}
use Rattle.cast_ready.specs.Ready.{is_outside}
use Rattle.cast_rules.specs.Order.{holder_here, holds, is_of_view, order_told, told_by, unlisted_ids}
use Rattle.cast_rules.specs.Reports.{is_unplaced, kept_in, kept_list, report_in, whole_order}
use Rattle.cast_rules.specs.State.{State, local, serials}
use Rattle.cast_message.specs.Bodies.{kind_of}
use Rattle.cast_message.specs.declared.message.Message.{Message}
use Rattle.cast_types.specs.Names.{Entry, entry_cmp, entry_eq, entry_of, is_atomic, uid_in}
use Rattle.cast_types.specs.Sets.{is_among, set_of}
use Rattle.cast_types.specs.declared.limits.TheConstants.{MAX_KEPT}
use Rattle.cast_types.specs.declared.names.GroupNo.{GroupNo}
use Rattle.cast_types.specs.declared.names.Proc.{Proc}
use Rattle.cast_types.specs.declared.names.SiteNo.{SiteNo}
use Rattle.cast_types.specs.declared.names.Standing.TheVariants.{Member}
use Rattle.cast_view.specs.MemberSide.{is_pending}
use Rattle.cast_world.proofs.Acts.{contains_cons}
use Rattle.cast_world.proofs.Allowed.{contains_range, passed, taken_of}
use Rattle.cast_world.proofs.Closings.{HasReported, HasSaid, IsAbcast, Stopped}
use Rattle.cast_world.proofs.Flush.{Choice, numbers}
use Rattle.cast_world.proofs.FlushSteps.{Flushing, own_agrees}
use Rattle.cast_world.proofs.Homes.{among_kept}
use Rattle.cast_world.proofs.Invariants.{Sites}
use Rattle.cast_world.proofs.Keeps.{found_is}
use Rattle.cast_world.proofs.Listings.{apart_done, done_named, name_is}
use Rattle.cast_world.proofs.OrderHands.{leads}
use Rattle.cast_world.proofs.OrderLaters.{teller_chosen}
use Rattle.cast_world.proofs.OrderMoves.{abcast_had, own_ordered, stand_in}
use Rattle.cast_world.proofs.OrderTells.{is_told, knows_begin, knows_done, order_by_is}
use Rattle.cast_world.proofs.Tokens.{HandOvers, tells, token_in}
use Rattle.cast_world.proofs.Orders.{AllOrdered, Apart, Leads, Orders, SiteOrdered, Stands, done_in, token_at}
use Rattle.cast_world.proofs.Prefixes.{apart_first}
use Rattle.cast_world.proofs.Runs.{from_mapped}
use Rattle.cast_world.proofs.Steps.{Now, own_holds, own_is, sites_at}
use Rattle.cast_world.proofs.WindowMoves.{own_leading}
use Rattle.cast_world.proofs.Windows.{AllWindow, Safe}
use Rattle.cast_world.specs.Agreement.{IsPrefix, is_in}
use Rattle.cast_world.specs.Network.{Network}

-- where none is found no element passes
none_found : {X : Type 0} (test : X → Bool) (xs : List X) → find test xs ≡ None → (x : X) → Contains xs x → test x ≡ true → ⊥
none_found test [] none x at is = omega (arith, at.1)
none_found {X} test (y ∷ xs) none x at is =
    go (test y) refl none (λ found later. none_found test xs found x later is) (contains_cons y xs x at)
  where
    go : (b : Bool) → test y ≡ b → (if b then Some y else find test xs) ≡ None → (find test xs ≡ None → Contains xs x → ⊥) →
        (y ≡ x) ⊎ Contains xs x → ⊥
    go true e found more there = true≢false (ap is_some found)
    go false e found more (inl same) = true≢false (sym is ∙ ap test (sym same) ∙ e)
    go false e found more (inr later) = more found later

-- what is marked as an ABCAST without a place is a kept ABCAST
unplaced_kept : (kept : List Message) (e : Entry) → list_any (λ m. is_atomic (kind_of m.body) && entry_eq (entry_of m.id) e) kept ≡ true →
    (m : Message) × Contains kept m × (is_atomic (kind_of m.body) ≡ true) × (entry_of m.id ≡ e)
unplaced_kept [] e is = absurd (false≢true is)
unplaced_kept (m ∷ kept) e is = go (is_atomic (kind_of m.body) && entry_eq (entry_of m.id) e) refl is (unplaced_kept kept e)
  where
    go : (b : Bool) → (is_atomic (kind_of m.body) && entry_eq (entry_of m.id) e) ≡ b →
        (b || list_any (λ x. is_atomic (kind_of x.body) && entry_eq (entry_of x.id) e) kept) ≡ true →
        (list_any (λ x. is_atomic (kind_of x.body) && entry_eq (entry_of x.id) e) kept ≡ true →
        (x : Message) × Contains kept x × (is_atomic (kind_of x.body) ≡ true) × (entry_of x.id ≡ e)) →
        (x : Message) × Contains (m ∷ kept) x × (is_atomic (kind_of x.body) ≡ true) × (entry_of x.id ≡ e)
    go true yes_it all more =
        let two = and_parts (is_atomic (kind_of m.body)) (entry_eq (entry_of m.id) e) yes_it in
        (m, (0, omega arith, refl), two.0, same_entry (entry_of m.id) e two.1)
    go false not_it all more = let r = more all in (r.0, (suc r.1.0, omega (arith, r.1.1), r.1.2), r.2, r.3)

module _ (home : SiteNo) (w : Network) (a : SiteNo) where
  abbrev at : State → Sites
  at t = sites_at home w a t

  abbrev number : State → GroupNo → ℕ
  number t = numbers (sites_at home w a t) home

  module _ (t : State) (now : Now home w a t) (choice : Choice) (f : Flushing home w a t choice) (order : Orders) (handed : HandOvers)
      (x : AllOrdered choice (number t) (at t) order handed) (safe : Safe)
      (y : AllWindow choice (number t) (at t) order safe) (g : GroupNo) (frozen : (t.group g).frozen ≡ true)
      (waits : is_pending (t.group g) ≡ false) where
    abbrev own : SiteOrdered order handed t
    own = own_ordered home w a t now choice f order handed x

    abbrev v : ℕ
    v = (t.group g).number

    abbrev stand : (m : Message) (fact : ℕ × Entry) → Contains t.got m → is_in g v m.id ≡ true → Contains (told_by m.body) fact →
        Stands (order g v) fact
    stand = stand_in home w a t now choice f order handed x g v

    abbrev done : ℕ → List Entry
    done k = done_in g v (t.abcasts k)

    abbrev knows : IsPrefix (order_told t g) (order g v)
    knows = subst (λ l. IsPrefix l (order g v)) (is_told (order g v) t g waits stand) (knows_begin (order g v) t g waits stand)

    -- who follows the order has delivered a prefix of what the site knows
    follows_known : (k : ℕ) → (t.process k).standing g ≡ Member → tells t.here (t.group g) g (t.acts k) k ≡ false →
        IsPrefix (done k) (order_told t g)
    follows_known k member other =
        let one = (own.ones g k waits).follows member other in
        knows_done (order g v) t g waits stand (done k) one.begins one.known
        (let n =
        ap length one.begins.1 in
        let parts =
        length-append (done k) one.begins.0 in let few = (x.orders g v).few in omega (arith, n, parts, few))

    abbrev here_is : at t a ≡ t
    here_is = own_is home w a t

    abbrev Said : List Entry → Type 0
    Said whole = HasSaid choice (at t) order handed safe a g v whole

    members_begin : (whole : List Entry) → ((k : ℕ) → (t.process k).standing g ≡ Member → IsPrefix (done k) whole) →
        (k : ℕ) → ((at t a).process k).standing g ≡ Member → ((at t a).group g).number ≡ v → is_pending ((at t a).group g) ≡ false →
        IsPrefix (done_in g v ((at t a).abcasts k)) whole
    members_begin whole all k =
        subst (λ (s : State). (s.process k).standing g ≡ Member → (s.group g).number ≡ v → is_pending (s.group g) ≡ false →
        IsPrefix (done_in g v (s.abcasts k)) whole) (sym here_is) (λ member _ _. all k member)

    -- no member here tells the order
    said_by_none : ((k : ℕ) → (t.process k).standing g ≡ Member → tells t.here (t.group g) g (t.acts k) k ≡ true → ⊥) →
        Said (order_told t g)
    said_by_none never = record {
      stopped = subst (λ (s : State). Stopped (s.group g) v) (sym here_is) record { reached = omega arith; frozen = λ _. frozen };
      side = inl knows;
      below =
          (let n = ap length knows.1 in
          let parts = length-append (order_told t g) knows.0 in
          let near = y.near g v in
          omega (arith, n, parts, near));
      few =
          (let n = ap length knows.1 in
          let parts = length-append (order_told t g) knows.0 in
          let few = (x.orders g v).few in
          omega (arith, n, parts, few));
      apart = apart_first (order_told t g) knows.0 (subst Apart (sym knows.1) (x.orders g v).apart);
      kinds = λ e c. (x.orders g v).atomic e (subst (λ l. Contains l e) knows.1 (Contains-append_left (order_told t g) knows.0 e c));
      begins = members_begin (order_told t g) (λ k member. elim (cases_Bool (tells t.here (t.group g) g (t.acts k) k)) [
        | inl is ↦
            absurd (never k member is)
        | inr other ↦ follows_known k member other
      ]);
    }

    has_token : (k : ℕ) → tells t.here (t.group g) g (t.acts k) k ≡ true → token_at choice handed g v ≡ Some (local t k)
    has_token k held =
        teller_chosen choice handed g (t.group g) ((own_agrees home w a t choice f).groups g) t.here k (t.acts k)
        (unwrap_or (token_in t.here (t.group g) g (t.acts k) k) 1) (own.tokens g k held)

    -- one does: it has all of the order and more
    said_by_holder : (k : ℕ) → tells t.here (t.group g) g (t.acts k) k ≡ true → Said (order_told t g ++ unlisted_ids t g k)
    said_by_holder k held = record {
      stopped = subst (λ (s : State). Stopped (s.group g) v) (sym here_is) record { reached = omega arith; frozen = λ _. frozen };
      side = inr record {
        holder = local t k;
        chosen = has_token k held;
        there = (own_holds home w a t now).here_is;
        all = subst (IsPrefix (order g v)) (sym whole_is) lead.all;
        done = subst (λ (s : State). IsPrefix (order_told t g ++ unlisted_ids t g k) (done_in g v (s.abcasts k))) (sym here_is)
            ([], append-nil (order_told t g ++ unlisted_ids t g k) ∙ whole_is);
      };
      below = (let n = ap length whole_is in let low = own_leading home w a t choice order safe y g k held waits in omega (arith, n, low));
      few = (let n = ap length whole_is in let low = lead.places in omega (arith, n, low));
      apart = subst Apart (sym whole_is) (apart_done g v (t.abcasts k) (own.once k));
      kinds = λ e c.
          let had =
          abcast_had home w a t now choice f order handed x k (uid_in g v e)
          (done_named g v (t.abcasts k) e (subst (λ l. Contains l e) whole_is c)) in
          (had.0, had.1, had.2, had.3);
      begins =
          members_begin (order_told t g ++ unlisted_ids t g k) (λ j member. elim (cases_Bool (tells t.here (t.group g) g (t.acts j) j)) [
            | inl is ↦
                subst (λ i. IsPrefix (done i) (order_told t g ++ unlisted_ids t g k)) (one j is) ([], append-nil (done k) ∙ sym whole_is)
            | inr other ↦
                (let p = follows_known j member other in
                (p.0 ++ unlisted_ids t g k, sym (append_assoc (done j) p.0 (unlisted_ids t g k)) ∙ ap (λ l. l ++ unlisted_ids t g k) p.1))
          ]);
    }
      where
        lead : Leads (order g (t.group g).number) (unwrap_or (token_in t.here (t.group g) g (t.acts k) k) 1)
            g (t.group g).number (local t k) (t.abcasts k) t.got
        lead = leads home w a t now choice f order handed x g k held waits

        whole_is : order_told t g ++ unlisted_ids t g k ≡ done_in g (t.group g).number (t.abcasts k)
        whole_is =
            order_by_is (order g (t.group g).number) t g waits (stand_in home w a t now choice f order handed x g (t.group g).number)
            k (unwrap_or (token_in t.here (t.group g) g (t.acts k) k) 1) lead ((own_ordered home w a t now choice f order handed x).once k)

        one : (j : ℕ) → tells t.here (t.group g) g (t.acts j) j ≡ true → k ≡ j
        one j is = ap (λ (o : Option Proc). (unwrap_or o (local t k)).serial) (sym (has_token k held) ∙ has_token j is)

    -- what it has
    abbrev whole : List Entry
    whole = whole_order t g

    -- a member's serial was given
    given_here : (k : ℕ) → (t.process k).standing g ≡ Member → Contains (serials t) k
    given_here k member =
        let given = ((own_holds home w a t now).ones k).given g (ap is_outside member) in
        contains_range 1 t.used k given.0 (let high = given.1 in omega (arith, high))

    said : Said whole
    said = go (holder_here t g) refl
      where
        go : (o : Option ℕ) → holder_here t g ≡ o →
            HasSaid choice (at t) order handed safe a g (t.group g).number (order_told t g ++ option_map_or (unlisted_ids t g) o [])
        go (Some k) e = said_by_holder k (found_is (holds t g) (serials t) k e).0
        go None e =
            subst (λ l. HasSaid choice (at t) order handed safe a g (t.group g).number l) (sym (append-nil (order_told t g)))
            (said_by_none (λ k member is. none_found (holds t g) (serials t) e k (given_here k member) is))

    marked : (e : Entry) → Contains (kept_list (kept_in t g) whole) (e, true) → IsAbcast (at t) g v e
    marked e c =
        let all =
        map (λ (z : Entry). (z, is_unplaced (kept_in t g) whole z))
        (set_of entry_cmp (map (λ (m : Message). entry_of m.id) (kept_in t g))) in
        let from =
        from_mapped (λ (z : Entry). (z, is_unplaced (kept_in t g) whole z))
        (set_of entry_cmp (map (λ (m : Message). entry_of m.id) (kept_in t g))) (e, true) (taken_of MAX_KEPT all (e, true) c) in
        let mark : is_unplaced (kept_in t g) whole from.0 ≡ true = ap (λ (z : Entry × Bool). z.1) from.2 in
        let name : from.0 ≡ e = ap (λ (z : Entry × Bool). z.0) from.2 in
        let m = unplaced_kept (kept_in t g) from.0 (and_parts _ (not (is_among entry_eq from.0 whole)) mark).0 in
        let in_view : is_in g v m.0.id ≡ true = passed (λ (z : Message). is_of_view t g z.id) t.kept m.0 m.1 in (
          m.0,
          ((own_holds home w a t now).stored m.0 (among_kept (λ (z : Message). is_of_view t g z.id) t.kept m.0 m.1)).sent,
          sym (name_is g v m.0.id in_view) ∙ ap (uid_in g v) (m.3 ∙ name),
          m.2,
        )

    -- and reports it
    pub reports_it : HasReported choice (at t) order handed safe a g v (report_in t g).tail (report_in t g).kept
    reports_it = (whole, said, refl, marked)
