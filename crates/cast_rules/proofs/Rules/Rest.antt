-- By what a domain does of itself a site that follows another goes on standing for it.
use Rattle.std.proofs.Common.{◌≡◌, ℕ, List, [], ◌∷◌, Option, Some, None, refl, sym, subst, inl, inr}
use Rattle.std.specs.List.{fold}
use Rattle.cast_rules.specs.Rules.Interface.{Site, Resting}
use Rattle.cast_rules.specs.Rules.Order.{set_order_by, set_order, set_orders}
use Rattle.cast_rules.specs.Rules.Flushes.{go_on, go_on_all}
use Rattle.cast_message.specs.declared.client.Push.{Push}
use Rattle.cast_rules.specs.Rules.Rest.{tell_if, deliver_all, settle, pass}
use Rattle.cast_rules.proofs.Totals.{In}
use Rattle.cast_rules.proofs.Rules.Follows.{FollowsAll, IsInvariantOfAll, each, each_place}
use Rattle.cast_rules.proofs.Rules.Leaving.{told_keeps}
use Rattle.cast_rules.proofs.Rules.Home.{lead_follows}

-- an invariant of the moves holds after a program is told something, or nothing
pub told_if_keeps : {S H : Type 0} (d : Site S H) (holds : S → Type 0) → IsInvariantOfAll d holds → (s : S) → holds s →
    (k : ℕ) (told : Option Push) → holds (tell_if d s k told)
told_if_keeps d holds keeps s l k (Some p) = told_keeps d holds keeps s l k p
told_if_keeps d holds keeps s l k None = l

-- beside all that other rules ask and do: both have the same serials, and the same processes that hold the token of one group; and they
-- stand for each other after all deliveries of one process, after what a process lists in one group, and after the Install that waits in
-- one group, or what the site wants for it
pub record FollowsToRest {R S H K : Type 0} (a : Site R H) (b : Site S K) (x : Resting R H) (y : Resting S K) (fits : R → S → Type 0)
    (stands : H → K → Type 0) : Type 1 where
  pub all : FollowsAll a b fits stands
  pub serials : (r : R) (s : S) → fits r s → x.serials r ≡ y.serials s
  pub same_serials : (s : S) (k : ℕ) → y.serials (deliver_all b y s k) ≡ y.serials s
  pub delivers : (r : R) (s : S) → fits r s → (k : ℕ) → In k (y.serials s) → fits (deliver_all a x r k) (deliver_all b y s k)
  pub holders : (r : R) (s : S) → fits r s → (h : H) (l : K) → stands h l → x.holders r h ≡ y.holders s l
  pub orders : (r : R) (s : S) → fits r s → (h : H) (l : K) → stands h l → (k : ℕ) → fits (set_order_by a x r h k) (set_order_by b y s l k)
  pub goes_on : (r : R) (s : S) → fits r s → (h : H) (l : K) → stands h l → fits (go_on a x r h) (go_on b y s l)

module _ {R S H K : Type 0} (a : Site R H) (b : Site S K) (x : Resting R H) (y : Resting S K) (fits : R → S → Type 0)
    (stands : H → K → Type 0) (rests : FollowsToRest a b x y fits stands) where
  each_delivers : (ks : List ℕ) (r : R) (s : S) → fits r s → ((k : ℕ) → In k ks → In k (y.serials s)) →
      fits (fold (deliver_all a x) r ks) (fold (deliver_all b y) s ks)
  each_delivers [] r s f among = f
  each_delivers (k ∷ ks) r s f among =
      each_delivers ks (deliver_all a x r k) (deliver_all b y s k) (rests.delivers r s f k (among k (inl refl)))
      (λ j at. subst (In j) (sym (rests.same_serials s k)) (among j (inr at)))

  settle_follows : (r : R) (s : S) → fits r s → fits (settle a x r) (settle b y s)
  settle_follows r s f =
      subst (λ ks. fits (fold (deliver_all a x) r ks) (settle b y s)) (sym (rests.serials r s f))
      (each_delivers (y.serials s) r s f (λ k at. at))

  set_order_follows : (r : R) (s : S) → fits r s → (h : H) (l : K) → stands h l → fits (set_order a x r h) (set_order b y s l)
  set_order_follows r s f h l at =
      subst (λ ks. fits (fold (λ t k. set_order_by a x t h k) r ks) (set_order b y s l)) (sym (rests.holders r s f h l at))
      (each fits (λ t k. set_order_by a x t h k) (λ t k. set_order_by b y t l k) (λ t u k same. rests.orders t u same h l at k)
      (y.holders s l) r s f)

  pub pass_follows : (r : R) (s : S) → fits r s → fits (pass a x r) (pass b y s)
  pass_follows r s f =
      let t : R = settle a x r in
      let u : S = settle b y s in
      let settled : fits t u = settle_follows r s f in
      let v : R = set_orders a x t in
      let w : S = set_orders b y u in
      let ordered : fits v w =
      each_place fits stands (set_order a x) (set_order b y) set_order_follows (a.places t) (b.places u) (rests.all.places t u settled)
      t u settled in
      lead_follows a b fits stands rests.all (go_on_all a x v) (go_on_all b y w)
      (each_place fits stands (go_on a x) (go_on b y) rests.goes_on (a.places v) (b.places w) (rests.all.places v w ordered) v w ordered)
