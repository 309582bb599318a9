-- Acknowledgements, and how far each site of a view knows its order, at every moment. Who tells the order has delivered at most
-- `MAX_UNSETTLED` more ABCASTs than each site of the view knows places.
use Rattle.cast_types.proofs.Orders.{same_site, same_uid}
use Rattle.std.proofs.Common.{arith, inl, inr, subst}
use Rattle.std.proofs.lemmas.Bool.{and_parts, cases_lt, false≢true}
use Rattle.std.specs.List.{list_all}
use Rattle.std.specs.Prelude.{◌&&◌, ◌+◌, ◌<◌, Bool, Contains, List, Some, [], false, if◌then◌else◌}
use Rattle.std.specs.Prelude.{length, refl, suc, true, zero, ◌||◌, ℕ, ◌∷◌, ◌≡◌, ◌≤◌, ◌⊎◌}
use Rattle.cast_rules.specs.Acts.Act.{Sent}
use Rattle.cast_rules.specs.Order.{last_place, told_by}
use Rattle.cast_message.specs.Bodies.{new_holder}
use Rattle.cast_message.specs.declared.message.Message.{Message}
use Rattle.cast_message.specs.declared.site.SiteFrame.{SiteFrame}
use Rattle.cast_stable.specs.Stable.{Acked, acked_from, greatest_acked, has_acked, stable_upto}
use Rattle.cast_types.specs.Names.{Entry, uid_in, site_eq, uid_eq}
use Rattle.cast_types.specs.declared.limits.TheConstants.{MAX_UNSETTLED}
use Rattle.cast_types.specs.declared.names.GroupNo.{GroupNo}
use Rattle.cast_types.specs.declared.names.Proc.{Proc}
use Rattle.cast_types.specs.declared.names.SiteNo.{SiteNo}
use Rattle.cast_types.specs.declared.names.Uid.{Uid}
use Rattle.cast_view.specs.MemberSide.{is_pending}
use Rattle.cast_world.proofs.Allowed.{contains_more, passes}
use Rattle.cast_world.proofs.Flush.{Choice, IsChosen}
use Rattle.cast_world.proofs.Invariants.{Sites}
use Rattle.cast_world.proofs.Orders.{KnowsFirst, Orders, done_in}
use Rattle.cast_world.proofs.Tokens.{tells}
use Rattle.cast_message.specs.declared.site.SiteFrame.TheVariants as frame

-- a message of this name was received
abbrev pub HasGot : List Message → Uid → Type 0
HasGot got u = (m : Message) × Contains got m × (m.id ≡ u)

-- an Ack is of a message that its site received
abbrev pub AckTrue : List Message → SiteFrame → Type 0
AckTrue got (frame.Data m) = Unit {0}
AckTrue got (frame.Ack u) = HasGot got u
AckTrue got (frame.Stable u) = Unit {0}
AckTrue got (frame.Ask g number what p) = Unit {0}
AckTrue got (frame.Asked g number full) = Unit {0}
AckTrue got (frame.Prepare g view) = Unit {0}
AckTrue got (frame.Flushed g view counts tail kept) = Unit {0}
AckTrue got (frame.Want u) = Unit {0}
AckTrue got (frame.Forward m) = Unit {0}
AckTrue got (frame.Install g view members request cut tail) = Unit {0}
AckTrue got (frame.Installed g view) = Unit {0}
AckTrue got (frame.Out g view) = Unit {0}

-- of each view how many places of its order each of its sites knows; it is a ghost
abbrev pub Safe : Type 0
Safe = GroupNo → ℕ → ℕ

pub record AllWindow (choice : Choice) (number : GroupNo → ℕ) (at : Sites) (order : Orders) (safe : Safe) : Type 0 where
  pub acked : (s q : SiteNo) (u : Uid) → Contains (at s).acks (q, u) → HasGot (at q).got u
  pub sent : (s to : SiteNo) (f : SiteFrame) → Contains (at s).frames (to, f) → AckTrue (at s).got f
  -- of two set-order messages of one process in one view the later one tells later places
  pub rising : (s : SiteNo) (k : ℕ) (x y : Message) (e : ℕ × Entry) → Contains ((at s).acts k) (Sent x) →
      Contains ((at s).acts k) (Sent y) → x.id.group ≡ y.id.group → x.id.view ≡ y.id.view →
      x.id.count < y.id.count → Contains (told_by y.body) e → last_place x.body < e.0
  -- and a hand-over comes after places that each site of the view knows
  pub hands : (s : SiteNo) (k : ℕ) (m : Message) (to : Proc) → Contains ((at s).acts k) (Sent m) → new_holder m.body ≡ Some to →
      last_place m.body ≤ safe m.id.group m.id.view
  pub knows : (g : GroupNo) (view : ℕ) (q : Proc) → view ≤ number g → IsChosen choice g view q →
      KnowsFirst (at q.site).got g view (order g view) (safe g view)
  pub under : (g : GroupNo) (view : ℕ) → safe g view ≤ length (order g view)
  pub near : (g : GroupNo) (view : ℕ) → length (order g view) ≤ safe g view + MAX_UNSETTLED
  pub leads : (s : SiteNo) (g : GroupNo) (k : ℕ) → tells (at s).here ((at s).group g) g ((at s).acts k) k ≡ true →
      is_pending ((at s).group g) ≡ false →
      length (done_in g ((at s).group g).number ((at s).abcasts k)) ≤ safe g ((at s).group g).number + MAX_UNSETTLED

cases_next : (n k : ℕ) → n < k → (n + 1 ≡ k) ⊎ (n + 1 < k)
cases_next n k lt = elim (cases_lt (n + 1) k) [ inl past ↦ inr past | inr low ↦ inl (omega (arith, lt, low)) ]

-- Acknowledgements

-- each count up to the stable one was acknowledged by each of the sites
stable_from : (most : ℕ) (acks : List Acked) (sites : List SiteNo) (g : GroupNo) (v : ℕ) (p : Proc) (n : ℕ) (k : ℕ) → n < k →
    k ≤ acked_from most acks sites (uid_in g v (p, n)) → (s : SiteNo) → Contains sites s →
    has_acked acks (uid_in g v (p, k)) s ≡ true
stable_from zero acks sites g v p n k low high s at = absurd (omega (arith, low, high))
stable_from (suc most) acks sites g v p n k low high s at =
    go (list_all (has_acked acks (uid_in g v (p, n + 1))) sites) refl high (stable_from most acks sites g v p (n + 1) k)
  where
    go : (b : Bool) → list_all (has_acked acks (uid_in g v (p, n + 1))) sites ≡ b →
        k ≤ (if b then acked_from most acks sites (uid_in g v (p, n + 1)) else n) →
        (n + 1 < k → k ≤ acked_from most acks sites (uid_in g v (p, n + 1)) → (z : SiteNo) → Contains sites z →
        has_acked acks (uid_in g v (p, k)) z ≡ true) → has_acked acks (uid_in g v (p, k)) s ≡ true
    go true e up more = elim (cases_next n k low) [
      | inl same ↦
          subst (λ i. has_acked acks (uid_in g v (p, i)) s ≡ true) same (passes (has_acked acks (uid_in g v (p, n + 1))) sites e s at)
      | inr past ↦ more past up s at
    ]
    go false e up more = absurd (omega (arith, low, up))

pub stable_acked : (acks : List Acked) (sites : List SiteNo) (g : GroupNo) (v : ℕ) (p : Proc) (k : ℕ) → 1 ≤ k →
    k ≤ stable_upto acks sites g v p → (s : SiteNo) → Contains sites s → has_acked acks (uid_in g v (p, k)) s ≡ true
stable_acked acks sites g v p k low high s at = stable_from (greatest_acked acks) acks sites g v p 0 k (omega (arith, low)) high s at

pub ack_of : (acks : List Acked) (u : Uid) (s : SiteNo) → has_acked acks u s ≡ true → Contains acks (s, u)
ack_of [] u s e = absurd (false≢true e)
ack_of (x ∷ acks) u s e = go (site_eq x.0 s && uid_eq x.1 u) refl e (ack_of acks u s)
  where
    go : (b : Bool) → (site_eq x.0 s && uid_eq x.1 u) ≡ b → (b || has_acked acks u s) ≡ true →
        (has_acked acks u s ≡ true → Contains acks (s, u)) → Contains (x ∷ acks) (s, u)
    go true is all more =
        let two = and_parts (site_eq x.0 s) (uid_eq x.1 u) is in (0, omega arith, λ i. (same_site x.0 s two.0 i, same_uid x.1 u two.1 i))
    go false is all more = contains_more x acks (s, u) (more all)
