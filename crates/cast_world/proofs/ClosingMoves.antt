-- A move of one site keeps what holds of how views end.
use Rattle.std.proofs.Common.{ap, arith, inl, inr, subst, sym, ◌∙◌}
use Rattle.std.proofs.lemmas.Bool.{cases_lt}
use Rattle.std.proofs.lemmas.List.{append-nil}
use Rattle.std.specs.Prelude.{◌+◌, ◌<◌, Bool, Contains, List, [], false, if◌then◌else◌, refl, true, ℕ, ◌≡◌, ◌≤◌}
use Rattle.cast_rules.specs.State.{State}
use Rattle.cast_message.specs.KeptIds.{KeptList}
use Rattle.cast_message.specs.Tail.{Tail}
use Rattle.cast_message.specs.declared.site.SiteFrame.{SiteFrame}
use Rattle.cast_timer.specs.declared.key.OwedKey.{OwedKey}
use Rattle.cast_types.specs.Names.{site_eq}
use Rattle.cast_types.specs.declared.names.GroupNo.{GroupNo}
use Rattle.cast_types.specs.declared.names.SiteNo.{SiteNo}
use Rattle.cast_types.specs.declared.names.Standing.TheVariants.{Member}
use Rattle.cast_types.specs.declared.names.Uid.{Uid}
use Rattle.cast_view.specs.MemberSide.{MemberSide, is_pending}
use Rattle.cast_world.proofs.Closings.{Calm, HasReported, Stopped, Ends, EndHolds, Grew, IsClosing, Notes, SiteClosing}
use Rattle.cast_world.proofs.Closings.{Stops, closing_later, end_later, reported_later, site_closing_later}
use Rattle.cast_world.proofs.Flush.{Choice, SiteAgrees, numbers}
use Rattle.cast_world.proofs.FlushLaters.{Extends}
use Rattle.cast_world.proofs.FlushSteps.{own_agrees}
use Rattle.cast_world.proofs.Invariants.{Later, SiteHolds, Sites}
use Rattle.cast_world.proofs.Tokens.{HandOvers}
use Rattle.cast_world.proofs.Orders.{Orders, done_in}
use Rattle.cast_world.proofs.Steps.{Arrived, own_holds, own_is, same_site, sites_at}
use Rattle.cast_world.proofs.WindowSteps.{WindowNow}
use Rattle.cast_world.proofs.Windows.{Safe}
use Rattle.cast_world.specs.Agreement.{IsPrefix}
use Rattle.cast_world.specs.Network.{Network}
use Rattle.cast_world.specs.declared.step.Packet.{Packet}

module _ (home : SiteNo) (w : Network) (a : SiteNo) where
  abbrev at : State → Sites
  at t = sites_at home w a t

  abbrev number : State → GroupNo → ℕ
  number t = numbers (sites_at home w a t) home

  pub record AllClosing (t : State) (choice : Choice) (order : Orders) (handed : HandOvers) (safe : Safe) (ends : Ends) : Type 0 where
    pub sites : (s : SiteNo) → SiteClosing choice (at t) order handed safe ends s (at t s)
    pub packets : (p : Packet) → Contains w.sent p → IsClosing choice (at t) order handed safe ends p.from p.frame
    pub ended : (g : GroupNo) (v : ℕ) → v + 1 ≤ number t g → EndHolds choice (at t) order handed safe g v (ends g v)

  -- what holds at a moment within the step
  abbrev pub ClosingNow : (OwedKey → Bool) → State → Type 0
  ClosingNow skip t = (i : WindowNow home w a skip t) × (ends : Ends) × AllClosing t i.0.1 i.0.3 i.0.4 i.1 ends

  pub own_closing : (t : State) (choice : Choice) (order : Orders) (handed : HandOvers) (safe : Safe) (ends : Ends) →
      AllClosing t choice order handed safe ends → SiteClosing choice (at t) order handed safe ends a t
  own_closing t choice order handed safe ends x = subst (SiteClosing choice (at t) order handed safe ends a) (own_is home w a t) (x.sites a)

  module _ (skip new : OwedKey → Bool) (t u : State) (later : Later t u) (i : ClosingNow skip t) (j : WindowNow home w a new u)
      (ext : Extends i.0.0.1 (number t) j.0.1 (number u))
      (up : (g : GroupNo) (v : ℕ) → i.0.1 g v ≤ j.1 g v) (grows : (g : GroupNo) (v : ℕ) → IsPrefix (i.0.0.3 g v) (j.0.3 g v))
      (grew : Grew t i.0.0.1 i.0.0.3 i.0.0.4 j.0.3 j.0.4) (stops : Stops t u) (notes : Notes t u) (calm : Calm t u) where
    module _ (ends : Ends) (same : (g : GroupNo) (v : ℕ) → v + 1 ≤ number t g → ends g v ≡ i.1 g v) where
      pub old_here : SiteClosing j.0.1 (at u) j.0.3 j.0.4 j.1 ends a t
      old_here =
          site_closing_later home w a t u later i.0.0.0 i.0.0.1 j.0.1 i.0.0.2 ext i.0.0.3 j.0.3 i.0.0.4 j.0.4 i.0.1 j.1 up grows grew stops
          notes calm i.1 ends same a t
          (own_holds home w a t i.0.0.0) (own_agrees home w a t i.0.0.1 i.0.0.2) (own_closing t i.0.0.1 i.0.0.3 i.0.0.4 i.0.1 i.1 i.2)

      pub came : (from : SiteNo) (f : SiteFrame) → Arrived home w a from f → IsClosing j.0.1 (at u) j.0.3 j.0.4 j.1 ends from f
      came from f c =
          closing_later home w a t u later i.0.0.0 i.0.0.1 j.0.1 i.0.0.2 ext i.0.0.3 j.0.3 i.0.0.4 j.0.4 i.0.1 j.1 up grows grew stops notes
          calm i.1 ends same from a f
          (i.0.0.0.1 (record { from = from; to = a; frame = f }) c) (i.2.packets (record { from = from; to = a; frame = f }) c)

      pub closing_all : SiteClosing j.0.1 (at u) j.0.3 j.0.4 j.1 ends a u →
          ((g : GroupNo) (v : ℕ) → number t g < v + 1 → v + 1 ≤ number u g → EndHolds j.0.1 (at u) j.0.3 j.0.4 j.1 g v (ends g v)) →
          AllClosing u j.0.1 j.0.3 j.0.4 j.1 ends
      closing_all here fresh = record {
        sites = λ s. site s (site_eq a s) refl (i.0.0.0.0 s) (i.0.0.2.sites s) (i.2.sites s);
        packets = λ p c. closing_later home w a t u later i.0.0.0 i.0.0.1 j.0.1 i.0.0.2 ext i.0.0.3 j.0.3 i.0.0.4 j.0.4 i.0.1 j.1 up grows
            grew stops notes calm i.1 ends same p.from p.to p.frame (i.0.0.0.1 p c) (i.2.packets p c);
        ended = λ g v le. elim (cases_lt (number t g) (v + 1)) [
          | inl new_one ↦ fresh g v new_one le
          | inr old ↦ subst (EndHolds j.0.1 (at u) j.0.3 j.0.4 j.1 g v) (sym (same g v old))
              (end_later home w a t u later i.0.0.0 i.0.0.1 j.0.1 i.0.0.2 ext i.0.0.3 j.0.3 i.0.0.4 j.0.4 i.0.1 j.1 up grows grew stops
              notes calm g v (i.1 g v) old (i.2.ended g v old))
        ];
      }
        where
          site : (s : SiteNo) (b : Bool) → site_eq a s ≡ b → SiteHolds (at t) home s (if b then t else w.at s) →
              SiteAgrees i.0.0.1 (number t) (at t) s (if b then t else w.at s) →
              SiteClosing i.0.0.1 (at t) i.0.0.3 i.0.0.4 i.0.1 i.1 s (if b then t else w.at s) →
              SiteClosing j.0.1 (at u) j.0.3 j.0.4 j.1 ends s (if b then u else w.at s)
          site s true e holds agrees x = subst (λ z. SiteClosing j.0.1 (at u) j.0.3 j.0.4 j.1 ends z u) (same_site a s e) here
          site s false e holds agrees x =
              site_closing_later home w a t u later i.0.0.0 i.0.0.1 j.0.1 i.0.0.2 ext i.0.0.3 j.0.3 i.0.0.4 j.0.4 i.0.1 j.1 up grows grew
              stops notes calm i.1 ends same s (w.at s) holds agrees x

    -- where the home decides nothing
    abbrev pub closing_keep : ((g : GroupNo) → number u g ≤ number t g) →
        (SiteClosing j.0.1 (at u) j.0.3 j.0.4 j.1 i.1 a t → SiteClosing j.0.1 (at u) j.0.3 j.0.4 j.1 i.1 a u) → ClosingNow new u
    closing_keep still here = (
      j,
      i.1,
      closing_all i.1 (λ g v le. refl) (here (old_here i.1 (λ g v le. refl)))
          (λ g v new_one le. absurd (let low = still g in omega (arith, new_one, le, low))),
    )

  -- a home that decides nothing
  pub still_there : (t u : State) → ((g : GroupNo) → (u.home g).number ≤ (t.home g).number) → (g : GroupNo) → number u g ≤ number t g
  still_there t u still g = go (site_eq a home)
    where
      go : (b : Bool) → ((if b then u else w.at home).home g).number ≤ ((if b then t else w.at home).home g).number
      go true = still g
      go false = omega arith

  -- where no order grows, and no more of one is known
  module _ (skip new : OwedKey → Bool) (t u : State) (later : Later t u) (i : ClosingNow skip t) (j : WindowNow home w a new u)
      (ext : Extends i.0.0.1 (number t) j.0.1 (number u)) (order : j.0.3 ≡ i.0.0.3) (given : j.0.4 ≡ i.0.0.4) (safe : j.1 ≡ i.0.1)
      (stops : Stops t u) (notes : Notes t u) (calm : Calm t u) where
    pub same_up : (g : GroupNo) (v : ℕ) → i.0.1 g v ≤ j.1 g v
    same_up g v = let same = ap (λ (s : Safe). s g v) safe in omega (arith, same)

    pub same_grows : (g : GroupNo) (v : ℕ) → IsPrefix (i.0.0.3 g v) (j.0.3 g v)
    same_grows g v = ([], append-nil (i.0.0.3 g v) ∙ ap (λ (o : Orders). o g v) (sym order))

    pub same_grew : Grew t i.0.0.1 i.0.0.3 i.0.0.4 j.0.3 j.0.4
    same_grew g v = inl (ap (λ (o : Orders). o g v) order, ap (λ (h : HandOvers). h g v) given)

    abbrev pub closing_same : ((g : GroupNo) → number u g ≤ number t g) →
        (SiteClosing j.0.1 (at u) j.0.3 j.0.4 j.1 i.1 a t → SiteClosing j.0.1 (at u) j.0.3 j.0.4 j.1 i.1 a u) → ClosingNow new u
    closing_same still here = closing_keep skip new t u later i j ext same_up same_grows same_grew stops notes calm still here

    pub reported_same : (s : SiteNo) (g : GroupNo) (v : ℕ) (tail : Tail) (kept : KeptList) → v ≤ number t g →
        HasReported i.0.0.1 (at t) i.0.0.3 i.0.0.4 i.0.1 s g v tail kept → HasReported j.0.1 (at u) j.0.3 j.0.4 j.1 s g v tail kept
    reported_same =
        reported_later home w a t u later i.0.0.0 i.0.0.1 j.0.1 i.0.0.2 ext i.0.0.3 j.0.3 i.0.0.4 j.0.4 i.0.1 j.1 same_up same_grows
        same_grew stops notes calm

    abbrev pub came_same : (from : SiteNo) (f : SiteFrame) → Arrived home w a from f → IsClosing j.0.1 (at u) j.0.3 j.0.4 j.1 i.1 from f
    came_same = came skip new t u later i j ext same_up same_grows same_grew stops notes calm i.1 (λ g v le. refl)

  -- and nothing that stopped, was noted or may be delivered changes
  abbrev pub closing_quiet : (skip new : OwedKey → Bool) (t u : State) (later : Later t u) (i : ClosingNow skip t)
      (j : WindowNow home w a new u) (ext : Extends i.0.0.1 (number t) j.0.1 (number u)) (order : j.0.3 ≡ i.0.0.3) (given : j.0.4 ≡ i.0.0.4)
      (safe : j.1 ≡ i.0.1) →
      u.group ≡ t.group → u.abcasts ≡ t.abcasts →
      ((k : ℕ) (g : GroupNo) → (u.process k).standing g ≡ Member → (t.process k).standing g ≡ Member) →
      ((g : GroupNo) → number u g ≤ number t g) →
      (SiteClosing j.0.1 (at u) j.0.3 j.0.4 j.1 i.1 a t → SiteClosing j.0.1 (at u) j.0.3 j.0.4 j.1 i.1 a u) → ClosingNow new u
  closing_quiet skip new t u later i j ext order given safe group abcasts member still here =
      closing_same skip new t u later i j ext order given safe
      (λ g v s. subst (λ (x : GroupNo → MemberSide). Stopped (x g) v) (sym group) s)
      (λ k. ([], append-nil (t.abcasts k) ∙ ap (λ (x : ℕ → List Uid). x k) (sym abcasts)))
      (λ g v k s m n p. (
        member k g m,
        ap (λ (x : GroupNo → MemberSide). (x g).number) (sym group) ∙ n,
        ap (λ (x : GroupNo → MemberSide). is_pending (x g)) (sym group) ∙ p,
        ap (λ (x : ℕ → List Uid). done_in g v (x k)) abcasts,
      ))
      still here
