-- Causal and FIFO delivery, no duplication, and what holds of the views of messages and of processes, in every network run.
use Rattle.std.proofs.Common.{ap, append_assoc, arith, inl, inr, subst, sym, ◌∙◌}
use Rattle.std.proofs.lemmas.List.{append-nil}
use Rattle.std.proofs.lemmas.List.Elements.{Contains-append_left}
use Rattle.std.specs.Prelude.{◌++◌, ◌<◌, Contains, List, [], ℕ, ◌∷◌, ◌≡◌, ◌≤◌, ◌⊎◌}
use Rattle.cast_rules.specs.Acts.{Act}
use Rattle.cast_rules.specs.Acts.Act.{Delivered, Entered, Sent}
use Rattle.cast_rules.specs.Noted.{delivered_by}
use Rattle.cast_message.specs.Membership.{Membership}
use Rattle.cast_message.specs.declared.message.Message.{Message}
use Rattle.cast_types.specs.Counts.{CountList}
use Rattle.cast_types.specs.declared.names.GroupNo.{GroupNo}
use Rattle.cast_types.specs.declared.names.Proc.{Proc}
use Rattle.cast_types.specs.declared.names.SiteNo.{SiteNo}
use Rattle.cast_world.proofs.Acts.{contains_around, contains_cons, contains_here, entered_other}
use Rattle.cast_world.proofs.Allowed.{contains_more}
use Rattle.cast_world.proofs.Cuts.{fact}
use Rattle.cast_world.proofs.Derivation.{first_source, risen, stands, too_late}
use Rattle.cast_world.proofs.Facts.{Each, Facts}
use Rattle.cast_world.proofs.FlushRuns.{AllKept, kept_in_every}
use Rattle.cast_world.proofs.Installs.{by_install, entered_in_every}
use Rattle.cast_world.proofs.Lists.{contains_split, delivered_same, entered_same, is_in_less}
use Rattle.cast_world.proofs.ListsAreActs.{EachListed, delivered_append, listed_in_every}
use Rattle.cast_world.proofs.Orders.{Apart}
use Rattle.cast_world.proofs.Prefixes.{apart_both}
use Rattle.cast_world.proofs.Runs.{holds_in_every}
use Rattle.cast_world.proofs.Same.{EachSeen, seen_in_every}
use Rattle.cast_world.proofs.Seen.{SeenWell}
use Rattle.cast_world.specs.HappenedBefore.{StandsBefore, acts_of, edge}
use Rattle.cast_world.specs.Laws.{Covers}
use Rattle.cast_world.specs.Network.{Network}
use Rattle.cast_world.specs.Properties.{AllDeliverCausally, AllDeliverFirstInFirstOut, AllDeliverInSendingView}
use Rattle.cast_world.specs.Properties.{AllDeliverInView, AllDeliverOnce, AllEnterAsMembers, AllEnterByInstalls}
use Rattle.cast_world.specs.Properties.{AllInstallsAgree, AllSendInView, AllViewsRise, DeliversCausally, DeliversFirstInFirstOut}
use Rattle.cast_world.specs.Properties.{DeliversInSendingView, DeliversInView, DeliversOnce, EntersAsMember, EntersByInstall}
use Rattle.cast_world.specs.Properties.{InstallsAgree, IsIn, SendsInView, ViewsRise}
use Rattle.cast_message.specs.declared.site.SiteFrame.TheVariants as frame

-- No duplication

once : (w : Network) → EachListed w → DeliversOnce w
once w listed p x m (a, b, c, is) same =
    let first : List Act = a ++ Delivered x ∷ b in
    let whole : delivered_by (acts_of w p) ≡ delivered_by first ++ m.id ∷ delivered_by c =
    ap delivered_by is ∙ delivered_append first (Delivered m ∷ c) in
    let fit = listed p.site p.serial in
    apart_both (delivered_by first) (m.id ∷ delivered_by c) (subst Apart (fit.0 ∙ whole) fit.1) x.id
    (subst (λ us. Contains us x.id) (sym (delivered_append a (Delivered x ∷ b))) (contains_here (delivered_by a) (delivered_by b) x.id))
    (0, omega arith, sym same)

-- Views

-- the view after more acts was entered in these, or is the one before them
in_before : (more acts : List Act) (g : GroupNo) (v : ℕ) → IsIn (acts ++ more) g v →
    IsIn acts g v ⊎ ((cut : CountList) × Contains more (Entered g v cut))
in_before [] acts g v i = inl (subst (λ z. IsIn z g v) (append-nil acts) i)
in_before (y ∷ more) acts g v i =
    elim (in_before more (acts ++ y ∷ []) g v (subst (λ z. IsIn z g v) (sym (append_assoc acts (y ∷ []) more)) i)) [
      | inl now ↦ elim (is_in_less acts y g v now) [ inl (cut, is) ↦ inr (cut, (0, omega arith, is)) | inr old ↦ inl old.0 ]
      | inr (cut, at) ↦ inr (cut, contains_more y more (Entered g v cut) at)
    ]

-- a process is in one view of a group
one_view : (acts : List Act) → Each SeenWell acts → (a c : List Act) → acts ≡ a ++ c → (g : GroupNo) (v n : ℕ) → IsIn a g v → IsIn a g n →
    v ≡ n
one_view acts seen a c is g v n one two =
    elim (contains_around one.0 one.1 (Entered g v one.2) (Entered g n two.2)
    (subst (λ z. Contains z (Entered g n two.2)) (sym two.3 ∙ one.3) (contains_here two.0 two.1 (Entered g n two.2)))) [
      | inl below ↦
          let low : n < v =
          seen one.0 (one.1 ++ c) (Entered g v one.2)
          (is ∙ ap (λ z. z ++ c) one.3 ∙ append_assoc one.0 (Entered g v one.2 ∷ one.1) c) n two.2 below in
          absurd (elim (contains_around two.0 two.1 (Entered g n two.2) (Entered g v one.2)
          (subst (λ z. Contains z (Entered g v one.2)) (sym one.3 ∙ two.3) (contains_here one.0 one.1 (Entered g v one.2)))) [
            | inl above ↦
                let high : v < n =
                seen two.0 (two.1 ++ c) (Entered g n two.2)
                (is ∙ ap (λ z. z ++ c) two.3 ∙ append_assoc two.0 (Entered g n two.2 ∷ two.1) c) v one.2 above in
                omega (arith, low, high)
            | inr (inl same) ↦ (let equal = (entered_same g g n v two.2 one.2 same).1 in omega (arith, low, equal))
            | inr (inr later) ↦ two.5 v one.2 later
          ])
      | inr (inl same) ↦ (entered_same g g v n one.2 two.2 same).1
      | inr (inr later) ↦ absurd (one.5 n two.2 later)
    ]

-- Causal delivery

module _ (w : Network) (f : Facts w) (seen : EachSeen w) (single : DeliversOnce w) where
  -- whoever delivers a message has delivered, or never delivers, another one that its stamp covers
  never_later : (p : Proc) (x m : Message) (a c : List Act) → acts_of w p ≡ a ++ Delivered m ∷ c → Covers m.times x.id →
      (x.id ≡ m.id → ⊥) → 1 ≤ x.id.count → Contains c (Delivered x) → ⊥
  never_later p x m a c e covers other counted at =
      let s = contains_split c (Delivered x) at in
      let past : List Act = a ++ Delivered m ∷ s.0 in
      let whole : acts_of w p ≡ past ++ Delivered x ∷ s.1 =
      e ∙ ap (λ z. a ++ Delivered m ∷ z) s.2 ∙ sym (append_assoc a (Delivered m ∷ s.0) (Delivered x ∷ s.1)) in
      let late : (cut : CountList) → Contains s.0 (Entered x.id.group x.id.view cut) → ⊥ =
      λ cut there.
      too_late w f p x.id m a c e covers cut
      (subst (λ z. Contains z (Entered x.id.group x.id.view cut)) (sym s.2)
      (Contains-append_left s.0 (Delivered x ∷ s.1) (Entered x.id.group x.id.view cut) there)) in
      elim (in_before (Delivered m ∷ s.0) a x.id.group x.id.view ((seen p.site p.serial).seen past s.1 (Delivered x) whole)) [
        | inl inside ↦
            let y = f.each p a c (Delivered m) e x.id inside covers other counted in
            single p y.0 x
            (stands (acts_of w p) past s.1 (Delivered y.0) (Delivered x) whole
            (Contains-append_left a (Delivered m ∷ s.0) (Delivered y.0) y.2)) y.1
        | inr (cut, there) ↦ elim (contains_cons (Delivered m) s.0 (Entered x.id.group x.id.view cut) there) [
          | inl same ↦ entered_other m x.id.group x.id.view cut same
          | inr later ↦ late cut later
        ]
      ]

  causally : DeliversCausally w
  causally p x m at_x at_m before =
      let s = contains_split (acts_of w p) (Delivered m) at_m in
      let from = first_source w f x m before in
      let r = risen w f x m before in
      let other : x.id ≡ m.id → ⊥ = λ same. r.1 (subst (λ u. Covers x.times u) same from.well.itself) in
      elim (contains_around s.0 s.1 (Delivered m) (Delivered x) (subst (λ z. Contains z (Delivered x)) s.2 at_x)) [
        | inl earlier ↦ stands (acts_of w p) s.0 s.1 (Delivered x) (Delivered m) s.2 earlier
        | inr (inl same) ↦ absurd (other (ap (λ (z : Message). z.id) (sym (delivered_same m x same))))
        | inr (inr later) ↦
            absurd (never_later p x m s.0 s.1 s.2 (r.0 x.id from.well.itself) other from.well.counted later)
      ]

  first_in_first_out : DeliversFirstInFirstOut w
  first_in_first_out p q x m at_x at_m (a, b, c, is) =
      let own : q ≡ m.id.proc = sym (f.each q (a ++ Sent x ∷ b) c (Sent m) is).own in
      causally p x m at_x at_m (edge (inl (subst (λ z. StandsBefore (acts_of w z) (Sent x) (Sent m)) own (a, b, c, is))))

-- Views of messages and of processes

module _ (w : Network) (seen : EachSeen w) where
  sends_in_view : SendsInView w
  sends_in_view p m a b is = (seen p.site p.serial).seen a b (Sent m) is

  delivers_in_view : DeliversInView w
  delivers_in_view p m a b is = (seen p.site p.serial).seen a b (Delivered m) is

  in_sending_view : Facts w → DeliversInSendingView w
  in_sending_view f p m view a b is inside =
      let one : m.id.view ≡ view =
      one_view (acts_of w p) (seen p.site p.serial).seen a (Delivered m ∷ b) is m.id.group m.id.view view (delivers_in_view p m a b is)
      inside in
      let s =
      contains_split (acts_of w m.id.proc) (Sent m)
      (f.was_sent p m (subst (λ z. Contains z (Delivered m)) (sym is) (contains_here a b (Delivered m)))) in
      (s.0, s.1, s.2, subst (λ v. IsIn s.0 m.id.group v) one (sends_in_view m.id.proc m s.0 s.1 s.2))

  rise : ViewsRise w
  rise p g view next before cut (a, b, c, is) =
      (seen p.site p.serial).seen (a ++ Entered g view before ∷ b) c (Entered g next cut) is view before
      (contains_here a b (Entered g view before))

module _ (home : SiteNo) (w : Network) (all : AllKept home w) where
  agree : InstallsAgree w
  agree g view members others tail other (from, to, request, cut, one) (from_other, to_other, request_other, cut_other, two) =
      (all.2.packets (record { from = from; to = to; frame = frame.Install g view members request cut tail }) one).0
      ∙ sym (all.2.packets (record {
        from = from_other;
        to = to_other;
        frame = frame.Install g view others request_other cut_other other;
      }) two).0

as_member : (w : Network) → EntersByInstall w → InstallsAgree w → EntersAsMember w
as_member w by agreed p g view cut members tail at installed =
    let one = by p g view cut at in
    subst (λ (m : Membership). Contains m.list p) (agreed g view one.0 members one.1 tail one.2 installed) one.3

-- The laws

pub deliver_once : AllDeliverOnce
deliver_once sites config steps w r = once w (listed_in_every sites config steps w r)

pub deliver_causally : AllDeliverCausally
deliver_causally sites config steps w r =
    causally w (fact sites config steps w r) (seen_in_every sites config steps w r) (deliver_once sites config steps w r)

pub deliver_first_in_first_out : AllDeliverFirstInFirstOut
deliver_first_in_first_out sites config steps w r =
    first_in_first_out w (fact sites config steps w r) (seen_in_every sites config steps w r) (deliver_once sites config steps w r)

pub send_in_view : AllSendInView
send_in_view sites config steps w r = sends_in_view w (seen_in_every sites config steps w r)

pub deliver_in_view : AllDeliverInView
deliver_in_view sites config steps w r = delivers_in_view w (seen_in_every sites config steps w r)

pub deliver_in_sending_view : AllDeliverInSendingView
deliver_in_sending_view sites config steps w r =
    in_sending_view w (seen_in_every sites config steps w r) (fact sites config steps w r)

pub views_rise : AllViewsRise
views_rise sites config steps w r = rise w (seen_in_every sites config steps w r)

pub installs_agree : AllInstallsAgree
installs_agree sites config steps w r = agree (config record { 0 = 0 }).home w (kept_in_every sites config steps w r)

pub enter_by_installs : AllEnterByInstalls
enter_by_installs sites config steps w r =
    by_install (config record { 0 = 0 }).home w (holds_in_every sites config steps w r) (entered_in_every sites config steps w r)

pub enter_as_members : AllEnterAsMembers
enter_as_members sites config steps w r =
    as_member w (enter_by_installs sites config steps w r) (installs_agree sites config steps w r)
