-- Who passes from one view to the next has delivered the cut in between.
use Rattle.std.proofs.Common.{ap, append_assoc, arith, inl, inr, subst, sym, ◌∙◌}
use Rattle.std.proofs.lemmas.List.Elements.{Contains-append_left, Contains-append_right, Contains-push_cases}
use Rattle.std.specs.Prelude.{◌+◌, ◌++◌, ◌<◌, Contains, IsTrue, List, [], refl, ℕ, ◌∷◌, ◌≡◌, ◌≤◌}
use Rattle.cast_clock.specs.Times.{view_of}
use Rattle.cast_rules.specs.Acts.{Act}
use Rattle.cast_rules.specs.Acts.Act.{Delivered, Entered, Left}
use Rattle.cast_message.specs.declared.message.Message.{Message}
use Rattle.cast_events.specs.declared.config.DomainConfig.{DomainConfig}
use Rattle.cast_types.specs.Counts.{CountList, is_within}
use Rattle.cast_types.specs.Names.{Entry, uid_in}
use Rattle.cast_types.specs.declared.names.GroupNo.{GroupNo}
use Rattle.cast_types.specs.declared.names.Proc.{Proc}
use Rattle.cast_types.specs.declared.names.SiteNo.{SiteNo}
use Rattle.cast_types.specs.declared.names.Uid.{Uid}
use Rattle.cast_world.proofs.Acts.{contains_around, contains_here, does, does_not, entered_other, enters, first_entry}
use Rattle.cast_world.proofs.Allowed.{contains_more}
use Rattle.cast_world.proofs.Derivation.{first_source, risen, source, unique}
use Rattle.cast_world.proofs.Facts.{ActWell, Each, Facts}
use Rattle.cast_world.proofs.Runs.{facts, holds_in_every}
use Rattle.cast_world.proofs.Times.{below_at_most}
use Rattle.cast_world.specs.HappenedBefore.{NeverLeft, acts_of}
use Rattle.cast_world.specs.Laws.{AllDeliveriesWereSent, AllNamesAreUnique, AllStampsRise, AllStampsRiseStrictly}
use Rattle.cast_world.specs.Network.{Network, Reaches}
use Rattle.cast_world.specs.Properties.{IsIn, NeverEntered}
use Rattle.cast_world.specs.declared.step.Step.{Step}

-- views are entered one after the other
module _ (me : Proc) (acts : List Act) (each : Each (ActWell me) acts) (g : GroupNo) (n : ℕ) (cut : CountList) (c : List Act) where
  rising : (y x : List Act) (v : ℕ) → IsIn x g v → acts ≡ x ++ (y ++ Entered g n cut ∷ c) → NeverLeft g y → v < n
  rising [] x v is_in e stays = let next = (each x c (Entered g n cut) e).next v is_in in omega (arith, next)
  rising (act ∷ y) x v is_in e stays = elim (enters g act) [
    | does k other is ↦
        let here = each x (y ++ Entered g n cut ∷ c) (Entered g k other) (e ∙ ap (λ z. x ++ (z ∷ (y ++ Entered g n cut ∷ c))) is) in
        let next : k ≡ v + 1 = here.next v is_in in
        let up : k < n =
        rising y (x ++ act ∷ []) k (x, [], other, ap (λ z. x ++ z ∷ []) is, (λ at. omega (arith, at.1)), (λ j d at. omega (arith, at.1)))
        whole later in
        omega (arith, next, up)
    | does_not never ↦ rising y (x ++ act ∷ []) v (
      is_in.0,
      is_in.1 ++ act ∷ [],
      is_in.2,
      ap (λ z. z ++ act ∷ []) is_in.3 ∙ append_assoc is_in.0 (Entered g v is_in.2 ∷ is_in.1) (act ∷ []),
      (λ at. elim (Contains-push_cases is_in.1 act (Left g) at) [
        | inl old ↦ is_in.4 old
        | inr same ↦ stays (subst (λ z. Contains (act ∷ y) z) same (contains_here [] y act))
      ]),
      (λ j d at. elim (Contains-push_cases is_in.1 act (Entered g j d) at) [ inl old ↦ is_in.5 j d old | inr same ↦ never j d same ]),
    ) whole later
  ]
    where
      whole : acts ≡ (x ++ act ∷ []) ++ (y ++ Entered g n cut ∷ c)
      whole = e ∙ sym (append_assoc x (act ∷ []) (y ++ Entered g n cut ∷ c))

      later : NeverLeft g y
      later at = stays (contains_more act y (Left g) at)

module _ (w : Network) (f : Facts w) (p : Proc) (g : GroupNo) (view : ℕ) (before cut : CountList) (a b c : List Act)
    (is : acts_of w p ≡ a ++ Entered g view before ∷ b ++ Entered g (view + 1) cut ∷ c) (stays : NeverLeft g b) where
  abbrev until : List Act
  until = a ++ Entered g view before ∷ b

  never : NeverEntered g b
  never = elim (first_entry g b) [
    | inr none ↦ none
    | inl n ↦ absurd (
        let first : List Act = a ++ Entered g view before ∷ n.before in
        let in_first : IsIn first g view = (
          a,
          n.before,
          before,
          refl,
          (λ at. stays (subst (λ z. Contains z (Left g)) (sym n.is) (Contains-append_left n.before _ _ at))),
          n.first,
        ) in
        let whole : acts_of w p ≡ (first ++ Entered g n.number n.cut ∷ n.later) ++ Entered g (view + 1) cut ∷ c =
        is ∙ ap (λ z. (a ++ Entered g view before ∷ z) ++ Entered g (view + 1) cut ∷ c) n.is
        ∙ ap (λ z. z ++ Entered g (view + 1) cut ∷ c)
        (sym (append_assoc a (Entered g view before ∷ n.before) (Entered g n.number n.cut ∷ n.later))) in
        let number : n.number ≡ view + 1 = (f.each p first (n.later ++ Entered g (view + 1) cut ∷ c) (Entered g n.number n.cut)
        (whole ∙ append_assoc first (Entered g n.number n.cut ∷ n.later) (Entered g (view + 1) cut ∷ c))).next view in_first in
        let up : n.number < view + 1 =
        rising p (acts_of w p) (f.each p) g (view + 1) cut c n.later (first ++ Entered g n.number n.cut ∷ []) n.number
        (first, [], n.cut, refl, (λ at. omega (arith, at.1)), (λ j d at. omega (arith, at.1)))
        (whole
        ∙ append_assoc first (Entered g n.number n.cut ∷ n.later) (Entered g (view + 1) cut ∷ c)
        ∙ sym (append_assoc first (Entered g n.number n.cut ∷ []) (n.later ++ Entered g (view + 1) cut ∷ c)))
        (λ at. stays (subst (λ z. Contains z (Left g)) (sym n.is) (Contains-append_right n.before (Entered g n.number n.cut ∷ n.later)
        (Left g) (contains_more (Entered g n.number n.cut) n.later (Left g) at)))) in
        omega (arith, number, up))
  ]

  -- the process is in the first view until it enters the next
  pub still_in : IsIn until g view
  still_in = (a, b, before, refl, stays, never)

  -- a message of the first view that was delivered by then was delivered in it
  pub delivered_within : (m : Message) → Contains until (Delivered m) → m.id.group ≡ g → m.id.view ≡ view → Contains b (Delivered m)
  delivered_within m at group in_view = elim (contains_around a b (Entered g view before) (Delivered m) at) [
    | inl early ↦
        let low : view_of m.times g < view =
        (f.each p a (b ++ Entered g (view + 1) cut ∷ c) (Entered g view before)
        (is ∙ append_assoc a (Entered g view before ∷ b) (Entered g (view + 1) cut ∷ c))).above m (inr early) in
        let itself = (source w f p m until (Entered g (view + 1) cut ∷ c) is (inr at)).well.itself in
        let same : view_of m.times m.id.group ≡ view_of m.times g = ap (view_of m.times) group in
        absurd (elim itself [
          | inl above ↦ omega (arith, low, above, same, in_view)
          | inr level ↦
              (let equal : m.id.view ≡ view_of m.times m.id.group = level.0 in omega (arith, low, equal, same, in_view))
        ])
    | inr (inl same) ↦ absurd (entered_other m g view before (sym same))
    | inr (inr within_b) ↦ within_b
  ]

  pub counted : (m : Message) → Contains until (Delivered m) → 1 ≤ m.id.count
  counted m at = (source w f p m until (Entered g (view + 1) cut ∷ c) is (inr at)).well.counted

-- who passes from one view to the next has delivered, in between, all that is within the cut
abbrev pub PassesAboveCut : Network → Type 0
PassesAboveCut w =
    (p : Proc) (g : GroupNo) (view : ℕ) (before cut : CountList) (a b c : List Act) (e : Entry) →
    acts_of w p ≡ a ++ Entered g view before ∷ b ++ Entered g (view + 1) cut ∷ c → NeverLeft g b → 1 ≤ e.1 → IsTrue (is_within cut e) →
    (m : Message) × (m.id ≡ uid_in g view e) × Contains b (Delivered m)

pub passes_above : (w : Network) → Facts w → PassesAboveCut w
passes_above w f p g view before cut a b c e is stays counted_it within =
    let has =
    (f.each p (a ++ Entered g view before ∷ b) c (Entered g (view + 1) cut) is).cuts view e tt
    (still_in w f p g view before cut a b c is stays) counted_it within in
    let m : Message = has.0 in (
      m,
      has.1,
      delivered_within w f p g view before cut a b c is stays m has.2 (ap (λ (u : Uid). u.group) has.1) (ap (λ (u : Uid). u.view) has.1),
    )

-- The laws

module _ (sites : List SiteNo) (config : SiteNo → DomainConfig) (steps : List Step) (w : Network) (r : Reaches sites config steps w) where
  abbrev pub fact : Facts w
  fact = facts (config record { 0 = 0 }).home w (holds_in_every sites config steps w r)

pub stamps_rise : AllStampsRiseStrictly
stamps_rise sites config steps w r x m before = risen w (fact sites config steps w r) x m before

pub stamps_at_most : AllStampsRise
stamps_at_most sites config steps w r x m before =
    let f = fact sites config steps w r in
    below_at_most x.times m.times (first_source w f x m before).well.sorted (risen w f x m before).0

pub names_are_unique : AllNamesAreUnique
names_are_unique sites config steps w r p x y at_x at_y same =
    unique p (acts_of w p) ((fact sites config steps w r).each p) x y at_x at_y same

pub deliveries_were_sent : AllDeliveriesWereSent
deliveries_were_sent sites config steps w r p m at = (fact sites config steps w r).was_sent p m at
