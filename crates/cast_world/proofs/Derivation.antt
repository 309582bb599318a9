-- Causal delivery from the facts.
use Rattle.std.proofs.Common.{ap, append_assoc, arith, inl, inr, subst, sym, ◌∙◌}
use Rattle.std.proofs.lemmas.List.Elements.{Contains-append_left}
use Rattle.std.specs.Prelude.{◌++◌, Contains, List, refl, ◌∷◌, ◌≡◌, ◌≤◌}
use Rattle.cast_rules.specs.Acts.{Act}
use Rattle.cast_rules.specs.Acts.Act.{Delivered, Entered, Left, Sent}
use Rattle.cast_message.specs.declared.message.Message.{Message}
use Rattle.cast_types.specs.Counts.{CountList}
use Rattle.cast_types.specs.Names.{entry_of}
use Rattle.cast_types.specs.declared.names.Proc.{Proc}
use Rattle.cast_types.specs.declared.names.Uid.{Uid}
use Rattle.cast_world.proofs.Acts.{contains_around, contains_here, entered_other, first_entry}
use Rattle.cast_world.proofs.Facts.{ActWell, Each, Facts, HasDelivered, HasDone, SentWell}
use Rattle.cast_world.proofs.Lists.{contains_split, sent_same}
use Rattle.cast_world.specs.HappenedBefore.{Edge, HappenedBefore, IsDue, NeverLeft, StandsBefore, acts_of, edge, path}
use Rattle.cast_world.specs.Laws.{Below, Covers, DeliversInOrder}
use Rattle.cast_world.specs.Network.{Network}
use Rattle.cast_world.specs.Properties.{IsIn}

pub stands : (acts a c : List Act) (x y : Act) → acts ≡ a ++ y ∷ c → Contains a x → StandsBefore acts x y
stands acts a c x y e has =
    let s = contains_split a x has in
    (s.0, s.1, c, e ∙ ap (λ z. z ++ y ∷ c) s.2)

stood : (acts : List Act) (x y : Act) → StandsBefore acts x y → (a c : List Act) × (acts ≡ a ++ y ∷ c) × Contains a x
stood acts x y (a, b, c, e) = (a ++ x ∷ b, c, e, contains_here a b x)

-- a process sends one message of each id
pub unique : (p : Proc) (acts : List Act) → Each (ActWell p) acts → (x y : Message) → Contains acts (Sent x) → Contains acts (Sent y) →
    x.id ≡ y.id → x ≡ y
unique p acts each x y at_x at_y same =
    let s = contains_split acts (Sent x) at_x in
    let well = each s.0 s.1 (Sent x) s.2 in
    elim (contains_around s.0 s.1 (Sent x) (Sent y) (subst (λ h. Contains h (Sent y)) s.2 at_y)) [
      | inl before ↦
          let t = contains_split acts (Sent y) at_y in
          let other = each t.0 t.1 (Sent y) t.2 in
          absurd (well.strictly y (inl before) (subst (λ u. Covers y.times u) (sym same) other.itself))
      | inr (inl here) ↦ sent_same x y here
      | inr (inr after) ↦
          let t = contains_split s.1 (Sent y) after in
          let is = s.2 ∙ ap (λ z. s.0 ++ Sent x ∷ z) t.2 ∙ sym (append_assoc s.0 (Sent x ∷ t.0) (Sent y ∷ t.1)) in
          let other = each (s.0 ++ Sent x ∷ t.0) t.1 (Sent y) is in
          absurd (other.strictly x (inl (contains_here s.0 t.0 (Sent x))) (subst (λ u. Covers x.times u) same well.itself))
    ]

module _ (w : Network) (f : Facts w) where
  -- what is said of a message where its sender sent it
  pub record Source (x : Message) : Type 0 where
    pub at : Contains (acts_of w x.id.proc) (Sent x)
    pub before : List Act
    pub well : SentWell x.id.proc before x

  sent_source : (p : Proc) (x : Message) → Contains (acts_of w p) (Sent x) → Source x
  sent_source p x at =
      let s = contains_split _ _ at in
      let well = f.each p s.0 s.1 (Sent x) s.2 in
      record {
        at = subst (λ q. Contains (acts_of w q) (Sent x)) (sym well.own) at;
        before = s.0;
        well = subst (λ q. SentWell q s.0 x) (sym well.own) well;
      }

  pub source : (p : Proc) (x : Message) (a c : List Act) → acts_of w p ≡ a ++ c → HasDone a x → Source x
  source p x a c e (inl at) = sent_source p x (subst (λ h. Contains h (Sent x)) (sym e) (Contains-append_left a c _ at))
  source p x a c e (inr at) =
      sent_source x.id.proc x (f.was_sent p x (subst (λ h. Contains h (Delivered x)) (sym e) (Contains-append_left a c _ at)))

  pub done : (y z : Message) → Edge w y z → (a c : List Act) × (acts_of w z.id.proc ≡ a ++ Sent z ∷ c) × HasDone a y
  done y z (inl s) = let t = stood _ _ _ s in (t.0, t.1, t.2, inl t.3)
  done y z (inr s) = let t = stood _ _ _ s in (t.0, t.1, t.2, inr t.3)

  edge_rises : (y z : Message) → Edge w y z → Below y.times z.times × (Covers y.times z.id → ⊥)
  edge_rises y z e =
      let d = done y z e in
      let s = f.each z.id.proc d.0 d.1 (Sent z) d.2 in
      (λ u c. s.rises y d.3 u tt c, s.strictly y d.3)

  -- stamps rise, and none covers a later message
  pub risen : (x m : Message) → HappenedBefore w x m → Below x.times m.times × (Covers x.times m.id → ⊥)
  risen x m (edge e) = edge_rises x m e
  risen x m (path {y = y} h e) =
      let one = risen x y h in
      let two = edge_rises y m e in
      (λ u c. two.0 u (one.0 u c), λ c. two.1 (one.0 m.id c))

  pub first_source : (x m : Message) → HappenedBefore w x m → Source x
  first_source x m (edge e) = let d = done x m e in source m.id.proc x d.0 (Sent m ∷ d.1) d.2 d.3
  first_source x m (path {y = y} h e) = first_source x y h

  -- a view whose messages the stamp of a delivered message covers is not entered afterwards
  pub too_late : (p : Proc) (x : Uid) (m : Message) (a c : List Act) → acts_of w p ≡ a ++ Delivered m ∷ c → Covers m.times x →
      (cut : CountList) → Contains c (Entered x.group x.view cut) → ⊥
  too_late p x m a c e covers cut at =
      let s = contains_split _ _ at in
      let is = e ∙ ap (λ z. a ++ Delivered m ∷ z) s.2 ∙ sym (append_assoc a (Delivered m ∷ s.0) (Entered x.group x.view cut ∷ s.1)) in
      let low =
      (f.each p (a ++ Delivered m ∷ s.0) s.1 (Entered x.group x.view cut) is).above m (inr (contains_here a s.0 (Delivered m))) in
      elim covers [ inl above ↦ omega (arith, above, low) | inr level ↦ omega (arith, level.0, low) ]

  module _ (p : Proc) (x : Uid) (m : Message) (due : IsDue (acts_of w p) x m) (a c : List Act) (e : acts_of w p ≡ a ++ Delivered m ∷ c)
      (covers : Covers m.times x) (other : x ≡ m.id → ⊥) (counted : 1 ≤ x.count) where
    inside : (cut : CountList) → Contains a (Entered x.group x.view cut) → HasDelivered a x
    inside cut at =
        let s = contains_split _ _ at in
        let first = s.0 in
        let b = s.1 in
        let stays = due.stays first b c cut (e ∙ ap (λ z. z ++ Delivered m ∷ c) s.2) in
        elim (first_entry x.group b) [
          | inr none ↦ f.each p a c (Delivered m) e x (first, b, cut, s.2, stays, none) covers other counted
          | inl n ↦
              let left : NeverLeft x.group n.before =
              λ at. stays (subst (λ z. Contains z (Left x.group)) (sym n.is) (Contains-append_left n.before _ _ at)) in
              let until : List Act = first ++ Entered x.group x.view cut ∷ n.before in
              let whole : a ≡ until ++ Entered x.group n.number n.cut ∷ n.later =
              s.2
              ∙ ap (λ z. first ++ Entered x.group x.view cut ∷ z) n.is
              ∙ sym (append_assoc first (Entered x.group x.view cut ∷ n.before) _) in
              let all = e ∙ ap (λ z. z ++ Delivered m ∷ c) whole in
              let was : IsIn until x.group x.view = (first, n.before, cut, refl, left, n.first) in
              let entered = f.each p until (n.later ++ Delivered m ∷ c) (Entered x.group n.number n.cut)
              (all ∙ append_assoc until (Entered x.group n.number n.cut ∷ n.later) (Delivered m ∷ c)) in
              let within =
              due.cut until n.later c n.cut
              (all ∙ ap (λ k. until ++ Entered x.group k n.cut ∷ n.later ++ Delivered m ∷ c) (entered.next x.view was)) in
              let has = entered.cuts x.view (entry_of x) tt was counted within in (
                has.0,
                has.1,
                subst (λ z. Contains z (Delivered has.0)) (sym whole)
                    (Contains-append_left until (Entered x.group n.number n.cut ∷ n.later) (Delivered has.0) has.2),
              )
        ]

  pub delivers : DeliversInOrder w
  delivers p x m has before due =
      let s = contains_split _ _ has in
      let from = first_source x m before in
      let r = risen x m before in
      let covers = r.0 x.id from.well.itself in
      let other : x.id ≡ m.id → ⊥ = λ same. r.1 (subst (λ u. Covers x.times u) same from.well.itself) in
      elim (contains_around s.0 s.1 (Delivered m) (Entered x.id.group x.id.view due.entered.0)
      (subst (λ h. Contains h (Entered x.id.group x.id.view due.entered.0)) s.2 due.entered.1)) [
        | inl earlier ↦
            let y = inside p x.id m due s.0 s.1 s.2 covers other from.well.counted due.entered.0 earlier in
            let sent = f.was_sent p y.0 (subst (λ h. Contains h (Delivered y.0)) (sym s.2) (Contains-append_left s.0 _ _ y.2)) in
            let same : y.0 ≡ x =
            unique x.id.proc _ (f.each x.id.proc) y.0 x (subst (λ q. Contains (acts_of w q) (Sent y.0)) (ap (λ (u : Uid). u.proc) y.1) sent)
            from.at y.1 in
            stands _ s.0 s.1 _ _ s.2 (subst (λ z. Contains s.0 (Delivered z)) same y.2)
        | inr (inl same) ↦ absurd (entered_other m x.id.group x.id.view due.entered.0 same)
        | inr (inr later) ↦ absurd (too_late p x.id m s.0 s.1 s.2 covers due.entered.0 later)
      ]
