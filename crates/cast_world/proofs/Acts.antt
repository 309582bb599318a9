-- Places in lists of acts.
use Rattle.std.proofs.Common.{ap, arith, inl, inr, sym, ◌∙◌}
use Rattle.std.proofs.lemmas.Bool.{cases_Bool, eq-eqb, eqb-true, false≢true, true≢false}
use Rattle.std.proofs.lemmas.List.Elements.{Contains-append_cases, Contains-append_left, Contains-append_right, Contains-push_cases}
use Rattle.std.specs.Prelude.{◌++◌, Bool, Contains, List, [], false, refl, suc, true, zero, ℕ, ◌∷◌, ◌≡◌, ◌⊎◌, ◌≡◌}
use Rattle.cast_rules.specs.Acts.{Act}
use Rattle.cast_rules.specs.Acts.Act.{Delivered, Entered, Left, Sent}
use Rattle.cast_message.specs.declared.message.Message.{Message}
use Rattle.cast_types.specs.Counts.{CountList}
use Rattle.cast_types.specs.Names.{group_eq}
use Rattle.cast_types.specs.declared.names.GroupNo.{GroupNo}
use Rattle.cast_world.specs.Properties.{NeverEntered}

pub contains_here : {X : Type 0} (a c : List X) (x : X) → Contains (a ++ x ∷ c) x
contains_here a c x = Contains-append_right a (x ∷ c) x (Contains-append_left (x ∷ []) c x (0, omega arith, refl))

pub contains_cons : {X : Type 0} (y : X) (xs : List X) (x : X) → Contains (y ∷ xs) x → (y ≡ x) ⊎ Contains xs x
contains_cons y xs x (zero, lt, e) = inl e
contains_cons y xs x (suc k, lt, e) = inr (k, omega arith, e)

-- beside one place
pub contains_around : {X : Type 0} (a c : List X) (y x : X) → Contains (a ++ y ∷ c) x → Contains a x ⊎ (y ≡ x) ⊎ Contains c x
contains_around a c y x at = elim (Contains-append_cases a (y ∷ c) x at) [ inl l ↦ inl l | inr r ↦ inr (contains_cons y c x r) ]

pub is_delivered : Act → Bool
is_delivered (Sent u) = false
is_delivered (Delivered u) = true
is_delivered (Entered g n cut) = false
is_delivered (Left g) = false

pub entered_other : (m : Message) (g : GroupNo) (n : ℕ) (cut : CountList) → ◌≡◌ {A = Act} (Delivered m) (Entered g n cut) → ⊥
unfolding is_delivered
entered_other m g n cut e = true≢false (ap is_delivered e)

pub record FirstEntry (g : GroupNo) (b : List Act) : Type 0 where
  pub number : ℕ
  pub cut : CountList
  pub before : List Act
  pub later : List Act
  pub is : b ≡ before ++ Entered g number cut ∷ later
  pub first : NeverEntered g before

-- of this group, or not
pub data Enters (g : GroupNo) (x : Act) : Type 0 where
  does : (n : ℕ) (cut : CountList) → x ≡ Entered g n cut → Enters g x
  does_not : ((n : ℕ) (cut : CountList) → x ≡ Entered g n cut → ⊥) → Enters g x

pub group_of : Act → GroupNo → GroupNo
group_of (Sent u) d = d
group_of (Delivered u) d = d
group_of (Entered g n cut) d = g
group_of (Left g) d = d

pub is_entered : Act → Bool
is_entered (Sent u) = false
is_entered (Delivered u) = false
is_entered (Entered g n cut) = true
is_entered (Left g) = false

pub entered_not_sent : (m : Message) (g : GroupNo) (n : ℕ) (cut : CountList) → ◌≡◌ {A = Act} (Entered g n cut) (Sent m) → ⊥
unfolding is_entered
entered_not_sent m g n cut e = true≢false (ap is_entered e)

pub enters : (g : GroupNo) (x : Act) → Enters g x
unfolding is_entered group_of
enters g (Sent u) = does_not (λ n cut e. false≢true (ap is_entered e))
enters g (Delivered u) = does_not (λ n cut e. false≢true (ap is_entered e))
enters g (Left h) = does_not (λ n cut e. false≢true (ap is_entered e))
enters g (Entered h n cut) = elim (cases_Bool (group_eq h g)) [
  | inl same ↦ does n cut (ap (λ k. Entered record { 0 = k } n cut) (eqb-true h.0 g.0 same))
  | inr other ↦ does_not (λ k c e. true≢false (sym (eq-eqb h.0 g.0 (ap (λ y. (group_of y g).0) e)) ∙ other))
]

pub first_entry : (g : GroupNo) (b : List Act) → FirstEntry g b ⊎ NeverEntered g b
first_entry g [] = inr (λ n cut at. absurd (omega (arith, at.1)))
first_entry g (x ∷ b) = elim (enters g x) [
  | does n cut e ↦ inl record {
    number = n;
    cut = cut;
    before = [];
    later = b;
    is = ap (λ y. y ∷ b) e;
    first = λ k c at. absurd (omega (arith, at.1));
  }
  | does_not never ↦ elim (first_entry g b) [
    | inl f ↦ inl record {
      number = f.number;
      cut = f.cut;
      before = x ∷ f.before;
      later = f.later;
      is = ap (λ y. x ∷ y) f.is;
      first = λ k c at. elim (contains_cons x f.before _ at) [ inl here ↦ never k c here | inr there ↦ f.first k c there ];
    }
    | inr none ↦ inr (λ k c at. elim (contains_cons x b _ at) [ inl here ↦ never k c here | inr there ↦ none k c there ])
  ]
]

-- Messages that were sent stand among earlier acts, where the last act sends none

unfoldable pub is_sending : Act → Bool
is_sending (Sent m) = true
is_sending (Delivered m) = false
is_sending (Entered g n cut) = false
is_sending (Left g) = false

sent_before : (acts : List Act) (y : Act) (m : Message) → is_sending y ≡ false → Contains (acts ++ y ∷ []) (Sent m) → Contains acts (Sent m)
unfolding is_sending
sent_before acts y m other at =
    elim (Contains-push_cases acts y (Sent m) at) [ inl old ↦ old | inr new ↦ absurd (true≢false (sym (ap is_sending new) ∙ other)) ]

pub sent_delivered : (acts : List Act) (x m : Message) → Contains (acts ++ Delivered x ∷ []) (Sent m) → Contains acts (Sent m)
unfolding is_sending
sent_delivered acts x m at = sent_before acts (Delivered x) m refl at

pub sent_entered : (acts : List Act) (g : GroupNo) (n : ℕ) (cut : CountList) (m : Message) →
    Contains (acts ++ Entered g n cut ∷ []) (Sent m) → Contains acts (Sent m)
unfolding is_sending
sent_entered acts g n cut m at = sent_before acts (Entered g n cut) m refl at

pub sent_left : (acts : List Act) (g : GroupNo) (m : Message) → Contains (acts ++ Left g ∷ []) (Sent m) → Contains acts (Sent m)
unfolding is_sending
sent_left acts g m at = sent_before acts (Left g) m refl at
