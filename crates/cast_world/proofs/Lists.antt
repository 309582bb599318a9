-- Places in lists of acts.
use Rattle.std.proofs.Common.{ap, arith, inl, inr, subst, sym, ◌∙◌}
use Rattle.std.proofs.lemmas.Bool.{true≢false}
use Rattle.std.proofs.lemmas.List.Elements.{Contains-append_left, Contains-push, Contains-push_cases}
use Rattle.std.specs.Prelude.{◌++◌, Bool, Contains, List, [], false, refl, suc, true, zero, ℕ, ◌∷◌, ◌≡◌, ◌⊎◌, ◌≡◌}
use Rattle.cast_rules.specs.Acts.{Act}
use Rattle.cast_rules.specs.Acts.Act.{Delivered, Entered, Left, Sent}
use Rattle.cast_message.specs.declared.message.Message.{Message}
use Rattle.cast_types.specs.Counts.{CountList}
use Rattle.cast_types.specs.declared.names.GroupNo.{GroupNo}
use Rattle.cast_types.specs.declared.names.Uid.{Uid}
use Rattle.cast_world.proofs.Facts.{Each, HasDelivered, HasDone}
use Rattle.cast_world.specs.Properties.{IsIn}

unfoldable pub head_or : {X : Type 0} → X → List X → X
head_or d [] = d
head_or d (x ∷ xs) = x

unfoldable pub tail_of : {X : Type 0} → List X → List X
tail_of [] = []
tail_of (x ∷ xs) = xs

is_nil : {X : Type 0} → List X → Bool
is_nil [] = true
is_nil (x ∷ xs) = false

pub never_nil : {X : Type 0} (a c : List X) (x : X) → [] ≡ a ++ x ∷ c → ⊥
unfolding is_nil
never_nil [] c x e = true≢false (ap is_nil e)
never_nil (z ∷ a) c x e = true≢false (ap is_nil e)

-- a place in a list with one more at its end: the end, or a place before
pub data Place {X : Type 0} (xs a c : List X) (y x : X) : Type 0 where
  last : xs ≡ a → y ≡ x → c ≡ [] → Place xs a c y x
  before : (d : List X) → c ≡ d ++ y ∷ [] → xs ≡ a ++ x ∷ d → Place xs a c y x

pub place : {X : Type 0} (xs a c : List X) (y x : X) → xs ++ y ∷ [] ≡ a ++ x ∷ c → Place xs a c y x
unfolding head_or tail_of
place [] [] c y x e = last refl (ap (head_or y) e) (sym (ap tail_of e))
place [] (z ∷ a) c y x e = absurd (never_nil a c x (ap tail_of e))
place (w ∷ xs) [] c y x e = before xs (sym (ap tail_of e)) (ap (λ h. h ∷ xs) (ap (head_or w) e))
place (w ∷ xs) (z ∷ a) c y x e =
    let first : w ≡ z = ap (head_or w) e in
    elim (place xs a c y x (ap tail_of e)) [
      | last is same end ↦ last (λ i. first i ∷ is i) same end
      | before d end is ↦ before d end (λ i. first i ∷ is i)
    ]

pub each_more : (P : List Act → Act → Type 0) (acts : List Act) (y : Act) → Each P acts → P acts y → Each P (acts ++ y ∷ [])
each_more P acts y each new a c x e = elim (place acts a c y x e) [
  | last is same end ↦ subst (λ b. P b x) is (subst (P acts) same new)
  | before d end is ↦ each a d x is
]

pub contains_split : {X : Type 0} (xs : List X) (x : X) → Contains xs x → (a c : List X) × (xs ≡ a ++ x ∷ c)
contains_split [] x at = absurd (omega (arith, at.1))
contains_split (y ∷ ys) x (zero, lt, e) = ([], ys, ap (λ z. z ∷ ys) e)
contains_split (y ∷ ys) x (suc k, lt, e) =
    let rest = contains_split ys x (k, omega arith, e) in
    (y ∷ rest.0, rest.1, ap (λ zs. y ∷ zs) rest.2)

-- which act it is
delivered_or : Message → Act → Message
delivered_or d (Sent m) = d
delivered_or d (Delivered m) = m
delivered_or d (Entered g n cut) = d
delivered_or d (Left g) = d

sent_or : Message → Act → Message
sent_or d (Sent m) = m
sent_or d (Delivered m) = d
sent_or d (Entered g n cut) = d
sent_or d (Left g) = d

group_or : GroupNo → Act → GroupNo
group_or d (Sent m) = d
group_or d (Delivered m) = d
group_or d (Entered g n cut) = g
group_or d (Left g) = g

view_or : Act → ℕ
view_or (Sent m) = 0
view_or (Delivered m) = 0
view_or (Entered g n cut) = n
view_or (Left g) = 0

sort_of : Act → ℕ
sort_of (Sent m) = 0
sort_of (Delivered m) = 1
sort_of (Entered g n cut) = 2
sort_of (Left g) = 3

abbrev pub IsMessage : Act → Type 0
IsMessage y = ((m : Message) × (y ≡ Sent m)) ⊎ ((m : Message) × (y ≡ Delivered m))

pub done_delivered : (acts : List Act) (m y : Message) → HasDone (acts ++ Delivered m ∷ []) y → HasDone acts y ⊎ (m ≡ y)
unfolding delivered_or sort_of
done_delivered acts m y (inl at) =
    elim (Contains-push_cases acts (Delivered m) (Sent y) at) [ inl old ↦ inl (inl old) | inr new ↦ absurd (differ (ap sort_of new)) ]
  where
    differ : ◌≡◌ {A = ℕ} 1 0 → ⊥
    differ e = omega arith
done_delivered acts m y (inr at) =
    elim (Contains-push_cases acts (Delivered m) (Delivered y) at) [ inl old ↦ inl (inr old) | inr new ↦ inr (ap (delivered_or m) new) ]

pub done_sent : (acts : List Act) (m y : Message) → HasDone (acts ++ Sent m ∷ []) y → HasDone acts y ⊎ (m ≡ y)
unfolding sent_or sort_of
done_sent acts m y (inl at) =
    elim (Contains-push_cases acts (Sent m) (Sent y) at) [ inl old ↦ inl (inl old) | inr new ↦ inr (ap (sent_or m) new) ]
done_sent acts m y (inr at) =
    elim (Contains-push_cases acts (Sent m) (Delivered y) at) [ inl old ↦ inl (inr old) | inr new ↦ absurd (differ (ap sort_of new)) ]
  where
    differ : ◌≡◌ {A = ℕ} 0 1 → ⊥
    differ e = omega arith

pub done_entered : (acts : List Act) (g : GroupNo) (n : ℕ) (cut : CountList) (y : Message) → HasDone (acts ++ Entered g n cut ∷ []) y →
    HasDone acts y
unfolding sort_of
done_entered acts g n cut y (inl at) =
    elim (Contains-push_cases acts (Entered g n cut) (Sent y) at) [ inl old ↦ inl old | inr new ↦ absurd (differ (ap sort_of new)) ]
  where
    differ : ◌≡◌ {A = ℕ} 2 0 → ⊥
    differ e = omega arith
done_entered acts g n cut y (inr at) =
    elim (Contains-push_cases acts (Entered g n cut) (Delivered y) at) [ inl old ↦ inr old | inr new ↦ absurd (differ (ap sort_of new)) ]
  where
    differ : ◌≡◌ {A = ℕ} 2 1 → ⊥
    differ e = omega arith

pub done_left : (acts : List Act) (g : GroupNo) (y : Message) → HasDone (acts ++ Left g ∷ []) y → HasDone acts y
unfolding sort_of
done_left acts g y (inl at) =
    elim (Contains-push_cases acts (Left g) (Sent y) at) [ inl old ↦ inl old | inr new ↦ absurd (differ (ap sort_of new)) ]
  where
    differ : ◌≡◌ {A = ℕ} 3 0 → ⊥
    differ e = omega arith
done_left acts g y (inr at) =
    elim (Contains-push_cases acts (Left g) (Delivered y) at) [ inl old ↦ inr old | inr new ↦ absurd (differ (ap sort_of new)) ]
  where
    differ : ◌≡◌ {A = ℕ} 3 1 → ⊥
    differ e = omega arith

pub left_not_entered : (g h : GroupNo) (n : ℕ) (cut : CountList) → ◌≡◌ {A = Act} (Left g) (Entered h n cut) → ⊥
unfolding sort_of
left_not_entered g h n cut e = let differ : ◌≡◌ {A = ℕ} 3 2 = ap sort_of e in omega (arith, differ)

pub has_more : (acts : List Act) (y : Act) (u : Uid) → HasDelivered acts u → HasDelivered (acts ++ y ∷ []) u
has_more acts y u (m, is, at) = (m, is, Contains-append_left acts (y ∷ []) _ at)

-- the view after one more act
pub is_in_less : (acts : List Act) (y : Act) (g : GroupNo) (v : ℕ) → IsIn (acts ++ y ∷ []) g v →
    ((cut : CountList) × (y ≡ Entered g v cut)) ⊎ (IsIn acts g v × (y ≡ Left g → ⊥) × ((n : ℕ) (cut : CountList) → y ≡ Entered g n cut → ⊥))
is_in_less acts y g v (a, b, cut, is, stays, last_one) = elim (place acts a b y (Entered g v cut) is) [
  | last is_a same end ↦ inl (cut, same)
  | before d end is_a ↦ inr (
    (
      a,
      d,
      cut,
      is_a,
      (λ at. stays (subst (λ z. Contains z (Left g)) (sym end) (Contains-append_left d (y ∷ []) _ at))),
      (λ n c at. last_one n c (subst (λ z. Contains z (Entered g n c)) (sym end) (Contains-append_left d (y ∷ []) _ at))),
    ),
    (λ e. stays (subst (λ z. Contains z (Left g)) (sym end) (subst (λ x. Contains (d ++ y ∷ []) x) e (Contains-push d y)))),
    (λ n c e.
        last_one n c (subst (λ z. Contains z (Entered g n c)) (sym end) (subst (λ x. Contains (d ++ y ∷ []) x) e (Contains-push d y)))),
  )
]

-- an act on a message leaves views as they are
pub is_in_message : (acts : List Act) (y : Act) (g : GroupNo) (v : ℕ) → IsMessage y → IsIn (acts ++ y ∷ []) g v → IsIn acts g v
unfolding sort_of
is_in_message acts y g v message at = elim (is_in_less acts y g v at) [
  | inl (cut, is) ↦ elim message [
    | inl (m, e) ↦ let differ : ◌≡◌ {A = ℕ} 0 2 = ap sort_of (sym e ∙ is) in absurd (omega (arith, differ))
    | inr (m, e) ↦ let differ : ◌≡◌ {A = ℕ} 1 2 = ap sort_of (sym e ∙ is) in absurd (omega (arith, differ))
  ]
  | inr old ↦ old.0
]

-- an entry is of this group and view, or of another group
pub entered_same : (g h : GroupNo) (n v : ℕ) (cut other : CountList) → ◌≡◌ {A = Act} (Entered g n cut) (Entered h v other) →
    (g ≡ h) × (n ≡ v)
unfolding group_or view_or
entered_same g h n v cut other e = (ap (group_or g) e, ap view_or e)

pub sent_same : (x y : Message) → ◌≡◌ {A = Act} (Sent x) (Sent y) → x ≡ y
unfolding sent_or
sent_same x y e = ap (sent_or x) e

pub delivered_same : (x y : Message) → ◌≡◌ {A = Act} (Delivered x) (Delivered y) → x ≡ y
unfolding delivered_or
delivered_same x y e = ap (delivered_or x) e

is_delivery : Act → Bool
is_delivery (Sent m) = false
is_delivery (Delivered m) = true
is_delivery (Entered g n cut) = false
is_delivery (Left g) = false

-- a delivery before an act that is none
delivered_before : (acts : List Act) (y : Act) (m : Message) → is_delivery y ≡ false → Contains (acts ++ y ∷ []) (Delivered m) →
    Contains acts (Delivered m)
unfolding is_delivery
delivered_before acts y m other at =
    elim (Contains-push_cases acts y (Delivered m) at) [ inl old ↦ old | inr new ↦ absurd (true≢false (sym (ap is_delivery new) ∙ other)) ]

pub before_sent : (acts : List Act) (x m : Message) → Contains (acts ++ Sent x ∷ []) (Delivered m) → Contains acts (Delivered m)
unfolding is_delivery
before_sent acts x m at = delivered_before acts (Sent x) m refl at

pub before_entered : (acts : List Act) (g : GroupNo) (n : ℕ) (cut : CountList) (m : Message) →
    Contains (acts ++ Entered g n cut ∷ []) (Delivered m) → Contains acts (Delivered m)
unfolding is_delivery
before_entered acts g n cut m at = delivered_before acts (Entered g n cut) m refl at

pub before_left : (acts : List Act) (g : GroupNo) (m : Message) → Contains (acts ++ Left g ∷ []) (Delivered m) → Contains acts (Delivered m)
unfolding is_delivery
before_left acts g m at = delivered_before acts (Left g) m refl at

pub before_delivered : (acts : List Act) (x m : Message) → Contains (acts ++ Delivered x ∷ []) (Delivered m) →
    Contains acts (Delivered m) ⊎ (x ≡ m)
unfolding delivered_or
before_delivered acts x m at =
    elim (Contains-push_cases acts (Delivered x) (Delivered m) at) [ inl old ↦ inl old | inr new ↦ inr (ap (delivered_or m) new) ]

-- an entry before an act that is none
is_entry : Act → Bool
is_entry (Sent m) = false
is_entry (Delivered m) = false
is_entry (Entered g n cut) = true
is_entry (Left g) = false

entry_before : (acts : List Act) (y : Act) (g : GroupNo) (n : ℕ) (cut : CountList) → is_entry y ≡ false →
    Contains (acts ++ y ∷ []) (Entered g n cut) → Contains acts (Entered g n cut)
unfolding is_entry
entry_before acts y g n cut other at =
    elim (Contains-push_cases acts y (Entered g n cut) at) [ inl old ↦ old | inr new ↦ absurd (true≢false (sym (ap is_entry new) ∙ other)) ]

pub entry_sent : (acts : List Act) (m : Message) (g : GroupNo) (n : ℕ) (cut : CountList) →
    Contains (acts ++ Sent m ∷ []) (Entered g n cut) → Contains acts (Entered g n cut)
unfolding is_entry
entry_sent acts m g n cut at = entry_before acts (Sent m) g n cut refl at

pub entry_delivered : (acts : List Act) (m : Message) (g : GroupNo) (n : ℕ) (cut : CountList) →
    Contains (acts ++ Delivered m ∷ []) (Entered g n cut) → Contains acts (Entered g n cut)
unfolding is_entry
entry_delivered acts m g n cut at = entry_before acts (Delivered m) g n cut refl at

pub entry_left : (acts : List Act) (h g : GroupNo) (n : ℕ) (cut : CountList) → Contains (acts ++ Left h ∷ []) (Entered g n cut) →
    Contains acts (Entered g n cut)
unfolding is_entry
entry_left acts h g n cut at = entry_before acts (Left h) g n cut refl at

cut_or : CountList → Act → CountList
cut_or d (Sent m) = d
cut_or d (Delivered m) = d
cut_or d (Entered g n cut) = cut
cut_or d (Left g) = d

pub same_cut : (g h : GroupNo) (n v : ℕ) (cut other : CountList) → ◌≡◌ {A = Act} (Entered g n cut) (Entered h v other) → cut ≡ other
unfolding cut_or
same_cut g h n v cut other e = ap (cut_or cut) e
