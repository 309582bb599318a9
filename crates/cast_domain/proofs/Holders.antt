-- Who holds the token, by what is kept of processes: those of this site's, in rising order of their serials.
use Rattle.std.proofs.Common.{◌≡◌, ℕ, zero, suc, ◌+◌, ◌≤◌, ◌<◌, Bool, true, false, cond, List, [], ◌∷◌, map, filter, Option}
use Rattle.std.proofs.Common.{Some, None, unwrap_or, Less, Equal, Greater, refl, sym, ap, subst, ◌∙◌, inl, inr, arith}
use Rattle.std.specs.Prelude.{◌==◌, nat_lt, nat_le, is_some}
use Rattle.std.specs.List.{find, list_all, range_with_len}
use Rattle.std.specs.Option.{option_map}
use Rattle.std.specs.Ordering.{is_lt, nat_cmp, ordering_then}
use Rattle.std.proofs.lemmas.Bool.{cases_Bool, cases_lt, false≢true, false_from_ne_true}
use Rattle.std.proofs.lemmas.Bool.{and_parts, and_from, lt-ltb, le-leb, ltb-true, leb-true}
use Rattle.std.proofs.lemmas.Cmp.{nat_cmp_total, tied_itself}
use Rattle.std.proofs.lemmas.Option.{none-some, same_Some}
use Rattle.cast_types.specs.declared.names.SiteNo.{SiteNo}
use Rattle.cast_types.specs.declared.names.GroupNo.{GroupNo}
use Rattle.cast_types.specs.declared.names.Proc.{Proc}
use Rattle.cast_types.specs.Names.{proc_cmp, proc_eq, site_eq}
use Rattle.cast_types.specs.Rising.{is_rising}
use Rattle.cast_types.proofs.Orders.{same_proc, same_site, proc_itself, proc_total}
use Rattle.cast_types.proofs.Rising.{all_kept, less_is, rising_kept}
use Rattle.cast_order.specs.Hand.{Hand, hand_of, new_hand, hands_rise}
use Rattle.cast_order.specs.Log.{log_of, hand_here}
use Rattle.cast_rules.specs.State.{State, local, serials}
use Rattle.cast_rules.specs.Order.{holds, holders, holder_here}
use Rattle.cast_rules.proofs.Totals.{In}
use Rattle.cast_rules.proofs.Listings.{in_kept}
use Rattle.cast_domain.specs.Records.{Records}
use Rattle.cast_domain.specs.FlushCalls.{holds_here, holders_in, holder_in}
use Rattle.cast_domain.specs.Fits.{Fits, LogFits}

-- Rising lists of numbers

-- what is in a rising list of numbers is not below its first one
not_below : (x y : ℕ) (xs : List ℕ) → list_all (λ z. is_lt (nat_cmp x z)) xs ≡ true → In y xs → is_lt (nat_cmp x y) ≡ true
not_below x y [] all at = absurd at
not_below x y (z ∷ xs) all (inl is) = subst (λ w. is_lt (nat_cmp x w) ≡ true) (sym is) (and_parts (is_lt (nat_cmp x z)) _ all).0
not_below x y (z ∷ xs) all (inr there) = not_below x y xs (and_parts (is_lt (nat_cmp x z)) _ all).1 there

never_below : (x : ℕ) → is_lt (nat_cmp x x) ≡ true → ⊥
never_below x below = false≢true (sym (ap is_lt (tied_itself nat_cmp_total x)) ∙ below)

turned : (x y : ℕ) → is_lt (nat_cmp x y) ≡ true → is_lt (nat_cmp y x) ≡ true → ⊥
turned x y one other = never_below x (ap is_lt (nat_cmp_total.trans x y x (less x y one) (less y x other)))
  where
    less : (a b : ℕ) → is_lt (nat_cmp a b) ≡ true → nat_cmp a b ≡ Less
    less a b = less_is (nat_cmp a b)

-- two rising lists with the same numbers are one
same_rising : (xs ys : List ℕ) → is_rising nat_cmp xs ≡ true → is_rising nat_cmp ys ≡ true → ((k : ℕ) → In k xs → In k ys) →
    ((k : ℕ) → In k ys → In k xs) → xs ≡ ys
same_rising [] [] a b there back = refl
same_rising [] (y ∷ ys) a b there back = absurd (back y (inl refl))
same_rising (x ∷ xs) [] a b there back = absurd (there x (inl refl))
same_rising (x ∷ xs) (y ∷ ys) a b there back =
    let p = and_parts (list_all (λ z. is_lt (nat_cmp x z)) xs) (is_rising nat_cmp xs) a in
    let q = and_parts (list_all (λ z. is_lt (nat_cmp y z)) ys) (is_rising nat_cmp ys) b in
    let first : x ≡ y = heads (there x (inl refl)) (back y (inl refl)) p.0 q.0 in
    λ i. first i ∷ same_rising xs ys p.1 q.1
    (λ k at.
    tail k (there k (inr at)) (λ is. never_below x (subst (λ z. is_lt (nat_cmp x z) ≡ true) (is ∙ sym first) (not_below x k xs p.0 at))))
    (λ k at.
    tail_back k (back k (inr at)) (λ is. never_below y (subst (λ z. is_lt (nat_cmp y z) ≡ true) (is ∙ first) (not_below y k ys q.0 at)))) i
  where
    heads : In x (y ∷ ys) → In y (x ∷ xs) → list_all (λ z. is_lt (nat_cmp x z)) xs ≡ true →
        list_all (λ z. is_lt (nat_cmp y z)) ys ≡ true → x ≡ y
    heads (inl is) back_y p q = is
    heads (inr later) (inl is) p q = sym is
    heads (inr later) (inr sooner) p q = absurd (turned x y (not_below x y xs p sooner) (not_below y x ys q later))

    tail : (k : ℕ) → In k (y ∷ ys) → (k ≡ y → ⊥) → In k ys
    tail k (inl is) other = absurd (other is)
    tail k (inr at) other = at

    tail_back : (k : ℕ) → In k (x ∷ xs) → (k ≡ x → ⊥) → In k xs
    tail_back k (inl is) other = absurd (other is)
    tail_back k (inr at) other = at

-- serials rise
above : (a b n : ℕ) → a < b → list_all (λ z. is_lt (nat_cmp a z)) (range_with_len b n) ≡ true
above a b zero lt = refl
above a b (suc n) lt =
    and_from (is_lt (nat_cmp a b)) _ (ap (λ less. is_lt (cond less Less (cond (a == b) Equal Greater))) (lt-ltb a b lt))
    (above a (b + 1) n (omega (arith, lt)))

range_rises : (a n : ℕ) → is_rising nat_cmp (range_with_len a n) ≡ true
range_rises a zero = refl
range_rises a (suc n) =
    and_from (list_all (λ z. is_lt (nat_cmp a z)) (range_with_len (a + 1) n)) _ (above a (a + 1) n (omega arith)) (range_rises (a + 1) n)

in_range : (k a n : ℕ) → a ≤ k → k < a + n → In k (range_with_len a n)
in_range k a zero low high = absurd (omega (arith, low, high))
in_range k a (suc n) low high = elim (cases_lt a k) [
  | inl lt ↦ inr (in_range k (a + 1) n (omega (arith, lt)) (omega (arith, high)))
  | inr le ↦ inl (omega (arith, low, le))
]

range_bounds : (k a n : ℕ) → In k (range_with_len a n) → (a ≤ k) × (k < a + n)
range_bounds k a zero at = absurd at
range_bounds k a (suc n) (inl is) = (omega (arith, is), omega (arith, is))
range_bounds k a (suc n) (inr there) = let (low, high) = range_bounds k (a + 1) n there in (omega (arith, low), omega (arith, high))

-- Hands of one site

in_map : {A B : Type 0} (f : A → B) (y : B) (xs : List A) → In y (map f xs) → (x : A) × In x xs × (y ≡ f x)
in_map f y [] at = absurd at
in_map f y (x ∷ xs) (inl is) = (x, inl refl, is)
in_map f y (x ∷ xs) (inr there) = let (z, among, is) = in_map f y xs there in (z, inr among, is)

map_in : {A B : Type 0} (f : A → B) (x : A) (xs : List A) → In x xs → In (f x) (map f xs)
map_in f x [] at = absurd at
map_in f x (y ∷ xs) (inl is) = inl (ap f is)
map_in f x (y ∷ xs) (inr there) = inr (map_in f x xs there)

kept_in : {A : Type 0} (p : A → Bool) (x : A) (xs : List A) → In x xs → p x ≡ true → In x (filter p xs)
kept_in p x [] at passes = absurd at
kept_in p x (y ∷ xs) at passes = elim at [
  | inl is ↦ subst (λ b. In x (cond b (y ∷ filter p xs) (filter p xs))) (sym (ap p (sym is) ∙ passes)) (inl is)
  | inr there ↦
      elim (p y) as (λ b. In x (cond b (y ∷ filter p xs) (filter p xs))) [
        | true ↦ inr (kept_in p x xs there passes)
        | false ↦
            kept_in p x xs there passes
      ]
]

all_each : {A : Type 0} (p : A → Bool) (xs : List A) → list_all p xs ≡ true → (x : A) → In x xs → p x ≡ true
all_each p [] all x at = absurd at
all_each p (y ∷ xs) all x (inl is) = subst (λ z. p z ≡ true) (sym is) (and_parts (p y) _ all).0
all_each p (y ∷ xs) all x (inr there) = all_each p xs (and_parts (p y) _ all).1 x there

-- a process that is below another is not that one
apart_below : (p q : Proc) → is_lt (proc_cmp p q) ≡ true → proc_eq p q ≡ false
apart_below p q below = false_from_ne_true (proc_eq p q) (λ same.
    false≢true (sym (ap is_lt (ap (proc_cmp p) (sym (same_proc p q same)) ∙ tied_itself proc_total p)) ∙ below))

-- where hands rise each is found under its process
found_own : (hands : List Hand) → hands_rise hands ≡ true → (h : Hand) → In h hands → find (λ x. proc_eq x.process h.process) hands ≡ Some h
found_own [] rise h at = absurd at
found_own (x ∷ hands) rise h at =
    let p = and_parts (list_all (λ y. is_lt (proc_cmp x.process y)) (map (λ y. y.process) hands)) (hands_rise hands) rise in
    elim at [
      | inl is ↦
          subst (λ z. find (λ y. proc_eq y.process z.process) (x ∷ hands) ≡ Some z) (sym is)
          (ap (λ b. cond b (Some x) (find (λ y. proc_eq y.process x.process) hands)) (proc_itself x.process))
      | inr there ↦
          let below : is_lt (proc_cmp x.process h.process) ≡ true =
          all_each (λ y. is_lt (proc_cmp x.process y)) (map (λ y. y.process) hands) p.0 h.process (map_in (λ y. y.process) h hands there) in
          ap (λ b. cond b (Some x) (find (λ y. proc_eq y.process h.process) hands)) (apart_below x.process h.process below)
          ∙ found_own hands p.1 h there
    ]

-- what is found is among them
found_among : (p : Proc) (hands : List Hand) (h : Hand) → find (λ x. proc_eq x.process p) hands ≡ Some h → In h hands × (h.process ≡ p)
found_among p [] h is = absurd (none-some h is)
found_among p (x ∷ hands) h is = elim (cases_Bool (proc_eq x.process p)) [
  | inl here ↦
      let same : x ≡ h = same_Some x h (sym (ap (λ b. cond b (Some x) (find (λ y. proc_eq y.process p) hands)) here) ∙ is) in
      (inl (sym same), ap (λ (y : Hand). y.process) (sym same) ∙ same_proc x.process p here)
  | inr other ↦
      let (there, named) = found_among p hands h (sym (ap (λ b. cond b (Some x) (find (λ y. proc_eq y.process p) hands)) other) ∙ is) in
      (inr there, named)
]

-- the serials of processes of one site rise as their names do
serials_rise : (here : SiteNo) (hands : List Hand) → list_all (λ h. site_eq h.process.site here) hands ≡ true → hands_rise hands ≡ true →
    is_rising nat_cmp (map (λ h. h.process.serial) hands) ≡ true
serials_rise here [] own rise = refl
serials_rise here (x ∷ hands) own rise =
    let a = and_parts (site_eq x.process.site here) _ own in
    let b = and_parts (list_all (λ y. is_lt (proc_cmp x.process y)) (map (λ y. y.process) hands)) (hands_rise hands) rise in
    and_from (list_all (λ n. is_lt (nat_cmp x.process.serial n)) (map (λ h. h.process.serial) hands)) _
    (each hands a.1 b.0) (serials_rise here hands a.1 b.1)
  where
    at_site : x.process.site ≡ here
    at_site = same_site x.process.site here (and_parts (site_eq x.process.site here) _ own).0

    one : (p : Proc) → site_eq p.site here ≡ true → is_lt (proc_cmp x.process p) ≡ true → is_lt (nat_cmp x.process.serial p.serial) ≡ true
    one p there below =
        ap is_lt (sym (ap (λ o. ordering_then o (nat_cmp x.process.serial p.serial))
        ((λ i. nat_cmp (at_site i).0 (same_site p.site here there i).0) ∙ tied_itself nat_cmp_total here.0))) ∙ below

    each : (hs : List Hand) → list_all (λ h. site_eq h.process.site here) hs ≡ true →
        list_all (λ y. is_lt (proc_cmp x.process y)) (map (λ y. y.process) hs) ≡ true →
        list_all (λ n. is_lt (nat_cmp x.process.serial n)) (map (λ h. h.process.serial) hs) ≡ true
    each [] all below = refl
    each (h ∷ hs) all below =
        let a = and_parts (site_eq h.process.site here) _ all in
        let b = and_parts (is_lt (proc_cmp x.process h.process)) _ below in
        and_from (is_lt (nat_cmp x.process.serial h.process.serial)) _ (one h.process a.0 b.0) (each hs a.1 b.1)

own_kept : (here : SiteNo) (p : Hand → Bool) (hands : List Hand) → list_all (λ h. site_eq h.process.site here) hands ≡ true →
    list_all (λ h. site_eq h.process.site here) (filter p hands) ≡ true
own_kept here p hands own = all_kept (λ h. site_eq h.process.site here) p hands own

names_kept : (p : Hand → Bool) (hands : List Hand) → hands_rise hands ≡ true → hands_rise (filter p hands) ≡ true
names_kept p [] rise = refl
names_kept p (x ∷ hands) rise =
    let b = and_parts (list_all (λ y. is_lt (proc_cmp x.process y)) (map (λ y. y.process) hands)) (hands_rise hands) rise in
    let rest = names_kept p hands b.1 in
    elim (p x) as (λ c. hands_rise (cond c (x ∷ filter p hands) (filter p hands)) ≡ true) [
      | true ↦ and_from (list_all (λ y. is_lt (proc_cmp x.process y)) (map (λ y. y.process) (filter p hands))) _ (fewer hands b.0) rest
      | false ↦ rest
    ]
  where
    fewer : (hs : List Hand) → list_all (λ y. is_lt (proc_cmp x.process y)) (map (λ y. y.process) hs) ≡ true →
        list_all (λ y. is_lt (proc_cmp x.process y)) (map (λ y. y.process) (filter p hs)) ≡ true
    fewer [] all = refl
    fewer (h ∷ hs) all =
        let a = and_parts (is_lt (proc_cmp x.process h.process)) _ all in
        elim (p h)
        as (λ c. list_all (λ y. is_lt (proc_cmp x.process y)) (map (λ y. y.process) (cond c (h ∷ filter p hs) (filter p hs))) ≡ true) [
          | true ↦ and_from (is_lt (proc_cmp x.process h.process)) _ a.0 (fewer hs a.1)
          | false ↦ fewer hs a.1
        ]

-- Who holds

module _ (r : Records) (s : State) (f : Fits r s) (g : GroupNo) where
  abbrev hands : List Hand
  hands = (log_of r.orders g).hands

  fit : LogFits s g (log_of r.orders g)
  fit = f.orders g

  used_same : r.used ≡ s.used
  used_same = ap (λ c. c.used) f.core

  -- a hand of this site, under its process
  named_local : (h : Hand) → In h hands → h.process ≡ local s h.process.serial
  named_local h at =
      let here = all_each (λ x. site_eq x.process.site s.here) hands fit.own.1 h at in
      λ i. record { site = same_site h.process.site s.here here i; serial = h.process.serial }

  there : (k : ℕ) → In k (holders_in r g) → In k (holders s g)
  there k at =
      let (h, among, is) = in_map (λ x. x.process.serial) k (filter (holds_here r) hands) at in
      let (passes, in_hands) = in_kept (holds_here r) hands h among in
      let a = and_parts (is_some h.first) _ passes in
      let given = and_parts (nat_lt 0 h.process.serial) (nat_le h.process.serial r.used) a.1 in
      let low = ltb-true 0 h.process.serial given.0 in
      let high = leb-true h.process.serial r.used given.1 in
      let found : hand_here (log_of r.orders g) (local s h.process.serial) ≡ h =
      ap (hand_of hands) (sym (named_local h in_hands))
      ∙ ap (λ o. unwrap_or o (new_hand h.process)) (found_own hands fit.own.0 h in_hands) in
      subst (λ n. In n (holders s g)) (sym is)
      (kept_in (holds s g) h.process.serial (serials s)
      (in_range h.process.serial 1 s.used (omega (arith, low)) (omega (arith, high, used_same)))
      (ap is_some (sym (fit.tokens h.process.serial)) ∙ ap (λ (x : Hand). is_some x.first) found ∙ a.0))

  back : (k : ℕ) → In k (holders s g) → In k (holders_in r g)
  back k at =
      let (holding, given) = in_kept (holds s g) (serials s) k at in
      let (low, high) = range_bounds k 1 s.used given in
      by (find (λ x. proc_eq x.process (local s k)) hands) refl (ap is_some (fit.tokens k) ∙ holding) low high
    where
      by : (o : Option Hand) → find (λ x. proc_eq x.process (local s k)) hands ≡ o →
          is_some (unwrap_or o (new_hand (local s k))).first ≡ true → 1 ≤ k → k < 1 + s.used → In k (holders_in r g)
      by None is holding low high = absurd (false≢true holding)
      by (Some h) is holding low high =
          let (at_hands, named) = found_among (local s k) hands h is in
          let serial : h.process.serial ≡ k = ap (λ (p : Proc). p.serial) named in
          subst (λ n. In n (holders_in r g)) serial
          (map_in (λ x. x.process.serial) h (filter (holds_here r) hands) (kept_in (holds_here r) h hands at_hands
          (and_from (is_some h.first) _ holding
          (and_from (nat_lt 0 h.process.serial) _ (lt-ltb 0 h.process.serial (omega (arith, low, serial)))
          (le-leb h.process.serial r.used (omega (arith, high, serial, used_same)))))))

  -- the processes here that hold the token are those of the history
  pub holders_there : holders_in r g ≡ holders s g
  holders_there =
      same_rising (holders_in r g) (holders s g)
      (serials_rise s.here (filter (holds_here r) hands) (own_kept s.here (holds_here r) hands fit.own.1)
      (names_kept (holds_here r) hands fit.own.0))
      (rising_kept nat_cmp (holds s g) (serials s) (range_rises 1 s.used))
      there back

  -- and so is the first of them
  pub holder_there : holder_in r g ≡ option_map (local s) (holder_here s g)
  holder_there =
      (λ i. option_map (λ (h : Hand). record { site = (f.core i).site; serial = h.process.serial }) (find (holds_here r) hands))
      ∙ first_of (holds_here r) hands
      ∙ ap (λ ks. option_map (local s) (head_of ks)) holders_there
      ∙ ap (option_map (local s)) (sym (first_kept (holds s g) (serials s)))
    where
      head_of : List ℕ → Option ℕ
      head_of [] = None
      head_of (k ∷ ks) = Some k

      first_of : (p : Hand → Bool) (hs : List Hand) → option_map (λ (h : Hand). local s h.process.serial) (find p hs) ≡ option_map (local s)
          (head_of (map (λ h. h.process.serial) (filter p hs)))
      first_of p [] = refl
      first_of p (h ∷ hs) =
          elim (p h) as (λ b. option_map (λ (x : Hand). local s x.process.serial) (cond b (Some h) (find p hs)) ≡ option_map (local s)
          (head_of (map (λ x. x.process.serial) (cond b (h ∷ filter p hs) (filter p hs))))) [ true ↦ refl | false ↦ first_of p hs ]

      first_kept : (p : ℕ → Bool) (ks : List ℕ) → find p ks ≡ head_of (filter p ks)
      first_kept p [] = refl
      first_kept p (k ∷ ks) =
          elim (p k)
          as (λ b. cond b (Some k) (find p ks) ≡ head_of (cond b (k ∷ filter p ks) (filter p ks))) [ true ↦ refl | false ↦ first_kept p ks ]
