-- The token of a view goes one way: from the process that an Install named to each to which it is handed over. Who took it up did so at the
-- end of a path of hand-overs (`Took`). Of two such paths one goes on from the other (`compare`), since who gives it away gives it to one
-- process (`one_gives`). So two that took it up and gave it to nobody are one.
use Rattle.std.proofs.Common.{ap, append_assoc, arith, inl, inr, subst, sym, ◌∙◌}
use Rattle.std.proofs.lemmas.Bool.{eq-eqb, false≢true, true≢false}
use Rattle.std.proofs.lemmas.List.{append_cancel_left}
use Rattle.std.specs.List.{fold}
use Rattle.std.specs.Prelude.{◌&&◌, ◌++◌, Bool, Contains, List, None, Option, Some, [], false, if◌then◌else◌}
use Rattle.std.specs.Prelude.{is_some, refl, true, unwrap_or, ℕ, ◌∷◌, ◌≡◌, ◌⊎◌}
use Rattle.cast_rules.specs.Acts.{Act}
use Rattle.cast_rules.specs.Acts.Act.{Delivered, Entered, Left, Sent}
use Rattle.cast_rules.specs.Order.{token_after, token_told}
use Rattle.cast_message.specs.Bodies.{hands_over, new_holder}
use Rattle.cast_message.specs.Placement.{Placement}
use Rattle.cast_message.specs.declared.message.Body.{Body}
use Rattle.cast_message.specs.declared.message.Message.{Message}
use Rattle.cast_types.specs.declared.names.GroupNo.{GroupNo}
use Rattle.cast_types.specs.declared.names.Proc.{Proc}
use Rattle.cast_view.specs.MemberSide.{is_process}
use Rattle.cast_world.proofs.Acts.{contains_cons, contains_here, is_sending}
use Rattle.cast_world.proofs.Allowed.{contains_more}
use Rattle.cast_world.proofs.Listings.{parts_of_id}
use Rattle.cast_world.proofs.Lists.{head_or, sent_same, tail_of}
use Rattle.cast_world.proofs.Tokens.{named_is}
use Rattle.cast_world.specs.Agreement.{is_in}
use Rattle.cast_world.specs.Properties.{HandsOverNone}
use Rattle.cast_message.specs.declared.message.Body.TheVariants as body

-- a message of a view hands the token over to a process
abbrev pub HandsTo : GroupNo → ℕ → Message → Proc → Type 0
HandsTo g v m p = (m.id.group ≡ g) × (m.id.view ≡ v) × (new_holder m.body ≡ Some p)

-- One process

abbrev pub HadOrTook : GroupNo → ℕ → Proc → Option ℕ → List Act → Type 0
HadOrTook g v p token acts =
    ((is_some token ≡ true) × HandsOverNone g v acts)
    ⊎ ((m : Message) × (a b : List Act) × (acts ≡ a ++ Delivered m ∷ b) × HandsTo g v m p × HandsOverNone g v b)

-- one act more that hands nothing over, before those
more_none : (g : GroupNo) (v : ℕ) (y : Act) (acts : List Act) →
    ((m : Message) → y ≡ Sent m → m.id.group ≡ g → m.id.view ≡ v → hands_over m.body ≡ true → ⊥) → HandsOverNone g v acts →
    HandsOverNone g v (y ∷ acts)
more_none g v y acts new none m at group view hands =
    elim (contains_cons y acts (Sent m) at) [ inl here ↦ new m here group view hands | inr later ↦ none m later group view hands ]

quiet_none : (g : GroupNo) (v : ℕ) (y : Act) (acts : List Act) → is_sending y ≡ false → HandsOverNone g v acts →
    HandsOverNone g v (y ∷ acts)
unfolding is_sending
quiet_none g v y acts quiet none =
    more_none g v y acts (λ m same group view hands. true≢false (sym (ap is_sending same) ∙ quiet)) none

in_view : (g : GroupNo) (v : ℕ) (m : Message) → m.id.group ≡ g → m.id.view ≡ v → is_in g v m.id ≡ true
in_view g v m group view = λ i. eq-eqb m.id.group.0 g.0 (ap (λ (x : GroupNo). x.0) group) i && eq-eqb m.id.view v view i

module _ (g : GroupNo) (v : ℕ) (p : Proc) (token : Option ℕ) (m : Message) (acts : List Act) (none : HandsOverNone g v acts) where
  after_sending : (b : Bool) → is_in g v m.id ≡ b → (o : Option Proc) → new_holder m.body ≡ o →
      is_some (if b then elim o as (λ x. Option ℕ) [ Some q ↦ None | None ↦ token ] else token) ≡ true →
      HadOrTook g v p token (Sent m ∷ acts)
  after_sending true is (Some q) names some = absurd (false≢true some)
  after_sending true is None names some =
      inl (
        some,
        more_none g v (Sent m) acts (λ z same group view hands. true≢false
            (sym (subst (λ (y : Message). hands_over y.body ≡ true) (sym (sent_same m z same)) hands) ∙ ap is_some names)) none,
      )
  after_sending false is o names some =
      inl (
        some,
        more_none g v (Sent m) acts (λ z same group view hands. true≢false
            (sym (subst (λ (y : Message). is_in g v y.id ≡ true) (sym (sent_same m z same)) (in_view g v z group view)) ∙ is)) none,
      )

  not_sent : HandsOverNone g v (Delivered m ∷ acts)
  unfolding is_sending
  not_sent = quiet_none g v (Delivered m) acts refl none

  after_handing : (s : Placement) → m.body ≡ body.Order s → is_in g v m.id ≡ true → (d : Bool) → is_process p s.holder ≡ d →
      is_some (if d then Some s.first else token) ≡ true → HadOrTook g v p token (Delivered m ∷ acts)
  after_handing s e is true named some =
      let parts = parts_of_id g v m.id is in
      inr (m, [], acts, refl, (parts.0, parts.1, ap new_holder e ∙ named_is p s.holder named), none)
  after_handing s e is false named some = inl (some, not_sent)

  after_delivery : (b : Bool) → is_in g v m.id ≡ b → (c : Body) → m.body ≡ c → is_some (if b then token_told p token c else token) ≡ true →
      HadOrTook g v p token (Delivered m ∷ acts)
  after_delivery false is c e some = inl (some, not_sent)
  after_delivery true is (body.Causal payload) e some = inl (some, not_sent)
  after_delivery true is (body.Atomic payload) e some = inl (some, not_sent)
  after_delivery true is (body.Order s) e some = after_handing s e is (is_process p s.holder) refl some

after_act : (g : GroupNo) (v : ℕ) (p : Proc) (token : Option ℕ) (y : Act) (acts : List Act) → HandsOverNone g v acts →
    is_some (token_after (is_in g v) p token y) ≡ true → HadOrTook g v p token (y ∷ acts)
unfolding is_sending
after_act g v p token (Sent m) acts none some =
    after_sending g v p token m acts none (is_in g v m.id) refl (new_holder m.body) refl some
after_act g v p token (Delivered m) acts none some = after_delivery g v p token m acts none (is_in g v m.id) refl m.body refl some
after_act g v p token (Entered h n cut) acts none some = inl (some, quiet_none g v (Entered h n cut) acts refl none)
after_act g v p token (Left h) acts none some = inl (some, quiet_none g v (Left h) acts refl none)

-- who has the token by what it did had it before, and has handed it over to nobody, or took it up by a delivery
pub token_cases : (g : GroupNo) (v : ℕ) (p : Proc) (token : Option ℕ) (acts : List Act) →
    is_some (fold (token_after (is_in g v) p) token acts) ≡ true → HadOrTook g v p token acts
token_cases g v p token [] e = inl (e, λ m at. absurd (omega (arith, at.1)))
token_cases g v p token (y ∷ acts) e = elim (token_cases g v p (token_after (is_in g v) p token y) acts e) [
  | inr (m, a, b, is, hands, none) ↦ inr (m, y ∷ a, b, ap (λ l. y ∷ l) is, hands, none)
  | inl had ↦ after_act g v p token y acts had.1 had.0
]

-- Paths of a view's token

-- a process that took the token up with the last of these acts gives it away: with its next hand-over, to one that takes it up by
-- delivering that
abbrev pub Gives : GroupNo → ℕ → (Proc → List Act) → Proc → List Act → Proc → List Act → Type 0
Gives g v acts r x p y =
    (m : Message) × (b c d e : List Act) × (acts r ≡ x ++ (b ++ Sent m ∷ c)) × HandsOverNone g v b × HandsTo g v m p
    × (acts p ≡ d ++ Delivered m ∷ e) × (y ≡ d ++ Delivered m ∷ [])

-- a process took it up with the last of its first acts: it was named, and has it from the beginning, or one that took it up gave it away
pub data Took (g : GroupNo) (v : ℕ) (Named : Proc → Type 0) (acts : Proc → List Act) : Proc → List Act → Type 0 where
  named : (p : Proc) (x : List Act) → Named p → x ≡ [] → Took g v Named acts p x
  given : (r p : Proc) (x y : List Act) → Took g v Named acts r x → Gives g v acts r x p y → Took g v Named acts p y

-- from who took it up to another that did so later
pub data Leads (g : GroupNo) (v : ℕ) (acts : Proc → List Act) : Proc → List Act → Proc → List Act → Type 0 where
  here : (p q : Proc) (x y : List Act) → p ≡ q → x ≡ y → Leads g v acts p x q y
  onward : (p r q : Proc) (x z y : List Act) → Leads g v acts p x r z → Gives g v acts r z q y → Leads g v acts p x q y

-- a place of a list, where what stands there stands in no other
one_place : {X : Type 0} (xs ys us vs : List X) (x : X) → xs ++ x ∷ us ≡ ys ++ x ∷ vs →
    ((a b c : List X) → xs ++ x ∷ us ≡ a ++ x ∷ (b ++ x ∷ c) → ⊥) → xs ≡ ys
unfolding head_or tail_of
one_place [] [] us vs x e never = refl
one_place [] (y ∷ ys) us vs x e never = absurd (never [] ys vs (ap (λ l. x ∷ l) (ap tail_of e)))
one_place (z ∷ xs) [] us vs x e never = absurd (never [] xs us (λ i. ap (head_or x) e i ∷ (xs ++ x ∷ us)))
one_place (z ∷ xs) (y ∷ ys) us vs x e never =
    let more : xs ≡ ys = one_place xs ys us vs x (ap tail_of e) (λ a b c is. never (z ∷ a) b c (ap (λ l. z ∷ l) is)) in
    λ i. ap (head_or x) e i ∷ more i

-- the first hand-over in a list of acts
first_handed : (g : GroupNo) (v : ℕ) (xs ys us vs : List Act) (m n : Message) (p q : Proc) → xs ++ Sent m ∷ us ≡ ys ++ Sent n ∷ vs →
    HandsOverNone g v xs → HandsOverNone g v ys → HandsTo g v m p → HandsTo g v n q → m ≡ n
unfolding head_or tail_of
first_handed g v [] [] us vs m n p q e none other one two = sent_same m n (ap (head_or (Sent m)) e)
first_handed g v [] (y ∷ ys) us vs m n p q e none other one two =
    absurd (other m (subst (λ z. Contains (z ∷ ys) (Sent m)) (ap (head_or y) e) (contains_here [] ys (Sent m))) one.0 one.1
    (ap is_some one.2))
first_handed g v (x ∷ xs) [] us vs m n p q e none other one two =
    absurd (none n (subst (λ z. Contains (z ∷ xs) (Sent n)) (sym (ap (head_or x) e)) (contains_here [] xs (Sent n))) two.0 two.1
    (ap is_some two.2))
first_handed g v (x ∷ xs) (y ∷ ys) us vs m n p q e none other one two =
    first_handed g v xs ys us vs m n p q (ap tail_of e) (λ z at. none z (contains_more x xs (Sent z) at))
    (λ z at. other z (contains_more y ys (Sent z) at)) one two

module _ (g : GroupNo) (v : ℕ) (Named : Proc → Type 0) (acts : Proc → List Act) (agree : (p q : Proc) → Named p → Named q → p ≡ q)
    (once : (p : Proc) (m : Message) (a b c : List Act) → acts p ≡ a ++ Delivered m ∷ (b ++ Delivered m ∷ c) → ⊥) where
  abbrev GivesTo : Proc → List Act → Proc → List Act → Type 0
  GivesTo = Gives g v acts

  abbrev TookUp : Proc → List Act → Type 0
  TookUp = Took g v Named acts

  abbrev LeadsTo : Proc → List Act → Proc → List Act → Type 0
  LeadsTo = Leads g v acts

  -- who gives it away gives it to one process
  one_gives : (r p q : Proc) (x y z : List Act) → GivesTo r x p y → GivesTo r x q z → (p ≡ q) × (y ≡ z)
  one_gives r p q x y z (m, b, c, d, e, is, none, hands, took, y_is) (n, b2, c2, d2, e2, is2, none2, hands2, took2, z_is) =
      let same : m ≡ n =
      first_handed g v b b2 c c2 m n p q (append_cancel_left x (b ++ Sent m ∷ c) (b2 ++ Sent n ∷ c2) (sym is ∙ is2))
      none none2 hands hands2 in
      let to : p ≡ q =
      ap (λ (o : Option Proc). unwrap_or o p) (sym hands.2 ∙ ap (λ (k : Message). new_holder k.body) same ∙ hands2.2) in
      let place : d ++ Delivered m ∷ e ≡ d2 ++ Delivered m ∷ e2 =
      sym took ∙ ap acts to ∙ took2 ∙ ap (λ k. d2 ++ Delivered k ∷ e2) (sym same) in
      let before : d ≡ d2 =
      one_place d d2 e e2 (Delivered m) place (λ a f h is_twice. once p m a f h (took ∙ is_twice)) in
      (to, y_is ∙ (λ i. before i ++ Delivered (same i) ∷ []) ∙ sym z_is)

  next : (p q s : Proc) (x y z : List Act) → LeadsTo p x s z → GivesTo p x q y → ((p ≡ s) × (x ≡ z)) ⊎ LeadsTo q y s z
  next p q s x y z (here _ _ _ _ same is) gives = inl (same, is)
  next p q s x y z (onward _ r _ _ u _ leads last) gives = elim (next p q r x y u leads gives) [
    | inl two ↦
        let one = one_gives p q s x y z gives (subst (λ k. GivesTo p k s z) (sym two.1) (subst (λ k. GivesTo k u s z) (sym two.0) last)) in
        inr (here q s y z one.0 one.1)
    | inr more ↦ inr (onward q r s y u z more last)
  ]

  root : (p s : Proc) (x z : List Act) → Named p → x ≡ [] → TookUp s z → LeadsTo p x s z
  root p s x z first none (named _ _ other is) = here p s x z (agree p s first other) (none ∙ sym is)
  root p s x z first none (given r _ u _ took gives) = onward p r s x u z (root p r x u first none took) gives

  compare : (p q : Proc) (x y : List Act) → TookUp p x → TookUp q y → LeadsTo p x q y ⊎ LeadsTo q y p x
  compare p q x y (named _ _ first none) other = inl (root p q x y first none other)
  compare p q x y (given r _ u _ took gives) other = elim (compare r q u y took other) [
    | inl leads ↦ elim (next r p q u x y leads gives) [
      | inl two ↦ inr (onward q r p y u x (here q r y u (sym two.0) (sym two.1)) gives)
      | inr more ↦ inl more
    ]
    | inr leads ↦ inr (onward q r p y u x leads gives)
  ]

  -- who leads on gave it away
  gave : (p q : Proc) (x y : List Act) → LeadsTo p x q y → ((p ≡ q) × (x ≡ y)) ⊎ ((s : Proc) × (z : List Act) × GivesTo p x s z)
  gave p q x y (here _ _ _ _ same is) = inl (same, is)
  gave p q x y (onward _ r _ _ u _ leads last) = elim (gave p r x u leads) [
    | inl two ↦ inr (q, y, subst (λ k. GivesTo p k q y) (sym two.1) (subst (λ k. GivesTo k u q y) (sym two.0) last))
    | inr other ↦ inr other
  ]

  kept_it : (p s : Proc) (x z b : List Act) → acts p ≡ x ++ b → HandsOverNone g v b → GivesTo p x s z → ⊥
  kept_it p s x z b is none (m, b2, c, d, e, is2, none2, hands, took, z_is) =
      let rest : b ≡ b2 ++ Sent m ∷ c = append_cancel_left x b (b2 ++ Sent m ∷ c) (sym is ∙ is2) in
      none m (subst (λ l. Contains l (Sent m)) (sym rest) (contains_here b2 c (Sent m))) hands.0 hands.1 (ap is_some hands.2)

  -- two that took it up and gave it to nobody are one
  pub one_took : (p q : Proc) (x y b c : List Act) → TookUp p x → TookUp q y → acts p ≡ x ++ b → acts q ≡ y ++ c →
      HandsOverNone g v b → HandsOverNone g v c → p ≡ q
  one_took p q x y b c one other is_p is_q none_p none_q = elim (compare p q x y one other) [
    | inl leads ↦ elim (gave p q x y leads) [
      | inl same ↦ same.0
      | inr (s, z, gives) ↦ absurd (kept_it p s x z b is_p none_p gives)
    ]
    | inr leads ↦ elim (gave q p y x leads) [
      | inl same ↦ sym same.0
      | inr (s, z, gives) ↦ absurd (kept_it q s y z c is_q none_q gives)
    ]
  ]

-- What took place stays so once processes did more

module _ (g : GroupNo) (v : ℕ) (Named NamedLater : Proc → Type 0) (acts next : Proc → List Act)
    (still : (p : Proc) → Named p → NamedLater p) (goes : (p : Proc) → (rest : List Act) × (next p ≡ acts p ++ rest)) where
  pub gives_later : (r p : Proc) (x y : List Act) → Gives g v acts r x p y → Gives g v next r x p y
  gives_later r p x y (m, b, c, d, e, is, none, hands, took, y_is) =
      let one = goes r in
      let two = goes p in (
        m,
        b,
        c ++ one.0,
        d,
        e ++ two.0,
        one.1
            ∙ ap (λ l. l ++ one.0) is
            ∙ append_assoc x (b ++ Sent m ∷ c) one.0
            ∙ ap (λ l. x ++ l) (append_assoc b (Sent m ∷ c) one.0),
        none,
        hands,
        two.1 ∙ ap (λ l. l ++ two.0) took ∙ append_assoc d (Delivered m ∷ e) two.0,
        y_is,
      )

  pub took_later : (p : Proc) (x : List Act) → Took g v Named acts p x → Took g v NamedLater next p x
  took_later p x (named _ _ is none) = named p x (still p is) none
  took_later p x (given r _ u _ took gives) = given r p u x (took_later r u took) (gives_later r p u x gives)
