-- Which process has the token of a view, by what it did. Acts move it only where a hand-over is sent, or one is delivered that names the
-- process.
use Rattle.cast_types.proofs.Orders.{same_proc}
use Rattle.std.proofs.Common.{ap, inl, inr, subst, sym, ◌∙◌}
use Rattle.std.proofs.lemmas.Bool.{false≢true, true≢false}
use Rattle.std.proofs.lemmas.List.Sums.{fold_push}
use Rattle.std.specs.List.{fold}
use Rattle.std.specs.Prelude.{◌++◌, Bool, Contains, List, None, Option, Some, [], false}
use Rattle.std.specs.Prelude.{if◌then◌else◌, is_some, refl, true, unwrap_or, ℕ, ◌∷◌, ◌≡◌, ◌⊎◌}
use Rattle.cast_rules.specs.Acts.{Act}
use Rattle.cast_rules.specs.Acts.Act.{Delivered, Entered, Left, Sent}
use Rattle.cast_rules.specs.Effects.{sending}
use Rattle.cast_rules.specs.History.{history}
use Rattle.cast_rules.specs.Order.{holds, last_place, token_after, token_sent, token_told}
use Rattle.cast_rules.specs.Rest.{let_go, set_order_by}
use Rattle.cast_rules.specs.Resting.{places_of}
use Rattle.cast_rules.specs.Rules.Commands.{body_handing}
use Rattle.cast_rules.specs.Rules.Keys.{message_key}
use Rattle.cast_rules.specs.Rules.Owing.{frame_for, owe, send_for}
use Rattle.cast_rules.specs.Rules.Sending.{send_data}
use Rattle.cast_rules.specs.State.{State, emit, noting_sent, others_of, receiving}
use Rattle.cast_rules.proofs.Setting.{may_set_order, set_order_is}
use Rattle.cast_rules.specs.Effects.{next_message}
use Rattle.cast_message.specs.Bodies.{kind_of, new_holder}
use Rattle.cast_message.specs.declared.message.Body.{Body}
use Rattle.cast_message.specs.declared.message.Message.{Message}
use Rattle.cast_stable.specs.Stable.{has_acked}
use Rattle.cast_timer.specs.Owed.{is_owed}
use Rattle.cast_timer.specs.declared.key.OwedKey.{OwedKey}
use Rattle.cast_types.specs.Counts.{CountList}
use Rattle.cast_types.specs.Names.{is_atomic, is_order}
use Rattle.cast_types.specs.declared.names.GroupNo.{GroupNo}
use Rattle.cast_types.specs.declared.names.Proc.{Proc}
use Rattle.cast_types.specs.declared.names.SiteNo.{SiteNo}
use Rattle.cast_types.specs.declared.names.Uid.{Uid}
use Rattle.cast_view.specs.MemberSide.{MemberSide, holder_of, is_process}
use Rattle.cast_world.proofs.Allowed.{contains_more}
use Rattle.cast_world.proofs.Acts.{contains_here}
use Rattle.cast_world.proofs.Facts.{HasDone}
use Rattle.cast_world.proofs.Keeps.{keeps_fold, keeps_if, keeps_option}
use Rattle.cast_world.proofs.Laters.{set_all}
use Rattle.cast_world.specs.Agreement.{is_in}
use Rattle.cast_message.specs.declared.message.Body.TheVariants as body
use Rattle.cast_timer.specs.declared.key.OwedKind.TheVariants as kinds

-- who is named to tell a view's order first orders all places
abbrev pub first_token : Bool → Option ℕ
first_token named = if named then Some 1 else None

-- the first place that a process of a site orders, where it has the token of a group's view
abbrev pub token_in : SiteNo → MemberSide → GroupNo → List Act → ℕ → Option ℕ
token_in here group g acts k =
    fold (token_after (is_in g group.number) (record { site = here; serial = k }))
    (first_token (is_process (record { site = here; serial = k }) (holder_of group))) acts

-- a process of a site tells the order of a group's view
abbrev pub tells : SiteNo → MemberSide → GroupNo → List Act → ℕ → Bool
tells here group g acts k = is_some (token_in here group g acts k)

-- the last hand-over of each view. It is a ghost: no state has it
abbrev pub HandOvers : Type 0
HandOvers = GroupNo → ℕ → Option Message

-- where a process has the token of a view, it is the one that the Install named, and there was no hand-over yet; or it delivered the last
-- one, which names it
abbrev pub HasToken : Option Message → MemberSide → Proc → List Act → ℕ → Type 0
HasToken handed group p acts first =
    ((handed ≡ None) × (is_process p (holder_of group) ≡ true) × (first ≡ 1))
    ⊎ ((m : Message) × (handed ≡ Some m) × (m.body ≡ body_handing first p) × Contains acts (Delivered m))

-- it has it still once it did more
has_token_more : (handed : Option Message) (group : MemberSide) (p : Proc) (old new : List Act) (first : ℕ) →
    ((y : Act) → Contains old y → Contains new y) → HasToken handed group p old first → HasToken handed group p new first
has_token_more handed group p old new first did (inl named) = inl named
has_token_more handed group p old new first did (inr m) = inr (m.0, m.1, m.2, did (Delivered m.0) m.3)

pub token_kept : (handed : Option Message) (group : MemberSide) (p : Proc) (old new : List Act) (a b : Option ℕ) → b ≡ a →
    ((y : Act) → Contains old y → Contains new y) → (is_some a ≡ true → HasToken handed group p old (unwrap_or a 1)) →
    is_some b ≡ true → HasToken handed group p new (unwrap_or b 1)
token_kept handed group p old new a b same did was held =
    has_token_more handed group p old new (unwrap_or b 1)
    did (subst (λ t. is_some t ≡ true → HasToken handed group p old (unwrap_or t 1)) (sym same) was held)

-- who is named is that process
pub named_is : (p : Proc) (o : Option Proc) → is_process p o ≡ true → o ≡ Some p
named_is p None e = absurd (false≢true e)
named_is p (Some q) e = ap (λ z. Some z) (same_proc q p e)

-- What moves it

-- a cast hands nothing over, and neither does an ABCAST
pub cast_hands_none : (b : Body) → is_order (kind_of b) ≡ false → new_holder b ≡ None
cast_hands_none (body.Causal payload) e = refl
cast_hands_none (body.Atomic payload) e = refl
cast_hands_none (body.Order s) e = absurd (true≢false e)

-- and sets no place
pub cast_last : (b : Body) → is_order (kind_of b) ≡ false → last_place b ≡ 0
cast_last (body.Causal payload) e = refl
cast_last (body.Atomic payload) e = refl
cast_last (body.Order s) e = absurd (true≢false e)

pub abcast_hands_none : (b : Body) → is_atomic (kind_of b) ≡ true → new_holder b ≡ None
abcast_hands_none (body.Causal payload) e = refl
abcast_hands_none (body.Atomic payload) e = refl
abcast_hands_none (body.Order s) e = absurd (false≢true e)

-- what names another moves nothing here
told_other : (p : Proc) (token : Option ℕ) (b : Body) → is_process p (new_holder b) ≡ false → token_told p token b ≡ token
told_other p token (body.Causal payload) e = refl
told_other p token (body.Atomic payload) e = refl
told_other p token (body.Order s) e = ap (λ c. if c then Some s.first else token) e

module _ (here : SiteNo) (group : MemberSide) (g : GroupNo) (acts : List Act) (k : ℕ) where
  abbrev me : Proc
  me = record { site = here; serial = k }

  abbrev had : Option ℕ
  had = token_in here group g acts k

  token_push : (x : Act) → token_in here group g (acts ++ x ∷ []) k ≡ token_after (is_in g group.number) me had x
  token_push x = fold_push (token_after (is_in g group.number) me) (first_token (is_process me (holder_of group))) acts x

  pub token_left : (h : GroupNo) → token_in here group g (acts ++ Left h ∷ []) k ≡ had
  token_left h = token_push (Left h)

  pub token_entered : (h : GroupNo) (n : ℕ) (cut : CountList) → token_in here group g (acts ++ Entered h n cut ∷ []) k ≡ had
  token_entered h n cut = token_push (Entered h n cut)

  pub token_sends : (m : Message) → new_holder m.body ≡ None → token_in here group g (acts ++ Sent m ∷ []) k ≡ had
  token_sends m none = token_push (Sent m) ∙ go (is_in g group.number m.id)
    where
      go : (b : Bool) →
          (if b then token_sent (token_in here group g acts k) m.body else token_in here group g acts k) ≡ token_in here group g acts k
      go true = ap (λ o. elim o as (λ x. Option ℕ) [ Some q ↦ None | None ↦ token_in here group g acts k ]) none
      go false = refl

  -- who hands it over has it no more
  pub token_hands : (m : Message) (place : ℕ) (to : Proc) → is_in g group.number m.id ≡ true → m.body ≡ body_handing place to →
      token_in here group g (acts ++ Sent m ∷ []) k ≡ None
  token_hands m place to is body_is =
      token_push (Sent m) ∙ (λ i. if is i then token_sent (token_in here group g acts k) (body_is i) else token_in here group g acts k)

  pub token_apart : (m : Message) → is_in g group.number m.id ≡ false → token_in here group g (acts ++ Delivered m ∷ []) k ≡ had
  token_apart m other = token_push (Delivered m) ∙ ap (λ b. if b then token_told me had m.body else had) other

  pub token_sent_apart : (m : Message) → is_in g group.number m.id ≡ false → token_in here group g (acts ++ Sent m ∷ []) k ≡ had
  token_sent_apart m other = token_push (Sent m) ∙ ap (λ b. if b then token_sent had m.body else had) other

  pub token_takes : (m : Message) → is_in g group.number m.id ≡ true →
      token_in here group g (acts ++ Delivered m ∷ []) k ≡ token_told me had m.body
  token_takes m is = token_push (Delivered m) ∙ ap (λ b. if b then token_told me had m.body else had) is

  pub token_stays : (m : Message) → is_process me (new_holder m.body) ≡ false → token_in here group g (acts ++ Delivered m ∷ []) k ≡ had
  token_stays m other = token_push (Delivered m) ∙ go (is_in g group.number m.id)
    where
      go : (b : Bool) →
          (if b then token_told (record { site = here; serial = k }) (token_in here group g acts k) m.body
          else token_in here group g acts k) ≡ token_in here group g acts k
      go true = told_other (record { site = here; serial = k }) (token_in here group g acts k) m.body other
      go false = refl

-- who did nothing in the view has the token where the Install named it
pub token_first : (p : Proc) (g : GroupNo) (v : ℕ) (token : Option ℕ) (acts : List Act) →
    ((m : Message) → HasDone acts m → is_in g v m.id ≡ false) → fold (token_after (is_in g v) p) token acts ≡ token
token_first p g v token [] apart = refl
token_first p g v token (Sent m ∷ acts) apart =
    ap (λ b. fold (token_after (is_in g v) p) (if b then token_sent token m.body else token) acts)
    (apart m (inl (contains_here [] acts (Sent m))))
    ∙ token_first p g v token acts (λ z did.
    apart z (elim did [ inl c ↦ inl (contains_more (Sent m) acts (Sent z) c) | inr c ↦ inr (contains_more (Sent m) acts (Delivered z) c) ]))
token_first p g v token (Delivered m ∷ acts) apart =
    ap (λ b. fold (token_after (is_in g v) p) (if b then token_told p token m.body else token) acts)
    (apart m (inr (contains_here [] acts (Delivered m))))
    ∙ token_first p g v token acts (λ z did. apart z (elim did [
      | inl c ↦ inl (contains_more (Delivered m) acts (Sent z) c)
      | inr c ↦
          inr (contains_more (Delivered m) acts (Delivered z) c)
    ]))
token_first p g v token (Entered h n cut ∷ acts) apart =
    token_first p g v token acts (λ z did. apart z (elim did [
      | inl c ↦ inl (contains_more (Entered h n cut) acts (Sent z) c)
      | inr c ↦
          inr (contains_more (Entered h n cut) acts (Delivered z) c)
    ]))
token_first p g v token (Left h ∷ acts) apart =
    token_first p g v token acts (λ z did.
    apart z (elim did [ inl c ↦ inl (contains_more (Left h) acts (Sent z) c) | inr c ↦ inr (contains_more (Left h) acts (Delivered z) c) ]))

-- Setting an order

-- what tells who has the tokens is as it was
abbrev SameActs : State → State → Type 0
SameActs s t = (t.here ≡ s.here) × (t.group ≡ s.group) × (t.acts ≡ s.acts)

sent_for_acts : (s r : State) (key : OwedKey) → SameActs s r → SameActs s (send_for history r key)
sent_for_acts s r key i = keeps_option (SameActs s) (λ f. emit r key.site f) (frame_for history r key) r (λ f e. i) i

sent_acts : (s : State) (u : Uid) (to : List SiteNo) → SameActs s (fold (send_data history u) s to)
sent_acts s u to =
    keeps_fold (SameActs s) (send_data history u) (λ r site i. keeps_if (SameActs s) (has_acked r.acks u site)
    (send_for history r (message_key kinds.Data u site)) (owe history r (message_key kinds.Data u site))
    (λ _. sent_for_acts s r (message_key kinds.Data u site) i)
    (λ _. keeps_if (SameActs s) (is_owed r.owed (message_key kinds.Data u site)) r _ (λ _. i)
    (λ _. sent_for_acts s r (message_key kinds.Data u site) i))) to s (refl, refl, refl)

-- who sets an order has the token as before, and so have all others
pub holds_still : (s : State) (g : GroupNo) (n j : ℕ) → holds (set_order_by s g n) g j ≡ holds s g j
holds_still s g n j = ap (λ (r : State). holds r g j) (set_order_is s g n) ∙ go (may_set_order s g n)
  where
    go : (b : Bool) → holds (if b then let_go (sending s g n (body.Order (places_of s g n))) else s) g j ≡ holds s g j
    go true =
        let m : Message = next_message s g n (body.Order (places_of s g n)) in
        let taken : State = receiving (noting_sent s n m) m in
        let same = sent_acts taken m.id (others_of taken m.id.group) in
        (λ i. tells (same.0 i) (same.1 i g) g (same.2 i j) j)
        ∙ set_all (λ i (l : List Act). tells s.here (s.group g) g l i ≡ tells s.here (s.group g) g (s.acts i) i)
        s.acts n (s.acts n ++ Sent m ∷ []) (λ i. refl)
        (ap is_some (token_sends s.here (s.group g) g (s.acts n) n m refl)) j
    go false = refl
