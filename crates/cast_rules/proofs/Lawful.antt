-- What holds of each history that events lead to, by its parts, and that it holds before the first
-- event.
-- The invariant is `IsLawful`. `lawful_from` says that a state is lawful where each of its parts
-- is: the place of each process in each group (`Placed`), what processes did and received
-- (`traced_on`), and the messages that are kept (`kept_map`). What was let go is spent: a free
-- message is (`free_spent`), and so is one of a view that has ended (`ended_spent`); and it stays
-- so where groups keep their views and delivered lists grow (`spent_on`). `lawful_opening` is the
-- first state, in which nothing was done.
use Rattle.std.proofs.Common.{◌≡◌, ℕ, zero, suc, ◌+◌, ◌<◌, ◌≤◌, Bool, true, false, cond, not, List}
use Rattle.std.proofs.Common.{[], ◌∷◌, ◌++◌, Contains, refl, sym, ap, subst, ◌∙◌, inl, inr, arith}
use Rattle.std.specs.Prelude.{◌&&◌, ◌⊎◌, ◌==◌, nat_lt, nat_le, if◌then◌else◌, filter}
use Rattle.std.specs.List.{fold, list_all, range_with_len}
use Rattle.std.specs.FinMap.Entries.{is_sorted}
use Rattle.std.proofs.lemmas.Bool.{cases_eq, and_parts, false≢true, eqb-true, ltb-true, leb-true}
use Rattle.std.proofs.lemmas.List.Elements.{Contains-push_cases}
use Rattle.cast_types.specs.declared.names.SiteNo.{SiteNo}
use Rattle.cast_types.specs.declared.names.GroupNo.{GroupNo}
use Rattle.cast_types.specs.declared.names.Proc.{Proc}
use Rattle.cast_types.specs.declared.names.Uid.{Uid}
use Rattle.cast_types.specs.declared.names.Standing.{Standing}
use Rattle.cast_types.specs.Names.{group_eq, group_cmp, uid_eq}
use Rattle.cast_types.specs.Sets.{is_among}
use Rattle.cast_types.proofs.Orders.{same_group}
use Rattle.cast_clock.specs.Times.{view_of}
use Rattle.cast_message.specs.declared.message.Message.{Message}
use Rattle.cast_types.specs.Rising.{is_rising}
use Rattle.cast_ready.specs.Ready.{Process, is_member, is_outside, has_delivered}
use Rattle.cast_view.specs.MemberSide.{MemberSide, has_view, is_current}
use Rattle.cast_events.specs.declared.config.DomainConfig.{DomainConfig}
use Rattle.cast_rules.specs.State.{State, opening, is_group, may_speak, local_members}
use Rattle.cast_rules.specs.State.{is_stable, was_given, is_ended, noting_act, acts_outside}
use Rattle.cast_rules.specs.Acts.{Act}
use Rattle.cast_rules.specs.Acts.Act.{Sent, Delivered, Entered, Left}
use Rattle.cast_rules.specs.Rest.{is_free}
use Rattle.cast_rules.specs.Run.{before_event}
use Rattle.cast_rules.specs.Lawful.{IsSpent, AreKept, IsOfReached, IsTraced, Waits, IsLawful}

-- One process in one group

-- what is lawful of a process with this standing and this view in its time, in a group that is configured or not
pub record Placed (listed : Bool) (standing : Standing) (view : ℕ) (group : MemberSide) : Type 0 where
  pub known : is_outside standing ≡ false → listed ≡ true
  pub current : is_member standing ≡ true → view ≡ group.number
  pub viewed : is_member standing ≡ true → has_view group ≡ true

abbrev pub PlacedIn : State → Process → GroupNo → Type 0
PlacedIn s p g = Placed (is_group s g) (p.standing g) (view_of p.time g) (s.group g)

pub placed_of : (s : State) → IsLawful s → (k : ℕ) (g : GroupNo) → PlacedIn s (s.process k) g
placed_of s l k g = record { known = l.known k g; current = l.current k g; viewed = l.viewed k g }

-- a state with the configuration of a lawful one is lawful if each process is lawful in each group, and messages are in order
pub lawful_from : (s t : State) → IsLawful s → t.config ≡ s.config → ((k : ℕ) (g : GroupNo) → PlacedIn t (t.process k) g) →
    ((m : Message) → Contains t.got m → is_sorted group_cmp m.times ≡ true) → AreKept (IsSpent t) t.got t.kept →
    ((g : GroupNo) → has_view (t.group g) ≡ true → is_group t g ≡ true) → IsTraced t →
    ((g : GroupNo) → Waits (t.group g).frozen (t.group g).pending) → IsLawful t
lawful_from s t l config placed stamped spent listed traced waiting = record {
  rising = subst (λ c. is_rising group_cmp c.groups ≡ true) (sym config) l.rising;
  known = λ k g. (placed k g).known;
  current = λ k g. (placed k g).current;
  viewed = λ k g. (placed k g).viewed;
  stamped = stamped;
  spent = spent;
  listed = listed;
  traced = traced;
  waiting = waiting;
}

-- What is traced

-- who may speak in a group may still, while it keeps its view
abbrev pub SpeaksStill : State → State → Type 0
SpeaksStill s t = (g : GroupNo) (p : Proc) → (s.group g).number ≡ (t.group g).number → may_speak s g p ≡ true → may_speak t g p ≡ true

-- a view that is reached is reached still
pub reached_on : (s t : State) → ((g : GroupNo) → (s.group g).number ≤ (t.group g).number) → (a : Act) → IsOfReached s a → IsOfReached t a
reached_on s t number (Sent m) before = let up = number m.id.group in omega (arith, before, up)
reached_on s t number (Delivered m) before = let up = number m.id.group in omega (arith, before, up)
reached_on s t number (Entered g view cut) before = tt
reached_on s t number (Left g) before = tt

-- what processes did they did before, or it is of a view that is reached
abbrev pub ActsOn : State → (ℕ → List Act) → Type 0
ActsOn s acts = (k : ℕ) (a : Act) → Contains (acts k) a → Contains (s.acts k) a ⊎ IsOfReached s a

-- one did one thing more
pub one_act_on : (s : State) (k : ℕ) (a : Act) → IsOfReached s a → ActsOn s (noting_act s k a).acts
one_act_on s k a reached j x =
    elim (k == j) as (λ b. k == j ≡ b → Contains (if b then s.acts k ++ a ∷ [] else s.acts j) x → Contains (s.acts j) x ⊎ IsOfReached s x) [
      | true ↦ λ same at. elim (Contains-push_cases (s.acts k) a x at) [
        | inl before ↦ inl (subst (λ i. Contains (s.acts i) x) (eqb-true k j same) before)
        | inr last ↦ inr (subst (IsOfReached s) last reached)
      ]
      | false ↦ λ _ at. inl at
    ] refl

-- or each of some
pub each_act_on : (s : State) (does : ℕ → Bool) (a : Act) → IsOfReached s a →
    ActsOn s (λ k. if does k then s.acts k ++ a ∷ [] else s.acts k)
each_act_on s does a reached k x =
    elim (does k) as (λ b. Contains (if b then s.acts k ++ a ∷ [] else s.acts k) x → Contains (s.acts k) x ⊎ IsOfReached s x) [
      | true ↦
          λ at. elim (Contains-push_cases (s.acts k) a x at) [
            | inl before ↦ inl before
            | inr last ↦ inr (subst (IsOfReached s) last reached)
          ]
      | false ↦ λ at. inl at
    ]

pub outside_on : (s : State) (k : ℕ) (g : GroupNo) → ActsOn s (acts_outside s k g)
outside_on s k g j x =
    elim (is_member ((s.process k).standing g))
    as (λ b. Contains ((if b then (noting_act s k (Left g)).acts else s.acts) j) x → Contains (s.acts j) x ⊎ IsOfReached s x) [
      | true ↦ one_act_on s k (Left g) tt j x
      | false ↦ λ at. inl at
    ]

-- so what they did is of views that are reached
pub acted_on : (s t : State) → ((g : GroupNo) → (s.group g).number ≤ (t.group g).number) → ActsOn s t.acts → IsTraced s →
    (k : ℕ) (a : Act) → Contains (t.acts k) a → IsOfReached t a
acted_on s t number acts l k a at = elim (acts k a at) [
  | inl before ↦ reached_on s t number a (l.acted k a before)
  | inr now ↦ reached_on s t number a now
]

pub same_acted : (s t : State) → t.group ≡ s.group → IsTraced s → (k : ℕ) (a : Act) → Contains (s.acts k) a → IsOfReached t a
same_acted s t same l k a at =
    reached_on s t (λ g. let is : (t.group g).number ≡ (s.group g).number = λ i. (same i g).number in omega (arith, is)) a (l.acted k a at)

-- what was received and noted is of views that are reached still, where the same was noted and delivered lists grow
pub traced_on : (s t : State) → t.got ≡ s.got → ((k : ℕ) → t.abcasts k ≡ s.abcasts k) →
    ((g : GroupNo) → (s.group g).number ≤ (t.group g).number) → SpeaksStill s t →
    ((k : ℕ) (u : Uid) → has_delivered (s.process k) u ≡ true → has_delivered (t.process k) u ≡ true) → ActsOn s t.acts →
    IsTraced s → IsTraced t
traced_on s t got noted number speaks more acts l = record {
  reached =
      λ m at. let before = l.reached m (subst (λ ms. Contains ms m) got at) in let up = number m.id.group in omega (arith, before, up);
  spoken = λ m at same.
      let inside = subst (λ ms. Contains ms m) got at in
      let before = l.reached m inside in
      let up = number m.id.group in
      speaks m.id.group m.id.proc (omega (arith, before, up, same)) (l.spoken m inside (omega (arith, before, up, same)));
  acted = acted_on s t number acts l;
  delivered = λ k u is. more k u (l.delivered k u (sym (ap (λ ids. is_among uid_eq u ids) (noted k)) ∙ is));
  seen = λ k u is.
      let before = l.seen k u (sym (ap (λ ids. is_among uid_eq u ids) (noted k)) ∙ is) in
      let up = number u.group in
      omega (arith, before, up);
}

-- What is kept

-- what is spent in one sense is spent in another
pub kept_map : (P Q : Message → Type 0) → ((m : Message) → P m → Q m) → (got kept : List Message) → AreKept P got kept → AreKept Q got kept
kept_map P Q f [] kept all = all
kept_map P Q f (m ∷ got) kept (inl (rest, is, more)) = inl (rest, is, kept_map P Q f got rest more)
kept_map P Q f (m ∷ got) kept (inr (spent, more)) = inr (f m spent, kept_map P Q f got kept more)

-- a message that comes is kept
pub kept_push : (P : Message → Type 0) (got kept : List Message) (x : Message) → AreKept P got kept →
    AreKept P (got ++ x ∷ []) (kept ++ x ∷ [])
kept_push P [] kept x none = inl ([], ap (λ ms. ms ++ x ∷ []) none, refl)
kept_push P (m ∷ got) kept x (inl (rest, is, more)) = inl (rest ++ x ∷ [], ap (λ ms. ms ++ x ∷ []) is, kept_push P got rest x more)
kept_push P (m ∷ got) kept x (inr (spent, more)) = inr (spent, kept_push P got kept x more)

-- what fails a test is let go, if it is spent
pub kept_filter : (P : Message → Type 0) (test : Message → Bool) → ((m : Message) → test m ≡ false → P m) → (got kept : List Message) →
    AreKept P got kept → AreKept P got (filter test kept)
kept_filter P test gone [] kept none = ap (filter test) none
kept_filter P test gone (m ∷ got) kept (inl (rest, is, more)) =
    subst (λ ms. AreKept P (m ∷ got) (filter test ms)) (sym is)
    (elim (test m) as (λ b. test m ≡ b → AreKept P (m ∷ got) (cond b (m ∷ filter test rest) (filter test rest))) [
      | true ↦ λ _. inl (filter test rest, refl, kept_filter P test gone got rest more)
      | false ↦ λ fails. inr (gone m fails, kept_filter P test gone got rest more)
    ] refl)
kept_filter P test gone (m ∷ got) kept (inr (spent, more)) = inr (spent, kept_filter P test gone got kept more)

-- what is spent is spent still where groups stay, members stay out, and delivered lists grow
pub spent_on : (s t : State) → t.used ≡ s.used → ((g : GroupNo) → (t.group g).number ≡ (s.group g).number) →
    ((k : ℕ) (g : GroupNo) → is_member ((t.process k).standing g) ≡ true → is_member ((s.process k).standing g) ≡ true) →
    ((k : ℕ) (u : Uid) → has_delivered (s.process k) u ≡ true → has_delivered (t.process k) u ≡ true) → (m : Message) →
    IsSpent s m → IsSpent t m
spent_on s t used number member more m spent = record {
  reached = subst (λ n. m.id.view ≤ n) (sym (number m.id.group)) spent.reached;
  delivered = λ k given is here.
      more k m.id (spent.delivered k (ap (λ n. was_given n k) (sym used) ∙ given) (member k m.id.group is) (here ∙ number m.id.group));
}

-- serials that were given and pass one test pass another
pub range_all : (p test : ℕ → Bool) (a n : ℕ) → list_all test (filter p (range_with_len a n)) ≡ true → (k : ℕ) → a ≤ k → k < a + n →
    p k ≡ true → test k ≡ true
range_all p test a zero all k low high is = absurd (omega (arith, low, high))
range_all p test a (suc n) all k low high is =
    elim (p a) as (λ b. p a ≡ b →
    list_all test (cond b (a ∷ filter p (range_with_len (a + 1) n)) (filter p (range_with_len (a + 1) n))) ≡ true → test k ≡ true) [
      | true ↦ λ _ h. let parts = and_parts (test a) (list_all test (filter p (range_with_len (a + 1) n))) h in
          elim (cases_eq a k) [
            | inl same ↦ subst (λ x. test x ≡ true) same parts.0
            | inr other ↦ range_all p test (a + 1) n parts.1 k (omega (arith, low, other)) (omega (arith, high)) is
          ]
      | false ↦ λ out h.
          elim (cases_eq a k) [
            | inl same ↦ absurd (false≢true (sym out ∙ ap p same ∙ is))
            | inr other ↦ range_all p test (a + 1) n h k (omega (arith, low, other)) (omega (arith, high)) is
          ]
    ] refl all

-- a free message is spent
pub free_spent : (s : State) (m : Message) → is_free s m.id ≡ true → IsSpent s m
free_spent s m free =
    let a = and_parts (is_current (s.group m.id.group) m.id.view && not (s.group m.id.group).frozen) _ free in
    let o = and_parts (is_current (s.group m.id.group) m.id.view) (not (s.group m.id.group).frozen) a.0 in
    let now = and_parts (has_view (s.group m.id.group)) ((s.group m.id.group).number == m.id.view) o.0 in
    let same : (s.group m.id.group).number ≡ m.id.view = eqb-true (s.group m.id.group).number m.id.view now.1 in
    let all = (and_parts (is_stable s m.id) (list_all (λ k. has_delivered (s.process k) m.id) (local_members s m.id.group)) a.1).1 in
    record {
      reached = omega (arith, same);
      delivered = λ k given is _.
          let in_range = and_parts (nat_lt 0 k) (nat_le k s.used) given in
          let low = ltb-true 0 k in_range.0 in
          let high = leb-true k s.used in_range.1 in
          range_all (λ j. is_member ((s.process j).standing m.id.group)) (λ j. has_delivered (s.process j) m.id)
          1 s.used all k (omega (arith, low)) (omega (arith, high)) is;
    }

-- and so is one of a view that has ended
pub ended_spent : (s : State) (g : GroupNo) (m : Message) → is_ended s g m.id ≡ true → IsSpent s m
ended_spent s g m ended =
    let parts = and_parts (group_eq m.id.group g) (nat_lt m.id.view (s.group g).number) ended in
    let below : m.id.view < (s.group m.id.group).number =
    subst (λ h. m.id.view < (s.group h).number) (sym (same_group m.id.group g parts.0)) (ltb-true m.id.view (s.group g).number parts.1) in
    record { reached = omega (arith, below); delivered = λ k given is here. absurd (omega (arith, below, here)) }

-- Combinations

pub lawful_if : (x y : State) (b : Bool) → (b ≡ true → IsLawful x) → (b ≡ false → IsLawful y) → IsLawful (if b then x else y)
lawful_if x y true p q = p refl
lawful_if x y false p q = q refl

pub lawful_fold : {X : Type 0} (f : State → X → State) → ((s : State) (x : X) → IsLawful s → IsLawful (f s x)) → (xs : List X) (s : State) →
    IsLawful s → IsLawful (fold f s xs)
lawful_fold f h [] s l = l
lawful_fold f h (x ∷ xs) s l = lawful_fold f h xs (f s x) (h s x l)

-- The first state, and the beginning of an event

pub lawful_opening : (here : SiteNo) (config : DomainConfig) → is_rising group_cmp config.groups ≡ true → IsLawful (opening here config)
lawful_opening here config rising = record {
  rising = rising;
  known = λ k g h. absurd (false≢true (sym h));
  current = λ k g h. absurd (false≢true h);
  viewed = λ k g h. absurd (false≢true h);
  stamped = λ m at. let inside = at.1 in absurd (omega arith);
  spent = refl;
  listed = λ g seen. absurd (false≢true seen);
  waiting = λ g. tt;
  traced = record {
    reached = λ m at. let inside = at.1 in absurd (omega arith);
    spoken = λ m at same. let inside = at.1 in absurd (omega arith);
    acted = λ k a at. let inside = at.1 in absurd (omega arith);
    delivered = λ k u is. absurd (false≢true is);
    seen = λ k u is. absurd (false≢true is);
  };
}

pub lawful_before : (s : State) → IsLawful s → IsLawful (before_event s)
lawful_before s l = record {
  rising = l.rising;
  known = l.known;
  current = l.current;
  viewed = l.viewed;
  stamped = l.stamped;
  spent =
      kept_map (IsSpent s) (IsSpent (before_event s)) (λ m h. record { reached = h.reached; delivered = h.delivered }) s.got s.kept l.spent;
  listed = l.listed;
  waiting = l.waiting;
  traced = record {
    reached = l.traced.reached;
    spoken = l.traced.spoken;
    acted = same_acted s (before_event s) refl l.traced;
    delivered = l.traced.delivered;
    seen = l.traced.seen;
  };
}
