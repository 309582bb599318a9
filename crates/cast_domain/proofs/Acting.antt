-- What is kept of processes goes on telling of them when one has sent a message.
use Rattle.std.proofs.Common.{◌≡◌, ℕ, ◌≤◌, Bool, true, false, List, [], ◌∷◌, ◌++◌, Option}
use Rattle.std.proofs.Common.{Some, None, refl, sym, ap, subst, ◌∙◌, inl, inr, arith}
use Rattle.std.specs.Prelude.{◌&&◌, ◌==◌, if◌then◌else◌, is_some}
use Rattle.std.specs.List.{flat_map, fold}
use Rattle.std.proofs.lemmas.Bool.{cases_Bool, eqb-true, eq-eqb}
use Rattle.std.proofs.lemmas.List.{append-nil}
use Rattle.std.proofs.lemmas.List.Concat.{flat_map-append}
use Rattle.std.proofs.lemmas.List.Elements.{Contains-push_cases}
use Rattle.cast_types.specs.declared.names.GroupNo.{GroupNo}
use Rattle.cast_types.specs.declared.names.Proc.{Proc}
use Rattle.cast_types.specs.declared.names.Uid.{Uid}
use Rattle.cast_types.specs.declared.limits.TheConstants.{MAX_NUMBER}
use Rattle.cast_types.specs.Names.{Entry, group_eq, proc_eq, is_order}
use Rattle.cast_types.proofs.Orders.{same_group, site_itself}
use Rattle.cast_types.specs.Counts.{CountList}
use Rattle.cast_ready.specs.Ready.{is_member}
use Rattle.cast_message.specs.declared.message.Body.{Body}
use Rattle.cast_message.specs.declared.message.Body.TheVariants as body
use Rattle.cast_message.specs.declared.message.Message.{Message}
use Rattle.cast_message.specs.Bodies.{kind_of}
use Rattle.cast_message.specs.Placement.{Placement}
use Rattle.cast_order.specs.Order.{Listing}
use Rattle.cast_order.specs.Hand.{Hand, note_order_sent, hand_over, FitsHand}
use Rattle.cast_order.specs.Log.{Log, log_of, hand_here, with_hand}
use Rattle.cast_order.proofs.Meanings.{hand_fits}
use Rattle.cast_order.proofs.Closed.{closed_hand}
use Rattle.cast_domain.proofs.Hands.{own_changed}
use Rattle.cast_order.proofs.Hands.{KeepsProcess, change_own, change_other, note_fits, hand_over_fits}
use Rattle.cast_order.proofs.Logs.{log_of_change}
use Rattle.cast_view.specs.MemberSide.{is_process, holder_of}
use Rattle.cast_rules.specs.Acts.{Act}
use Rattle.cast_rules.specs.Acts.Act.{Sent, Entered, Left}
use Rattle.cast_rules.specs.State.{State, local, noting_act, acts_outside}
use Rattle.cast_rules.specs.Order.{is_of_view, facts_in, order_told, abcasts_delivered, last_place}
use Rattle.cast_rules.specs.Order.{token_sent, token_after, token_of, listed_by, lists_of}
use Rattle.cast_domain.specs.PartCalls.{sent_hand, orders_sent}
use Rattle.cast_domain.specs.Fits.{settled_of, goes_on, has_passed, TellsHand, TellsOrder, LogFits}
use Rattle.cast_domain.proofs.Over.{over_alike, all_stay}
use Rattle.cast_domain.proofs.Logs.{hand_made, hand_alike, IsAlike, log_alike, other_group}

-- What one process does

-- what holds of a process and of each other holds of all
pub by_serial : (P : ℕ → Type 0) (k : ℕ) → P k → ((j : ℕ) → (k == j) ≡ false → P j) → (j : ℕ) → P j
by_serial P k own other j = elim (cases_Bool (k == j)) [ inl same ↦ subst P (eqb-true k j same) own | inr apart ↦ other j apart ]

-- what is told of it by its acts goes one step on, and what is told of others stays
pub act_own : {X : Type 0} (s : State) (k : ℕ) (a : Act) (f : List Act → X) → f ((noting_act s k a).acts k) ≡ f (s.acts k ++ a ∷ [])
act_own s k a f = ap (λ b. f (if b then s.acts k ++ a ∷ [] else s.acts k)) (eq-eqb k k refl)

pub act_other : {X : Type 0} (s : State) (k j : ℕ) (a : Act) (f : List Act → X) → (k == j) ≡ false →
    f ((noting_act s k a).acts j) ≡ f (s.acts j)
act_other s k j a f apart = ap (λ b. f (if b then s.acts k ++ a ∷ [] else s.acts j)) apart

pub fold_push : {A B : Type 0} (f : B → A → B) (b : B) (xs : List A) (x : A) → fold f b (xs ++ x ∷ []) ≡ f (fold f b xs) x
fold_push f b [] x = refl
fold_push f b (y ∷ ys) x = fold_push f (f b y) ys x

pub lists_push : (is_of : Uid → Bool) (acts : List Act) (a : Act) →
    flat_map (listed_by is_of) (acts ++ a ∷ []) ≡ flat_map (listed_by is_of) acts ++ listed_by is_of a
lists_push is_of acts a =
    flat_map-append (listed_by is_of) acts (a ∷ []) ∙ ap (λ xs. flat_map (listed_by is_of) acts ++ xs) (append-nil (listed_by is_of a))

-- another process of this site
pub apart_local : (s : State) (k j : ℕ) → (k == j) ≡ false → proc_eq (local s k) (local s j) ≡ false
apart_local s k j apart = ap (λ b. b && (k == j)) (site_itself s.here) ∙ apart

-- a change of one process's hand
pub hands_change : (s t : State) (g : GroupNo) (l : Log) (k : ℕ) (f : Hand → Hand) → KeepsProcess f →
    TellsHand t g k (f (hand_here l (local s k))) → ((j : ℕ) → (k == j) ≡ false → TellsHand t g j (hand_here l (local s j))) → (j : ℕ) →
    TellsHand t g j (hand_here (with_hand (local s k) f l) (local s j))
hands_change s t g l k f keeps own other =
    by_serial (λ j. TellsHand t g j (hand_here (with_hand (local s k) f l) (local s j))) k
    (subst (TellsHand t g k) (sym (change_own (local s k) f keeps l.hands)) own)
    (λ j apart.
    subst (TellsHand t g j) (sym (change_other (local s k) (local s j) f keeps (apart_local s k j apart) l.hands)) (other j apart))

pub tokens_change : (s t : State) (g : GroupNo) (l : Log) (k : ℕ) (f : Hand → Hand) → KeepsProcess f →
    (f (hand_here l (local s k))).first ≡ token_of t g k → ((j : ℕ) → (k == j) ≡ false → (hand_here l (local s j)).first ≡ token_of t g j) →
    (j : ℕ) → (hand_here (with_hand (local s k) f l) (local s j)).first ≡ token_of t g j
tokens_change s t g l k f keeps own other =
    by_serial (λ j. (hand_here (with_hand (local s k) f l) (local s j)).first ≡ token_of t g j) k
    (ap (λ (h : Hand). h.first) (change_own (local s k) f keeps l.hands) ∙ own)
    (λ j apart. ap (λ (h : Hand). h.first) (change_other (local s k) (local s j) f keeps (apart_local s k j apart) l.hands) ∙ other j apart)

-- A message is sent

pub if_same : {X : Type 0} (b : Bool) (x y : X) → x ≡ y → (if b then x else y) ≡ y
if_same true x y same = same
if_same false x y same = refl

-- what a process is told to hold, and to have listed, once it has sent a message
pub token_acted : (s : State) (g : GroupNo) (k : ℕ) (a : Act) →
    token_of (noting_act s k a) g k ≡ token_after (is_of_view s g) (local s k) (token_of s g k) a
token_acted s g k a =
    act_own s k a
    (fold (token_after (is_of_view s g) (local s k)) (if is_process (local s k) (holder_of (s.group g)) then Some 1 else None))
    ∙ fold_push (token_after (is_of_view s g) (local s k)) (if is_process (local s k) (holder_of (s.group g)) then Some 1 else None)
    (s.acts k) a

pub token_unacted : (s : State) (g : GroupNo) (k j : ℕ) (a : Act) → (k == j) ≡ false → token_of (noting_act s k a) g j ≡ token_of s g j
token_unacted s g k j a apart =
    act_other s k j a
    (fold (token_after (is_of_view s g) (local s j)) (if is_process (local s j) (holder_of (s.group g)) then Some 1 else None)) apart

pub lists_acted : (s : State) (g : GroupNo) (k : ℕ) (a : Act) →
    lists_of (noting_act s k a) g k ≡ lists_of s g k ++ listed_by (is_of_view s g) a
lists_acted s g k a = act_own s k a (flat_map (listed_by (is_of_view s g))) ∙ lists_push (is_of_view s g) (s.acts k) a

pub lists_unacted : (s : State) (g : GroupNo) (k j : ℕ) (a : Act) → (k == j) ≡ false → lists_of (noting_act s k a) g j ≡ lists_of s g j
lists_unacted s g k j a apart = act_other s k j a (flat_map (listed_by (is_of_view s g))) apart

no_less : (n : ℕ) → n ≤ n
no_less n = omega arith

-- what is done that neither changes who holds the token nor lists anything leaves the logs
pub act_alike : (s : State) (k : ℕ) (a : Act) (h : GroupNo) (l : Log) →
    token_after (is_of_view s h) (local s k) (token_of s h k) a ≡ token_of s h k → listed_by (is_of_view s h) a ≡ [] → LogFits s h l →
    LogFits (noting_act s k a) h l
act_alike s k a h l token lists f =
    log_alike s (noting_act s k a) h l alike refl refl (λ p is. is)
    (λ _. over_alike s (noting_act s k a) h refl refl refl (λ v is. is) (all_stay s h)) f
  where
    alike : IsAlike s (noting_act s k a) h l
    alike = record {
      here = refl;
      view = refl;
      number = refl;
      got = refl;
      tokens = by_serial (λ j. token_of (noting_act s k a) h j ≡ token_of s h j) k (token_acted s h k a ∙ token)
          (λ j apart. token_unacted s h k j a apart);
      lists = by_serial (λ j. lists_of (noting_act s k a) h j ≡ lists_of s h j) k (lists_acted s h k a
          ∙ ap (λ xs. lists_of s h k ++ xs) lists
          ∙ append-nil (lists_of s h k)) (λ j apart. lists_unacted s h k j a apart);
      delivered = λ j. refl;
      settled = λ j. no_less (settled_of s h (local s j));
      more = λ p u is. is;
    }

-- a message of another group, or another view
sent_apart : (s : State) (k : ℕ) (m : Message) (h : GroupNo) (l : Log) → is_of_view s h m.id ≡ false → LogFits s h l →
    LogFits (noting_act s k (Sent m)) h l
sent_apart s k m h l apart =
    act_alike s k (Sent m) h l (ap (λ b. if b then token_sent (token_of s h k) m.body else token_of s h k) apart)
    (ap (λ b. if b && is_order (kind_of m.body) then (m.id.count, last_place m.body) ∷ [] else []) apart)

abbrev listed_if : Bool → ℕ × ℕ → Listing
listed_if b x = if b then x ∷ [] else []

-- one that sets no order
sent_plain : (s : State) (k : ℕ) (m : Message) (h : GroupNo) (l : Log) → token_sent (token_of s h k) m.body ≡ token_of s h k →
    is_order (kind_of m.body) ≡ false → LogFits s h l → LogFits (noting_act s k (Sent m)) h l
sent_plain s k m h l token plain =
    act_alike s k (Sent m) h l (if_same (is_of_view s h m.id) (token_sent (token_of s h k) m.body) (token_of s h k) token)
    (none (is_of_view s h m.id))
  where
    none : (b : Bool) → listed_if (b && is_order (kind_of m.body)) (m.id.count, last_place m.body) ≡ []
    none true = ap (λ c. listed_if c (m.id.count, last_place m.body)) plain
    none false = refl

pub sent_keeps : (count stable : ℕ) (q : Placement) → KeepsProcess (sent_hand count stable q)
sent_keeps count stable q h =
    let now : Hand = note_order_sent count (last_place (body.Order q)) stable h in
    elim (is_some q.holder) as (λ b. (if b then hand_over now else now).process ≡ h.process) [ true ↦ refl | false ↦ refl ]

-- what it lists, and whether it hands the token over, is told of it then
sent_fits : (order : List Entry) (token : Option ℕ) (delivered : List Entry) (lists : Listing) (before count stable : ℕ) (q : Placement)
    (h : Hand) → before ≤ stable → FitsHand order token delivered lists before h → FitsHand order (token_sent token (body.Order q))
    delivered (lists ++ (count, last_place (body.Order q)) ∷ []) stable (sent_hand count stable q h)
sent_fits order token delivered lists before count stable q h le fits =
    let last : ℕ = last_place (body.Order q) in
    let now : Hand = note_order_sent count last stable h in
    let noting : FitsHand order token delivered (lists ++ (count, last) ∷ []) stable now =
    note_fits order token delivered lists before h fits count last stable le in
    elim q.holder as (λ o. FitsHand order (elim o as (λ _. Option ℕ) [ Some p ↦ None | None ↦ token ])
    delivered (lists ++ (count, last) ∷ []) stable (if is_some o then hand_over now else now)) [
      | None ↦ noting
      | Some p ↦ hand_over_fits order token delivered (lists ++ (count, last) ∷ []) stable now noting
    ]

sent_first : (token : Option ℕ) (count stable : ℕ) (q : Placement) (h : Hand) → h.first ≡ token →
    (sent_hand count stable q h).first ≡ token_sent token (body.Order q)
sent_first token count stable q h is =
    let now : Hand = note_order_sent count (last_place (body.Order q)) stable h in
    elim q.holder
    as (λ o. (if is_some o then hand_over now else now).first ≡ (elim o as (λ _. Option ℕ) [ Some p ↦ None | None ↦ token ])) [
      | None ↦ is
      | Some p ↦ refl
    ]

-- a set-order message of the group's view
sent_order : (s : State) (k : ℕ) (m : Message) (q : Placement) (stable : ℕ) (l : Log) → m.body ≡ body.Order q →
    is_of_view s m.id.group m.id ≡ true → m.id.count ≤ MAX_NUMBER → stable ≡ settled_of s m.id.group (local s k) → LogFits s m.id.group l →
    LogFits (noting_act s k (Sent m)) m.id.group (with_hand (local s k) (sent_hand m.id.count stable q) l)
sent_order s k m q stable l is current most settled f = record {
  tokens = tokens_change s t g l k change keeps
      (sent_first (token_of s g k) m.id.count stable q (hand_here l (local s k)) (f.tokens k) ∙ sym token)
      (λ j apart. f.tokens j ∙ sym (token_unacted s g k j (Sent m) apart));
  own = own_changed s.here (local s k) (site_itself s.here) change keeps l.hands f.own;
  tells = λ none. tells (f.tells none);
  closed = λ waits. closed_hand (s.closed g) (goes_on s g) (has_passed s g) l (f.closed waits) (local s k) change;
}
  where
    g : GroupNo
    g = m.id.group

    t : State
    t = noting_act s k (Sent m)

    change : Hand → Hand
    change = sent_hand m.id.count stable q

    keeps : KeepsProcess change
    keeps = sent_keeps m.id.count stable q

    token : token_of t g k ≡ token_sent (token_of s g k) (body.Order q)
    token =
        token_acted s g k (Sent m)
        ∙ ap (λ b. if b then token_sent (token_of s g k) m.body else token_of s g k) current
        ∙ ap (token_sent (token_of s g k)) is

    lists : lists_of t g k ≡ lists_of s g k ++ (m.id.count, last_place (body.Order q)) ∷ []
    lists =
        lists_acted s g k (Sent m)
        ∙ ap (λ b. lists_of s g k ++ (if b && is_order (kind_of m.body) then (m.id.count, last_place m.body) ∷ [] else [])) current
        ∙ ap (λ b. lists_of s g k ++ (if is_order (kind_of b) then (m.id.count, last_place b) ∷ [] else [])) is

    tells : TellsOrder s g l → TellsOrder t g (with_hand (local s k) change l)
    tells x = record {
      fits = hand_fits (facts_in s g) (goes_on s g) (has_passed s g) l x.fits (local s k) change;
      hands = hands_change s t g l k change keeps own
          (λ j apart. hand_alike s t g j (hand_here l (local s j)) refl (token_unacted s g k j (Sent m) apart)
          refl (lists_unacted s g k j (Sent m) apart) (no_less (settled_of s g (local s j))) (x.hands j));
      gone = λ e among. record {
        received = (x.gone e among).received;
        let_go = (x.gone e among).let_go;
        counted = (x.gone e among).counted;
      };
    }
      where
        was : TellsHand s g k (hand_here l (local s k))
        was = x.hands k

        own : TellsHand t g k (change (hand_here l (local s k)))
        own =
            let reached = was.reached in
            hand_made t g k (change (hand_here l (local s k))) (order_told s g) (token_sent (token_of s g k) (body.Order q))
            (abcasts_delivered s g k) (lists_of s g k ++ (m.id.count, last_place (body.Order q)) ∷ [])
            refl token refl lists stable (omega (arith, settled))
            (sent_fits (order_told s g) (token_of s g k) (abcasts_delivered s g k) (lists_of s g k)
            was.stable m.id.count stable q (hand_here l (local s k)) (omega (arith, reached, settled)) was.fits)
            (λ y in_it. elim (Contains-push_cases (lists_of s g k) (m.id.count, last_place (body.Order q)) y in_it) [
              | inl before ↦ was.counted y before
              | inr last ↦ subst (λ (z : ℕ × ℕ). z.0 ≤ MAX_NUMBER) last most
            ])

-- each log tells of its order still once a process here has sent a message of the current view of its group, and that is noted
pub logs_sent : (s : State) (k : ℕ) (m : Message) (stable : ℕ) (orders : List Log) → ((h : GroupNo) → LogFits s h (log_of orders h)) →
    m.id.proc ≡ local s k → is_of_view s m.id.group m.id ≡ true → m.id.count ≤ MAX_NUMBER → stable ≡ settled_of s m.id.group (local s k) →
    (h : GroupNo) → LogFits (noting_act s k (Sent m)) h (log_of (orders_sent orders m.id stable m.body) h)
logs_sent s k m stable orders fits own current most settled h = at m.body refl
  where
    t : State
    t = noting_act s k (Sent m)

    at : (b : Body) → m.body ≡ b → LogFits t h (log_of (orders_sent orders m.id stable b) h)
    at (body.Causal payload) is =
        sent_plain s k m h (log_of orders h) (ap (token_sent (token_of s h k)) is) (ap (λ b. is_order (kind_of b)) is) (fits h)
    at (body.Atomic payload) is =
        sent_plain s k m h (log_of orders h) (ap (token_sent (token_of s h k)) is) (ap (λ b. is_order (kind_of b)) is) (fits h)
    at (body.Order q) is =
        let g : GroupNo = m.id.group in
        let change : Log → Log = with_hand m.id.proc (sent_hand m.id.count stable q) in
        subst (LogFits t h) (sym (log_of_change orders g h change (λ l. refl)))
        (elim (cases_Bool (group_eq g h)) [
          | inl same ↦
              subst (LogFits t h) (sym (ap (λ b. if b then change (log_of orders g) else log_of orders h) same))
              (subst (λ x. LogFits t x (change (log_of orders g))) (same_group g h same)
              (subst (λ p. LogFits t g (with_hand p (sent_hand m.id.count stable q) (log_of orders g))) (sym own)
              (sent_order s k m q stable (log_of orders g) is current most settled (fits g))))
          | inr apart ↦
              subst (LogFits t h) (sym (ap (λ b. if b then change (log_of orders g) else log_of orders h) apart))
              (sent_apart s k m h (log_of orders h) (other_group s h m apart) (fits h))
        ])

-- what processes did that neither changes who holds the token nor lists anything
pub record AreQuiet (before now : List Act) : Type 0 where
  pub tokens : (is_of : Uid → Bool) (p : Proc) (token : Option ℕ) →
      fold (token_after is_of p) token now ≡ fold (token_after is_of p) token before
  pub lists : (is_of : Uid → Bool) → flat_map (listed_by is_of) now ≡ flat_map (listed_by is_of) before

pub quiet_same : (acts : List Act) → AreQuiet acts acts
quiet_same acts = record { tokens = λ is_of p token. refl; lists = λ is_of. refl }

pub quiet_left : (g : GroupNo) (acts : List Act) → AreQuiet acts (acts ++ Left g ∷ [])
quiet_left g acts = record {
  tokens = λ is_of p token. fold_push (token_after is_of p) token acts (Left g);
  lists = λ is_of. lists_push is_of acts (Left g) ∙ append-nil (flat_map (listed_by is_of) acts);
}

pub quiet_entered : (g : GroupNo) (n : ℕ) (cut : CountList) (acts : List Act) → AreQuiet acts (acts ++ Entered g n cut ∷ [])
quiet_entered g n cut acts = record {
  tokens = λ is_of p token. fold_push (token_after is_of p) token acts (Entered g n cut);
  lists = λ is_of. lists_push is_of acts (Entered g n cut) ∙ append-nil (flat_map (listed_by is_of) acts);
}

pub quiet_if : (b : Bool) (acts more : List Act) → AreQuiet acts more → AreQuiet acts (if b then more else acts)
quiet_if true acts more quiet = quiet
quiet_if false acts more quiet = quiet_same acts

pub quiet_outside : (s : State) (k : ℕ) (g : GroupNo) (j : ℕ) → AreQuiet (s.acts j) (acts_outside s k g j)
quiet_outside s k g j =
    elim (is_member ((s.process k).standing g)) as (λ b. AreQuiet (s.acts j) ((if b then (noting_act s k (Left g)).acts else s.acts) j)) [
      | true ↦ by_serial (λ i. AreQuiet (s.acts i) ((noting_act s k (Left g)).acts i)) k
          (subst (AreQuiet (s.acts k)) (sym (act_own s k (Left g) (λ xs. xs))) (quiet_left g (s.acts k)))
          (λ i apart. subst (AreQuiet (s.acts i)) (sym (act_other s k i (Left g) (λ xs. xs) apart)) (quiet_same (s.acts i))) j
      | false ↦ quiet_same (s.acts j)
    ]

-- so the logs tell still
pub logs_quiet : (s : State) (acts : ℕ → List Act) (orders : List Log) → ((k : ℕ) → AreQuiet (s.acts k) (acts k)) →
    ((h : GroupNo) → LogFits s h (log_of orders h)) → (h : GroupNo) → LogFits (record s { acts = acts }) h (log_of orders h)
logs_quiet s acts orders quiet fits h =
    log_alike s t h (log_of orders h) alike refl refl (λ p is. is)
    (λ _. over_alike s t h refl refl refl (λ v is. is) (all_stay s h)) (fits h)
  where
    t : State
    t = record s { acts = acts }

    alike : IsAlike s t h (log_of orders h)
    alike = record {
      here = refl;
      view = refl;
      number = refl;
      got = refl;
      tokens = λ j. (quiet j).tokens (is_of_view s h) (local s j) (if is_process (local s j) (holder_of (s.group h)) then Some 1 else None);
      lists = λ j. (quiet j).lists (is_of_view s h);
      delivered = λ j. refl;
      settled = λ j. no_less (settled_of s h (local s j));
      more = λ p u is. is;
    }
