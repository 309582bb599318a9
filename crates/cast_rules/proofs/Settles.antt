-- Deliveries come to an end.
use Rattle.std.proofs.Common.{◌≡◌, ℕ, ◌<◌, ◌≤◌, zero, suc, true, false, not, [], ◌∷◌, ◌++◌}
use Rattle.std.proofs.Common.{length, Option, Some, None, refl, sym, ap, subst, ◌∙◌, arith}
use Rattle.std.specs.Prelude.{◌==◌, if◌then◌else◌}
use Rattle.std.specs.List.{list_any, find}
use Rattle.std.proofs.lemmas.Bool.{and_parts, not-true, eq-eqb}
use Rattle.cast_types.specs.Names.{uid_eq, entry_of}
use Rattle.cast_types.specs.Repeat.{iterate}
use Rattle.cast_types.proofs.Iterates.{iterate_once, iterate_still}
use Rattle.cast_clock.specs.Times.{join}
use Rattle.cast_message.specs.declared.client.Push.{Push}
use Rattle.cast_message.specs.declared.message.Message.{Message}
use Rattle.cast_ready.specs.Ready.{Process, is_open_to, has_delivered, is_member, is_causally_ready}
use Rattle.cast_rules.specs.State.{State, gate_of, abcasts_with, with_delivery}
use Rattle.cast_rules.specs.Turns.{is_ready_for}
use Rattle.cast_rules.specs.Effects.{delivering}
use Rattle.cast_rules.specs.History.{history}
use Rattle.cast_rules.specs.Rules.Rest.{told_of, tell_if}
use Rattle.cast_rules.specs.Rest.{deliver_first, deliver_all, let_go}
use Rattle.cast_rules.specs.Endings.{left_count, SettlesOne, TurnsAreEnough}
use Rattle.cast_rules.proofs.Alikes.{Alike, groups_of, alike_self, alike_then, alike_tell, alike_let_go}
use Rattle.cast_rules.proofs.Totals.{left_found, left_le}

-- a process delivered a message
pub record Delivers (k : ℕ) (m : Message) (s : State) (t : State) : Type 0 where
  pub here : t.here ≡ s.here
  pub config : t.config ≡ s.config
  pub used : t.used ≡ s.used
  pub group : groups_of t ≡ groups_of s
  pub home : t.home ≡ s.home
  pub got : t.got ≡ s.got
  pub abcasts : t.abcasts ≡ abcasts_with s k m
  pub delivered : (j : ℕ) → (t.process j).delivered ≡ (if k == j then (s.process k).delivered ++ m.id ∷ [] else (s.process j).delivered)

-- what each process has delivered after a delivery
pub delivered_at : (s : State) (k : ℕ) (m : Message) (j : ℕ) →
    ((with_delivery s k m).process j).delivered ≡ (if k == j then (s.process k).delivered ++ m.id ∷ [] else (s.process j).delivered)
delivered_at s k m j =
    let p : Process = record (s.process k) { time = join (s.process k).time m.times; delivered = (s.process k).delivered ++ m.id ∷ [] } in
    elim (k == j)
    as (λ b. (if b then p else s.process j).delivered ≡ (if b then p.delivered else (s.process j).delivered)) [ true ↦ refl | false ↦ refl ]

-- the program is told, or nothing is told
alike_told : (s : State) (k : ℕ) (o : Option Push) → Alike s (tell_if history s k o)
alike_told s k (Some p) = alike_tell s k p
alike_told s k None = alike_self s

-- a process delivers a message, and what is free then is let go
abbrev pub delivering_one : State → ℕ → Message → State
delivering_one s k m = let_go (delivering s k m)

pub alike_delivering : (s : State) (k : ℕ) (m : Message) → Alike (with_delivery s k m) (delivering_one s k m)
alike_delivering s k m =
    alike_then (with_delivery s k m) (delivering s k m) (delivering_one s k m)
    (alike_told (with_delivery s k m) k (told_of m.id m.body)) (alike_let_go (delivering s k m))

pub delivers : (s : State) (k : ℕ) (m : Message) → Delivers k m s (delivering_one s k m)
delivers s k m =
    let a : Alike (with_delivery s k m) (delivering_one s k m) = alike_delivering s k m in
    record {
      here = a.here;
      config = a.config;
      used = a.used;
      group = a.group;
      home = a.home;
      got = a.got;
      abcasts = a.abcasts;
      delivered = λ j. a.delivered j ∙ delivered_at s k m j;
    }

-- what is ready is causally ready
pub ready_causally : (s : State) (k : ℕ) (m : Message) → is_ready_for s k m ≡ true →
    is_causally_ready s.config.groups (gate_of s) (s.process k) m ≡ true
ready_causally s k m e = (and_parts (is_causally_ready s.config.groups (gate_of s) (s.process k) m) _ e).0

-- and so it was not delivered
pub ready_new : (s : State) (k : ℕ) (m : Message) → is_ready_for s k m ≡ true → list_any (uid_eq m.id) (s.process k).delivered ≡ false
ready_new s k m e =
    let b = and_parts (is_member ((s.process k).standing m.id.group)) _ (ready_causally s k m e) in
    let c = and_parts (m.id.view == (gate_of s m.id.group).number) _ b.1 in
    let d = and_parts (is_open_to (gate_of s m.id.group) (entry_of m.id)) _ c.1 in
    not-true (has_delivered (s.process k) m.id) (and_parts (not (has_delivered (s.process k) m.id)) _ d.1).0

pub delivered_first : (s : State) (k : ℕ) (m : Message) → find (is_ready_for s k) s.got ≡ Some m → deliver_first k s ≡ delivering_one s k m
delivered_first s k m e = ap (λ (o : Option Message). elim o [ Some m ↦ delivering_one s k m | None ↦ s ]) e

pub delivered_none : (s : State) (k : ℕ) → find (is_ready_for s k) s.got ≡ None → deliver_first k s ≡ s
delivered_none s k e = ap (λ (o : Option Message). elim o [ Some m ↦ delivering_one s k m | None ↦ s ]) e

-- fewer are left
pub delivered_less : (s : State) (k : ℕ) (m : Message) → find (is_ready_for s k) s.got ≡ Some m →
    left_count ((delivering_one s k m).process k).delivered (delivering_one s k m).got < left_count (s.process k).delivered s.got
delivered_less s k m e =
    let d : Delivers k m s (delivering_one s k m) = delivers s k m in
    let t : State = delivering_one s k m in
    let same : (t.process k).delivered ≡ (s.process k).delivered ++ m.id ∷ [] =
    d.delivered k ∙ ap (λ b. if b then (s.process k).delivered ++ m.id ∷ [] else (s.process k).delivered) (eq-eqb k k refl) in
    subst (λ n. n < left_count (s.process k).delivered s.got)
    (sym (ap (λ ids. left_count ids t.got) same ∙ ap (left_count ((s.process k).delivered ++ m.id ∷ [])) d.got))
    (left_found (is_ready_for s k) (s.process k).delivered s.got m (ready_new s k) e)

abbrev NoneReady : ℕ → State → Type 0
NoneReady k s = find (is_ready_for s k) s.got ≡ None

settled_in : (n : ℕ) (s : State) (k : ℕ) → left_count (s.process k).delivered s.got ≤ n → NoneReady k (iterate n (deliver_first k) s)
settled_in zero s k enough =
    elim (find (is_ready_for s k) s.got) as (λ o. find (is_ready_for s k) s.got ≡ o → o ≡ None) [
      | None ↦ λ _. refl
      | Some m ↦ λ e. let less = delivered_less s k m e in absurd (omega arith)
    ] refl
settled_in (suc n) s k enough =
    elim (find (is_ready_for s k) s.got)
    as (λ o. find (is_ready_for s k) s.got ≡ o → NoneReady k (iterate n (deliver_first k) (deliver_first k s))) [
      | None ↦ λ e.
          subst (NoneReady k)
          (sym (ap (iterate n (deliver_first k)) (delivered_none s k e) ∙ iterate_still n (deliver_first k) s (delivered_none s k e))) e
      | Some m ↦ λ e.
          let less = delivered_less s k m e in subst (λ t. NoneReady k (iterate n (deliver_first k) t)) (sym (delivered_first s k m e))
          (settled_in n (delivering_one s k m) k (omega arith))
    ] refl

pub settles_one : SettlesOne
settles_one s k = settled_in (length s.got) s k (left_le (s.process k).delivered s.got)

-- turns of one kind come in any order
pub iterate_twice : {A : Type 0} (m n : ℕ) (f : A → A) (x : A) → iterate m f (iterate n f x) ≡ iterate n f (iterate m f x)
iterate_twice zero n f x = refl
iterate_twice (suc m) n f x = ap (iterate m f) (sym (iterate_once n f x)) ∙ iterate_twice m n f (f x)

-- however many turns were taken: where nothing is ready, that was all
pub turns_are_enough : TurnsAreEnough
turns_are_enough s k n none =
    let f : State → State = deliver_first k in
    sym (iterate_still (length s.got) f (iterate n f s) (delivered_none (iterate n f s) k none))
    ∙ iterate_twice (length s.got) n f s
    ∙ iterate_still n f (deliver_all s k) (delivered_none (deliver_all s k) k (settles_one s k))
