-- A process sends and delivers messages of the views that it is in, and its views rise.
use Rattle.std.proofs.Common.{ap, append_assoc, arith, inl, inr, subst, sym, ◌∙◌}
use Rattle.std.proofs.lemmas.Bool.{and_parts, eqb-true}
use Rattle.std.proofs.lemmas.List.Elements.{Contains-push_cases}
use Rattle.std.specs.Prelude.{◌+◌, ◌++◌, ◌<◌, ◌==◌, Bool, Contains, List, [], false, if◌then◌else◌, refl, true, ℕ, ◌∷◌, ◌≡◌, ◌≤◌, ◌≡◌}
use Rattle.cast_clock.specs.Times.{entering, join, view_of}
use Rattle.cast_ready.specs.Ready.{Process, is_member}
use Rattle.cast_rules.specs.Acts.{Act}
use Rattle.cast_rules.specs.Acts.Act.{Delivered, Entered, Left, Sent}
use Rattle.cast_rules.specs.Effects.{next_message}
use Rattle.cast_rules.specs.Entering.{all_parted, completing, enters, in_view, is_put_out, put_outside, putting_out}
use Rattle.cast_rules.specs.State.{State, gate_of, local, noting_act, outside}
use Rattle.cast_rules.specs.Turns.{is_ready_for, turn_of}
use Rattle.cast_message.specs.Membership.{Membership}
use Rattle.cast_message.specs.declared.message.Message.{Message}
use Rattle.cast_types.specs.Counts.{CountList}
use Rattle.cast_types.specs.Names.{group_eq, site_eq}
use Rattle.cast_types.specs.Sets.{set_at}
use Rattle.cast_types.specs.Stamps.{ClockList}
use Rattle.cast_types.specs.declared.names.GroupNo.{GroupNo}
use Rattle.cast_types.specs.declared.names.SiteNo.{SiteNo}
use Rattle.cast_types.specs.declared.names.Standing.{Standing}
use Rattle.cast_types.specs.declared.names.Standing.TheVariants.{Joining, Member, Outside}
use Rattle.cast_world.proofs.Allowed.{ready_allowed}
use Rattle.cast_world.proofs.Facts.{Each, KeepsToView}
use Rattle.cast_world.proofs.Kept.{Kept}
use Rattle.cast_world.proofs.Laters.{later_same, set_all, set_both}
use Rattle.cast_world.proofs.Lists.{each_more, entered_same, entry_delivered, entry_left, entry_sent}
use Rattle.cast_world.proofs.Local.{cases_group}
use Rattle.cast_world.proofs.Moves.{member_is}
use Rattle.cast_world.proofs.Ones.{joined_view, outside_not_member, set_here, set_other}
use Rattle.cast_world.proofs.Onward.{asks, stands}
use Rattle.cast_world.proofs.Steps.{Arrived, Now, kept_now, next_of, own_holds, sites_at}
use Rattle.cast_world.proofs.Times.{below_join, below_view, bumped_view, entered_view, other_view}
use Rattle.cast_world.proofs.Views.{passing_above}
use Rattle.cast_world.specs.Network.{Network}
use Rattle.cast_world.specs.Properties.{IsIn}

abbrev pub SeenWell : List Act → Act → Type 0
SeenWell a (Sent m) = IsIn a m.id.group m.id.view
SeenWell a (Delivered m) = IsIn a m.id.group m.id.view
SeenWell a (Entered g n cut) = (v : ℕ) (c : CountList) → Contains a (Entered g v c) → v < n
SeenWell a (Left g) = Unit {0}

pub record OneSeen (time : ClockList) (standing : GroupNo → Standing) (acts : List Act) : Type 0 where
  pub inside : (g : GroupNo) → standing g ≡ Member → IsIn acts g (view_of time g)
  pub reached : (g : GroupNo) (v : ℕ) (cut : CountList) → Contains acts (Entered g v cut) → v ≤ view_of time g
  pub seen : Each SeenWell acts

is_in_more : (acts : List Act) (y : Act) (g : GroupNo) (v : ℕ) → (y ≡ Left g → ⊥) → ((n : ℕ) (cut : CountList) → y ≡ Entered g n cut → ⊥) →
    IsIn acts g v → IsIn (acts ++ y ∷ []) g v
is_in_more acts y g v stays never i = (
  i.0,
  i.1 ++ y ∷ [],
  i.2,
  ap (λ z. z ++ y ∷ []) i.3 ∙ append_assoc i.0 (Entered g v i.2 ∷ i.1) (y ∷ []),
  (λ at. elim (Contains-push_cases i.1 y (Left g) at) [ inl old ↦ i.4 old | inr same ↦ stays same ]),
  (λ n cut at. elim (Contains-push_cases i.1 y (Entered g n cut) at) [ inl old ↦ i.5 n cut old | inr same ↦ never n cut same ]),
)

sort_of : Act → ℕ
sort_of (Sent m) = 0
sort_of (Delivered m) = 1
sort_of (Entered g n cut) = 2
sort_of (Left g) = 3

group_or : GroupNo → Act → GroupNo
group_or d (Sent m) = d
group_or d (Delivered m) = d
group_or d (Entered g n cut) = g
group_or d (Left g) = g

in_sent : (acts : List Act) (m : Message) (g : GroupNo) (v : ℕ) → IsIn acts g v → IsIn (acts ++ Sent m ∷ []) g v
unfolding sort_of
in_sent acts m g v i =
    is_in_more acts (Sent m) g v (λ e. differ 3 (omega arith) (ap sort_of e)) (λ n cut e. differ 2 (omega arith) (ap sort_of e)) i
  where
    differ : (n : ℕ) → 0 < n → ◌≡◌ {A = ℕ} 0 n → ⊥
    differ n lt e = omega (arith, lt, e)

in_delivered : (acts : List Act) (m : Message) (g : GroupNo) (v : ℕ) → IsIn acts g v → IsIn (acts ++ Delivered m ∷ []) g v
unfolding sort_of
in_delivered acts m g v i =
    is_in_more acts (Delivered m) g v (λ e. differ 3 (omega arith) (ap sort_of e)) (λ n cut e. differ 2 (omega arith) (ap sort_of e)) i
  where
    differ : (n : ℕ) → 1 < n → ◌≡◌ {A = ℕ} 1 n → ⊥
    differ n lt e = omega (arith, lt, e)

in_left : (acts : List Act) (h g : GroupNo) (v : ℕ) → (h ≡ g → ⊥) → IsIn acts g v → IsIn (acts ++ Left h ∷ []) g v
unfolding sort_of group_or
in_left acts h g v apart i = is_in_more acts (Left h) g v (λ e. apart (ap (group_or h) e)) (λ n cut e. differ (ap sort_of e)) i
  where
    differ : ◌≡◌ {A = ℕ} 3 2 → ⊥
    differ e = omega (arith, e)

in_entered : (acts : List Act) (h : GroupNo) (n : ℕ) (c : CountList) (g : GroupNo) (v : ℕ) → (h ≡ g → ⊥) → IsIn acts g v →
    IsIn (acts ++ Entered h n c ∷ []) g v
unfolding sort_of
in_entered acts h n c g v apart i =
    is_in_more acts (Entered h n c) g v (λ e. differ (ap sort_of e)) (λ k cut e. apart (entered_same h g n k c cut e).0) i
  where
    differ : ◌≡◌ {A = ℕ} 2 3 → ⊥
    differ e = omega (arith, e)

module _ (p : Process) (acts : List Act) (o : OneSeen p.time p.standing acts) where
  seen_left : (g : GroupNo) → OneSeen p.time (put_outside g p).standing (acts ++ Left g ∷ [])
  seen_left g = record {
    inside = λ h is. elim (cases_group g h) [
      | inl here ↦ absurd (outside_not_member (sym (set_here p.standing g Outside h here) ∙ is))
      | inr apart ↦ in_left acts g h (view_of p.time h) apart (o.inside h (stands (p.standing h) (group_eq g h) is))
    ];
    reached = λ h v cut at. o.reached h v cut (entry_left acts g h v cut at);
    seen = each_more SeenWell acts (Left g) o.seen tt;
  }

  seen_apart : (g : GroupNo) → OneSeen p.time (put_outside g p).standing acts
  seen_apart g = record { inside = λ h is. o.inside h (stands (p.standing h) (group_eq g h) is); reached = o.reached; seen = o.seen }

  seen_asks : (g : GroupNo) (number heard : ℕ) → OneSeen p.time (set_at group_eq p.standing g (Joining number heard)) acts
  seen_asks g number heard = record {
    inside = λ h is. o.inside h (asks (p.standing h) (group_eq g h) number heard is);
    reached = o.reached;
    seen = o.seen;
  }

  seen_sent : (m : Message) → ((h : GroupNo) → view_of m.times h ≡ view_of p.time h) → p.standing m.id.group ≡ Member →
      (KeepsToView m → view_of p.time m.id.group ≡ m.id.view) → OneSeen m.times p.standing (acts ++ Sent m ∷ [])
  seen_sent m same member view = record {
    inside = λ h is. subst (λ v. IsIn (acts ++ Sent m ∷ []) h v) (sym (same h)) (in_sent acts m h (view_of p.time h) (o.inside h is));
    reached = λ h v cut at. let was = o.reached h v cut (entry_sent acts m h v cut at) in let is = same h in omega (arith, was, is);
    seen = each_more SeenWell acts (Sent m) o.seen (subst (λ v. IsIn acts m.id.group v) (view tt) (o.inside m.id.group member));
  }

  seen_delivers : (m : Message) → ((h : GroupNo) → p.standing h ≡ Member → view_of (join p.time m.times) h ≡ view_of p.time h) →
      p.standing m.id.group ≡ Member → (KeepsToView m → view_of p.time m.id.group ≡ m.id.view) →
      OneSeen (join p.time m.times) p.standing (acts ++ Delivered m ∷ [])
  seen_delivers m same member view = record {
    inside = λ h is.
        subst (λ v. IsIn (acts ++ Delivered m ∷ []) h v) (sym (same h is)) (in_delivered acts m h (view_of p.time h) (o.inside h is));
    reached = λ h v cut at.
        let was = o.reached h v cut (entry_delivered acts m h v cut at) in
        let up = below_view p.time (join p.time m.times) (below_join p.time m.times) h in
        omega (arith, was, up);
    seen = each_more SeenWell acts (Delivered m) o.seen (subst (λ v. IsIn acts m.id.group v) (view tt) (o.inside m.id.group member));
  }

  seen_enters : (g : GroupNo) (n : ℕ) (cut : CountList) → view_of p.time g < n →
      OneSeen (entering p.time g n) (in_view g n p).standing (acts ++ Entered g n cut ∷ [])
  seen_enters g n cut above = record {
    inside = λ h is. elim (cases_group g h) [
      | inl here ↦ subst (λ x. IsIn (acts ++ Entered g n cut ∷ []) x (view_of (entering p.time g n) x)) here
          (subst (λ v. IsIn (acts ++ Entered g n cut ∷ []) g v) (sym (entered_view p.time g n))
          (acts, [], cut, refl, (λ at. omega (arith, at.1)), (λ k c at. omega (arith, at.1))))
      | inr apart ↦ subst (λ v. IsIn (acts ++ Entered g n cut ∷ []) h v) (sym (other_view p.time g n h apart))
          (in_entered acts g n cut h (view_of p.time h) apart (o.inside h (sym (set_other p.standing g Member h apart) ∙ is)))
    ];
    reached = λ h v c at. elim (cases_group g h) [
      | inl here ↦
          subst (λ x. v ≤ view_of (entering p.time g n) x)
          here (let top = entered_view p.time g n in elim (Contains-push_cases acts (Entered g n cut) (Entered h v c) at) [
            | inl old ↦
                (let was : v ≤ view_of p.time g = subst (λ x. v ≤ view_of p.time x) (sym here) (o.reached h v c old) in
                omega (arith, was, top, above))
            | inr new ↦ (let same = (entered_same g h n v cut c new).1 in omega (arith, same, top))
          ])
      | inr apart ↦ (let same = other_view p.time g n h apart in elim (Contains-push_cases acts (Entered g n cut) (Entered h v c) at) [
        | inl old ↦ (let was = o.reached h v c old in omega (arith, was, same))
        | inr new ↦ absurd (apart (entered_same g h n v cut c new).0)
      ])
    ];
    seen = each_more SeenWell acts (Entered g n cut) o.seen (λ v c at. let was = o.reached g v c at in omega (arith, was, above));
  }

-- of one process as it is, or of a process and its acts
abbrev pub OneSees : Process → List Act → Type 0
OneSees p acts = OneSeen p.time p.standing acts

abbrev pub AllSeen : State → Type 0
AllSeen t = (k : ℕ) → OneSees (t.process k) (t.acts k)

changed : (t : State) → AllSeen t → (k : ℕ) (p : Process) (acts : List Act) → OneSees p acts → (j : ℕ) →
    OneSees (set_at (λ a b. a == b) t.process k p j) (set_at (λ a b. a == b) t.acts k acts j)
changed t all k p acts new = set_both (λ j q x. OneSees q x) t.process t.acts k p acts all new

stood : (t : State) → AllSeen t → (k : ℕ) (p : Process) → OneSees p (t.acts k) → (j : ℕ) →
    OneSees (set_at (λ a b. a == b) t.process k p j) (t.acts j)
stood t all k p new = set_all (λ j q. OneSees q (t.acts j)) t.process k p all new

part_seen : (t : State) (k : ℕ) (g : GroupNo) → AllSeen t → AllSeen (outside t k g)
part_seen t k g all = go (is_member ((t.process k).standing g))
  where
    go : (b : Bool) (j : ℕ) → OneSees (set_at (λ a c. a == c) t.process k (put_outside g (t.process k)) j)
        ((if b then (noting_act t k (Left g)).acts else t.acts) j)
    go true = changed t all k (put_outside g (t.process k)) (t.acts k ++ Left g ∷ []) (seen_left (t.process k) (t.acts k) (all k) g)
    go false = stood t all k (put_outside g (t.process k)) (seen_apart (t.process k) (t.acts k) (all k) g)

all_parted_seen : (t : State) → AllSeen t → (g : GroupNo) (goes : ℕ → Bool) → AllSeen (all_parted t g goes)
all_parted_seen t all g goes k = go (goes k)
  where
    go : (b : Bool) → OneSees (if b then put_outside g (t.process k) else t.process k) (if b then t.acts k ++ Left g ∷ [] else t.acts k)
    go true = seen_left (t.process k) (t.acts k) (all k) g
    go false = all k

completing_seen : (t : State) → AllSeen t → (g : GroupNo) (n : ℕ) (members : Membership) (request : ℕ) (cut : CountList) →
    ((k : ℕ) → enters t g members request k ≡ true → view_of (t.process k).time g < n) → AllSeen (completing t g n members request cut)
completing_seen t all g n members request cut above k = go (enters t g members request k) refl
  where
    go : (b : Bool) → enters t g members request k ≡ b →
        OneSees (if b then in_view g n (t.process k) else t.process k) (if b then t.acts k ++ Entered g n cut ∷ [] else t.acts k)
    go true e = seen_enters (t.process k) (t.acts k) (all k) g n cut (above k e)
    go false e = all k

module _ (home : SiteNo) (w : Network) (a : SiteNo) where
  abbrev pub SeenNow : State → Type 0
  SeenNow t = Now home w a t × AllSeen t

  abbrev k : Kept (Now home w a) (Arrived home w a) (site_eq a home)
  k = kept_now home w a

  delivers_seen : (t : State) (n : ℕ) (m : Message) → SeenNow t → is_ready_for t n m ≡ true → Contains t.got m →
      OneSees (record (t.process n) { time = join (t.process n).time m.times; delivered = (t.process n).delivered ++ m.id ∷ [] })
      (t.acts n ++ Delivered m ∷ [])
  delivers_seen t n m i ready c =
      let x = own_holds home w a t i.0 in
      let one = x.ones n in
      let allowed =
      ready_allowed t.config.groups (gate_of t) (turn_of t n) (t.process n) m (λ g is. (one.given g is).2)
      (λ g is. (one.member g is).0) ready in
      let parts = and_parts (is_member ((t.process n).standing m.id.group)) _ (and_parts _ _ ready).0 in
      let member = member_is _ parts.0 in
      let view : m.id.view ≡ (t.group m.id.group).number =
      eqb-true _ _ (and_parts (m.id.view == (t.group m.id.group).number) _ parts.1).0 in
      seen_delivers (t.process n) (t.acts n) (i.1 n) m
      (λ h is. joined_view (sites_at home w a t) home t.here t.used t.config.groups t.group n (t.process n) (t.acts n)
      one m (x.received m c) allowed h is)
      member (λ keeps. sym (view ∙ (one.member m.id.group member).0))

  pub kept_seen : Kept SeenNow (Arrived home w a) (site_eq a home)
  kept_seen = record {
    telling = record {
      emits = λ t to f i says. (k.telling.emits t to f i.0 says, i.1);
      books = λ t quotas moment acks told owed casts pushes i. (k.telling.books t quotas moment acks told owed casts pushes i.0, i.1);
      releases = λ t lets i. (k.telling.releases t lets i.0, i.1);
      sets_session = λ t n v i same. (k.telling.sets_session t n v i.0 same, i.1);
      parts = λ t n g i. (k.telling.parts t n g i.0, part_seen t n g i.1);
      requests = λ t g what p i. (k.telling.requests t g what p i.0, i.1);
    };
    fixed = λ t i. k.fixed t i.0;
    opens = λ t i. (k.opens t i.0, i.1);
    answers = λ t g i. (k.answers t g i.0, i.1);
    joins = λ t n g i open_it known out. (
      k.joins t n g i.0 open_it known out,
      stood t i.1 n (record (t.process n) {
        standing = set_at group_eq (t.process n).standing g
            (Joining ((t.group g).asked + 1) (view_of (t.process n).time g));
      })
          (seen_asks (t.process n) (t.acts n) (i.1 n) g ((t.group g).asked + 1) (view_of (t.process n).time g)),
    );
    sends = λ t g n content i member may. (
      k.sends t g n content i.0 member may,
      changed t i.1 n (record (t.process n) { time = (next_message t g n content).times })
          (t.acts n ++ Sent (next_message t g n content) ∷ [])
          (let is : (t.process n).standing g ≡ Member = member_is _ member in
          seen_sent (t.process n) (t.acts n) (i.1 n) (next_message t g n content) (λ h. bumped_view (t.process n).time g (local t n) h)
          is (λ keeps. sym (((own_holds home w a t i.0).ones n).member g is).0)),
    );
    receives = λ t from m i came view member. (k.receives t from m i.0 came view member, i.1);
    delivers = λ t n m i c ready. (
      k.delivers t n m i.0 c ready,
      changed t i.1 n (record (t.process n) { time = join (t.process n).time m.times; delivered = (t.process n).delivered ++ m.id ∷ [] })
          (t.acts n ++ Delivered m ∷ []) (delivers_seen t n m i ready c),
    );
    freezes = λ t g i current. (k.freezes t g i.0 current, i.1);
    pends = λ t from g p tail i came current. (k.pends t from g p tail i.0 came current, i.1);
    passes = λ t g skipped n members request cut i comes. (
      k.passes t g skipped n members request cut i.0 comes,
      (let left : State = putting_out t g skipped members in
          let is_next = next_of home w a t i.0 t (later_same t) g skipped n members request cut comes in
          completing_seen left (all_parted_seen t i.1 g (is_put_out t g skipped members)) g n members request cut
          (passing_above (sites_at home w a t) home a t g skipped n members request cut is_next (own_holds home w a t i.0))),
    );
    homes = λ t g what i may. (k.homes t g what i.0 may, i.1);
  }
