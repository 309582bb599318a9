-- Each primitive move of a site keeps to what the site told, and keeps what holds of flushes there.
use Rattle.std.proofs.Common.{ap, arith, inl, inr, subst, sym, ◌∙◌}
use Rattle.std.proofs.lemmas.Bool.{true≢false}
use Rattle.std.proofs.lemmas.List.Elements.{Contains-append_left, Contains-push, Contains-push_cases}
use Rattle.std.specs.Prelude.{◌+◌, ◌++◌, ◌<◌, Bool, Contains, IsTrue, List, [], false, if◌then◌else◌, true, ℕ, ◌∷◌, ◌≡◌, ◌≤◌, ◌⊎◌}
use Rattle.cast_ready.specs.Ready.{is_member}
use Rattle.cast_rules.specs.Acts.{Act}
use Rattle.cast_rules.specs.Acts.Act.{Delivered, Entered, Left, Sent}
use Rattle.cast_rules.specs.Entering.{all_parted, enters, is_put_out, passing, putting_out}
use Rattle.cast_rules.specs.State.{State, noting_act, noting_sent, outside, receiving, set_group, with_delivery}
use Rattle.cast_message.specs.Membership.{Membership}
use Rattle.cast_message.specs.declared.message.Message.{Message}
use Rattle.cast_types.specs.Counts.{CountList, is_within}
use Rattle.cast_types.specs.Names.{entry_of, group_eq}
use Rattle.cast_types.specs.Sets.{set_at}
use Rattle.cast_types.specs.declared.names.GroupNo.{GroupNo}
use Rattle.cast_types.specs.declared.names.SiteNo.{SiteNo}
use Rattle.cast_types.specs.declared.names.Standing.{Standing}
use Rattle.cast_types.specs.declared.names.Standing.TheVariants.{Member}
use Rattle.cast_types.specs.declared.names.Uid.{Uid}
use Rattle.cast_view.specs.MemberSide.{MemberSide, members_of, with_view}
use Rattle.cast_world.proofs.Acts.{sent_left}
use Rattle.cast_world.proofs.Entries.{delivery_sends_none, passing_sends_none}
use Rattle.cast_world.proofs.Flush.{Choice, CutWell, IsMembers, OneAgrees, Told}
use Rattle.cast_world.proofs.Laters.{set_all, set_group_all}
use Rattle.cast_world.proofs.Lists.{before_delivered, before_entered, before_left, before_sent, each_more}
use Rattle.cast_world.proofs.Lists.{entered_same, entry_delivered, entry_left, entry_sent, same_cut, sent_same}

-- what a process delivered before some were put out it delivered
pub parted_old : (s : State) (g : GroupNo) (goes : ℕ → Bool) (k : ℕ) (m : Message) → Contains ((all_parted s g goes).acts k) (Delivered m) →
    Contains (s.acts k) (Delivered m)
parted_old s g goes k m at = go (goes k) at
  where
    go : (b : Bool) → Contains (if b then s.acts k ++ Left g ∷ [] else s.acts k) (Delivered m) → Contains (s.acts k) (Delivered m)
    go true c = before_left (s.acts k) g m c
    go false c = c

pub parted_sent : (s : State) (g : GroupNo) (goes : ℕ → Bool) (k : ℕ) (m : Message) → Contains ((all_parted s g goes).acts k) (Sent m) →
    Contains (s.acts k) (Sent m)
parted_sent s g goes k m at = go (goes k) at
  where
    go : (b : Bool) → Contains (if b then s.acts k ++ Left g ∷ [] else s.acts k) (Sent m) → Contains (s.acts k) (Sent m)
    go true c = sent_left (s.acts k) g m c
    go false c = c

-- A site keeps to what it told

-- numbers do not fall, a frozen group stays so in its view, what is delivered in it is within the cut, and nothing is sent in it
pub record Flows (choice : Choice) (number : GroupNo → ℕ) (group next : GroupNo → MemberSide) (acts more : ℕ → List Act) : Type 0 where
  pub reached : (g : GroupNo) → (group g).number ≤ (next g).number
  pub frozen : (g : GroupNo) → (next g).number ≡ (group g).number → (group g).frozen ≡ true → (next g).frozen ≡ true
  pub delivers : (k : ℕ) (m : Message) → Contains (more k) (Delivered m) → Contains (acts k) (Delivered m)
      ⊎ (((group m.id.group).number ≡ m.id.view)
      × ((group m.id.group).frozen ≡ true → (m.id.view < number m.id.group)
      × IsTrue (is_within (choice m.id.group (m.id.view + 1)).cut (entry_of m.id))))
  pub sends : (k : ℕ) (m : Message) → Contains (more k) (Sent m) → Contains (acts k) (Sent m)
      ⊎ (((group m.id.group).number ≡ m.id.view) × ((group m.id.group).frozen ≡ false))

abbrev pub FlowsTo : Choice → (GroupNo → ℕ) → State → State → Type 0
FlowsTo choice number s t = Flows choice number s.group t.group s.acts t.acts

pub told_flows : (choice : Choice) (number : GroupNo → ℕ) (s t : State) → FlowsTo choice number s t →
    (g : GroupNo) (view : ℕ) (counts : CountList) → Told choice number s g view counts → Told choice number t g view counts
told_flows choice number s t f g view counts told = record {
  reached = (let up = f.reached g in let was = told.reached in omega (arith, up, was));
  frozen = λ e.
      let up = f.reached g in
      let was = told.reached in
      let same : (s.group g).number ≡ view = omega (arith, up, was, e) in
      f.frozen g (omega (arith, e, same)) (told.frozen same);
  within = λ k m at group in_view. elim (f.delivers k m at) [
    | inl old ↦ told.within k m old group in_view
    | inr new ↦
        let now : (s.group g).number ≡ view = ap (λ x. (s.group x).number) (sym group) ∙ new.0 ∙ in_view in
        let cut = new.1 (ap (λ x. (s.group x).frozen) group ∙ told.frozen now) in
        inr (
          subst (λ x. view < number x) group (subst (λ v. v < number m.id.group) in_view cut.0),
          subst (λ x. IsTrue (is_within (choice x (view + 1)).cut (entry_of m.id)))
              group (subst (λ v. IsTrue (is_within (choice m.id.group (v + 1)).cut (entry_of m.id))) in_view cut.1),
        )
  ];
  sent = λ k m at group in_view. elim (f.sends k m at) [
    | inl old ↦ told.sent k m old group in_view
    | inr new ↦
        let now : (s.group g).number ≡ view = ap (λ x. (s.group x).number) (sym group) ∙ new.0 ∙ in_view in
        absurd (true≢false (sym (ap (λ x. (s.group x).frozen) group ∙ told.frozen now) ∙ new.1))
  ];
}

module _ (choice : Choice) (number : GroupNo → ℕ) where
  pub flows_same : (s : State) → FlowsTo choice number s s
  flows_same s = record { reached = λ g. omega arith; frozen = λ g e f. f; delivers = λ k m at. inl at; sends = λ k m at. inl at }

  pub flows_part : (s : State) (k : ℕ) (g : GroupNo) → FlowsTo choice number s (outside s k g)
  flows_part s k g = go (is_member ((s.process k).standing g))
    where
      go : (b : Bool) → Flows choice number s.group s.group s.acts (if b then (noting_act s k (Left g)).acts else s.acts)
      go true = record {
        reached = λ h. omega arith;
        frozen = λ h e f. f;
        delivers = λ j m at. inl
            (set_all (λ i (x : List Act). (y : Message) → Contains x (Delivered y) → Contains (s.acts i) (Delivered y))
            s.acts k (s.acts k ++ Left g ∷ []) (λ i y c. c) (λ y c. before_left (s.acts k) g y c) j m at);
        sends = λ j m at. inl
            (set_all (λ i (x : List Act). (y : Message) → Contains x (Sent y) → Contains (s.acts i) (Sent y))
            s.acts k (s.acts k ++ Left g ∷ []) (λ i y c. c) (λ y c. sent_left (s.acts k) g y c) j m at);
      }
      go false = flows_same s

  pub flows_sent : (s : State) (k : ℕ) (m : Message) → (s.group m.id.group).number ≡ m.id.view → (s.group m.id.group).frozen ≡ false →
      FlowsTo choice number s (receiving (noting_sent s k m) m)
  flows_sent s k m view open_it = record {
    reached = λ g. omega arith;
    frozen = λ g e f. f;
    delivers = λ j y at. inl
        (set_all (λ i (x : List Act). (z : Message) → Contains x (Delivered z) → Contains (s.acts i) (Delivered z))
        s.acts k (s.acts k ++ Sent m ∷ []) (λ i z c. c) (λ z c. before_sent (s.acts k) m z c) j y at);
    sends = set_all (λ j (x : List Act). (y : Message) → Contains x (Sent y) → Contains (s.acts j) (Sent y)
        ⊎ (((s.group y.id.group).number ≡ y.id.view) × ((s.group y.id.group).frozen ≡ false)))
        s.acts k (s.acts k ++ Sent m ∷ []) (λ j y at. inl at)
        (λ y at. elim (Contains-push_cases (s.acts k) (Sent m) (Sent y) at) [
          | inl old ↦ inl old
          | inr new ↦ inr (subst (λ (z : Message). ((s.group z.id.group).number ≡ z.id.view) × ((s.group z.id.group).frozen ≡ false))
              (sent_same m y new) (view, open_it))
        ]);
  }

  pub flows_delivered : (s : State) (k : ℕ) (m : Message) → (s.group m.id.group).number ≡ m.id.view →
      ((s.group m.id.group).frozen ≡ true →
      (m.id.view < number m.id.group) × IsTrue (is_within (choice m.id.group (m.id.view + 1)).cut (entry_of m.id))) →
      FlowsTo choice number s (with_delivery s k m)
  flows_delivered s k m view cut = record {
    reached = λ g. omega arith;
    frozen = λ g e f. f;
    delivers = set_all (λ j (x : List Act). (y : Message) → Contains x (Delivered y) → Contains (s.acts j) (Delivered y)
        ⊎ (((s.group y.id.group).number ≡ y.id.view)
        × ((s.group y.id.group).frozen ≡ true → (y.id.view < number y.id.group)
        × IsTrue (is_within (choice y.id.group (y.id.view + 1)).cut (entry_of y.id)))))
        s.acts k (s.acts k ++ Delivered m ∷ []) (λ j y at. inl at)
        (λ y at. elim (before_delivered (s.acts k) m y at) [
          | inl old ↦ inl old
          | inr new ↦ inr (subst (λ (z : Message). ((s.group z.id.group).number ≡ z.id.view)
              × ((s.group z.id.group).frozen ≡ true → (z.id.view < number z.id.group)
              × IsTrue (is_within (choice z.id.group (z.id.view + 1)).cut (entry_of z.id)))) new (view, cut))
        ]);
    sends = λ j y at. inl (delivery_sends_none s k m j y at);
  }

  pub flows_group : (s : State) (g : GroupNo) (v : MemberSide) → v.number ≡ (s.group g).number →
      ((s.group g).frozen ≡ true → v.frozen ≡ true) → FlowsTo choice number s (set_group s g v)
  flows_group s g v same frozen = record {
    reached = set_group_all (λ h (x : MemberSide). (s.group h).number ≤ x.number) s.group g v (λ h. omega arith) (omega (arith, same));
    frozen = set_group_all (λ h (x : MemberSide). x.number ≡ (s.group h).number → (s.group h).frozen ≡ true → x.frozen ≡ true)
        s.group g v (λ h e f. f) (λ e f. frozen f);
    delivers = λ k m at. inl at;
    sends = λ k m at. inl at;
  }

  -- a group's number goes up, or it was not frozen
  module _ (s : State) (g : GroupNo) (v : MemberSide) (up : (s.group g).number ≤ v.number)
      (free : v.number ≡ (s.group g).number → (s.group g).frozen ≡ true → ⊥) where
    ended_reached : (h : GroupNo) → (s.group h).number ≤ (set_at group_eq s.group g v h).number
    ended_reached = set_group_all (λ h (x : MemberSide). (s.group h).number ≤ x.number) s.group g v (λ h. omega arith) up

    ended_frozen : (h : GroupNo) → (set_at group_eq s.group g v h).number ≡ (s.group h).number → (s.group h).frozen ≡ true →
        (set_at group_eq s.group g v h).frozen ≡ true
    ended_frozen =
        set_group_all (λ h (x : MemberSide). x.number ≡ (s.group h).number → (s.group h).frozen ≡ true → x.frozen ≡ true)
        s.group g v (λ h e f. f) (λ e f. absurd (free e f))

  -- a site passes to a later view
  pub flows_passing : (s : State) (g : GroupNo) (skipped : Bool) (n : ℕ) (members : Membership) (request : ℕ) (cut : CountList) →
      (s.group g).number < n → FlowsTo choice number s (passing s g skipped n members request cut)
  flows_passing s g skipped n members request cut up = record {
    reached = ended_reached s g (with_view s.here n members (s.group g)) (omega (arith, up)) (λ e f. omega (arith, up, e));
    frozen = ended_frozen s g (with_view s.here n members (s.group g)) (omega (arith, up)) (λ e f. omega (arith, up, e));
    delivers = λ k m at. inl
        (parted_old s g (is_put_out s g skipped members) k m (old k m (enters (putting_out s g skipped members) g members request k) at));
    sends = λ k m at. inl (passing_sends_none s g skipped n members request cut k m at);
  }
    where
      old : (k : ℕ) (m : Message) (b : Bool) → Contains (if b then (putting_out s g skipped members).acts k ++ Entered g n cut ∷ []
          else (putting_out s g skipped members).acts k) (Delivered m) →
          Contains ((putting_out s g skipped members).acts k) (Delivered m)
      old k m true at = before_entered ((putting_out s g skipped members).acts k) g n cut m at
      old k m false at = at

-- One process

module _ (choice : Choice) (number : GroupNo → ℕ) (here : SiteNo) (used : ℕ) (group : GroupNo → MemberSide) (k : ℕ)
    (standing : GroupNo → Standing) (delivered : List Uid) (acts : List Act)
    (o : OneAgrees choice number here used group k standing delivered acts) where
  abbrev Next : (GroupNo → MemberSide) → (GroupNo → Standing) → List Uid → List Act → Type 0
  Next next st us more = OneAgrees choice number here used next k st us more

  -- standings that are as they were, or none, and groups whose members are the same
  pub agree_less : (next : GroupNo → MemberSide) (st : GroupNo → Standing) →
      ((g : GroupNo) → st g ≡ Member → (standing g ≡ Member) × (members_of (next g) ≡ members_of (group g))) → Next next st delivered acts
  agree_less next st less = record {
    listed = λ g is. let was = less g is in subst (λ xs. Contains xs (record { site = here; serial = k })) (sym was.1) (o.listed g was.0);
    has = o.has;
    given = o.given;
    sender = o.sender;
    entered = o.entered;
    cuts = o.cuts;
  }

  pub agree_used : (more : ℕ) → used ≤ more → OneAgrees choice number here more group k standing delivered acts
  agree_used more le = record {
    listed = o.listed;
    has = o.has;
    given = λ m at. let was = o.given m at in (was.0, let low = was.1 in omega (arith, low, le));
    sender = o.sender;
    entered = o.entered;
    cuts = o.cuts;
  }

  pub agree_left : (g : GroupNo) → Next group standing delivered (acts ++ Left g ∷ [])
  agree_left g = record {
    listed = o.listed;
    has = λ m at. o.has m (before_left acts g m at);
    given = λ m at. o.given m (before_left acts g m at);
    sender = λ m at. o.sender m (before_left acts g m at);
    entered = λ h n cut at. o.entered h n cut (entry_left acts g h n cut at);
    cuts = each_more CutWell acts (Left g) o.cuts tt;
  }

  pub agree_sent : (m : Message) → Next group standing delivered (acts ++ Sent m ∷ [])
  agree_sent m = record {
    listed = o.listed;
    has = λ y at. o.has y (before_sent acts m y at);
    given = λ y at. o.given y (before_sent acts m y at);
    sender = λ y at. o.sender y (before_sent acts m y at);
    entered = λ h n cut at. o.entered h n cut (entry_sent acts m h n cut at);
    cuts = each_more CutWell acts (Sent m) o.cuts tt;
  }

  pub agree_delivered : (m : Message) → (1 ≤ k) × (k ≤ used) → IsMembers choice number m.id →
      Next group standing (delivered ++ m.id ∷ []) (acts ++ Delivered m ∷ [])
  agree_delivered m given sender = record {
    listed = o.listed;
    has = λ y at. elim (before_delivered acts m y at) [
      | inl old ↦ Contains-append_left delivered (m.id ∷ []) y.id (o.has y old)
      | inr new ↦ subst (λ (z : Message). Contains (delivered ++ m.id ∷ []) z.id) new (Contains-push delivered m.id)
    ];
    given = λ y at. given;
    sender = λ y at. elim (before_delivered acts m y at) [
      | inl old ↦ o.sender y old
      | inr new ↦ subst (λ (z : Message). IsMembers choice number z.id) new sender
    ];
    entered = λ h n cut at. o.entered h n cut (entry_delivered acts m h n cut at);
    cuts = each_more CutWell acts (Delivered m) o.cuts tt;
  }

  pub agree_entered : (g : GroupNo) (n : ℕ) (cut : CountList) → n ≤ number g → cut ≡ (choice g n).cut → CutWell acts (Entered g n cut) →
      Next group standing delivered (acts ++ Entered g n cut ∷ [])
  agree_entered g n cut low same well = record {
    listed = o.listed;
    has = λ y at. o.has y (before_entered acts g n cut y at);
    given = λ y at. o.given y (before_entered acts g n cut y at);
    sender = λ y at. o.sender y (before_entered acts g n cut y at);
    entered = λ h v other at. elim (Contains-push_cases acts (Entered g n cut) (Entered h v other) at) [
      | inl old ↦ o.entered h v other old
      | inr new ↦
          let is = entered_same g h n v cut other new in (
            subst (λ x. v ≤ number x) is.0 (subst (λ y. y ≤ number g) is.1 low),
            sym (same_cut g h n v cut other new) ∙ same ∙ ap (λ x. (choice x n).cut) is.0 ∙ ap (λ y. (choice h y).cut) is.1,
          )
    ];
    cuts = each_more CutWell acts (Entered g n cut) o.cuts well;
  }
