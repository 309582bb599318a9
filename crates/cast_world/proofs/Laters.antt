-- What others rest on never goes back.
use Rattle.std.proofs.Common.{ap, arith, inl, inr, subst}
use Rattle.std.proofs.lemmas.Bool.{eqb-true}
use Rattle.std.specs.Prelude.{◌+◌, ◌<◌, ◌==◌, Bool, Contains, List, false, if◌then◌else◌, refl, true, ℕ, ◌≡◌, ◌≤◌, ◌⊎◌}
use Rattle.cast_ready.specs.Ready.{Process}
use Rattle.cast_rules.specs.Acts.{Act}
use Rattle.cast_rules.specs.Acts.Act.{Sent}
use Rattle.cast_rules.specs.State.{State}
use Rattle.cast_message.specs.declared.message.Message.{Message}
use Rattle.cast_message.specs.declared.site.SiteFrame.{SiteFrame}
use Rattle.cast_types.specs.Names.{group_eq}
use Rattle.cast_types.specs.Sets.{set_at}
use Rattle.cast_types.specs.declared.names.GroupNo.{GroupNo}
use Rattle.cast_types.specs.declared.names.SiteNo.{SiteNo}
use Rattle.cast_types.specs.declared.names.Standing.TheVariants.{Joining}
use Rattle.cast_view.specs.Home.{Home, answer_in, answer_of}
use Rattle.cast_view.specs.MemberSide.{MemberSide}
use Rattle.cast_world.proofs.Invariants.{Ahead, GroupHolds, Grows, HomeHolds, IsSound, Known, Later, SiteHolds, Sites}
use Rattle.cast_world.proofs.Ones.{ahead_one, further}
use Rattle.cast_message.specs.declared.site.SiteFrame.TheVariants as frame

-- a value that is set at one place: what holds of all and of it, holds of all
pub set_all : {V : Type 0} (P : ℕ → V → Type 0) (f : ℕ → V) (k : ℕ) (v : V) → ((j : ℕ) → P j (f j)) → P k v → (j : ℕ) →
    P j (set_at (λ a b. a == b) f k v j)
set_all {V} P f k v all one j = go (k == j) refl
  where
    go : (b : Bool) → (k == j) ≡ b → P j (if b then v else f j)
    go true e = subst (λ i. P i v) (eqb-true k j e) one
    go false e = all j

pub set_both : {V W : Type 0} (P : ℕ → V → W → Type 0) (f : ℕ → V) (h : ℕ → W) (k : ℕ) (v : V) (w : W) →
    ((j : ℕ) → P j (f j) (h j)) → P k v w →
    (j : ℕ) → P j (set_at (λ a b. a == b) f k v j) (set_at (λ a b. a == b) h k w j)
set_both {V} {W} P f h k v w all one j = go (k == j) refl
  where
    go : (b : Bool) → (k == j) ≡ b → P j (if b then v else f j) (if b then w else h j)
    go true e = subst (λ i. P i v w) (eqb-true k j e) one
    go false e = all j

pub set_group_all : {V : Type 0} (P : GroupNo → V → Type 0) (f : GroupNo → V) (g : GroupNo) (v : V) → ((h : GroupNo) → P h (f h)) → P g v →
    (h : GroupNo) → P h (set_at group_eq f g v h)
set_group_all {V} P f g v all one h = go (group_eq g h) refl
  where
    go : (b : Bool) → group_eq g h ≡ b → P h (if b then v else f h)
    go true e = subst (λ x. P x v) (ap (λ n. record { 0 = n }) (eqb-true g.0 h.0 e)) one
    go false e = all h

-- a state that has others' reasons: acts and numbers only grow, and who is joining was, or asked later than all that was asked
module _ (process new_process : ℕ → Process) (acts new_acts : ℕ → List Act) (group new_group : GroupNo → MemberSide)
    (home new_home : GroupNo → Home)
    (did : (k : ℕ) (x : Act) → Contains (acts k) x → Contains (new_acts k) x)
    (decided : (g : GroupNo) → (home g).number ≤ (new_home g).number)
    (asked : (g : GroupNo) → (group g).asked ≤ (new_group g).asked)
    (joins : (k : ℕ) (g : GroupNo) (number heard : ℕ) → (new_process k).standing g ≡ Joining number heard →
    ((process k).standing g ≡ Joining number heard) ⊎ ((group g).asked < number)) where
  pub grows : Grows process new_process acts new_acts group new_group home new_home
  grows = record {
    did = did;
    decided = decided;
    asked = asked;
    takes = λ g request view t. record {
      asked = let was = t.asked in let up = asked g in omega (arith, was, up);
      above = λ k number heard is le. elim (joins k g number heard is) [
        | inl old ↦ t.above k number heard old le
        | inr new ↦ absurd (let was = t.asked in omega (arith, new, le, was))
      ];
    };
  }

pub later_same : (s : State) → Later s s
later_same s = record { did = λ k x at. at; decided = λ g. omega arith; asked = λ g. omega arith; takes = λ g request view t. t }

-- others' claims at a later moment

module _ (at next : Sites) (home : SiteNo) (ahead : Ahead at next) where
  pub known_later : (m : Message) → Known at home m → Known next home m
  known_later m k = record {
    sent = (ahead m.id.proc.site).did m.id.proc.serial (Sent m) k.sent;
    sorted = k.sorted;
    views = λ g. further at next home g _ ahead (k.views g);
  }

  asked_later : (s : SiteNo) (g : GroupNo) (n : ℕ) → n ≤ ((at s).group g).asked → n ≤ ((next s).group g).asked
  asked_later s g n le = let up = (ahead s).asked g in omega (arith, le, up)

  pub sound_later : (from to : SiteNo) (f : SiteFrame) → IsSound at home from to f → IsSound next home from to f
  sound_later from to (frame.Data m) k = known_later m k
  sound_later from to (frame.Ack u) k = tt
  sound_later from to (frame.Stable u) k = tt
  sound_later from to (frame.Ask g number what p) k = asked_later from g number k
  sound_later from to (frame.Asked g number full) k = tt
  sound_later from to (frame.Prepare g view) k = tt
  sound_later from to (frame.Flushed g view counts tail kept) k = tt
  sound_later from to (frame.Want u) k = tt
  sound_later from to (frame.Forward m) k = known_later m k
  sound_later from to (frame.Install g view members request cut tail) k =
      (further at next home g view ahead k.0, (ahead to).takes g request view k.1)
  sound_later from to (frame.Installed g view) k = tt
  sound_later from to (frame.Out g view) k = further at next home g view ahead k

  group_later : (s : SiteNo) (g : GroupNo) (group : MemberSide) → GroupHolds at home s g group → GroupHolds next home s g group
  group_later s g group k = record {
    number = further at next home g group.number ahead k.number;
    pending = λ p e. let was = k.pending p e in (
      further at next home g (group.number + 1) ahead was.0,
      (ahead s).takes g p.request (group.number + 1) was.1,
    );
    requests = λ a c. asked_later s g a.number (k.requests a c);
  }

  home_later : (g : GroupNo) (h : Home) → HomeHolds at home g h → HomeHolds next home g h
  home_later g h k = record {
    number = further at next home g h.number ahead k.number;
    applied = λ to. asked_later to g (answer_of h to).number (k.applied to);
    installs = λ waiting d bodies e to. (ahead to).takes g (answer_in d.answers to).number h.number (k.installs waiting d bodies e to);
    bodies = λ m c. known_later m (k.bodies m c);
  }

  pub site_later : (s : SiteNo) (t : State) → SiteHolds at home s t → SiteHolds next home s t
  site_later s t x = record {
    here_is = x.here_is;
    home_is = x.home_is;
    opened = x.opened;
    ones = λ k. ahead_one at home t.here t.used t.config.groups t.group k (t.process k) (t.acts k) (x.ones k) next ahead;
    groups = λ g. group_later s g (t.group g) (x.groups g);
    homes = λ g. home_later g (t.home g) (x.homes g);
    received = λ m c. known_later m (x.received m c);
    stored = λ m c. known_later m (x.stored m c);
    sent = λ to f c. sound_later s to f (x.sent to f c);
  }
