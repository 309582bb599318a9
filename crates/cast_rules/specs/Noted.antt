-- What a history notes of a process is what it did.
use Rattle.std.specs.Prelude.{◌≡◌, ℕ, ◌⊎◌, if◌then◌else◌, List, [], ◌∷◌, filter}
use Rattle.cast_types.specs.declared.names.SiteNo.{SiteNo}
use Rattle.cast_types.specs.declared.names.Uid.{Uid}
use Rattle.cast_types.specs.Names.{proc_eq, is_atomic}
use Rattle.cast_message.specs.declared.message.Message.{Message}
use Rattle.cast_message.specs.Bodies.{kind_of}
use Rattle.cast_events.specs.declared.config.DomainConfig.{DomainConfig}
use Rattle.cast_rules.specs.Acts.{Act}
use Rattle.cast_rules.specs.Acts.Act.{Sent, Delivered, Entered, Left}
use Rattle.cast_rules.specs.State.{State, local}
use Rattle.cast_rules.specs.Raising.{IsPassed}

-- the messages that a process sent, in order
abbrev pub sent_by : List Act → List Message
sent_by [] = []
sent_by (Sent m ∷ acts) = m ∷ sent_by acts
sent_by (Delivered m ∷ acts) = sent_by acts
sent_by (Entered g view cut ∷ acts) = sent_by acts
sent_by (Left g ∷ acts) = sent_by acts

-- the messages that it delivered
abbrev pub delivered_by : List Act → List Uid
delivered_by [] = []
delivered_by (Sent m ∷ acts) = delivered_by acts
delivered_by (Delivered m ∷ acts) = m.id ∷ delivered_by acts
delivered_by (Entered g view cut ∷ acts) = delivered_by acts
delivered_by (Left g ∷ acts) = delivered_by acts

-- the ABCASTs among them
abbrev pub abcasts_by : List Act → List Uid
abcasts_by [] = []
abcasts_by (Sent m ∷ acts) = abcasts_by acts
abcasts_by (Delivered m ∷ acts) =
    if is_atomic (kind_of m.body) then m.id ∷ abcasts_by acts else abcasts_by acts
abcasts_by (Entered g view cut ∷ acts) = abcasts_by acts
abcasts_by (Left g ∷ acts) = abcasts_by acts

-- the items of one list stand in another, in their order
abbrev pub AreWithin : {A : Type 0} → List A → List A → Type 0
AreWithin xs [] = xs ≡ []
AreWithin {A} xs (y ∷ ys) =
    ((rest : List A) × (xs ≡ y ∷ rest) × AreWithin rest ys) ⊎ AreWithin xs ys

-- what each process sent was received here, in that order: beside it stand under its name only
-- messages that a home forwarded here, which the process did not send; and it delivered what it is
-- said to have delivered
pub record IsNoted (s : State) : Type 0 where
  pub sent : (k : ℕ)
      → AreWithin (sent_by (s.acts k)) (filter (λ m. proc_eq m.id.proc (local s k)) s.got)
  pub delivered : (k : ℕ) → (s.process k).delivered ≡ delivered_by (s.acts k)
  pub abcasts : (k : ℕ) → s.abcasts k ≡ abcasts_by (s.acts k)

-- so it is in each state that a history passes
abbrev pub ActsAreNoted : Type 0
ActsAreNoted =
    (here : SiteNo) (config : DomainConfig) (s : State) → IsPassed here config s → IsNoted s
