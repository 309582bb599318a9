-- Where messages come from: each that has a payload was cast by a command of its process's program.
use Rattle.std.specs.Prelude.{◌++◌, Contains, List, length, ℕ, ◌∷◌, ◌≡◌}
use Rattle.cast_rules.specs.Acts.Act.{Delivered, Sent}
use Rattle.cast_rules.specs.Rules.Commands.{body_of}
use Rattle.cast_message.specs.declared.client.CastKind.{CastKind}
use Rattle.cast_message.specs.declared.client.Command.TheVariants as command
use Rattle.cast_message.specs.declared.client.Request.{Request}
use Rattle.cast_message.specs.declared.client.Request.TheVariants.{Cast}
use Rattle.cast_message.specs.declared.message.Message.{Message}
use Rattle.cast_events.specs.declared.config.DomainConfig.{DomainConfig}
use Rattle.cast_events.specs.declared.event.Event.TheVariants as event
use Rattle.cast_types.specs.declared.names.DomainNo.{DomainNo}
use Rattle.cast_types.specs.declared.names.Proc.{Proc}
use Rattle.cast_types.specs.declared.names.SiteNo.{SiteNo}
use Rattle.cast_world.specs.HappenedBefore.{StandsBefore, acts_of}
use Rattle.cast_world.specs.Laws.{HoldsInEveryNetwork}
use Rattle.cast_world.specs.Network.{Happens, Leads, Network, Reaches, start}
use Rattle.cast_world.specs.declared.step.Happening.TheVariants.{Local}
use Rattle.cast_world.specs.declared.step.Step.{Step}

-- Steps of a run

-- the step of a run that stands behind so many others: those lead to the network before it, it
-- takes that to the network after it, and the steps behind it lead from there to the last one
pub record IsStepOf (sites : List SiteNo) (config : SiteNo → DomainConfig) (steps : List Step)
    (w : Network) (place : ℕ) (before : Network) (step : Step) (after : Network) : Type 0 where
  pub earlier : List Step
  pub later : List Step
  pub stands : steps ≡ earlier ++ step ∷ later
  pub placed : length earlier ≡ place
  pub leads : Leads (start sites config) earlier before
  pub happens : Happens before step after
  pub goes_on : Leads after later w

-- at a step the program of a process asks for something, in this domain
abbrev pub Asks : DomainNo → Proc → Request → Step → Type 0
Asks domain p request step =
    step ≡ record {
      site = p.site;
      what = Local (event.Command domain p.serial (command.Request request));
    }

-- by a step a process sends a message: it is one of the process's acts after the step, and was none
-- before
abbrev pub IsSentBy : Network → Network → Proc → Message → Type 0
IsSentBy before after p m =
    (Contains (acts_of before p) (Sent m) → ⊥) × Contains (acts_of after p) (Sent m)

-- Casts

-- a message was cast at this step of a run: the program of its process asked to cast this payload
-- in its group, and by this step the process sent it, with this payload
pub record WasCastAt (sites : List SiteNo) (config : SiteNo → DomainConfig) (steps : List Step)
    (w : Network) (place : ℕ) (m : Message) (kind : CastKind) (payload : List ℕ) : Type 0 where
  pub before : Network
  pub step : Step
  pub after : Network
  pub in_run : IsStepOf sites config steps w place before step after
  pub tag : ℕ
  pub asked : Asks (config m.id.proc.site).domain m.id.proc (Cast tag m.id.group kind payload) step
  pub sent : IsSentBy before after m.id.proc m
  pub has : m.body ≡ body_of kind payload

-- delivery integrity, from the cast command on: what a process delivers, if it has a payload, was
-- cast
abbrev pub DeliveriesWereCast :
    List SiteNo → (SiteNo → DomainConfig) → List Step → Network → Type 0
DeliveriesWereCast sites config steps w =
    (p : Proc) (m : Message) (kind : CastKind) (payload : List ℕ) →
    Contains (acts_of w p) (Delivered m) → m.body ≡ body_of kind payload →
    (place : ℕ) × WasCastAt sites config steps w place m kind payload

-- and so was what a process sends, which bears the name of the process
abbrev pub SentWereCast : List SiteNo → (SiteNo → DomainConfig) → List Step → Network → Type 0
SentWereCast sites config steps w =
    (p : Proc) (m : Message) (kind : CastKind) (payload : List ℕ) →
    Contains (acts_of w p) (Sent m) → m.body ≡ body_of kind payload →
    (m.id.proc ≡ p) × (place : ℕ) × WasCastAt sites config steps w place m kind payload

-- no two messages were cast at one step
abbrev pub CastsAreApart : List SiteNo → (SiteNo → DomainConfig) → List Step → Network → Type 0
CastsAreApart sites config steps w =
    (place : ℕ) (x y : Message) (kind other : CastKind) (payload rest : List ℕ) →
    WasCastAt sites config steps w place x kind payload →
    WasCastAt sites config steps w place y other rest → x ≡ y

-- no process sends two messages of one id, nor one twice
abbrev pub SendsOnce : Network → Type 0
SendsOnce w =
    (p : Proc) (x y : Message) → StandsBefore (acts_of w p) (Sent x) (Sent y) → x.id ≡ y.id → ⊥

-- The laws, over every list of steps

abbrev pub HoldsInEveryRun :
    (List SiteNo → (SiteNo → DomainConfig) → List Step → Network → Type 0) → Type 0
HoldsInEveryRun law =
    (sites : List SiteNo) (config : SiteNo → DomainConfig) (steps : List Step) (w : Network) →
    Reaches sites config steps w → law sites config steps w

abbrev pub AllDeliveriesWereCast : Type 0
AllDeliveriesWereCast = HoldsInEveryRun DeliveriesWereCast

abbrev pub AllSentWereCast : Type 0
AllSentWereCast = HoldsInEveryRun SentWereCast

abbrev pub AllCastsAreApart : Type 0
AllCastsAreApart = HoldsInEveryRun CastsAreApart

abbrev pub AllSendOnce : Type 0
AllSendOnce = HoldsInEveryNetwork SendsOnce
