-- A domain's records as contracts see them: lists and what the queue keeps.
use Rattle.std.specs.Prelude.{◌≡◌, ℕ, Bool, false, List, Option}
use Rattle.cast_types.specs.declared.names.DomainNo.{DomainNo}
use Rattle.cast_types.specs.declared.names.SiteNo.{SiteNo}
use Rattle.cast_types.specs.declared.names.Proc.{Proc}
use Rattle.cast_types.specs.declared.names.Uid.{Uid}
use Rattle.cast_types.specs.declared.refusal.Refusal.{Refusal}
use Rattle.cast_types.specs.Counts.{CountList}
use Rattle.cast_message.specs.declared.site.SiteFrame.{SiteFrame}
use Rattle.cast_delay.specs.Queue.{Queue}
use Rattle.cast_stable.specs.Acks.{Acks}
use Rattle.cast_order.specs.Log.{Log}
use Rattle.cast_events.specs.declared.config.DomainConfig.{DomainConfig}
use Rattle.cast_rules.specs.Rules.Leaving.{Attempt}
use Rattle.cast_domain.specs.declared.domain.Domain.{Domain}
use Rattle.cast_domain.specs.declared.record.GroupRecord.{GroupRecord}
use Rattle.cast_domain.specs.GivenSessions.{SessionRecord}
use Rattle.cast_quota.specs.declared.quotas.Quotas.{Quotas}
use Rattle.cast_message.specs.declared.client.Push.{Push}
use Rattle.cast_events.specs.declared.event.Outs.{Outs}
use Rattle.cast_domain.specs.declared.lent.Lent.{Lent}
use Rattle.cast_events.specs.Outs.{no_outs}
use Rattle.cast_domain.specs.declared.shared.Shared.{Shared}
use Rattle.cast_domain.specs.Shared.{Part, no_part, part_of, LeavesOthers}

-- what a domain keeps, and what a step has sent, delivered and pushed so far
pub record Records : Type 0 where
  pub site : SiteNo
  pub config : DomainConfig
  pub quotas : Quotas
  pub used : ℕ
  pub sessions : List SessionRecord
  pub groups : List GroupRecord
  pub moment : ℕ
  pub casts : ℕ
  pub part : Part
  pub delay : Queue
  pub acks : Acks
  pub orders : List Log
  pub frames : List (DomainNo × SiteNo × SiteFrame)
  pub delivered : List (DomainNo × Proc × Uid)
  pub pushed : List (DomainNo × ℕ × Push)

-- a domain with its part of what is shared
abbrev pub records_of : Domain → Part → Outs → Records
records_of d part o =
    record {
      site = d.site;
      config = d.config;
      quotas = d.quotas;
      used = d.sessions.used;
      sessions = d.sessions.records;
      groups = d.groups.items;
      moment = d.moment;
      casts = d.casts;
      part = part;
      delay = d.delay;
      acks = d.acks;
      orders = d.orders;
      frames = o.frames;
      delivered = o.delivered;
      pushed = o.pushed;
    }

-- beside all that is shared, and what a step has sent
abbrev pub records_beside : Domain → Shared → Outs → Records
records_beside d shared o = records_of d (part_of d.config.domain shared) o

-- with what it is lent
abbrev pub records_in : Domain → Lent → Records
records_in d lent = records_beside d lent.shared.now lent.outs.now

-- what it keeps itself: without a part, and before anything is sent
abbrev pub own_records : Domain → Records
own_records d = records_of d no_part no_outs

abbrev pub number_of : Domain → DomainNo
number_of d = d.config.domain

-- what it may use now
abbrev pub quotas_of : Domain → Quotas
quotas_of d = d.quotas

-- want of memory has halted the domain
abbrev pub is_halted : Domain → Bool
is_halted d = d.halted

-- a domain of this configuration at this site
abbrev pub IsFor : SiteNo → DomainConfig → Domain → Type 0
IsFor site config d = (d.site ≡ site) × (d.config ≡ config)

-- no serial is given, and site and configuration stay, and what has halted the domain or not
pub record Keeps (old : Domain) (new : Domain) : Type 0 where
  pub used : new.sessions.used ≡ old.sessions.used
  pub site : new.site ≡ old.site
  pub config : new.config ≡ old.config
  pub halted : new.halted ≡ old.halted

-- the same is lent as before, and of what is shared the parts of all domains but one stay as they
-- are
pub record GivesBack (d : DomainNo) (old : Lent) (new : Lent) : Type 0 where
  pub others : LeavesOthers d old.shared.now new.shared.now
  pub shared : new.shared.ghost_name ≡ old.shared.ghost_name
  pub outs : new.outs.ghost_name ≡ old.outs.ghost_name

-- a domain keeps what is its own, and gives back what it is lent
pub record KeepsBeside (old : Domain) (lent : Lent) (new : Domain) (later : Lent) : Type 0 where
  pub same : Keeps old new
  pub back : GivesBack old.config.domain lent later

-- What a call makes of the records, by the rule that it follows

abbrev pub Makes : (Records → Records) → Domain → Lent → Domain → Lent → Type 0
Makes rule old lent new later = records_in new later ≡ rule (records_in old lent)

-- by a rule that names the cut of an Install, whatever that is
abbrev pub MakesAtAnyCut : (Records → CountList → Records) → Domain → Lent → Domain → Lent → Type 0
MakesAtAnyCut rule old lent new later =
    (cut : CountList) → records_in new later ≡ rule (records_in old lent) cut

-- a call of the domain alone, whatever its part is and was sent
abbrev pub MakesAlone : (Records → Records) → Domain → Domain → Type 0
MakesAlone rule old new =
    (o : Outs) (part : Part) → records_of new part o ≡ rule (records_of old part o)

-- and one that sends or delivers, whatever the domain's part is
abbrev pub MakesWithOuts : (Records → Records) → Domain → Outs → Domain → Outs → Type 0
MakesWithOuts rule old before new after =
    (part : Part) → records_of new part after ≡ rule (records_of old part before)

-- where a call tells that nothing changed, nothing did
abbrev pub StaysUnless : Domain → Lent → Domain → Lent → Bool → Type 0
StaysUnless old lent new later changed =
    changed ≡ false → records_in new later ≡ records_in old lent

-- what the domain alone answers of its records, whatever its part is and was sent
abbrev pub TellsAlone : {A : Type 0} → (Records → A) → Domain → A → Type 0
TellsAlone answer d x = (o : Outs) (part : Part) → x ≡ answer (records_of d part o)

-- a call led to these records, with this refusal or none
abbrev pub IsAttempt : Records → Attempt Records → Option Refusal → Type 0
IsAttempt r attempt refusal = (r, refusal) ≡ attempt

-- by the rule of what may be refused
abbrev pub Attempts : (Records → Attempt Records) → Domain → Lent → Domain → Lent
    → Option Refusal → Type 0
Attempts rule old lent new later refusal =
    IsAttempt (records_in new later) (rule (records_in old lent)) refusal
