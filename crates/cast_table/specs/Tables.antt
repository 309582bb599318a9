-- What events do to a table of domains: each alone, and one after another.
use Rattle.std.specs.Prelude.{◌≡◌, ◌≢◌, ◌==◌, nat_eq, nat_le, nat_lt, if◌then◌else◌, ℕ}
use Rattle.std.specs.Prelude.{Bool, true, false, List, [], ◌∷◌, ◌++◌, length, Option, Some}
use Rattle.std.specs.Prelude.{None, unwrap_or, Result, Ok, Err, slice_get, slice_set}
use Rattle.std.specs.Option.{option_to_list}
use Rattle.std.specs.List.{find, list_any, list_all, position_from}
use Rattle.indexmap.specs.IndexMap.{IndexMap, get as place_at}
use Rattle.cast_types.specs.declared.names.DomainNo.{DomainNo}
use Rattle.cast_types.specs.declared.names.SiteNo.{SiteNo}
use Rattle.cast_types.specs.declared.refusal.Refusal.TheVariants as refusal
use Rattle.cast_types.specs.Names.{group_cmp}
use Rattle.cast_types.specs.Rising.{is_rising}
use Rattle.cast_events.specs.declared.config.DomainConfig.{DomainConfig}
use Rattle.cast_domain.specs.declared.domain.Domain.{Domain}
use Rattle.cast_events.specs.declared.event.Event.{Event}
use Rattle.cast_events.specs.declared.event.Outs.{Outs}
use Rattle.cast_events.specs.declared.event.Taken.{Taken}
use Rattle.cast_events.specs.declared.event.Taken.TheVariants.{Nothing, Refused}
use Rattle.cast_domain.specs.declared.shared.Shared.{Shared}
use Rattle.cast_events.specs.Events.{domain_of}
use Rattle.cast_domain.specs.Records.{number_of, is_halted, IsFor}
use Rattle.cast_domain.specs.Shared.{Part, part_of, no_part, LeavesOthers}
use Rattle.cast_rules.specs.State.{opening}
use Rattle.cast_domain.specs.Fits.{Represents}
use Rattle.cast_domain.specs.Stepped.{IsEmptied, IsStepped}
use Rattle.cast_events.specs.declared.log.Fault.{Fault}
use Rattle.cast_events.specs.declared.log.Fault.TheVariants.{NoMemory, Halted, NoDomain}
use Rattle.cast_table.specs.declared.table.Table.{Table}

abbrev pub domain_eq : DomainNo → DomainNo → Bool
domain_eq d e = d.0 == e.0

-- the domains of a table, in order
abbrev pub domains_of : Table → List Domain
domains_of table = table.domains

-- what they share
abbrev pub shared_of : Table → Shared
shared_of table = table.shared

-- In order of number

-- a domain with others that stand behind it in the configuration: before the first whose number is
-- not below its own
abbrev pub put_in : DomainConfig → List DomainConfig → List DomainConfig
put_in c [] = c ∷ []
put_in c (x ∷ configs) =
    if nat_le c.domain.0 x.domain.0 then c ∷ x ∷ configs else x ∷ put_in c configs

-- domains by their numbers; those of one number stay in their order
abbrev pub by_number : List DomainConfig → List DomainConfig
by_number [] = []
by_number (c ∷ configs) = put_in c (by_number configs)

-- where the first domain stands whose number is above
abbrev pub place_above : DomainNo → List Domain → Option ℕ
place_above n domains = position_from (λ d. nat_lt n.0 (number_of d).0) 0 domains

-- where a domain of a number is put in: before that one, or behind all
abbrev pub place_for : DomainNo → List Domain → ℕ
place_for n domains = unwrap_or (place_above n domains) (length domains)

-- the domains without the first of a number
abbrev pub without : DomainNo → List Domain → List Domain
without n [] = []
without n (d ∷ domains) = if domain_eq (number_of d) n then domains else d ∷ without n domains

-- for each of these configurations the first domain of its number that is left
abbrev pub pick_domains : List DomainConfig → List Domain → List Domain
pick_domains [] domains = []
pick_domains (c ∷ configs) domains =
    option_to_list (find (λ d. domain_eq (number_of d) c.domain) domains)
    ++ pick_domains configs (without c.domain domains)

-- Domains, and what they are lent

-- where the first domain of a number stands
abbrev pub place_named : DomainNo → List Domain → Option ℕ
place_named number domains = position_from (λ d. domain_eq (number_of d) number) 0 domains

-- each number is kept with the place of its first domain
abbrev pub ArePlaces : {S : Type 0} → IndexMap ℕ ℕ S → List Domain → Type 0
ArePlaces places domains =
    (number : DomainNo) → place_at nat_eq places number.0 ≡ place_named number domains

-- nothing of any domain is among what is shared
abbrev pub SharesNothing : Table → Type 0
SharesNothing table = (d : DomainNo) → part_of d table.shared ≡ no_part

-- a domain of this configuration at this site, before its first event
pub record IsNew (here : SiteNo) (config : DomainConfig) (d : Domain) : Type 0 where
  pub number : number_of d ≡ config.domain
  pub running : is_halted d ≡ false
  pub placed : IsFor here config d
  pub begins : is_rising group_cmp config.groups ≡ true → Represents d no_part (opening here config)

-- what domains are lent for their steps: what they share, and where they add what they send,
-- deliver and push
pub record Lent : Type 0 where
  pub shared : Shared
  pub outs : Outs

abbrev pub lent_of : Table → Outs → Lent
lent_of table outs = record { shared = table.shared; outs = outs }

-- the same where the halted domains are noted apart
abbrev pub lending : Shared → Outs → List DomainNo → Lent
lending shared outs halted = record { shared = shared; outs = record outs { halted = halted } }

-- a relation of what is lent before and after, where the halted domains are noted apart
abbrev pub OnLent : (Lent → Lent → Type 0) → Shared → Outs → List DomainNo → Shared → Outs
    → List DomainNo → Type 0
OnLent Related shared before halted later after more =
    Related (lending shared before halted) (lending later after more)

-- and of a table's domains and what these are lent
abbrev pub InTable : (List Domain → List Domain → Lent → Lent → Type 0) → Table → Outs → Table
    → Outs → Type 0
InTable Related old before new after =
    Related (domains_of old) (domains_of new) (lent_of old before) (lent_of new after)

-- the part of a domain in what is lent
abbrev pub part_in : Lent → Domain → Part
part_in l d = part_of (number_of d) l.shared

-- a domain answers an event: it makes its step, or, where it is halted, refuses and is left as it
-- is
pub record IsTaken (old : Domain) (event : Event) (taken : Taken) (new : Domain) (before : Lent)
    (after : Lent) : Type 0 where
  pub number : number_of new ≡ number_of old
  pub halted : is_halted new ≡ is_halted old
  pub steps : is_halted old ≡ false → IsStepped old (part_in before old)
      event taken new (part_in after old) before.outs after.outs
  pub refuses : is_halted old ≡ true
      → (taken ≡ Refused refusal.Halted) × (new ≡ old) × (after ≡ before)
  pub others : LeavesOthers (number_of old) before.shared after.shared

-- a domain finds no memory in its step: it is halted, emptied and noted, nothing is sent, delivered
-- or pushed, and of what is shared nothing is left to it
pub record IsHalting (old : Domain) (new : Domain) (before : Lent) (after : Lent) : Type 0 where
  pub number : number_of new ≡ number_of old
  pub ran : is_halted old ≡ false
  pub stops : is_halted new ≡ true
  pub emptied : IsEmptied new
  pub outs : after.outs ≡ record (before.outs) { halted = before.outs.halted ++ number_of old ∷ [] }
  pub leaves : part_of (number_of old) after.shared ≡ no_part
  pub others : LeavesOthers (number_of old) before.shared after.shared

-- what an event does to a domain whose turn it is
abbrev pub IsTurn : Result Taken Fault → Event → Domain → Domain → Lent → Lent → Type 0
IsTurn (Ok taken) event old new before after = IsTaken old event taken new before after
IsTurn (Err NoMemory) event old new before after = (new ≡ old) × (after ≡ before)
IsTurn (Err (Halted d)) event old new before after =
    (d ≡ number_of old) × IsHalting old new before after
IsTurn (Err NoDomain) event old new before after = ⊥

-- An event that names a domain

-- one domain takes an event, and every other domain stays as it is
pub record IsTurnAt (place : ℕ) (answer : Result Taken Fault) (event : Event) (old : List Domain)
    (new : List Domain) (before : Lent) (after : Lent) : Type 0 where
  pub domain : Domain
  pub next : Domain
  pub stands : slice_get old place ≡ Some domain
  pub others : new ≡ slice_set old place next
  pub turn : IsTurn answer event domain next before after

-- what an event does where the domain that it names stands here, or nowhere
abbrev pub IsAppliedAt : Option ℕ → Result Taken Fault → Event → List Domain → List Domain → Lent
    → Lent → Type 0
IsAppliedAt None answer event old new before after =
    (answer ≡ Err NoDomain) × (new ≡ old) × (after ≡ before)
IsAppliedAt (Some place) answer event old new before after =
    IsTurnAt place answer event old new before after

-- A tick

-- what a domain answers in its turn, by whether it was halted and whether it is now
abbrev pub answer_in_turn : Domain → Domain → Result Taken Fault
answer_in_turn old new =
    if is_halted old then Ok (Refused refusal.Halted)
    else if is_halted new then Err (Halted (number_of old)) else Ok Nothing

-- each domain takes the event in its turn, with what the ones before it left of what is lent
abbrev pub AreTurns : Event → List Domain → List Domain → Lent → Lent → Type 0
AreTurns event [] [] before after = after ≡ before
AreTurns event [] (new ∷ news) before after = ⊥
AreTurns event (old ∷ olds) [] before after = ⊥
AreTurns event (old ∷ olds) (new ∷ news) before after =
    (between : Lent)
    × IsTurn (answer_in_turn old new) event old new before between
    × AreTurns event olds news between after

-- the domain that a turn halted
abbrev pub halted_by : Result Taken Fault → List DomainNo
halted_by (Ok taken) = []
halted_by (Err NoMemory) = []
halted_by (Err (Halted d)) = d ∷ []
halted_by (Err NoDomain) = []

-- the domains that were halted in their turns, in order
abbrev pub halted_in_turn : List Domain → List Domain → List DomainNo
halted_in_turn [] news = []
halted_in_turn (old ∷ olds) [] = []
halted_in_turn (old ∷ olds) (new ∷ news) =
    halted_by (answer_in_turn old new) ++ halted_in_turn olds news

-- the lower of two numbers, where the first is there
abbrev pub lower : Option DomainNo → DomainNo → DomainNo
lower None d = d
lower (Some e) d = if nat_le e.0 d.0 then e else d

-- a number is one of these, and none of them is below it
pub record IsLeast (d : DomainNo) (numbers : List DomainNo) : Type 0 where
  pub among : list_any (domain_eq d) numbers ≡ true
  pub lowest : list_all (λ e. nat_le d.0 e.0) numbers ≡ true

-- the least of these, if there is any
abbrev pub IsLeastOf : Option DomainNo → List DomainNo → Type 0
IsLeastOf None numbers = numbers ≡ []
IsLeastOf (Some d) numbers = IsLeast d numbers

-- what a tick does to domains: all take it in turn, and the answer tells the least number of those
-- that it halted
abbrev pub IsTicked : Result Taken Fault → Event → List Domain → List Domain → Lent → Lent → Type 0
IsTicked (Ok taken) event old new before after =
    (taken ≡ Nothing)
    × IsLeastOf None (halted_in_turn old new)
    × AreTurns event old new before after
IsTicked (Err NoMemory) event old new before after = (new ≡ old) × (after ≡ before)
IsTicked (Err (Halted d)) event old new before after =
    IsLeastOf (Some d) (halted_in_turn old new) × AreTurns event old new before after
IsTicked (Err NoDomain) event old new before after = ⊥

-- Any event

-- the first domain of the number that the event names takes it, or all take it in turn
abbrev pub IsAppliedTo : Option DomainNo → Result Taken Fault → Event → List Domain → List Domain
    → Lent → Lent → Type 0
IsAppliedTo None answer event old new before after = IsTicked answer event old new before after
IsAppliedTo (Some d) answer event old new before after =
    IsAppliedAt (place_named d old) answer event old new before after

-- what an event does to domains
abbrev pub IsApplied : Result Taken Fault → Event → List Domain → List Domain → Lent → Lent → Type 0
IsApplied answer event old new before after =
    IsAppliedTo (domain_of event) answer event old new before after

-- nothing is changed where no domain is named, or where there is no memory to begin with
abbrev pub IsUnchanged : Result Taken Fault → Table → Table → Outs → Outs → Type 0
IsUnchanged (Ok taken) old new before after = Unit {0}
IsUnchanged (Err NoMemory) old new before after = (new ≡ old) × (after ≡ before)
IsUnchanged (Err (Halted d)) old new before after = Unit {0}
IsUnchanged (Err NoDomain) old new before after = (new ≡ old) × (after ≡ before)

-- the domain that is named is noted as halted exactly where its step halts it
abbrev pub NotesOne : Result Taken Fault → DomainNo → List DomainNo → List DomainNo → Type 0
NotesOne (Ok taken) named before after = after ≡ before
NotesOne (Err NoMemory) named before after = after ≡ before
NotesOne (Err (Halted d)) named before after = (d ≡ named) × (after ≡ before ++ d ∷ [])
NotesOne (Err NoDomain) named before after = after ≡ before

-- and at a tick each domain whose step halts it
abbrev pub NotesHaltsOf : Option DomainNo → Result Taken Fault → List Domain → List Domain
    → List DomainNo → List DomainNo → Type 0
NotesHaltsOf None answer old new before after = after ≡ before ++ halted_in_turn old new
NotesHaltsOf (Some d) answer old new before after = NotesOne answer d before after

-- domains are noted as halted exactly where their steps halt them
abbrev pub NotesHalts : Result Taken Fault → Event → List Domain → List Domain → List DomainNo
    → List DomainNo → Type 0
NotesHalts answer event old new before after =
    NotesHaltsOf (domain_of event) answer old new before after

-- Events one after another

-- what events do to domains, where each finds memory to begin with
abbrev pub AreApplied : List (Result Taken Fault) → List Event → List Domain → List Domain → Lent
    → Lent → Type 0
AreApplied [] [] old new before after = (new ≡ old) × (after ≡ before)
AreApplied [] (e ∷ events) old new before after = ⊥
AreApplied (a ∷ answers) [] old new before after = ⊥
AreApplied (a ∷ answers) (e ∷ events) old new before after =
    (a ≢ Err NoMemory)
    × (middle : List Domain)
    × (between : Lent)
    × IsApplied a e old middle before between
    × AreApplied answers events middle new between after
