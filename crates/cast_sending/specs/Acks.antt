-- Acknowledgements that wait until their messages are delivered.
use Rattle.std.specs.Prelude.{◌≡◌, ◌⊎◌, ◌≤◌, ◌++◌, ◌==◌, ◌&&◌, ℕ, Bool, false, not, List, [], ◌∷◌}
use Rattle.std.specs.Prelude.{Option, Some, None, Contains, MatchBool, filter, length, take}
use Rattle.std.specs.Prelude.{if◌then◌else◌}
use Rattle.std.specs.List.{flat_map, list_any}
use Rattle.std.specs.Option.{option_map_or}
use Rattle.cast_types.specs.Names.{uid_eq}
use Rattle.cast_types.specs.declared.names.DomainNo.{DomainNo}
use Rattle.cast_types.specs.declared.names.Proc.{Proc}
use Rattle.cast_types.specs.declared.names.SiteNo.{SiteNo}
use Rattle.cast_types.specs.declared.names.Uid.{Uid}
use Rattle.cast_message.specs.declared.site.SiteFrame.{SiteFrame}
use Rattle.cast_message.specs.declared.site.SiteFrame.TheVariants.{Ack}
use Rattle.cast_events.specs.declared.event.Outs.{Outs}
use Rattle.cast_sending.specs.Frames.{Frame}
use Rattle.cast_sending.specs.Stables.{AreParted}

-- that of a message of a domain, to a site
abbrev pub WaitingAck : Type 0
WaitingAck = DomainNo × SiteNo × Uid

-- a message of a domain, and the process that it was delivered to
abbrev pub Delivery : Type 0
Delivery = DomainNo × Proc × Uid

-- one of these waits for a message of a domain
abbrev pub waits_for : List WaitingAck → DomainNo → Uid → Bool
waits_for acks domain id = list_any (λ ack. (ack.0.0 == domain.0) && uid_eq ack.2 id) acks

-- a message of a domain was delivered
abbrev pub is_delivered : List Delivery → DomainNo → Uid → Bool
is_delivered delivered domain id =
    list_any (λ it. (it.0.0 == domain.0) && uid_eq it.2 id) delivered

-- the message that a frame acknowledges
abbrev pub acknowledged_by : SiteFrame → Option Uid
acknowledged_by (Ack id) = Some id
acknowledged_by _ = None

-- a frame acknowledges a message for which one of these waits
abbrev pub is_early : List WaitingAck → Frame → Bool
is_early acks frame =
    option_map_or (waits_for acks frame.0) (acknowledged_by frame.2) false

-- the acknowledgement that a frame is, of a message that was not delivered
abbrev pub undelivered : List Delivery → Frame → List WaitingAck
undelivered delivered frame =
    option_map_or
    (λ id. if is_delivered delivered frame.0 id then [] else (frame.0, frame.1, id) ∷ [])
    (acknowledged_by frame.2) []

-- one more waits, behind the others; where they are very many, without the earliest
abbrev pub Adds : List WaitingAck → WaitingAck → List WaitingAck → Type 0
Adds old ack new =
    (new ≡ old ++ ack ∷ [])
    ⊎ ((earliest : WaitingAck) × (old ++ ack ∷ [] ≡ earliest ∷ new) × (4096 ≤ length new))

-- all these wait more, one after the other
abbrev pub AddsAll : List WaitingAck → List WaitingAck → List WaitingAck → Type 0
AddsAll old [] new = new ≡ old
AddsAll old (ack ∷ acks) new =
    (between : List WaitingAck) × Adds old ack between × AddsAll between acks new

-- one waits no more
abbrev pub IsTakenOut : List WaitingAck → WaitingAck → List WaitingAck → Type 0
IsTakenOut old ack new =
    (front : List WaitingAck) × (back : List WaitingAck)
    × (old ≡ front ++ ack ∷ back)
    × (new ≡ front ++ back)

-- those among these frames whose messages were not delivered wait more, up to one for which there
-- was no memory
abbrev pub AddsSome
    : List WaitingAck → List Delivery → List Frame → List WaitingAck → Type 0
AddsSome old delivered frames new =
    (count : ℕ) × AddsAll old (flat_map (undelivered delivered) (take count frames)) new

abbrev pub NoneWaitsFor : List WaitingAck → DomainNo → Uid → Type 0
NoneWaitsFor acks domain id = (site : SiteNo) → Contains acks (domain, site, id) → ⊥

-- a message was delivered. One that waits for it is taken out: the site that it goes to
abbrev pub Releases : List WaitingAck → DomainNo → Uid → Option SiteNo → List WaitingAck → Type 0
Releases old domain id None new = NoneWaitsFor old domain id × (new ≡ old)
Releases old domain id (Some site) new = IsTakenOut old (domain, site, id) new

-- the frame of an acknowledgement, if one was taken out
abbrev pub released : DomainNo → Uid → Option SiteNo → List Frame
released domain id site = option_map_or (λ to. (domain, to, Ack id) ∷ []) site []

-- a message was delivered: the frame of what waited for it goes behind these, or is lost
abbrev pub ReleasesOne
    : List WaitingAck → List Frame → Delivery → Bool → List WaitingAck → List Frame → Type 0
ReleasesOne old frames it is_lost new went =
    (site : Option SiteNo)
    × Releases old it.0 it.2 site new
    × MatchBool is_lost
    ((went ≡ frames) × (length (released it.0 it.2 site) ≡ 1))
    (went ≡ frames ++ released it.0 it.2 site)

-- messages were delivered, one after the other: the frames of what is taken out for them
abbrev pub ReleasesAll
    : List WaitingAck → List Delivery → List Frame → List WaitingAck → Type 0
ReleasesAll old [] frames new = (frames ≡ []) × (new ≡ old)
ReleasesAll old (it ∷ delivered) frames new =
    (site : Option SiteNo) × (between : List WaitingAck) × (more : List Frame)
    × Releases old it.0 it.2 site between
    × ReleasesAll between delivered more new
    × (frames ≡ released it.0 it.2 site ++ more)

-- messages were delivered. The frames of what waited for them go behind these, but for so many that
-- are lost
pub record Released (old : List WaitingAck) (frames : List Frame) (delivered : List Delivery)
    (went : List Frame) (new : List WaitingAck) (lost : ℕ) : Type 0 where
  pub freed : List Frame
  pub kept : List Frame
  pub missing : List Frame
  pub releases : ReleasesAll old delivered freed new
  pub parted : AreParted kept missing freed
  pub counted : length missing ≡ lost
  pub goes : went ≡ frames ++ kept

-- so it is with those of an event; and of all these frames, those are left out that acknowledge
-- what is still waited for
abbrev pub LetsGo
    : List WaitingAck → Outs → List Frame → List WaitingAck → ℕ → Type 0
LetsGo old outs went new lost =
    (frames : List Frame)
    × Released old outs.frames outs.delivered frames new lost
    × (went ≡ filter (λ frame. not (is_early new frame)) frames)
