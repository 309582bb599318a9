-- Which kept messages are free.
use Rattle.std.specs.Prelude.{◌≡◌, ◌≢◌, Bool, true, false, Contains, Option, Some, None, ⊤}
use Rattle.cast_types.specs.declared.names.Key.{Key}
use Rattle.cast_types.specs.declared.source.Source.{Source}
use Rattle.cast_types.specs.Sources.{source_of}
use Rattle.cast_message.specs.declared.message.Received.{Received}
use Rattle.cast_message.specs.declared.site.SiteFrame.TheVariants as frame
use Rattle.cast_events.specs.declared.event.Event.{Event}
use Rattle.cast_events.specs.declared.event.Event.TheVariants as event
use Rattle.cast_store.specs.Ids.{IsKeptOf}
use Rattle.cast_rules.specs.Rules.Release.{is_free}
use Rattle.cast_domain.specs.Records.{Records}
use Rattle.cast_domain.specs.Calls.{records}
use Rattle.cast_domain.specs.RestCalls.{resting_records}

-- a key is that of a kept message that is free
abbrev pub IsFreeKey : Records → Key → Type 0
IsFreeKey r key = IsKeptOf (λ id. is_free records resting_records r id ≡ true) r.part.kept key

-- none is free
abbrev pub AreNotFree : Records → Type 0
AreNotFree r =
    (x : Received) → Contains r.part.kept x → is_free records resting_records r x.message.id ≡ false

-- none is free but such as are of a source
abbrev pub AreNotFreeBut : Source → Records → Type 0
AreNotFreeBut source r =
    (x : Received) → Contains r.part.kept x → source_of x.message.id ≢ source
    → is_free records resting_records r x.message.id ≡ false

-- the source of the only messages that an event can set free, where that is known
abbrev pub source_freed : Event → Option Source
source_freed (event.Frame d from (frame.Data m)) = Some (source_of m.id)
source_freed (event.Frame d from (frame.Ack u)) = Some (source_of u)
source_freed (event.Frame d from (frame.Stable u)) = Some (source_of u)
source_freed e = None

-- an event is one that sets no message free: entries of an outbox are taken, or a quota gets
-- another value
abbrev pub frees_nothing : Event → Bool
frees_nothing (event.Quota d name value) = true
frees_nothing (event.Take d k most) = true
frees_nothing e = false

-- none is free where nothing was set free, and none but such as are of a source where that is known
abbrev pub AreFreed : Bool → Option Source → Records → Type 0
AreFreed true o r = AreNotFree r
AreFreed false None r = ⊤
AreFreed false (Some source) r = AreNotFreeBut source r

-- none is free but such as an event can set free
abbrev pub AreFreedBy : Event → Records → Type 0
AreFreedBy e r = AreFreed (frees_nothing e) (source_freed e) r
