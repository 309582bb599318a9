-- The datagrams of frames, and what is handed on of one that came.
use Rattle.std.specs.Prelude.{◌≡◌, ℕ, List, map, Option, Result, Ok, Err}
use Rattle.cast_types.specs.declared.names.DomainNo.{DomainNo}
use Rattle.cast_types.specs.declared.names.SiteNo.{SiteNo}
use Rattle.cast_message.specs.declared.site.SiteFrame.{SiteFrame}
use Rattle.cast_frame.specs.Spelling.{spelled_site}
use Rattle.cast_events.specs.declared.asked.Asked.{Asked}
use Rattle.cast_events.specs.declared.asked.Asked.TheVariants as asked
use Rattle.cast_events.specs.declared.asked.Raw.{Raw}
use Rattle.cast_link.specs.declared.wire.LinkFault.{LinkFault}
use Rattle.cast_link.specs.Wires.{TakesFirst, ReceivesNone}

-- a frame of a domain from a site, for another: the other site, and the bytes
abbrev pub datagram_of : SiteNo → DomainNo × SiteNo × SiteFrame → SiteNo × List ℕ
datagram_of own f = (f.1, spelled_site f.0 own f.2)

abbrev pub datagrams_of : SiteNo → List (DomainNo × SiteNo × SiteFrame) → List (SiteNo × List ℕ)
datagrams_of own frames = map (datagram_of own) frames

-- these bytes are asked to be taken in
abbrev pub AsksFor : Asked → List ℕ → Type 0
AsksFor (asked.Datagram bytes) expected = bytes ≡ expected
AsksFor (asked.Event event) expected = ⊥
AsksFor (asked.Show d) expected = ⊥

-- the datagram that was first is handed on under this number, or none is received
abbrev pub HandsOn : Option (List (List ℕ)) → Option (List (List ℕ)) → ℕ
    → Result Raw LinkFault → Type 0
HandsOn old new number (Ok raw) =
    (raw.number ≡ number) × ((bytes : List ℕ) × AsksFor raw.asked bytes × TakesFirst old new bytes)
HandsOn old new number (Err fault) = ReceivesNone old new fault
