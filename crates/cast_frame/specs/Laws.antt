-- What spellings promise.
use Rattle.std.specs.Prelude.{◌≡◌, ◌≤◌, length, Ok}
use Rattle.cast_types.specs.declared.names.DomainNo.{DomainNo}
use Rattle.cast_types.specs.declared.names.SiteNo.{SiteNo}
use Rattle.cast_message.specs.declared.site.SiteFrame.{SiteFrame}
use Rattle.cast_frame.specs.Spelling.{spelled_site}
use Rattle.cast_frame.specs.Reading.{site_frame_of}
use Rattle.cast_frame.specs.Spelled.{IsSpelled}

-- a frame is read from its spelling
abbrev pub SpelledIsRead : Type 0
SpelledIsRead =
    (d : DomainNo) (s : SiteNo) (f : SiteFrame) → IsSpelled d s f
    → site_frame_of (spelled_site d s f) ≡ Ok (d, s, f)

-- different frames have different spellings
abbrev pub SpellingsDiffer : Type 0
SpellingsDiffer =
    (d e : DomainNo) (s t : SiteNo) (f g : SiteFrame) → IsSpelled d s f → IsSpelled e t g
    → spelled_site d s f ≡ spelled_site e t g → (d ≡ e) × (s ≡ t) × (f ≡ g)

-- no spelling is longer than a frame may be
abbrev pub SpelledFits : Type 0
SpelledFits =
    (d : DomainNo) (s : SiteNo) (f : SiteFrame) → IsSpelled d s f
    → length (spelled_site d s f) ≤ 60000
