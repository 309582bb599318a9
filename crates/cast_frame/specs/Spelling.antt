-- The one spelling of each frame between sites.
use Rattle.std.specs.Prelude.{ℕ, Bool, false, if◌then◌else◌, List, ◌++◌}
use Rattle.cast_types.specs.declared.names.DomainNo.{DomainNo}
use Rattle.cast_types.specs.declared.names.SiteNo.{SiteNo}
use Rattle.cast_message.specs.declared.site.Change.{Change}
use Rattle.cast_message.specs.declared.site.Change.TheVariants.{Join, Leave}
use Rattle.cast_message.specs.declared.site.SiteFrame.{SiteFrame}
use Rattle.cast_message.specs.declared.site.SiteFrame.TheVariants.{Data, Ack, Stable, Ask, Asked}
use Rattle.cast_message.specs.declared.site.SiteFrame.TheVariants.{Prepare, Flushed, Want, Forward}
use Rattle.cast_message.specs.declared.site.SiteFrame.TheVariants.{Install, Installed, Out}
use Rattle.cast_message.specs.Bodies.{hands_over}
use Rattle.cast_field.specs.Spelling.{byte, short, word, spelled_proc, spelled_uid, spelled_counts}
use Rattle.cast_field.specs.Spelling.{spelled_message, spelled_members, spelled_tail, spelled_kept}

abbrev pub change_code : Change → ℕ
change_code Join = 1
change_code Leave = 2

-- 14 is the number of the refusal that the group is full
abbrev pub full_code : Bool → ℕ
full_code full = if full then 14 else 0

abbrev pub frame_code : SiteFrame → ℕ
frame_code (Data m) = 1
frame_code (Ack u) = 2
frame_code (Stable u) = 3
frame_code (Ask g number change p) = 4
frame_code (Asked g number full) = 5
frame_code (Prepare g view) = 6
frame_code (Flushed g view counts tail kept) = 7
frame_code (Want u) = 8
frame_code (Forward m) = 9
frame_code (Install g view members request cut tail) = 10
frame_code (Installed g view) = 11
frame_code (Out g view) = 12

-- the frame has a message, and this hands over the token
abbrev pub is_handing : SiteFrame → Bool
is_handing (Data m) = hands_over m.body
is_handing (Ack u) = false
is_handing (Stable u) = false
is_handing (Ask g number change p) = false
is_handing (Asked g number full) = false
is_handing (Prepare g view) = false
is_handing (Flushed g view counts tail kept) = false
is_handing (Want u) = false
is_handing (Forward m) = hands_over m.body
is_handing (Install g view members request cut tail) = false
is_handing (Installed g view) = false
is_handing (Out g view) = false

abbrev pub version_code : Bool → ℕ
version_code handing = if handing then 2 else 1

unfoldable pub spelled_fields : SiteFrame → List ℕ
spelled_fields (Data m) = spelled_message m
spelled_fields (Ack u) = spelled_uid u
spelled_fields (Stable u) = spelled_uid u
spelled_fields (Ask g number change p) =
    short g.0 ++ (word number ++ (byte (change_code change) ++ spelled_proc p))
spelled_fields (Asked g number full) = short g.0 ++ (word number ++ byte (full_code full))
spelled_fields (Prepare g view) = short g.0 ++ word view
spelled_fields (Flushed g view counts tail kept) =
    short g.0 ++ (word view ++ (spelled_counts counts ++ (spelled_tail tail ++ spelled_kept kept)))
spelled_fields (Want u) = spelled_uid u
spelled_fields (Forward m) = spelled_message m
spelled_fields (Install g view members request cut tail) =
    short g.0 ++ (word view
    ++ (spelled_members members ++ (word request ++ (spelled_counts cut ++ spelled_tail tail))))
spelled_fields (Installed g view) = short g.0 ++ word view
spelled_fields (Out g view) = short g.0 ++ word view

-- a frame of a domain from a site: the magic, the version, the type, the domain, the sender and the
-- fields
unfoldable pub spelled_site : DomainNo → SiteNo → SiteFrame → List ℕ
spelled_site d s f =
    short 0x4344 ++ (byte (version_code (is_handing f))
    ++ (byte (frame_code f) ++ (byte d.0 ++ (short s.0 ++ spelled_fields f))))
