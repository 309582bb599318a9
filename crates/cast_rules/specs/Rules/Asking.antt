-- How a site asks its home: for one request of a group after another.
use Rattle.std.specs.Prelude.{Bool, if◌then◌else◌}
use Rattle.cast_types.specs.declared.names.SiteNo.{SiteNo}
use Rattle.cast_types.specs.declared.names.Proc.{Proc}
use Rattle.cast_types.specs.Names.{site_eq}
use Rattle.cast_message.specs.declared.site.Change.{Change}
use Rattle.cast_view.specs.Home.{is_empty}
use Rattle.cast_rules.specs.Rules.Keys.{ask_key}
use Rattle.cast_rules.specs.Rules.Interface.{Site}
use Rattle.cast_rules.specs.Rules.Owing.{owe}

-- each rule is of the group that stands at h
module _ {S H : Type 0} (d : Site S H) where
  -- this site is the home
  abbrev pub is_home : S → Bool
  is_home s = site_eq (d.here s) (d.config s).home

  abbrev pub is_from_home : S → SiteNo → Bool
  is_from_home s from = site_eq from (d.config s).home

  -- the first request, where there is one, is owed to the home
  abbrev pub ask_home : S → H → S
  ask_home s h =
      if is_empty (d.group s h).requests then s
      else owe d s (ask_key (d.name s h) (d.config s).home)

  -- one more request; it is asked at once where it is the first
  abbrev pub request : S → H → Change → Proc → S
  request s h what p =
      if is_empty (d.group s h).requests then ask_home (d.note_request s h what p) h
      else d.note_request s h what p
