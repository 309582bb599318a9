-- Which rule a frame is for.
use Rattle.std.specs.Prelude.{if◌then◌else◌}
use Rattle.std.specs.Option.{option_map_or}
use Rattle.cast_types.specs.declared.names.SiteNo.{SiteNo}
use Rattle.cast_types.specs.declared.names.GroupNo.{GroupNo}
use Rattle.cast_types.specs.Names.{site_eq}
use Rattle.cast_types.specs.Sets.{is_among}
use Rattle.cast_message.specs.declared.site.SiteFrame.{SiteFrame}
use Rattle.cast_message.specs.declared.site.SiteFrame.TheVariants as frame
use Rattle.cast_rules.specs.Rules.Interface.{Site}
use Rattle.cast_rules.specs.Rules.Data.{on_data}
use Rattle.cast_rules.specs.Rules.Stability.{on_ack, on_stable}
use Rattle.cast_rules.specs.Rules.Requests.{on_ask, on_asked}
use Rattle.cast_rules.specs.Rules.Home.{on_flushed, on_forward, on_want, on_installed}
use Rattle.cast_rules.specs.Rules.Views.{on_install, on_out}
use Rattle.cast_rules.specs.Rules.Flushes.{on_prepare, on_wanted}

-- the group that a frame is about
abbrev pub group_of : SiteFrame → GroupNo
group_of (frame.Data m) = m.id.group
group_of (frame.Ack u) = u.group
group_of (frame.Stable u) = u.group
group_of (frame.Ask g number what p) = g
group_of (frame.Asked g number full) = g
group_of (frame.Prepare g view) = g
group_of (frame.Flushed g view counts tail kept) = g
group_of (frame.Want u) = u.group
group_of (frame.Forward m) = m.id.group
group_of (frame.Install g view members request cut tail) = g
group_of (frame.Installed g view) = g
group_of (frame.Out g view) = g

module _ {S H : Type 0} (d : Site S H) where
  -- a frame about the group that stands at h; one that no rule uses is ignored
  abbrev pub on_frame : S → H → SiteNo → SiteFrame → S
  on_frame s h from (frame.Data m) = on_data d s h from m
  on_frame s h from (frame.Ack u) = on_ack d s h from u
  on_frame s h from (frame.Stable u) = on_stable d s h from u
  on_frame s h from (frame.Ask g number what p) = on_ask d s h from number what p
  on_frame s h from (frame.Asked g number full) = on_asked d s h from number full
  on_frame s h from (frame.Prepare g view) = on_prepare d s h from view
  on_frame s h from (frame.Flushed g view counts tail kept) =
      on_flushed d s h from view (record { counts = counts; tail = tail; kept = kept })
  on_frame s h from (frame.Want u) = on_want d s h from u
  on_frame s h from (frame.Forward m) = on_forward d (on_wanted d s h from m) h m
  on_frame s h from (frame.Install g view members request cut tail) =
      on_install d s h from view members request cut tail
  on_frame s h from (frame.Installed g view) = on_installed d s h from view
  on_frame s h from (frame.Out g view) = on_out d s h view

  -- one from a site or for a group that is not configured is ignored
  abbrev pub on_site_frame : S → SiteNo → SiteFrame → S
  on_site_frame s from f =
      if is_among site_eq from (d.config s).sites
      then option_map_or (λ h. on_frame s h from f) (d.place s (group_of f)) s
      else s
