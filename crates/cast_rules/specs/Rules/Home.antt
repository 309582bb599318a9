-- The rules of the home: flushes, decided views, suspicions.
-- It asks what the sites of a view have of it, fetches what some of them lack, decides the next
-- view, and has it installed.
use Rattle.std.specs.Prelude.{ℕ, Bool, not, ◌&&◌, ◌==◌, if◌then◌else◌, List, Option, Some, None}
use Rattle.std.specs.List.{fold, find}
use Rattle.std.specs.Option.{option_or, option_map_or}
use Rattle.cast_types.specs.declared.names.SiteNo.{SiteNo}
use Rattle.cast_types.specs.declared.names.Uid.{Uid}
use Rattle.cast_types.specs.Names.{Entry, site_eq, entry_eq, entry_of, uid_eq}
use Rattle.cast_types.specs.Sets.{is_among}
use Rattle.cast_message.specs.declared.message.Message.{Message}
use Rattle.cast_message.specs.declared.site.SiteFrame.TheVariants as frame
use Rattle.cast_timer.specs.declared.key.OwedKind.{OwedKind}
use Rattle.cast_timer.specs.declared.key.OwedKind.TheVariants.{Prepare, Install}
use Rattle.cast_flush.specs.declared.report.Report.{Report}
use Rattle.cast_view.specs.Home.{may_start, awaited_of, wants_in, bodies_of}
use Rattle.cast_view.specs.Home.{may_decide, waiting_of, takes_report, takes_installed}
use Rattle.cast_view.specs.Home.HomeMove.{Started, Suspected, Reported, Brought, Decided, Installed}
use Rattle.cast_rules.specs.Rules.Keys.{home_key, want_key}
use Rattle.cast_rules.specs.Rules.Interface.{Site}
use Rattle.cast_rules.specs.Rules.Owing.{owe}
use Rattle.cast_rules.specs.Rules.Asking.{is_home}
use Rattle.cast_rules.specs.Rules.Data.{is_well_formed}

-- the same message, wanted from the same site
abbrev pub want_eq : SiteNo × Entry → SiteNo × Entry → Bool
want_eq v w = site_eq v.0 w.0 && entry_eq v.1 w.1

-- each rule is of the group that stands at h
module _ {S H : Type 0} (d : Site S H) where
  -- the home owes a frame of a kind to a site
  abbrev pub owe_of_home : OwedKind → H → S → SiteNo → S
  owe_of_home kind h s to = owe d s (home_key kind (d.name s h) to)

  -- to each site that it awaits, which is to say what it has of the view
  abbrev pub prepare : S → H → S
  prepare s h = fold (owe_of_home Prepare h) s (awaited_of (d.home s h).phase)

  -- to each site that is to install the view that it decided
  abbrev pub announce : S → H → S
  announce s h = fold (owe_of_home Install h) s (waiting_of (d.home s h).phase)

  -- a flush starts where something is to change
  abbrev pub start : S → H → S
  start s h = if may_start (d.home s h) then prepare (d.move_home s h Started) h else s

  -- the next view is decided once all have reported and no message is wanted
  abbrev pub decide : S → H → S
  decide s h =
      if may_decide (d.name s h) (d.home s h) then announce (d.move_home s h Decided) h else s

  -- of the messages that some site lacks and that have not come, the first 64, each with the site
  -- that it is wanted from
  abbrev pub wants : S → H → List (SiteNo × Entry)
  wants s h = wants_in (d.name s h) (d.home s h) (d.home s h).phase

  abbrev pub want : H → S → SiteNo × Entry → S
  want h s w = owe d s (want_key (d.name s h) w)

  abbrev pub want_bodies : S → H → S
  want_bodies s h = fold (want h) s (wants s h)

  abbrev pub lead_group : S → H → S
  lead_group s h = decide (want_bodies (start s h) h) h

  -- at the home, for each group
  abbrev pub lead : S → S
  lead s = if is_home d s then fold lead_group s (d.places s) else s

  -- at the home, from a site that it awaits: the Install is owed to it no more
  abbrev pub on_installed : S → H → SiteNo → ℕ → S
  on_installed s h from n =
      if is_home d s && takes_installed (d.home s h) from n
      then d.move_home (d.pay s (home_key Install (d.name s h) from)) h (Installed from n)
      else s

  -- a site's first report of the view that the home flushes: Prepare is owed to it no more
  abbrev pub on_flushed : S → H → SiteNo → ℕ → Report → S
  on_flushed s h from view report =
      if is_home d s && takes_report (d.home s h) from view
      then d.move_home (d.pay s (home_key Prepare (d.name s h) from)) h (Reported from view report)
      else s

  -- a message that was wanted is owed no more, unless it still is
  abbrev pub drop_want : H → List (SiteNo × Entry) → S → SiteNo × Entry → S
  drop_want h still s w = if is_among want_eq w still then s else d.pay s (want_key (d.name s h) w)

  abbrev pub drop_wants : S → H → List (SiteNo × Entry) → S
  drop_wants s h before = fold (drop_want h (wants s h)) s before

  -- Prepare and Install are owed to a site no more
  abbrev pub release_site : S → H → SiteNo → S
  release_site s h site =
      d.pay (d.pay s (home_key Prepare (d.name s h) site)) (home_key Install (d.name s h) site)

  -- a site is suspected: nothing is awaited from it any more, and what is not wanted without it is
  -- owed no more
  abbrev pub suspect_in : SiteNo → S → H → S
  suspect_in site s h =
      drop_wants (d.move_home (release_site s h site) h (Suspected site)) h (wants s h)

  -- at the home, for each group
  abbrev pub suspect : S → SiteNo → S
  suspect s site = if is_home d s then fold (suspect_in site) s (d.places s) else s

  -- a message of the view that the home decided last, and well formed in it
  abbrev pub is_of_home : S → H → Message → Bool
  is_of_home s h m =
      (m.id.view == (d.home s h).number) && is_well_formed d s (d.home s h).members.list m

  -- one that the home wants comes, and is wanted no more
  abbrev pub on_forward : S → H → Message → S
  on_forward s h m =
      elim (find (λ w. entry_eq w.1 (entry_of m.id)) (wants s h)) [
        | Some w ↦
            (if is_of_home s h m
            then d.move_home (d.pay s (want_key (d.name s h) w)) h (Brought m)
            else s)
        | None ↦ s
      ]

  -- a message that a site wants: one that came because some sites lack it, or a kept one
  abbrev pub forwardable : S → H → Uid → Option Message
  forwardable s h u =
      option_or (find (λ m. uid_eq m.id u) (bodies_of (d.home s h).phase)) (d.message s u)

  -- it is forwarded; a site sends itself none unless it is the home
  abbrev pub on_want : S → H → SiteNo → Uid → S
  on_want s h from u =
      if site_eq from (d.here s) && not (is_home d s) then s
      else option_map_or (λ m. d.send s from (frame.Forward m)) (forwardable s h u) s
