-- The rules of frames that are owed.
-- A site sends them at once, and again whenever they are due, until they are answered.
use Rattle.std.specs.Prelude.{ℕ, if◌then◌else◌, Option, Some, None}
use Rattle.std.specs.List.{fold}
use Rattle.std.specs.Option.{option_map, option_map_or, option_and_then}
use Rattle.cast_types.specs.declared.names.SiteNo.{SiteNo}
use Rattle.cast_types.specs.declared.names.GroupNo.{GroupNo}
use Rattle.cast_message.specs.declared.site.SiteFrame.{SiteFrame}
use Rattle.cast_message.specs.declared.site.SiteFrame.TheVariants as frame
use Rattle.cast_timer.specs.declared.key.OwedKey.{OwedKey}
use Rattle.cast_timer.specs.declared.key.OwedKind.{OwedKind}
use Rattle.cast_timer.specs.declared.key.OwedKind.TheVariants.{Ask, Data, Prepare}
use Rattle.cast_timer.specs.declared.key.OwedKind.TheVariants.{Want, Install, Ack}
use Rattle.cast_timer.specs.declared.key.Side.{Side}
use Rattle.cast_timer.specs.declared.key.Side.TheVariants as side
use Rattle.cast_view.specs.declared.phase.Phase.{Phase}
use Rattle.cast_view.specs.declared.phase.Phase.TheVariants.{Idle, Gathering, Installing}
use Rattle.cast_view.specs.Home.{Home, answer_in}
use Rattle.cast_view.specs.declared.member.PendingRequest.{PendingRequest}
use Rattle.cast_view.specs.MemberSide.{first_asking}
use Rattle.cast_rules.specs.Rules.Keys.{id_in}
use Rattle.cast_rules.specs.Rules.Interface.{Site}

-- a request as it is asked of the home
abbrev pub ask_frame : GroupNo → PendingRequest → SiteFrame
ask_frame g a = frame.Ask g a.number a.change a.proc

-- the view that the home decided as a site is to install it, with the last request of the site that
-- had been applied
abbrev pub install_frame : GroupNo → Home → SiteNo → Phase → Option SiteFrame
install_frame g home to Idle = None
install_frame g home to (Gathering awaited reports bodies) = None
install_frame g home to (Installing waiting decision bodies) =
    Some (frame.Install g home.number home.members
    (answer_in decision.answers to).number decision.cut decision.tail)

module _ {S H : Type 0} (d : Site S H) where
  -- the number of the view that a side of a flush wants messages of
  abbrev pub wanted_view : S → H → Side → ℕ
  wanted_view s h side.Site = (d.group s h).number
  wanted_view s h side.Home = (d.home s h).number

  -- the frame that a key of this kind stands for, of the group that stands at h
  abbrev pub frame_of_kind : S → H → OwedKey → OwedKind → Option SiteFrame
  frame_of_kind s h key Ask = option_map (ask_frame key.group) (first_asking (d.group s h).requests)
  frame_of_kind s h key Data = option_map frame.Data (d.message s (id_in (d.group s h).number key))
  frame_of_kind s h key Prepare = Some (frame.Prepare key.group (d.home s h).number)
  frame_of_kind s h key Want = Some (frame.Want (id_in (wanted_view s h key.side) key))
  frame_of_kind s h key Install = install_frame key.group (d.home s h) key.site (d.home s h).phase
  frame_of_kind s h key Ack = Some (frame.Ack (id_in (d.group s h).number key))

  -- the frame that a key of a configured group stands for
  abbrev pub frame_for : S → OwedKey → Option SiteFrame
  frame_for s key = option_and_then (λ h. frame_of_kind s h key key.kind) (d.place s key.group)

  -- the frame is sent, where the key stands for one
  abbrev pub send_for : S → OwedKey → S
  send_for s key = option_map_or (d.send s key.site) (frame_for s key) s

  -- a frame is sent, and owed from then on, unless it is owed already
  abbrev pub owe : S → OwedKey → S
  owe s key = if d.is_owed s key then s else d.note_owed (send_for s key) key

  -- a frame that is due is sent again
  abbrev pub resend : S → OwedKey → S
  resend s key = d.note_resent (send_for s key) key

  abbrev pub resend_due : S → S
  resend_due s = fold resend s (d.due s)

  -- time passes: the moment never goes back, and all frames that are due then are sent again, in
  -- their order
  abbrev pub tick : S → ℕ → S
  tick s t = resend_due (d.note_moment s t)
