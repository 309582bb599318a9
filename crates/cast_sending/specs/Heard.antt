-- What a frame tells of the site that it is from.
use Rattle.std.specs.Prelude.{ℕ, Option, Some, None}
use Rattle.std.specs.Option.{option_map}
use Rattle.cast_types.specs.declared.names.GroupNo.{GroupNo}
use Rattle.cast_message.specs.declared.site.SiteFrame.{SiteFrame}
use Rattle.cast_message.specs.declared.site.SiteFrame.TheVariants.{Data, Ack, Stable, Installed}
use Rattle.cast_events.specs.declared.event.Event.{Event}
use Rattle.cast_events.specs.declared.event.Event.TheVariants.{Frame}
use Rattle.cast_sending.specs.Acks.{acknowledged_by}
use Rattle.cast_sending.specs.declared.heard.Heard.{Heard}

-- the view of a group of which a site sends this frame, once it has entered the view
abbrev pub entered_by : SiteFrame → Option (GroupNo × ℕ)
entered_by (Data m) = Some (m.id.group, m.id.view)
entered_by (Ack id) = Some (id.group, id.view)
entered_by (Stable id) = Some (id.group, id.view)
entered_by (Installed group view) = Some (group, view)
entered_by _ = None

-- that, and the message that it acknowledges
abbrev pub heard_in : Event → Option Heard
heard_in (Frame domain site frame) =
    option_map
    (λ entered. record {
      domain = domain;
      site = site;
      group = entered.0;
      view = entered.1;
      acknowledged = acknowledged_by frame;
    })
    (entered_by frame)
heard_in _ = None
