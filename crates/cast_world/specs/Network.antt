-- Daemons of one domain at several sites, and every frame ever sent.
-- A frame that no step takes is lost; steps may take one again, and in any order.
use Rattle.std.specs.Option.{option_map_or}
use Rattle.std.specs.Prelude.{◌&&◌, ◌++◌, ◌==◌, Bool, List, None, Option, Some, []}
use Rattle.std.specs.Prelude.{false, if◌then◌else◌, map, slice_get, true, ℕ, ◌∷◌, ◌≡◌}
use Rattle.cast_rules.specs.Run.{IsStep, step_in}
use Rattle.cast_rules.specs.State.{State, opening}
use Rattle.cast_events.specs.Events.{domain_of}
use Rattle.cast_events.specs.declared.config.DomainConfig.{DomainConfig}
use Rattle.cast_events.specs.declared.event.Event.{Event}
use Rattle.cast_events.specs.declared.event.Taken.{Taken}
use Rattle.cast_types.specs.Names.{site_eq}
use Rattle.cast_types.specs.Sets.{is_among, set_at}
use Rattle.cast_types.specs.declared.names.DomainNo.{DomainNo}
use Rattle.cast_types.specs.declared.names.SiteNo.{SiteNo}
use Rattle.cast_world.specs.declared.step.Happening.{Happening}
use Rattle.cast_world.specs.declared.step.Happening.TheVariants.{Local, Sent}
use Rattle.cast_world.specs.declared.step.Packet.{Packet}
use Rattle.cast_world.specs.declared.step.Step.{Step}
use Rattle.cast_events.specs.declared.event.Event.TheVariants as event

pub record Network : Type 0 where
  pub sites : List SiteNo
  -- the history at each site
  pub at : SiteNo → State
  -- every frame ever sent, in order
  pub sent : List Packet

-- each site before its first event
abbrev pub start : List SiteNo → (SiteNo → DomainConfig) → Network
start sites config = record { sites = sites; at = λ s. opening s (config s); sent = [] }

-- an event of the site's own: any but a frame
abbrev pub is_local : Event → Bool
is_local (event.Open d) = true
is_local (event.Command d k c) = true
is_local (event.Gone d k) = true
is_local (event.Frame d from f) = false
is_local (event.Suspect d site) = true
is_local (event.Quota d name value) = true
is_local (event.Take d k most) = true
is_local (event.Tick t) = true

-- an event that names the domain, or none
abbrev pub names : DomainNo → Event → Bool
names d e = option_map_or (λ of. of.0 == d.0) (domain_of e) true

-- a frame is handed to the site that it is addressed to
abbrev pub hand_frame : DomainNo → SiteNo → Option Packet → Option Event
hand_frame d s None = None
hand_frame d s (Some p) = if site_eq p.to s then Some (event.Frame d p.from p.frame) else None

abbrev pub event_at : Network → SiteNo → Happening → Option Event
event_at w s (Local e) = if is_local e && names (w.at s).config.domain e then Some e else None
event_at w s (Sent k) = hand_frame (w.at s).config.domain s (slice_get w.sent k)

-- the event of a step, where its site is one of the network's
abbrev pub event_of : Network → Step → Option Event
event_of w step =
    if is_among site_eq step.site w.sites then event_at w step.site step.what else None

-- a site has moved to this state, and what it sent is on the network
abbrev pub move_site : Network → SiteNo → State → Network
move_site w s t =
    record w {
      at = set_at site_eq w.at s t;
      sent = w.sent ++ map (λ f. record { from = s; to = f.0; frame = f.1 }) t.frames;
    }

-- an event, where there is one, takes w to v: a step of the history at that site
abbrev pub Becomes : Network → SiteNo → Option Event → Network → Type 0
Becomes w s None v = v ≡ w
Becomes w s (Some e) v =
    (answer : Taken) × (t : State) × IsStep (w.at s) e answer t × (v ≡ move_site w s t)

-- a step takes w to v
abbrev pub Happens : Network → Step → Network → Type 0
Happens w step v = Becomes w step.site (event_of w step) v

-- a list of steps does
abbrev pub Leads : Network → List Step → Network → Type 0
Leads w [] v = v ≡ w
Leads w (step ∷ steps) v = (u : Network) × Happens w step u × Leads u steps v

-- all sites name the same home
abbrev pub AgreeOnHome : (SiteNo → DomainConfig) → Type 0
AgreeOnHome config = (s t : SiteNo) → (config s).home ≡ (config t).home

-- a list of steps leads from the start to w
pub record Reaches (sites : List SiteNo) (config : SiteNo → DomainConfig) (steps : List Step)
    (w : Network) : Type 0 where
  pub home : AgreeOnHome config
  pub leads : Leads (start sites config) steps w

-- The same, computed: each event is followed by so many passes

abbrev pub after : ℕ → Network → SiteNo → Option Event → Network
after n w s None = w
after n w s (Some e) = move_site w s (step_in n (w.at s) e)

abbrev pub happens_in : ℕ → Network → Step → Network
happens_in n w step = after n w step.site (event_of w step)

abbrev pub leads_in : ℕ → Network → List Step → Network
leads_in n w [] = w
leads_in n w (step ∷ steps) = leads_in n (happens_in n w step) steps
