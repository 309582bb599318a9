-- What programs are pushed over a whole run. What waits in an outbox counts as pushed.
use Rattle.std.specs.Prelude.{◌≡◌, ◌++◌, ◌&&◌, is_some, if◌then◌else◌, List, [], ◌∷◌}
use Rattle.cast_types.specs.declared.names.Proc.{Proc}
use Rattle.cast_types.specs.declared.names.SiteNo.{SiteNo}
use Rattle.cast_types.specs.Names.{site_eq}
use Rattle.cast_message.specs.declared.client.Push.{Push}
use Rattle.cast_events.specs.declared.config.DomainConfig.{DomainConfig}
use Rattle.cast_rules.specs.Run.{entries_for}
use Rattle.cast_world.specs.declared.step.Step.{Step}
use Rattle.cast_world.specs.Network.{Network, AgreeOnHome, Happens, event_of, start}

-- what the program of a process is pushed while a step takes one network to another: the step has
-- an event, at the site of the process
abbrev pub pushed_by : Network → Step → Network → Proc → List Push
pushed_by w step v p =
    if is_some (event_of w step) && site_eq step.site p.site
    then entries_for (v.at p.site).pushes p.serial
    else []

-- a list of steps takes w to v, and programs are pushed these entries on the way, each in order
abbrev pub Tells : Network → List Step → (Proc → List Push) → Network → Type 0
Tells w [] pushed v = (v ≡ w) × ((p : Proc) → pushed p ≡ [])
Tells w (step ∷ steps) pushed v =
    (u : Network) × (more : Proc → List Push) × Happens w step u × Tells u steps more v
    × ((p : Proc) → pushed p ≡ pushed_by w step u p ++ more p)

-- a list of steps leads from the start to w, and programs are pushed these entries on the way
pub record ReachesTelling (sites : List SiteNo) (config : SiteNo → DomainConfig) (steps : List Step)
    (pushed : Proc → List Push) (w : Network) : Type 0 where
  pub home : AgreeOnHome config
  pub tells : Tells (start sites config) steps pushed w

-- a law of what programs are pushed holds in every network that a list of steps leads to
abbrev pub HoldsOfPushes : (Network → (Proc → List Push) → Type 0) → Type 0
HoldsOfPushes law =
    (sites : List SiteNo) (config : SiteNo → DomainConfig) (steps : List Step)
    (pushed : Proc → List Push) (w : Network) →
    ReachesTelling sites config steps pushed w → law w pushed
