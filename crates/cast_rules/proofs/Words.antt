-- Short words for worked examples.
use Rattle.std.specs.Prelude.{ℕ, List, [], ◌∷◌, Some, None, false, drop}
use Rattle.cast_types.specs.declared.names.DomainNo.{DomainNo}
use Rattle.cast_types.specs.declared.names.SiteNo.{SiteNo}
use Rattle.cast_types.specs.declared.names.GroupNo.{GroupNo}
use Rattle.cast_types.specs.declared.names.Proc.{Proc}
use Rattle.cast_types.specs.declared.names.Uid.{Uid}
use Rattle.cast_types.specs.declared.clock.Clock.{Clock}
use Rattle.cast_types.specs.Names.{Entry}
use Rattle.cast_message.specs.declared.message.Body.TheVariants as body
use Rattle.cast_message.specs.declared.message.Message.{Message}
use Rattle.cast_message.specs.declared.site.SiteFrame.{SiteFrame}
use Rattle.cast_message.specs.declared.site.SiteFrame.TheVariants as frame
use Rattle.cast_message.specs.declared.client.Push.{Push}
use Rattle.cast_message.specs.declared.client.CastKind.{CastKind}
use Rattle.cast_message.specs.declared.client.CastKind.TheVariants as kind
use Rattle.cast_message.specs.declared.client.Request.TheVariants.{Join, Leave, Cast, Pass}
use Rattle.cast_message.specs.Membership.{Membership}
use Rattle.cast_events.specs.declared.config.DomainConfig.{DomainConfig}
use Rattle.cast_message.specs.declared.client.Command.TheVariants as command
use Rattle.cast_events.specs.declared.event.Event.{Event}
use Rattle.cast_events.specs.declared.event.Event.TheVariants as event
use Rattle.cast_quota.specs.Quotas.{usual}
use Rattle.cast_quota.specs.declared.quotas.QuotaName.{QuotaName}
use Rattle.cast_rules.specs.Run.{Ran, run_of, run_in, entries_for}

abbrev pub domain : DomainNo
domain = record { 0 = 1 }

abbrev pub site : ℕ → SiteNo
site n = record { 0 = n }

abbrev pub group : ℕ → GroupNo
group n = record { 0 = n }

abbrev pub proc : ℕ → ℕ → Proc
proc s k = record { site = site s; serial = k }

abbrev pub uid : ℕ → ℕ → Proc → ℕ → Uid
uid g v p n = record { group = group g; view = v; proc = p; count = n }

abbrev pub at : ℕ → ℕ → List Entry → GroupNo × Clock
at g v counts = (group g, record { view = v; counts = counts })

abbrev pub members : List Proc → Proc → Membership
members ps holder = record { list = ps; holder = Some holder }

abbrev pub config : ℕ → List SiteNo → List GroupNo → DomainConfig
config home sites groups = record { domain = domain; home = site home; sites = sites; groups = groups; quotas = usual }

-- a causal message without payload whose time names its own id alone
abbrev pub alone : ℕ → ℕ → Proc → ℕ → Message
alone g v p n = record { id = uid g v p n; times = at g v ((p, n) ∷ []) ∷ []; body = body.Causal [] }

-- a set-order message that lists these from a place on, and one that hands the token over
abbrev pub lists : Uid → List (GroupNo × Clock) → ℕ → List Entry → Message
lists id times first ids = record { id = id; times = times; body = body.Order (record { first = first; ids = ids; holder = None }) }

abbrev pub hands_over : Uid → List (GroupNo × Clock) → ℕ → Proc → Message
hands_over id times first to = record { id = id; times = times; body = body.Order (record { first = first; ids = []; holder = Some to }) }

abbrev pub opens : Event
opens = event.Open domain

abbrev pub asks_join : ℕ → ℕ → ℕ → Event
asks_join k tag g = event.Command domain k (command.Request (Join tag (group g)))

abbrev pub asks_leave : ℕ → ℕ → ℕ → Event
asks_leave k tag g = event.Command domain k (command.Request (Leave tag (group g)))

abbrev pub casts_as : CastKind → ℕ → ℕ → ℕ → List ℕ → Event
casts_as how k tag g payload = event.Command domain k (command.Request (Cast tag (group g) how payload))

abbrev pub casts : ℕ → ℕ → ℕ → List ℕ → Event
casts k tag g payload = casts_as kind.Causal k tag g payload

abbrev pub passes : ℕ → ℕ → ℕ → Proc → Event
passes k tag g to = event.Command domain k (command.Request (Pass tag (group g) to))

abbrev pub sends_bad : ℕ → Event
sends_bad k = event.Command domain k command.Bad

abbrev pub is_gone : ℕ → Event
is_gone k = event.Gone domain k

abbrev pub takes : ℕ → ℕ → Event
takes k most = event.Take domain k most

abbrev pub sets : QuotaName → ℕ → Event
sets name value = event.Quota domain name value

abbrev pub suspects : ℕ → Event
suspects s = event.Suspect domain (site s)

abbrev pub comes : ℕ → SiteFrame → Event
comes from f = event.Frame domain (site from) f

abbrev pub data_from : ℕ → Message → Event
data_from from m = comes from (frame.Data m)

abbrev pub install : ℕ → ℕ → List Proc → Proc → ℕ → SiteFrame
install g v ps holder request = frame.Install (group g) v (members ps holder) request [] (record { start = 0; ids = [] })

abbrev pub p11 : Proc
p11 = proc 1 1

abbrev pub p21 : Proc
p21 = proc 2 1

-- a process of site 1 is in view 2 of group 1 with 2.1, and the home is site 9
abbrev pub in_second_view : Ran
in_second_view = run_of 2 (site 1) (config 9 (site 1 ∷ site 2 ∷ site 9 ∷ []) (group 1 ∷ []))
    (opens ∷ asks_join 1 7 1 ∷ comes 9 (frame.Asked (group 1) 1 false) ∷ comes 9 (install 1 2 (p11 ∷ p21 ∷ []) p11 1) ∷ [])

-- what events add to a run
abbrev pub then_run : Ran → List Event → Ran
then_run start events = run_in 2 (record { answers = []; sent = []; pushed = start.pushed; state = start.state }) events

-- the pushes of serial 1 past so many
abbrev pub pushed_after : ℕ → Ran → List Push
pushed_after n r = drop n (entries_for r.pushed 1)
