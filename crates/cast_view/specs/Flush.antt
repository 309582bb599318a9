-- What is reckoned of a flush once all sites have reported: what some of them lack.
use Rattle.std.specs.Prelude.{◌≡◌, ℕ, List, [], Option}
use Rattle.std.specs.Option.{IfSome}
use Rattle.cast_types.specs.declared.names.GroupNo.{GroupNo}
use Rattle.cast_types.specs.declared.names.Proc.{Proc}
use Rattle.cast_types.specs.Names.{Entry}
use Rattle.cast_flush.specs.Reports.{cut_from, wanting}
use Rattle.cast_view.specs.declared.phase.Phase.{Phase}
use Rattle.cast_view.specs.declared.phase.Phase.TheVariants.{Idle, Gathering, Installing}
use Rattle.cast_view.specs.declared.flush.Lacking.{Lacking}

-- the messages of a group's view with these members that some sites lack and that did not come
abbrev pub lacking_in : GroupNo → ℕ → List Proc → Phase → List Entry
lacking_in g view members Idle = []
lacking_in g view members (Gathering awaited reports bodies) =
    wanting g view (cut_from members reports) reports bodies
lacking_in g view members (Installing waiting decision bodies) = []

-- what was reckoned is so
abbrev pub IsReckoned : Lacking → Phase → Type 0
IsReckoned l phase = l.ids.items ≡ lacking_in l.group l.view l.members.items phase

abbrev pub AreReckoned : Option Lacking → Phase → Type 0
AreReckoned lacking phase = IfSome lacking (λ l. IsReckoned l phase)
