-- A home takes requests, ends views by a flush, and decides the next ones: what it sends.
use Rattle.std.specs.Prelude.{◌≡◌, ℕ, Bool, false, if◌then◌else◌, List, [], ◌∷◌, map, refl}
use Rattle.std.specs.List.{fold}
use Rattle.std.proofs.Common.{ap}
use Rattle.cast_types.specs.declared.names.SiteNo.{SiteNo}
use Rattle.cast_types.specs.Names.{Entry}
use Rattle.cast_message.specs.declared.site.Change.TheVariants as change
use Rattle.cast_message.specs.declared.site.SiteFrame.{SiteFrame}
use Rattle.cast_message.specs.declared.site.SiteFrame.TheVariants as frame
use Rattle.cast_events.specs.declared.event.Event.{Event}
use Rattle.cast_view.specs.declared.phase.Phase.TheVariants.{Idle, Gathering}
use Rattle.cast_view.specs.Home.{Home}
use Rattle.cast_timer.specs.declared.key.OwedKind.TheVariants as kinds
use Rattle.cast_rules.specs.Rules.Keys.{home_key}
use Rattle.cast_rules.specs.Rules.Asking.{is_home}
use Rattle.cast_rules.specs.Rules.Home.{suspect_in, suspect}
use Rattle.cast_rules.specs.History.{history}
use Rattle.cast_rules.specs.State.{State, opening}
use Rattle.cast_rules.specs.Run.{Ran, run_of, run_in}
use Rattle.cast_rules.proofs.Words.{site, group, uid, alone, members, config, suspects, comes, install, p11, p21}

-- a report: how many messages of each process the site has had, and which it keeps, marked where it knows no place for an ABCAST
flushed : ℕ → List Entry → List (Entry × Bool) → SiteFrame
flushed view counts kept = frame.Flushed (group 1) view counts (record { start = 0; ids = [] }) kept

-- what events add to a run; a home's passes are done in one
abbrev then_led : Ran → List Event → Ran
then_led start events = run_in 1 (record { answers = []; sent = []; pushed = start.pushed; state = start.state }) events

-- at the home, which is site 9: a process joins, leaves, and joins anew before its site reports
begun : Ran
begun =
    run_of 1 (site 9) (config 9 (site 1 ∷ site 2 ∷ site 9 ∷ []) (group 1 ∷ []))
    (comes 1 (frame.Ask (group 1) 1 change.Join p11) ∷ comes 1 (frame.Installed (group 1) 1) ∷ [])

begun_sent : begun.sent ≡
    (site 1, frame.Asked (group 1) 1 false) ∷ (site 1, install 1 1 (p11 ∷ []) p11 1) ∷ []
unfolding begun
begun_sent = refl

anew : Ran
anew = then_led begun (
    comes 1 (frame.Ask (group 1) 2 change.Leave p11)
    ∷ comes 1 (frame.Ask (group 1) 3 change.Join p11)
    ∷ comes 1 (flushed 1 [] []) ∷ [])

anew_sent : anew.sent ≡
    (site 1, frame.Asked (group 1) 2 false) ∷ (site 1, frame.Prepare (group 1) 1)
    ∷ (site 1, frame.Asked (group 1) 3 false)
    ∷ (site 1, install 1 2 (p11 ∷ []) p11 3) ∷ []
unfolding anew begun flushed
anew_sent = refl

-- a process of another site joins: a second view
together : Ran
together = then_led begun (
    comes 2 (frame.Ask (group 1) 1 change.Join p21)
    ∷ comes 1 (flushed 1 [] [])
    ∷ comes 1 (frame.Installed (group 1) 2)
    ∷ comes 2 (frame.Installed (group 1) 2) ∷ [])

together_sent : together.sent ≡
    (site 2, frame.Asked (group 1) 1 false) ∷ (site 1, frame.Prepare (group 1) 1)
    ∷ (site 1, install 1 2 (p11 ∷ p21 ∷ []) p11 1) ∷ (site 2, install 1 2 (p11 ∷ p21 ∷ []) p11 1) ∷ []
unfolding together begun flushed
together_sent = refl

-- the home then has decided view 2, and nothing is to change
second : Home
second =
    record {
      number = 2;
      members = members (p11 ∷ p21 ∷ []) p11;
      joins = [];
      leavings = [];
      suspected = [];
      answers = (site 1, record { number = 1; full = false }) ∷ (site 2, record { number = 1; full = false }) ∷ [];
      phase = Idle;
    }

together_home : together.state.home (group 1) ≡ second
unfolding together begun flushed second
together_home = refl

abbrev at_second : Ran
at_second =
    record {
      answers = [];
      sent = [];
      pushed = [];
      state = record (opening (site 9) (config 9 (site 1 ∷ site 2 ∷ site 9 ∷ []) (group 1 ∷ []))) { home = λ g. second };
    }

-- 1.1 leaves. Site 1 keeps a message of its own that site 2 lacks: the home wants it. A second report of a site counts for nothing
wanted : Ran
wanted = then_led at_second (
    comes 1 (frame.Ask (group 1) 2 change.Leave p11)
    ∷ comes 2 (flushed 2 [] [])
    ∷ comes 2 (flushed 2 ((p21, 9) ∷ []) [])
    ∷ comes 1 (flushed 2 ((p11, 1) ∷ []) (((p11, 1), false) ∷ [])) ∷ [])

wanted_sent : wanted.sent ≡
    (site 1, frame.Asked (group 1) 2 false) ∷ (site 1, frame.Prepare (group 1) 2) ∷ (site 2, frame.Prepare (group 1) 2)
    ∷ (site 1, frame.Want (uid 1 2 p11 1)) ∷ []
unfolding wanted second flushed
wanted_sent = refl

-- the home has these reports then, and lacks the message
lacking : Home
lacking =
    record second {
      leavings = p11 ∷ [];
      answers = (site 1, record { number = 2; full = false }) ∷ (site 2, record { number = 1; full = false }) ∷ [];
      phase = Gathering (site 1 ∷ site 2 ∷ [])
          ((site 1, record { counts = (p11, 1) ∷ []; tail = record { start = 0; ids = [] }; kept = ((p11, 1), false) ∷ [] })
          ∷ (site 2, record { counts = []; tail = record { start = 0; ids = [] }; kept = [] }) ∷ [])
          [];
    }

wanted_home : wanted.state.home (group 1) ≡ lacking
unfolding wanted second flushed lacking
wanted_home = refl

abbrev at_lacking : Ran
at_lacking = record at_second { state = record at_second.state { home = λ g. lacking; owed = [] } }

-- it decides when the message has come, and not at another, and forwards it to whoever wants it
fetched : Ran
fetched = then_led at_lacking (comes 1 (frame.Forward (alone 1 2 p11 2)) ∷ comes 1 (frame.Forward (alone 1 2 p11 1)) ∷ [])

next_view : ℕ → SiteFrame
next_view request =
    frame.Install (group 1) 3 (members (p21 ∷ []) p21) request ((p11, 1) ∷ []) (record { start = 0; ids = [] })

fetched_sent : fetched.sent ≡ (site 1, frame.Want (uid 1 2 p11 1)) ∷ (site 1, next_view 2) ∷ (site 2, next_view 1) ∷ []
unfolding fetched lacking second next_view
fetched_sent = refl

forwarded : Ran
forwarded =
    then_led at_lacking
    (comes 1 (frame.Forward (alone 1 2 p11 1)) ∷ comes 2 (frame.Want (uid 1 2 p11 1)) ∷ comes 2 (frame.Want (uid 1 2 p11 2)) ∷ [])

forwarded_sent : forwarded.sent ≡ (site 1, next_view 2) ∷ (site 2, next_view 1) ∷ (site 2, frame.Forward (alone 1 2 p11 1)) ∷ []
unfolding forwarded lacking second next_view
forwarded_sent = refl

-- Site 1 is suspected: its report does not count, and what was wanted from it is owed no more. A site without members changes nothing
suspected : Ran
suspected = then_led wanted (suspects 9 ∷ suspects 1 ∷ [])

without_it : SiteFrame
without_it = frame.Install (group 1) 3 (members (p21 ∷ []) p21) 1 [] (record { start = 0; ids = [] })

suspected_sent : suspected.sent ≡ (site 2, without_it) ∷ []
unfolding suspected wanted second flushed without_it
suspected_sent = refl

suspected_owed : map (λ o. o.key) suspected.state.owed ≡ home_key kinds.Install (group 1) (site 2) ∷ []
unfolding suspected wanted second flushed
suspected_owed = refl

-- a suspicion starts a flush, and Prepare is owed to the others
suspicion_starts : Ran
suspicion_starts = then_led at_second (suspects 1 ∷ comes 1 (flushed 2 [] []) ∷ comes 2 (flushed 2 [] []) ∷ [])

suspicion_starts_sent : suspicion_starts.sent ≡ (site 2, frame.Prepare (group 1) 2) ∷ (site 2, without_it) ∷ []
unfolding suspicion_starts second flushed without_it
suspicion_starts_sent = refl

-- elsewhere than at the home it changes nothing
suspected_elsewhere : (s : State) (b : SiteNo) → is_home history s ≡ false → suspect history s b ≡ s
suspected_elsewhere s b away = ap (λ c. if c then fold (suspect_in history b) s s.config.groups else s) away
