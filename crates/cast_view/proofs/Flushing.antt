-- What the home decides, by worked examples.
use Rattle.std.specs.Prelude.{◌≡◌, ℕ, zero, suc, true, false, List, [], ◌∷◌, ◌++◌, Some, refl}
use Rattle.cast_types.specs.declared.names.SiteNo.{SiteNo}
use Rattle.cast_types.specs.declared.names.GroupNo.{GroupNo}
use Rattle.cast_types.specs.declared.names.Proc.{Proc}
use Rattle.cast_types.specs.Names.{Entry, uid_in}
use Rattle.cast_types.specs.Counts.{CountList}
use Rattle.cast_message.specs.declared.message.Body.TheVariants as body
use Rattle.cast_message.specs.declared.message.Message.{Message}
use Rattle.cast_message.specs.declared.site.Change.TheVariants as change
use Rattle.cast_message.specs.KeptIds.{KeptList}
use Rattle.cast_message.specs.Tail.{Tail}
use Rattle.cast_flush.specs.declared.report.Report.{Report}
use Rattle.cast_view.specs.declared.phase.Phase.TheVariants.{Installing}
use Rattle.cast_view.specs.Home.{Home, first_home, answer_to, after_ask, after_suspicion, after_start}
use Rattle.cast_view.specs.Home.{after_report, after_body, wants_in, after_decision, after_installed}

abbrev site : ℕ → SiteNo
site n = record { 0 = n }

-- the first process of a site
abbrev first_of : ℕ → Proc
first_of s = record { site = site s; serial = 1 }

abbrev group : GroupNo
group = record { 0 = 1 }

abbrev no_tail : Tail
no_tail = record { start = 0; ids = [] }

abbrev report : CountList → List Entry → KeptList → Report
report counts ids kept = record { counts = counts; tail = record { start = 0; ids = ids }; kept = kept }

abbrev nothing : Report
nothing = report [] [] []

-- a message of the group's third view
abbrev message : Proc → ℕ → Message
message p n = record { id = uid_in group 3 (p, n); times = []; body = body.Causal [] }

-- the first processes of sites 1, 2 and 3 have joined, one view after another; site 1 has the holder
abbrev three : Home
three =
    record first_home {
      number = 3;
      members = record { list = first_of 1 ∷ first_of 2 ∷ first_of 3 ∷ []; holder = Some (first_of 1) };
    }

-- Site 3 is suspected. Site 1 keeps its second message, and site 2 has delivered the first: that one belongs to the
-- view, and the home wants it from site 2

abbrev suspected : Home
suspected = after_start (after_suspicion three (site 3))

reported : Home
reported =
    after_report (after_report suspected (site 1) 3 (report [] [] (((first_of 3, 2), false) ∷ []))) (site 2) 3
    (report ((first_of 3, 1) ∷ []) [] (((first_of 3, 1), false) ∷ []))

wants_from_site_2 : wants_in group reported reported.phase ≡ (site 2, (first_of 3, 1)) ∷ []
unfolding reported
wants_from_site_2 = refl

waits_for_the_message : after_decision group reported ≡ reported
unfolding reported
waits_for_the_message = refl

-- once it has come, the view of sites 1 and 2 is decided
decided_of_two : Home
decided_of_two = after_decision group (after_body reported (message (first_of 3) 1))

decides_without_site_3 : decided_of_two.members ≡ record { list = first_of 1 ∷ first_of 2 ∷ []; holder = Some (first_of 1) }
unfolding decided_of_two reported
decides_without_site_3 = refl

both_are_to_install : decided_of_two.phase ≡
    Installing (site 1 ∷ site 2 ∷ []) (record { cut = (first_of 3, 1) ∷ []; tail = no_tail; answers = [] }) (message (first_of 3) 1 ∷ [])
unfolding decided_of_two reported
both_are_to_install = refl

-- A process joins, leaves, and joins again while the flush runs: it is in the next view too, by its last request

joined : Home
joined =
    after_installed (after_decision group (after_start (after_ask first_home (site 1) 1 change.Join (first_of 1)))) (site 1) 1

first_view : joined.members ≡ record { list = first_of 1 ∷ []; holder = Some (first_of 1) }
unfolding joined
first_view = refl

joined_again : Home
joined_again =
    after_decision group
    (after_report (after_ask (after_start (after_ask joined (site 1) 2 change.Leave (first_of 1))) (site 1) 3 change.Join (first_of 1))
    (site 1) 1 nothing)

second_view : joined_again.members ≡ record { list = first_of 1 ∷ []; holder = Some (first_of 1) }
unfolding joined_again joined
second_view = refl

by_the_last_request : joined_again.phase ≡
    Installing (site 1 ∷ []) (record { cut = []; tail = no_tail; answers = (site 1, record { number = 3; full = false }) ∷ [] }) []
unfolding joined_again joined
by_the_last_request = refl

-- A view of 64 members, all at site 1, has no room: a join is refused, as often as it comes

members_of_site_1 : ℕ → List Proc
members_of_site_1 zero = []
members_of_site_1 (suc n) = members_of_site_1 n ++ record { site = site 1; serial = suc n } ∷ []

full : Home
full = record first_home { number = 64; members = record { list = members_of_site_1 64; holder = Some (first_of 1) } }

refused : answer_to full (site 2) 1 change.Join (first_of 2) ≡ Some true
unfolding full members_of_site_1
refused = refl

refused_again : answer_to (after_ask full (site 2) 1 change.Join (first_of 2)) (site 2) 1 change.Join (first_of 2) ≡ Some true
unfolding full members_of_site_1
refused_again = refl

-- Site 1 has an ABCAST of site 2 without a place, and site 2 knows its place and keeps the message that told it: that one
-- belongs to the view, the home wants it, and the order has the ABCAST once

ordered : Home
ordered =
    after_report (after_report suspected (site 1) 3
    (report ((first_of 1, 1) ∷ (first_of 2, 1) ∷ []) [] (((first_of 1, 1), false) ∷ ((first_of 2, 1), true) ∷ []))) (site 2) 3
    (report ((first_of 1, 1) ∷ (first_of 2, 2) ∷ []) ((first_of 2, 1) ∷ [])
    (((first_of 1, 1), false) ∷ ((first_of 2, 1), false) ∷ ((first_of 2, 2), false) ∷ []))

wants_the_order : wants_in group ordered ordered.phase ≡ (site 2, (first_of 2, 2)) ∷ []
unfolding ordered
wants_the_order = refl

one_place : (after_decision group (after_body ordered (message (first_of 2) 2))).phase ≡
    Installing (site 1 ∷ site 2 ∷ [])
    (record { cut = (first_of 1, 1) ∷ (first_of 2, 2) ∷ []; tail = record { start = 0; ids = (first_of 2, 1) ∷ [] }; answers = [] })
    (message (first_of 2) 2 ∷ [])
unfolding ordered
one_place = refl
