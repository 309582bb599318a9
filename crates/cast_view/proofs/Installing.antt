-- What a site does with its side of a group, by worked examples.
use Rattle.std.specs.Prelude.{◌≡◌, ℕ, true, false, List, [], ◌∷◌, Some, None, refl}
use Rattle.cast_types.specs.declared.names.SiteNo.{SiteNo}
use Rattle.cast_types.specs.declared.names.Proc.{Proc}
use Rattle.cast_types.specs.declared.names.Standing.TheVariants.{Outside, Joining}
use Rattle.cast_types.specs.Names.{Entry}
use Rattle.cast_message.specs.declared.site.Change.TheVariants as change
use Rattle.cast_message.specs.Membership.{Membership}
use Rattle.cast_view.specs.declared.member.Pending.{Pending}
use Rattle.cast_view.specs.declared.member.Verdict.TheVariants.{Again, Skips, Completes, Pends, Ignored}
use Rattle.cast_view.specs.MemberSide.{MemberSide, no_group, members_of, holder_at, with_request}
use Rattle.cast_view.specs.MemberSide.{with_answer, first_asking, answers_prepare, after_prepare, report_of}
use Rattle.cast_view.specs.MemberSide.{verdict_of, after_install, with_view, after_out, is_taken_in}

abbrev site : ℕ → SiteNo
site n = record { 0 = n }

-- the first process of a site
abbrev first_of : ℕ → Proc
first_of s = record { site = site s; serial = 1 }

abbrev view_of : List Proc → Membership
view_of members = record { list = members; holder = Some (first_of 1) }

-- the first processes of sites 1, 2 and 3 are the members of the group's third view
abbrev of_three : Membership
of_three = view_of (first_of 1 ∷ first_of 2 ∷ first_of 3 ∷ [])

abbrev of_two : Membership
of_two = view_of (first_of 1 ∷ first_of 2 ∷ [])

-- the group at site 1
three : MemberSide
three = with_view (site 1) 3 of_three no_group

holds_here : holder_at (site 1) three ≡ Some (first_of 1)
unfolding three
holds_here = refl

holds_there : holder_at (site 2) three ≡ None
unfolding three
holds_there = refl

-- Prepare of the view is answered as often as it comes, and Prepare of another one is not. The first answer freezes

prepared : MemberSide
prepared = after_prepare three 3

answered : answers_prepare three 3 ≡ true
unfolding three
answered = refl

frozen : prepared.frozen ≡ true
unfolding prepared three
frozen = refl

answered_again : answers_prepare prepared 3 ≡ true
unfolding prepared three
answered_again = refl

frozen_once : after_prepare prepared 3 ≡ prepared
unfolding prepared three
frozen_once = refl

not_of_this_view : after_prepare three 4 ≡ three
unfolding three
not_of_this_view = refl

-- The site reports of each member the greatest count of what its processes had: 1.1 delivered one message of 2.1 and two
-- of 3.1, a process that left had delivered two and one, and one outside the view counts for nothing

had : List Entry
had = (first_of 2, 1) ∷ (first_of 3, 2) ∷ (first_of 2, 2) ∷ (first_of 3, 1) ∷ (first_of 4, 7) ∷ []

reported : (report_of three had (record { start = 0; ids = [] }) []).counts ≡ (first_of 2, 2) ∷ (first_of 3, 2) ∷ []
unfolding three had
reported = refl

-- The next view is installed: it waits, also where no Prepare came. While it waits, Prepare is not answered any more, and the
-- Install, when it comes again, is ignored whatever it says

abbrev next : Pending
next = record { members = of_two; request = 1; cut = (first_of 3, 2) ∷ [] }

abbrev other : Pending
other = record { members = of_three; request = 2; cut = [] }

waiting : MemberSide
waiting = after_install prepared 4 next

pends : verdict_of prepared 4 ≡ Pends
unfolding prepared three
pends = refl

pends_without_prepare : after_install three 4 next ≡ waiting
unfolding waiting prepared three
pends_without_prepare = refl

waits : waiting.pending ≡ Some next
unfolding waiting prepared three
waits = refl

not_prepared : after_prepare waiting 3 ≡ waiting
unfolding waiting prepared three
not_prepared = refl

not_answered : answers_prepare waiting 3 ≡ false
unfolding waiting prepared three
not_answered = refl

ignored : verdict_of waiting 4 ≡ Ignored
unfolding waiting prepared three
ignored = refl

still_waits : after_install waiting 4 other ≡ waiting
unfolding waiting prepared three
still_waits = refl

-- It is completed: the site has the view, and the Install is answered again from then on. Site 3, which has no member in it,
-- has none

completed : with_view (site 1) 4 of_two waiting ≡ record {
  number = 4;
  view = Some of_two;
  frozen = false;
  pending = None;
  asked = 0;
  requests = [];
}
unfolding waiting prepared three
completed = refl

again : verdict_of (with_view (site 1) 4 of_two waiting) 4 ≡ Again
unfolding waiting prepared three
again = refl

no_view : with_view (site 3) 4 of_two (with_view (site 3) 3 of_three no_group) ≡ record no_group { number = 4 }
no_view = refl

-- An Install that skips a view puts the members out first, also where another one waits. Then it is completed

skips : verdict_of three 5 ≡ Skips
unfolding three
skips = refl

skips_what_waits : verdict_of waiting 5 ≡ Skips
unfolding waiting prepared three
skips_what_waits = refl

put_out : after_out waiting 5 ≡ record no_group { number = 5 }
unfolding waiting prepared three
put_out = refl

entered : members_of (with_view (site 1) 5 of_two (after_out waiting 5)) ≡ first_of 1 ∷ first_of 2 ∷ []
unfolding waiting prepared three
entered = refl

-- Site 3 was left out of view 4, and is told so. 3.1 joins again and is installed in view 5; what was told comes once more,
-- and does nothing

left_out : MemberSide
left_out = after_out (with_view (site 3) 3 of_three no_group) 4

none_is_left : members_of left_out ≡ []
unfolding left_out
none_is_left = refl

completes : verdict_of left_out 5 ≡ Completes
unfolding left_out
completes = refl

is_back : MemberSide
is_back = with_view (site 3) 5 of_three left_out

is_not_put_out : after_out is_back 4 ≡ is_back
unfolding is_back left_out
is_not_put_out = refl

is_not_put_out_of_it : after_out is_back 5 ≡ is_back
unfolding is_back left_out
is_not_put_out_of_it = refl

-- Two requests are made, the first is answered, and a third one is made

abbrev two_requests : MemberSide
two_requests = with_request (with_request no_group change.Join (first_of 1)) change.Leave (first_of 1)

sent_first : first_asking two_requests.requests ≡ Some (record { number = 1; change = change.Join; proc = first_of 1 })
sent_first = refl

left_to_answer : (with_request (with_answer two_requests) change.Join (first_of 1)).requests
    ≡ record { number = 2; change = change.Leave; proc = first_of 1 } ∷ record { number = 3; change = change.Join; proc = first_of 1 } ∷ []
left_to_answer = refl

-- The Install says that request 1 had been applied: who joins by it is taken in, and who joins by the third is not

by_the_first : is_taken_in 1 (Joining 1 0) ≡ true
by_the_first = refl

by_the_third : is_taken_in 1 (Joining 3 0) ≡ false
by_the_third = refl

not_who_left : is_taken_in 1 Outside ≡ false
not_who_left = refl
