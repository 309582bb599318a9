-- A group at one site: its last known view, how far a flush of it has come, and requests.
-- The requests are those of the site's processes to the home.
use Rattle.std.specs.Prelude.{ℕ, ◌+◌, max, Bool, true, false, not, ◌&&◌, ◌||◌}
use Rattle.std.specs.Prelude.{◌==◌, nat_lt, nat_le, if◌then◌else◌, List, [], ◌∷◌}
use Rattle.std.specs.Prelude.{◌++◌, length, map, filter, drop, Option, Some, None}
use Rattle.std.specs.List.{fold}
use Rattle.cast_types.specs.declared.limits.TheConstants.{MAX_NUMBER}
use Rattle.cast_types.specs.declared.names.SiteNo.{SiteNo}
use Rattle.cast_types.specs.declared.names.Proc.{Proc}
use Rattle.cast_types.specs.declared.names.Standing.{Standing}
use Rattle.cast_types.specs.declared.names.Standing.TheVariants.{Outside, Joining, Member}
use Rattle.cast_types.specs.Names.{Entry, site_eq, proc_eq}
use Rattle.cast_types.specs.Counts.{CountList}
use Rattle.cast_message.specs.declared.site.Change.{Change}
use Rattle.cast_message.specs.Membership.{Membership}
use Rattle.cast_message.specs.Tail.{Tail}
use Rattle.cast_message.specs.KeptIds.{KeptList}
use Rattle.cast_flush.specs.declared.report.Report.{Report}
use Rattle.cast_view.specs.declared.member.PendingRequest.{PendingRequest}
use Rattle.cast_view.specs.declared.member.Pending.{Pending}
use Rattle.cast_view.specs.declared.member.Verdict.{Verdict}
use Rattle.cast_view.specs.declared.member.Verdict.TheVariants.{Again, Skips, Completes}
use Rattle.cast_view.specs.declared.member.Verdict.TheVariants.{Pends, Ignored}
use Rattle.cast_view.specs.Sites.{local_view}

pub record MemberSide : Type 0 where
  -- the number of the last view that the site knows of, and that view while a member of it is at
  -- this site
  pub number : ℕ
  pub view : Option Membership
  -- a flush of the view has begun here: nothing is cast in it any more, and nothing delivered but
  -- within an Install's cut
  pub frozen : Bool
  -- the Install of the next view, while it waits until the members here have delivered its cut. The
  -- order that the view ends with stands with the log of that order
  pub pending : Option Pending
  -- how many requests there were, and those that the home has not answered, in order
  pub asked : ℕ
  pub requests : List PendingRequest

abbrev pub no_group : MemberSide
no_group = record {
  number = 0;
  view = None;
  frozen = false;
  pending = None;
  asked = 0;
  requests = [];
}

abbrev pub members_of : MemberSide → List Proc
members_of g = elim g.view [ Some m ↦ m.list | None ↦ [] ]

-- the member that the Install of the view named to set the order of its ABCASTs. It may have handed
-- that over since
abbrev pub holder_of : MemberSide → Option Proc
holder_of g = elim g.view [ Some m ↦ m.holder | None ↦ None ]

abbrev pub is_process : Proc → Option Proc → Bool
is_process p None = false
is_process p (Some q) = proc_eq q p

-- that member, where it is a process of a site
abbrev pub holder_at : SiteNo → MemberSide → Option Proc
holder_at here g = elim (holder_of g) [
  | Some p ↦ if site_eq p.site here then Some p else None
  | None ↦ None
]

abbrev pub has_view : MemberSide → Bool
has_view g = elim g.view [ Some m ↦ true | None ↦ false ]

-- the site has a view, and it has this number
abbrev pub is_current : MemberSide → ℕ → Bool
is_current g view = has_view g && (g.number == view)

-- and no flush has frozen it
abbrev pub is_open_to : MemberSide → ℕ → Bool
is_open_to g view = is_current g view && not g.frozen

abbrev pub is_pending : MemberSide → Bool
is_pending g = elim g.pending [ Some p ↦ true | None ↦ false ]

-- Requests

-- one more request is queued
abbrev pub with_request : MemberSide → Change → Proc → MemberSide
with_request g what p =
    record g {
      asked = g.asked + 1;
      requests = g.requests ++ record { number = g.asked + 1; change = what; proc = p } ∷ [];
    }

abbrev pub first_asking : List PendingRequest → Option PendingRequest
first_asking [] = None
first_asking (a ∷ rest) = Some a

-- the first request is answered
abbrev pub with_answer : MemberSide → MemberSide
with_answer g = record g { requests = drop 1 g.requests }

-- Prepare

-- Prepare of a view is answered while it is the site's, as often as it comes, until an Install
-- waits
abbrev pub answers_prepare : MemberSide → ℕ → Bool
answers_prepare g view = is_current g view && not (is_pending g)

-- from the first answer on the group is frozen
abbrev pub frozen_side : MemberSide → MemberSide
frozen_side g = record g { frozen = true }

abbrev pub after_prepare : MemberSide → ℕ → MemberSide
after_prepare g view = if answers_prepare g view then frozen_side g else g

-- the greatest of the counts that are lent for a process
abbrev pub greatest_of : List Entry → Proc → ℕ
greatest_of had p = fold (λ n e. if proc_eq e.0 p then max n e.1 else n) 0 had

-- of each process the count that is not 0
abbrev pub counts_by : (Proc → ℕ) → List Proc → CountList
counts_by count procs = filter (λ e. nat_lt 0 e.1) (map (λ p. (p, count p)) procs)

-- what the site answers: of each member of the view the greatest count of what processes here had,
-- and the end of the order and the messages that are kept as they are lent
abbrev pub report_of : MemberSide → List Entry → Tail → KeptList → Report
report_of g had tail kept = record {
  counts = counts_by (greatest_of had) (members_of g);
  tail = tail;
  kept = kept;
}

-- Install

-- what a site does with an Install: of a number that it has reached it is answered again; where it
-- skips a number the members are put out first; without a view it is completed at once; else it
-- waits, unless one waits already
abbrev pub verdict_of : MemberSide → ℕ → Verdict
verdict_of g n =
    if nat_le n g.number then Again
    else if nat_lt (g.number + 1) n then Skips
    else if not (has_view g) then Completes
    else if is_pending g then Ignored else Pends

-- an Install waits, and the group is frozen
abbrev pub with_pending : MemberSide → Pending → MemberSide
with_pending g p = record g { frozen = true; pending = Some p }

abbrev pub after_install : MemberSide → ℕ → Pending → MemberSide
after_install g n p =
    elim (verdict_of g n) [
      | Again ↦ g
      | Skips ↦ g
      | Completes ↦ g
      | Pends ↦ with_pending g p
      | Ignored ↦ g
    ]

-- the view has ended, and another one has come or none
abbrev pub with_end : MemberSide → ℕ → Option Membership → MemberSide
with_end g n view = record g { number = n; view = view; frozen = false; pending = None }

-- the site's number and view after an Install
abbrev pub with_view : SiteNo → ℕ → Membership → MemberSide → MemberSide
with_view here n members g = with_end g n (local_view here members)

-- whether a process that a view names is taken in: it is a member, or is joining by a request that
-- the home had applied
abbrev pub is_taken_in : ℕ → Standing → Bool
is_taken_in request Outside = false
is_taken_in request (Joining number heard) = nat_le number request
is_taken_in request Member = true

-- Out

-- a site is told of a view without members here: it counts where the site has not reached its
-- number
abbrev pub is_put_out_by : MemberSide → ℕ → Bool
is_put_out_by g n = nat_lt g.number n

abbrev pub after_out : MemberSide → ℕ → MemberSide
after_out g n = if is_put_out_by g n then with_end g n None else g

-- What holds at all times: only a view is frozen, an Install waits only in a frozen group and only
-- where its number is left, and requests have numbers from 1 on without a gap, the last one's being
-- how many there were

abbrev pub only_view_is_frozen : MemberSide → Bool
only_view_is_frozen g = not g.frozen || has_view g

abbrev pub only_frozen_waits : MemberSide → Bool
only_frozen_waits g = not (is_pending g) || (g.frozen && nat_lt g.number MAX_NUMBER)

abbrev pub are_numbered_to : ℕ → List PendingRequest → Bool
are_numbered_to last [] = true
are_numbered_to last (a ∷ rest) =
    nat_lt 0 a.number && ((a.number + length rest == last) && are_numbered_to last rest)

abbrev pub is_sound : MemberSide → Bool
is_sound g = only_view_is_frozen g && (only_frozen_waits g && are_numbered_to g.asked g.requests)
