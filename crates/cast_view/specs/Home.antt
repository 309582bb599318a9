-- A group at the home: its last decided view, what is to change, and the flush that runs.
use Rattle.std.specs.Prelude.{ℕ, ◌+◌, Bool, true, false, not, ◌&&◌, ◌==◌, nat_lt}
use Rattle.std.specs.Prelude.{nat_le, if◌then◌else◌, List, [], ◌∷◌, ◌++◌, length}
use Rattle.std.specs.Prelude.{filter, Option, Some, None, unwrap_or}
use Rattle.std.specs.FinMap.Entries.{find, put}
use Rattle.cast_types.specs.declared.limits.TheConstants.{MAX_MEMBERS, MAX_NUMBER}
use Rattle.cast_types.specs.declared.names.SiteNo.{SiteNo}
use Rattle.cast_types.specs.declared.names.GroupNo.{GroupNo}
use Rattle.cast_types.specs.declared.names.Proc.{Proc}
use Rattle.cast_types.specs.Names.{Entry, site_eq, proc_eq, site_cmp, proc_cmp}
use Rattle.cast_types.specs.Sets.{is_among, set_of, with_item, with_items, without, apart_from}
use Rattle.cast_message.specs.declared.message.Message.{Message}
use Rattle.cast_message.specs.declared.site.Change.{Change}
use Rattle.cast_message.specs.declared.site.Change.TheVariants as change
use Rattle.cast_message.specs.Membership.{Membership}
use Rattle.cast_flush.specs.declared.report.Report.{Report}
use Rattle.cast_view.specs.Sites.{sites_of}
use Rattle.cast_view.specs.declared.phase.Answer.{Answer}
use Rattle.cast_view.specs.declared.phase.Decision.{Decision}
use Rattle.cast_view.specs.declared.phase.Phase.{Phase}
use Rattle.cast_view.specs.declared.phase.Phase.TheVariants.{Idle, Gathering, Installing}
use Rattle.cast_flush.specs.Reports.{Reports, has_report, is_complete, cut_from, wanting, wants_of}
use Rattle.cast_flush.specs.Decisions.{order_from}

pub record Home : Type 0 where
  -- the number of the last decided view, and its members
  pub number : ℕ
  pub members : Membership
  -- what is to change: the processes that are to come and to go, and the sites that are suspected
  pub joins : List Proc
  pub leavings : List Proc
  pub suspected : List SiteNo
  -- for each site its last request that was applied
  pub answers : List (SiteNo × Answer)
  pub phase : Phase

abbrev pub no_members : Membership
no_members = record { list = []; holder = None }

abbrev pub first_home : Home
first_home = record {
  number = 0;
  members = no_members;
  joins = [];
  leavings = [];
  suspected = [];
  answers = [];
  phase = Idle;
}

-- Requests

-- the last request of a site that was applied, first number 0
abbrev pub answer_in : List (SiteNo × Answer) → SiteNo → Answer
answer_in answers s = unwrap_or (find site_cmp s answers) (record { number = 0; full = false })

abbrev pub answer_of : Home → SiteNo → Answer
answer_of h s = answer_in h.answers s

abbrev pub is_leaving : Home → Proc → Bool
is_leaving h p = is_among proc_eq p h.leavings

abbrev pub is_suspected : Home → SiteNo → Bool
is_suspected h s = is_among site_eq s h.suspected

-- a member that is neither leaving nor at a suspected site
abbrev pub stays : Home → Proc → Bool
stays h p = not (is_leaving h p) && not (is_suspected h p.site)

-- whom the next views have, when nothing else changes
abbrev pub expected_members : Home → List Proc
expected_members h = set_of proc_cmp (filter (stays h) h.members.list ++ h.joins)

-- with p there would be more of them than a view may have
abbrev pub is_crowded : Home → Proc → Bool
is_crowded h p = nat_le MAX_MEMBERS (length (without proc_eq p (expected_members h)))

abbrev pub marked_leaving : Home → Proc → Home
marked_leaving h p =
    if is_among proc_eq p h.members.list
    then record h { leavings = with_item proc_cmp p h.leavings }
    else h

abbrev pub with_join : Home → Proc → Home
with_join h p = record (marked_leaving h p) { joins = with_item proc_cmp p h.joins }

abbrev pub with_leave : Home → Proc → Home
with_leave h p = record (marked_leaving h p) { joins = without proc_eq p h.joins }

-- a request is refused where it is a join of a process of the asking site and there is no room for
-- it
abbrev pub is_refused : Home → SiteNo → Change → Proc → Bool
is_refused h s change.Join p = site_eq p.site s && is_crowded h p
is_refused h s change.Leave p = false

abbrev pub changed_by : Home → Change → Proc → Home
changed_by h change.Join p = with_join h p
changed_by h change.Leave p = with_leave h p

-- a request changes the sets if its process is at the asking site, and it is not refused
abbrev pub after_change : Home → SiteNo → Change → Proc → Home
after_change h s what p =
    if site_eq p.site s && not (is_refused h s what p) then changed_by h what p else h

-- the request with this number is applied
abbrev pub after_request : Home → SiteNo → ℕ → Change → Proc → Home
after_request h s number what p =
    record (after_change h s what p) {
      answers = put site_cmp s (record { number = number; full = is_refused h s what p }) h.answers;
    }

abbrev pub is_next : Home → SiteNo → ℕ → Bool
is_next h s number = number == (answer_of h s).number + 1

-- the home after a request: the one after the last is applied
abbrev pub after_ask : Home → SiteNo → ℕ → Change → Proc → Home
after_ask h s number what p = if is_next h s number then after_request h s number what p else h

-- what the site is answered, where it is answered: whether its request is refused. The last request
-- is answered again, and a lower one as if it had been granted
abbrev pub answer_to : Home → SiteNo → ℕ → Change → Proc → Option Bool
answer_to h s number what p =
    if is_next h s number then Some (is_refused h s what p)
    else if number == (answer_of h s).number then Some (answer_of h s).full
    else if nat_lt number (answer_of h s).number then Some false else None

-- The flush

abbrev pub is_empty : {A : Type 0} → List A → Bool
is_empty [] = true
is_empty (x ∷ xs) = false

abbrev pub is_idle : Phase → Bool
is_idle Idle = true
is_idle (Gathering awaited reports bodies) = false
is_idle (Installing waiting decision bodies) = false

-- the sites whose reports are awaited
abbrev pub awaited_of : Phase → List SiteNo
awaited_of Idle = []
awaited_of (Gathering awaited reports bodies) = awaited
awaited_of (Installing waiting decision bodies) = []

-- the sites that are to install the view that is decided
abbrev pub waiting_of : Phase → List SiteNo
waiting_of Idle = []
waiting_of (Gathering awaited reports bodies) = []
waiting_of (Installing waiting decision bodies) = waiting

-- a flush is wanted, and may start
abbrev pub may_start : Home → Bool
may_start h =
    is_idle h.phase && (nat_lt h.number MAX_NUMBER
    && not (is_empty h.joins && (is_empty h.leavings && is_empty h.suspected)))

-- the sites whose reports it awaits
abbrev pub sites_to_await : Home → List SiteNo
sites_to_await h = apart_from site_eq (sites_of h.members.list) h.suspected

abbrev pub after_start : Home → Home
after_start h = if may_start h then record h { phase = Gathering (sites_to_await h) [] [] } else h

-- installing goes on until no site is waited for
abbrev pub installing : List SiteNo → Decision → List Message → Phase
installing [] decision bodies = Idle
installing (s ∷ waiting) decision bodies = Installing (s ∷ waiting) decision bodies

-- a site is not waited for any more
abbrev pub phase_without : SiteNo → Phase → Phase
phase_without s Idle = Idle
phase_without s (Gathering awaited reports bodies) =
    Gathering (without site_eq s awaited) (filter (λ r. not (site_eq s r.0)) reports) bodies
phase_without s (Installing waiting decision bodies) =
    installing (without site_eq s waiting) decision bodies

-- a site of members is suspected
abbrev pub with_suspect : Home → SiteNo → Home
with_suspect h s =
    record h {
      suspected = if is_among site_eq s (sites_of h.members.list)
          then with_item site_cmp s h.suspected
          else h.suspected;
    }

-- a site is suspected: its members do not come into the next view, and nothing is awaited from it
abbrev pub after_suspicion : Home → SiteNo → Home
after_suspicion h s = record (with_suspect h s) { phase = phase_without s h.phase }

-- the site is awaited, and has not yet reported
abbrev pub awaits_report : Phase → SiteNo → Bool
awaits_report Idle s = false
awaits_report (Gathering awaited reports bodies) s =
    is_among site_eq s awaited && not (has_report reports s)
awaits_report (Installing waiting decision bodies) s = false

abbrev pub phase_with_report : SiteNo → Report → Phase → Phase
phase_with_report s r Idle = Idle
phase_with_report s r (Gathering awaited reports bodies) =
    Gathering awaited (put site_cmp s r reports) bodies
phase_with_report s r (Installing waiting decision bodies) = Installing waiting decision bodies

-- a report counts where it is the first of this view from a site that is awaited
abbrev pub takes_report : Home → SiteNo → ℕ → Bool
takes_report h s view = (view == h.number) && awaits_report h.phase s

-- the home once a report came
abbrev pub after_report : Home → SiteNo → ℕ → Report → Home
after_report h s view r =
    if takes_report h s view then record h { phase = phase_with_report s r h.phase } else h

abbrev pub phase_with_body : Message → Phase → Phase
phase_with_body m Idle = Idle
phase_with_body m (Gathering awaited reports bodies) = Gathering awaited reports (bodies ++ m ∷ [])
phase_with_body m (Installing waiting decision bodies) = Installing waiting decision bodies

abbrev pub after_body : Home → Message → Home
after_body h m = record h { phase = phase_with_body m h.phase }

abbrev pub bodies_of : Phase → List Message
bodies_of Idle = []
bodies_of (Gathering awaited reports bodies) = bodies
bodies_of (Installing waiting decision bodies) = bodies

-- the messages that are wanted, each with the site that it is wanted from, once all sites have
-- reported
abbrev pub wants_in : GroupNo → Home → Phase → List (SiteNo × Entry)
wants_in g h Idle = []
wants_in g h (Gathering awaited reports bodies) =
    if is_complete awaited reports
    then wants_of g h.number (cut_from h.members.list reports) reports bodies
    else []
wants_in g h (Installing waiting decision bodies) = []

-- The decision

-- all reports and all bodies are there
abbrev pub may_decide_in : GroupNo → Home → Phase → Bool
may_decide_in g h Idle = false
may_decide_in g h (Gathering awaited reports bodies) =
    is_complete awaited reports
    && is_empty (wanting g h.number (cut_from h.members.list reports) reports bodies)
may_decide_in g h (Installing waiting decision bodies) = false

abbrev pub may_decide : GroupNo → Home → Bool
may_decide g h = may_decide_in g h h.phase

-- the members that stay, and the joins that are not at suspected sites
abbrev pub decided_list : Home → List Proc
decided_list h =
    set_of proc_cmp
    (filter (stays h) h.members.list ++ filter (λ p. not (is_suspected h p.site)) h.joins)

abbrev pub least_of : List Proc → Option Proc
least_of [] = None
least_of (p ∷ ps) = Some p

-- the holder stays if it was not leaving and is still a member, and else it is the least member
abbrev pub decided_holder : Home → List Proc → Option Proc
decided_holder h members =
    elim h.members.holder [
      | Some p ↦
          (if not (is_leaving h p) && is_among proc_eq p members then Some p else least_of members)
      | None ↦ least_of members
    ]

abbrev pub decided_members : Home → Membership
decided_members h = record { list = decided_list h; holder = decided_holder h (decided_list h) }

-- what goes with the next view
abbrev pub decision_of : Home → Reports → Decision
decision_of h reports =
    let cut : List Entry = cut_from h.members.list reports in
    record { cut = cut; tail = order_from cut reports; answers = h.answers }

-- the phase after the decision: the sites of the new view, and those that were awaited, are to
-- install it
abbrev pub decided_phase : Home → List Proc → Phase → Phase
decided_phase h members Idle = Idle
decided_phase h members (Gathering awaited reports bodies) =
    installing (with_items site_cmp (sites_of members) awaited) (decision_of h reports) bodies
decided_phase h members (Installing waiting decision bodies) = Installing waiting decision bodies

-- the next view is decided. Joins from suspected sites stay for the one after it
abbrev pub decide_view : Home → Home
decide_view h =
    record h {
      number = h.number + 1;
      members = decided_members h;
      joins = filter (λ p. is_suspected h p.site) h.joins;
      leavings = [];
      suspected = [];
      phase = decided_phase h (decided_list h) h.phase;
    }

abbrev pub after_decision : GroupNo → Home → Home
after_decision g h = if may_decide g h then decide_view h else h

-- a site is still to answer that it has installed the view
abbrev pub awaits_installed : Phase → SiteNo → Bool
awaits_installed Idle s = false
awaits_installed (Gathering awaited reports bodies) s = false
awaits_installed (Installing waiting decision bodies) s = is_among site_eq s waiting

abbrev pub takes_installed : Home → SiteNo → ℕ → Bool
takes_installed h s n = (n == h.number) && awaits_installed h.phase s

abbrev pub after_installed : Home → SiteNo → ℕ → Home
after_installed h s n =
    if takes_installed h s n then record h { phase = phase_without s h.phase } else h

-- All that changes a group at the home

pub data HomeMove : Type 0 where
  -- a site's request comes
  Asked : (from : SiteNo) (number : ℕ) (what : Change) (p : Proc) → HomeMove
  -- a site is suspected
  Suspected : (site : SiteNo) → HomeMove
  -- a flush starts
  Started : HomeMove
  -- a site reports what it has of a view
  Reported : (from : SiteNo) (view : ℕ) (report : Report) → HomeMove
  -- a message comes that some sites lack
  Brought : (message : Message) → HomeMove
  -- the next view is decided
  Decided : HomeMove
  -- a site has installed a view
  Installed : (from : SiteNo) (view : ℕ) → HomeMove

abbrev pub apply_move : HomeMove → Home → Home
apply_move (Asked from number what p) h = after_ask h from number what p
apply_move (Suspected site) h = after_suspicion h site
apply_move Started h = after_start h
apply_move (Reported from view report) h = after_report h from view report
apply_move (Brought message) h = after_body h message
apply_move Decided h = decide_view h
apply_move (Installed from view) h = after_installed h from view

-- What holds at all times: the next views have room for whom they are to have, and a flush runs
-- only where a number is left for the next view

abbrev pub has_next_number : ℕ → Phase → Bool
has_next_number n Idle = true
has_next_number n (Gathering awaited reports bodies) = nat_lt n MAX_NUMBER
has_next_number n (Installing waiting decision bodies) = true

abbrev pub is_sound : Home → Bool
is_sound h = nat_le (length (expected_members h)) MAX_MEMBERS && has_next_number h.number h.phase
