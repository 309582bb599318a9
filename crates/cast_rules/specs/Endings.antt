-- The rest after an event ends: what each change of a pass lowers, and the laws that follow.
use Rattle.std.specs.Prelude.{◌≡◌, ℕ, ◌+◌, ◌*◌, ◌<◌, ◌⊎◌, Bool, not, ◌&&◌}
use Rattle.std.specs.Prelude.{if◌then◌else◌, List, [], ◌∷◌, length, filter, Some, None}
use Rattle.std.specs.List.{list_any, find}
use Rattle.cast_types.specs.declared.names.GroupNo.{GroupNo}
use Rattle.cast_types.specs.declared.names.Uid.{Uid}
use Rattle.cast_types.specs.Names.{uid_eq, is_atomic}
use Rattle.cast_types.specs.Repeat.{iterate}
use Rattle.cast_message.specs.declared.message.Message.{Message}
use Rattle.cast_message.specs.Bodies.{kind_of}
use Rattle.cast_ready.specs.Ready.{has_delivered, covered_entries}
use Rattle.cast_view.specs.declared.phase.Phase.{Phase}
use Rattle.cast_view.specs.declared.phase.Phase.TheVariants.{Idle, Gathering, Installing}
use Rattle.cast_view.specs.Home.{Home, is_empty}
use Rattle.cast_view.specs.MemberSide.{is_pending}
use Rattle.cast_timer.specs.Owed.{is_owed}
use Rattle.cast_rules.specs.Rules.Keys.{want_key}
use Rattle.cast_rules.specs.Rules.Home.{wants}
use Rattle.cast_rules.specs.Rules.Flushes.{own_want_key}
use Rattle.cast_rules.specs.History.{history}
use Rattle.cast_rules.specs.State.{State, serials}
use Rattle.cast_rules.specs.Order.{is_of_view, unlisted_ids}
use Rattle.cast_rules.specs.Turns.{is_ready_for}
use Rattle.cast_rules.specs.Rest.{deliver_first, deliver_all, pass, RestsAt}

-- the sum over a list
abbrev pub total : {A : Type 0} → (A → ℕ) → List A → ℕ
total f [] = 0
total f (x ∷ xs) = f x + total f xs

abbrev pub one_if : Bool → ℕ
one_if b = if b then 1 else 0

-- how many messages are not among these
abbrev pub left_count : List Uid → List Message → ℕ
left_count ids [] = 0
left_count ids (m ∷ got) = one_if (not (list_any (uid_eq m.id) ids)) + left_count ids got

-- how many pairs of a process and a message that it has not delivered there are
abbrev pub undelivered_count : State → ℕ
undelivered_count s = total (λ k. left_count (s.process k).delivered s.got) (serials s)

-- how many more starts and decisions a group's home can come to at the most: by its phase, by
-- whether no site is suspected (calm), and by whether nothing is to change (none). A decision
-- leaves no site suspected, and joins only where one was
abbrev pub rank_of : Phase → Bool → Bool → ℕ
rank_of Idle calm none = if none then 0 else if calm then 2 else 4
rank_of (Gathering awaited reports bodies) calm none = if calm then 1 else 3
rank_of (Installing waiting decision bodies) calm none = 0

abbrev pub rank : Home → ℕ
rank h =
    rank_of h.phase (is_empty h.suspected)
    (is_empty h.joins && (is_empty h.leavings && is_empty h.suspected))

abbrev pub ranks : State → ℕ
ranks s = total (λ g. rank (s.home g)) s.config.groups

-- an ABCAST of a group's view that a process of this site has not delivered
abbrev pub is_to_come : State → GroupNo → ℕ → Message → Bool
is_to_come s g k m =
    is_of_view s g m.id && (is_atomic (kind_of m.body) && not (has_delivered (s.process k) m.id))

-- how many ABCASTs a process of this site has still to list, delivered or not
abbrev pub to_list_by : State → GroupNo → ℕ → ℕ
to_list_by s g k = length (unlisted_ids s g k) + length (filter (is_to_come s g k) s.got)

-- how many all of them have: any may come to hold the token
abbrev pub to_list_in : State → GroupNo → ℕ
to_list_in s g = total (to_list_by s g) (serials s)

abbrev pub to_list : State → ℕ
to_list s = total (to_list_in s) s.config.groups

-- what is to be done at the most: a set-order message lists an ABCAST, and is one more message for
-- each process
abbrev pub to_do : State → ℕ
to_do s = undelivered_count s + ranks s + (s.used + 1) * to_list s

-- how many frames Want that a group's home is to owe are not owed yet
abbrev pub home_unowed : State → GroupNo → ℕ
home_unowed s g = total (λ w. one_if (not (is_owed s.owed (want_key g w)))) (wants history s g)

-- and how many that the site is to owe at the most, for what the cut of an Install that waits
-- covers
abbrev pub site_unowed : State → GroupNo → ℕ
site_unowed s g =
    elim (s.group g).pending [
      | Some p ↦
          total (λ e. one_if (not (is_owed s.owed (own_want_key history s g e))))
          (covered_entries p.cut)
      | None ↦ 0
    ]

abbrev pub unowed_in : State → GroupNo → ℕ
unowed_in s g = home_unowed s g + site_unowed s g

abbrev pub unowed_count : State → ℕ
unowed_count s = total (unowed_in s) s.config.groups

-- in how many groups an Install waits
abbrev pub pendings : State → ℕ
pendings s = total (λ g. one_if (is_pending (s.group g))) s.config.groups

-- less is to be done, or as much, and fewer Wants are still to be owed
abbrev pub Lessens : State → State → Type 0
Lessens s t = (to_do t < to_do s) ⊎ ((to_do t ≡ to_do s) × (unowed_count t < unowed_count s))

-- fewer Installs wait, whatever is to be done then; or as many, and less is to be done
abbrev pub Falls : State → State → Type 0
Falls s t = (pendings t < pendings s) ⊎ ((pendings t ≡ pendings s) × Lessens s t)

-- a move of a pass changes nothing, or lowers one of these
pub record Moves (s : State) (t : State) : Type 0 where
  pub config : t.config ≡ s.config
  pub used : t.used ≡ s.used
  pub way : (t ≡ s) ⊎ Falls s t

-- a pass changes nothing, or lowers one of these
abbrev pub PassMoves : Type 0
PassMoves = (s : State) → Moves s (pass s)

-- each state comes to rest
abbrev pub EachComesToRest : Type 0
EachComesToRest = (s : State) → (t : State) × RestsAt s t

-- and at one state alone
abbrev pub RestIsOne : Type 0
RestIsOne = (s t u : State) → RestsAt s t → RestsAt s u → t ≡ u

-- nothing is ready for a process that has delivered all that it can
abbrev pub SettlesOne : Type 0
SettlesOne =
    (s : State) (k : ℕ) → find (is_ready_for (deliver_all s k) k) (deliver_all s k).got ≡ None

-- however many turns were taken: where nothing is ready, that was all
abbrev pub TurnsAreEnough : Type 0
TurnsAreEnough =
    (s : State) (k : ℕ) (n : ℕ) →
    find (is_ready_for (iterate n (deliver_first k) s) k) (iterate n (deliver_first k) s).got
    ≡ None → iterate n (deliver_first k) s ≡ deliver_all s k
