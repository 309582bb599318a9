-- The order of a view's ABCASTs at a site, which processes hold the token, what is to be listed.
-- The site knows the order from all set-order messages that it received. The holders are processes
-- of its own.
use Rattle.std.specs.Prelude.{ℕ, ◌+◌, ◌-◌, Bool, not, ◌&&◌, ◌==◌, nat_lt, if◌then◌else◌, List, []}
use Rattle.std.specs.Prelude.{◌∷◌, ◌++◌, length, map, filter, drop, Option, Some, None, is_some}
use Rattle.std.specs.List.{flat_map, fold, find}
use Rattle.cast_types.specs.declared.names.GroupNo.{GroupNo}
use Rattle.cast_types.specs.declared.names.Proc.{Proc}
use Rattle.cast_types.specs.declared.names.Uid.{Uid}
use Rattle.cast_types.specs.declared.limits.TheConstants.{MAX_POSITION}
use Rattle.cast_types.specs.Names.{Entry, group_eq, is_order, uid_in, entry_of}
use Rattle.cast_message.specs.declared.message.Body.{Body}
use Rattle.cast_message.specs.declared.message.Body.TheVariants as body
use Rattle.cast_message.specs.Bodies.{kind_of, new_holder}
use Rattle.cast_order.specs.Order.{Facts, facts_of, known_order, place_after}
use Rattle.cast_order.specs.Order.{still_to_list, Listing, last_listed, settled_places}
use Rattle.cast_ready.specs.Ready.{has_delivered}
use Rattle.cast_view.specs.Home.{is_empty}
use Rattle.cast_view.specs.MemberSide.{holder_of, is_process, is_pending}
use Rattle.cast_rules.specs.Acts.{Act}
use Rattle.cast_rules.specs.Acts.Act.{Sent, Delivered, Entered, Left}
use Rattle.cast_rules.specs.State.{State, local, serials, is_stable}

-- Set-order messages

-- what a message tells of its view's order: only a set-order message tells anything
abbrev pub told_by : Body → Facts
told_by (body.Causal payload) = []
told_by (body.Atomic payload) = []
told_by (body.Order s) = facts_of s

-- the last place that it tells
abbrev pub last_place : Body → ℕ
last_place (body.Causal payload) = 0
last_place (body.Atomic payload) = 0
last_place (body.Order s) = s.first + length s.ids - 1

-- a message of the group's last view
abbrev pub is_of_view : State → GroupNo → Uid → Bool
is_of_view s g u = group_eq u.group g && (u.view == (s.group g).number)

-- what all set-order messages of the view tell, in order of receipt
abbrev pub facts_in : State → GroupNo → Facts
facts_in s g = flat_map (λ m. told_by m.body) (filter (λ m. is_of_view s g m.id) s.got)

-- the order of the view, as far as they tell it without a gap
abbrev pub order_told : State → GroupNo → List Entry
order_told s g = known_order (facts_in s g)

-- the known order of the view: while the Install of the next one waits, the order that the view
-- ends with
abbrev pub order_of : State → GroupNo → List Entry
order_of s g = if is_pending (s.group g) then s.closed g else order_told s g

-- The token

-- who sends a hand-over holds the token no more
abbrev pub token_sent : Option ℕ → Body → Option ℕ
token_sent token b = elim (new_holder b) [ Some q ↦ None | None ↦ token ]

-- and who delivers one that names it holds the token, and orders the places from that of the
-- hand-over on
abbrev pub token_told : Proc → Option ℕ → Body → Option ℕ
token_told p token (body.Causal payload) = token
token_told p token (body.Atomic payload) = token
token_told p token (body.Order s) = if is_process p s.holder then Some s.first else token

-- the first place that a process orders, where it holds the token of a view, once it did something
-- more
abbrev pub token_after : (Uid → Bool) → Proc → Option ℕ → Act → Option ℕ
token_after is_of p token (Sent m) = if is_of m.id then token_sent token m.body else token
token_after is_of p token (Delivered m) = if is_of m.id then token_told p token m.body else token
token_after is_of p token (Entered g view cut) = token
token_after is_of p token (Left g) = token

-- the first place that a process of this site orders, where it holds the token of the group's view:
-- the one that the Install named orders all places
abbrev pub token_of : State → GroupNo → ℕ → Option ℕ
token_of s g k =
    fold (token_after (is_of_view s g) (local s k))
    (if is_process (local s k) (holder_of (s.group g)) then Some 1 else None) (s.acts k)

abbrev pub holds : State → GroupNo → ℕ → Bool
holds s g k = is_some (token_of s g k)

-- the processes of this site that hold it, by serial
abbrev pub holders : State → GroupNo → List ℕ
holders s g = filter (holds s g) (serials s)

-- the first of them
abbrev pub holder_here : State → GroupNo → Option ℕ
holder_here s g = find (holds s g) (serials s)

-- a process that holds it sets the order, while no flush has frozen the group
abbrev pub sets_order : State → GroupNo → ℕ → Bool
sets_order s g k = holds s g k && not (s.group g).frozen

-- the ABCASTs of the view that a process of this site has delivered, in its order
abbrev pub abcasts_delivered : State → GroupNo → ℕ → List Entry
abcasts_delivered s g k = map entry_of (filter (is_of_view s g) (s.abcasts k))

-- those that are not in the order told
abbrev pub unlisted_ids : State → GroupNo → ℕ → List Entry
unlisted_ids s g k = still_to_list (abcasts_delivered s g k) (order_told s g)

-- the order, and behind it those, for which the next places are
abbrev pub order_by : State → GroupNo → ℕ → List Entry
order_by s g k = order_told s g ++ unlisted_ids s g k

-- a message that a process sent to set the order of a view: its count, and the last place that it
-- sets
abbrev pub listed_by : (Uid → Bool) → Act → Listing
listed_by is_of (Sent m) =
    if is_of m.id && is_order (kind_of m.body) then (m.id.count, last_place m.body) ∷ [] else []
listed_by is_of (Delivered m) = []
listed_by is_of (Entered g view cut) = []
listed_by is_of (Left g) = []

abbrev pub lists_of : State → GroupNo → ℕ → Listing
lists_of s g k = flat_map (listed_by (is_of_view s g)) (s.acts k)

-- how many places it has settled: those before its first one, and those up to the last one that its
-- stable messages set
abbrev pub settled_to : State → GroupNo → ℕ → ℕ
settled_to s g k =
    settled_places (token_of s g k)
    (last_listed
    (filter (λ x. is_stable s (uid_in g (s.group g).number (local s k, x.0))) (lists_of s g k)))

-- of the ids behind the places that it has settled, those that it has delivered
abbrev pub unsettled_ids : State → GroupNo → ℕ → List Entry
unsettled_ids s g k =
    filter (λ e. has_delivered (s.process k) (uid_in g (s.group g).number e))
    (drop (settled_to s g k) (order_by s g k))

-- there is a place behind an order
abbrev pub has_place : List Entry → Bool
has_place order = nat_lt (length order) MAX_POSITION

-- the place from which another process would order, where a process of this site has settled all
-- that it ordered
abbrev pub place_to_pass : State → GroupNo → ℕ → Option ℕ
place_to_pass s g k =
    if is_empty (unsettled_ids s g k) && has_place (order_by s g k)
    then Some (place_after (order_by s g k))
    else None
