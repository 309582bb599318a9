-- What a site has of a group's view that is flushed, as it reports it, and what it lacks of it.
use Rattle.std.specs.Prelude.{Bool, not, ◌&&◌, ◌||◌, min, List, [], ◌++◌, map, filter, take}
use Rattle.std.specs.List.{list_all, list_any, flat_map}
use Rattle.std.specs.Option.{option_map_or}
use Rattle.cast_types.specs.declared.names.GroupNo.{GroupNo}
use Rattle.cast_types.specs.declared.names.Uid.{Uid}
use Rattle.cast_types.specs.declared.limits.TheConstants.{MAX_POSITION, MAX_KEPT, MAX_PLACED}
use Rattle.cast_types.specs.Names.{Entry, site_eq, entry_eq, entry_cmp, is_atomic, uid_in, entry_of}
use Rattle.cast_types.specs.Sets.{is_among, set_of}
use Rattle.cast_types.specs.Counts.{CountList}
use Rattle.cast_message.specs.declared.message.Message.{Message}
use Rattle.cast_message.specs.Bodies.{kind_of}
use Rattle.cast_message.specs.Tail.{Tail}
use Rattle.cast_message.specs.KeptIds.{KeptList}
use Rattle.cast_ready.specs.Ready.{has_delivered, covered_entries}
use Rattle.cast_order.specs.Order.{tail_start, tail_ids}
use Rattle.cast_flush.specs.declared.report.Report.{Report}
use Rattle.cast_view.specs.MemberSide.{report_of}
use Rattle.cast_rules.specs.State.{State, serials, is_received, local_members}
use Rattle.cast_rules.specs.Order.{is_of_view, order_told, holder_here, unlisted_ids}

-- Reports

-- the messages of the group's view that processes of this site had: what each delivered, also one
-- that left, and what they sent
abbrev pub had_here : State → List Uid
had_here s =
    flat_map (λ k. (s.process k).delivered) (serials s)
    ++ filter (λ u. site_eq u.proc.site s.here) (map (λ m. m.id) s.got)

abbrev pub had_in : State → GroupNo → List Entry
had_in s g = map entry_of (filter (is_of_view s g) (had_here s))

-- the ABCASTs that who holds the token has still to list, where it is a process of this site, also
-- one that left
abbrev pub unlisted_here : State → GroupNo → List Entry
unlisted_here s g = option_map_or (unlisted_ids s g) (holder_here s g) []

-- the order of the view, and behind it those
abbrev pub whole_order : State → GroupNo → List Entry
whole_order s g = order_told s g ++ unlisted_here s g

-- the end of an order. No more places than there are stand before it
abbrev pub tail_of : List Entry → Tail
tail_of order = record { start = min MAX_POSITION (tail_start order); ids = tail_ids order }

-- one of these messages is an ABCAST of this name, for which an order has no place
abbrev pub is_unplaced : List Message → List Entry → Entry → Bool
is_unplaced kept order e =
    list_any (λ m. is_atomic (kind_of m.body) && entry_eq (entry_of m.id) e) kept
    && not (is_among entry_eq e order)

-- the names of these messages in order, each marked where it is such an ABCAST; at most as many as
-- a report has room for
abbrev pub kept_list : List Message → List Entry → KeptList
kept_list kept order =
    take MAX_KEPT
    (map (λ e. (e, is_unplaced kept order e)) (set_of entry_cmp (map (λ m. entry_of m.id) kept)))

-- the messages that are kept of the group's view
abbrev pub kept_in : State → GroupNo → List Message
kept_in s g = filter (λ m. is_of_view s g m.id) s.kept

abbrev pub report_in : State → GroupNo → Report
report_in s g =
    report_of (s.group g) (had_in s g) (tail_of (whole_order s g))
    (kept_list (kept_in s g) (whole_order s g))

-- What a site lacks

-- each member here has delivered a message of the group's view
abbrev pub is_delivered_here : State → GroupNo → Entry → Bool
is_delivered_here s g e =
    list_all (λ k. has_delivered (s.process k) (uid_in g (s.group g).number e)) (local_members s g)

abbrev pub has_delivered_cut : State → GroupNo → CountList → Bool
has_delivered_cut s g cut = list_all (is_delivered_here s g) (covered_entries cut)

-- some member here has not delivered it, and the site has not received it
abbrev pub is_missing : State → GroupNo → Entry → Bool
is_missing s g e = not (is_delivered_here s g e || is_received s (uid_in g (s.group g).number e))

-- the first of these within a cut
abbrev pub missing_in : State → GroupNo → CountList → List Entry
missing_in s g cut = take MAX_PLACED (filter (is_missing s g) (covered_entries cut))
