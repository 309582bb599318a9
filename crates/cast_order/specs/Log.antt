-- What a site keeps of a group's order, as contracts see it, and what each call does to it.
use Rattle.std.specs.Prelude.{ℕ, ◌+◌, ◌-◌, ◌*◌, Bool, true, false, not, ◌&&◌, nat_lt}
use Rattle.std.specs.Prelude.{nat_le, min, max, if◌then◌else◌, List, [], ◌∷◌, ◌++◌, length}
use Rattle.std.specs.Prelude.{take, drop, map, filter, Option, Some, None, unwrap_or}
use Rattle.std.specs.List.{find, list_any}
use Rattle.std.specs.Option.{is_none}
use Rattle.std.specs.Ordering.{nat_cmp}
use Rattle.std.specs.FinMap.Entries.{find as find_key, put}
use Rattle.cast_types.specs.declared.limits.TheConstants.{MAX_TAIL, MAX_POSITION}
use Rattle.cast_types.specs.declared.names.GroupNo.{GroupNo}
use Rattle.cast_types.specs.declared.names.Proc.{Proc}
use Rattle.cast_types.specs.Names.{Entry, proc_cmp, group_eq}
use Rattle.cast_message.specs.Placement.{Placement}
use Rattle.cast_order.specs.Order.{Facts, facts_of, id_at, order_from, ids_to_list}
use Rattle.cast_order.specs.Hand.{Hand, hand_of, change_hand, note_placed}

-- base: how many of the first ids known are forgotten; window: the ids known behind them; later:
-- facts of places past a gap, one of each, in rising order of the places; places: how many of the
-- first ids known local processes have passed, each at least those that are forgotten; hands: what
-- is kept of local processes that order the view's ABCASTs, or did; closed: whether the order is
-- closed, so that nothing more is learnt
pub record Log : Type 0 where
  pub group : GroupNo
  pub base : ℕ
  pub window : List Entry
  pub later : Facts
  pub places : List (Proc × ℕ)
  pub hands : List Hand
  pub closed : Bool

abbrev pub new_log : GroupNo → Log
new_log g = record {
  group = g;
  base = 0;
  window = [];
  later = [];
  places = [];
  hands = [];
  closed = false;
}

-- how many ids are known, with those that are forgotten
abbrev pub length_of : Log → ℕ
length_of l = l.base + length l.window

-- The logs of all groups, at most one of each

abbrev pub log_of : List Log → GroupNo → Log
log_of logs g = unwrap_or (find (λ l. group_eq l.group g) logs) (new_log g)

-- the group's log changed
abbrev pub change_in : GroupNo → (Log → Log) → List Log → List Log
change_in g f logs = map (λ l. if group_eq l.group g then f l else l) logs

-- a log of the group, where there is none
abbrev pub open_log : GroupNo → List Log → List Log
open_log g logs = if list_any (λ l. group_eq l.group g) logs then logs else logs ++ new_log g ∷ []

-- the group's log changed, where there is none a new one
abbrev pub change_log : GroupNo → (Log → Log) → List Log → List Log
change_log g f logs =
    if list_any (λ l. group_eq l.group g) logs then change_in g f logs
    else logs ++ f (new_log g) ∷ []

-- the group has no log
abbrev pub but_log : GroupNo → List Log → List Log
but_log g logs = filter (λ l. not (group_eq l.group g)) logs

-- What is told of the order

-- facts in rising order of their places with one more in its place, if it is of a place past so
-- many, up to the last one, of which they tell nothing
abbrev pub with_fact : ℕ → Facts → ℕ → Entry → Facts
with_fact known facts place id =
    if nat_lt known place && (nat_le place MAX_POSITION && is_none (id_at facts place))
    then put nat_cmp place id facts
    else facts

-- with each of these, in order
abbrev pub with_facts : ℕ → Facts → Facts → Facts
with_facts known facts [] = facts
with_facts known facts (f ∷ more) = with_facts known (with_fact known facts f.0 f.1) more

-- ids that stand behind so many, with what facts tell of the places behind them
abbrev pub with_next : ℕ → List Entry → Facts → List Entry
with_next base ids facts =
    ids ++ order_from (MAX_POSITION - (base + length ids)) (base + length ids + 1) facts

-- the ids kept of the order known with what later facts add to them, and the facts past a place
abbrev pub longer : Log → List Entry
longer l = with_next l.base l.window l.later

abbrev pub past : ℕ → Facts → Facts
past known facts = filter (λ f. nat_lt known f.0) facts

-- what they add stands in the order then, and waits no more
abbrev pub settle_log : Log → Log
settle_log l =
    record l {
      window = longer l;
      later = past (l.base + length (longer l)) l.later;
      hands = map (note_placed (drop (length l.window) (longer l))) l.hands;
    }

-- a set-order message is taken in, unless the order is closed
abbrev pub with_placement : Placement → Log → Log
with_placement s l =
    if l.closed then l
    else settle_log (record l { later = with_facts (length_of l) l.later (facts_of s) })

-- the end of the order is told, from a place on: the order known becomes the first ids up to there,
-- and behind them those that are told, all that are kept without ids beyond the cut; what is
-- forgotten stays so up to there, and so does what is kept of processes
abbrev pub closed_by : (Entry → Bool) → ℕ → List Entry → Log → Log
closed_by is_within start ids l = record {
  group = l.group;
  base = min l.base start;
  window = filter is_within (take (start - l.base) l.window ++ ids);
  later = [];
  places = [];
  hands = l.hands;
  closed = true;
}

-- as many ids are kept as two tails have, of an order that is not closed
abbrev pub is_long : Log → Bool
is_long l = not l.closed && nat_le (2 * MAX_TAIL) (length l.window)

-- the first of the kept ids, those that may be forgotten: of a long order all but those of one tail
abbrev pub oldest_in : Log → List Entry
oldest_in l = if is_long l then take (length l.window - MAX_TAIL) l.window else []

-- so many of the kept ids, the first ones, are forgotten, at most all of them, and none past the
-- last place
abbrev pub forgot : ℕ → Log → Log
forgot count l =
    let more : ℕ = min (MAX_POSITION - l.base) (min count (length l.window)) in
    record l { base = l.base + more; window = drop more l.window }

-- What local processes deliver

-- each passed all that is forgotten
abbrev pub place_of : Log → Proc → ℕ
place_of l p = max l.base (unwrap_or (find_key proc_cmp p l.places) 0)

abbrev pub next_in : Log → Proc → List Entry
next_in l p = drop (place_of l p - l.base) l.window

-- a process passed the next n ids, at most all that are known
abbrev pub pass_ids : Proc → ℕ → Log → Log
pass_ids p n l = record l {
  places = put proc_cmp p (place_of l p + min n (length (next_in l p))) l.places;
}

-- What processes do that order the view's ABCASTs

abbrev pub hand_here : Log → Proc → Hand
hand_here l p = hand_of l.hands p

abbrev pub with_hand : Proc → (Hand → Hand) → Log → Log
with_hand p f l = record l { hands = change_hand p f l.hands }

abbrev pub waits_in : Log → Bool
waits_in l = list_any (λ h. nat_lt 0 (length h.waiting)) l.hands

-- the places that the next set-order message of a process sets, none where nothing waits or no
-- place is left
abbrev pub next_places : Log → Proc → Option Placement
next_places l p =
    if nat_lt 0 (length (hand_here l p).waiting) && nat_lt (length_of l) MAX_POSITION
    then Some
    (record { first = length_of l + 1; ids = ids_to_list (hand_here l p).waiting; holder = None })
    else None

-- how many places there are up to the last id that a process has to list
abbrev pub places_by : Log → Proc → ℕ
places_by l p = length_of l + length (hand_here l p).waiting

-- the ids kept of the order known past so many places
abbrev pub known_past : ℕ → Log → List Entry
known_past place l = drop (place - l.base) l.window

-- what a process has to list, if there is a process
abbrev pub waiting_of : Log → Option Proc → List Entry
waiting_of l None = []
waiting_of l (Some p) = (hand_here l p).waiting

-- what is kept of the order known, and behind it that
abbrev pub whole_kept : Log → Option Proc → List Entry
whole_kept l o = l.window ++ waiting_of l o

-- how many ids stand before the tail of the order known and what waits, and its ids, as far as they
-- are kept
abbrev pub tail_start_in : Log → Option Proc → ℕ
tail_start_in l o = max l.base (length_of l + length (waiting_of l o) - MAX_TAIL)

abbrev pub tail_ids_in : Log → Option Proc → List Entry
tail_ids_in l o = drop (tail_start_in l o - l.base) (whole_kept l o)
