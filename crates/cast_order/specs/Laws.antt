-- What is kept of a group's order keeps its meaning, and what it means.
-- What changes it changes what it means in the same way. A closed order stays, and groups do not
-- mix.
use Rattle.std.specs.Prelude.{◌≡◌, ℕ, ◌-◌, ◌≤◌, max, Bool, true, false, List, [], ◌∷◌, ◌++◌, length}
use Rattle.std.specs.Prelude.{map, take, drop, Option, Some, None, if◌then◌else◌, ◌&&◌, nat_lt}
use Rattle.std.specs.List.{list_all}
use Rattle.cast_types.specs.declared.limits.TheConstants.{MAX_TAIL, MAX_POSITION}
use Rattle.cast_types.specs.declared.names.GroupNo.{GroupNo}
use Rattle.cast_types.specs.declared.names.Proc.{Proc}
use Rattle.cast_types.specs.Names.{Entry, entry_eq, group_eq, proc_eq}
use Rattle.cast_types.specs.Sets.{is_among}
use Rattle.cast_message.specs.Placement.{Placement}
use Rattle.cast_order.specs.Order.{Facts, facts_of, known_order, next_of, Listing}
use Rattle.cast_order.specs.Order.{last_upto, still_to_list, settled_places, ids_to_list}
use Rattle.cast_order.specs.Order.{place_after, tail_start, tail_ids, closed_order}
use Rattle.cast_order.specs.Hand.{Hand, new_hand, hold_from, hand_over, note_unlisted}
use Rattle.cast_order.specs.Hand.{note_placed, note_order_sent, settled_by, hand_of}
use Rattle.cast_order.specs.Hand.{change_hand, hands_rise, FitsHand}
use Rattle.cast_order.specs.Log.{Log, new_log, length_of, log_of, change_in, change_log}
use Rattle.cast_order.specs.Log.{but_log, with_placement, next_in, pass_ids, hand_here, with_hand}
use Rattle.cast_order.specs.Log.{next_places, known_past, waiting_of, whole_kept}
use Rattle.cast_order.specs.Log.{tail_start_in, tail_ids_in, closed_by, oldest_in, forgot}
use Rattle.cast_order.specs.Fits.{Fits, FitsClosed}

-- a new log means that nothing was told, delivered or listed
abbrev pub NewFits : Type 0
NewFits =
    (g : GroupNo) (goes_on : Proc → Bool) (has_passed : Proc → Entry → Bool)
    → Fits [] goes_on has_passed (new_log g)

-- a set-order message is received
abbrev pub LearnKeepsMeaning : Type 0
LearnKeepsMeaning =
    (facts : Facts) (goes_on : Proc → Bool) (has_passed : Proc → Entry → Bool) (l : Log)
    → Fits facts goes_on has_passed l → (s : Placement)
    → Fits (facts ++ facts_of s) goes_on has_passed (with_placement s l)

-- what a process does that orders the view's ABCASTs
abbrev pub HandKeepsMeaning : Type 0
HandKeepsMeaning =
    (facts : Facts) (goes_on : Proc → Bool) (has_passed : Proc → Entry → Bool) (l : Log)
    → Fits facts goes_on has_passed l → (p : Proc) (f : Hand → Hand)
    → Fits facts goes_on has_passed (with_hand p f l)

-- a process delivered each of the next n ids
abbrev pub PassKeepsMeaning : Type 0
PassKeepsMeaning =
    (facts : Facts) (goes_on : Proc → Bool) (has_passed : Proc → Entry → Bool) (l : Log)
    → Fits facts goes_on has_passed l → (p : Proc) (n : ℕ)
    → list_all (has_passed p) (take n (next_in l p)) ≡ true
    → Fits facts goes_on has_passed (pass_ids p n l)

-- processes deliver more, and some go on no more
abbrev pub MoreKeepsMeaning : Type 0
MoreKeepsMeaning =
    (facts : Facts) (goes_on : Proc → Bool) (has_passed : Proc → Entry → Bool) (l : Log)
    → Fits facts goes_on has_passed l → (goes_now : Proc → Bool) (has_now : Proc → Entry → Bool)
    → ((p : Proc) → goes_now p ≡ true → goes_on p ≡ true)
    → ((p : Proc) (e : Entry) → has_passed p e ≡ true → has_now p e ≡ true)
    → Fits facts goes_now has_now l

-- so many of the kept ids are forgotten, the first ones, which each process that goes on has
-- delivered, and of which none is of the tail
abbrev pub ForgetKeepsMeaning : Type 0
ForgetKeepsMeaning =
    (facts : Facts) (goes_on : Proc → Bool) (has_passed : Proc → Entry → Bool) (l : Log)
    → Fits facts goes_on has_passed l → (count : ℕ)
    → ((p : Proc) → goes_on p ≡ true → list_all (has_passed p) (take count l.window) ≡ true)
    → count ≤ length l.window - MAX_TAIL
    → Fits facts goes_on has_passed (forgot count l)

-- the oldest ids are the first of those that are kept, and none of them is of the tail; a closed
-- order has none
pub record AreOldest (l : Log) (ids : List Entry) : Type 0 where
  pub first : ids ≡ take (length ids) l.window
  pub few : length ids ≤ length l.window - MAX_TAIL
  pub ended : l.closed ≡ true → ids ≡ []

abbrev pub OldestMayBeForgotten : Type 0
OldestMayBeForgotten = (l : Log) → AreOldest l (oldest_in l)

-- from where a process stands on, the first id that it has not delivered is that of the whole order
-- known
abbrev pub NextIsTheRule : Type 0
NextIsTheRule =
    (facts : Facts) (goes_on : Proc → Bool) (has_passed : Proc → Entry → Bool) (l : Log)
    → Fits facts goes_on has_passed l → (p : Proc) → goes_on p ≡ true
    → next_of (has_passed p) (known_order facts) ≡ next_of (has_passed p) (next_in l p)

-- as many ids are known as the order known has
abbrev pub LengthIsTheRule : Type 0
LengthIsTheRule =
    (facts : Facts) (goes_on : Proc → Bool) (has_passed : Proc → Entry → Bool) (l : Log)
    → Fits facts goes_on has_passed l
    → length_of l ≡ length (known_order facts)

-- the ids kept past a place are those of the order known, but for what is forgotten
abbrev pub PastIsTheRule : Type 0
PastIsTheRule =
    (facts : Facts) (goes_on : Proc → Bool) (has_passed : Proc → Entry → Bool) (l : Log)
    → Fits facts goes_on has_passed l → (place : ℕ)
    → known_past place l ≡ drop (max l.base place) (known_order facts)

-- the next set-order message of a process sets the places behind the order known, of the first ids
-- that it delivered and that are not in that
abbrev pub AssignIsTheRule : Type 0
AssignIsTheRule =
    (facts : Facts) (goes_on : Proc → Bool) (has_passed : Proc → Entry → Bool) (l : Log)
    → Fits facts goes_on has_passed l
    → (token : Option ℕ) (delivered : List Entry) (listed : Listing) (stable : ℕ) (p : Proc)
    → FitsHand (known_order facts) token delivered listed stable (hand_here l p)
    → next_places l p ≡ (
    if nat_lt 0 (length (still_to_list delivered (known_order facts)))
    && nat_lt (length (known_order facts)) MAX_POSITION
    then Some (record {
      first = place_after (known_order facts);
      ids = ids_to_list
          (still_to_list delivered (known_order facts));
      holder = None;
    })
    else None)

-- what is kept is all but the first ids of the whole order: of the order known, and behind it what
-- a process has to list
abbrev pub WholeIsTheRule : Type 0
WholeIsTheRule =
    (facts : Facts) (goes_on : Proc → Bool) (has_passed : Proc → Entry → Bool) (l : Log)
    → Fits facts goes_on has_passed l
    → (o : Option Proc) → whole_kept l o ≡ drop l.base (known_order facts ++ waiting_of l o)

-- the tail is that of the whole order
abbrev pub TailIsTheRule : Type 0
TailIsTheRule =
    (facts : Facts) (goes_on : Proc → Bool) (has_passed : Proc → Entry → Bool) (l : Log)
    → Fits facts goes_on has_passed l
    → (o : Option Proc)
    → (tail_start_in l o ≡ tail_start (known_order facts ++ waiting_of l o))
    × (tail_ids_in l o ≡ tail_ids (known_order facts ++ waiting_of l o))

-- What processes do

-- a new hand means that nothing was delivered or listed
abbrev pub NewHandFits : Type 0
NewHandFits = (p : Proc) (order : List Entry) → FitsHand order None [] [] 0 (new_hand p)

-- a process holds the token from a place on, or no more
abbrev pub HoldKeepsHand : Type 0
HoldKeepsHand =
    (order : List Entry) (token : Option ℕ) (delivered : List Entry) (listed : Listing)
    (stable : ℕ) (h : Hand)
    → FitsHand order token delivered listed stable h → (first : ℕ)
    → FitsHand order (Some first) delivered listed stable (hold_from first h)

abbrev pub HandOverKeepsHand : Type 0
HandOverKeepsHand =
    (order : List Entry) (token : Option ℕ) (delivered : List Entry) (listed : Listing)
    (stable : ℕ) (h : Hand)
    → FitsHand order token delivered listed stable h
    → FitsHand order None delivered listed stable (hand_over h)

-- it delivers an ABCAST that is not in the order known, or one that is
abbrev pub TellKeepsHand : Type 0
TellKeepsHand =
    (order : List Entry) (token : Option ℕ) (delivered : List Entry) (listed : Listing)
    (stable : ℕ) (h : Hand)
    → FitsHand order token delivered listed stable h → (e : Entry)
    → is_among entry_eq e order ≡ false
    → FitsHand order token (delivered ++ e ∷ []) listed stable (note_unlisted e h)

abbrev pub FollowKeepsHand : Type 0
FollowKeepsHand =
    (order : List Entry) (token : Option ℕ) (delivered : List Entry) (listed : Listing)
    (stable : ℕ) (h : Hand)
    → FitsHand order token delivered listed stable h → (e : Entry)
    → is_among entry_eq e order ≡ true
    → FitsHand order token (delivered ++ e ∷ []) listed stable h

-- ids join the order known
abbrev pub PlaceKeepsHand : Type 0
PlaceKeepsHand =
    (order : List Entry) (token : Option ℕ) (delivered : List Entry) (listed : Listing)
    (stable : ℕ) (h : Hand)
    → FitsHand order token delivered listed stable h → (ids : List Entry)
    → FitsHand (order ++ ids) token delivered listed stable (note_placed ids h)

-- it sends a set-order message
abbrev pub NoteKeepsHand : Type 0
NoteKeepsHand =
    (order : List Entry) (token : Option ℕ) (delivered : List Entry) (listed : Listing)
    (stable : ℕ) (h : Hand)
    → FitsHand order token delivered listed stable h → (count last n : ℕ) → stable ≤ n
    → FitsHand order token delivered (listed ++ (count, last) ∷ [])
    n (note_order_sent count last n h)

-- the places that it has settled are those before its first one, and those up to the last one that
-- its stable messages set
abbrev pub SettledIsTheRule : Type 0
SettledIsTheRule =
    (order : List Entry) (token : Option ℕ) (delivered : List Entry) (listed : Listing)
    (stable : ℕ) (h : Hand)
    → FitsHand order token delivered listed stable h → (n : ℕ) → stable ≤ n
    → settled_by n h ≡ settled_places token (last_upto n listed)

-- a change of one process's hand, which keeps the process that it is of, changes no other
abbrev pub HandChangeIsOfOne : Type 0
HandChangeIsOfOne =
    (hands : List Hand) (p q : Proc) (f : Hand → Hand) → ((h : Hand) → (f h).process ≡ h.process)
    → hand_of (change_hand p f hands) q
    ≡ (if proc_eq p q then f (hand_of hands p) else hand_of hands q)

-- what keeps the process that a hand is of keeps the order in which hands stand, where a new one
-- goes to its place
abbrev pub ChangeKeepsOrder : Type 0
ChangeKeepsOrder =
    (p : Proc) (f : Hand → Hand) (hands : List Hand) → ((h : Hand) → (f h).process ≡ h.process)
    → hands_rise hands ≡ true → hands_rise (change_hand p f hands) ≡ true

abbrev pub PlaceKeepsOrder : Type 0
PlaceKeepsOrder =
    (ids : List Entry) (hands : List Hand) → hands_rise hands ≡ true
    → hands_rise (map (note_placed ids) hands) ≡ true

-- what joins the order known does so for each
abbrev pub LearntIsOfAll : Type 0
LearntIsOfAll =
    (facts : Facts) (goes_on : Proc → Bool) (has_passed : Proc → Entry → Bool) (l : Log)
    → Fits facts goes_on has_passed l → (s : Placement)
    → (ids : List Entry)
    × (known_order (facts ++ facts_of s) ≡ known_order facts ++ ids)
    × ((p : Proc) → hand_here (with_placement s l) p ≡ note_placed ids (hand_here l p))

-- the end of the order is told
abbrev pub CloseEndsTheOrder : Type 0
CloseEndsTheOrder =
    (facts : Facts) (goes_on : Proc → Bool) (has_passed : Proc → Entry → Bool) (l : Log)
    → Fits facts goes_on has_passed l → (w : Entry → Bool) (start : ℕ) (ids : List Entry)
    → FitsClosed (closed_order w start ids (known_order facts))
    goes_on has_passed (closed_by w start ids l)

-- of a closed order nothing is learnt
abbrev pub ClosedLearnsNothing : Type 0
ClosedLearnsNothing =
    (order : List Entry) (goes_on : Proc → Bool) (has_passed : Proc → Entry → Bool) (l : Log)
    → FitsClosed order goes_on has_passed l → (s : Placement)
    → with_placement s l ≡ l

-- a process delivered each of the next n ids of a closed order
abbrev pub PassKeepsClosed : Type 0
PassKeepsClosed =
    (order : List Entry) (goes_on : Proc → Bool) (has_passed : Proc → Entry → Bool) (l : Log)
    → FitsClosed order goes_on has_passed l
    → (p : Proc) (n : ℕ) → list_all (has_passed p) (take n (next_in l p)) ≡ true
    → FitsClosed order goes_on has_passed (pass_ids p n l)

-- processes deliver more, and some go on no more
abbrev pub MoreKeepsClosed : Type 0
MoreKeepsClosed =
    (order : List Entry) (goes_on : Proc → Bool) (has_passed : Proc → Entry → Bool) (l : Log)
    → FitsClosed order goes_on has_passed l
    → (goes_now : Proc → Bool) (has_now : Proc → Entry → Bool)
    → ((p : Proc) → goes_now p ≡ true → goes_on p ≡ true)
    → ((p : Proc) (e : Entry) → has_passed p e ≡ true → has_now p e ≡ true)
    → FitsClosed order goes_now has_now l

-- what a process does that ordered the view's ABCASTs
abbrev pub HandKeepsClosed : Type 0
HandKeepsClosed =
    (order : List Entry) (goes_on : Proc → Bool) (has_passed : Proc → Entry → Bool) (l : Log)
    → FitsClosed order goes_on has_passed l
    → (p : Proc) (f : Hand → Hand) → FitsClosed order goes_on has_passed (with_hand p f l)

-- from where a process stands on, the first id that it has not delivered is that of the whole
-- closed order
abbrev pub NextIsOfTheClosed : Type 0
NextIsOfTheClosed =
    (order : List Entry) (goes_on : Proc → Bool) (has_passed : Proc → Entry → Bool) (l : Log)
    → FitsClosed order goes_on has_passed l
    → (p : Proc) → goes_on p ≡ true
    → next_of (has_passed p) order ≡ next_of (has_passed p) (next_in l p)

-- a change of one group's log, which keeps the group that it is of, changes no other
abbrev pub ChangeIsOfOneGroup : Type 0
ChangeIsOfOneGroup =
    (logs : List Log) (g h : GroupNo) (f : Log → Log) → ((l : Log) → (f l).group ≡ l.group)
    → log_of (change_log g f logs) h ≡ (if group_eq g h then f (log_of logs g) else log_of logs h)

-- a group of whose kept ids the first ones are forgotten, and each other as it was
abbrev pub ForgetFirstIsOfOneGroup : Type 0
ForgetFirstIsOfOneGroup =
    (logs : List Log) (g h : GroupNo) (count : ℕ)
    → log_of (change_in g (forgot count) logs) h
    ≡ (if group_eq g h then forgot count (log_of logs g) else log_of logs h)

-- a group that is forgotten has a new log, and each other the one that it had
abbrev pub ForgetIsOfOneGroup : Type 0
ForgetIsOfOneGroup =
    (logs : List Log) (g h : GroupNo)
    → log_of (but_log g logs) h ≡ (if group_eq g h then new_log g else log_of logs h)
