-- What a site keeps of a local process that orders a view's ABCASTs, or did.
use Rattle.std.specs.Prelude.{◌≡◌, ℕ, Bool, ◌≤◌, max, not, nat_lt, if◌then◌else◌, List, []}
use Rattle.std.specs.Prelude.{◌∷◌, ◌++◌, length, map, filter, Option, Some, None, unwrap_or}
use Rattle.std.specs.List.{find, list_any, position, insert}
use Rattle.std.specs.Ordering.{is_lt}
use Rattle.cast_types.specs.declared.names.Proc.{Proc}
use Rattle.cast_types.specs.Names.{Entry, proc_eq, proc_cmp, entry_eq}
use Rattle.cast_types.specs.Rising.{is_rising}
use Rattle.cast_types.specs.Sets.{is_among}
use Rattle.cast_order.specs.Order.{Listing, last_upto, still_to_list, settled_places}

-- first: the first place that it orders, where it holds the token; reached: the last place that its
-- set-order messages set which were stable when it sent its last one; lists: those that were not,
-- each by its count and the last place that it sets; waiting: ABCASTs that it delivered and that
-- are not in the order known, in its order
pub record Hand : Type 0 where
  pub process : Proc
  pub first : Option ℕ
  pub reached : ℕ
  pub lists : Listing
  pub waiting : List Entry

abbrev pub new_hand : Proc → Hand
new_hand p = record { process = p; first = None; reached = 0; lists = []; waiting = [] }

-- What it does, and what becomes of what it did

-- it holds the token, and orders from a place on
abbrev pub hold_from : ℕ → Hand → Hand
hold_from first h = record h { first = Some first }

-- it holds the token no more
abbrev pub hand_over : Hand → Hand
hand_over h = record h { first = None }

-- it delivered an ABCAST that is not in the order known
abbrev pub note_unlisted : Entry → Hand → Hand
note_unlisted e h = record h { waiting = h.waiting ++ e ∷ [] }

-- ids joined the order known
abbrev pub note_placed : List Entry → Hand → Hand
note_placed ids h = record h { waiting = filter (λ e. not (is_among entry_eq e ids)) h.waiting }

-- it sent a set-order message of this count, which sets places up to the last, and its messages up
-- to a count are stable
abbrev pub note_order_sent : ℕ → ℕ → ℕ → Hand → Hand
note_order_sent count last stable h =
    record h {
      reached = max h.reached (last_upto stable h.lists);
      lists = filter (λ x. nat_lt stable x.0) h.lists ++ (count, last) ∷ [];
    }

-- the places that it has settled, where its messages up to a count are stable
abbrev pub settled_by : ℕ → Hand → ℕ
settled_by stable h = settled_places h.first (max h.reached (last_upto stable h.lists))

-- The hands of all processes, at most one of each, in rising order of their processes

abbrev pub hand_of : List Hand → Proc → Hand
hand_of hands p = unwrap_or (find (λ h. proc_eq h.process p) hands) (new_hand p)

abbrev pub hand_in : Proc → (Hand → Hand) → List Hand → List Hand
hand_in p f hands = map (λ h. if proc_eq h.process p then f h else h) hands

-- before how many hands the one of a process stands, by the order of processes
abbrev pub hand_place : Proc → List Hand → ℕ
hand_place p hands = unwrap_or (position (λ h. is_lt (proc_cmp p h.process)) hands) (length hands)

-- a hand of the process, where there is none
abbrev pub hand_opened : Proc → List Hand → List Hand
hand_opened p hands =
    if list_any (λ h. proc_eq h.process p) hands then hands
    else insert hands (hand_place p hands) (new_hand p)

abbrev pub change_hand : Proc → (Hand → Hand) → List Hand → List Hand
change_hand p f hands = hand_in p f (hand_opened p hands)

-- they stand so
abbrev pub hands_rise : List Hand → Bool
hands_rise hands = is_rising proc_cmp (map (λ h. h.process) hands)

-- What it means: a process holds the token from a place on, delivered these ABCASTs of the view, of
-- which the order has some, and sent these set-order messages, of which those up to a count were
-- stable when it sent the last one
pub record FitsHand (order : List Entry) (token : Option ℕ) (delivered : List Entry)
    (listed : Listing) (stable : ℕ) (h : Hand) : Type 0 where
  pub first : h.first ≡ token
  pub waiting : h.waiting ≡ still_to_list delivered order
  pub lists : (n : ℕ) → stable ≤ n → max h.reached (last_upto n h.lists) ≡ last_upto n listed
