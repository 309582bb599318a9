-- The total order of a view's ABCASTs, and how it is listed.
-- It is known by all that set-order messages told of it.
use Rattle.std.specs.Prelude.{◌≡◌, ℕ, zero, suc, ◌+◌, ◌-◌, ◌<◌, ◌≤◌, max, Bool, not}
use Rattle.std.specs.Prelude.{◌==◌, nat_le, List, [], ◌∷◌, ◌++◌, length, take, drop}
use Rattle.std.specs.Prelude.{filter, slice_get, Option, Some, None, unwrap_or}
use Rattle.std.specs.List.{find, enumerate_from}
use Rattle.std.specs.Option.{option_map}
use Rattle.cast_types.specs.declared.limits.TheConstants.{MAX_PLACED, MAX_TAIL, MAX_POSITION}
use Rattle.cast_types.specs.Names.{Entry, entry_eq}
use Rattle.cast_types.specs.Sets.{apart_from}
use Rattle.cast_message.specs.Placement.{Placement}

-- what was told, in order of receipt: an id at a place. Places count from 1
abbrev pub Facts : Type 0
Facts = List (ℕ × Entry)

-- what a set-order message tells: the ids at a place and at those after it
abbrev pub facts_of : Placement → Facts
facts_of s = enumerate_from s.first s.ids

-- the first id told for a place
abbrev pub id_at : Facts → ℕ → Option Entry
id_at facts place = option_map (λ f. f.1) (find (λ f. f.0 == place) facts)

-- the ids at a place and at those after it, at most so many, up to the first place of which nothing
-- was told
abbrev pub order_from : ℕ → ℕ → Facts → List Entry
order_from zero place facts = []
order_from (suc n) place facts =
    elim (id_at facts place) [ Some e ↦ e ∷ order_from n (place + 1) facts | None ↦ [] ]

-- the order as far as it was told without a gap
unfoldable pub known_order : Facts → List Entry
known_order facts = order_from MAX_POSITION 1 facts

-- the order in words: each place has the first id told for it, and the order ends only before a
-- place of which nothing was told, or at the last place
pub record IsKnownOrder (facts : Facts) (order : List Entry) : Type 0 where
  pub ids : (i : ℕ) → i < length order → slice_get order i ≡ id_at facts (i + 1)
  pub ends : length order < MAX_POSITION → id_at facts (length order + 1) ≡ None
  pub most : length order ≤ MAX_POSITION

abbrev pub KnownOrderInWords : Type 0
KnownOrderInWords = (facts : Facts) → IsKnownOrder facts (known_order facts)

-- the first id of an order that a process has not delivered
abbrev pub next_of : (Entry → Bool) → List Entry → Option Entry
next_of has_delivered order = find (λ e. not (has_delivered e)) order

-- What who holds the token lists

-- what was delivered and is not in an order
abbrev pub still_to_list : List Entry → List Entry → List Entry
still_to_list delivered order = apart_from entry_eq delivered order

-- set-order messages are told by their counts and the last places that they set
abbrev pub Listing : Type 0
Listing = List (ℕ × ℕ)

-- the last place that one of them sets, 0 where there is none
abbrev pub last_listed : Listing → ℕ
last_listed [] = 0
last_listed (x ∷ listed) = max x.1 (last_listed listed)

-- of those up to a count
abbrev pub last_upto : ℕ → Listing → ℕ
last_upto n listed = last_listed (filter (λ x. nat_le x.0 n) listed)

-- how many places are settled: those before the first place that is to be ordered, where there is
-- one, and those up to the last one that these messages set
abbrev pub settled_places : Option ℕ → ℕ → ℕ
settled_places first last = max (unwrap_or first 1 - 1) last

-- the ids of the next set-order message, and their first place behind an order
abbrev pub ids_to_list : List Entry → List Entry
ids_to_list unlisted = take MAX_PLACED unlisted

abbrev pub place_after : List Entry → ℕ
place_after order = length order + 1

-- the last ids of an order, and how many stand before them
abbrev pub tail_start : List Entry → ℕ
tail_start order = length order - MAX_TAIL

abbrev pub tail_ids : List Entry → List Entry
tail_ids order = drop (tail_start order) order

-- the order of a view that has ended, as a site knows it once it was told the end of that order,
-- behind so many ids: its own first ids, as many as it knows of those, and behind them the ids that
-- it was told, all without what the view's cut leaves out
abbrev pub closed_order : (Entry → Bool) → ℕ → List Entry → List Entry → List Entry
closed_order is_within start ids own = filter is_within (take start own ++ ids)
