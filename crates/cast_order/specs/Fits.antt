-- What is kept of a group's order means: what was told of it, and what local processes delivered.
use Rattle.std.specs.Prelude.{◌≡◌, ℕ, ◌-◌, ◌<◌, ◌≤◌, Bool, true, false}
use Rattle.std.specs.Prelude.{not, List, ◌++◌, length, take, drop, None}
use Rattle.std.specs.List.{find}
use Rattle.cast_types.specs.declared.limits.TheConstants.{MAX_TAIL, MAX_POSITION}
use Rattle.cast_types.specs.declared.names.Proc.{Proc}
use Rattle.cast_types.specs.Names.{Entry}
use Rattle.cast_order.specs.Order.{Facts, id_at, known_order}
use Rattle.cast_order.specs.Log.{Log, length_of, place_of}

-- the log tells of these facts, and of what each local process that goes on through the order
-- delivered. The last ids, as many as a tail has, are never forgotten. What it tells of a process
-- that orders the view's ABCASTs stands apart (`FitsHand`)
pub record Fits (facts : Facts) (goes_on : Proc → Bool) (has_passed : Proc → Entry → Bool)
    (l : Log) : Type 0 where
  pub window : l.window ≡ drop l.base (known_order facts)
  pub forgotten : l.base ≤ length (known_order facts) - MAX_TAIL
  pub later : (place : ℕ) → length_of l < place → place ≤ MAX_POSITION
      → id_at l.later place ≡ id_at facts place
  pub passed : (p : Proc) → goes_on p ≡ true
      → find (λ e. not (has_passed p e)) (take (place_of l p) (known_order facts)) ≡ None
  pub within : (p : Proc) → place_of l p ≤ length (known_order facts)
  pub still_open : l.closed ≡ false

-- the log has this order, which is closed, but for its first ids, which are forgotten; and it tells
-- of what each local process that goes on through it delivered, all of those among it
pub record FitsClosed (order : List Entry) (goes_on : Proc → Bool)
    (has_passed : Proc → Entry → Bool) (l : Log) : Type 0 where
  pub front : List Entry
  pub whole : order ≡ front ++ l.window
  pub closed : l.closed ≡ true
  pub passed : (p : Proc) → goes_on p ≡ true
      → find (λ e. not (has_passed p e)) (front ++ take (place_of l p - l.base) l.window) ≡ None
