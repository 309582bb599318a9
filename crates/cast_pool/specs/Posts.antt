-- What a worker takes and sends.
use Rattle.std.specs.Prelude.{◌≡◌, ℕ, Bool, List, ◌++◌, ⊤, Option, Some, None}
use Rattle.std.specs.List.{AllZip}
use Rattle.cast_pool.specs.declared.kept.Done.{Done}
use Rattle.cast_events.specs.declared.asked.Raw.{Raw}
use Rattle.cast_pool.specs.Served.{IsAnswered}

-- a list that is known grows by these
abbrev pub Adds : {X : Type 0} → Option (List X) → Option (List X) → List X → Type 0
Adds None new xs = ⊤
Adds (Some old) None xs = ⊥
Adds (Some old) (Some new) xs = new ≡ old ++ xs

-- this came of what was asked, and bears its number; its worker had taken some number of events
pub record Answers (may_trim : Bool) (raw : Raw) (done : Done) : Type 0 where
  pub number : done.number ≡ raw.number
  pub was : ℕ
  pub now : ℕ
  pub answered : IsAnswered raw.asked may_trim done.outcome was now

-- these were taken, and what came of each was sent, in the same order
pub record HasAnswered (may_trim : Bool) (taken taken_now : Option (List Raw))
    (sent sent_now : Option (List Done)) : Type 0 where
  pub raws : List Raw
  pub dones : List Done
  pub takes : Adds taken taken_now raws
  pub sends : Adds sent sent_now dones
  pub answers : AllZip (Answers may_trim) raws dones
