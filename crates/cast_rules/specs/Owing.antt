-- What a history keeps of the frames that are owed; the rules for them are in `Rules/Owing`.
use Rattle.std.specs.Prelude.{ℕ, ◌+◌, min, max}
use Rattle.cast_types.specs.declared.limits.TheConstants.{MAX_MOMENT}
use Rattle.cast_types.specs.declared.names.GroupNo.{GroupNo}
use Rattle.cast_timer.specs.declared.key.OwedKey.{OwedKey}
use Rattle.cast_timer.specs.Owed.{with_owed, paid, is_of_view, is_upto, renew, key_eq}
use Rattle.cast_rules.specs.State.{State}

-- the moment at which what is sent now is due again
abbrev pub next_due : State → ℕ
next_due s = s.moment + s.quotas.resend

abbrev pub noting_owed : State → OwedKey → State
noting_owed s key = record s { owed = with_owed s.owed key (next_due s) }

abbrev pub noting_resent : State → OwedKey → State
noting_resent s key = record s { owed = renew s.owed key (next_due s) }

abbrev pub paying : State → OwedKey → State
paying s key = record s { owed = paid (key_eq key) s.owed }

abbrev pub paying_upto : State → OwedKey → State
paying_upto s key = record s { owed = paid (is_upto key) s.owed }

abbrev pub paying_view : State → GroupNo → State
paying_view s g = record s { owed = paid (is_of_view g) s.owed }

abbrev pub at_moment : State → ℕ → State
at_moment s t = record s { moment = max s.moment (min t MAX_MOMENT) }
