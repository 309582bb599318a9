-- The ranges of quotas, and the tests that they make.
use Rattle.std.specs.Prelude.{ℕ, ◌*◌, Bool, ◌&&◌, nat_lt, nat_le}
use Rattle.cast_quota.specs.declared.limits.TheConstants.{MOST_SESSIONS, MOST_HELD, MOST_ENTRIES}
use Rattle.cast_quota.specs.declared.limits.TheConstants.{LEAST_RESEND, MOST_RESEND}
use Rattle.cast_quota.specs.declared.quotas.Quotas.{Quotas}
use Rattle.cast_quota.specs.declared.quotas.QuotaName.{QuotaName}
use Rattle.cast_quota.specs.declared.quotas.QuotaName.TheVariants.{Sessions, Held, Outbox, Resend}

abbrev pub usual : Quotas
usual = record { sessions = 16; held = 256; outbox = 256; resend = 200 }

abbrev pub is_from_to : ℕ → ℕ → ℕ → Bool
is_from_to low high n = nat_le low n && nat_le n high

abbrev pub is_in_range : QuotaName → ℕ → Bool
is_in_range Sessions n = is_from_to 1 MOST_SESSIONS n
is_in_range Held n = is_from_to 1 MOST_HELD n
is_in_range Outbox n = is_from_to 1 MOST_ENTRIES n
is_in_range Resend n = is_from_to LEAST_RESEND MOST_RESEND n

-- the quotas with another value of one
abbrev pub with_quota : QuotaName → ℕ → Quotas → Quotas
with_quota Sessions n q = record q { sessions = n }
with_quota Held n q = record q { held = n }
with_quota Outbox n q = record q { outbox = n }
with_quota Resend n q = record q { resend = n }

-- one more session may be opened beside so many
abbrev pub may_open : Quotas → ℕ → Bool
may_open q sessions = nat_lt sessions q.sessions

-- a cast, of a program or of another site, may be received beside so many messages that are kept
abbrev pub may_receive : Quotas → ℕ → Bool
may_receive q kept = nat_lt kept q.held

-- a set-order message may be sent or received beside so many, and a holder may deliver an ABCAST:
-- there is room for these where casts find none
abbrev pub may_order : Quotas → ℕ → Bool
may_order q kept = nat_lt kept (2 * q.held)
