-- What contracts see of a domain's sessions.
-- That is how many serials were given, and those that are not gone, in the order of their serials.
use Rattle.std.specs.Prelude.{ℕ, ◌+◌, Bool, not, ◌==◌, nat_le}
use Rattle.std.specs.Prelude.{if◌then◌else◌, List, [], ◌∷◌, ◌++◌, filter}
use Rattle.std.specs.List.{find, list_all}
use Rattle.std.specs.Option.{option_map_or}
use Rattle.cast_events.specs.declared.session.Status.{Status}
use Rattle.cast_events.specs.declared.session.Status.TheVariants.{Open, Closed, Gone}

-- what is kept of a session that is not gone
pub record SessionRecord : Type 0 where
  pub serial : ℕ
  pub status : Status

pub record GivenSessions : Type 0 where
  pub used : ℕ
  pub records : List SessionRecord

-- what is kept of the session of a serial that stands so
abbrev pub record_of : ℕ × Status → SessionRecord
record_of e = record { serial = e.0; status = e.1 }

-- how the session of a serial stands; one that has no record was never given, or is gone
abbrev pub status_in : List SessionRecord → ℕ → Status
status_in sessions k = option_map_or (λ x. x.status) (find (λ x. x.serial == k) sessions) Gone

-- whether all serials were given
abbrev pub are_given : ℕ → List (ℕ × Status) → Bool
are_given used statuses = list_all (λ e. nat_le e.0 used) statuses

-- how a session stands once that of a serial is closed
abbrev pub closed_if : ℕ → ℕ × Status → Status
closed_if k e = if e.0 == k then Closed else e.1

-- the session of the next serial is opened
abbrev pub with_next : GivenSessions → GivenSessions
with_next s = record {
  used = s.used + 1;
  records = s.records ++ record { serial = s.used + 1; status = Open } ∷ [];
}

-- one is gone
abbrev pub without_serial : ℕ → GivenSessions → GivenSessions
without_serial k s = record s { records = filter (λ x. not (x.serial == k)) s.records }
