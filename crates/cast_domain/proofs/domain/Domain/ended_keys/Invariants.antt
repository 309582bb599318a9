use Rattle.std.proofs.Common.{◌≡◌, ◌++◌, drop}
use Rattle.cast_domain.specs.Records.{own_records}
use Rattle.cast_domain.specs.ReleaseCalls.{is_ended_in, keys_passing}
use Rattle.cast_domain.proofs.domain.Domain.ended_keys.Given as goal

-- the keys so far with those of the messages that are left are all
abbrev pub invariant-loop-position : goal.invariant-loop-position
invariant-loop-position l =
    l.ended.items ++ keys_passing (is_ended_in (own_records l.self) l.place) (drop l.position l.kept)
    ≡ keys_passing (is_ended_in (own_records l.self) l.place) l.kept
