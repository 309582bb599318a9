-- The time of a process, by what is found of its row.
use Rattle.std.proofs.Common.{◌≡◌, Option, Some, None, refl}
use Rattle.std.specs.Option.{option_map, option_map_or}
use Rattle.cast_types.specs.declared.names.Proc.{Proc}
use Rattle.cast_types.specs.Stamps.{ClockList}
use Rattle.cast_clock.specs.Times.{no_time}
use Rattle.cast_delay.specs.Queue.{Queue, row_of}
use Rattle.cast_domain.specs.PartCalls.{time_of}

mapped_some : {A B : Type 0} (f : A → B) (o : Option A) (d : B) (t : B) → option_map f o ≡ Some t → option_map_or f o d ≡ t
mapped_some f (Some x) d t e = cc
mapped_some f None d t e = cc

mapped_none : {A B : Type 0} (f : A → B) (o : Option A) (d : B) → option_map f o ≡ None → option_map_or f o d ≡ d
mapped_none f (Some x) d e = cc
mapped_none f None d e = refl

pub time_found : (q : Queue) (p : Proc) (t : ClockList) → option_map (λ row. row.time) (row_of q.rows p) ≡ Some t → time_of q p ≡ t
time_found q p t found = mapped_some (λ row. row.time) (row_of q.rows p) no_time t found

pub time_missing : (q : Queue) (p : Proc) → option_map (λ row. row.time) (row_of q.rows p) ≡ None → time_of q p ≡ no_time
time_missing q p missing = mapped_none (λ row. row.time) (row_of q.rows p) no_time missing
