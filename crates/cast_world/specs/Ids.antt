-- What a process delivered, among all that processes of a daemon delivered.
use Rattle.std.specs.Prelude.{List, filter, map}
use Rattle.cast_types.specs.Names.{proc_eq}
use Rattle.cast_types.specs.declared.names.DomainNo.{DomainNo}
use Rattle.cast_types.specs.declared.names.Proc.{Proc}
use Rattle.cast_types.specs.declared.names.Uid.{Uid}

-- of these deliveries those of a process
abbrev pub ids_of : Proc → List (DomainNo × Proc × Uid) → List Uid
ids_of p delivered = map (λ x. x.2) (filter (λ x. proc_eq x.1 p) delivered)
