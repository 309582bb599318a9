-- What pushes are in bytes.
use Rattle.std.specs.Prelude.{ℕ, List}
use Rattle.std.specs.List.{flat_map}
use Rattle.cast_message.specs.declared.client.ClientFrame.TheVariants as client
use Rattle.cast_message.specs.declared.client.Push.{Push}
use Rattle.cast_client.specs.Spelling.{spelled_client}

-- the pushes' spellings in their order
abbrev pub spelled_pushes : List Push → List ℕ
spelled_pushes pushes = flat_map (λ p. spelled_client (client.Push p)) pushes
