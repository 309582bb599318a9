-- Messages in order of receipt, each under the key by which its domain knows it.
use Rattle.std.specs.Prelude.{Bool, ◌==◌, List, map, Option}
use Rattle.std.specs.List.{find}
use Rattle.std.specs.Option.{option_map}
use Rattle.cast_types.specs.declared.names.Key.{Key}
use Rattle.cast_message.specs.declared.message.Message.{Message}
use Rattle.cast_message.specs.declared.message.Received.{Received}

abbrev pub key_eq : Key → Key → Bool
key_eq a b = a.0 == b.0

abbrev pub messages : List Received → List Message
messages received = map (λ r. r.message) received

-- the first message under a key
abbrev pub message_under : List Received → Key → Option Message
message_under received key = option_map (λ r. r.message) (find (λ r. key_eq r.key key) received)
