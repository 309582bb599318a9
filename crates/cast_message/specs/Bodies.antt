-- The kind of a message is that of its body.
-- So is the process to which it hands over the token of its view.
use Rattle.std.specs.Prelude.{Bool, Option, None, is_some}
use Rattle.cast_types.specs.declared.names.Proc.{Proc}
use Rattle.cast_types.specs.declared.names.Kind.{Kind}
use Rattle.cast_types.specs.declared.names.Kind.TheVariants as kind
use Rattle.cast_message.specs.declared.message.Body.{Body}
use Rattle.cast_message.specs.declared.message.Body.TheVariants as body

abbrev pub kind_of : Body → Kind
kind_of (body.Causal payload) = kind.Causal
kind_of (body.Atomic payload) = kind.Atomic
kind_of (body.Order sequence) = kind.Order

-- the process to which a message hands over the token of its view
abbrev pub new_holder : Body → Option Proc
new_holder (body.Causal payload) = None
new_holder (body.Atomic payload) = None
new_holder (body.Order sequence) = sequence.holder

-- a message that names a new holder hands the token over
abbrev pub hands_over : Body → Bool
hands_over b = is_some (new_holder b)
