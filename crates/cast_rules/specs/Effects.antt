-- What the rules of messages come to for a history: sending and delivering.
use Rattle.std.specs.Prelude.{ℕ}
use Rattle.cast_types.specs.declared.names.GroupNo.{GroupNo}
use Rattle.cast_message.specs.declared.message.Body.{Body}
use Rattle.cast_message.specs.declared.message.Message.{Message}
use Rattle.cast_rules.specs.State.{State}
use Rattle.cast_rules.specs.History.{history}
use Rattle.cast_rules.specs.Resting.{resting}
use Rattle.cast_rules.specs.Rules.Commands.{message_sent, send_own}
use Rattle.cast_rules.specs.Rules.Rest.{deliver}

-- a member's next message of a group
abbrev pub next_message : State → GroupNo → ℕ → Body → Message
next_message s g k content = message_sent history s k g g content

-- the message is stamped, received here, and sent to each other site of the view until that has
-- acknowledged it
abbrev pub sending_message : State → ℕ → Message → State
sending_message = send_own history

abbrev pub sending : State → GroupNo → ℕ → Body → State
sending s g k content = sending_message s k (next_message s g k content)

-- a process delivers a message, and the program is told
abbrev pub delivering : State → ℕ → Message → State
delivering = deliver history resting
