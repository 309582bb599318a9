-- What a program reads where it awaits a push.
use Rattle.std.specs.Prelude.{◌≡◌, ◌≢◌, ℕ, List, [], ◌∷◌, ◌++◌, drop}
use Rattle.std.specs.Prelude.{Option, Some, None, Result, Ok, Err}
use Rattle.cast_field.specs.declared.fault.FrameFault.{FrameFault}
use Rattle.cast_field.specs.declared.fault.FrameFault.TheVariants.{Short, WrongType, NoMemory}
use Rattle.cast_message.specs.declared.client.ClientFrame.TheVariants as client
use Rattle.cast_client.specs.declared.front.ClientRead.{ClientRead}
use Rattle.cast_client.specs.declared.front.ClientRead.TheVariants.{Frame, More}
use Rattle.cast_message.specs.declared.client.Push.{Push}
use Rattle.cast_field.specs.Reading.{Reader}
use Rattle.cast_client.specs.Reading.{client_of}
use Rattle.cast_session.specs.declared.client.PushFault.{PushFault}
use Rattle.cast_session.specs.declared.client.PushFault.TheVariants as faults

-- an end before a frame, or within one
abbrev pub end_of : List ℕ → Result (Option Push × List ℕ) FrameFault
end_of [] = Ok (None, [])
end_of (b ∷ bytes) = Err Short

-- by what stands at the front of the bytes: a push, and the bytes behind it; a request is a fault
abbrev pub push_or_fault : List ℕ → Result ClientRead FrameFault
    → Result (Option Push × List ℕ) FrameFault
push_or_fault bytes (Ok (Frame (client.Push p) n)) = Ok (Some p, drop n bytes)
push_or_fault bytes (Ok (Frame (client.Request r) n)) = Err WrongType
push_or_fault bytes (Ok (More n)) = end_of bytes
push_or_fault bytes (Err e) = Err e

-- the first push of all bytes, and those behind it
unfoldable pub push_at : Reader (Option Push)
push_at bytes = push_or_fault bytes (client_of bytes)

-- the bytes end before a whole frame and before a fault
abbrev pub IsCut : List ℕ → Type 0
IsCut bytes = (n : ℕ) × (client_of bytes ≡ Ok (More n))

-- what was read of these bytes, and which of them are left
abbrev pub ReadsPush : Result (Option Push) PushFault → List ℕ → List ℕ → Type 0
ReadsPush (Ok push) bytes left = push_at bytes ≡ Ok (push, left)
ReadsPush (Err (faults.Frame e)) bytes left =
    e ≢ NoMemory → (push_at bytes ≡ Err e) × (IsCut bytes → left ≡ [])
ReadsPush (Err faults.ReadFault) bytes left = (part : List ℕ) × (bytes ≡ part ++ left) × IsCut part
