-- How the replay of a file ends, and what the program says of it.
use Rattle.std.specs.Prelude.{◌≡◌, ℕ, List, [], ◌++◌, codes, Option, Result, Ok, Err, Vec}
use Rattle.std.specs.declared.alloc.Global.{Global}
use Rattle.std.specs.declared.io.Error.{Error}
use Rattle.std.specs.declared.io.ErrorKind.{ErrorKind}
use Rattle.std.specs.declared.io.ErrorKind.TheVariants.{OutOfMemory}
use Rattle.std.specs.IoError.{error_kind}
use Rattle.std.specs.Fmt.{decimal}
use Rattle.std.specs.Str.{IsUtf8}
use Rattle.cast_script.specs.Readings.{script_of}
use Rattle.cast_device.specs.declared.watched.Watched.{Watched}
use Rattle.cast_device.specs.Watching.{HasFailedOrStalled}
use Rattle.cast_device.specs.Writing.{IsTold}
use Rattle.cast_script.specs.declared.script.ScriptFault.{ScriptFault}
use Rattle.cast_script.specs.declared.script.ScriptFault.TheVariants as script
use Rattle.cast_script.specs.Reasons.{reason_text}
use Rattle.cast_print.specs.Logs.{line_feed}
use Rattle.cast_replay.specs.declared.run.RunFault.{RunFault}
use Rattle.cast_replay.specs.declared.run.RunFault.TheVariants.{Unreadable, BadLine, NoMemory}
use Rattle.cast_replay.specs.Shown.{Shows}

-- an end: the text of the log, or why there is none
abbrev pub End : Type 0
End = Result (List ℕ) RunFault

-- what was read of a file: its bytes, or why there are none
abbrev pub Reading : Type 0
Reading = Result (Vec ℕ Global) Error

-- where memory ran out the bytes are a text, of which nothing more is said
abbrev pub Ends : List ℕ → End → Type 0
Ends bytes (Ok text) = IsUtf8 bytes × Shows bytes text
Ends bytes (Err Unreadable) = ¬ (IsUtf8 bytes)
Ends bytes (Err (BadLine line reason)) = IsUtf8 bytes × (script_of bytes ≡ Err (line, reason))
Ends bytes (Err NoMemory) = IsUtf8 bytes

-- an error of reading says that memory ran out, or that the file cannot be read
abbrev pub unread_as : ErrorKind → RunFault
unread_as OutOfMemory = NoMemory
unread_as kind = Unreadable

-- the same of what was read
abbrev pub EndsOn : Reading → End → Type 0
EndsOn (Ok bytes) end = Ends bytes.items end
EndsOn (Err error) end = end ≡ Err (unread_as (error_kind error))

-- the same of a text, seen by view
abbrev pub EndsAs : {T : Type 0} → (T → List ℕ) → List ℕ → Result T RunFault → Type 0
EndsAs view bytes (Ok text) = Ends bytes (Ok (view text))
EndsAs view bytes (Err fault) = Ends bytes (Err fault)

-- a script's fault is the file's
abbrev pub run_fault : ScriptFault → RunFault
run_fault (script.At line reason) = BadLine line reason
run_fault script.NoMemory = NoMemory

-- the status of the program
abbrev pub status_of : End → ℕ
status_of (Ok text) = 0
status_of (Err Unreadable) = 3
status_of (Err (BadLine line reason)) = 4
status_of (Err NoMemory) = 5

-- what it prints
abbrev pub output_of : End → List ℕ
output_of (Ok text) = text
output_of (Err fault) = []

-- what it says of a fault of the file of this name
abbrev pub fault_text : List ℕ → RunFault → List ℕ
fault_text name Unreadable = codes "castd: cannot read " ++ (name ++ line_feed)
fault_text name (BadLine line reason) =
    codes "castd: line " ++ (decimal line ++ (codes ": " ++ (reason_text reason ++ line_feed)))
fault_text name NoMemory = codes "castd: no memory" ++ line_feed

-- what it says of an end: nothing of a log
abbrev pub complaint_of : List ℕ → End → List ℕ
complaint_of name (Ok text) = []
complaint_of name (Err fault) = fault_text name fault

-- the program had this end: its status says so, its log was written, and the writer of errors was
-- told; contents say what each writer holds, before and after
abbrev pub IsEnd : {O E : Type 0} → (O → Option (List ℕ)) → Watched O → Watched O
    → (E → Option (List ℕ)) → Watched E → Watched E
    → List ℕ → ℕ → End → Type 0
IsEnd out_contents out out_now err_contents err err_now name status end =
    (status ≡ status_of end)
    × IsTold (out_contents out.device) (out_contents out_now.device) (output_of end)
    (HasFailedOrStalled out_now)
    × IsTold (err_contents err.device) (err_contents err_now.device) (complaint_of name end)
    (HasFailedOrStalled err_now)
