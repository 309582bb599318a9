-- Faults of a document: the name of the field, what is said of the cause.
-- Also how an answer is what reading gives.
use Rattle.std.specs.Prelude.{◌≡◌, ℕ, Bool, true, false, if◌then◌else◌}
use Rattle.std.specs.Prelude.{List, ◌++◌, codes, Result, Ok, Err}
use Rattle.cast_config.specs.declared.fault.Field.{Field}
use Rattle.cast_config.specs.declared.fault.Field.TheVariants as field
use Rattle.cast_config.specs.declared.fault.Cause.{Cause}
use Rattle.cast_config.specs.declared.fault.Cause.TheVariants as cause
use Rattle.cast_config.specs.declared.fault.ConfigFault.{ConfigFault}

abbrev pub field_text : Field → List ℕ
field_text field.Text = codes "text"
field_text field.Site = codes "site"
field_text field.Domain = codes "domain"
field_text field.Number = codes "number"
field_text field.Address = codes "address"
field_text field.Home = codes "home"
field_text field.Sites = codes "sites"
field_text field.Groups = codes "groups"
field_text field.Socket = codes "socket"
field_text field.Sessions = codes "sessions"
field_text field.Held = codes "held"
field_text field.Outbox = codes "outbox"
field_text field.Resend = codes "resend"
field_text field.Network = codes "network"
field_text field.Bundle = codes "bundle"
field_text field.Datagram = codes "datagram"
field_text field.Delay = codes "delay"
field_text field.Sealed = codes "sealed"
field_text field.Key = codes "key"
field_text field.Secret = codes "secret"

abbrev pub cause_text : Cause → List ℕ
cause_text cause.NotToml = codes "not toml"
cause_text cause.Missing = codes "missing"
cause_text cause.WrongKind = codes "wrong kind"
cause_text cause.Range = codes "out of range"
cause_text cause.Repeated = codes "repeated"
cause_text cause.NotListed = codes "not listed"
cause_text cause.NoMemory = codes "no memory"

-- this cause at this field
abbrev pub fault : Field → Cause → ConfigFault
fault f c = record { field = f; cause = c }

abbrev pub is_memory_cause : Cause → Bool
is_memory_cause cause.NoMemory = true
is_memory_cause c = false

-- memory ran out
abbrev pub is_memory : ConfigFault → Bool
is_memory f = is_memory_cause f.cause

-- what the program says of a fault
abbrev pub fault_text : ConfigFault → List ℕ
fault_text f =
    if is_memory f then codes "castd: no memory\n"
    else codes "castd: config: "
    ++ (field_text f.field ++ (codes ": " ++ (cause_text f.cause ++ codes "\n")))

-- the status of the program
abbrev pub status_of : ConfigFault → ℕ
status_of f = if is_memory f then 5 else 6

-- what a function answered, seen by view, is what reading gives
abbrev pub IsSeen : {X Y : Type 0} → (X → Y) → Result X ConfigFault → Result Y ConfigFault → Type 0
IsSeen view (Ok x) read = read ≡ Ok (view x)
IsSeen view (Err e) read = read ≡ Err e

-- the same, unless memory ran out
abbrev pub GivesAs : {X Y : Type 0} → (X → Y) → Result X ConfigFault → Result Y ConfigFault → Type 0
GivesAs view (Ok x) read = read ≡ Ok (view x)
GivesAs view (Err e) read = is_memory e ≡ false → read ≡ Err e

abbrev pub Gives : {X : Type 0} → Result X ConfigFault → Result X ConfigFault → Type 0
Gives result read = GivesAs (λ x. x) result read
