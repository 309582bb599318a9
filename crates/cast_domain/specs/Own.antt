-- ABCASTs of a process of this site that it has not delivered itself.
use Rattle.std.specs.Prelude.{◌≡◌, ℕ, Bool, false, not, ◌&&◌, List, Contains}
use Rattle.cast_types.specs.declared.names.Proc.{Proc}
use Rattle.cast_types.specs.declared.names.Uid.{Uid}
use Rattle.cast_types.specs.declared.source.Source.{Source}
use Rattle.cast_types.specs.Sources.{source, source_of}
use Rattle.cast_message.specs.declared.message.Received.{Received}
use Rattle.cast_ready.specs.Ready.{is_member}
use Rattle.cast_delay.specs.Queue.{delivered_in}
use Rattle.cast_domain.specs.declared.record.GroupRecord.{GroupRecord}
use Rattle.cast_domain.specs.Records.{Records}
use Rattle.cast_domain.specs.PartCalls.{is_current_in, is_own_in, record_at, standing_of}

-- a message of the view of a group of which its process is a member, and that has not delivered it
abbrev pub is_due_in : Records → Uid → Bool
is_due_in r u =
    is_current_in r u
    && (is_member (standing_of r.delay u.proc u.group)
    && not (delivered_in r.delay u.proc u))

-- where the messages of a process in the view of the group at a place come from
abbrev pub source_at : List GroupRecord → ℕ → Proc → Source
source_at groups i p = source (record_at groups i).name (record_at groups i).here.number p

-- of the messages of a source that are kept a process has delivered each ABCAST of its own
abbrev pub AwaitsNoneOf : Records → Proc → Source → Type 0
AwaitsNoneOf r p s =
    (x : Received) → Contains r.part.kept x → source_of x.message.id ≡ s
    → is_own_in r p x.message ≡ false
