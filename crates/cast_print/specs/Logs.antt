-- The printed text of a log, each line ended by a line feed.
use Rattle.std.specs.Prelude.{ℕ, ◌+◌, List, [], ◌∷◌, ◌++◌, codes, Bool}
use Rattle.std.specs.Prelude.{if◌then◌else◌, Option, Some, None, Result, Ok, Err}
use Rattle.std.specs.List.{flat_map}
use Rattle.std.specs.Fmt.{decimal}
use Rattle.hex.specs.Hex.{encode_lower}
use Rattle.cast_types.specs.declared.names.DomainNo.{DomainNo}
use Rattle.cast_types.specs.declared.names.SiteNo.{SiteNo}
use Rattle.cast_types.specs.declared.names.Proc.{Proc}
use Rattle.cast_types.specs.declared.names.Uid.{Uid}
use Rattle.cast_types.specs.Refusals.{refusal_code}
use Rattle.cast_message.specs.declared.client.CastKind.{CastKind}
use Rattle.cast_message.specs.declared.client.CastKind.TheVariants as kind
use Rattle.cast_message.specs.declared.client.Push.{Push}
use Rattle.cast_message.specs.declared.client.Push.TheVariants as push
use Rattle.cast_message.specs.declared.site.SiteFrame.{SiteFrame}
use Rattle.cast_message.specs.Membership.{Membership}
use Rattle.cast_message.specs.Replies.{reply_code}
use Rattle.cast_frame.specs.Spelling.{spelled_site}
use Rattle.cast_events.specs.declared.event.Taken.{Taken}
use Rattle.cast_events.specs.declared.event.Taken.TheVariants as taken
use Rattle.cast_events.specs.declared.log.Fault.{Fault}
use Rattle.cast_events.specs.declared.log.Fault.TheVariants as fault
use Rattle.cast_events.specs.declared.log.Given.{Given}
use Rattle.cast_events.specs.declared.log.Log.{Log}
use Rattle.cast_script.specs.Words.{proc_text}

-- the texts of a list's items, which are numbered from n on
abbrev pub numbered_texts : {X : Type 0} → (ℕ → X → List ℕ) → ℕ → List X → List ℕ
numbered_texts f n [] = []
numbered_texts f n (x ∷ xs) = f n x ++ numbered_texts f (n + 1) xs

abbrev pub line_feed : List ℕ
line_feed = 10 ∷ []

-- as in `1/1/1.1/1`
abbrev pub uid_text : Uid → List ℕ
uid_text u =
    decimal u.group.0 ++ (codes "/"
    ++ (decimal u.view ++ (codes "/" ++ (proc_text u.proc ++ (codes "/" ++ decimal u.count)))))

-- bytes in hexadecimal, `-` where there are none
abbrev pub payload_text : List ℕ → List ℕ
payload_text [] = codes "-"
payload_text (b ∷ bs) = encode_lower (b ∷ bs)

abbrev pub holder_text : Option Proc → List ℕ
holder_text None = []
holder_text (Some p) = codes " holder " ++ proc_text p

abbrev pub member_text : Proc → List ℕ
member_text p = codes " " ++ proc_text p

-- as in ` holder 1.1 members 1.1 2.1`
abbrev pub members_text : Membership → List ℕ
members_text m = holder_text m.holder ++ (codes " members" ++ flat_map member_text m.list)

abbrev pub kind_text : CastKind → List ℕ
kind_text kind.Causal = codes "causal"
kind_text kind.Atomic = codes "atomic"

abbrev pub push_text : Push → List ℕ
push_text (push.Opened p) = codes "opened " ++ proc_text p
push_text (push.Reply tag refusal) =
    codes "reply " ++ (decimal tag ++ (codes " " ++ decimal (reply_code refusal)))
push_text (push.View group view members) =
    codes "view " ++ (decimal group.0 ++ (codes " " ++ (decimal view ++ members_text members)))
push_text (push.Deliver id how payload) =
    codes "deliver "
    ++ (uid_text id ++ (codes " " ++ (kind_text how ++ (codes " " ++ payload_text payload))))
push_text (push.Ejected group view) =
    codes "ejected " ++ (decimal group.0 ++ (codes " " ++ decimal view))
push_text (push.Denied group refusal) =
    codes "denied " ++ (decimal group.0 ++ (codes " " ++ decimal (refusal_code refusal)))
push_text (push.Closed refusal) = codes "closed " ++ decimal (refusal_code refusal)

-- a push of a domain's session
abbrev pub push_line : DomainNo → ℕ → Push → List ℕ
push_line d serial p =
    codes "push "
    ++ (decimal d.0 ++ (codes " " ++ (decimal serial ++ (codes " " ++ (push_text p ++ line_feed)))))

abbrev pub session_text : DomainNo → ℕ → List Push → List ℕ
session_text d serial pushes = flat_map (push_line d serial) pushes

-- a frame of a domain, sent by a site
abbrev pub frame_line : DomainNo → SiteNo → SiteNo × SiteFrame → List ℕ
frame_line d from sent =
    codes "send " ++ (decimal d.0 ++ (codes " " ++ (decimal sent.0.0
    ++ (codes " " ++ (encode_lower (spelled_site d from sent.1) ++ line_feed)))))

abbrev pub halted_text : DomainNo → Bool → List ℕ
halted_text d halted = if halted then codes "halted " ++ (decimal d.0 ++ line_feed) else []

-- what a domain has given: its pushes by serial, its frames, and whether it was halted
abbrev pub given_text : SiteNo → Given → List ℕ
given_text site g =
    numbered_texts (session_text g.domain) 1 g.pushes
    ++ (flat_map (frame_line g.domain site) g.sent ++ halted_text g.domain g.halted)

abbrev pub taken_line : ℕ → Taken → List ℕ
taken_line n taken.Nothing = []
taken_line n (taken.Opened serial) = []
taken_line n (taken.Entries entries) = []
taken_line n (taken.Refused r) =
    codes "event " ++ (decimal n ++ (codes " refused " ++ (decimal (refusal_code r) ++ line_feed)))

abbrev pub fault_line : ℕ → Fault → List ℕ
fault_line n fault.NoMemory = []
fault_line n (fault.Halted d) = []
fault_line n fault.NoDomain = codes "event " ++ (decimal n ++ (codes " no domain" ++ line_feed))

-- the n-th event's line, if it was refused or names no domain
abbrev pub answer_line : ℕ → Result Taken Fault → List ℕ
answer_line n (Ok t) = taken_line n t
answer_line n (Err e) = fault_line n e

-- the answers that are printed, and then what each domain has given
abbrev pub log_text : SiteNo → Log → List ℕ
log_text site log = numbered_texts answer_line 1 log.answers ++ flat_map (given_text site) log.given
