-- The vectors of the frames between a program and its daemon, computed both ways, and their faults.
use Rattle.std.proofs.Common.{◌≡◌, ℕ, List, [], ◌∷◌, ◌++◌, Some, None, Ok, Err, refl}
use Rattle.cast_types.specs.declared.names.Proc.{Proc}
use Rattle.cast_types.specs.declared.refusal.Refusal.TheVariants.{NotMember, Slow, GroupFull}
use Rattle.cast_field.specs.declared.fault.FrameFault.TheVariants.{Short, WrongType, Length, Range}
use Rattle.cast_message.specs.declared.client.CastKind.TheVariants.{Causal, Atomic}
use Rattle.cast_message.specs.declared.client.Request.TheVariants.{Join, Leave, Cast, Pass}
use Rattle.cast_message.specs.declared.client.Push.TheVariants.{Opened, Reply, View, Deliver, Ejected, Denied, Closed}
use Rattle.cast_message.specs.declared.client.ClientFrame.{ClientFrame}
use Rattle.cast_message.specs.declared.client.ClientFrame.TheVariants as client
use Rattle.cast_client.specs.declared.front.ClientRead.TheVariants.{Frame, More}
use Rattle.cast_field.specs.Spelling.{byte, short, word, spelled_proc, spelled_uid, spelled_holder, spelled_members}
use Rattle.cast_client.specs.Spelling.{spelled_request, spelled_push, spelled_client}
use Rattle.cast_field.specs.Reading.{within_range, byte_at, number_at, many, above, site_at, group_at, count_at, proc_at, uid_at, proc_above, holder_at, members_at}
use Rattle.cast_client.specs.Reading.{tag_at, cast_kind_at, reply_at, named_refusal, refusal_at, end_at, short_end_at, join_at, leave_at, cast_at, pass_at, opened_at, replied_at, view_at, deliver_at, ejected_at, denied_at, closed_at, parts_at, client_frame_of, length_of, length_at, frame_of_length, client_of}

abbrev first : Proc
first = record { site = record { 0 = 1 }; serial = 1 }

abbrev opened_bytes : List ℕ
opened_bytes = 0 ∷ 0 ∷ 0 ∷ 11 ∷ 65 ∷ 0 ∷ 1 ∷ 0 ∷ 0 ∷ 0 ∷ 1 ∷ []

abbrev opened_frame : ClientFrame
opened_frame = client.Push (Opened first)

opened_spelled : spelled_client opened_frame ≡ opened_bytes
unfolding byte short word spelled_proc spelled_uid spelled_holder spelled_members spelled_request spelled_push spelled_client
opened_spelled = refl

opened_read : client_of opened_bytes ≡ Ok (Frame opened_frame 11)
unfolding within_range byte_at number_at many above site_at group_at count_at proc_at uid_at proc_above holder_at members_at tag_at cast_kind_at reply_at named_refusal refusal_at end_at short_end_at join_at leave_at cast_at pass_at opened_at replied_at view_at deliver_at ejected_at denied_at closed_at parts_at client_frame_of length_of length_at frame_of_length client_of
opened_read = refl

abbrev done_bytes : List ℕ
done_bytes = 0 ∷ 0 ∷ 0 ∷ 10 ∷ 66 ∷ 0 ∷ 0 ∷ 0 ∷ 7 ∷ 0 ∷ []

abbrev done_frame : ClientFrame
done_frame = client.Push (Reply 7 None)

done_spelled : spelled_client done_frame ≡ done_bytes
unfolding byte short word spelled_proc spelled_uid spelled_holder spelled_members spelled_request spelled_push spelled_client
done_spelled = refl

done_read : client_of done_bytes ≡ Ok (Frame done_frame 10)
unfolding within_range byte_at number_at many above site_at group_at count_at proc_at uid_at proc_above holder_at members_at tag_at cast_kind_at reply_at named_refusal refusal_at end_at short_end_at join_at leave_at cast_at pass_at opened_at replied_at view_at deliver_at ejected_at denied_at closed_at parts_at client_frame_of length_of length_at frame_of_length client_of
done_read = refl

abbrev refused_bytes : List ℕ
refused_bytes = 0 ∷ 0 ∷ 0 ∷ 10 ∷ 66 ∷ 0 ∷ 0 ∷ 0 ∷ 7 ∷ 5 ∷ []

abbrev refused_frame : ClientFrame
refused_frame = client.Push (Reply 7 (Some NotMember))

refused_spelled : spelled_client refused_frame ≡ refused_bytes
unfolding byte short word spelled_proc spelled_uid spelled_holder spelled_members spelled_request spelled_push spelled_client
refused_spelled = refl

refused_read : client_of refused_bytes ≡ Ok (Frame refused_frame 10)
unfolding within_range byte_at number_at many above site_at group_at count_at proc_at uid_at proc_above holder_at members_at tag_at cast_kind_at reply_at named_refusal refusal_at end_at short_end_at join_at leave_at cast_at pass_at opened_at replied_at view_at deliver_at ejected_at denied_at closed_at parts_at client_frame_of length_of length_at frame_of_length client_of
refused_read = refl

abbrev join_bytes : List ℕ
join_bytes = 0 ∷ 0 ∷ 0 ∷ 11 ∷ 1 ∷ 0 ∷ 0 ∷ 0 ∷ 7 ∷ 0 ∷ 1 ∷ []

abbrev join_frame : ClientFrame
join_frame = client.Request (Join 7 (record { 0 = 1 }))

join_spelled : spelled_client join_frame ≡ join_bytes
unfolding byte short word spelled_proc spelled_uid spelled_holder spelled_members spelled_request spelled_push spelled_client
join_spelled = refl

join_read : client_of join_bytes ≡ Ok (Frame join_frame 11)
unfolding within_range byte_at number_at many above site_at group_at count_at proc_at uid_at proc_above holder_at members_at tag_at cast_kind_at reply_at named_refusal refusal_at end_at short_end_at join_at leave_at cast_at pass_at opened_at replied_at view_at deliver_at ejected_at denied_at closed_at parts_at client_frame_of length_of length_at frame_of_length client_of
join_read = refl

abbrev leave_bytes : List ℕ
leave_bytes = 0 ∷ 0 ∷ 0 ∷ 11 ∷ 2 ∷ 0 ∷ 0 ∷ 0 ∷ 7 ∷ 0 ∷ 1 ∷ []

abbrev leave_frame : ClientFrame
leave_frame = client.Request (Leave 7 (record { 0 = 1 }))

leave_spelled : spelled_client leave_frame ≡ leave_bytes
unfolding byte short word spelled_proc spelled_uid spelled_holder spelled_members spelled_request spelled_push spelled_client
leave_spelled = refl

leave_read : client_of leave_bytes ≡ Ok (Frame leave_frame 11)
unfolding within_range byte_at number_at many above site_at group_at count_at proc_at uid_at proc_above holder_at members_at tag_at cast_kind_at reply_at named_refusal refusal_at end_at short_end_at join_at leave_at cast_at pass_at opened_at replied_at view_at deliver_at ejected_at denied_at closed_at parts_at client_frame_of length_of length_at frame_of_length client_of
leave_read = refl

abbrev causal_cast_bytes : List ℕ
causal_cast_bytes = 0 ∷ 0 ∷ 0 ∷ 14 ∷ 3 ∷ 0 ∷ 0 ∷ 0 ∷ 8 ∷ 0 ∷ 1 ∷ 1 ∷ 104 ∷ 105 ∷ []

abbrev causal_cast_frame : ClientFrame
causal_cast_frame = client.Request (Cast 8 (record { 0 = 1 }) Causal (104 ∷ 105 ∷ []))

causal_cast_spelled : spelled_client causal_cast_frame ≡ causal_cast_bytes
unfolding byte short word spelled_proc spelled_uid spelled_holder spelled_members spelled_request spelled_push spelled_client
causal_cast_spelled = refl

causal_cast_read : client_of causal_cast_bytes ≡ Ok (Frame causal_cast_frame 14)
unfolding within_range byte_at number_at many above site_at group_at count_at proc_at uid_at proc_above holder_at members_at tag_at cast_kind_at reply_at named_refusal refusal_at end_at short_end_at join_at leave_at cast_at pass_at opened_at replied_at view_at deliver_at ejected_at denied_at closed_at parts_at client_frame_of length_of length_at frame_of_length client_of
causal_cast_read = refl

abbrev atomic_cast_bytes : List ℕ
atomic_cast_bytes = 0 ∷ 0 ∷ 0 ∷ 12 ∷ 3 ∷ 0 ∷ 0 ∷ 0 ∷ 8 ∷ 0 ∷ 1 ∷ 2 ∷ []

abbrev atomic_cast_frame : ClientFrame
atomic_cast_frame = client.Request (Cast 8 (record { 0 = 1 }) Atomic [])

atomic_cast_spelled : spelled_client atomic_cast_frame ≡ atomic_cast_bytes
unfolding byte short word spelled_proc spelled_uid spelled_holder spelled_members spelled_request spelled_push spelled_client
atomic_cast_spelled = refl

atomic_cast_read : client_of atomic_cast_bytes ≡ Ok (Frame atomic_cast_frame 12)
unfolding within_range byte_at number_at many above site_at group_at count_at proc_at uid_at proc_above holder_at members_at tag_at cast_kind_at reply_at named_refusal refusal_at end_at short_end_at join_at leave_at cast_at pass_at opened_at replied_at view_at deliver_at ejected_at denied_at closed_at parts_at client_frame_of length_of length_at frame_of_length client_of
atomic_cast_read = refl

abbrev deliver_bytes : List ℕ
deliver_bytes = 0 ∷ 0 ∷ 0 ∷ 24 ∷ 68 ∷ 0 ∷ 1 ∷ 0 ∷ 0 ∷ 0 ∷ 1 ∷ 0 ∷ 1 ∷ 0 ∷ 0 ∷ 0 ∷ 1 ∷ 0 ∷ 0 ∷ 0 ∷ 1 ∷ 1 ∷ 104 ∷ 105 ∷ []

abbrev deliver_frame : ClientFrame
deliver_frame = client.Push (Deliver (record { group = record { 0 = 1 }; view = 1; proc = first; count = 1 }) Causal (104 ∷ 105 ∷ []))

deliver_spelled : spelled_client deliver_frame ≡ deliver_bytes
unfolding byte short word spelled_proc spelled_uid spelled_holder spelled_members spelled_request spelled_push spelled_client
deliver_spelled = refl

deliver_read : client_of deliver_bytes ≡ Ok (Frame deliver_frame 24)
unfolding within_range byte_at number_at many above site_at group_at count_at proc_at uid_at proc_above holder_at members_at tag_at cast_kind_at reply_at named_refusal refusal_at end_at short_end_at join_at leave_at cast_at pass_at opened_at replied_at view_at deliver_at ejected_at denied_at closed_at parts_at client_frame_of length_of length_at frame_of_length client_of
deliver_read = refl

abbrev view_bytes : List ℕ
view_bytes = 0 ∷ 0 ∷ 0 ∷ 19 ∷ 67 ∷ 0 ∷ 1 ∷ 0 ∷ 0 ∷ 0 ∷ 1 ∷ 1 ∷ 0 ∷ 1 ∷ 0 ∷ 0 ∷ 0 ∷ 1 ∷ 0 ∷ []

abbrev view_frame : ClientFrame
view_frame = client.Push (View (record { 0 = 1 }) 1 (record { list = first ∷ []; holder = Some first }))

view_spelled : spelled_client view_frame ≡ view_bytes
unfolding byte short word spelled_proc spelled_uid spelled_holder spelled_members spelled_request spelled_push spelled_client
view_spelled = refl

view_read : client_of view_bytes ≡ Ok (Frame view_frame 19)
unfolding within_range byte_at number_at many above site_at group_at count_at proc_at uid_at proc_above holder_at members_at tag_at cast_kind_at reply_at named_refusal refusal_at end_at short_end_at join_at leave_at cast_at pass_at opened_at replied_at view_at deliver_at ejected_at denied_at closed_at parts_at client_frame_of length_of length_at frame_of_length client_of
view_read = refl

abbrev ejected_bytes : List ℕ
ejected_bytes = 0 ∷ 0 ∷ 0 ∷ 11 ∷ 69 ∷ 0 ∷ 1 ∷ 0 ∷ 0 ∷ 0 ∷ 2 ∷ []

abbrev ejected_frame : ClientFrame
ejected_frame = client.Push (Ejected (record { 0 = 1 }) 2)

ejected_spelled : spelled_client ejected_frame ≡ ejected_bytes
unfolding byte short word spelled_proc spelled_uid spelled_holder spelled_members spelled_request spelled_push spelled_client
ejected_spelled = refl

ejected_read : client_of ejected_bytes ≡ Ok (Frame ejected_frame 11)
unfolding within_range byte_at number_at many above site_at group_at count_at proc_at uid_at proc_above holder_at members_at tag_at cast_kind_at reply_at named_refusal refusal_at end_at short_end_at join_at leave_at cast_at pass_at opened_at replied_at view_at deliver_at ejected_at denied_at closed_at parts_at client_frame_of length_of length_at frame_of_length client_of
ejected_read = refl

abbrev denied_bytes : List ℕ
denied_bytes = 0 ∷ 0 ∷ 0 ∷ 8 ∷ 70 ∷ 0 ∷ 1 ∷ 14 ∷ []

abbrev denied_frame : ClientFrame
denied_frame = client.Push (Denied (record { 0 = 1 }) GroupFull)

denied_spelled : spelled_client denied_frame ≡ denied_bytes
unfolding byte short word spelled_proc spelled_uid spelled_holder spelled_members spelled_request spelled_push spelled_client
denied_spelled = refl

denied_read : client_of denied_bytes ≡ Ok (Frame denied_frame 8)
unfolding within_range byte_at number_at many above site_at group_at count_at proc_at uid_at proc_above holder_at members_at tag_at cast_kind_at reply_at named_refusal refusal_at end_at short_end_at join_at leave_at cast_at pass_at opened_at replied_at view_at deliver_at ejected_at denied_at closed_at parts_at client_frame_of length_of length_at frame_of_length client_of
denied_read = refl

abbrev closed_bytes : List ℕ
closed_bytes = 0 ∷ 0 ∷ 0 ∷ 6 ∷ 71 ∷ 12 ∷ []

abbrev closed_frame : ClientFrame
closed_frame = client.Push (Closed Slow)

closed_spelled : spelled_client closed_frame ≡ closed_bytes
unfolding byte short word spelled_proc spelled_uid spelled_holder spelled_members spelled_request spelled_push spelled_client
closed_spelled = refl

closed_read : client_of closed_bytes ≡ Ok (Frame closed_frame 6)
unfolding within_range byte_at number_at many above site_at group_at count_at proc_at uid_at proc_above holder_at members_at tag_at cast_kind_at reply_at named_refusal refusal_at end_at short_end_at join_at leave_at cast_at pass_at opened_at replied_at view_at deliver_at ejected_at denied_at closed_at parts_at client_frame_of length_of length_at frame_of_length client_of
closed_read = refl

-- ---- faults, and what is wanting

length_of_4 : client_of (0 ∷ 0 ∷ 0 ∷ 4 ∷ []) ≡ Err Length
unfolding within_range byte_at number_at many above site_at group_at count_at proc_at uid_at proc_above holder_at members_at tag_at cast_kind_at reply_at named_refusal refusal_at end_at short_end_at join_at leave_at cast_at pass_at opened_at replied_at view_at deliver_at ejected_at denied_at closed_at parts_at client_frame_of length_of length_at frame_of_length client_of
length_of_4 = refl

length_of_20001 : client_of (0 ∷ 0 ∷ 78 ∷ 33 ∷ []) ≡ Err Length
unfolding within_range byte_at number_at many above site_at group_at count_at proc_at uid_at proc_above holder_at members_at tag_at cast_kind_at reply_at named_refusal refusal_at end_at short_end_at join_at leave_at cast_at pass_at opened_at replied_at view_at deliver_at ejected_at denied_at closed_at parts_at client_frame_of length_of length_at frame_of_length client_of
length_of_20001 = refl

join_with_a_byte_too_many : client_of (0 ∷ 0 ∷ 0 ∷ 12 ∷ 1 ∷ 0 ∷ 0 ∷ 0 ∷ 7 ∷ 0 ∷ 1 ∷ 0 ∷ []) ≡ Err Length
unfolding within_range byte_at number_at many above site_at group_at count_at proc_at uid_at proc_above holder_at members_at tag_at cast_kind_at reply_at named_refusal refusal_at end_at short_end_at join_at leave_at cast_at pass_at opened_at replied_at view_at deliver_at ejected_at denied_at closed_at parts_at client_frame_of length_of length_at frame_of_length client_of
join_with_a_byte_too_many = refl

join_of_group_0 : client_of (0 ∷ 0 ∷ 0 ∷ 11 ∷ 1 ∷ 0 ∷ 0 ∷ 0 ∷ 7 ∷ 0 ∷ 0 ∷ []) ≡ Err Range
unfolding within_range byte_at number_at many above site_at group_at count_at proc_at uid_at proc_above holder_at members_at tag_at cast_kind_at reply_at named_refusal refusal_at end_at short_end_at join_at leave_at cast_at pass_at opened_at replied_at view_at deliver_at ejected_at denied_at closed_at parts_at client_frame_of length_of length_at frame_of_length client_of
join_of_group_0 = refl

no_type_5 : client_of (0 ∷ 0 ∷ 0 ∷ 11 ∷ 5 ∷ 0 ∷ 0 ∷ 0 ∷ 7 ∷ 0 ∷ 1 ∷ []) ≡ Err WrongType
unfolding within_range byte_at number_at many above site_at group_at count_at proc_at uid_at proc_above holder_at members_at tag_at cast_kind_at reply_at named_refusal refusal_at end_at short_end_at join_at leave_at cast_at pass_at opened_at replied_at view_at deliver_at ejected_at denied_at closed_at parts_at client_frame_of length_of length_at frame_of_length client_of
no_type_5 = refl

no_type_0 : client_of (0 ∷ 0 ∷ 0 ∷ 5 ∷ 0 ∷ []) ≡ Err WrongType
unfolding within_range byte_at number_at many above site_at group_at count_at proc_at uid_at proc_above holder_at members_at tag_at cast_kind_at reply_at named_refusal refusal_at end_at short_end_at join_at leave_at cast_at pass_at opened_at replied_at view_at deliver_at ejected_at denied_at closed_at parts_at client_frame_of length_of length_at frame_of_length client_of
no_type_0 = refl

no_type_72 : client_of (0 ∷ 0 ∷ 0 ∷ 5 ∷ 72 ∷ []) ≡ Err WrongType
unfolding within_range byte_at number_at many above site_at group_at count_at proc_at uid_at proc_above holder_at members_at tag_at cast_kind_at reply_at named_refusal refusal_at end_at short_end_at join_at leave_at cast_at pass_at opened_at replied_at view_at deliver_at ejected_at denied_at closed_at parts_at client_frame_of length_of length_at frame_of_length client_of
no_type_72 = refl

reply_code_16 : client_of (0 ∷ 0 ∷ 0 ∷ 10 ∷ 66 ∷ 0 ∷ 0 ∷ 0 ∷ 7 ∷ 16 ∷ []) ≡ Err Range
unfolding within_range byte_at number_at many above site_at group_at count_at proc_at uid_at proc_above holder_at members_at tag_at cast_kind_at reply_at named_refusal refusal_at end_at short_end_at join_at leave_at cast_at pass_at opened_at replied_at view_at deliver_at ejected_at denied_at closed_at parts_at client_frame_of length_of length_at frame_of_length client_of
reply_code_16 = refl

denied_code_0 : client_of (0 ∷ 0 ∷ 0 ∷ 8 ∷ 70 ∷ 0 ∷ 1 ∷ 0 ∷ []) ≡ Err Range
unfolding within_range byte_at number_at many above site_at group_at count_at proc_at uid_at proc_above holder_at members_at tag_at cast_kind_at reply_at named_refusal refusal_at end_at short_end_at join_at leave_at cast_at pass_at opened_at replied_at view_at deliver_at ejected_at denied_at closed_at parts_at client_frame_of length_of length_at frame_of_length client_of
denied_code_0 = refl

closed_code_0 : client_of (0 ∷ 0 ∷ 0 ∷ 6 ∷ 71 ∷ 0 ∷ []) ≡ Err Range
unfolding within_range byte_at number_at many above site_at group_at count_at proc_at uid_at proc_above holder_at members_at tag_at cast_kind_at reply_at named_refusal refusal_at end_at short_end_at join_at leave_at cast_at pass_at opened_at replied_at view_at deliver_at ejected_at denied_at closed_at parts_at client_frame_of length_of length_at frame_of_length client_of
closed_code_0 = refl

kind_3 : client_of (0 ∷ 0 ∷ 0 ∷ 12 ∷ 3 ∷ 0 ∷ 0 ∷ 0 ∷ 8 ∷ 0 ∷ 1 ∷ 3 ∷ []) ≡ Err Range
unfolding within_range byte_at number_at many above site_at group_at count_at proc_at uid_at proc_above holder_at members_at tag_at cast_kind_at reply_at named_refusal refusal_at end_at short_end_at join_at leave_at cast_at pass_at opened_at replied_at view_at deliver_at ejected_at denied_at closed_at parts_at client_frame_of length_of length_at frame_of_length client_of
kind_3 = refl

kind_0 : client_of (0 ∷ 0 ∷ 0 ∷ 12 ∷ 3 ∷ 0 ∷ 0 ∷ 0 ∷ 8 ∷ 0 ∷ 1 ∷ 0 ∷ []) ≡ Err Range
unfolding within_range byte_at number_at many above site_at group_at count_at proc_at uid_at proc_above holder_at members_at tag_at cast_kind_at reply_at named_refusal refusal_at end_at short_end_at join_at leave_at cast_at pass_at opened_at replied_at view_at deliver_at ejected_at denied_at closed_at parts_at client_frame_of length_of length_at frame_of_length client_of
kind_0 = refl

join_of_10_bytes : client_of (0 ∷ 0 ∷ 0 ∷ 10 ∷ 1 ∷ 0 ∷ 0 ∷ 0 ∷ 7 ∷ 0 ∷ []) ≡ Err Short
unfolding within_range byte_at number_at many above site_at group_at count_at proc_at uid_at proc_above holder_at members_at tag_at cast_kind_at reply_at named_refusal refusal_at end_at short_end_at join_at leave_at cast_at pass_at opened_at replied_at view_at deliver_at ejected_at denied_at closed_at parts_at client_frame_of length_of length_at frame_of_length client_of
join_of_10_bytes = refl

join_of_10_bytes_and_more : client_of (0 ∷ 0 ∷ 0 ∷ 10 ∷ 1 ∷ 0 ∷ 0 ∷ 0 ∷ 7 ∷ 0 ∷ 1 ∷ []) ≡ Err Short
unfolding within_range byte_at number_at many above site_at group_at count_at proc_at uid_at proc_above holder_at members_at tag_at cast_kind_at reply_at named_refusal refusal_at end_at short_end_at join_at leave_at cast_at pass_at opened_at replied_at view_at deliver_at ejected_at denied_at closed_at parts_at client_frame_of length_of length_at frame_of_length client_of
join_of_10_bytes_and_more = refl

no_kind : client_of (0 ∷ 0 ∷ 0 ∷ 11 ∷ 3 ∷ 0 ∷ 0 ∷ 0 ∷ 8 ∷ 0 ∷ 1 ∷ []) ≡ Err Short
unfolding within_range byte_at number_at many above site_at group_at count_at proc_at uid_at proc_above holder_at members_at tag_at cast_kind_at reply_at named_refusal refusal_at end_at short_end_at join_at leave_at cast_at pass_at opened_at replied_at view_at deliver_at ejected_at denied_at closed_at parts_at client_frame_of length_of length_at frame_of_length client_of
no_kind = refl

view_0 : client_of (0 ∷ 0 ∷ 0 ∷ 11 ∷ 69 ∷ 0 ∷ 1 ∷ 0 ∷ 0 ∷ 0 ∷ 0 ∷ []) ≡ Err Range
unfolding within_range byte_at number_at many above site_at group_at count_at proc_at uid_at proc_above holder_at members_at tag_at cast_kind_at reply_at named_refusal refusal_at end_at short_end_at join_at leave_at cast_at pass_at opened_at replied_at view_at deliver_at ejected_at denied_at closed_at parts_at client_frame_of length_of length_at frame_of_length client_of
view_0 = refl

nothing_yet : client_of ([]) ≡ Ok (More 4)
unfolding within_range byte_at number_at many above site_at group_at count_at proc_at uid_at proc_above holder_at members_at tag_at cast_kind_at reply_at named_refusal refusal_at end_at short_end_at join_at leave_at cast_at pass_at opened_at replied_at view_at deliver_at ejected_at denied_at closed_at parts_at client_frame_of length_of length_at frame_of_length client_of
nothing_yet = refl

three_bytes : client_of (0 ∷ 0 ∷ 0 ∷ []) ≡ Ok (More 1)
unfolding within_range byte_at number_at many above site_at group_at count_at proc_at uid_at proc_above holder_at members_at tag_at cast_kind_at reply_at named_refusal refusal_at end_at short_end_at join_at leave_at cast_at pass_at opened_at replied_at view_at deliver_at ejected_at denied_at closed_at parts_at client_frame_of length_of length_at frame_of_length client_of
three_bytes = refl

length_alone : client_of (0 ∷ 0 ∷ 0 ∷ 11 ∷ []) ≡ Ok (More 7)
unfolding within_range byte_at number_at many above site_at group_at count_at proc_at uid_at proc_above holder_at members_at tag_at cast_kind_at reply_at named_refusal refusal_at end_at short_end_at join_at leave_at cast_at pass_at opened_at replied_at view_at deliver_at ejected_at denied_at closed_at parts_at client_frame_of length_of length_at frame_of_length client_of
length_alone = refl

shortest_length : client_of (0 ∷ 0 ∷ 0 ∷ 5 ∷ []) ≡ Ok (More 1)
unfolding within_range byte_at number_at many above site_at group_at count_at proc_at uid_at proc_above holder_at members_at tag_at cast_kind_at reply_at named_refusal refusal_at end_at short_end_at join_at leave_at cast_at pass_at opened_at replied_at view_at deliver_at ejected_at denied_at closed_at parts_at client_frame_of length_of length_at frame_of_length client_of
shortest_length = refl

longest_length : client_of (0 ∷ 0 ∷ 78 ∷ 32 ∷ []) ≡ Ok (More 19996)
unfolding within_range byte_at number_at many above site_at group_at count_at proc_at uid_at proc_above holder_at members_at tag_at cast_kind_at reply_at named_refusal refusal_at end_at short_end_at join_at leave_at cast_at pass_at opened_at replied_at view_at deliver_at ejected_at denied_at closed_at parts_at client_frame_of length_of length_at frame_of_length client_of
longest_length = refl

join_without_its_last_byte : client_of (0 ∷ 0 ∷ 0 ∷ 11 ∷ 1 ∷ 0 ∷ 0 ∷ 0 ∷ 7 ∷ 0 ∷ []) ≡ Ok (More 1)
unfolding within_range byte_at number_at many above site_at group_at count_at proc_at uid_at proc_above holder_at members_at tag_at cast_kind_at reply_at named_refusal refusal_at end_at short_end_at join_at leave_at cast_at pass_at opened_at replied_at view_at deliver_at ejected_at denied_at closed_at parts_at client_frame_of length_of length_at frame_of_length client_of
join_without_its_last_byte = refl

wrong_type_before_the_end : client_of (0 ∷ 0 ∷ 0 ∷ 11 ∷ 4 ∷ []) ≡ Ok (More 6)
unfolding within_range byte_at number_at many above site_at group_at count_at proc_at uid_at proc_above holder_at members_at tag_at cast_kind_at reply_at named_refusal refusal_at end_at short_end_at join_at leave_at cast_at pass_at opened_at replied_at view_at deliver_at ejected_at denied_at closed_at parts_at client_frame_of length_of length_at frame_of_length client_of
wrong_type_before_the_end = refl

-- what stands behind a frame is not looked at
opened_before_others : client_of (opened_bytes ++ (255 ∷ 0 ∷ [])) ≡ Ok (Frame opened_frame 11)
unfolding within_range byte_at number_at many above site_at group_at count_at proc_at uid_at proc_above holder_at members_at tag_at cast_kind_at reply_at named_refusal refusal_at end_at short_end_at join_at leave_at cast_at pass_at opened_at replied_at view_at deliver_at ejected_at denied_at closed_at parts_at client_frame_of length_of length_at frame_of_length client_of
opened_before_others = refl

abbrev pass_bytes : List ℕ
pass_bytes = 0 ∷ 0 ∷ 0 ∷ 17 ∷ 4 ∷ 0 ∷ 0 ∷ 0 ∷ 9 ∷ 0 ∷ 1 ∷ 0 ∷ 2 ∷ 0 ∷ 0 ∷ 0 ∷ 1 ∷ []

abbrev pass_frame : ClientFrame
pass_frame = client.Request (Pass 9 (record { 0 = 1 }) (record { site = record { 0 = 2 }; serial = 1 }))

pass_spelled : spelled_client pass_frame ≡ pass_bytes
unfolding byte short word spelled_proc spelled_uid spelled_holder spelled_members spelled_request spelled_push spelled_client
pass_spelled = refl

pass_read : client_of pass_bytes ≡ Ok (Frame pass_frame 17)
unfolding within_range byte_at number_at many above site_at group_at count_at proc_at uid_at proc_above holder_at members_at tag_at cast_kind_at reply_at named_refusal refusal_at end_at short_end_at join_at leave_at cast_at pass_at opened_at replied_at view_at deliver_at ejected_at denied_at closed_at parts_at client_frame_of length_of length_at frame_of_length client_of
pass_read = refl
