-- The vectors of the format, computed both ways, and its faults.
-- Each is a worked example: both sides compute to the same value.
use Rattle.std.proofs.Common.{◌≡◌, ◌≤◌, ℕ, true, false, List, [], ◌∷◌, length, Some, None, Ok, Err, refl, take, arith}
use Rattle.std.specs.Prelude.{nat_lt}
use Rattle.std.proofs.lemmas.Bool.{le-ltb}
use Rattle.cast_types.specs.declared.names.Proc.{Proc}
use Rattle.cast_field.specs.declared.fault.FrameFault.TheVariants.{Short, Magic, Version, WrongType, Length, NotSorted, Range}
use Rattle.cast_message.specs.declared.message.Body.TheVariants as body
use Rattle.cast_message.specs.declared.site.Change.TheVariants.{Join}
use Rattle.cast_message.specs.declared.site.SiteFrame.{SiteFrame}
use Rattle.cast_message.specs.declared.site.SiteFrame.TheVariants.{Data, Ack, Stable, Ask, Asked, Prepare, Flushed, Want, Forward, Install, Installed, Out}
use Rattle.cast_field.specs.Spelling.{byte, short, word, spelled_proc, spelled_entry, spelled_uid, spelled_counts, spelled_clock, spelled_times, spelled_payload, spelled_new_holder, spelled_sequence, spelled_body, spelled_message, spelled_holder, spelled_members, spelled_tail, spelled_marked, spelled_kept}
use Rattle.cast_frame.specs.Spelling.{spelled_fields, spelled_site}
use Rattle.cast_field.specs.Reading.{within_range, byte_at, number_at, bytes_at, many, above, domain_at, site_at, group_at, count_at, proc_at, entry_at, uid_at, proc_above, entry_above, counts_at, group_above, clock_above, times_at, payload_at, id_at, new_holder_at, sequence_at, kind_at, causal_at, atomic_at, order_at, body_at, message_at, holder_at, members_at, tail_at, id_above, mark_at, marked_above, kept_at}
use Rattle.cast_frame.specs.Reading.{full_of, data_at, ack_at, stable_at, ask_at, asked_at, prepare_at, flushed_at, want_at, forward_at, install_at, installed_at, out_at, type_of, type_at, fields_at, magic_at, version_of, version_at, frame_at, site_frame_of}

abbrev first : Proc
first = record { site = record { 0 = 1 }; serial = 1 }

abbrev second : Proc
second = record { site = record { 0 = 2 }; serial = 1 }

abbrev data_bytes : List ℕ
data_bytes = 67 ∷ 68 ∷ 1 ∷ 1 ∷ 1 ∷ 0 ∷ 1 ∷ 0 ∷ 1 ∷ 0 ∷ 0 ∷ 0 ∷ 1 ∷ 0 ∷ 1 ∷ 0 ∷ 0 ∷ 0 ∷ 1 ∷ 0 ∷ 0 ∷ 0 ∷ 1 ∷ 1 ∷ 1 ∷ 0 ∷ 1 ∷ 0 ∷ 0 ∷ 0 ∷ 1 ∷ 1 ∷ 0 ∷ 1 ∷ 0 ∷ 0 ∷ 0 ∷ 1 ∷ 0 ∷ 0 ∷ 0 ∷ 1 ∷ 0 ∷ 2 ∷ 104 ∷ 105 ∷ []

abbrev data_frame : SiteFrame
data_frame = Data (record { id = record { group = record { 0 = 1 }; view = 1; proc = first; count = 1 }; times = (record { 0 = 1 }, record { view = 1; counts = (first, 1) ∷ [] }) ∷ []; body = body.Causal (104 ∷ 105 ∷ []) })

data_spelled : spelled_site (record { 0 = 1 }) (record { 0 = 1 }) data_frame ≡ data_bytes
unfolding byte short word spelled_proc spelled_entry spelled_uid spelled_counts spelled_clock spelled_times spelled_payload spelled_new_holder spelled_sequence spelled_body spelled_message spelled_holder spelled_members spelled_tail spelled_marked spelled_kept spelled_fields spelled_site
data_spelled = refl

data_read : site_frame_of data_bytes ≡ Ok (record { 0 = 1 }, record { 0 = 1 }, data_frame)
unfolding within_range byte_at number_at bytes_at many above domain_at site_at group_at count_at proc_at entry_at uid_at proc_above entry_above counts_at group_above clock_above times_at payload_at id_at new_holder_at sequence_at kind_at causal_at atomic_at order_at body_at message_at holder_at members_at tail_at id_above mark_at marked_above kept_at full_of data_at ack_at stable_at ask_at asked_at prepare_at flushed_at want_at forward_at install_at installed_at out_at type_of type_at fields_at magic_at version_of version_at frame_at site_frame_of
data_read = refl

abbrev ack_bytes : List ℕ
ack_bytes = 67 ∷ 68 ∷ 1 ∷ 2 ∷ 1 ∷ 0 ∷ 1 ∷ 0 ∷ 1 ∷ 0 ∷ 0 ∷ 0 ∷ 2 ∷ 0 ∷ 2 ∷ 0 ∷ 0 ∷ 0 ∷ 1 ∷ 0 ∷ 0 ∷ 0 ∷ 1 ∷ []

abbrev ack_frame : SiteFrame
ack_frame = Ack (record { group = record { 0 = 1 }; view = 2; proc = record { site = record { 0 = 2 }; serial = 1 }; count = 1 })

ack_spelled : spelled_site (record { 0 = 1 }) (record { 0 = 1 }) ack_frame ≡ ack_bytes
unfolding byte short word spelled_proc spelled_entry spelled_uid spelled_counts spelled_clock spelled_times spelled_payload spelled_new_holder spelled_sequence spelled_body spelled_message spelled_holder spelled_members spelled_tail spelled_marked spelled_kept spelled_fields spelled_site
ack_spelled = refl

ack_read : site_frame_of ack_bytes ≡ Ok (record { 0 = 1 }, record { 0 = 1 }, ack_frame)
unfolding within_range byte_at number_at bytes_at many above domain_at site_at group_at count_at proc_at entry_at uid_at proc_above entry_above counts_at group_above clock_above times_at payload_at id_at new_holder_at sequence_at kind_at causal_at atomic_at order_at body_at message_at holder_at members_at tail_at id_above mark_at marked_above kept_at full_of data_at ack_at stable_at ask_at asked_at prepare_at flushed_at want_at forward_at install_at installed_at out_at type_of type_at fields_at magic_at version_of version_at frame_at site_frame_of
ack_read = refl

abbrev ask_bytes : List ℕ
ask_bytes = 67 ∷ 68 ∷ 1 ∷ 4 ∷ 1 ∷ 0 ∷ 1 ∷ 0 ∷ 1 ∷ 0 ∷ 0 ∷ 0 ∷ 1 ∷ 1 ∷ 0 ∷ 1 ∷ 0 ∷ 0 ∷ 0 ∷ 1 ∷ []

abbrev ask_frame : SiteFrame
ask_frame = Ask (record { 0 = 1 }) 1 Join first

ask_spelled : spelled_site (record { 0 = 1 }) (record { 0 = 1 }) ask_frame ≡ ask_bytes
unfolding byte short word spelled_proc spelled_entry spelled_uid spelled_counts spelled_clock spelled_times spelled_payload spelled_new_holder spelled_sequence spelled_body spelled_message spelled_holder spelled_members spelled_tail spelled_marked spelled_kept spelled_fields spelled_site
ask_spelled = refl

ask_read : site_frame_of ask_bytes ≡ Ok (record { 0 = 1 }, record { 0 = 1 }, ask_frame)
unfolding within_range byte_at number_at bytes_at many above domain_at site_at group_at count_at proc_at entry_at uid_at proc_above entry_above counts_at group_above clock_above times_at payload_at id_at new_holder_at sequence_at kind_at causal_at atomic_at order_at body_at message_at holder_at members_at tail_at id_above mark_at marked_above kept_at full_of data_at ack_at stable_at ask_at asked_at prepare_at flushed_at want_at forward_at install_at installed_at out_at type_of type_at fields_at magic_at version_of version_at frame_at site_frame_of
ask_read = refl

abbrev asked_bytes : List ℕ
asked_bytes = 67 ∷ 68 ∷ 1 ∷ 5 ∷ 1 ∷ 0 ∷ 1 ∷ 0 ∷ 1 ∷ 0 ∷ 0 ∷ 0 ∷ 1 ∷ 0 ∷ []

abbrev asked_frame : SiteFrame
asked_frame = Asked (record { 0 = 1 }) 1 false

asked_spelled : spelled_site (record { 0 = 1 }) (record { 0 = 1 }) asked_frame ≡ asked_bytes
unfolding byte short word spelled_proc spelled_entry spelled_uid spelled_counts spelled_clock spelled_times spelled_payload spelled_new_holder spelled_sequence spelled_body spelled_message spelled_holder spelled_members spelled_tail spelled_marked spelled_kept spelled_fields spelled_site
asked_spelled = refl

asked_read : site_frame_of asked_bytes ≡ Ok (record { 0 = 1 }, record { 0 = 1 }, asked_frame)
unfolding within_range byte_at number_at bytes_at many above domain_at site_at group_at count_at proc_at entry_at uid_at proc_above entry_above counts_at group_above clock_above times_at payload_at id_at new_holder_at sequence_at kind_at causal_at atomic_at order_at body_at message_at holder_at members_at tail_at id_above mark_at marked_above kept_at full_of data_at ack_at stable_at ask_at asked_at prepare_at flushed_at want_at forward_at install_at installed_at out_at type_of type_at fields_at magic_at version_of version_at frame_at site_frame_of
asked_read = refl

abbrev install_bytes : List ℕ
install_bytes = 67 ∷ 68 ∷ 1 ∷ 10 ∷ 1 ∷ 0 ∷ 1 ∷ 0 ∷ 1 ∷ 0 ∷ 0 ∷ 0 ∷ 1 ∷ 1 ∷ 0 ∷ 1 ∷ 0 ∷ 0 ∷ 0 ∷ 1 ∷ 0 ∷ 0 ∷ 0 ∷ 0 ∷ 1 ∷ 0 ∷ 0 ∷ 0 ∷ 0 ∷ 0 ∷ 0 ∷ 0 ∷ []

abbrev install_frame : SiteFrame
install_frame = Install (record { 0 = 1 }) 1 (record { list = first ∷ []; holder = Some first }) 1 [] (record { start = 0; ids = [] })

install_spelled : spelled_site (record { 0 = 1 }) (record { 0 = 1 }) install_frame ≡ install_bytes
unfolding byte short word spelled_proc spelled_entry spelled_uid spelled_counts spelled_clock spelled_times spelled_payload spelled_new_holder spelled_sequence spelled_body spelled_message spelled_holder spelled_members spelled_tail spelled_marked spelled_kept spelled_fields spelled_site
install_spelled = refl

install_read : site_frame_of install_bytes ≡ Ok (record { 0 = 1 }, record { 0 = 1 }, install_frame)
unfolding within_range byte_at number_at bytes_at many above domain_at site_at group_at count_at proc_at entry_at uid_at proc_above entry_above counts_at group_above clock_above times_at payload_at id_at new_holder_at sequence_at kind_at causal_at atomic_at order_at body_at message_at holder_at members_at tail_at id_above mark_at marked_above kept_at full_of data_at ack_at stable_at ask_at asked_at prepare_at flushed_at want_at forward_at install_at installed_at out_at type_of type_at fields_at magic_at version_of version_at frame_at site_frame_of
install_read = refl

abbrev installed_bytes : List ℕ
installed_bytes = 67 ∷ 68 ∷ 1 ∷ 11 ∷ 1 ∷ 0 ∷ 1 ∷ 0 ∷ 1 ∷ 0 ∷ 0 ∷ 0 ∷ 1 ∷ []

abbrev installed_frame : SiteFrame
installed_frame = Installed (record { 0 = 1 }) 1

installed_spelled : spelled_site (record { 0 = 1 }) (record { 0 = 1 }) installed_frame ≡ installed_bytes
unfolding byte short word spelled_proc spelled_entry spelled_uid spelled_counts spelled_clock spelled_times spelled_payload spelled_new_holder spelled_sequence spelled_body spelled_message spelled_holder spelled_members spelled_tail spelled_marked spelled_kept spelled_fields spelled_site
installed_spelled = refl

installed_read : site_frame_of installed_bytes ≡ Ok (record { 0 = 1 }, record { 0 = 1 }, installed_frame)
unfolding within_range byte_at number_at bytes_at many above domain_at site_at group_at count_at proc_at entry_at uid_at proc_above entry_above counts_at group_above clock_above times_at payload_at id_at new_holder_at sequence_at kind_at causal_at atomic_at order_at body_at message_at holder_at members_at tail_at id_above mark_at marked_above kept_at full_of data_at ack_at stable_at ask_at asked_at prepare_at flushed_at want_at forward_at install_at installed_at out_at type_of type_at fields_at magic_at version_of version_at frame_at site_frame_of
installed_read = refl

abbrev stable_bytes : List ℕ
stable_bytes = 67 ∷ 68 ∷ 1 ∷ 3 ∷ 1 ∷ 0 ∷ 1 ∷ 0 ∷ 1 ∷ 0 ∷ 0 ∷ 0 ∷ 2 ∷ 0 ∷ 1 ∷ 0 ∷ 0 ∷ 0 ∷ 1 ∷ 0 ∷ 0 ∷ 0 ∷ 1 ∷ []

abbrev stable_frame : SiteFrame
stable_frame = Stable (record { group = record { 0 = 1 }; view = 2; proc = first; count = 1 })

stable_spelled : spelled_site (record { 0 = 1 }) (record { 0 = 1 }) stable_frame ≡ stable_bytes
unfolding byte short word spelled_proc spelled_entry spelled_uid spelled_counts spelled_clock spelled_times spelled_payload spelled_new_holder spelled_sequence spelled_body spelled_message spelled_holder spelled_members spelled_tail spelled_marked spelled_kept spelled_fields spelled_site
stable_spelled = refl

stable_read : site_frame_of stable_bytes ≡ Ok (record { 0 = 1 }, record { 0 = 1 }, stable_frame)
unfolding within_range byte_at number_at bytes_at many above domain_at site_at group_at count_at proc_at entry_at uid_at proc_above entry_above counts_at group_above clock_above times_at payload_at id_at new_holder_at sequence_at kind_at causal_at atomic_at order_at body_at message_at holder_at members_at tail_at id_above mark_at marked_above kept_at full_of data_at ack_at stable_at ask_at asked_at prepare_at flushed_at want_at forward_at install_at installed_at out_at type_of type_at fields_at magic_at version_of version_at frame_at site_frame_of
stable_read = refl

abbrev prepare_bytes : List ℕ
prepare_bytes = 67 ∷ 68 ∷ 1 ∷ 6 ∷ 1 ∷ 0 ∷ 1 ∷ 0 ∷ 1 ∷ 0 ∷ 0 ∷ 0 ∷ 1 ∷ []

abbrev prepare_frame : SiteFrame
prepare_frame = Prepare (record { 0 = 1 }) 1

prepare_spelled : spelled_site (record { 0 = 1 }) (record { 0 = 1 }) prepare_frame ≡ prepare_bytes
unfolding byte short word spelled_proc spelled_entry spelled_uid spelled_counts spelled_clock spelled_times spelled_payload spelled_new_holder spelled_sequence spelled_body spelled_message spelled_holder spelled_members spelled_tail spelled_marked spelled_kept spelled_fields spelled_site
prepare_spelled = refl

prepare_read : site_frame_of prepare_bytes ≡ Ok (record { 0 = 1 }, record { 0 = 1 }, prepare_frame)
unfolding within_range byte_at number_at bytes_at many above domain_at site_at group_at count_at proc_at entry_at uid_at proc_above entry_above counts_at group_above clock_above times_at payload_at id_at new_holder_at sequence_at kind_at causal_at atomic_at order_at body_at message_at holder_at members_at tail_at id_above mark_at marked_above kept_at full_of data_at ack_at stable_at ask_at asked_at prepare_at flushed_at want_at forward_at install_at installed_at out_at type_of type_at fields_at magic_at version_of version_at frame_at site_frame_of
prepare_read = refl

abbrev flushed_bytes : List ℕ
flushed_bytes = 67 ∷ 68 ∷ 1 ∷ 7 ∷ 1 ∷ 0 ∷ 1 ∷ 0 ∷ 1 ∷ 0 ∷ 0 ∷ 0 ∷ 1 ∷ 0 ∷ 0 ∷ 0 ∷ 0 ∷ 0 ∷ 0 ∷ 0 ∷ 0 ∷ 0 ∷ []

abbrev flushed_frame : SiteFrame
flushed_frame = Flushed (record { 0 = 1 }) 1 [] (record { start = 0; ids = [] }) []

flushed_spelled : spelled_site (record { 0 = 1 }) (record { 0 = 1 }) flushed_frame ≡ flushed_bytes
unfolding byte short word spelled_proc spelled_entry spelled_uid spelled_counts spelled_clock spelled_times spelled_payload spelled_new_holder spelled_sequence spelled_body spelled_message spelled_holder spelled_members spelled_tail spelled_marked spelled_kept spelled_fields spelled_site
flushed_spelled = refl

flushed_read : site_frame_of flushed_bytes ≡ Ok (record { 0 = 1 }, record { 0 = 1 }, flushed_frame)
unfolding within_range byte_at number_at bytes_at many above domain_at site_at group_at count_at proc_at entry_at uid_at proc_above entry_above counts_at group_above clock_above times_at payload_at id_at new_holder_at sequence_at kind_at causal_at atomic_at order_at body_at message_at holder_at members_at tail_at id_above mark_at marked_above kept_at full_of data_at ack_at stable_at ask_at asked_at prepare_at flushed_at want_at forward_at install_at installed_at out_at type_of type_at fields_at magic_at version_of version_at frame_at site_frame_of
flushed_read = refl

abbrev out_bytes : List ℕ
out_bytes = 67 ∷ 68 ∷ 1 ∷ 12 ∷ 1 ∷ 0 ∷ 1 ∷ 0 ∷ 1 ∷ 0 ∷ 0 ∷ 0 ∷ 4 ∷ []

abbrev out_frame : SiteFrame
out_frame = Out (record { 0 = 1 }) 4

out_spelled : spelled_site (record { 0 = 1 }) (record { 0 = 1 }) out_frame ≡ out_bytes
unfolding byte short word spelled_proc spelled_entry spelled_uid spelled_counts spelled_clock spelled_times spelled_payload spelled_new_holder spelled_sequence spelled_body spelled_message spelled_holder spelled_members spelled_tail spelled_marked spelled_kept spelled_fields spelled_site
out_spelled = refl

out_read : site_frame_of out_bytes ≡ Ok (record { 0 = 1 }, record { 0 = 1 }, out_frame)
unfolding within_range byte_at number_at bytes_at many above domain_at site_at group_at count_at proc_at entry_at uid_at proc_above entry_above counts_at group_above clock_above times_at payload_at id_at new_holder_at sequence_at kind_at causal_at atomic_at order_at body_at message_at holder_at members_at tail_at id_above mark_at marked_above kept_at full_of data_at ack_at stable_at ask_at asked_at prepare_at flushed_at want_at forward_at install_at installed_at out_at type_of type_at fields_at magic_at version_of version_at frame_at site_frame_of
out_read = refl

abbrev full_flushed_bytes : List ℕ
full_flushed_bytes = 67 ∷ 68 ∷ 1 ∷ 7 ∷ 1 ∷ 0 ∷ 1 ∷ 0 ∷ 1 ∷ 0 ∷ 0 ∷ 0 ∷ 1 ∷ 1 ∷ 0 ∷ 1 ∷ 0 ∷ 0 ∷ 0 ∷ 1 ∷ 0 ∷ 0 ∷ 0 ∷ 2 ∷ 0 ∷ 0 ∷ 0 ∷ 3 ∷ 0 ∷ 1 ∷ 0 ∷ 2 ∷ 0 ∷ 0 ∷ 0 ∷ 1 ∷ 0 ∷ 0 ∷ 0 ∷ 4 ∷ 0 ∷ 2 ∷ 0 ∷ 1 ∷ 0 ∷ 0 ∷ 0 ∷ 1 ∷ 0 ∷ 0 ∷ 0 ∷ 1 ∷ 0 ∷ 0 ∷ 1 ∷ 0 ∷ 0 ∷ 0 ∷ 1 ∷ 0 ∷ 0 ∷ 0 ∷ 2 ∷ 1 ∷ []

abbrev full_flushed_frame : SiteFrame
full_flushed_frame = Flushed (record { 0 = 1 }) 1 ((first, 2) ∷ []) (record { start = 3; ids = (second, 4) ∷ [] }) (((first, 1), false) ∷ ((first, 2), true) ∷ [])

full_flushed_spelled : spelled_site (record { 0 = 1 }) (record { 0 = 1 }) full_flushed_frame ≡ full_flushed_bytes
unfolding byte short word spelled_proc spelled_entry spelled_uid spelled_counts spelled_clock spelled_times spelled_payload spelled_new_holder spelled_sequence spelled_body spelled_message spelled_holder spelled_members spelled_tail spelled_marked spelled_kept spelled_fields spelled_site
full_flushed_spelled = refl

full_flushed_read : site_frame_of full_flushed_bytes ≡ Ok (record { 0 = 1 }, record { 0 = 1 }, full_flushed_frame)
unfolding within_range byte_at number_at bytes_at many above domain_at site_at group_at count_at proc_at entry_at uid_at proc_above entry_above counts_at group_above clock_above times_at payload_at id_at new_holder_at sequence_at kind_at causal_at atomic_at order_at body_at message_at holder_at members_at tail_at id_above mark_at marked_above kept_at full_of data_at ack_at stable_at ask_at asked_at prepare_at flushed_at want_at forward_at install_at installed_at out_at type_of type_at fields_at magic_at version_of version_at frame_at site_frame_of
full_flushed_read = refl

abbrev want_bytes : List ℕ
want_bytes = 67 ∷ 68 ∷ 1 ∷ 8 ∷ 1 ∷ 0 ∷ 1 ∷ 0 ∷ 1 ∷ 0 ∷ 0 ∷ 0 ∷ 3 ∷ 0 ∷ 2 ∷ 0 ∷ 0 ∷ 0 ∷ 1 ∷ 0 ∷ 0 ∷ 0 ∷ 1 ∷ []

abbrev want_frame : SiteFrame
want_frame = Want (record { group = record { 0 = 1 }; view = 3; proc = second; count = 1 })

want_spelled : spelled_site (record { 0 = 1 }) (record { 0 = 1 }) want_frame ≡ want_bytes
unfolding byte short word spelled_proc spelled_entry spelled_uid spelled_counts spelled_clock spelled_times spelled_payload spelled_new_holder spelled_sequence spelled_body spelled_message spelled_holder spelled_members spelled_tail spelled_marked spelled_kept spelled_fields spelled_site
want_spelled = refl

want_read : site_frame_of want_bytes ≡ Ok (record { 0 = 1 }, record { 0 = 1 }, want_frame)
unfolding within_range byte_at number_at bytes_at many above domain_at site_at group_at count_at proc_at entry_at uid_at proc_above entry_above counts_at group_above clock_above times_at payload_at id_at new_holder_at sequence_at kind_at causal_at atomic_at order_at body_at message_at holder_at members_at tail_at id_above mark_at marked_above kept_at full_of data_at ack_at stable_at ask_at asked_at prepare_at flushed_at want_at forward_at install_at installed_at out_at type_of type_at fields_at magic_at version_of version_at frame_at site_frame_of
want_read = refl

abbrev atomic_bytes : List ℕ
atomic_bytes = 67 ∷ 68 ∷ 1 ∷ 1 ∷ 1 ∷ 0 ∷ 1 ∷ 0 ∷ 1 ∷ 0 ∷ 0 ∷ 0 ∷ 1 ∷ 0 ∷ 1 ∷ 0 ∷ 0 ∷ 0 ∷ 1 ∷ 0 ∷ 0 ∷ 0 ∷ 1 ∷ 2 ∷ 1 ∷ 0 ∷ 1 ∷ 0 ∷ 0 ∷ 0 ∷ 1 ∷ 1 ∷ 0 ∷ 1 ∷ 0 ∷ 0 ∷ 0 ∷ 1 ∷ 0 ∷ 0 ∷ 0 ∷ 1 ∷ 0 ∷ 2 ∷ 104 ∷ 105 ∷ []

abbrev atomic_frame : SiteFrame
atomic_frame = Data (record { id = record { group = record { 0 = 1 }; view = 1; proc = first; count = 1 }; times = (record { 0 = 1 }, record { view = 1; counts = (first, 1) ∷ [] }) ∷ []; body = body.Atomic (104 ∷ 105 ∷ []) })

atomic_spelled : spelled_site (record { 0 = 1 }) (record { 0 = 1 }) atomic_frame ≡ atomic_bytes
unfolding byte short word spelled_proc spelled_entry spelled_uid spelled_counts spelled_clock spelled_times spelled_payload spelled_new_holder spelled_sequence spelled_body spelled_message spelled_holder spelled_members spelled_tail spelled_marked spelled_kept spelled_fields spelled_site
atomic_spelled = refl

atomic_read : site_frame_of atomic_bytes ≡ Ok (record { 0 = 1 }, record { 0 = 1 }, atomic_frame)
unfolding within_range byte_at number_at bytes_at many above domain_at site_at group_at count_at proc_at entry_at uid_at proc_above entry_above counts_at group_above clock_above times_at payload_at id_at new_holder_at sequence_at kind_at causal_at atomic_at order_at body_at message_at holder_at members_at tail_at id_above mark_at marked_above kept_at full_of data_at ack_at stable_at ask_at asked_at prepare_at flushed_at want_at forward_at install_at installed_at out_at type_of type_at fields_at magic_at version_of version_at frame_at site_frame_of
atomic_read = refl

abbrev forward_bytes : List ℕ
forward_bytes = 67 ∷ 68 ∷ 1 ∷ 9 ∷ 1 ∷ 0 ∷ 1 ∷ 0 ∷ 1 ∷ 0 ∷ 0 ∷ 0 ∷ 1 ∷ 0 ∷ 1 ∷ 0 ∷ 0 ∷ 0 ∷ 1 ∷ 0 ∷ 0 ∷ 0 ∷ 1 ∷ 1 ∷ 1 ∷ 0 ∷ 1 ∷ 0 ∷ 0 ∷ 0 ∷ 1 ∷ 1 ∷ 0 ∷ 1 ∷ 0 ∷ 0 ∷ 0 ∷ 1 ∷ 0 ∷ 0 ∷ 0 ∷ 1 ∷ 0 ∷ 2 ∷ 104 ∷ 105 ∷ []

abbrev forward_frame : SiteFrame
forward_frame = Forward (record { id = record { group = record { 0 = 1 }; view = 1; proc = first; count = 1 }; times = (record { 0 = 1 }, record { view = 1; counts = (first, 1) ∷ [] }) ∷ []; body = body.Causal (104 ∷ 105 ∷ []) })

forward_spelled : spelled_site (record { 0 = 1 }) (record { 0 = 1 }) forward_frame ≡ forward_bytes
unfolding byte short word spelled_proc spelled_entry spelled_uid spelled_counts spelled_clock spelled_times spelled_payload spelled_new_holder spelled_sequence spelled_body spelled_message spelled_holder spelled_members spelled_tail spelled_marked spelled_kept spelled_fields spelled_site
forward_spelled = refl

forward_read : site_frame_of forward_bytes ≡ Ok (record { 0 = 1 }, record { 0 = 1 }, forward_frame)
unfolding within_range byte_at number_at bytes_at many above domain_at site_at group_at count_at proc_at entry_at uid_at proc_above entry_above counts_at group_above clock_above times_at payload_at id_at new_holder_at sequence_at kind_at causal_at atomic_at order_at body_at message_at holder_at members_at tail_at id_above mark_at marked_above kept_at full_of data_at ack_at stable_at ask_at asked_at prepare_at flushed_at want_at forward_at install_at installed_at out_at type_of type_at fields_at magic_at version_of version_at frame_at site_frame_of
forward_read = refl

abbrev order_bytes : List ℕ
order_bytes = 67 ∷ 68 ∷ 1 ∷ 1 ∷ 1 ∷ 0 ∷ 1 ∷ 0 ∷ 1 ∷ 0 ∷ 0 ∷ 0 ∷ 1 ∷ 0 ∷ 1 ∷ 0 ∷ 0 ∷ 0 ∷ 1 ∷ 0 ∷ 0 ∷ 0 ∷ 1 ∷ 3 ∷ 1 ∷ 0 ∷ 1 ∷ 0 ∷ 0 ∷ 0 ∷ 1 ∷ 1 ∷ 0 ∷ 1 ∷ 0 ∷ 0 ∷ 0 ∷ 1 ∷ 0 ∷ 0 ∷ 0 ∷ 1 ∷ 0 ∷ 0 ∷ 0 ∷ 1 ∷ 2 ∷ 0 ∷ 2 ∷ 0 ∷ 0 ∷ 0 ∷ 1 ∷ 0 ∷ 0 ∷ 0 ∷ 1 ∷ 0 ∷ 1 ∷ 0 ∷ 0 ∷ 0 ∷ 1 ∷ 0 ∷ 0 ∷ 0 ∷ 2 ∷ []

abbrev order_frame : SiteFrame
order_frame = Data (record { id = record { group = record { 0 = 1 }; view = 1; proc = first; count = 1 }; times = (record { 0 = 1 }, record { view = 1; counts = (first, 1) ∷ [] }) ∷ []; body = body.Order (record { first = 1; ids = (second, 1) ∷ (first, 2) ∷ []; holder = None }) })

order_spelled : spelled_site (record { 0 = 1 }) (record { 0 = 1 }) order_frame ≡ order_bytes
unfolding byte short word spelled_proc spelled_entry spelled_uid spelled_counts spelled_clock spelled_times spelled_payload spelled_new_holder spelled_sequence spelled_body spelled_message spelled_holder spelled_members spelled_tail spelled_marked spelled_kept spelled_fields spelled_site
order_spelled = refl

order_read : site_frame_of order_bytes ≡ Ok (record { 0 = 1 }, record { 0 = 1 }, order_frame)
unfolding within_range byte_at number_at bytes_at many above domain_at site_at group_at count_at proc_at entry_at uid_at proc_above entry_above counts_at group_above clock_above times_at payload_at id_at new_holder_at sequence_at kind_at causal_at atomic_at order_at body_at message_at holder_at members_at tail_at id_above mark_at marked_above kept_at full_of data_at ack_at stable_at ask_at asked_at prepare_at flushed_at want_at forward_at install_at installed_at out_at type_of type_at fields_at magic_at version_of version_at frame_at site_frame_of
order_read = refl

abbrev last_place_bytes : List ℕ
last_place_bytes = 67 ∷ 68 ∷ 1 ∷ 1 ∷ 1 ∷ 0 ∷ 1 ∷ 0 ∷ 1 ∷ 0 ∷ 0 ∷ 0 ∷ 1 ∷ 0 ∷ 1 ∷ 0 ∷ 0 ∷ 0 ∷ 1 ∷ 0 ∷ 0 ∷ 0 ∷ 1 ∷ 3 ∷ 1 ∷ 0 ∷ 1 ∷ 0 ∷ 0 ∷ 0 ∷ 1 ∷ 1 ∷ 0 ∷ 1 ∷ 0 ∷ 0 ∷ 0 ∷ 1 ∷ 0 ∷ 0 ∷ 0 ∷ 1 ∷ 238 ∷ 107 ∷ 40 ∷ 0 ∷ 1 ∷ 0 ∷ 2 ∷ 0 ∷ 0 ∷ 0 ∷ 1 ∷ 0 ∷ 0 ∷ 0 ∷ 1 ∷ []

abbrev last_place_frame : SiteFrame
last_place_frame = Data (record { id = record { group = record { 0 = 1 }; view = 1; proc = first; count = 1 }; times = (record { 0 = 1 }, record { view = 1; counts = (first, 1) ∷ [] }) ∷ []; body = body.Order (record { first = 4000000000; ids = (second, 1) ∷ []; holder = None }) })

last_place_spelled : spelled_site (record { 0 = 1 }) (record { 0 = 1 }) last_place_frame ≡ last_place_bytes
unfolding byte short word spelled_proc spelled_entry spelled_uid spelled_counts spelled_clock spelled_times spelled_payload spelled_new_holder spelled_sequence spelled_body spelled_message spelled_holder spelled_members spelled_tail spelled_marked spelled_kept spelled_fields spelled_site
last_place_spelled = refl

last_place_read : site_frame_of last_place_bytes ≡ Ok (record { 0 = 1 }, record { 0 = 1 }, last_place_frame)
unfolding within_range byte_at number_at bytes_at many above domain_at site_at group_at count_at proc_at entry_at uid_at proc_above entry_above counts_at group_above clock_above times_at payload_at id_at new_holder_at sequence_at kind_at causal_at atomic_at order_at body_at message_at holder_at members_at tail_at id_above mark_at marked_above kept_at full_of data_at ack_at stable_at ask_at asked_at prepare_at flushed_at want_at forward_at install_at installed_at out_at type_of type_at fields_at magic_at version_of version_at frame_at site_frame_of
last_place_read = refl

nothing_is_short : site_frame_of ([]) ≡ Err Short
unfolding within_range byte_at number_at bytes_at many above domain_at site_at group_at count_at proc_at entry_at uid_at proc_above entry_above counts_at group_above clock_above times_at payload_at id_at new_holder_at sequence_at kind_at causal_at atomic_at order_at body_at message_at holder_at members_at tail_at id_above mark_at marked_above kept_at full_of data_at ack_at stable_at ask_at asked_at prepare_at flushed_at want_at forward_at install_at installed_at out_at type_of type_at fields_at magic_at version_of version_at frame_at site_frame_of
nothing_is_short = refl

half_a_magic_is_short : site_frame_of (67 ∷ []) ≡ Err Short
unfolding within_range byte_at number_at bytes_at many above domain_at site_at group_at count_at proc_at entry_at uid_at proc_above entry_above counts_at group_above clock_above times_at payload_at id_at new_holder_at sequence_at kind_at causal_at atomic_at order_at body_at message_at holder_at members_at tail_at id_above mark_at marked_above kept_at full_of data_at ack_at stable_at ask_at asked_at prepare_at flushed_at want_at forward_at install_at installed_at out_at type_of type_at fields_at magic_at version_of version_at frame_at site_frame_of
half_a_magic_is_short = refl

other_magic : site_frame_of (67 ∷ 69 ∷ 1 ∷ 6 ∷ 1 ∷ 0 ∷ 1 ∷ 0 ∷ 1 ∷ 0 ∷ 0 ∷ 0 ∷ 1 ∷ []) ≡ Err Magic
unfolding within_range byte_at number_at bytes_at many above domain_at site_at group_at count_at proc_at entry_at uid_at proc_above entry_above counts_at group_above clock_above times_at payload_at id_at new_holder_at sequence_at kind_at causal_at atomic_at order_at body_at message_at holder_at members_at tail_at id_above mark_at marked_above kept_at full_of data_at ack_at stable_at ask_at asked_at prepare_at flushed_at want_at forward_at install_at installed_at out_at type_of type_at fields_at magic_at version_of version_at frame_at site_frame_of
other_magic = refl

other_magic_alone : site_frame_of (67 ∷ 69 ∷ []) ≡ Err Magic
unfolding within_range byte_at number_at bytes_at many above domain_at site_at group_at count_at proc_at entry_at uid_at proc_above entry_above counts_at group_above clock_above times_at payload_at id_at new_holder_at sequence_at kind_at causal_at atomic_at order_at body_at message_at holder_at members_at tail_at id_above mark_at marked_above kept_at full_of data_at ack_at stable_at ask_at asked_at prepare_at flushed_at want_at forward_at install_at installed_at out_at type_of type_at fields_at magic_at version_of version_at frame_at site_frame_of
other_magic_alone = refl

other_version : site_frame_of (67 ∷ 68 ∷ 3 ∷ []) ≡ Err Version
unfolding within_range byte_at number_at bytes_at many above domain_at site_at group_at count_at proc_at entry_at uid_at proc_above entry_above counts_at group_above clock_above times_at payload_at id_at new_holder_at sequence_at kind_at causal_at atomic_at order_at body_at message_at holder_at members_at tail_at id_above mark_at marked_above kept_at full_of data_at ack_at stable_at ask_at asked_at prepare_at flushed_at want_at forward_at install_at installed_at out_at type_of type_at fields_at magic_at version_of version_at frame_at site_frame_of
other_version = refl

no_type_13 : site_frame_of (67 ∷ 68 ∷ 1 ∷ 13 ∷ []) ≡ Err WrongType
unfolding within_range byte_at number_at bytes_at many above domain_at site_at group_at count_at proc_at entry_at uid_at proc_above entry_above counts_at group_above clock_above times_at payload_at id_at new_holder_at sequence_at kind_at causal_at atomic_at order_at body_at message_at holder_at members_at tail_at id_above mark_at marked_above kept_at full_of data_at ack_at stable_at ask_at asked_at prepare_at flushed_at want_at forward_at install_at installed_at out_at type_of type_at fields_at magic_at version_of version_at frame_at site_frame_of
no_type_13 = refl

one_byte_left : site_frame_of (67 ∷ 68 ∷ 1 ∷ 11 ∷ 1 ∷ 0 ∷ 1 ∷ 0 ∷ 1 ∷ 0 ∷ 0 ∷ 0 ∷ 1 ∷ 0 ∷ []) ≡ Err Length
unfolding within_range byte_at number_at bytes_at many above domain_at site_at group_at count_at proc_at entry_at uid_at proc_above entry_above counts_at group_above clock_above times_at payload_at id_at new_holder_at sequence_at kind_at causal_at atomic_at order_at body_at message_at holder_at members_at tail_at id_above mark_at marked_above kept_at full_of data_at ack_at stable_at ask_at asked_at prepare_at flushed_at want_at forward_at install_at installed_at out_at type_of type_at fields_at magic_at version_of version_at frame_at site_frame_of
one_byte_left = refl

group_0 : site_frame_of (67 ∷ 68 ∷ 1 ∷ 11 ∷ 1 ∷ 0 ∷ 1 ∷ 0 ∷ 0 ∷ []) ≡ Err Range
unfolding within_range byte_at number_at bytes_at many above domain_at site_at group_at count_at proc_at entry_at uid_at proc_above entry_above counts_at group_above clock_above times_at payload_at id_at new_holder_at sequence_at kind_at causal_at atomic_at order_at body_at message_at holder_at members_at tail_at id_above mark_at marked_above kept_at full_of data_at ack_at stable_at ask_at asked_at prepare_at flushed_at want_at forward_at install_at installed_at out_at type_of type_at fields_at magic_at version_of version_at frame_at site_frame_of
group_0 = refl

cut_that_falls : site_frame_of (67 ∷ 68 ∷ 1 ∷ 10 ∷ 1 ∷ 0 ∷ 1 ∷ 0 ∷ 1 ∷ 0 ∷ 0 ∷ 0 ∷ 1 ∷ 0 ∷ 0 ∷ 0 ∷ 0 ∷ 0 ∷ 2 ∷ 0 ∷ 1 ∷ 0 ∷ 0 ∷ 0 ∷ 2 ∷ 0 ∷ 0 ∷ 0 ∷ 1 ∷ 0 ∷ 1 ∷ 0 ∷ 0 ∷ 0 ∷ 1 ∷ []) ≡ Err NotSorted
unfolding within_range byte_at number_at bytes_at many above domain_at site_at group_at count_at proc_at entry_at uid_at proc_above entry_above counts_at group_above clock_above times_at payload_at id_at new_holder_at sequence_at kind_at causal_at atomic_at order_at body_at message_at holder_at members_at tail_at id_above mark_at marked_above kept_at full_of data_at ack_at stable_at ask_at asked_at prepare_at flushed_at want_at forward_at install_at installed_at out_at type_of type_at fields_at magic_at version_of version_at frame_at site_frame_of
cut_that_falls = refl

cut_20_is_short : site_frame_of (take 20 data_bytes) ≡ Err Short
unfolding within_range byte_at number_at bytes_at many above domain_at site_at group_at count_at proc_at entry_at uid_at proc_above entry_above counts_at group_above clock_above times_at payload_at id_at new_holder_at sequence_at kind_at causal_at atomic_at order_at body_at message_at holder_at members_at tail_at id_above mark_at marked_above kept_at full_of data_at ack_at stable_at ask_at asked_at prepare_at flushed_at want_at forward_at install_at installed_at out_at type_of type_at fields_at magic_at version_of version_at frame_at site_frame_of
cut_20_is_short = refl

cut_31_is_short : site_frame_of (take 31 data_bytes) ≡ Err Short
unfolding within_range byte_at number_at bytes_at many above domain_at site_at group_at count_at proc_at entry_at uid_at proc_above entry_above counts_at group_above clock_above times_at payload_at id_at new_holder_at sequence_at kind_at causal_at atomic_at order_at body_at message_at holder_at members_at tail_at id_above mark_at marked_above kept_at full_of data_at ack_at stable_at ask_at asked_at prepare_at flushed_at want_at forward_at install_at installed_at out_at type_of type_at fields_at magic_at version_of version_at frame_at site_frame_of
cut_31_is_short = refl

cut_45_is_short : site_frame_of (take 45 data_bytes) ≡ Err Short
unfolding within_range byte_at number_at bytes_at many above domain_at site_at group_at count_at proc_at entry_at uid_at proc_above entry_above counts_at group_above clock_above times_at payload_at id_at new_holder_at sequence_at kind_at causal_at atomic_at order_at body_at message_at holder_at members_at tail_at id_above mark_at marked_above kept_at full_of data_at ack_at stable_at ask_at asked_at prepare_at flushed_at want_at forward_at install_at installed_at out_at type_of type_at fields_at magic_at version_of version_at frame_at site_frame_of
cut_45_is_short = refl

byte_behind_prepare : site_frame_of (67 ∷ 68 ∷ 1 ∷ 6 ∷ 1 ∷ 0 ∷ 1 ∷ 0 ∷ 1 ∷ 0 ∷ 0 ∷ 0 ∷ 1 ∷ 0 ∷ []) ≡ Err Length
unfolding within_range byte_at number_at bytes_at many above domain_at site_at group_at count_at proc_at entry_at uid_at proc_above entry_above counts_at group_above clock_above times_at payload_at id_at new_holder_at sequence_at kind_at causal_at atomic_at order_at body_at message_at holder_at members_at tail_at id_above mark_at marked_above kept_at full_of data_at ack_at stable_at ask_at asked_at prepare_at flushed_at want_at forward_at install_at installed_at out_at type_of type_at fields_at magic_at version_of version_at frame_at site_frame_of
byte_behind_prepare = refl

prepare_of_group_0 : site_frame_of (67 ∷ 68 ∷ 1 ∷ 6 ∷ 1 ∷ 0 ∷ 1 ∷ 0 ∷ 0 ∷ []) ≡ Err Range
unfolding within_range byte_at number_at bytes_at many above domain_at site_at group_at count_at proc_at entry_at uid_at proc_above entry_above counts_at group_above clock_above times_at payload_at id_at new_holder_at sequence_at kind_at causal_at atomic_at order_at body_at message_at holder_at members_at tail_at id_above mark_at marked_above kept_at full_of data_at ack_at stable_at ask_at asked_at prepare_at flushed_at want_at forward_at install_at installed_at out_at type_of type_at fields_at magic_at version_of version_at frame_at site_frame_of
prepare_of_group_0 = refl

counts_that_fall : site_frame_of (67 ∷ 68 ∷ 1 ∷ 7 ∷ 1 ∷ 0 ∷ 1 ∷ 0 ∷ 1 ∷ 0 ∷ 0 ∷ 0 ∷ 1 ∷ 2 ∷ 0 ∷ 1 ∷ 0 ∷ 0 ∷ 0 ∷ 2 ∷ 0 ∷ 0 ∷ 0 ∷ 1 ∷ 0 ∷ 1 ∷ 0 ∷ 0 ∷ 0 ∷ 1 ∷ []) ≡ Err NotSorted
unfolding within_range byte_at number_at bytes_at many above domain_at site_at group_at count_at proc_at entry_at uid_at proc_above entry_above counts_at group_above clock_above times_at payload_at id_at new_holder_at sequence_at kind_at causal_at atomic_at order_at body_at message_at holder_at members_at tail_at id_above mark_at marked_above kept_at full_of data_at ack_at stable_at ask_at asked_at prepare_at flushed_at want_at forward_at install_at installed_at out_at type_of type_at fields_at magic_at version_of version_at frame_at site_frame_of
counts_that_fall = refl

no_type_0 : site_frame_of (67 ∷ 68 ∷ 1 ∷ 0 ∷ []) ≡ Err WrongType
unfolding within_range byte_at number_at bytes_at many above domain_at site_at group_at count_at proc_at entry_at uid_at proc_above entry_above counts_at group_above clock_above times_at payload_at id_at new_holder_at sequence_at kind_at causal_at atomic_at order_at body_at message_at holder_at members_at tail_at id_above mark_at marked_above kept_at full_of data_at ack_at stable_at ask_at asked_at prepare_at flushed_at want_at forward_at install_at installed_at out_at type_of type_at fields_at magic_at version_of version_at frame_at site_frame_of
no_type_0 = refl

kind_0 : site_frame_of (67 ∷ 68 ∷ 1 ∷ 1 ∷ 1 ∷ 0 ∷ 1 ∷ 0 ∷ 1 ∷ 0 ∷ 0 ∷ 0 ∷ 1 ∷ 0 ∷ 1 ∷ 0 ∷ 0 ∷ 0 ∷ 1 ∷ 0 ∷ 0 ∷ 0 ∷ 1 ∷ 0 ∷ []) ≡ Err Range
unfolding within_range byte_at number_at bytes_at many above domain_at site_at group_at count_at proc_at entry_at uid_at proc_above entry_above counts_at group_above clock_above times_at payload_at id_at new_holder_at sequence_at kind_at causal_at atomic_at order_at body_at message_at holder_at members_at tail_at id_above mark_at marked_above kept_at full_of data_at ack_at stable_at ask_at asked_at prepare_at flushed_at want_at forward_at install_at installed_at out_at type_of type_at fields_at magic_at version_of version_at frame_at site_frame_of
kind_0 = refl

kind_4 : site_frame_of (67 ∷ 68 ∷ 1 ∷ 1 ∷ 1 ∷ 0 ∷ 1 ∷ 0 ∷ 1 ∷ 0 ∷ 0 ∷ 0 ∷ 1 ∷ 0 ∷ 1 ∷ 0 ∷ 0 ∷ 0 ∷ 1 ∷ 0 ∷ 0 ∷ 0 ∷ 1 ∷ 4 ∷ []) ≡ Err Range
unfolding within_range byte_at number_at bytes_at many above domain_at site_at group_at count_at proc_at entry_at uid_at proc_above entry_above counts_at group_above clock_above times_at payload_at id_at new_holder_at sequence_at kind_at causal_at atomic_at order_at body_at message_at holder_at members_at tail_at id_above mark_at marked_above kept_at full_of data_at ack_at stable_at ask_at asked_at prepare_at flushed_at want_at forward_at install_at installed_at out_at type_of type_at fields_at magic_at version_of version_at frame_at site_frame_of
kind_4 = refl

place_0 : site_frame_of (67 ∷ 68 ∷ 1 ∷ 1 ∷ 1 ∷ 0 ∷ 1 ∷ 0 ∷ 1 ∷ 0 ∷ 0 ∷ 0 ∷ 1 ∷ 0 ∷ 1 ∷ 0 ∷ 0 ∷ 0 ∷ 1 ∷ 0 ∷ 0 ∷ 0 ∷ 1 ∷ 3 ∷ 1 ∷ 0 ∷ 1 ∷ 0 ∷ 0 ∷ 0 ∷ 1 ∷ 1 ∷ 0 ∷ 1 ∷ 0 ∷ 0 ∷ 0 ∷ 1 ∷ 0 ∷ 0 ∷ 0 ∷ 1 ∷ 0 ∷ 0 ∷ 0 ∷ 0 ∷ []) ≡ Err Range
unfolding within_range byte_at number_at bytes_at many above domain_at site_at group_at count_at proc_at entry_at uid_at proc_above entry_above counts_at group_above clock_above times_at payload_at id_at new_holder_at sequence_at kind_at causal_at atomic_at order_at body_at message_at holder_at members_at tail_at id_above mark_at marked_above kept_at full_of data_at ack_at stable_at ask_at asked_at prepare_at flushed_at want_at forward_at install_at installed_at out_at type_of type_at fields_at magic_at version_of version_at frame_at site_frame_of
place_0 = refl

place_behind_the_last : site_frame_of (67 ∷ 68 ∷ 1 ∷ 1 ∷ 1 ∷ 0 ∷ 1 ∷ 0 ∷ 1 ∷ 0 ∷ 0 ∷ 0 ∷ 1 ∷ 0 ∷ 1 ∷ 0 ∷ 0 ∷ 0 ∷ 1 ∷ 0 ∷ 0 ∷ 0 ∷ 1 ∷ 3 ∷ 1 ∷ 0 ∷ 1 ∷ 0 ∷ 0 ∷ 0 ∷ 1 ∷ 1 ∷ 0 ∷ 1 ∷ 0 ∷ 0 ∷ 0 ∷ 1 ∷ 0 ∷ 0 ∷ 0 ∷ 1 ∷ 238 ∷ 107 ∷ 40 ∷ 1 ∷ []) ≡ Err Range
unfolding within_range byte_at number_at bytes_at many above domain_at site_at group_at count_at proc_at entry_at uid_at proc_above entry_above counts_at group_above clock_above times_at payload_at id_at new_holder_at sequence_at kind_at causal_at atomic_at order_at body_at message_at holder_at members_at tail_at id_above mark_at marked_above kept_at full_of data_at ack_at stable_at ask_at asked_at prepare_at flushed_at want_at forward_at install_at installed_at out_at type_of type_at fields_at magic_at version_of version_at frame_at site_frame_of
place_behind_the_last = refl

no_places : site_frame_of (67 ∷ 68 ∷ 1 ∷ 1 ∷ 1 ∷ 0 ∷ 1 ∷ 0 ∷ 1 ∷ 0 ∷ 0 ∷ 0 ∷ 1 ∷ 0 ∷ 1 ∷ 0 ∷ 0 ∷ 0 ∷ 1 ∷ 0 ∷ 0 ∷ 0 ∷ 1 ∷ 3 ∷ 1 ∷ 0 ∷ 1 ∷ 0 ∷ 0 ∷ 0 ∷ 1 ∷ 1 ∷ 0 ∷ 1 ∷ 0 ∷ 0 ∷ 0 ∷ 1 ∷ 0 ∷ 0 ∷ 0 ∷ 1 ∷ 0 ∷ 0 ∷ 0 ∷ 1 ∷ 0 ∷ []) ≡ Err Range
unfolding within_range byte_at number_at bytes_at many above domain_at site_at group_at count_at proc_at entry_at uid_at proc_above entry_above counts_at group_above clock_above times_at payload_at id_at new_holder_at sequence_at kind_at causal_at atomic_at order_at body_at message_at holder_at members_at tail_at id_above mark_at marked_above kept_at full_of data_at ack_at stable_at ask_at asked_at prepare_at flushed_at want_at forward_at install_at installed_at out_at type_of type_at fields_at magic_at version_of version_at frame_at site_frame_of
no_places = refl

places_65 : site_frame_of (67 ∷ 68 ∷ 1 ∷ 1 ∷ 1 ∷ 0 ∷ 1 ∷ 0 ∷ 1 ∷ 0 ∷ 0 ∷ 0 ∷ 1 ∷ 0 ∷ 1 ∷ 0 ∷ 0 ∷ 0 ∷ 1 ∷ 0 ∷ 0 ∷ 0 ∷ 1 ∷ 3 ∷ 1 ∷ 0 ∷ 1 ∷ 0 ∷ 0 ∷ 0 ∷ 1 ∷ 1 ∷ 0 ∷ 1 ∷ 0 ∷ 0 ∷ 0 ∷ 1 ∷ 0 ∷ 0 ∷ 0 ∷ 1 ∷ 0 ∷ 0 ∷ 0 ∷ 1 ∷ 65 ∷ []) ≡ Err Range
unfolding within_range byte_at number_at bytes_at many above domain_at site_at group_at count_at proc_at entry_at uid_at proc_above entry_above counts_at group_above clock_above times_at payload_at id_at new_holder_at sequence_at kind_at causal_at atomic_at order_at body_at message_at holder_at members_at tail_at id_above mark_at marked_above kept_at full_of data_at ack_at stable_at ask_at asked_at prepare_at flushed_at want_at forward_at install_at installed_at out_at type_of type_at fields_at magic_at version_of version_at frame_at site_frame_of
places_65 = refl

places_64_are_short : site_frame_of (67 ∷ 68 ∷ 1 ∷ 1 ∷ 1 ∷ 0 ∷ 1 ∷ 0 ∷ 1 ∷ 0 ∷ 0 ∷ 0 ∷ 1 ∷ 0 ∷ 1 ∷ 0 ∷ 0 ∷ 0 ∷ 1 ∷ 0 ∷ 0 ∷ 0 ∷ 1 ∷ 3 ∷ 1 ∷ 0 ∷ 1 ∷ 0 ∷ 0 ∷ 0 ∷ 1 ∷ 1 ∷ 0 ∷ 1 ∷ 0 ∷ 0 ∷ 0 ∷ 1 ∷ 0 ∷ 0 ∷ 0 ∷ 1 ∷ 0 ∷ 0 ∷ 0 ∷ 1 ∷ 64 ∷ []) ≡ Err Short
unfolding within_range byte_at number_at bytes_at many above domain_at site_at group_at count_at proc_at entry_at uid_at proc_above entry_above counts_at group_above clock_above times_at payload_at id_at new_holder_at sequence_at kind_at causal_at atomic_at order_at body_at message_at holder_at members_at tail_at id_above mark_at marked_above kept_at full_of data_at ack_at stable_at ask_at asked_at prepare_at flushed_at want_at forward_at install_at installed_at out_at type_of type_at fields_at magic_at version_of version_at frame_at site_frame_of
places_64_are_short = refl

atomic_payload_of_16385 : site_frame_of (67 ∷ 68 ∷ 1 ∷ 1 ∷ 1 ∷ 0 ∷ 1 ∷ 0 ∷ 1 ∷ 0 ∷ 0 ∷ 0 ∷ 1 ∷ 0 ∷ 1 ∷ 0 ∷ 0 ∷ 0 ∷ 1 ∷ 0 ∷ 0 ∷ 0 ∷ 1 ∷ 2 ∷ 1 ∷ 0 ∷ 1 ∷ 0 ∷ 0 ∷ 0 ∷ 1 ∷ 1 ∷ 0 ∷ 1 ∷ 0 ∷ 0 ∷ 0 ∷ 1 ∷ 0 ∷ 0 ∷ 0 ∷ 1 ∷ 64 ∷ 1 ∷ []) ≡ Err Range
unfolding within_range byte_at number_at bytes_at many above domain_at site_at group_at count_at proc_at entry_at uid_at proc_above entry_above counts_at group_above clock_above times_at payload_at id_at new_holder_at sequence_at kind_at causal_at atomic_at order_at body_at message_at holder_at members_at tail_at id_above mark_at marked_above kept_at full_of data_at ack_at stable_at ask_at asked_at prepare_at flushed_at want_at forward_at install_at installed_at out_at type_of type_at fields_at magic_at version_of version_at frame_at site_frame_of
atomic_payload_of_16385 = refl

flushed_start_behind_the_last : site_frame_of (67 ∷ 68 ∷ 1 ∷ 7 ∷ 1 ∷ 0 ∷ 1 ∷ 0 ∷ 1 ∷ 0 ∷ 0 ∷ 0 ∷ 1 ∷ 0 ∷ 238 ∷ 107 ∷ 40 ∷ 1 ∷ []) ≡ Err Range
unfolding within_range byte_at number_at bytes_at many above domain_at site_at group_at count_at proc_at entry_at uid_at proc_above entry_above counts_at group_above clock_above times_at payload_at id_at new_holder_at sequence_at kind_at causal_at atomic_at order_at body_at message_at holder_at members_at tail_at id_above mark_at marked_above kept_at full_of data_at ack_at stable_at ask_at asked_at prepare_at flushed_at want_at forward_at install_at installed_at out_at type_of type_at fields_at magic_at version_of version_at frame_at site_frame_of
flushed_start_behind_the_last = refl

flushed_tail_of_513 : site_frame_of (67 ∷ 68 ∷ 1 ∷ 7 ∷ 1 ∷ 0 ∷ 1 ∷ 0 ∷ 1 ∷ 0 ∷ 0 ∷ 0 ∷ 1 ∷ 0 ∷ 0 ∷ 0 ∷ 0 ∷ 0 ∷ 2 ∷ 1 ∷ []) ≡ Err Range
unfolding within_range byte_at number_at bytes_at many above domain_at site_at group_at count_at proc_at entry_at uid_at proc_above entry_above counts_at group_above clock_above times_at payload_at id_at new_holder_at sequence_at kind_at causal_at atomic_at order_at body_at message_at holder_at members_at tail_at id_above mark_at marked_above kept_at full_of data_at ack_at stable_at ask_at asked_at prepare_at flushed_at want_at forward_at install_at installed_at out_at type_of type_at fields_at magic_at version_of version_at frame_at site_frame_of
flushed_tail_of_513 = refl

flushed_tail_of_512_is_short : site_frame_of (67 ∷ 68 ∷ 1 ∷ 7 ∷ 1 ∷ 0 ∷ 1 ∷ 0 ∷ 1 ∷ 0 ∷ 0 ∷ 0 ∷ 1 ∷ 0 ∷ 0 ∷ 0 ∷ 0 ∷ 0 ∷ 2 ∷ 0 ∷ []) ≡ Err Short
unfolding within_range byte_at number_at bytes_at many above domain_at site_at group_at count_at proc_at entry_at uid_at proc_above entry_above counts_at group_above clock_above times_at payload_at id_at new_holder_at sequence_at kind_at causal_at atomic_at order_at body_at message_at holder_at members_at tail_at id_above mark_at marked_above kept_at full_of data_at ack_at stable_at ask_at asked_at prepare_at flushed_at want_at forward_at install_at installed_at out_at type_of type_at fields_at magic_at version_of version_at frame_at site_frame_of
flushed_tail_of_512_is_short = refl

kept_2049 : site_frame_of (67 ∷ 68 ∷ 1 ∷ 7 ∷ 1 ∷ 0 ∷ 1 ∷ 0 ∷ 1 ∷ 0 ∷ 0 ∷ 0 ∷ 1 ∷ 0 ∷ 0 ∷ 0 ∷ 0 ∷ 0 ∷ 0 ∷ 0 ∷ 8 ∷ 1 ∷ []) ≡ Err Range
unfolding within_range byte_at number_at bytes_at many above domain_at site_at group_at count_at proc_at entry_at uid_at proc_above entry_above counts_at group_above clock_above times_at payload_at id_at new_holder_at sequence_at kind_at causal_at atomic_at order_at body_at message_at holder_at members_at tail_at id_above mark_at marked_above kept_at full_of data_at ack_at stable_at ask_at asked_at prepare_at flushed_at want_at forward_at install_at installed_at out_at type_of type_at fields_at magic_at version_of version_at frame_at site_frame_of
kept_2049 = refl

kept_2048_is_short : site_frame_of (67 ∷ 68 ∷ 1 ∷ 7 ∷ 1 ∷ 0 ∷ 1 ∷ 0 ∷ 1 ∷ 0 ∷ 0 ∷ 0 ∷ 1 ∷ 0 ∷ 0 ∷ 0 ∷ 0 ∷ 0 ∷ 0 ∷ 0 ∷ 8 ∷ 0 ∷ []) ≡ Err Short
unfolding within_range byte_at number_at bytes_at many above domain_at site_at group_at count_at proc_at entry_at uid_at proc_above entry_above counts_at group_above clock_above times_at payload_at id_at new_holder_at sequence_at kind_at causal_at atomic_at order_at body_at message_at holder_at members_at tail_at id_above mark_at marked_above kept_at full_of data_at ack_at stable_at ask_at asked_at prepare_at flushed_at want_at forward_at install_at installed_at out_at type_of type_at fields_at magic_at version_of version_at frame_at site_frame_of
kept_2048_is_short = refl

mark_2 : site_frame_of (67 ∷ 68 ∷ 1 ∷ 7 ∷ 1 ∷ 0 ∷ 1 ∷ 0 ∷ 1 ∷ 0 ∷ 0 ∷ 0 ∷ 1 ∷ 0 ∷ 0 ∷ 0 ∷ 0 ∷ 0 ∷ 0 ∷ 0 ∷ 0 ∷ 1 ∷ 0 ∷ 1 ∷ 0 ∷ 0 ∷ 0 ∷ 1 ∷ 0 ∷ 0 ∷ 0 ∷ 1 ∷ 2 ∷ []) ≡ Err Range
unfolding within_range byte_at number_at bytes_at many above domain_at site_at group_at count_at proc_at entry_at uid_at proc_above entry_above counts_at group_above clock_above times_at payload_at id_at new_holder_at sequence_at kind_at causal_at atomic_at order_at body_at message_at holder_at members_at tail_at id_above mark_at marked_above kept_at full_of data_at ack_at stable_at ask_at asked_at prepare_at flushed_at want_at forward_at install_at installed_at out_at type_of type_at fields_at magic_at version_of version_at frame_at site_frame_of
mark_2 = refl

no_mark : site_frame_of (67 ∷ 68 ∷ 1 ∷ 7 ∷ 1 ∷ 0 ∷ 1 ∷ 0 ∷ 1 ∷ 0 ∷ 0 ∷ 0 ∷ 1 ∷ 0 ∷ 0 ∷ 0 ∷ 0 ∷ 0 ∷ 0 ∷ 0 ∷ 0 ∷ 1 ∷ 0 ∷ 1 ∷ 0 ∷ 0 ∷ 0 ∷ 1 ∷ 0 ∷ 0 ∷ 0 ∷ 1 ∷ []) ≡ Err Short
unfolding within_range byte_at number_at bytes_at many above domain_at site_at group_at count_at proc_at entry_at uid_at proc_above entry_above counts_at group_above clock_above times_at payload_at id_at new_holder_at sequence_at kind_at causal_at atomic_at order_at body_at message_at holder_at members_at tail_at id_above mark_at marked_above kept_at full_of data_at ack_at stable_at ask_at asked_at prepare_at flushed_at want_at forward_at install_at installed_at out_at type_of type_at fields_at magic_at version_of version_at frame_at site_frame_of
no_mark = refl

kept_twice : site_frame_of (67 ∷ 68 ∷ 1 ∷ 7 ∷ 1 ∷ 0 ∷ 1 ∷ 0 ∷ 1 ∷ 0 ∷ 0 ∷ 0 ∷ 1 ∷ 0 ∷ 0 ∷ 0 ∷ 0 ∷ 0 ∷ 0 ∷ 0 ∷ 0 ∷ 2 ∷ 0 ∷ 1 ∷ 0 ∷ 0 ∷ 0 ∷ 1 ∷ 0 ∷ 0 ∷ 0 ∷ 1 ∷ 0 ∷ 0 ∷ 1 ∷ 0 ∷ 0 ∷ 0 ∷ 1 ∷ 0 ∷ 0 ∷ 0 ∷ 1 ∷ []) ≡ Err NotSorted
unfolding within_range byte_at number_at bytes_at many above domain_at site_at group_at count_at proc_at entry_at uid_at proc_above entry_above counts_at group_above clock_above times_at payload_at id_at new_holder_at sequence_at kind_at causal_at atomic_at order_at body_at message_at holder_at members_at tail_at id_above mark_at marked_above kept_at full_of data_at ack_at stable_at ask_at asked_at prepare_at flushed_at want_at forward_at install_at installed_at out_at type_of type_at fields_at magic_at version_of version_at frame_at site_frame_of
kept_twice = refl

kept_counts_that_fall : site_frame_of (67 ∷ 68 ∷ 1 ∷ 7 ∷ 1 ∷ 0 ∷ 1 ∷ 0 ∷ 1 ∷ 0 ∷ 0 ∷ 0 ∷ 1 ∷ 0 ∷ 0 ∷ 0 ∷ 0 ∷ 0 ∷ 0 ∷ 0 ∷ 0 ∷ 2 ∷ 0 ∷ 1 ∷ 0 ∷ 0 ∷ 0 ∷ 1 ∷ 0 ∷ 0 ∷ 0 ∷ 2 ∷ 0 ∷ 0 ∷ 1 ∷ 0 ∷ 0 ∷ 0 ∷ 1 ∷ 0 ∷ 0 ∷ 0 ∷ 1 ∷ 2 ∷ []) ≡ Err NotSorted
unfolding within_range byte_at number_at bytes_at many above domain_at site_at group_at count_at proc_at entry_at uid_at proc_above entry_above counts_at group_above clock_above times_at payload_at id_at new_holder_at sequence_at kind_at causal_at atomic_at order_at body_at message_at holder_at members_at tail_at id_above mark_at marked_above kept_at full_of data_at ack_at stable_at ask_at asked_at prepare_at flushed_at want_at forward_at install_at installed_at out_at type_of type_at fields_at magic_at version_of version_at frame_at site_frame_of
kept_counts_that_fall = refl

kept_processes_that_fall : site_frame_of (67 ∷ 68 ∷ 1 ∷ 7 ∷ 1 ∷ 0 ∷ 1 ∷ 0 ∷ 1 ∷ 0 ∷ 0 ∷ 0 ∷ 1 ∷ 0 ∷ 0 ∷ 0 ∷ 0 ∷ 0 ∷ 0 ∷ 0 ∷ 0 ∷ 2 ∷ 0 ∷ 2 ∷ 0 ∷ 0 ∷ 0 ∷ 1 ∷ 0 ∷ 0 ∷ 0 ∷ 1 ∷ 0 ∷ 0 ∷ 1 ∷ 0 ∷ 0 ∷ 0 ∷ 1 ∷ 0 ∷ 0 ∷ 0 ∷ 2 ∷ []) ≡ Err NotSorted
unfolding within_range byte_at number_at bytes_at many above domain_at site_at group_at count_at proc_at entry_at uid_at proc_above entry_above counts_at group_above clock_above times_at payload_at id_at new_holder_at sequence_at kind_at causal_at atomic_at order_at body_at message_at holder_at members_at tail_at id_above mark_at marked_above kept_at full_of data_at ack_at stable_at ask_at asked_at prepare_at flushed_at want_at forward_at install_at installed_at out_at type_of type_at fields_at magic_at version_of version_at frame_at site_frame_of
kept_processes_that_fall = refl

kept_count_0_below : site_frame_of (67 ∷ 68 ∷ 1 ∷ 7 ∷ 1 ∷ 0 ∷ 1 ∷ 0 ∷ 1 ∷ 0 ∷ 0 ∷ 0 ∷ 1 ∷ 0 ∷ 0 ∷ 0 ∷ 0 ∷ 0 ∷ 0 ∷ 0 ∷ 0 ∷ 2 ∷ 0 ∷ 1 ∷ 0 ∷ 0 ∷ 0 ∷ 1 ∷ 0 ∷ 0 ∷ 0 ∷ 1 ∷ 0 ∷ 0 ∷ 1 ∷ 0 ∷ 0 ∷ 0 ∷ 1 ∷ 0 ∷ 0 ∷ 0 ∷ 0 ∷ []) ≡ Err Range
unfolding within_range byte_at number_at bytes_at many above domain_at site_at group_at count_at proc_at entry_at uid_at proc_above entry_above counts_at group_above clock_above times_at payload_at id_at new_holder_at sequence_at kind_at causal_at atomic_at order_at body_at message_at holder_at members_at tail_at id_above mark_at marked_above kept_at full_of data_at ack_at stable_at ask_at asked_at prepare_at flushed_at want_at forward_at install_at installed_at out_at type_of type_at fields_at magic_at version_of version_at frame_at site_frame_of
kept_count_0_below = refl

out_of_view_0 : site_frame_of (67 ∷ 68 ∷ 1 ∷ 12 ∷ 1 ∷ 0 ∷ 1 ∷ 0 ∷ 1 ∷ 0 ∷ 0 ∷ 0 ∷ 0 ∷ []) ≡ Err Range
unfolding within_range byte_at number_at bytes_at many above domain_at site_at group_at count_at proc_at entry_at uid_at proc_above entry_above counts_at group_above clock_above times_at payload_at id_at new_holder_at sequence_at kind_at causal_at atomic_at order_at body_at message_at holder_at members_at tail_at id_above mark_at marked_above kept_at full_of data_at ack_at stable_at ask_at asked_at prepare_at flushed_at want_at forward_at install_at installed_at out_at type_of type_at fields_at magic_at version_of version_at frame_at site_frame_of
out_of_view_0 = refl

want_of_count_0 : site_frame_of (67 ∷ 68 ∷ 1 ∷ 8 ∷ 1 ∷ 0 ∷ 1 ∷ 0 ∷ 1 ∷ 0 ∷ 0 ∷ 0 ∷ 3 ∷ 0 ∷ 2 ∷ 0 ∷ 0 ∷ 0 ∷ 1 ∷ 0 ∷ 0 ∷ 0 ∷ 0 ∷ []) ≡ Err Range
unfolding within_range byte_at number_at bytes_at many above domain_at site_at group_at count_at proc_at entry_at uid_at proc_above entry_above counts_at group_above clock_above times_at payload_at id_at new_holder_at sequence_at kind_at causal_at atomic_at order_at body_at message_at holder_at members_at tail_at id_above mark_at marked_above kept_at full_of data_at ack_at stable_at ask_at asked_at prepare_at flushed_at want_at forward_at install_at installed_at out_at type_of type_at fields_at magic_at version_of version_at frame_at site_frame_of
want_of_count_0 = refl

stable_of_serial_0 : site_frame_of (67 ∷ 68 ∷ 1 ∷ 3 ∷ 1 ∷ 0 ∷ 1 ∷ 0 ∷ 1 ∷ 0 ∷ 0 ∷ 0 ∷ 2 ∷ 0 ∷ 1 ∷ 0 ∷ 0 ∷ 0 ∷ 0 ∷ []) ≡ Err Range
unfolding within_range byte_at number_at bytes_at many above domain_at site_at group_at count_at proc_at entry_at uid_at proc_above entry_above counts_at group_above clock_above times_at payload_at id_at new_holder_at sequence_at kind_at causal_at atomic_at order_at body_at message_at holder_at members_at tail_at id_above mark_at marked_above kept_at full_of data_at ack_at stable_at ask_at asked_at prepare_at flushed_at want_at forward_at install_at installed_at out_at type_of type_at fields_at magic_at version_of version_at frame_at site_frame_of
stable_of_serial_0 = refl

-- whatever stands behind another magic
any_other_magic : (bytes : List ℕ) → length bytes ≤ 59998 → site_frame_of (67 ∷ 69 ∷ bytes) ≡ Err Magic
unfolding within_range byte_at number_at bytes_at many above domain_at site_at group_at count_at proc_at entry_at uid_at proc_above entry_above counts_at group_above clock_above times_at payload_at id_at new_holder_at sequence_at kind_at causal_at atomic_at order_at body_at message_at holder_at members_at tail_at id_above mark_at marked_above kept_at full_of data_at ack_at stable_at ask_at asked_at prepare_at flushed_at want_at forward_at install_at installed_at out_at type_of type_at fields_at magic_at version_of version_at frame_at site_frame_of
any_other_magic bytes few =
    let within : nat_lt 60000 (length (67 ∷ 69 ∷ bytes)) ≡ false = le-ltb _ _ (omega (arith, few)) in
    let two : nat_lt (length (67 ∷ 69 ∷ bytes)) 2 ≡ false = le-ltb _ _ (omega arith) in
    rw (within, two) refl

-- a hand-over stands in a frame of the second version
abbrev handing_bytes : List ℕ
handing_bytes = 67 ∷ 68 ∷ 2 ∷ 1 ∷ 1 ∷ 0 ∷ 1 ∷ 0 ∷ 1 ∷ 0 ∷ 0 ∷ 0 ∷ 2 ∷ 0 ∷ 1 ∷ 0 ∷ 0 ∷ 0 ∷ 1 ∷ 0 ∷ 0 ∷ 0 ∷ 1 ∷ 3 ∷ 1 ∷ 0 ∷ 1 ∷ 0 ∷ 0 ∷ 0 ∷ 2 ∷ 1 ∷ 0 ∷ 1 ∷ 0 ∷ 0 ∷ 0 ∷ 1 ∷ 0 ∷ 0 ∷ 0 ∷ 1 ∷ 0 ∷ 0 ∷ 0 ∷ 1 ∷ 0 ∷ 0 ∷ 2 ∷ 0 ∷ 0 ∷ 0 ∷ 1 ∷ []

abbrev handing_frame : SiteFrame
handing_frame = Data (record { id = record { group = record { 0 = 1 }; view = 2; proc = first; count = 1 }; times = (record { 0 = 1 }, record { view = 2; counts = (first, 1) ∷ [] }) ∷ []; body = body.Order (record { first = 1; ids = []; holder = Some second }) })

handing_spelled : spelled_site (record { 0 = 1 }) (record { 0 = 1 }) handing_frame ≡ handing_bytes
unfolding byte short word spelled_proc spelled_entry spelled_uid spelled_counts spelled_clock spelled_times spelled_payload spelled_new_holder spelled_sequence spelled_body spelled_message spelled_holder spelled_members spelled_tail spelled_marked spelled_kept spelled_fields spelled_site
handing_spelled = refl

handing_read : site_frame_of handing_bytes ≡ Ok (record { 0 = 1 }, record { 0 = 1 }, handing_frame)
unfolding within_range byte_at number_at bytes_at many above domain_at site_at group_at count_at proc_at entry_at uid_at proc_above entry_above counts_at group_above clock_above times_at payload_at id_at new_holder_at sequence_at kind_at causal_at atomic_at order_at body_at message_at holder_at members_at tail_at id_above mark_at marked_above kept_at full_of data_at ack_at stable_at ask_at asked_at prepare_at flushed_at want_at forward_at install_at installed_at out_at type_of type_at fields_at magic_at version_of version_at frame_at site_frame_of
handing_read = refl

-- no other frame does, and no message of another kind
handing_ack : site_frame_of (67 ∷ 68 ∷ 2 ∷ 2 ∷ []) ≡ Err WrongType
unfolding within_range byte_at number_at bytes_at many above domain_at site_at group_at count_at proc_at entry_at uid_at proc_above entry_above counts_at group_above clock_above times_at payload_at id_at new_holder_at sequence_at kind_at causal_at atomic_at order_at body_at message_at holder_at members_at tail_at id_above mark_at marked_above kept_at full_of data_at ack_at stable_at ask_at asked_at prepare_at flushed_at want_at forward_at install_at installed_at out_at type_of type_at fields_at magic_at version_of version_at frame_at site_frame_of
handing_ack = refl

handing_cast : site_frame_of (67 ∷ 68 ∷ 2 ∷ 1 ∷ 1 ∷ 0 ∷ 1 ∷ 0 ∷ 1 ∷ 0 ∷ 0 ∷ 0 ∷ 2 ∷ 0 ∷ 1 ∷ 0 ∷ 0 ∷ 0 ∷ 1 ∷ 0 ∷ 0 ∷ 0 ∷ 1 ∷ 2 ∷ []) ≡ Err Range
unfolding within_range byte_at number_at bytes_at many above domain_at site_at group_at count_at proc_at entry_at uid_at proc_above entry_above counts_at group_above clock_above times_at payload_at id_at new_holder_at sequence_at kind_at causal_at atomic_at order_at body_at message_at holder_at members_at tail_at id_above mark_at marked_above kept_at full_of data_at ack_at stable_at ask_at asked_at prepare_at flushed_at want_at forward_at install_at installed_at out_at type_of type_at fields_at magic_at version_of version_at frame_at site_frame_of
handing_cast = refl

-- the new holder has to stand there
handing_without_a_holder : site_frame_of (take 47 handing_bytes) ≡ Err Short
unfolding within_range byte_at number_at bytes_at many above domain_at site_at group_at count_at proc_at entry_at uid_at proc_above entry_above counts_at group_above clock_above times_at payload_at id_at new_holder_at sequence_at kind_at causal_at atomic_at order_at body_at message_at holder_at members_at tail_at id_above mark_at marked_above kept_at full_of data_at ack_at stable_at ask_at asked_at prepare_at flushed_at want_at forward_at install_at installed_at out_at type_of type_at fields_at magic_at version_of version_at frame_at site_frame_of
handing_without_a_holder = refl
