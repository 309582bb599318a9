-- All that unfolds when a script's text is computed.

unfoldable pub everything : Unit {0}
unfolding
    Rattle.cast_order.specs.Order.known_order Rattle.cast_field.specs.Reading.within_range
    Rattle.cast_field.specs.Reading.byte_at Rattle.cast_field.specs.Reading.number_at
    Rattle.cast_field.specs.Reading.bytes_at Rattle.cast_field.specs.Reading.many Rattle.cast_field.specs.Reading.above
    Rattle.cast_field.specs.Reading.domain_at Rattle.cast_field.specs.Reading.site_at
    Rattle.cast_field.specs.Reading.group_at Rattle.cast_field.specs.Reading.count_at Rattle.cast_field.specs.Reading.proc_at
    Rattle.cast_field.specs.Reading.entry_at Rattle.cast_field.specs.Reading.uid_at
    Rattle.cast_field.specs.Reading.proc_above Rattle.cast_field.specs.Reading.entry_above
    Rattle.cast_field.specs.Reading.counts_at Rattle.cast_field.specs.Reading.group_above
    Rattle.cast_field.specs.Reading.clock_above Rattle.cast_field.specs.Reading.times_at
    Rattle.cast_field.specs.Reading.payload_at Rattle.cast_field.specs.Reading.id_at
    Rattle.cast_field.specs.Reading.new_holder_at Rattle.cast_field.specs.Reading.sequence_at
    Rattle.cast_field.specs.Reading.kind_at Rattle.cast_field.specs.Reading.causal_at
    Rattle.cast_field.specs.Reading.atomic_at Rattle.cast_field.specs.Reading.order_at
    Rattle.cast_field.specs.Reading.body_at Rattle.cast_field.specs.Reading.message_at
    Rattle.cast_field.specs.Reading.holder_at Rattle.cast_field.specs.Reading.members_at
    Rattle.cast_field.specs.Reading.tail_at Rattle.cast_field.specs.Reading.id_above Rattle.cast_field.specs.Reading.mark_at
    Rattle.cast_field.specs.Reading.marked_above Rattle.cast_field.specs.Reading.kept_at
    Rattle.cast_frame.specs.Reading.full_of Rattle.cast_frame.specs.Reading.data_at Rattle.cast_frame.specs.Reading.ack_at
    Rattle.cast_frame.specs.Reading.stable_at Rattle.cast_frame.specs.Reading.ask_at Rattle.cast_frame.specs.Reading.asked_at
    Rattle.cast_frame.specs.Reading.prepare_at Rattle.cast_frame.specs.Reading.flushed_at
    Rattle.cast_frame.specs.Reading.want_at Rattle.cast_frame.specs.Reading.forward_at
    Rattle.cast_frame.specs.Reading.install_at Rattle.cast_frame.specs.Reading.installed_at
    Rattle.cast_frame.specs.Reading.out_at Rattle.cast_frame.specs.Reading.type_of Rattle.cast_frame.specs.Reading.type_at
    Rattle.cast_frame.specs.Reading.fields_at Rattle.cast_frame.specs.Reading.magic_at
    Rattle.cast_frame.specs.Reading.version_of Rattle.cast_frame.specs.Reading.version_at
    Rattle.cast_frame.specs.Reading.frame_at Rattle.cast_frame.specs.Reading.site_frame_of
    Rattle.cast_field.specs.Spelling.byte Rattle.cast_field.specs.Spelling.short Rattle.cast_field.specs.Spelling.word
    Rattle.cast_field.specs.Spelling.spelled_proc Rattle.cast_field.specs.Spelling.spelled_entry
    Rattle.cast_field.specs.Spelling.spelled_uid Rattle.cast_field.specs.Spelling.spelled_counts
    Rattle.cast_field.specs.Spelling.spelled_clock Rattle.cast_field.specs.Spelling.spelled_times
    Rattle.cast_field.specs.Spelling.spelled_payload Rattle.cast_field.specs.Spelling.spelled_new_holder
    Rattle.cast_field.specs.Spelling.spelled_sequence Rattle.cast_field.specs.Spelling.spelled_body
    Rattle.cast_field.specs.Spelling.spelled_message Rattle.cast_field.specs.Spelling.spelled_holder
    Rattle.cast_field.specs.Spelling.spelled_members Rattle.cast_field.specs.Spelling.spelled_tail
    Rattle.cast_field.specs.Spelling.spelled_marked Rattle.cast_field.specs.Spelling.spelled_kept
    Rattle.cast_frame.specs.Spelling.spelled_fields Rattle.cast_frame.specs.Spelling.spelled_site
    Rattle.cast_script.specs.WordReadings.each Rattle.cast_script.specs.WordReadings.spelled_number
    Rattle.cast_script.specs.WordReadings.number_of Rattle.cast_script.specs.WordReadings.within
    Rattle.cast_script.specs.WordReadings.number_within Rattle.cast_script.specs.WordReadings.domain_of
    Rattle.cast_script.specs.WordReadings.new_domain_of Rattle.cast_script.specs.WordReadings.site_of
    Rattle.cast_script.specs.WordReadings.group_of Rattle.cast_script.specs.WordReadings.site_and_serial
    Rattle.cast_script.specs.WordReadings.proc_of Rattle.cast_script.specs.WordReadings.checked_sites
    Rattle.cast_script.specs.WordReadings.sites_of Rattle.cast_script.specs.WordReadings.checked_groups
    Rattle.cast_script.specs.WordReadings.groups_of Rattle.cast_script.specs.WordReadings.quota_name_of
    Rattle.cast_script.specs.WordReadings.fixed_of Rattle.cast_script.specs.WordReadings.bytes_of
    Rattle.cast_script.specs.LineReadings.head_of Rattle.cast_script.specs.LineReadings.behind_first
    Rattle.cast_script.specs.LineReadings.site_words Rattle.cast_script.specs.LineReadings.site_behind
    Rattle.cast_script.specs.LineReadings.site_line Rattle.cast_script.specs.WordReadings.place_words
    Rattle.cast_script.specs.WordReadings.list_words Rattle.cast_script.specs.WordReadings.quota_words
    Rattle.cast_script.specs.LineReadings.domain_parts Rattle.cast_script.specs.LineReadings.domain_words
    Rattle.cast_script.specs.LineReadings.next_domain Rattle.cast_script.specs.LineReadings.request_parts
    Rattle.cast_script.specs.LineReadings.open_words Rattle.cast_script.specs.LineReadings.join_words
    Rattle.cast_script.specs.LineReadings.leave_words Rattle.cast_script.specs.LineReadings.cast_words
    Rattle.cast_script.specs.LineReadings.pass_words Rattle.cast_script.specs.LineReadings.bad_words
    Rattle.cast_script.specs.LineReadings.gone_words Rattle.cast_script.specs.LineReadings.frame_words
    Rattle.cast_script.specs.LineReadings.suspect_words Rattle.cast_script.specs.LineReadings.quota_event_words
    Rattle.cast_script.specs.LineReadings.take_words Rattle.cast_script.specs.LineReadings.tick_words
    Rattle.cast_script.specs.LineReadings.event_behind Rattle.cast_script.specs.LineReadings.event_line
    Rattle.cast_script.specs.LineReadings.first_event Rattle.cast_script.specs.LineReadings.domain_or_event_behind
    Rattle.cast_script.specs.LineReadings.domain_or_event Rattle.cast_script.specs.Readings.site_at
    Rattle.cast_script.specs.Readings.domain_or_event_at Rattle.cast_script.specs.Readings.event_at
    Rattle.cast_script.specs.Readings.no_events Rattle.cast_script.specs.Readings.events_on
    Rattle.cast_script.specs.Readings.domains_on Rattle.cast_script.specs.Readings.site_on
    Rattle.cast_script.specs.Readings.script_of Rattle.std.specs.Fmt.digits Rattle.hex.specs.Hex.encode_with
    Rattle.hex.specs.Hex.decode_pairs
everything = tt
