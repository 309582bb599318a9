-- What programs take of what they are pushed, and quotas that change, by worked scripts.
-- Each is a worked example: the script is run by computation, and its output is stated.
use Rattle.std.specs.Prelude.{◌≡◌, ℕ, List, [], ◌∷◌, codes, Ok, true, refl}
use Rattle.std.specs.List.{list_all}
use Rattle.cast_examples.proofs.Everything.{everything}
use Rattle.cast_examples.specs.Printed.{lines, printed_text, rests}

-- an outbox of two entries holds the view off: the session is closed instead, and its process, which has entered the view, leaves it before
-- the home is told. What was pushed may still be taken
no_room_for_the_view : List ℕ
no_room_for_the_view =
    lines
    (codes "site 1"
    ∷ codes "domain 1 home 1 sites 1 groups 1 quotas 16 256 2 200"
    ∷ codes "open 1"
    ∷ codes "join 1 1 7 1"
    ∷ codes "frame 4344010401000100010000000101000100000001"
    ∷ codes "frame 4344010501000100010000000100"
    ∷ codes "frame 4344010a01000100010000000101000100000001000000000100000000000000"
    ∷ codes "take 1 1 10"
    ∷ codes "join 1 1 8 1"
    ∷ codes "take 1 1 10" ∷ [])

no_room_for_the_view_prints : printed_text no_room_for_the_view ≡ Ok (
    lines
    (codes "event 7 refused 2"
    ∷ codes "push 1 1 opened 1.1"
    ∷ codes "push 1 1 reply 7 0"
    ∷ codes "push 1 1 closed 12"
    ∷ codes "send 1 1 4344010401000100010000000101000100000001"
    ∷ codes "send 1 1 4344010501000100010000000100"
    ∷ codes "send 1 1 4344010a01000100010000000101000100000001000000000100000000000000"
    ∷ codes "send 1 1 4344010401000100010000000202000100000001"
    ∷ codes "send 1 1 4344010b010001000100000001" ∷ [])
    )
unfolding everything no_room_for_the_view
no_room_for_the_view_prints = refl

-- the same where an entry is taken before the view: there is room for it
taken_in_time : List ℕ
taken_in_time =
    lines
    (codes "site 1"
    ∷ codes "domain 1 home 1 sites 1 groups 1 quotas 16 256 2 200"
    ∷ codes "open 1"
    ∷ codes "join 1 1 7 1"
    ∷ codes "frame 4344010401000100010000000101000100000001"
    ∷ codes "frame 4344010501000100010000000100"
    ∷ codes "take 1 1 1"
    ∷ codes "frame 4344010a01000100010000000101000100000001000000000100000000000000"
    ∷ codes "take 1 1 256"
    ∷ codes "cast 1 1 8 1 6869" ∷ [])

taken_in_time_prints : printed_text taken_in_time ≡ Ok (
    lines
    (codes "push 1 1 opened 1.1"
    ∷ codes "push 1 1 reply 7 0"
    ∷ codes "push 1 1 view 1 1 holder 1.1 members 1.1"
    ∷ codes "push 1 1 reply 8 0"
    ∷ codes "push 1 1 deliver 1/1/1.1/1 causal 6869"
    ∷ codes "send 1 1 4344010401000100010000000101000100000001"
    ∷ codes "send 1 1 4344010501000100010000000100"
    ∷ codes "send 1 1 4344010a01000100010000000101000100000001000000000100000000000000"
    ∷ codes "send 1 1 4344010b010001000100000001" ∷ [])
    )
unfolding everything taken_in_time
taken_in_time_prints = refl

-- a cast whose reply has no room: the message is sent all the same, and then the session is closed and its process leaves. The message
-- stays owed
no_room_for_a_reply : List ℕ
no_room_for_a_reply =
    lines
    (codes "site 1"
    ∷ codes "domain 1 home 9 sites 1,2,9 groups 1 quotas 16 256 3 200"
    ∷ codes "open 1"
    ∷ codes "join 1 1 7 1"
    ∷ codes "frame 4344010501000900010000000100"
    ∷ codes "frame 4344010a01000900010000000202000100000001000200000001000000000100000000000000"
    ∷ codes "cast 1 1 8 1 -"
    ∷ codes "cast 1 1 9 1 -"
    ∷ codes "tick 200" ∷ [])

no_room_for_a_reply_prints : printed_text no_room_for_a_reply ≡ Ok (
    lines
    (codes "event 6 refused 2"
    ∷ codes "push 1 1 opened 1.1"
    ∷ codes "push 1 1 reply 7 0"
    ∷ codes "push 1 1 view 1 2 holder 1.1 members 1.1 2.1"
    ∷ codes "push 1 1 closed 12"
    ∷ codes "send 1 9 4344010401000100010000000101000100000001"
    ∷ codes "send 1 9 4344010b010001000100000002"
    ∷ codes "send 1 2 4344010101000100010000000200010000000100000001010100010000000201000100000001000000010000"
    ∷ codes "send 1 9 4344010401000100010000000202000100000001"
    ∷ codes "send 1 9 4344010401000100010000000202000100000001"
    ∷ codes "send 1 2 4344010101000100010000000200010000000100000001010100010000000201000100000001000000010000" ∷ [])
    )
unfolding everything no_room_for_a_reply
no_room_for_a_reply_prints = refl

-- a message of site 2 that a full outbox has no room for is acknowledged, and its session is closed: the process leaves. What comes after
-- it is acknowledged too
no_room_for_a_delivery : List ℕ
no_room_for_a_delivery =
    lines
    (codes "site 1"
    ∷ codes "domain 1 home 9 sites 1,2,9 groups 1 quotas 16 256 3 200"
    ∷ codes "open 1"
    ∷ codes "join 1 1 7 1"
    ∷ codes "frame 4344010501000900010000000100"
    ∷ codes "frame 4344010a01000900010000000202000100000001000200000001000000000100000000000000"
    ∷ codes "frame 4344010101000200010000000200020000000100000001010100010000000201000200000001000000010000"
    ∷ codes "frame 4344010101000200010000000200020000000100000002010100010000000201000200000001000000020000" ∷ [])

no_room_for_a_delivery_prints : printed_text no_room_for_a_delivery ≡ Ok (
    lines
    (codes "push 1 1 opened 1.1"
    ∷ codes "push 1 1 reply 7 0"
    ∷ codes "push 1 1 view 1 2 holder 1.1 members 1.1 2.1"
    ∷ codes "push 1 1 closed 12"
    ∷ codes "send 1 9 4344010401000100010000000101000100000001"
    ∷ codes "send 1 9 4344010b010001000100000002"
    ∷ codes "send 1 2 4344010201000100010000000200020000000100000001"
    ∷ codes "send 1 9 4344010401000100010000000202000100000001"
    ∷ codes "send 1 2 4344010201000100010000000200020000000100000002" ∷ [])
    )
unfolding everything no_room_for_a_delivery
no_room_for_a_delivery_prints = refl

-- a client that sends what is no command is closed by 1 where its outbox has room, and by 12 where it has none. What was pushed may be
-- taken until it is gone
bad_with_a_full_outbox : List ℕ
bad_with_a_full_outbox =
    lines
    (codes "site 1"
    ∷ codes "domain 1 home 1 sites 1 groups 1 quotas 16 256 1 200"
    ∷ codes "open 1"
    ∷ codes "bad 1 1"
    ∷ codes "bad 1 1"
    ∷ codes "open 1"
    ∷ codes "take 1 2 1"
    ∷ codes "bad 1 2"
    ∷ codes "take 1 2 1"
    ∷ codes "gone 1 2"
    ∷ codes "take 1 2 1" ∷ [])

bad_with_a_full_outbox_prints : printed_text bad_with_a_full_outbox ≡ Ok (
    lines
    (codes "event 3 refused 2"
    ∷ codes "event 9 refused 2"
    ∷ codes "push 1 1 opened 1.1"
    ∷ codes "push 1 1 closed 12"
    ∷ codes "push 1 2 opened 1.2"
    ∷ codes "push 1 2 closed 1" ∷ [])
    )
unfolding everything bad_with_a_full_outbox
bad_with_a_full_outbox_prints = refl

-- how many entries may be taken at once, 1 to 256; that the session is there is tested before
takes_out_of_range : List ℕ
takes_out_of_range =
    lines
    (codes "site 1"
    ∷ codes "domain 1 home 1 sites 1 groups 1 quotas 16 256 256 200"
    ∷ codes "open 1"
    ∷ codes "take 1 1 0"
    ∷ codes "take 1 1 1"
    ∷ codes "take 1 1 256"
    ∷ codes "take 1 1 257"
    ∷ codes "take 1 1 4294967295"
    ∷ codes "take 1 8 0"
    ∷ codes "take 1 0 1"
    ∷ codes "gone 1 8"
    ∷ codes "take 9 1 1"
    ∷ codes "gone 1 1"
    ∷ codes "take 1 1 1"
    ∷ codes "take 1 1 0"
    ∷ codes "gone 1 1" ∷ [])

takes_out_of_range_prints : printed_text takes_out_of_range ≡ Ok (
    lines
    (codes "event 2 refused 15"
    ∷ codes "event 5 refused 15"
    ∷ codes "event 6 refused 15"
    ∷ codes "event 7 refused 2"
    ∷ codes "event 8 refused 2"
    ∷ codes "event 9 refused 2"
    ∷ codes "event 10 no domain"
    ∷ codes "event 12 refused 2"
    ∷ codes "event 13 refused 2"
    ∷ codes "event 14 refused 2"
    ∷ codes "push 1 1 opened 1.1" ∷ [])
    )
unfolding everything takes_out_of_range
takes_out_of_range_prints = refl

-- one session is allowed: a second one only once the first is gone, and with the next serial. The number of kept messages may be 1 to 1024
one_session_at_a_time : List ℕ
one_session_at_a_time =
    lines
    (codes "site 1"
    ∷ codes "domain 1 home 1 sites 1 groups 1 quotas 1 256 256 200"
    ∷ codes "open 1"
    ∷ codes "open 1"
    ∷ codes "gone 1 1"
    ∷ codes "open 1"
    ∷ codes "quota 1 held 0"
    ∷ codes "quota 1 held 256"
    ∷ codes "bad 1 2"
    ∷ codes "open 1"
    ∷ codes "gone 1 2"
    ∷ codes "open 1" ∷ [])

one_session_at_a_time_prints : printed_text one_session_at_a_time ≡ Ok (
    lines
    (codes "event 2 refused 3"
    ∷ codes "event 5 refused 15"
    ∷ codes "event 8 refused 3"
    ∷ codes "push 1 1 opened 1.1"
    ∷ codes "push 1 2 opened 1.2"
    ∷ codes "push 1 2 closed 1"
    ∷ codes "push 1 3 opened 1.3" ∷ [])
    )
unfolding everything one_session_at_a_time
one_session_at_a_time_prints = refl

-- the ranges of the quotas, at both ends, and a domain that is not configured
quotas_in_their_ranges : List ℕ
quotas_in_their_ranges =
    lines
    (codes "site 1"
    ∷ codes "domain 1 home 1 sites 1 groups 1 quotas 16 256 256 200"
    ∷ codes "quota 1 sessions 0"
    ∷ codes "quota 1 sessions 1"
    ∷ codes "quota 1 sessions 64"
    ∷ codes "quota 1 sessions 65"
    ∷ codes "quota 1 held 0"
    ∷ codes "quota 1 held 1"
    ∷ codes "quota 1 held 1024"
    ∷ codes "quota 1 held 1025"
    ∷ codes "quota 1 outbox 0"
    ∷ codes "quota 1 outbox 1"
    ∷ codes "quota 1 outbox 4096"
    ∷ codes "quota 1 outbox 4097"
    ∷ codes "quota 1 resend 9"
    ∷ codes "quota 1 resend 10"
    ∷ codes "quota 1 resend 60000"
    ∷ codes "quota 1 resend 60001"
    ∷ codes "quota 1 resend 4294967295"
    ∷ codes "quota 9 held 0"
    ∷ codes "quota 9 held 1" ∷ [])

quotas_in_their_ranges_prints : printed_text quotas_in_their_ranges ≡ Ok (
    lines
    (codes "event 1 refused 15"
    ∷ codes "event 4 refused 15"
    ∷ codes "event 5 refused 15"
    ∷ codes "event 8 refused 15"
    ∷ codes "event 9 refused 15"
    ∷ codes "event 12 refused 15"
    ∷ codes "event 13 refused 15"
    ∷ codes "event 16 refused 15"
    ∷ codes "event 17 refused 15"
    ∷ codes "event 18 no domain"
    ∷ codes "event 19 no domain" ∷ [])
    )
unfolding everything quotas_in_their_ranges
quotas_in_their_ranges_prints = refl

-- lower quotas close nobody: a session is refused, or has no room, at what comes next
lower_quotas_close_nobody : List ℕ
lower_quotas_close_nobody =
    lines
    (codes "site 1"
    ∷ codes "domain 1 home 1 sites 1 groups 1 quotas 16 256 256 200"
    ∷ codes "open 1"
    ∷ codes "open 1"
    ∷ codes "quota 1 sessions 1"
    ∷ codes "quota 1 outbox 1"
    ∷ codes "open 1"
    ∷ codes "gone 1 1"
    ∷ codes "open 1"
    ∷ codes "quota 1 sessions 2"
    ∷ codes "open 1"
    ∷ codes "join 1 2 5 9"
    ∷ codes "join 1 2 6 9" ∷ [])

lower_quotas_close_nobody_prints : printed_text lower_quotas_close_nobody ≡ Ok (
    lines
    (codes "event 5 refused 3"
    ∷ codes "event 7 refused 3"
    ∷ codes "event 11 refused 2"
    ∷ codes "push 1 1 opened 1.1"
    ∷ codes "push 1 2 opened 1.2"
    ∷ codes "push 1 2 closed 12"
    ∷ codes "push 1 3 opened 1.3" ∷ [])
    )
unfolding everything lower_quotas_close_nobody
lower_quotas_close_nobody_prints = refl

-- another time to wait before a frame is sent again counts from the next time that it is sent
another_resend_counts_from_the_next_time : List ℕ
another_resend_counts_from_the_next_time =
    lines
    (codes "site 1"
    ∷ codes "domain 1 home 9 sites 1,9 groups 1 quotas 16 256 256 200"
    ∷ codes "open 1"
    ∷ codes "join 1 1 7 1"
    ∷ codes "quota 1 resend 10"
    ∷ codes "tick 10"
    ∷ codes "tick 199"
    ∷ codes "tick 200"
    ∷ codes "tick 209"
    ∷ codes "tick 210" ∷ [])

another_resend_counts_from_the_next_time_prints : printed_text another_resend_counts_from_the_next_time ≡ Ok (
    lines
    (codes "push 1 1 opened 1.1"
    ∷ codes "push 1 1 reply 7 0"
    ∷ codes "send 1 9 4344010401000100010000000101000100000001"
    ∷ codes "send 1 9 4344010401000100010000000101000100000001"
    ∷ codes "send 1 9 4344010401000100010000000101000100000001" ∷ [])
    )
unfolding everything another_resend_counts_from_the_next_time
another_resend_counts_from_the_next_time_prints = refl

-- a message that is free because its last member was closed in the rest is let go at once: the cast finds room
released_by_closing : List ℕ
released_by_closing =
    lines
    (codes "site 1"
    ∷ codes "domain 1 home 2 sites 1,2 groups 1,2,3 quotas 16 1 5 200"
    ∷ codes "open 1"
    ∷ codes "open 1"
    ∷ codes "join 1 1 1 1"
    ∷ codes "join 1 1 2 2"
    ∷ codes "join 1 2 3 3"
    ∷ codes "frame 4344010a01000200010000000102000100000001000200000001010000000100000000000000"
    ∷ codes "frame 4344010a01000200020000000102000100000001000200000001010000000100000000000000"
    ∷ codes "frame 4344010a01000200030000000101000100000002000000000100000000000000"
    ∷ codes "frame 43440101010002000100000001000200000001000000010102000100000001010002000000010000000100020000000101000200000001000000010000"
    ∷ codes "frame 4344010301000200010000000100020000000100000001"
    ∷ codes "frame 4344010a01000200020000000202000100000001000200000001010000000100000000000000"
    ∷ codes "cast 1 2 9 3 -" ∷ [])

released_by_closing_prints : printed_text released_by_closing ≡ Ok (
    lines
    (codes "push 1 1 opened 1.1"
    ∷ codes "push 1 1 reply 1 0"
    ∷ codes "push 1 1 reply 2 0"
    ∷ codes "push 1 1 view 1 1 holder 2.1 members 1.1 2.1"
    ∷ codes "push 1 1 view 2 1 holder 2.1 members 1.1 2.1"
    ∷ codes "push 1 1 closed 12"
    ∷ codes "push 1 2 opened 1.2"
    ∷ codes "push 1 2 reply 3 0"
    ∷ codes "push 1 2 view 3 1 holder 1.2 members 1.2"
    ∷ codes "push 1 2 reply 9 0"
    ∷ codes "push 1 2 deliver 3/1/1.2/1 causal -"
    ∷ codes "send 1 2 4344010401000100010000000101000100000001"
    ∷ codes "send 1 2 4344010401000100020000000101000100000001"
    ∷ codes "send 1 2 4344010401000100030000000101000100000002"
    ∷ codes "send 1 2 4344010b010001000100000001"
    ∷ codes "send 1 2 4344010b010001000200000001"
    ∷ codes "send 1 2 4344010b010001000300000001"
    ∷ codes "send 1 2 4344010201000100010000000100020000000100000001"
    ∷ codes "send 1 2 4344010b010001000200000002" ∷ [])
    )
unfolding everything released_by_closing
released_by_closing_prints = refl

-- a message that no member is left for, since a program that was put out of another group was too slow to be told so, is let go at once.
-- The process leaves the group that it is a member of, and not the one that put it out
released_by_ejecting : List ℕ
released_by_ejecting =
    lines
    (codes "site 1"
    ∷ codes "domain 1 home 2 sites 1,2 groups 1,2,3 quotas 16 1 5 200"
    ∷ codes "open 1"
    ∷ codes "open 1"
    ∷ codes "join 1 1 1 1"
    ∷ codes "join 1 1 2 2"
    ∷ codes "join 1 2 3 3"
    ∷ codes "frame 4344010501000200010000000100"
    ∷ codes "frame 4344010501000200020000000100"
    ∷ codes "frame 4344010501000200030000000100"
    ∷ codes "frame 4344010a01000200010000000102000100000001000200000001010000000100000000000000"
    ∷ codes "frame 4344010a01000200020000000102000100000001000200000001010000000100000000000000"
    ∷ codes "frame 4344010a01000200030000000101000100000002000000000100000000000000"
    ∷ codes "frame 43440101010002000100000001000200000001000000010102000100000001010002000000010000000100020000000101000200000001000000010000"
    ∷ codes "frame 4344010301000200010000000100020000000100000001"
    ∷ codes "frame 4344010a01000200020000000201000200000001000000000100000000000000"
    ∷ codes "cast 1 2 9 3 -" ∷ [])

released_by_ejecting_prints : printed_text released_by_ejecting ≡ Ok (
    lines
    (codes "push 1 1 opened 1.1"
    ∷ codes "push 1 1 reply 1 0"
    ∷ codes "push 1 1 reply 2 0"
    ∷ codes "push 1 1 view 1 1 holder 2.1 members 1.1 2.1"
    ∷ codes "push 1 1 view 2 1 holder 2.1 members 1.1 2.1"
    ∷ codes "push 1 1 closed 12"
    ∷ codes "push 1 2 opened 1.2"
    ∷ codes "push 1 2 reply 3 0"
    ∷ codes "push 1 2 view 3 1 holder 1.2 members 1.2"
    ∷ codes "push 1 2 reply 9 0"
    ∷ codes "push 1 2 deliver 3/1/1.2/1 causal -"
    ∷ codes "send 1 2 4344010401000100010000000101000100000001"
    ∷ codes "send 1 2 4344010401000100020000000101000100000001"
    ∷ codes "send 1 2 4344010401000100030000000101000100000002"
    ∷ codes "send 1 2 4344010b010001000100000001"
    ∷ codes "send 1 2 4344010b010001000200000001"
    ∷ codes "send 1 2 4344010b010001000300000001"
    ∷ codes "send 1 2 4344010201000100010000000100020000000100000001"
    ∷ codes "send 1 2 4344010401000100010000000202000100000001"
    ∷ codes "send 1 2 4344010b010001000200000002" ∷ [])
    )
unfolding everything released_by_ejecting
released_by_ejecting_prints = refl

-- a message that waits for a view that its process is about to enter is let go at once where the group is full and the program was too slow
-- to be told so: the cast that found no room finds some then
released_by_denying : List ℕ
released_by_denying =
    lines
    (codes "site 1"
    ∷ codes "domain 1 home 2 sites 1,2 groups 1,2,3 quotas 16 1 4 200"
    ∷ codes "open 1"
    ∷ codes "open 1"
    ∷ codes "join 1 1 1 1"
    ∷ codes "join 1 2 2 3"
    ∷ codes "frame 4344010501000200010000000100"
    ∷ codes "frame 4344010501000200030000000100"
    ∷ codes "frame 4344010a01000200010000000102000100000001000200000001010000000100000000000000"
    ∷ codes "frame 4344010a01000200030000000101000100000002000000000100000000000000"
    ∷ codes "join 1 1 3 2"
    ∷ codes "frame 434401010100020001000000010002000000010000000101020001000000010100020000000100000001000200000001000000"
    ∷ codes "frame 4344010301000200010000000100020000000100000001"
    ∷ codes "cast 1 2 4 3 -"
    ∷ codes "take 1 2 4"
    ∷ codes "frame 434401050100020002000000010e"
    ∷ codes "cast 1 2 5 3 -" ∷ [])

released_by_denying_prints : printed_text released_by_denying ≡ Ok (
    lines
    (codes "push 1 1 opened 1.1"
    ∷ codes "push 1 1 reply 1 0"
    ∷ codes "push 1 1 view 1 1 holder 2.1 members 1.1 2.1"
    ∷ codes "push 1 1 reply 3 0"
    ∷ codes "push 1 1 closed 12"
    ∷ codes "push 1 2 opened 1.2"
    ∷ codes "push 1 2 reply 2 0"
    ∷ codes "push 1 2 view 3 1 holder 1.2 members 1.2"
    ∷ codes "push 1 2 reply 4 9"
    ∷ codes "push 1 2 reply 5 0"
    ∷ codes "push 1 2 deliver 3/1/1.2/1 causal -"
    ∷ codes "send 1 2 4344010401000100010000000101000100000001"
    ∷ codes "send 1 2 4344010401000100030000000101000100000002"
    ∷ codes "send 1 2 4344010b010001000100000001"
    ∷ codes "send 1 2 4344010b010001000300000001"
    ∷ codes "send 1 2 4344010401000100020000000101000100000001"
    ∷ codes "send 1 2 4344010201000100010000000100020000000100000001"
    ∷ codes "send 1 2 4344010401000100010000000202000100000001" ∷ [])
    )
unfolding everything released_by_denying
released_by_denying_prints = refl

-- nothing is left to be done behind any event of these
outboxes_rest : list_all rests (
    no_room_for_the_view ∷ taken_in_time ∷ no_room_for_a_reply ∷ no_room_for_a_delivery ∷ bad_with_a_full_outbox ∷ takes_out_of_range
    ∷ one_session_at_a_time ∷ quotas_in_their_ranges ∷ lower_quotas_close_nobody ∷ another_resend_counts_from_the_next_time
    ∷ released_by_closing ∷ released_by_ejecting ∷ released_by_denying ∷ []) ≡ true
unfolding everything no_room_for_the_view taken_in_time no_room_for_a_reply no_room_for_a_delivery bad_with_a_full_outbox takes_out_of_range
    one_session_at_a_time quotas_in_their_ranges lower_quotas_close_nobody another_resend_counts_from_the_next_time released_by_closing
    released_by_ejecting released_by_denying
outboxes_rest = refl
