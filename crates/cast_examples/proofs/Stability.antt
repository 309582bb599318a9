-- What is told of stability, and what is sent again, by worked scripts.
use Rattle.std.specs.Prelude.{◌≡◌, ℕ, List, [], ◌∷◌, codes, Ok, true, refl}
use Rattle.std.specs.List.{list_all}
use Rattle.cast_examples.proofs.Everything.{everything}
use Rattle.cast_examples.specs.Printed.{lines, printed_text, rests}

-- a Stable of count n pays the Acks of all counts to n, and counts from the process's own site alone
stable_pays_lower : List ℕ
stable_pays_lower =
    lines
    (codes "site 1"
    ∷ codes "domain 1 home 9 sites 1,2,3,9 groups 1,2 quotas 16 256 256 200"
    ∷ codes "open 1"
    ∷ codes "join 1 1 7 1"
    ∷ codes "frame 4344010501000900010000000100"
    ∷ codes "frame 4344010a01000900010000000202000100000001000200000001000000000100000000000000"
    ∷ codes "frame 4344010101000200010000000200020000000100000001010100010000000201000200000001000000010000"
    ∷ codes "frame 4344010101000200010000000200020000000100000002010100010000000201000200000001000000020000"
    ∷ codes "frame 4344010101000200010000000200020000000100000003010100010000000201000200000001000000030000"
    ∷ codes "frame 4344010301000900010000000200020000000100000003"
    ∷ codes "frame 4344010301000300010000000200020000000100000003"
    ∷ codes "tick 200"
    ∷ codes "frame 4344010301000200010000000100020000000100000003"
    ∷ codes "frame 4344010301000200010000000200020000000100000002"
    ∷ codes "tick 400"
    ∷ codes "frame 4344010301000200010000000200020000000100000003"
    ∷ codes "tick 600" ∷ [])

stable_pays_lower_prints : printed_text stable_pays_lower ≡ Ok (
    lines
    (codes "push 1 1 opened 1.1"
    ∷ codes "push 1 1 reply 7 0"
    ∷ codes "push 1 1 view 1 2 holder 1.1 members 1.1 2.1"
    ∷ codes "push 1 1 deliver 1/2/2.1/1 causal -"
    ∷ codes "push 1 1 deliver 1/2/2.1/2 causal -"
    ∷ codes "push 1 1 deliver 1/2/2.1/3 causal -"
    ∷ codes "send 1 9 4344010401000100010000000101000100000001"
    ∷ codes "send 1 9 4344010b010001000100000002"
    ∷ codes "send 1 2 4344010201000100010000000200020000000100000001"
    ∷ codes "send 1 2 4344010201000100010000000200020000000100000002"
    ∷ codes "send 1 2 4344010201000100010000000200020000000100000003"
    ∷ codes "send 1 2 4344010201000100010000000200020000000100000001"
    ∷ codes "send 1 2 4344010201000100010000000200020000000100000002"
    ∷ codes "send 1 2 4344010201000100010000000200020000000100000003"
    ∷ codes "send 1 2 4344010201000100010000000200020000000100000003" ∷ [])
    )
unfolding everything stable_pays_lower
stable_pays_lower_prints = refl

-- a message that was known stable before it came is acknowledged once and not owed
stable_before_data : List ℕ
stable_before_data =
    lines
    (codes "site 1"
    ∷ codes "domain 1 home 9 sites 1,2,3,9 groups 1,2 quotas 16 256 256 200"
    ∷ codes "open 1"
    ∷ codes "join 1 1 7 1"
    ∷ codes "frame 4344010501000900010000000100"
    ∷ codes "frame 4344010a01000900010000000202000100000001000200000001000000000100000000000000"
    ∷ codes "frame 4344010301000200010000000200020000000100000002"
    ∷ codes "frame 4344010101000200010000000200020000000100000001010100010000000201000200000001000000010000"
    ∷ codes "frame 4344010101000200010000000200020000000100000002010100010000000201000200000001000000020000"
    ∷ codes "frame 4344010101000200010000000200020000000100000003010100010000000201000200000001000000030000"
    ∷ codes "tick 200" ∷ [])

stable_before_data_prints : printed_text stable_before_data ≡ Ok (
    lines
    (codes "push 1 1 opened 1.1"
    ∷ codes "push 1 1 reply 7 0"
    ∷ codes "push 1 1 view 1 2 holder 1.1 members 1.1 2.1"
    ∷ codes "push 1 1 deliver 1/2/2.1/1 causal -"
    ∷ codes "push 1 1 deliver 1/2/2.1/2 causal -"
    ∷ codes "push 1 1 deliver 1/2/2.1/3 causal -"
    ∷ codes "send 1 9 4344010401000100010000000101000100000001"
    ∷ codes "send 1 9 4344010b010001000100000002"
    ∷ codes "send 1 2 4344010201000100010000000200020000000100000001"
    ∷ codes "send 1 2 4344010201000100010000000200020000000100000002"
    ∷ codes "send 1 2 4344010201000100010000000200020000000100000003"
    ∷ codes "send 1 2 4344010201000100010000000200020000000100000003" ∷ [])
    )
unfolding everything stable_before_data
stable_before_data_prints = refl

-- a repeated Ack is answered by the last Stable of its process, not by its own count
last_stable : List ℕ
last_stable =
    lines
    (codes "site 1"
    ∷ codes "domain 1 home 9 sites 1,2,3,9 groups 1,2 quotas 16 256 256 200"
    ∷ codes "open 1"
    ∷ codes "join 1 1 7 1"
    ∷ codes "frame 4344010501000900010000000100"
    ∷ codes "frame 4344010a01000900010000000303000100000001000200000001000300000001000000000100000000000000"
    ∷ codes "cast 1 1 8 1 -"
    ∷ codes "cast 1 1 9 1 -"
    ∷ codes "frame 4344010201000200010000000300010000000100000002"
    ∷ codes "frame 4344010201000300010000000300010000000100000002"
    ∷ codes "frame 4344010201000200010000000300010000000100000001"
    ∷ codes "tick 200"
    ∷ codes "frame 4344010201000300010000000300010000000100000001"
    ∷ codes "frame 4344010201000200010000000300010000000100000001"
    ∷ codes "frame 4344010201000300010000000300010000000100000002"
    ∷ codes "tick 400" ∷ [])

last_stable_prints : printed_text last_stable ≡ Ok (
    lines
    (codes "push 1 1 opened 1.1"
    ∷ codes "push 1 1 reply 7 0"
    ∷ codes "push 1 1 view 1 3 holder 1.1 members 1.1 2.1 3.1"
    ∷ codes "push 1 1 reply 8 0"
    ∷ codes "push 1 1 deliver 1/3/1.1/1 causal -"
    ∷ codes "push 1 1 reply 9 0"
    ∷ codes "push 1 1 deliver 1/3/1.1/2 causal -"
    ∷ codes "send 1 9 4344010401000100010000000101000100000001"
    ∷ codes "send 1 9 4344010b010001000100000003"
    ∷ codes "send 1 2 4344010101000100010000000300010000000100000001010100010000000301000100000001000000010000"
    ∷ codes "send 1 3 4344010101000100010000000300010000000100000001010100010000000301000100000001000000010000"
    ∷ codes "send 1 2 4344010101000100010000000300010000000100000002010100010000000301000100000001000000020000"
    ∷ codes "send 1 3 4344010101000100010000000300010000000100000002010100010000000301000100000001000000020000"
    ∷ codes "send 1 3 4344010101000100010000000300010000000100000001010100010000000301000100000001000000010000"
    ∷ codes "send 1 2 4344010301000100010000000300010000000100000002"
    ∷ codes "send 1 3 4344010301000100010000000300010000000100000002"
    ∷ codes "send 1 2 4344010301000100010000000300010000000100000002"
    ∷ codes "send 1 3 4344010301000100010000000300010000000100000002" ∷ [])
    )
unfolding everything last_stable
last_stable_prints = refl

-- Data that was acknowledged before it was sent is sent once and not owed
acknowledged_before_it_is_sent : List ℕ
acknowledged_before_it_is_sent =
    lines
    (codes "site 1"
    ∷ codes "domain 1 home 9 sites 1,2,3,9 groups 1,2 quotas 16 256 256 200"
    ∷ codes "open 1"
    ∷ codes "join 1 1 7 1"
    ∷ codes "frame 4344010501000900010000000100"
    ∷ codes "frame 4344010a01000900010000000303000100000001000200000001000300000001000000000100000000000000"
    ∷ codes "frame 4344010201000200010000000300010000000100000001"
    ∷ codes "cast 1 1 8 1 -"
    ∷ codes "cast 1 1 9 1 -"
    ∷ codes "tick 200" ∷ [])

acknowledged_before_it_is_sent_prints : printed_text acknowledged_before_it_is_sent ≡ Ok (
    lines
    (codes "push 1 1 opened 1.1"
    ∷ codes "push 1 1 reply 7 0"
    ∷ codes "push 1 1 view 1 3 holder 1.1 members 1.1 2.1 3.1"
    ∷ codes "push 1 1 reply 8 0"
    ∷ codes "push 1 1 deliver 1/3/1.1/1 causal -"
    ∷ codes "push 1 1 reply 9 0"
    ∷ codes "push 1 1 deliver 1/3/1.1/2 causal -"
    ∷ codes "send 1 9 4344010401000100010000000101000100000001"
    ∷ codes "send 1 9 4344010b010001000100000003"
    ∷ codes "send 1 2 4344010101000100010000000300010000000100000001010100010000000301000100000001000000010000"
    ∷ codes "send 1 3 4344010101000100010000000300010000000100000001010100010000000301000100000001000000010000"
    ∷ codes "send 1 2 4344010101000100010000000300010000000100000002010100010000000301000100000001000000020000"
    ∷ codes "send 1 3 4344010101000100010000000300010000000100000002010100010000000301000100000001000000020000"
    ∷ codes "send 1 3 4344010101000100010000000300010000000100000001010100010000000301000100000001000000010000"
    ∷ codes "send 1 2 4344010101000100010000000300010000000100000002010100010000000301000100000001000000020000"
    ∷ codes "send 1 3 4344010101000100010000000300010000000100000002010100010000000301000100000001000000020000" ∷ [])
    )
unfolding everything acknowledged_before_it_is_sent
acknowledged_before_it_is_sent_prints = refl

-- what is free is let go at once, in a view of one site
released_at_once : List ℕ
released_at_once =
    lines
    (codes "site 1"
    ∷ codes "domain 1 home 9 sites 1,2,3,9 groups 1,2 quotas 16 1 256 200"
    ∷ codes "open 1"
    ∷ codes "join 1 1 7 1"
    ∷ codes "frame 4344010501000900010000000100"
    ∷ codes "frame 4344010a01000900010000000101000100000001000000000100000000000000"
    ∷ codes "cast 1 1 8 1 -"
    ∷ codes "cast 1 1 9 1 -"
    ∷ codes "abcast 1 1 10 1 -"
    ∷ codes "cast 1 1 11 1 -"
    ∷ codes "abcast 1 1 12 1 -" ∷ [])

released_at_once_prints : printed_text released_at_once ≡ Ok (
    lines
    (codes "push 1 1 opened 1.1"
    ∷ codes "push 1 1 reply 7 0"
    ∷ codes "push 1 1 view 1 1 holder 1.1 members 1.1"
    ∷ codes "push 1 1 reply 8 0"
    ∷ codes "push 1 1 deliver 1/1/1.1/1 causal -"
    ∷ codes "push 1 1 reply 9 0"
    ∷ codes "push 1 1 deliver 1/1/1.1/2 causal -"
    ∷ codes "push 1 1 reply 10 0"
    ∷ codes "push 1 1 deliver 1/1/1.1/3 atomic -"
    ∷ codes "push 1 1 reply 11 0"
    ∷ codes "push 1 1 deliver 1/1/1.1/5 causal -"
    ∷ codes "push 1 1 reply 12 0"
    ∷ codes "push 1 1 deliver 1/1/1.1/6 atomic -"
    ∷ codes "send 1 9 4344010401000100010000000101000100000001"
    ∷ codes "send 1 9 4344010b010001000100000001" ∷ [])
    )
unfolding everything released_at_once
released_at_once_prints = refl

-- two members at one site: one Data and one Ack a site
two_members_at_a_site : List ℕ
two_members_at_a_site =
    lines
    (codes "site 1"
    ∷ codes "domain 1 home 9 sites 1,2,3,9 groups 1,2 quotas 16 256 256 200"
    ∷ codes "open 1"
    ∷ codes "join 1 1 7 1"
    ∷ codes "frame 4344010501000900010000000100"
    ∷ codes "frame 4344010a01000900010000000404000100000001000200000001000200000002000300000001000000000100000000000000"
    ∷ codes "cast 1 1 8 1 -"
    ∷ codes "tick 200"
    ∷ codes "frame 4344010201000300010000000400010000000100000001"
    ∷ codes "frame 4344010201000200010000000400010000000100000001"
    ∷ codes "tick 400" ∷ [])

two_members_at_a_site_prints : printed_text two_members_at_a_site ≡ Ok (
    lines
    (codes "push 1 1 opened 1.1"
    ∷ codes "push 1 1 reply 7 0"
    ∷ codes "push 1 1 view 1 4 holder 1.1 members 1.1 2.1 2.2 3.1"
    ∷ codes "push 1 1 reply 8 0"
    ∷ codes "push 1 1 deliver 1/4/1.1/1 causal -"
    ∷ codes "send 1 9 4344010401000100010000000101000100000001"
    ∷ codes "send 1 9 4344010b010001000100000004"
    ∷ codes "send 1 2 4344010101000100010000000400010000000100000001010100010000000401000100000001000000010000"
    ∷ codes "send 1 3 4344010101000100010000000400010000000100000001010100010000000401000100000001000000010000"
    ∷ codes "send 1 2 4344010101000100010000000400010000000100000001010100010000000401000100000001000000010000"
    ∷ codes "send 1 3 4344010101000100010000000400010000000100000001010100010000000401000100000001000000010000"
    ∷ codes "send 1 2 4344010301000100010000000400010000000100000001"
    ∷ codes "send 1 3 4344010301000100010000000400010000000100000001" ∷ [])
    )
unfolding everything two_members_at_a_site
two_members_at_a_site_prints = refl

-- nothing is left to be done behind any event of these
stability_rest : list_all rests (
    stable_pays_lower ∷ stable_before_data ∷ last_stable ∷ acknowledged_before_it_is_sent ∷ released_at_once ∷ two_members_at_a_site ∷ [])
    ≡ true
unfolding everything stable_pays_lower stable_before_data last_stable acknowledged_before_it_is_sent released_at_once two_members_at_a_site
stability_rest = refl
