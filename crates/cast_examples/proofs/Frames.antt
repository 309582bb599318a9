-- Which frames are used, by worked scripts.
use Rattle.std.specs.Prelude.{◌≡◌, ℕ, List, [], ◌∷◌, codes, Ok, true, refl}
use Rattle.std.specs.List.{list_all}
use Rattle.cast_examples.proofs.Everything.{everything}
use Rattle.cast_examples.specs.Printed.{lines, printed_text, rests}

-- Data and Acks that no rule uses: from other sites than their process's, for other views, with groups that are not configured, with a time
-- that does not count them
frames_not_used : List ℕ
frames_not_used =
    lines
    (codes "site 1"
    ∷ codes "domain 1 home 9 sites 1,2,3,9 groups 1,2 quotas 16 256 256 200"
    ∷ codes "open 1"
    ∷ codes "join 1 1 7 1"
    ∷ codes "frame 4344010501000900010000000100"
    ∷ codes "frame 4344010a01000900010000000202000100000001000200000001000000000100000000000000"
    ∷ codes "frame 4344010101000300010000000200020000000100000001010100010000000201000200000001000000010000"
    ∷ codes "frame 4344010101000900010000000200020000000100000001010100010000000201000200000001000000010000"
    ∷ codes "frame 4344010101000100010000000200010000000100000001010100010000000201000100000001000000010000"
    ∷ codes "frame 434401010100020001000000020002000000010000000101020001000000020100020000000100000001000700000001000000"
    ∷ codes "frame 4344010101000200010000000200020000000100000004010100010000000201000200000001000000050000"
    ∷ codes "frame 4344010101000200010000000100020000000100000001010100010000000101000200000001000000010000"
    ∷ codes "frame 4344010101000200010000000300020000000100000001010100010000000301000200000001000000010000"
    ∷ codes "frame 4344010101000200010000000200020000000200000001010100010000000201000200000002000000010000"
    ∷ codes "frame 4344010201000300010000000200010000000100000001"
    ∷ codes "frame 4344010101000800010000000200020000000100000001010100010000000201000200000001000000010000"
    ∷ codes "frame 4344010201000200070000000100010000000100000001"
    ∷ codes "cast 1 1 8 1 -"
    ∷ codes "frame 4344010201000300010000000200010000000100000001"
    ∷ codes "frame 4344010201000900010000000200010000000100000001"
    ∷ codes "frame 4344010201000100010000000200010000000100000001"
    ∷ codes "frame 4344010201000800010000000200010000000100000001"
    ∷ codes "tick 200"
    ∷ codes "frame 4344010201000200010000000200010000000100000001"
    ∷ codes "frame 4344010201000900010000000200010000000100000001"
    ∷ codes "frame 4344010201000300010000000200010000000100000001"
    ∷ codes "frame 4344010201000200010000000200010000000100000001" ∷ [])

frames_not_used_prints : printed_text frames_not_used ≡ Ok (
    lines
    (codes "push 1 1 opened 1.1"
    ∷ codes "push 1 1 reply 7 0"
    ∷ codes "push 1 1 view 1 2 holder 1.1 members 1.1 2.1"
    ∷ codes "push 1 1 reply 8 0"
    ∷ codes "push 1 1 deliver 1/2/1.1/1 causal -"
    ∷ codes "send 1 9 4344010401000100010000000101000100000001"
    ∷ codes "send 1 9 4344010b010001000100000002"
    ∷ codes "send 1 2 4344010101000100010000000200010000000100000001010100010000000201000100000001000000010000"
    ∷ codes "send 1 2 4344010101000100010000000200010000000100000001010100010000000201000100000001000000010000"
    ∷ codes "send 1 2 4344010301000100010000000200010000000100000001"
    ∷ codes "send 1 2 4344010301000100010000000200010000000100000001" ∷ [])
    )
unfolding everything frames_not_used
frames_not_used_prints = refl

-- a frame of site 65535 is a frame
frame_of_the_last_site : List ℕ
frame_of_the_last_site =
    lines
    (codes "site 1"
    ∷ codes "domain 1 home 65535 sites 1,65535 groups 1 quotas 16 256 256 200"
    ∷ codes "open 1"
    ∷ codes "join 1 1 7 1"
    ∷ codes "frame 4344010501ffff00010000000100"
    ∷ codes "tick 200" ∷ [])

frame_of_the_last_site_prints : printed_text frame_of_the_last_site ≡ Ok (
    lines
    (codes "push 1 1 opened 1.1"
    ∷ codes "push 1 1 reply 7 0"
    ∷ codes "send 1 65535 4344010401000100010000000101000100000001" ∷ [])
    )
unfolding everything frame_of_the_last_site
frame_of_the_last_site_prints = refl

-- nothing is left to be done behind any event of these
frames_rest : list_all rests (
    frames_not_used ∷ frame_of_the_last_site ∷ []) ≡ true
unfolding everything frames_not_used frame_of_the_last_site
frames_rest = refl
