-- How processes ask to be let in, and whom a view takes in, by worked scripts.
use Rattle.std.specs.Prelude.{◌≡◌, ℕ, List, [], ◌∷◌, codes, Ok, true, refl}
use Rattle.std.specs.List.{list_all}
use Rattle.cast_examples.proofs.Everything.{everything}
use Rattle.cast_examples.specs.Printed.{lines, printed_text, rests}

-- two programs at one site: requests one after the other, Asked from the home alone and for the first request alone, who an Install takes
-- in
two_programs_join : List ℕ
two_programs_join =
    lines
    (codes "site 1"
    ∷ codes "domain 1 home 9 sites 1,2,3,9 groups 1,2 quotas 16 256 256 200"
    ∷ codes "open 1"
    ∷ codes "open 1"
    ∷ codes "open 1"
    ∷ codes "join 1 2 7 1"
    ∷ codes "join 1 1 8 1"
    ∷ codes "join 1 3 9 2"
    ∷ codes "tick 200"
    ∷ codes "frame 4344010501000900010000000200"
    ∷ codes "tick 400"
    ∷ codes "frame 4344010501000200010000000100"
    ∷ codes "tick 600"
    ∷ codes "frame 4344010501000900010000000100"
    ∷ codes "tick 800"
    ∷ codes "frame 4344010501000900010000000100"
    ∷ codes "frame 4344010501000900010000000200"
    ∷ codes "tick 600"
    ∷ codes "frame 4344010a01000900010000000204000100000001000100000002000100000003000200000001000000000100000000000000"
    ∷ codes "frame 4344010a01000900010000000201000100000001000000000200000000000000"
    ∷ codes "frame 4344010a01000900010000000101000100000001000000000200000000000000"
    ∷ codes "frame 4344010101000200010000000200020000000100000001010100010000000201000200000001000000010000"
    ∷ codes "cast 1 2 10 1 -"
    ∷ codes "cast 1 1 11 1 -"
    ∷ codes "abcast 1 2 12 1 -" ∷ [])

two_programs_join_prints : printed_text two_programs_join ≡ Ok (
    lines
    (codes "push 1 1 opened 1.1"
    ∷ codes "push 1 1 reply 8 0"
    ∷ codes "push 1 1 reply 11 5"
    ∷ codes "push 1 2 opened 1.2"
    ∷ codes "push 1 2 reply 7 0"
    ∷ codes "push 1 2 view 1 2 holder 1.1 members 1.1 1.2 1.3 2.1"
    ∷ codes "push 1 2 deliver 1/2/2.1/1 causal -"
    ∷ codes "push 1 2 reply 10 0"
    ∷ codes "push 1 2 deliver 1/2/1.2/1 causal -"
    ∷ codes "push 1 2 reply 12 0"
    ∷ codes "push 1 3 opened 1.3"
    ∷ codes "push 1 3 reply 9 0"
    ∷ codes "send 1 9 4344010401000100010000000101000100000002"
    ∷ codes "send 1 9 4344010401000100020000000101000100000003"
    ∷ codes "send 1 9 4344010401000100010000000101000100000002"
    ∷ codes "send 1 9 4344010401000100020000000101000100000003"
    ∷ codes "send 1 9 4344010401000100010000000101000100000002"
    ∷ codes "send 1 9 4344010401000100020000000101000100000003"
    ∷ codes "send 1 9 4344010401000100010000000101000100000002"
    ∷ codes "send 1 9 4344010401000100020000000101000100000003"
    ∷ codes "send 1 9 4344010401000100010000000201000100000001"
    ∷ codes "send 1 9 4344010401000100010000000201000100000001"
    ∷ codes "send 1 9 4344010401000100020000000101000100000003"
    ∷ codes "send 1 9 4344010b010001000100000002"
    ∷ codes "send 1 9 4344010b010001000100000002"
    ∷ codes "send 1 9 4344010b010001000100000001"
    ∷ codes "send 1 2 4344010201000100010000000200020000000100000001"
    ∷ codes "send 1 2 434401010100010001000000020001000000020000000101010001000000020200010000000200000001000200000001000000010000"
    ∷ codes "send 1 2 434401010100010001000000020001000000020000000202010001000000020200010000000200000002000200000001000000010000" ∷ [])
    )
unfolding everything two_programs_join
two_programs_join_prints = refl

-- two programs in one view: deliveries by serial, a message kept until both have it
two_programs_in_a_view : List ℕ
two_programs_in_a_view =
    lines
    (codes "site 1"
    ∷ codes "domain 1 home 9 sites 1,2,3,9 groups 1,2 quotas 16 2 256 200"
    ∷ codes "open 1"
    ∷ codes "open 1"
    ∷ codes "join 1 2 7 1"
    ∷ codes "join 1 1 8 1"
    ∷ codes "frame 4344010501000900010000000100"
    ∷ codes "frame 4344010501000900010000000200"
    ∷ codes "frame 4344010a01000200010000000203000100000001000100000002000200000001000000000200000000000000"
    ∷ codes "frame 4344010a01000900010000000203000100000001000100000002000200000001000000000200000000000000"
    ∷ codes "frame 4344010101000200010000000200020000000100000002010100010000000201000200000001000000020000"
    ∷ codes "frame 4344010301000200010000000200020000000100000002"
    ∷ codes "frame 4344010101000200010000000200020000000100000001010100010000000201000200000001000000010000"
    ∷ codes "cast 1 2 10 1 -"
    ∷ codes "cast 1 1 11 1 -"
    ∷ codes "abcast 1 2 12 1 -"
    ∷ codes "frame 4344010201000200010000000200010000000200000001"
    ∷ codes "frame 4344010201000200010000000200010000000100000001" ∷ [])

two_programs_in_a_view_prints : printed_text two_programs_in_a_view ≡ Ok (
    lines
    (codes "push 1 1 opened 1.1"
    ∷ codes "push 1 1 reply 8 0"
    ∷ codes "push 1 1 view 1 2 holder 1.1 members 1.1 1.2 2.1"
    ∷ codes "push 1 1 deliver 1/2/2.1/1 causal -"
    ∷ codes "push 1 1 deliver 1/2/2.1/2 causal -"
    ∷ codes "push 1 1 deliver 1/2/1.2/1 causal -"
    ∷ codes "push 1 1 reply 11 0"
    ∷ codes "push 1 1 deliver 1/2/1.1/1 causal -"
    ∷ codes "push 1 2 opened 1.2"
    ∷ codes "push 1 2 reply 7 0"
    ∷ codes "push 1 2 view 1 2 holder 1.1 members 1.1 1.2 2.1"
    ∷ codes "push 1 2 deliver 1/2/2.1/1 causal -"
    ∷ codes "push 1 2 deliver 1/2/2.1/2 causal -"
    ∷ codes "push 1 2 reply 10 0"
    ∷ codes "push 1 2 deliver 1/2/1.2/1 causal -"
    ∷ codes "push 1 2 deliver 1/2/1.1/1 causal -"
    ∷ codes "push 1 2 reply 12 9"
    ∷ codes "send 1 9 4344010401000100010000000101000100000002"
    ∷ codes "send 1 9 4344010401000100010000000201000100000001"
    ∷ codes "send 1 9 4344010b010001000100000002"
    ∷ codes "send 1 2 4344010201000100010000000200020000000100000002"
    ∷ codes "send 1 2 4344010201000100010000000200020000000100000001"
    ∷ codes "send 1 2 434401010100010001000000020001000000020000000101010001000000020200010000000200000001000200000001000000020000"
    ∷ codes "send 1 2 43440101010001000100000002000100000001000000010101000100000002030001000000010000000100010000000200000001000200000001000000020000"
    ∷ codes "send 1 2 4344010301000100010000000200010000000200000001"
    ∷ codes "send 1 2 4344010301000100010000000200010000000100000001" ∷ [])
    )
unfolding everything two_programs_in_a_view
two_programs_in_a_view_prints = refl

-- a joining process delivers nothing past the view that it had heard of when it asked
joining_stops_at_its_view : List ℕ
joining_stops_at_its_view =
    lines
    (codes "site 3"
    ∷ codes "domain 1 home 9 sites 1,3,9 groups 1,2 quotas 16 256 256 200"
    ∷ codes "open 1"
    ∷ codes "open 1"
    ∷ codes "join 1 1 8 2"
    ∷ codes "frame 4344010501000900020000000100"
    ∷ codes "frame 4344010a01000900020000000202000100000001000300000001000000000100000000000000"
    ∷ codes "join 1 2 9 1"
    ∷ codes "frame 4344010501000900010000000100"
    ∷ codes "frame 4344010a01000900010000000402000100000001000300000002000000000100000000000000"
    ∷ codes "join 1 1 10 1"
    ∷ codes "frame 434401010100010002000000020001000000010000000101020001000000030000020000000201000100000001000000010000" ∷ [])

joining_stops_at_its_view_prints : printed_text joining_stops_at_its_view ≡ Ok (
    lines
    (codes "push 1 1 opened 3.1"
    ∷ codes "push 1 1 reply 8 0"
    ∷ codes "push 1 1 view 2 2 holder 1.1 members 1.1 3.1"
    ∷ codes "push 1 1 reply 10 0"
    ∷ codes "push 1 2 opened 3.2"
    ∷ codes "push 1 2 reply 9 0"
    ∷ codes "push 1 2 view 1 4 holder 1.1 members 1.1 3.2"
    ∷ codes "send 1 9 4344010401000300020000000101000300000001"
    ∷ codes "send 1 9 4344010b010003000200000002"
    ∷ codes "send 1 9 4344010401000300010000000101000300000002"
    ∷ codes "send 1 9 4344010b010003000100000004"
    ∷ codes "send 1 9 4344010401000300010000000201000300000001"
    ∷ codes "send 1 1 4344010201000300020000000200010000000100000001" ∷ [])
    )
unfolding everything joining_stops_at_its_view
joining_stops_at_its_view_prints = refl

-- nothing is left to be done behind any event of these
requests_rest : list_all rests (
    two_programs_join ∷ two_programs_in_a_view ∷ joining_stops_at_its_view ∷ []) ≡ true
unfolding everything two_programs_join two_programs_in_a_view joining_stops_at_its_view
requests_rest = refl
