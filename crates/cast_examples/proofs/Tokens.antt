-- The token is handed over, by worked scripts.
use Rattle.std.specs.Prelude.{◌≡◌, ℕ, List, [], ◌∷◌, codes, Ok, true, refl}
use Rattle.std.specs.List.{list_all}
use Rattle.cast_examples.proofs.Everything.{everything}
use Rattle.cast_examples.specs.Printed.{lines, printed_text, rests}

-- who handed the token over holds it no more: it orders nothing, and waits for its own ABCAST like any other member
token_is_handed_over : List ℕ
token_is_handed_over =
    lines
    (codes "site 1"
    ∷ codes "domain 1 home 9 sites 1,2,9 groups 1 quotas 16 256 256 200"
    ∷ codes "open 1"
    ∷ codes "join 1 1 7 1"
    ∷ codes "frame 4344010501000900010000000100"
    ∷ codes "frame 4344010a01000900010000000202000100000001000200000001000000000100000000000000"
    ∷ codes "pass 1 1 9 1 2.1"
    ∷ codes "pass 1 1 10 1 2.1"
    ∷ codes "abcast 1 1 11 1 -"
    ∷ codes "pass 1 1 12 1 2.1"
    ∷ codes "frame 43440101010002000100000002000200000001000000010301000100000002020001000000010000000200020000000100000001000000010100010000000100000002"
    ∷ codes "pass 1 1 13 1 2.1" ∷ [])

token_is_handed_over_prints : printed_text token_is_handed_over ≡ Ok (
    lines
    (codes "push 1 1 opened 1.1"
    ∷ codes "push 1 1 reply 7 0"
    ∷ codes "push 1 1 view 1 2 holder 1.1 members 1.1 2.1"
    ∷ codes "push 1 1 reply 9 0"
    ∷ codes "push 1 1 reply 10 11"
    ∷ codes "push 1 1 reply 11 0"
    ∷ codes "push 1 1 reply 12 8"
    ∷ codes "push 1 1 deliver 1/2/1.1/2 atomic -"
    ∷ codes "push 1 1 reply 13 11"
    ∷ codes "send 1 9 4344010401000100010000000101000100000001"
    ∷ codes "send 1 9 4344010b010001000100000002"
    ∷ codes "send 1 2 4344020101000100010000000200010000000100000001030100010000000201000100000001000000010000000100000200000001"
    ∷ codes "send 1 2 4344010101000100010000000200010000000100000002020100010000000201000100000001000000020000"
    ∷ codes "send 1 2 4344010201000100010000000200020000000100000001" ∷ [])
    )
unfolding everything token_is_handed_over
token_is_handed_over_prints = refl

-- a hand-over is acknowledged and nobody is told of it. Who delivers one that names it holds the token and orders its own ABCASTs at once
token_comes : List ℕ
token_comes =
    lines
    (codes "site 2"
    ∷ codes "domain 1 home 9 sites 1,2,9 groups 1 quotas 16 256 256 200"
    ∷ codes "open 1"
    ∷ codes "join 1 1 7 1"
    ∷ codes "frame 4344010501000900010000000100"
    ∷ codes "frame 4344010a01000900010000000202000100000001000200000001000000000100000000000000"
    ∷ codes "pass 1 1 8 1 1.1"
    ∷ codes "frame 4344020101000100010000000200010000000100000001030100010000000201000100000001000000010000000100000200000001"
    ∷ codes "abcast 1 1 9 1 -" ∷ [])

token_comes_prints : printed_text token_comes ≡ Ok (
    lines
    (codes "push 1 1 opened 2.1"
    ∷ codes "push 1 1 reply 7 0"
    ∷ codes "push 1 1 view 1 2 holder 1.1 members 1.1 2.1"
    ∷ codes "push 1 1 reply 8 11"
    ∷ codes "push 1 1 reply 9 0"
    ∷ codes "push 1 1 deliver 1/2/2.1/1 atomic -"
    ∷ codes "send 1 9 4344010401000200010000000101000200000001"
    ∷ codes "send 1 9 4344010b010002000100000002"
    ∷ codes "send 1 1 4344010201000200010000000200010000000100000001"
    ∷ codes "send 1 1 434401010100020001000000020002000000010000000102010001000000020200010000000100000001000200000001000000010000"
    ∷ codes "send 1 1 43440101010002000100000002000200000001000000020301000100000002020001000000010000000100020000000100000002000000010100020000000100000001" ∷ [])
    )
unfolding everything token_comes
token_comes_prints = refl

-- a hand-over that waits for what happened before it gives nobody the token. Once it is delivered, the token can be handed back
token_is_taken_at_delivery : List ℕ
token_is_taken_at_delivery =
    lines
    (codes "site 2"
    ∷ codes "domain 1 home 9 sites 1,2,9 groups 1 quotas 16 256 256 200"
    ∷ codes "open 1"
    ∷ codes "join 1 1 7 1"
    ∷ codes "frame 4344010501000900010000000100"
    ∷ codes "frame 4344010a01000900010000000202000100000001000200000001000000000100000000000000"
    ∷ codes "frame 4344020101000100010000000200010000000100000002030100010000000201000100000001000000020000000100000200000001"
    ∷ codes "pass 1 1 8 1 1.1"
    ∷ codes "frame 4344010101000100010000000200010000000100000001010100010000000201000100000001000000010000"
    ∷ codes "pass 1 1 9 1 1.1" ∷ [])

token_is_taken_at_delivery_prints : printed_text token_is_taken_at_delivery ≡ Ok (
    lines
    (codes "push 1 1 opened 2.1"
    ∷ codes "push 1 1 reply 7 0"
    ∷ codes "push 1 1 view 1 2 holder 1.1 members 1.1 2.1"
    ∷ codes "push 1 1 reply 8 11"
    ∷ codes "push 1 1 deliver 1/2/1.1/1 causal -"
    ∷ codes "push 1 1 reply 9 0"
    ∷ codes "send 1 9 4344010401000200010000000101000200000001"
    ∷ codes "send 1 9 4344010b010002000100000002"
    ∷ codes "send 1 1 4344010201000200010000000200010000000100000002"
    ∷ codes "send 1 1 4344010201000200010000000200010000000100000001"
    ∷ codes "send 1 1 434402010100020001000000020002000000010000000103010001000000020200010000000100000002000200000001000000010000000100000100000001" ∷ [])
    )
unfolding everything token_is_taken_at_delivery
token_is_taken_at_delivery_prints = refl

-- the token stays while an ABCAST that its holder ordered stands outside its stable set-order messages
token_stays_until_all_is_stable : List ℕ
token_stays_until_all_is_stable =
    lines
    (codes "site 1"
    ∷ codes "domain 1 home 9 sites 1,2,3,9 groups 1 quotas 16 256 256 200"
    ∷ codes "open 1"
    ∷ codes "join 1 1 7 1"
    ∷ codes "frame 4344010501000900010000000100"
    ∷ codes "frame 4344010a01000900010000000303000100000001000200000001000300000001000000000100000000000000"
    ∷ codes "abcast 1 1 8 1 -"
    ∷ codes "pass 1 1 9 1 2.1"
    ∷ codes "frame 4344010201000200010000000300010000000100000001"
    ∷ codes "frame 4344010201000300010000000300010000000100000001"
    ∷ codes "pass 1 1 10 1 2.1"
    ∷ codes "frame 4344010201000200010000000300010000000100000002"
    ∷ codes "pass 1 1 11 1 2.1"
    ∷ codes "frame 4344010201000300010000000300010000000100000002"
    ∷ codes "pass 1 1 12 1 2.1" ∷ [])

token_stays_until_all_is_stable_prints : printed_text token_stays_until_all_is_stable ≡ Ok (
    lines
    (codes "push 1 1 opened 1.1"
    ∷ codes "push 1 1 reply 7 0"
    ∷ codes "push 1 1 view 1 3 holder 1.1 members 1.1 2.1 3.1"
    ∷ codes "push 1 1 reply 8 0"
    ∷ codes "push 1 1 deliver 1/3/1.1/1 atomic -"
    ∷ codes "push 1 1 reply 9 9"
    ∷ codes "push 1 1 reply 10 9"
    ∷ codes "push 1 1 reply 11 9"
    ∷ codes "push 1 1 reply 12 0"
    ∷ codes "send 1 9 4344010401000100010000000101000100000001"
    ∷ codes "send 1 9 4344010b010001000100000003"
    ∷ codes "send 1 2 4344010101000100010000000300010000000100000001020100010000000301000100000001000000010000"
    ∷ codes "send 1 3 4344010101000100010000000300010000000100000001020100010000000301000100000001000000010000"
    ∷ codes "send 1 2 434401010100010001000000030001000000010000000203010001000000030100010000000100000002000000010100010000000100000001"
    ∷ codes "send 1 3 434401010100010001000000030001000000010000000203010001000000030100010000000100000002000000010100010000000100000001"
    ∷ codes "send 1 2 4344010301000100010000000300010000000100000001"
    ∷ codes "send 1 3 4344010301000100010000000300010000000100000001"
    ∷ codes "send 1 2 4344010301000100010000000300010000000100000002"
    ∷ codes "send 1 3 4344010301000100010000000300010000000100000002"
    ∷ codes "send 1 2 4344020101000100010000000300010000000100000003030100010000000301000100000001000000030000000200000200000001"
    ∷ codes "send 1 3 4344020101000100010000000300010000000100000003030100010000000301000100000001000000030000000200000200000001" ∷ [])
    )
unfolding everything token_stays_until_all_is_stable
token_stays_until_all_is_stable_prints = refl

-- a pass to who is no member is refused. One to the holder itself passes all tests and sends nothing
token_stays_with_its_holder : List ℕ
token_stays_with_its_holder =
    lines
    (codes "site 1"
    ∷ codes "domain 1 home 9 sites 1,2,9 groups 1 quotas 16 256 256 200"
    ∷ codes "open 1"
    ∷ codes "join 1 1 7 1"
    ∷ codes "frame 4344010501000900010000000100"
    ∷ codes "frame 4344010a01000900010000000202000100000001000200000001000000000100000000000000"
    ∷ codes "pass 1 1 8 1 2.2"
    ∷ codes "pass 1 1 9 1 1.1"
    ∷ codes "abcast 1 1 10 1 -"
    ∷ codes "pass 1 1 11 1 1.1" ∷ [])

token_stays_with_its_holder_prints : printed_text token_stays_with_its_holder ≡ Ok (
    lines
    (codes "push 1 1 opened 1.1"
    ∷ codes "push 1 1 reply 7 0"
    ∷ codes "push 1 1 view 1 2 holder 1.1 members 1.1 2.1"
    ∷ codes "push 1 1 reply 8 5"
    ∷ codes "push 1 1 reply 9 0"
    ∷ codes "push 1 1 reply 10 0"
    ∷ codes "push 1 1 deliver 1/2/1.1/1 atomic -"
    ∷ codes "push 1 1 reply 11 9"
    ∷ codes "send 1 9 4344010401000100010000000101000100000001"
    ∷ codes "send 1 9 4344010b010001000100000002"
    ∷ codes "send 1 2 4344010101000100010000000200010000000100000001020100010000000201000100000001000000010000"
    ∷ codes "send 1 2 434401010100010001000000020001000000010000000203010001000000020100010000000100000002000000010100010000000100000001" ∷ [])
    )
unfolding everything token_stays_with_its_holder
token_stays_with_its_holder_prints = refl

-- who takes the token over lists what it delivered and what has no place yet: not the ABCAST that the holder before it listed
known_places_are_not_set_again : List ℕ
known_places_are_not_set_again =
    lines
    (codes "site 2"
    ∷ codes "domain 1 home 9 sites 1,2,9 groups 1 quotas 16 256 256 200"
    ∷ codes "open 1"
    ∷ codes "join 1 1 7 1"
    ∷ codes "frame 4344010501000900010000000100"
    ∷ codes "frame 4344010a01000900010000000202000100000001000200000001000000000100000000000000"
    ∷ codes "frame 4344010101000100010000000200010000000100000001020100010000000201000100000001000000010000"
    ∷ codes "frame 434401010100010001000000020001000000010000000203010001000000020100010000000100000002000000010100010000000100000001"
    ∷ codes "frame 4344020101000100010000000200010000000100000003030100010000000201000100000001000000030000000200000200000001"
    ∷ codes "abcast 1 1 8 1 -" ∷ [])

known_places_are_not_set_again_prints : printed_text known_places_are_not_set_again ≡ Ok (
    lines
    (codes "push 1 1 opened 2.1"
    ∷ codes "push 1 1 reply 7 0"
    ∷ codes "push 1 1 view 1 2 holder 1.1 members 1.1 2.1"
    ∷ codes "push 1 1 deliver 1/2/1.1/1 atomic -"
    ∷ codes "push 1 1 reply 8 0"
    ∷ codes "push 1 1 deliver 1/2/2.1/1 atomic -"
    ∷ codes "send 1 9 4344010401000200010000000101000200000001"
    ∷ codes "send 1 9 4344010b010002000100000002"
    ∷ codes "send 1 1 4344010201000200010000000200010000000100000001"
    ∷ codes "send 1 1 4344010201000200010000000200010000000100000002"
    ∷ codes "send 1 1 4344010201000200010000000200010000000100000003"
    ∷ codes "send 1 1 434401010100020001000000020002000000010000000102010001000000020200010000000100000003000200000001000000010000"
    ∷ codes "send 1 1 43440101010002000100000002000200000001000000020301000100000002020001000000010000000300020000000100000002000000020100020000000100000001" ∷ [])
    )
unfolding everything known_places_are_not_set_again
known_places_are_not_set_again_prints = refl

-- the tests of pass in their order: 4; 5 for who asks, then for who is named; 7; 8; 11; 9. A refusal changes nothing but its reply
pass_is_refused_in_order : List ℕ
pass_is_refused_in_order =
    lines
    (codes "site 1"
    ∷ codes "domain 1 home 9 sites 1,2,9 groups 1,2 quotas 16 256 256 200"
    ∷ codes "open 1"
    ∷ codes "open 1"
    ∷ codes "join 1 1 1 1"
    ∷ codes "join 1 1 2 2"
    ∷ codes "frame 4344010501000900010000000100"
    ∷ codes "frame 4344010501000900020000000100"
    ∷ codes "frame 4344010a01000900010000000202000100000001000200000001000000000100000000000000"
    ∷ codes "frame 4344010a01000900020000000202000100000001000200000001010000000100000000000000"
    ∷ codes "pass 1 1 3 9 2.2"
    ∷ codes "pass 1 2 4 1 2.2"
    ∷ codes "pass 1 1 5 1 2.2"
    ∷ codes "pass 1 1 6 2 2.1"
    ∷ codes "abcast 1 1 7 1 61"
    ∷ codes "pass 1 1 8 1 2.1"
    ∷ codes "pass 1 1 9 1 1.1"
    ∷ codes "pass 1 1 10 2 2.1"
    ∷ codes "abcast 1 1 11 2 -"
    ∷ codes "pass 1 1 12 1 2.1"
    ∷ codes "pass 1 1 13 2 2.1"
    ∷ codes "pass 1 1 14 1 2.2"
    ∷ codes "frame 43440106010009000100000002"
    ∷ codes "pass 1 1 15 1 2.1"
    ∷ codes "pass 1 1 16 1 2.2"
    ∷ codes "leave 1 1 17 1"
    ∷ codes "pass 1 1 18 1 2.1"
    ∷ codes "pass 1 3 19 1 2.1" ∷ [])

pass_is_refused_in_order_prints : printed_text pass_is_refused_in_order ≡ Ok (
    lines
    (codes "event 26 refused 2"
    ∷ codes "push 1 1 opened 1.1"
    ∷ codes "push 1 1 reply 1 0"
    ∷ codes "push 1 1 reply 2 0"
    ∷ codes "push 1 1 view 1 2 holder 1.1 members 1.1 2.1"
    ∷ codes "push 1 1 view 2 2 holder 2.1 members 1.1 2.1"
    ∷ codes "push 1 1 reply 3 4"
    ∷ codes "push 1 1 reply 5 5"
    ∷ codes "push 1 1 reply 6 11"
    ∷ codes "push 1 1 reply 7 0"
    ∷ codes "push 1 1 deliver 1/2/1.1/1 atomic 61"
    ∷ codes "push 1 1 reply 8 9"
    ∷ codes "push 1 1 reply 9 9"
    ∷ codes "push 1 1 reply 10 11"
    ∷ codes "push 1 1 reply 11 0"
    ∷ codes "push 1 1 reply 12 8"
    ∷ codes "push 1 1 reply 13 8"
    ∷ codes "push 1 1 reply 14 5"
    ∷ codes "push 1 1 reply 15 7"
    ∷ codes "push 1 1 reply 16 5"
    ∷ codes "push 1 1 reply 17 0"
    ∷ codes "push 1 1 reply 18 5"
    ∷ codes "push 1 2 opened 1.2"
    ∷ codes "push 1 2 reply 4 5"
    ∷ codes "send 1 9 4344010401000100010000000101000100000001"
    ∷ codes "send 1 9 4344010401000100020000000101000100000001"
    ∷ codes "send 1 9 4344010b010001000100000002"
    ∷ codes "send 1 9 4344010b010001000200000002"
    ∷ codes "send 1 2 43440101010001000100000002000100000001000000010202000100000002010001000000010000000100020000000200000161"
    ∷ codes "send 1 2 43440101010001000100000002000100000001000000020302000100000002010001000000010000000200020000000200000000010100010000000100000001"
    ∷ codes "send 1 2 43440101010001000200000002000100000001000000010202000100000002010001000000010000000200020000000201000100000001000000010000"
    ∷ codes "send 1 9 43440107010001000100000002010001000000010000000200000000000100010000000100000001000200010000000100000001000001000000010000000200"
    ∷ codes "send 1 9 4344010401000100010000000202000100000001" ∷ [])
    )
unfolding everything pass_is_refused_in_order
pass_is_refused_in_order_prints = refl

-- nothing is left to be done behind any event of these
tokens_rest : list_all rests (
    token_is_handed_over ∷ token_comes ∷ token_is_taken_at_delivery ∷ token_stays_until_all_is_stable ∷ token_stays_with_its_holder
    ∷ known_places_are_not_set_again ∷ pass_is_refused_in_order ∷ []) ≡ true
unfolding everything token_is_handed_over token_comes token_is_taken_at_delivery token_stays_until_all_is_stable token_stays_with_its_holder
    known_places_are_not_set_again pass_is_refused_in_order
tokens_rest = refl
