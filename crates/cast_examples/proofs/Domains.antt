-- Several domains of one daemon, by worked scripts.
use Rattle.std.specs.Prelude.{◌≡◌, ℕ, List, [], ◌∷◌, ◌++◌, codes, Ok, true, refl}
use Rattle.std.specs.List.{list_all}
use Rattle.cast_examples.proofs.Everything.{everything}
use Rattle.cast_examples.specs.Printed.{lines, printed_text, rests}

-- two domains of one daemon, in no order of number: what one keeps leaves the other its room, and each counts from 1
domains_hold_apart : List ℕ
domains_hold_apart =
    lines
    (codes "site 1"
    ∷ codes "domain 2 home 9 sites 1,2,9 groups 1 quotas 16 256 256 200"
    ∷ codes "domain 1 home 9 sites 1,2,9 groups 1 quotas 16 1 256 200"
    ∷ codes "open 1"
    ∷ codes "join 1 1 0 1"
    ∷ codes "frame 4344010501000900010000000100"
    ∷ codes "frame 4344010a01000900010000000202000100000001000200000001000000000100000000000000"
    ∷ codes "open 2"
    ∷ codes "join 2 1 0 1"
    ∷ codes "frame 4344010502000900010000000100"
    ∷ codes "frame 4344010a02000900010000000202000100000001000200000001000000000100000000000000"
    ∷ codes "cast 1 1 1 1 -"
    ∷ codes "cast 2 1 1 1 -"
    ∷ codes "cast 1 1 2 1 -"
    ∷ codes "cast 2 1 2 1 -" ∷ [])

domains_hold_apart_prints : printed_text domains_hold_apart ≡ Ok (
    lines
    (codes "push 2 1 opened 1.1"
    ∷ codes "push 2 1 reply 0 0"
    ∷ codes "push 2 1 view 1 2 holder 1.1 members 1.1 2.1"
    ∷ codes "push 2 1 reply 1 0"
    ∷ codes "push 2 1 deliver 1/2/1.1/1 causal -"
    ∷ codes "push 2 1 reply 2 0"
    ∷ codes "push 2 1 deliver 1/2/1.1/2 causal -"
    ∷ codes "send 2 9 4344010402000100010000000101000100000001"
    ∷ codes "send 2 9 4344010b020001000100000002"
    ∷ codes "send 2 2 4344010102000100010000000200010000000100000001010100010000000201000100000001000000010000"
    ∷ codes "send 2 2 4344010102000100010000000200010000000100000002010100010000000201000100000001000000020000"
    ∷ codes "push 1 1 opened 1.1"
    ∷ codes "push 1 1 reply 0 0"
    ∷ codes "push 1 1 view 1 2 holder 1.1 members 1.1 2.1"
    ∷ codes "push 1 1 reply 1 0"
    ∷ codes "push 1 1 deliver 1/2/1.1/1 causal -"
    ∷ codes "push 1 1 reply 2 9"
    ∷ codes "send 1 9 4344010401000100010000000101000100000001"
    ∷ codes "send 1 9 4344010b010001000100000002"
    ∷ codes "send 1 2 4344010101000100010000000200010000000100000001010100010000000201000100000001000000010000" ∷ [])
    )
unfolding everything domains_hold_apart
domains_hold_apart_prints = refl

-- time passes in all domains, each with the time after which it sends a frame again
ticks_are_for_all_domains : List ℕ
ticks_are_for_all_domains =
    lines
    (codes "site 1"
    ∷ codes "domain 7 home 9 sites 1,9 groups 1 quotas 16 256 256 10"
    ∷ codes "domain 5 home 9 sites 1,9 groups 1,2 quotas 16 256 256 20"
    ∷ codes "domain 6 home 9 sites 1,9 groups 2 quotas 16 256 256 30"
    ∷ codes "open 5"
    ∷ codes "open 6"
    ∷ codes "open 7"
    ∷ codes "join 5 1 1 2"
    ∷ codes "tick 10"
    ∷ codes "join 6 1 1 2"
    ∷ codes "tick 20"
    ∷ codes "join 7 1 1 1"
    ∷ codes "join 7 1 2 2"
    ∷ codes "tick 30"
    ∷ codes "tick 40"
    ∷ codes "open 4" ∷ [])

ticks_are_for_all_domains_prints : printed_text ticks_are_for_all_domains ≡ Ok (
    lines
    (codes "event 12 no domain"
    ∷ codes "push 7 1 opened 1.1"
    ∷ codes "push 7 1 reply 1 0"
    ∷ codes "push 7 1 reply 2 4"
    ∷ codes "send 7 9 4344010407000100010000000101000100000001"
    ∷ codes "send 7 9 4344010407000100010000000101000100000001"
    ∷ codes "send 7 9 4344010407000100010000000101000100000001"
    ∷ codes "push 5 1 opened 1.1"
    ∷ codes "push 5 1 reply 1 0"
    ∷ codes "send 5 9 4344010405000100020000000101000100000001"
    ∷ codes "send 5 9 4344010405000100020000000101000100000001"
    ∷ codes "send 5 9 4344010405000100020000000101000100000001"
    ∷ codes "push 6 1 opened 1.1"
    ∷ codes "push 6 1 reply 1 0"
    ∷ codes "send 6 9 4344010406000100020000000101000100000001"
    ∷ codes "send 6 9 4344010406000100020000000101000100000001" ∷ [])
    )
unfolding everything ticks_are_for_all_domains
ticks_are_for_all_domains_prints = refl

-- as many domains as there may be, in any order of number
sixteen_domains : List ℕ
sixteen_domains =
    lines
    (codes "site 1"
    ∷ codes "domain 16 home 1 sites 1 groups 1 quotas 16 256 256 200"
    ∷ codes "domain 3 home 1 sites 1 groups 1 quotas 16 256 256 200"
    ∷ codes "domain 255 home 1 sites 1 groups 1 quotas 16 256 256 200"
    ∷ codes "domain 1 home 1 sites 1 groups 1 quotas 16 256 256 200"
    ∷ codes "domain 2 home 1 sites 1 groups 1 quotas 16 256 256 200"
    ∷ codes "domain 4 home 1 sites 1 groups 1 quotas 16 256 256 200"
    ∷ codes "domain 5 home 1 sites 1 groups 1 quotas 16 256 256 200"
    ∷ codes "domain 6 home 1 sites 1 groups 1 quotas 16 256 256 200"
    ∷ codes "domain 7 home 1 sites 1 groups 1 quotas 16 256 256 200"
    ∷ codes "domain 8 home 1 sites 1 groups 1 quotas 16 256 256 200"
    ∷ codes "domain 9 home 1 sites 1 groups 1 quotas 16 256 256 200"
    ∷ codes "domain 10 home 1 sites 1 groups 1 quotas 16 256 256 200"
    ∷ codes "domain 11 home 1 sites 1 groups 1 quotas 16 256 256 200"
    ∷ codes "domain 12 home 1 sites 1 groups 1 quotas 16 256 256 200"
    ∷ codes "domain 13 home 1 sites 1 groups 1 quotas 16 256 256 200"
    ∷ codes "domain 14 home 1 sites 1 groups 1 quotas 16 256 256 200"
    ∷ codes "open 255"
    ∷ codes "open 15"
    ∷ codes "open 3" ∷ [])

sixteen_domains_prints : printed_text sixteen_domains ≡ Ok (
    lines
    (codes "event 2 no domain"
    ∷ codes "push 3 1 opened 1.1"
    ∷ codes "push 255 1 opened 1.1" ∷ [])
    )
unfolding everything sixteen_domains
sixteen_domains_prints = refl

-- domains 1 and 2 give up messages and outboxes in turn, so that each takes slots that the other gave up
prints_1 : List (List ℕ)
prints_1 =
    (codes "push 1 1 opened 1.1"
    ∷ codes "push 1 1 reply 7 0"
    ∷ codes "push 1 1 view 1 2 holder 1.1 members 1.1 2.1"
    ∷ codes "push 1 1 reply 8 0"
    ∷ codes "push 1 1 deliver 1/2/1.1/1 causal aa"
    ∷ codes "push 1 1 deliver 1/2/2.1/1 causal dd"
    ∷ codes "push 1 1 reply 9 0"
    ∷ codes "push 1 1 deliver 1/2/1.1/2 causal ee"
    ∷ codes "push 1 2 opened 1.2"
    ∷ codes "send 1 9 4344010401000100010000000101000100000001"
    ∷ codes "send 1 9 4344010b010001000100000002"
    ∷ codes "send 1 2 4344010101000100010000000200010000000100000001010100010000000201000100000001000000010001aa"
    ∷ codes "send 1 2 4344010301000100010000000200010000000100000001"
    ∷ codes "send 1 2 4344010201000100010000000200020000000100000001"
    ∷ codes "send 1 2 434401010100010001000000020001000000010000000201010001000000020200010000000100000002000200000001000000010001ee" ∷ [])

prints_2 : List (List ℕ)
prints_2 =
    (codes "push 2 1 opened 1.1"
    ∷ codes "push 2 1 reply 7 0"
    ∷ codes "push 2 1 view 1 2 holder 1.1 members 1.1 2.1"
    ∷ codes "push 2 1 reply 8 0"
    ∷ codes "push 2 1 deliver 1/2/1.1/1 causal bb"
    ∷ codes "push 2 1 reply 9 0"
    ∷ codes "push 2 1 deliver 1/2/1.1/2 causal cc"
    ∷ codes "push 2 2 opened 1.2"
    ∷ codes "send 2 9 4344010402000100010000000101000100000001"
    ∷ codes "send 2 9 4344010b020001000100000002"
    ∷ codes "send 2 2 4344010102000100010000000200010000000100000001010100010000000201000100000001000000010001bb"
    ∷ codes "send 2 2 4344010102000100010000000200010000000100000002010100010000000201000100000001000000020001cc"
    ∷ codes "send 2 2 4344010302000100010000000200010000000100000001"
    ∷ codes "send 2 2 4344010302000100010000000200010000000100000002" ∷ [])

reused_keys : List ℕ
reused_keys =
    lines
    (codes "site 1"
    ∷ codes "domain 1 home 9 sites 1,2,9 groups 1 quotas 16 256 256 200"
    ∷ codes "domain 2 home 9 sites 1,2,9 groups 1 quotas 16 256 256 200"
    ∷ codes "open 1"
    ∷ codes "join 1 1 7 1"
    ∷ codes "frame 4344010501000900010000000100"
    ∷ codes "frame 4344010a01000900010000000202000100000001000200000001000000000100000000000000"
    ∷ codes "open 2"
    ∷ codes "join 2 1 7 1"
    ∷ codes "frame 4344010502000900010000000100"
    ∷ codes "frame 4344010a02000900010000000202000100000001000200000001000000000100000000000000"
    ∷ codes "cast 1 1 8 1 aa"
    ∷ codes "cast 2 1 8 1 bb"
    ∷ codes "frame 4344010201000200010000000200010000000100000001"
    ∷ codes "cast 2 1 9 1 cc"
    ∷ codes "open 2"
    ∷ codes "gone 2 2"
    ∷ codes "open 1"
    ∷ codes "frame 4344010202000200010000000200010000000100000001"
    ∷ codes "frame 4344010101000200010000000200020000000100000001010100010000000201000200000001000000010001dd"
    ∷ codes "frame 4344010202000200010000000200010000000100000002"
    ∷ codes "frame 4344010301000200010000000200020000000100000001"
    ∷ codes "cast 1 1 9 1 ee" ∷ [])

reused_keys_of_domain_1 : List ℕ
reused_keys_of_domain_1 =
    lines
    (codes "site 1"
    ∷ codes "domain 1 home 9 sites 1,2,9 groups 1 quotas 16 256 256 200"
    ∷ codes "open 1"
    ∷ codes "join 1 1 7 1"
    ∷ codes "frame 4344010501000900010000000100"
    ∷ codes "frame 4344010a01000900010000000202000100000001000200000001000000000100000000000000"
    ∷ codes "cast 1 1 8 1 aa"
    ∷ codes "frame 4344010201000200010000000200010000000100000001"
    ∷ codes "open 1"
    ∷ codes "frame 4344010101000200010000000200020000000100000001010100010000000201000200000001000000010001dd"
    ∷ codes "frame 4344010301000200010000000200020000000100000001"
    ∷ codes "cast 1 1 9 1 ee" ∷ [])

reused_keys_of_domain_2 : List ℕ
reused_keys_of_domain_2 =
    lines
    (codes "site 1"
    ∷ codes "domain 2 home 9 sites 1,2,9 groups 1 quotas 16 256 256 200"
    ∷ codes "open 2"
    ∷ codes "join 2 1 7 1"
    ∷ codes "frame 4344010502000900010000000100"
    ∷ codes "frame 4344010a02000900010000000202000100000001000200000001000000000100000000000000"
    ∷ codes "cast 2 1 8 1 bb"
    ∷ codes "cast 2 1 9 1 cc"
    ∷ codes "open 2"
    ∷ codes "gone 2 2"
    ∷ codes "frame 4344010202000200010000000200010000000100000001"
    ∷ codes "frame 4344010202000200010000000200010000000100000002" ∷ [])

reused_keys_prints : printed_text reused_keys ≡ Ok (lines (prints_1 ++ prints_2))
unfolding everything reused_keys prints_1 prints_2
reused_keys_prints = refl

-- and each prints what it prints alone
reused_keys_print_apart : (printed_text reused_keys_of_domain_1 ≡ Ok (lines prints_1))
    × (printed_text reused_keys_of_domain_2 ≡ Ok (lines prints_2))
unfolding everything reused_keys_of_domain_1 reused_keys_of_domain_2 prints_1 prints_2
reused_keys_print_apart = (refl, refl)

-- nothing is left to be done behind any event of these
domains_rest : list_all rests (
    domains_hold_apart ∷ ticks_are_for_all_domains ∷ sixteen_domains ∷ reused_keys ∷ []) ≡ true
unfolding everything domains_hold_apart ticks_are_for_all_domains sixteen_domains reused_keys
domains_rest = refl
