-- What time does, by worked scripts.
use Rattle.std.specs.Prelude.{◌≡◌, ℕ, List, [], ◌∷◌, codes, Ok, true, refl}
use Rattle.std.specs.List.{list_all}
use Rattle.cast_examples.proofs.Everything.{everything}
use Rattle.cast_examples.specs.Printed.{lines, printed_text, rests}

-- the moment is the greatest tick, at most 2^62
moments_rise : List ℕ
moments_rise =
    lines
    (codes "site 1"
    ∷ codes "domain 1 home 9 sites 1,2,3,9 groups 1,2 quotas 16 256 256 200"
    ∷ codes "open 1"
    ∷ codes "join 1 1 7 1"
    ∷ codes "frame 4344010501000900010000000100"
    ∷ codes "frame 4344010a01000900010000000202000100000001000200000001000000000100000000000000"
    ∷ codes "tick 400"
    ∷ codes "tick 100"
    ∷ codes "cast 1 1 8 1 -"
    ∷ codes "tick 599"
    ∷ codes "tick 600"
    ∷ codes "tick 300"
    ∷ codes "tick 799"
    ∷ codes "tick 4611686018427387904"
    ∷ codes "cast 1 1 9 1 -"
    ∷ codes "tick 18446744073709551615"
    ∷ codes "tick 4611686018427387905" ∷ [])

moments_rise_prints : printed_text moments_rise ≡ Ok (
    lines
    (codes "push 1 1 opened 1.1"
    ∷ codes "push 1 1 reply 7 0"
    ∷ codes "push 1 1 view 1 2 holder 1.1 members 1.1 2.1"
    ∷ codes "push 1 1 reply 8 0"
    ∷ codes "push 1 1 deliver 1/2/1.1/1 causal -"
    ∷ codes "push 1 1 reply 9 0"
    ∷ codes "push 1 1 deliver 1/2/1.1/2 causal -"
    ∷ codes "send 1 9 4344010401000100010000000101000100000001"
    ∷ codes "send 1 9 4344010b010001000100000002"
    ∷ codes "send 1 2 4344010101000100010000000200010000000100000001010100010000000201000100000001000000010000"
    ∷ codes "send 1 2 4344010101000100010000000200010000000100000001010100010000000201000100000001000000010000"
    ∷ codes "send 1 2 4344010101000100010000000200010000000100000001010100010000000201000100000001000000010000"
    ∷ codes "send 1 2 4344010101000100010000000200010000000100000002010100010000000201000100000001000000020000" ∷ [])
    )
unfolding everything moments_rise
moments_rise_prints = refl

-- a repeat of Data is acknowledged at once and moves no due moment
repeat_moves_nothing : List ℕ
repeat_moves_nothing =
    lines
    (codes "site 1"
    ∷ codes "domain 1 home 9 sites 1,2,3,9 groups 1,2 quotas 16 256 256 200"
    ∷ codes "open 1"
    ∷ codes "join 1 1 7 1"
    ∷ codes "frame 4344010501000900010000000100"
    ∷ codes "frame 4344010a01000900010000000202000100000001000200000001000000000100000000000000"
    ∷ codes "tick 1000"
    ∷ codes "frame 4344010101000200010000000200020000000100000001010100010000000201000200000001000000010000"
    ∷ codes "tick 1100"
    ∷ codes "frame 4344010101000200010000000200020000000100000001010100010000000201000200000001000000010000"
    ∷ codes "tick 1199"
    ∷ codes "tick 1200" ∷ [])

repeat_moves_nothing_prints : printed_text repeat_moves_nothing ≡ Ok (
    lines
    (codes "push 1 1 opened 1.1"
    ∷ codes "push 1 1 reply 7 0"
    ∷ codes "push 1 1 view 1 2 holder 1.1 members 1.1 2.1"
    ∷ codes "push 1 1 deliver 1/2/2.1/1 causal -"
    ∷ codes "send 1 9 4344010401000100010000000101000100000001"
    ∷ codes "send 1 9 4344010b010001000100000002"
    ∷ codes "send 1 2 4344010201000100010000000200020000000100000001"
    ∷ codes "send 1 2 4344010201000100010000000200020000000100000001"
    ∷ codes "send 1 2 4344010201000100010000000200020000000100000001" ∷ [])
    )
unfolding everything repeat_moves_nothing
repeat_moves_nothing_prints = refl

-- frames due at one moment go by kind, group, process, count, site
equal_dues : List ℕ
equal_dues =
    lines
    (codes "site 1"
    ∷ codes "domain 1 home 9 sites 1,2,3,9 groups 1,2 quotas 16 256 256 200"
    ∷ codes "open 1"
    ∷ codes "join 1 1 7 1"
    ∷ codes "frame 4344010501000900010000000100"
    ∷ codes "frame 4344010a01000900010000000303000100000001000200000001000300000001000000000100000000000000"
    ∷ codes "join 1 1 8 2"
    ∷ codes "frame 4344010101000200010000000300020000000100000001010100010000000301000200000001000000010000"
    ∷ codes "cast 1 1 9 1 -"
    ∷ codes "frame 4344010101000300010000000300030000000100000001010100010000000301000300000001000000010000"
    ∷ codes "cast 1 1 10 1 -"
    ∷ codes "tick 200" ∷ [])

equal_dues_prints : printed_text equal_dues ≡ Ok (
    lines
    (codes "push 1 1 opened 1.1"
    ∷ codes "push 1 1 reply 7 0"
    ∷ codes "push 1 1 view 1 3 holder 1.1 members 1.1 2.1 3.1"
    ∷ codes "push 1 1 reply 8 0"
    ∷ codes "push 1 1 deliver 1/3/2.1/1 causal -"
    ∷ codes "push 1 1 reply 9 0"
    ∷ codes "push 1 1 deliver 1/3/1.1/1 causal -"
    ∷ codes "push 1 1 deliver 1/3/3.1/1 causal -"
    ∷ codes "push 1 1 reply 10 0"
    ∷ codes "push 1 1 deliver 1/3/1.1/2 causal -"
    ∷ codes "send 1 9 4344010401000100010000000101000100000001"
    ∷ codes "send 1 9 4344010b010001000100000003"
    ∷ codes "send 1 9 4344010401000100020000000101000100000001"
    ∷ codes "send 1 2 4344010201000100010000000300020000000100000001"
    ∷ codes "send 1 2 434401010100010001000000030001000000010000000101010001000000030200010000000100000001000200000001000000010000"
    ∷ codes "send 1 3 434401010100010001000000030001000000010000000101010001000000030200010000000100000001000200000001000000010000"
    ∷ codes "send 1 3 4344010201000100010000000300030000000100000001"
    ∷ codes "send 1 2 43440101010001000100000003000100000001000000020101000100000003030001000000010000000200020000000100000001000300000001000000010000"
    ∷ codes "send 1 3 43440101010001000100000003000100000001000000020101000100000003030001000000010000000200020000000100000001000300000001000000010000"
    ∷ codes "send 1 9 4344010401000100020000000101000100000001"
    ∷ codes "send 1 2 434401010100010001000000030001000000010000000101010001000000030200010000000100000001000200000001000000010000"
    ∷ codes "send 1 3 434401010100010001000000030001000000010000000101010001000000030200010000000100000001000200000001000000010000"
    ∷ codes "send 1 2 43440101010001000100000003000100000001000000020101000100000003030001000000010000000200020000000100000001000300000001000000010000"
    ∷ codes "send 1 3 43440101010001000100000003000100000001000000020101000100000003030001000000010000000200020000000100000001000300000001000000010000"
    ∷ codes "send 1 2 4344010201000100010000000300020000000100000001"
    ∷ codes "send 1 3 4344010201000100010000000300030000000100000001" ∷ [])
    )
unfolding everything equal_dues
equal_dues_prints = refl

-- nothing is left to be done behind any event of these
ticks_rest : list_all rests (
    moments_rise ∷ repeat_moves_nothing ∷ equal_dues ∷ []) ≡ true
unfolding everything moments_rise repeat_moves_nothing equal_dues
ticks_rest = refl
