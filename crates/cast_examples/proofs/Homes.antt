-- What a home makes of requests, by worked scripts.
use Rattle.std.specs.Prelude.{◌≡◌, ℕ, List, [], ◌∷◌, codes, Ok, true, refl}
use Rattle.std.specs.List.{list_all}
use Rattle.cast_examples.proofs.Everything.{everything}
use Rattle.cast_examples.specs.Printed.{lines, printed_text, rests}

-- requests at the home: next, repeated, lower, higher, of a process that is not at the asking site; a first view
requests_at_the_home : List ℕ
requests_at_the_home =
    lines
    (codes "site 1"
    ∷ codes "domain 1 home 1 sites 1,2,3 groups 1,2 quotas 16 256 256 200"
    ∷ codes "frame 4344010401000200010000000201000200000001"
    ∷ codes "frame 4344010401000200010000000101000300000001"
    ∷ codes "frame 4344010401000200010000000201000200000001"
    ∷ codes "frame 4344010401000200010000000101000200000001"
    ∷ codes "frame 4344010401000300010000000101000300000001"
    ∷ codes "frame 4344010b010002000100000001"
    ∷ codes "frame 4344010b010002000100000002"
    ∷ codes "frame 4344010401000200020000000101000200000003"
    ∷ codes "open 1"
    ∷ codes "join 1 1 7 2"
    ∷ codes "frame 4344010401000100020000000101000100000001"
    ∷ codes "frame 4344010401000300020000000201000300000001"
    ∷ codes "frame 4344010401000800020000000101000800000001" ∷ [])

requests_at_the_home_prints : printed_text requests_at_the_home ≡ Ok (
    lines
    (codes "push 1 1 opened 1.1"
    ∷ codes "push 1 1 reply 7 0"
    ∷ codes "send 1 2 4344010501000100010000000100"
    ∷ codes "send 1 2 4344010501000100010000000200"
    ∷ codes "send 1 2 4344010a01000100010000000101000200000001000000000200000000000000"
    ∷ codes "send 1 2 4344010501000100010000000100"
    ∷ codes "send 1 3 4344010501000100010000000100"
    ∷ codes "send 1 2 43440106010001000100000001"
    ∷ codes "send 1 2 4344010501000100020000000100"
    ∷ codes "send 1 2 4344010a01000100020000000101000200000003000000000100000000000000"
    ∷ codes "send 1 1 4344010401000100020000000101000100000001"
    ∷ codes "send 1 1 4344010501000100020000000100" ∷ [])
    )
unfolding everything requests_at_the_home
requests_at_the_home_prints = refl

-- frames for a home at a site that is none; Installs lower, repeated, without a local process. View 2 names a process of this site that is
-- not open, so the Install of view 3 is the next one of a site that has a view, where no member waits: it is complete at once, and so is
-- that of view 4
frames_where_no_home_is : List ℕ
frames_where_no_home_is =
    lines
    (codes "site 1"
    ∷ codes "domain 1 home 9 sites 1,2,3,9 groups 1,2 quotas 16 256 256 200"
    ∷ codes "frame 4344010401000200010000000101000200000001"
    ∷ codes "frame 4344010b010002000100000001"
    ∷ codes "frame 4344010a01000900010000000101000200000001000000000000000000000000"
    ∷ codes "frame 4344010a01000900010000000202000100000001000200000001010000000000000000000000"
    ∷ codes "open 1"
    ∷ codes "join 1 1 7 1"
    ∷ codes "frame 4344010a01000900010000000302000100000001000200000001010000000000000000000000"
    ∷ codes "frame 4344010a01000900010000000402000100000001000200000001010000000100000000000000"
    ∷ codes "frame 4344010a01000900010000000101000200000001000000000000000000000000"
    ∷ codes "frame 4344010a01000900010000000202000100000001000200000001010000000000000000000000" ∷ [])

frames_where_no_home_is_prints : printed_text frames_where_no_home_is ≡ Ok (
    lines
    (codes "push 1 1 opened 1.1"
    ∷ codes "push 1 1 reply 7 0"
    ∷ codes "push 1 1 view 1 4 holder 2.1 members 1.1 2.1"
    ∷ codes "send 1 9 4344010b010001000100000001"
    ∷ codes "send 1 9 4344010b010001000100000002"
    ∷ codes "send 1 9 4344010401000100010000000101000100000001"
    ∷ codes "send 1 9 4344010b010001000100000003"
    ∷ codes "send 1 9 4344010b010001000100000004"
    ∷ codes "send 1 9 4344010b010001000100000001"
    ∷ codes "send 1 9 4344010b010001000100000002" ∷ [])
    )
unfolding everything frames_where_no_home_is
frames_where_no_home_is_prints = refl

-- nothing is left to be done behind any event of these
homes_rest : list_all rests (
    requests_at_the_home ∷ frames_where_no_home_is ∷ []) ≡ true
unfolding everything requests_at_the_home frames_where_no_home_is
homes_rest = refl
