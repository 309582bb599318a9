-- What is a script, and what is wrong with one that is none, by worked scripts.
use Rattle.std.specs.Prelude.{◌≡◌, ℕ, List, [], ◌∷◌, codes, Ok, Err, true, refl}
use Rattle.std.specs.List.{list_all}
use Rattle.cast_script.specs.declared.words.Reason.TheVariants.{UnknownWord, WrongCount, BadNumber, Order}
use Rattle.cast_examples.proofs.Everything.{everything}
use Rattle.cast_examples.specs.Printed.{lines, printed_text, rests}

-- the greatest numbers and counts of a configuration are accepted
greatest_configuration : List ℕ
greatest_configuration =
    lines
    (codes "site 65535"
    ∷ codes "domain 255 home 65535 sites 1,2,3,4,5,6,7,8,9,10,11,12,13,14,15,65535 groups 1,2,3,4,5,6,7,8,9,10,11,12,13,14,15,16,17,18,19,20,21,22,23,24,25,26,27,28,29,30,31,65535 quotas 64 1024 4096 60000"
    ∷ codes "open 255"
    ∷ codes "join 255 1 4294967295 65535"
    ∷ codes "join 255 4294967295 0 1" ∷ [])

greatest_configuration_prints : printed_text greatest_configuration ≡ Ok (
    lines
    (codes "event 3 refused 2"
    ∷ codes "push 255 1 opened 65535.1"
    ∷ codes "push 255 1 reply 4294967295 0"
    ∷ codes "send 255 65535 43440104ffffffffff0000000101ffff00000001" ∷ [])
    )
unfolding everything greatest_configuration
greatest_configuration_prints = refl

-- the words of a domain line are tested from left to right: domain 0 before house
domain_before_house : List ℕ
domain_before_house =
    lines
    (codes "# The words of a domain line are tested from left to right: domain 0 before house."
    ∷ codes "site 1"
    ∷ codes "domain 0 house 1 sites 1 groups 1 quotas 16 256 256 200" ∷ [])

domain_before_house_refused : printed_text domain_before_house ≡ Err (3, BadNumber)
unfolding everything domain_before_house
domain_before_house_refused = refl

-- the words of a domain line are tested from left to right: sites before group
sites_before_group : List ℕ
sites_before_group =
    lines
    (codes "# The words of a domain line are tested from left to right: sites before group."
    ∷ codes "site 1"
    ∷ codes "domain 1 home 1 sites 2,1 group 1 quotas 16 256 256 200" ∷ [])

sites_before_group_refused : printed_text sites_before_group ≡ Err (3, Order)
unfolding everything sites_before_group
sites_before_group_refused = refl

-- one domain too many; that is seen before its words are
seventeenth_domain : List ℕ
seventeenth_domain =
    lines
    (codes "# One domain too many; that is seen before its words are."
    ∷ codes "site 1"
    ∷ codes "domain 1 home 1 sites 1 groups 1 quotas 16 256 256 200"
    ∷ codes "domain 2 home 1 sites 1 groups 1 quotas 16 256 256 200"
    ∷ codes "domain 3 home 1 sites 1 groups 1 quotas 16 256 256 200"
    ∷ codes "domain 4 home 1 sites 1 groups 1 quotas 16 256 256 200"
    ∷ codes "domain 5 home 1 sites 1 groups 1 quotas 16 256 256 200"
    ∷ codes "domain 6 home 1 sites 1 groups 1 quotas 16 256 256 200"
    ∷ codes "domain 7 home 1 sites 1 groups 1 quotas 16 256 256 200"
    ∷ codes "domain 8 home 1 sites 1 groups 1 quotas 16 256 256 200"
    ∷ codes "domain 9 home 1 sites 1 groups 1 quotas 16 256 256 200"
    ∷ codes "domain 10 home 1 sites 1 groups 1 quotas 16 256 256 200"
    ∷ codes "domain 11 home 1 sites 1 groups 1 quotas 16 256 256 200"
    ∷ codes "domain 12 home 1 sites 1 groups 1 quotas 16 256 256 200"
    ∷ codes "domain 13 home 1 sites 1 groups 1 quotas 16 256 256 200"
    ∷ codes "domain 14 home 1 sites 1 groups 1 quotas 16 256 256 200"
    ∷ codes "domain 15 home 1 sites 1 groups 1 quotas 16 256 256 200"
    ∷ codes "domain 16 home 1 sites 1 groups 1 quotas 16 256 256 200"
    ∷ codes "domain" ∷ [])

seventeenth_domain_refused : printed_text seventeenth_domain ≡ Err (19, Order)
unfolding everything seventeenth_domain
seventeenth_domain_refused = refl

-- the number of a domain that stands before. It is tested before the words behind it
domain_again : List ℕ
domain_again =
    lines
    (codes "# The number of a domain that stands before. It is tested before the words behind it."
    ∷ codes "site 1"
    ∷ codes "domain 1 home 1 sites 1 groups 1 quotas 16 256 256 200"
    ∷ codes "domain 1 house 0 sites x groups x quotas x x x x" ∷ [])

domain_again_refused : printed_text domain_again ≡ Err (4, Order)
unfolding everything domain_again
domain_again_refused = refl

-- the count of words is tested before the number
domain_again_with_few_words : List ℕ
domain_again_with_few_words =
    lines
    (codes "# The count of words is tested before the number."
    ∷ codes "site 1"
    ∷ codes "domain 1 home 1 sites 1 groups 1 quotas 16 256 256 200"
    ∷ codes "domain 1 home 1" ∷ [])

domain_again_with_few_words_refused : printed_text domain_again_with_few_words ≡ Err (4, WrongCount)
unfolding everything domain_again_with_few_words
domain_again_with_few_words_refused = refl

-- a domain behind an event is in the wrong place, whatever its words
domain_after_an_event : List ℕ
domain_after_an_event =
    lines
    (codes "# A domain behind an event is in the wrong place, whatever its words."
    ∷ codes "site 1"
    ∷ codes "domain 1 home 1 sites 1 groups 1 quotas 16 256 256 200"
    ∷ codes "open 1"
    ∷ codes "domain" ∷ [])

domain_after_an_event_refused : printed_text domain_after_an_event ≡ Err (5, Order)
unfolding everything domain_after_an_event
domain_after_an_event_refused = refl

-- an event before any domain
event_before_domains : List ℕ
event_before_domains =
    lines
    (codes "# An event before any domain."
    ∷ codes "site 1"
    ∷ codes "quota 1 kept 1" ∷ [])

event_before_domains_refused : printed_text event_before_domains ≡ Err (3, Order)
unfolding everything event_before_domains
event_before_domains_refused = refl

-- a second domain in which the own site has no part
second_domain_without_the_site : List ℕ
second_domain_without_the_site =
    lines
    (codes "# A second domain in which the own site has no part."
    ∷ codes "site 1"
    ∷ codes "domain 1 home 1 sites 1 groups 1 quotas 16 256 256 200"
    ∷ codes "domain 2 home 2 sites 2 groups 1 quotas 16 256 256 200" ∷ [])

second_domain_without_the_site_refused : printed_text second_domain_without_the_site ≡ Err (4, Order)
unfolding everything second_domain_without_the_site
second_domain_without_the_site_refused = refl

-- no such quota; that is seen before its value is
unknown_quota : List ℕ
unknown_quota =
    lines
    (codes "# No such quota; that is seen before its value is."
    ∷ codes "site 1"
    ∷ codes "domain 1 home 1 sites 1 groups 1 quotas 16 256 256 200"
    ∷ codes "quota 1 kept x" ∷ [])

unknown_quota_refused : printed_text unknown_quota ≡ Err (4, UnknownWord)
unfolding everything unknown_quota
unknown_quota_refused = refl

-- a domain out of range comes before an unknown quota
quota_of_domain_0 : List ℕ
quota_of_domain_0 =
    lines
    (codes "# A domain out of range comes before an unknown quota."
    ∷ codes "site 1"
    ∷ codes "domain 1 home 1 sites 1 groups 1 quotas 16 256 256 200"
    ∷ codes "quota 0 kept 1" ∷ [])

quota_of_domain_0_refused : printed_text quota_of_domain_0 ≡ Err (4, BadNumber)
unfolding everything quota_of_domain_0
quota_of_domain_0_refused = refl

-- a value that is no number of 32 bits
quota_past_its_type : List ℕ
quota_past_its_type =
    lines
    (codes "# A value that is no number of 32 bits."
    ∷ codes "site 1"
    ∷ codes "domain 1 home 1 sites 1 groups 1 quotas 16 256 256 200"
    ∷ codes "quota 1 held 4294967296" ∷ [])

quota_past_its_type_refused : printed_text quota_past_its_type ≡ Err (4, BadNumber)
unfolding everything quota_past_its_type
quota_past_its_type_refused = refl

-- a take that does not say how many
take_with_few_words : List ℕ
take_with_few_words =
    lines
    (codes "# A take that does not say how many."
    ∷ codes "site 1"
    ∷ codes "domain 1 home 1 sites 1 groups 1 quotas 16 256 256 200"
    ∷ codes "take 1 1" ∷ [])

take_with_few_words_refused : printed_text take_with_few_words ≡ Err (4, WrongCount)
unfolding everything take_with_few_words
take_with_few_words_refused = refl

-- a number of entries with a sign
take_with_a_sign : List ℕ
take_with_a_sign =
    lines
    (codes "# A number of entries with a sign."
    ∷ codes "site 1"
    ∷ codes "domain 1 home 1 sites 1 groups 1 quotas 16 256 256 200"
    ∷ codes "take 1 1 -1" ∷ [])

take_with_a_sign_refused : printed_text take_with_a_sign ≡ Err (4, BadNumber)
unfolding everything take_with_a_sign
take_with_a_sign_refused = refl

-- nothing is left to be done behind any event of these
scripts_rest : list_all rests (
    greatest_configuration ∷ []) ≡ true
unfolding everything greatest_configuration
scripts_rest = refl
