-- The part of one domain in lists of events and answers, and in what comes of steps.
use Rattle.std.proofs.Common.{◌≡◌, ℕ, zero, suc, ◌<◌, ◌≤◌, Bool, true, false, cond, List, [], ◌∷◌, ◌++◌, length, refl, ap, ◌∙◌, arith}
use Rattle.std.proofs.lemmas.Bool.{false≢true}
use Rattle.std.proofs.lemmas.List.{map-append}
use Rattle.std.proofs.lemmas.List.Elements.{filter-append}
use Rattle.cast_types.specs.declared.names.DomainNo.{DomainNo}
use Rattle.cast_events.specs.declared.event.Event.{Event}
use Rattle.cast_domain.specs.Fits.{with_domain}
use Rattle.cast_table.specs.Tables.{domain_eq}
use Rattle.cast_table.specs.Owns.{names, is_own}
use Rattle.cast_table.proofs.Parts.{domain_itself}
use Rattle.cast_isolation.specs.Replays.{own, named_answers, of_domain, without_domain, is_own_at}

-- one more event

pub own_more : (d : DomainNo) (events : List Event) (e : Event) → own d (events ++ e ∷ []) ≡ own d events ++ own d (e ∷ [])
own_more d events e = filter-append (is_own d) events (e ∷ [])

push_chosen : {X : Type 0} (b : Bool) (x : X) (xs ys : List X) → cond b (x ∷ (xs ++ ys)) (xs ++ ys) ≡ cond b (x ∷ xs) xs ++ ys
push_chosen true x xs ys = refl
push_chosen false x xs ys = refl

pub named_more : {X : Type 0} (d : DomainNo) (events : List Event) (answers : List X) (e : Event) (a : X) → length events ≡ length answers →
    named_answers d (events ++ e ∷ []) (answers ++ a ∷ []) ≡ named_answers d events answers ++ named_answers d (e ∷ []) (a ∷ [])
named_more d [] [] e a long = refl
named_more d [] (b ∷ answers) e a long = absurd (omega arith)
named_more d (f ∷ events) [] e a long = absurd (omega arith)
named_more d (f ∷ events) (b ∷ answers) e a long =
    ap (λ rest. cond (names d f) (b ∷ rest) rest) (named_more d events answers e a (omega arith))
    ∙ push_chosen (names d f) b (named_answers d events answers) (named_answers d (e ∷ []) (a ∷ []))

-- where the event is the domain's own, and where it is not

pub own_one : (d : DomainNo) (e : Event) → is_own d e ≡ true → own d (e ∷ []) ≡ e ∷ []
own_one d e its = ap (λ b. cond b (e ∷ []) []) its

pub own_none : (d : DomainNo) (e : Event) → is_own d e ≡ false → own d (e ∷ []) ≡ []
own_none d e other = ap (λ b. cond b (e ∷ []) []) other

pub named_one : {X : Type 0} (d : DomainNo) (e : Event) (a : X) → names d e ≡ true → named_answers d (e ∷ []) (a ∷ []) ≡ a ∷ []
named_one d e a named = ap (λ b. cond b (a ∷ []) []) named

pub named_none : {X : Type 0} (d : DomainNo) (e : Event) (a : X) → names d e ≡ false → named_answers d (e ∷ []) (a ∷ []) ≡ []
named_none d e a unnamed = ap (λ b. cond b (a ∷ []) []) unnamed

-- places of a domain's own events

pub own_at_within : (d : DomainNo) (events : List Event) (place : ℕ) → is_own_at d events place ≡ true → place < length events
own_at_within d [] place at = absurd (false≢true at)
own_at_within d (e ∷ events) zero at = omega arith
own_at_within d (e ∷ events) (suc place) at = let later = own_at_within d events place at in omega (arith, later)

pub own_at_more : (d : DomainNo) (events more : List Event) (place : ℕ) → is_own_at d events place ≡ true →
    is_own_at d (events ++ more) place ≡ true
own_at_more d [] more place at = absurd (false≢true at)
own_at_more d (e ∷ events) more zero at = at
own_at_more d (e ∷ events) more (suc place) at = own_at_more d events more place at

pub own_at_last : (d : DomainNo) (events : List Event) (e : Event) → is_own d e ≡ true →
    is_own_at d (events ++ e ∷ []) (length events) ≡ true
own_at_last d [] e its = its
own_at_last d (f ∷ events) e its = own_at_last d events e its

-- answers to later events are none of the first ones
pub named_front : {X : Type 0} (d : DomainNo) (events : List Event) (answers more : List X) → length events ≤ length answers →
    named_answers d events (answers ++ more) ≡ named_answers d events answers
named_front d [] answers more few = refl
named_front d (e ∷ events) [] more few = absurd (omega arith)
named_front d (e ∷ events) (a ∷ answers) more few =
    ap (λ rest. cond (names d e) (a ∷ rest) rest) (named_front d events answers more (omega arith))

-- more with the numbers of domains

pub tagged_more : {A B : Type 0} (d : DomainNo) (before more : List (DomainNo × A × B)) →
    without_domain (of_domain d (before ++ more)) ≡ without_domain (of_domain d before) ++ without_domain (of_domain d more)
tagged_more {A} {B} d before more =
    ap without_domain (filter-append (λ (x : DomainNo × A × B). domain_eq x.0 d) before more)
    ∙ map-append (λ (x : DomainNo × A × B). (x.1, x.2)) (of_domain d before) (of_domain d more)

pub tagged_own : {A B : Type 0} (d : DomainNo) (xs : List (A × B)) → without_domain (of_domain d (with_domain d xs)) ≡ xs
tagged_own d [] = refl
tagged_own {A} {B} d (x ∷ xs) =
    let rest : List (DomainNo × A × B) = of_domain d (with_domain d xs) in
    ap (λ b. without_domain (cond b ((d, x.0, x.1) ∷ rest) rest)) (domain_itself d)
    ∙ ap (λ (later : List (A × B)). x ∷ later) (tagged_own d xs)

pub tagged_other : {A B : Type 0} (d q : DomainNo) (xs : List (A × B)) → domain_eq d q ≡ false →
    without_domain (of_domain q (with_domain d xs)) ≡ []
tagged_other d q [] differ = refl
tagged_other {A} {B} d q (x ∷ xs) differ =
    let rest : List (DomainNo × A × B) = of_domain q (with_domain d xs) in
    ap (λ b. without_domain (cond b ((d, x.0, x.1) ∷ rest) rest)) differ ∙ tagged_other d q xs differ
