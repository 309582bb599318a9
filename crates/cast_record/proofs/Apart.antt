-- A line names one domain.
use Rattle.std.proofs.Common.{◌≡◌, ◌<◌, ◌^◌, ℕ, Bool, true, false, cond, not, ◌&&◌, ◌||◌, List, Option, Some, None}
use Rattle.std.proofs.Common.{refl, sym, ap, ◌∙◌, arith, bytes_eq, codes, decimal}
use Rattle.std.specs.Str.Parse.{digits_value}
use Rattle.std.proofs.lemmas.Bool.{eqb-true}
use Rattle.std.proofs.lemmas.Fmt.{decimal_is_IsNumeral}
use Rattle.std.proofs.lemmas.Slice.Eq.{bytes_eq-Decides}
use Rattle.cast_types.specs.declared.names.DomainNo.{DomainNo}
use Rattle.cast_record.specs.Lines.{fifth_byte, is_comment, first_word, is_for, is_for_all, is_some_of, names, second_word}
use Rattle.cast_record.specs.Parts.{events_in, has_place, is_over}
use Rattle.cast_record.specs.Laws.{DomainsAreApart}

same_byte : (o : Option ℕ) (d e : DomainNo) → is_some_of d o ≡ true → is_some_of e o ≡ true → d.0 ≡ e.0
same_byte (Some n) d e p q = sym (eqb-true n d.0 p) ∙ eqb-true n e.0 q
same_byte None d e p q = absurd (cc)

same_word : (word : List ℕ) (d e : DomainNo) → d.0 < 2 ^ 8 → e.0 < 2 ^ 8 → bytes_eq word (decimal d.0) ≡ true
    → bytes_eq word (decimal e.0) ≡ true → d.0 ≡ e.0
same_word word d e small other p q =
    let first : word ≡ decimal d.0 = (bytes_eq-Decides word (decimal d.0)).0 p in
    let second : word ≡ decimal e.0 = (bytes_eq-Decides word (decimal e.0)).0 q in
    sym (decimal_is_IsNumeral d.0 (omega arith)).1
    ∙ ap (λ w. digits_value 10 w) (sym first ∙ second)
    ∙ (decimal_is_IsNumeral e.0 (omega arith)).1

by_kind : (b : Bool) (o : Option ℕ) (word : List ℕ) (d e : DomainNo) → d.0 < 2 ^ 8 → e.0 < 2 ^ 8
    → cond b (is_some_of d o) (bytes_eq word (decimal d.0)) ≡ true
    → cond b (is_some_of e o) (bytes_eq word (decimal e.0)) ≡ true → d.0 ≡ e.0
by_kind true o word d e small other p q = same_byte o d e p q
by_kind false o word d e small other p q = same_word word d e small other p q

same_domain : (d e : DomainNo) → d.0 ≡ e.0 → d ≡ e
same_domain d e same = λ i. record { 0 = same i }

pub one_domain : (d e : DomainNo) (line : List ℕ) → d.0 < 2 ^ 8 → e.0 < 2 ^ 8 → names d line ≡ true → names e line ≡ true → d ≡ e
one_domain d e line small other p q =
    same_domain d e
    (by_kind (bytes_eq (first_word line) (codes "frame")) (fifth_byte (second_word line)) (second_word line) d e small other p q)

for_all : (all n m : Bool) → (n ≡ true → m ≡ true → ⊥) → (all || n) ≡ true → (all || m) ≡ true → all ≡ true
for_all true n m apart p q = refl
for_all false n m apart p q = absurd (apart p q)

wanted : (a b c d : Bool) → (a && (b && (c && d))) ≡ true → d ≡ true
wanted true true true d e = e
wanted true true false d e = absurd (cc)
wanted true false c d e = absurd (cc)
wanted false b c d e = absurd (cc)

pub domains_are_apart : DomainsAreApart
domains_are_apart until d e before l small other apart p q =
    for_all (is_for_all l.text) (names d l.text) (names e l.text)
    (λ n m. apart (one_domain d e l.text small other n m))
    (wanted (not (is_over (record { until = until; domain = Some d }) before)) (not (is_comment l.text))
    (has_place (record { until = until; domain = Some d }) (events_in before) l) (is_for d l.text) p)
    (wanted (not (is_over (record { until = until; domain = Some e }) before)) (not (is_comment l.text))
    (has_place (record { until = until; domain = Some e }) (events_in before) l) (is_for e l.text) q)
