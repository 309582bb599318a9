use Rattle.std.proofs.Common.{◌≡◌, ℕ, List, [], ◌∷◌, length, get_or, codes, Ok, Err, refl, sym, arith}
use Rattle.std.specs.Borrow.{Bor}
use Rattle.std.proofs.lemmas.Result.{err_from_is_err_and}
use Rattle.cast_types.specs.declared.names.DomainNo.{DomainNo}
use Rattle.cast_types.specs.declared.names.SiteNo.{SiteNo}
use Rattle.cast_events.specs.declared.config.DomainConfig.{DomainConfig}
use Rattle.cast_script.specs.declared.words.Reason.{Reason}
use Rattle.cast_script.specs.Words.{texts}
use Rattle.cast_script.specs.WordReadings.{fixed_of, new_domain_of, place_words, site_of}
use Rattle.cast_script.proofs.domain.place_words.Goals as goal

ends_at_third : (before : List DomainConfig) (ws : List (Bor (List ℕ))) (d : Bor (List ℕ)) (domain : DomainNo) (u : Unit {0}) (e : Reason) →
    length ws ≡ 3 → new_domain_of before (get_or ws 0 d).now ≡ Ok domain → fixed_of (codes "home") (get_or ws 1 d).now ≡ Ok u →
    site_of (get_or ws 2 d).now ≡ Err e → place_words before (texts ws) ≡ Err e
unfolding place_words
ends_at_third before (a ∷ b ∷ c ∷ []) d domain u e three first second at = rw (first, second, at) refl
ends_at_third before ws d domain u e three first second at = absurd (omega arith)

is_read : (before : List DomainConfig) (ws : List (Bor (List ℕ))) (d : Bor (List ℕ)) (domain : DomainNo) (u : Unit {0}) (home : SiteNo) →
    length ws ≡ 3 → new_domain_of before (get_or ws 0 d).now ≡ Ok domain → fixed_of (codes "home") (get_or ws 1 d).now ≡ Ok u →
    site_of (get_or ws 2 d).now ≡ Ok home → place_words before (texts ws) ≡ Ok (domain, home)
unfolding place_words
is_read before (a ∷ b ∷ c ∷ []) d domain u home three first second third = rw (first, second, third) refl
is_read before ws d domain u home three first second third = absurd (omega arith)

pub returns-in_err-site_word : goal.returns-in_err-site_word
returns-in_err-site_word c =
    let p = err_from_is_err_and c.from_residual-in_err-site_word.result c.from_residual-in_err-site_word.ensures.1 in
    rw (p.1, p.2)
    (sym (ends_at_third c.args.before.now c.args.words.now _ c.in_ok-domain.domain c.in_ok-fixed_word.field-0 c.in_err-site_word.field-0.0
    (omega arith) (sym c.in_ok-domain.ensures) (sym c.in_ok-fixed_word.ensures) (sym c.in_err-site_word.ensures)))

pub returns : goal.returns
returns c =
    sym (is_read c.args.before.now c.args.words.now _ c.in_ok-domain.domain c.in_ok-fixed_word.field-0 c.in_ok-site_word.field-0
    (omega arith) (sym c.in_ok-domain.ensures) (sym c.in_ok-fixed_word.ensures) (sym c.in_ok-site_word.ensures))
