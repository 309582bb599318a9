use Rattle.std.proofs.Common.{◌≡◌, ℕ, List, [], ◌∷◌, length, get_or, codes, Ok, Err, refl, sym, arith}
use Rattle.std.specs.Borrow.{Bor}
use Rattle.std.proofs.lemmas.Result.{err_from_is_err_and}
use Rattle.cast_script.specs.declared.words.Reason.{Reason}
use Rattle.cast_script.specs.Words.{texts}
use Rattle.cast_script.specs.WordReadings.{fixed_of, number_within, quota_words}
use Rattle.cast_script.proofs.domain.quota_words.Goals as goal

ends_at_quotas_are : (ws : List (Bor (List ℕ))) (d : Bor (List ℕ)) (e : Reason) → length ws ≡ 5 →
    fixed_of (codes "quotas") (get_or ws 0 d).now ≡ Err e → quota_words (texts ws) ≡ Err e
unfolding quota_words
ends_at_quotas_are (a ∷ b ∷ c ∷ x ∷ y ∷ []) d e five at = rw at refl
ends_at_quotas_are ws d e five at = absurd (omega arith)

ends_at_sessions : (ws : List (Bor (List ℕ))) (d : Bor (List ℕ)) (u : Unit {0}) (e : Reason) → length ws ≡ 5 →
    fixed_of (codes "quotas") (get_or ws 0 d).now ≡ Ok u → number_within 1 64 (get_or ws 1 d).now ≡ Err e → quota_words (texts ws) ≡ Err e
unfolding quota_words
ends_at_sessions (a ∷ b ∷ c ∷ x ∷ y ∷ []) d u e five quotas_are at = rw (quotas_are, at) refl
ends_at_sessions ws d u e five quotas_are at = absurd (omega arith)

ends_at_held : (ws : List (Bor (List ℕ))) (d : Bor (List ℕ)) (u : Unit {0}) (s : ℕ) (e : Reason) → length ws ≡ 5 →
    fixed_of (codes "quotas") (get_or ws 0 d).now ≡ Ok u → number_within 1 64 (get_or ws 1 d).now ≡ Ok s →
    number_within 1 1024 (get_or ws 2 d).now ≡ Err e → quota_words (texts ws) ≡ Err e
unfolding quota_words
ends_at_held (a ∷ b ∷ c ∷ x ∷ y ∷ []) d u s e five quotas_are sessions at = rw (quotas_are, sessions, at) refl
ends_at_held ws d u s e five quotas_are sessions at = absurd (omega arith)

ends_at_outbox : (ws : List (Bor (List ℕ))) (d : Bor (List ℕ)) (u : Unit {0}) (s : ℕ) (h : ℕ) (e : Reason) → length ws ≡ 5 →
    fixed_of (codes "quotas") (get_or ws 0 d).now ≡ Ok u → number_within 1 64 (get_or ws 1 d).now ≡ Ok s →
    number_within 1 1024 (get_or ws 2 d).now ≡ Ok h → number_within 1 4096 (get_or ws 3 d).now ≡ Err e → quota_words (texts ws) ≡ Err e
unfolding quota_words
ends_at_outbox (a ∷ b ∷ c ∷ x ∷ y ∷ []) d u s h e five quotas_are sessions held at = rw (quotas_are, sessions, held, at) refl
ends_at_outbox ws d u s h e five quotas_are sessions held at = absurd (omega arith)

ends_at_resend : (ws : List (Bor (List ℕ))) (d : Bor (List ℕ)) (u : Unit {0}) (s : ℕ) (h : ℕ) (o : ℕ) (e : Reason) → length ws ≡ 5 →
    fixed_of (codes "quotas") (get_or ws 0 d).now ≡ Ok u → number_within 1 64 (get_or ws 1 d).now ≡ Ok s →
    number_within 1 1024 (get_or ws 2 d).now ≡ Ok h → number_within 1 4096 (get_or ws 3 d).now ≡ Ok o →
    number_within 10 60000 (get_or ws 4 d).now ≡ Err e → quota_words (texts ws) ≡ Err e
unfolding quota_words
ends_at_resend (a ∷ b ∷ c ∷ x ∷ y ∷ []) d u s h o e five quotas_are sessions held outbox at =
    rw (quotas_are, sessions, held, outbox, at) refl
ends_at_resend ws d u s h o e five quotas_are sessions held outbox at = absurd (omega arith)

is_read : (ws : List (Bor (List ℕ))) (d : Bor (List ℕ)) (u : Unit {0}) (s : ℕ) (h : ℕ) (o : ℕ) (r : ℕ) → length ws ≡ 5 →
    fixed_of (codes "quotas") (get_or ws 0 d).now ≡ Ok u → number_within 1 64 (get_or ws 1 d).now ≡ Ok s →
    number_within 1 1024 (get_or ws 2 d).now ≡ Ok h → number_within 1 4096 (get_or ws 3 d).now ≡ Ok o →
    number_within 10 60000 (get_or ws 4 d).now ≡ Ok r →
    quota_words (texts ws) ≡ Ok (record { sessions = s; held = h; outbox = o; resend = r })
unfolding quota_words
is_read (a ∷ b ∷ c ∷ x ∷ y ∷ []) d u s h o r five quotas_are sessions held outbox resend =
    rw (quotas_are, sessions, held, outbox, resend) refl
is_read ws d u s h o r five quotas_are sessions held outbox resend = absurd (omega arith)

pub returns-in_err-fixed_word : goal.returns-in_err-fixed_word
returns-in_err-fixed_word c =
    let p = err_from_is_err_and c.from_residual.result c.from_residual.ensures.1 in
    rw (p.1, p.2)
    (sym (ends_at_quotas_are c.args.words.now _ c.in_err-fixed_word.field-0.0 (omega arith) (sym c.in_err-fixed_word.ensures)))

pub returns-in_err-number_between : goal.returns-in_err-number_between
returns-in_err-number_between c =
    let p = err_from_is_err_and c.from_residual-in_err-number_between.result c.from_residual-in_err-number_between.ensures.1 in
    rw (p.1, p.2) (sym (ends_at_sessions c.args.words.now _ c.in_ok-fixed_word.field-0 c.in_err-number_between.field-0.0 (omega arith)
    (sym c.in_ok-fixed_word.ensures) (sym c.in_err-number_between.ensures)))

pub returns-in_err-number_between-2 : goal.returns-in_err-number_between-2
returns-in_err-number_between-2 c =
    let p = err_from_is_err_and c.from_residual-in_err-number_between-2.result c.from_residual-in_err-number_between-2.ensures.1 in
    rw (p.1, p.2)
    (sym (ends_at_held c.args.words.now _ c.in_ok-fixed_word.field-0 c.in_ok-number_between.field-0 c.in_err-number_between-2.field-0.0
    (omega arith) (sym c.in_ok-fixed_word.ensures) (sym c.in_ok-number_between.ensures) (sym c.in_err-number_between-2.ensures)))

pub returns-in_err-number_between-3 : goal.returns-in_err-number_between-3
returns-in_err-number_between-3 c =
    let p = err_from_is_err_and c.from_residual-in_err-number_between-3.result c.from_residual-in_err-number_between-3.ensures.1 in
    rw (p.1, p.2) (sym (ends_at_outbox c.args.words.now _ c.in_ok-fixed_word.field-0 c.in_ok-number_between.field-0
    c.in_ok-number_between-2.field-0 c.in_err-number_between-3.field-0.0 (omega arith) (sym c.in_ok-fixed_word.ensures)
    (sym c.in_ok-number_between.ensures) (sym c.in_ok-number_between-2.ensures) (sym c.in_err-number_between-3.ensures)))

pub returns-in_err-number_between-4 : goal.returns-in_err-number_between-4
returns-in_err-number_between-4 c =
    let p = err_from_is_err_and c.from_residual-in_err-number_between-4.result c.from_residual-in_err-number_between-4.ensures.1 in
    rw (p.1, p.2) (sym (ends_at_resend c.args.words.now _ c.in_ok-fixed_word.field-0 c.in_ok-number_between.field-0
    c.in_ok-number_between-2.field-0 c.in_ok-number_between-3.field-0 c.in_err-number_between-4.field-0.0 (omega arith)
    (sym c.in_ok-fixed_word.ensures) (sym c.in_ok-number_between.ensures) (sym c.in_ok-number_between-2.ensures)
    (sym c.in_ok-number_between-3.ensures) (sym c.in_err-number_between-4.ensures)))

pub returns : goal.returns
returns c =
    sym (is_read c.args.words.now _ c.in_ok-fixed_word.field-0 c.in_ok-number_between.field-0 c.in_ok-number_between-2.field-0
    c.in_ok-number_between-3.field-0 c.in_ok-number_between-4.field-0 (omega arith) (sym c.in_ok-fixed_word.ensures)
    (sym c.in_ok-number_between.ensures) (sym c.in_ok-number_between-2.ensures) (sym c.in_ok-number_between-3.ensures)
    (sym c.in_ok-number_between-4.ensures))
