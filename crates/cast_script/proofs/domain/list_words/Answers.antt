use Rattle.std.proofs.Common.{◌≡◌, ℕ, List, [], ◌∷◌, length, get_or, codes, Ok, Err, sym, refl, arith}
use Rattle.std.specs.Borrow.{Bor}
use Rattle.std.proofs.lemmas.Result.{err_from_is_err_and}
use Rattle.cast_types.specs.declared.names.SiteNo.{SiteNo}
use Rattle.cast_types.specs.declared.names.GroupNo.{GroupNo}
use Rattle.cast_script.specs.declared.words.Reason.{Reason}
use Rattle.cast_script.specs.Words.{texts}
use Rattle.cast_script.specs.WordReadings.{fixed_of, groups_of, list_words, sites_of}
use Rattle.cast_script.proofs.Parts.{lists_end}
use Rattle.cast_script.proofs.domain.list_words.Goals as goal

ends_at_sites : (h o : SiteNo) (ws : List (Bor (List ℕ))) (d : Bor (List ℕ)) (e : Reason) → length ws ≡ 4
    → fixed_of (codes "sites") (get_or ws 0 d).now ≡ Err e → list_words h o (texts ws) ≡ Err e
unfolding list_words
ends_at_sites h o (a ∷ s ∷ b ∷ g ∷ []) d e four at = rw at refl
ends_at_sites h o ws d e four at = absurd (omega arith)

are_read : (h o : SiteNo) (ws : List (Bor (List ℕ))) (d : Bor (List ℕ)) (u v : Unit {0}) (sites : List SiteNo) (groups : List GroupNo)
    → length ws ≡ 4 → fixed_of (codes "sites") (get_or ws 0 d).now ≡ Ok u → sites_of h o (get_or ws 1 d).now ≡ Ok sites
    → fixed_of (codes "groups") (get_or ws 2 d).now ≡ Ok v → groups_of (get_or ws 3 d).now ≡ Ok groups
    → list_words h o (texts ws) ≡ Ok (sites, groups)
unfolding list_words
are_read h o (a ∷ s ∷ b ∷ g ∷ []) d u v sites groups four first second third fourth = rw (first, second, third, fourth) refl
are_read h o ws d u v sites groups four first second third fourth = absurd (omega arith)

pub returns-in_err-fixed_word : goal.returns-in_err-fixed_word
returns-in_err-fixed_word c =
    let p = err_from_is_err_and c.from_residual.result c.from_residual.ensures.1 in
    rw (p.1, p.2)
    (ends_at_sites c.args.home c.args.own c.args.words.now _ c.in_err-fixed_word.field-0.0 (omega arith) (sym c.in_err-fixed_word.ensures))

pub returns-in_err-fixed_word-2 : goal.returns-in_err-fixed_word-2
returns-in_err-fixed_word-2 c =
    let p = err_from_is_err_and c.from_residual-in_err-fixed_word-2.result c.from_residual-in_err-fixed_word-2.ensures.1 in
    rw (p.1, p.2)
    (lists_end c.args.home c.args.own c.args.words.now _ c.in_ok-fixed_word.field-0 c.in_ok-sites.sites c.in_err-fixed_word-2.field-0.0
    (omega arith) (sym c.in_ok-fixed_word.ensures) c.in_ok-sites.ensures (sym c.in_err-fixed_word-2.ensures))

pub returns : goal.returns
returns c =
    rw c.sites.view_is (are_read c.args.home c.args.own c.args.words.now _ c.in_ok-fixed_word.field-0 c.in_ok-fixed_word-2.field-0
    c.in_ok-sites.sites c.in_ok-groups_word.field-0 (omega arith) (sym c.in_ok-fixed_word.ensures)
    c.in_ok-sites.ensures (sym c.in_ok-fixed_word-2.ensures) c.in_ok-groups_word.ensures)
