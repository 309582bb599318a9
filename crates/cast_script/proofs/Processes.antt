-- A word that is read as a process names it, and the word that names a process is read as it.
use Rattle.std.proofs.Common.{◌≡◌, ℕ, ◌+◌, ◌<◌, ◌^◌, true, ltb, List, [], ◌∷◌, ◌++◌, length}
use Rattle.std.proofs.Common.{get_or, drop, Ok, refl, sym, ap, subst, ◌∙◌, append_assoc, arith}
use Rattle.std.specs.Fmt.{decimal}
use Rattle.std.specs.List.{position_or_len, before_first, after_first}
use Rattle.std.proofs.Math.Seq.{get_or-append_seam}
use Rattle.std.proofs.lemmas.Bool.{eqb-true, lt-ltb, ltb-true, ne_eqb}
use Rattle.std.proofs.lemmas.List.{drop_at, get_or_append_left, length-append, take_at}
use Rattle.std.proofs.lemmas.List.Sums.{passes_at_first, position_or_len_is, split_at_first}
use Rattle.cast_types.specs.declared.names.Proc.{Proc}
use Rattle.cast_script.specs.declared.words.Reason.{Reason}
use Rattle.cast_script.specs.declared.words.Reason.TheVariants.{BadNumber}
use Rattle.cast_script.specs.Words.{IsProc, proc_text}
use Rattle.cast_script.specs.WordReadings.{is_dot, number_within, proc_of, site_and_serial, site_of}
use Rattle.cast_script.proofs.Results.{bind_ok, ok_is, pass_ok}
use Rattle.cast_script.proofs.Numbers.{limited_is, limited_again, no_dots}
use Rattle.cast_script.proofs.Parts.{site_is, site_again}

pub proc_is : (w : List ℕ) (p : Proc) → proc_of w ≡ Ok p → (w ≡ proc_text p) × IsProc p
unfolding proc_of site_and_serial
proc_is w p e =
    let dotted =
    pass_ok (ltb (position_or_len is_dot w) (length w)) BadNumber (site_and_serial (before_first is_dot w) (after_first is_dot w)) p e in
    let site = bind_ok (site_of (before_first is_dot w)) _ p dotted.1 in
    let serial = bind_ok (number_within 1 4294967295 (after_first is_dot w)) _ p site.2 in
    let s = site_is (before_first is_dot w) site.0 site.1 in
    let n = limited_is 1 4294967295 (after_first is_dot w) serial.0 serial.1 in
    let inside : position_or_len is_dot w < length w = ltb-true (position_or_len is_dot w) (length w) dotted.0 in
    let dot : get_or w (position_or_len is_dot w) 0 ≡ 46 =
    eqb-true (get_or w (position_or_len is_dot w) 0) 46 (passes_at_first is_dot w 0 inside) in
    let named : w ≡ decimal site.0.0 ++ (46 ∷ decimal serial.0) = cc (split_at_first is_dot w 0 inside, dot, s.0, n.0) in
    subst (λ q. (w ≡ proc_text q) × IsProc q) (ok_is Reason (record { site = site.0; serial = serial.0 }) p serial.2) (named, (s.1, n.1))

-- the first dot stands behind the digits of the site
first_dot : (s : ℕ) (rest : List ℕ) → s < 2 ^ 64 → position_or_len is_dot (decimal s ++ (46 ∷ rest)) ≡ length (decimal s)
first_dot s rest small =
    let size = length-append (decimal s) (46 ∷ rest) in
    position_or_len_is is_dot (decimal s ++ (46 ∷ rest)) (length (decimal s)) 0 (omega (arith, size))
    (λ k inside. rw (get_or_append_left (decimal s) (46 ∷ rest) 0 k inside) (ne_eqb (get_or (decimal s) k 0) 46 (no_dots s small k inside)))
    (λ inside. rw (get_or-append_seam (decimal s) 46 rest 0) refl)

pub proc_again : (p : Proc) → IsProc p → proc_of (proc_text p) ≡ Ok p
unfolding proc_of site_and_serial
proc_again p is =
    let w : List ℕ = proc_text p in
    let at : position_or_len is_dot w ≡ length (decimal p.site.0) = first_dot p.site.0 (decimal p.serial) (omega (arith, is.0.1)) in
    let inside : ltb (position_or_len is_dot w) (length w) ≡ true =
    lt-ltb (position_or_len is_dot w) (length w) (omega (arith, at, length-append (decimal p.site.0) (46 ∷ decimal p.serial))) in
    let before : before_first is_dot w ≡ decimal p.site.0 =
    take_at (decimal p.site.0) (46 ∷ decimal p.serial) (position_or_len is_dot w) (sym at) in
    let regrouped : w ≡ (decimal p.site.0 ++ (46 ∷ [])) ++ decimal p.serial =
    sym (append_assoc (decimal p.site.0) (46 ∷ []) (decimal p.serial)) in
    let behind : after_first is_dot w ≡ decimal p.serial =
    ap (drop (position_or_len is_dot w + 1)) regrouped ∙ drop_at (decimal p.site.0 ++ (46 ∷ [])) (decimal p.serial)
    (position_or_len is_dot w + 1) (omega (arith, at, length-append (decimal p.site.0) (46 ∷ []))) in
    rw (inside, before, behind, site_again p.site is.0, limited_again 1 4294967295 p.serial is.1 (omega arith)) refl
