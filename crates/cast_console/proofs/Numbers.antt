-- The lines of the domains, number by number.
use Rattle.std.proofs.Common.{◌≡◌, ℕ, suc, ◌+◌, ◌-◌, ◌<◌, ◌≤◌, List, [], ◌∷◌, refl, sym, ap, ◌∙◌, arith}
use Rattle.std.specs.List.{filter_map}
use Rattle.std.specs.Option.{option_to_list}
use Rattle.cast_table.specs.declared.table.Table.{Table}
use Rattle.cast_table.specs.Shows.{shown_at}
use Rattle.cast_console.specs.Texts.{domain_numbered, line_at, lines_after, numbers_from}
use Rattle.cast_console.proofs.Behind.{domain_then, none_after}

numbers_on : (n : ℕ) → n < 256 → numbers_from n ≡ n ∷ numbers_from (n + 1)
unfolding numbers_from
numbers_on n lt = let e : 256 - n ≡ suc (256 - (n + 1)) = omega arith in rw e refl

numbers_over : (n : ℕ) → 256 ≤ n → numbers_from n ≡ []
unfolding numbers_from
numbers_over n le = let e : 256 - n ≡ 0 = omega arith in rw e refl

-- the line of one number, and then those of the numbers above
pub lines_on : (table : Table) (text : List ℕ) (n : ℕ) → n < 256 → lines_after (lines_after text (option_to_list (line_at table n)))
    (filter_map (line_at table) (numbers_from (n + 1))) ≡ lines_after text (filter_map (line_at table) (numbers_from n))
lines_on table text n lt =
    domain_then text (domain_numbered n) (shown_at (domain_numbered n) table) (filter_map (line_at table) (numbers_from (n + 1)))
    ∙ ap (λ ns. lines_after text (filter_map (line_at table) ns)) (sym (numbers_on n lt))

-- no number is left
pub lines_over : (table : Table) (text : List ℕ) (n : ℕ) → 256 ≤ n → lines_after text (filter_map (line_at table) (numbers_from n)) ≡ text
lines_over table text n le =
    ap (λ ns. lines_after text (filter_map (line_at table) ns)) (numbers_over n le) ∙ none_after text
