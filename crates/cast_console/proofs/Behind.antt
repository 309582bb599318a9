-- Lines behind a text: none, one, and others behind it.
use Rattle.std.proofs.Common.{◌≡◌, ℕ, List, [], ◌∷◌, ◌++◌, Option, Some, None, refl, sym, ap, ◌∙◌, append_assoc}
use Rattle.std.specs.List.{cons_option, flat_map}
use Rattle.std.specs.Option.{option_map, option_to_list}
use Rattle.std.proofs.lemmas.List.{append-nil}
use Rattle.cast_types.specs.declared.names.DomainNo.{DomainNo}
use Rattle.cast_domain.specs.declared.show.Shown.{Shown}
use Rattle.cast_console.specs.Texts.{domain_line, line_begun, line_feed, lines_after}

pub none_after : (text : List ℕ) → lines_after text [] ≡ text
none_after [] = refl
none_after (c ∷ cs) = append-nil (c ∷ cs)

-- a line that is not empty, and then others
one_more : (text : List ℕ) (c : ℕ) (cs : List ℕ) (lines : List (List ℕ)) →
    lines_after (line_begun text ++ c ∷ cs) lines ≡ lines_after text ((c ∷ cs) ∷ lines)
one_more [] c cs lines = refl
one_more (t ∷ ts) c cs lines =
    let others : List ℕ = flat_map (λ l. line_feed ++ l) lines in
    ap (λ r. t ∷ r) (append_assoc (ts ++ line_feed) (c ∷ cs) others ∙ append_assoc ts line_feed ((c ∷ cs) ++ others))

alone : (text : List ℕ) (c : ℕ) (cs : List ℕ) → lines_after text ((c ∷ cs) ∷ []) ≡ line_begun text ++ c ∷ cs
alone text c cs = sym (one_more text c cs []) ∙ none_after (line_begun text ++ c ∷ cs)

-- the line of a domain, where there is one, and then others
pub domain_then : (text : List ℕ) (d : DomainNo) (shown : Option Shown) (lines : List (List ℕ)) →
    lines_after (lines_after text (option_to_list (option_map (domain_line d) shown))) lines
    ≡ lines_after text (cons_option (option_map (domain_line d) shown) lines)
domain_then text d None lines = ap (λ t. lines_after t lines) (none_after text)
domain_then text d (Some s) lines = ap (λ t. lines_after t lines) (alone text _ _) ∙ one_more text _ _ lines
