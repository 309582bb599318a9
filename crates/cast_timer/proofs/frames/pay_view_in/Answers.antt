use Rattle.std.proofs.Common.{◌≡◌, ℕ, List, rules, not, filter, ap, ◌∙◌}
use Rattle.std.proofs.lemmas.Map.Made.{filter_same_pairs}
use Rattle.cast_timer.specs.declared.key.OwedKey.{OwedKey}
use Rattle.cast_timer.specs.Owed.{is_of_view}
use Rattle.cast_timer.specs.Index.{due_of}
use Rattle.cast_timer.proofs.Index.{looked_kept}
use Rattle.cast_timer.proofs.Kept.{keeps_dropped}
use Rattle.cast_timer.proofs.frames.pay_view_in.Goals as goal

pub returns-clause-kept : goal.returns-clause-kept
returns-clause-kept c =
    let test = is_of_view c.args.group in
    let dues = c.args.dues.now.entries in
    let less : c.retain.new.self.entries ≡ filter (λ e. not (test e.0)) dues =
    filter_same_pairs _ _ _ (λ k v b w f' t. (search rules, search rules, search rules)) _ _ c.retain.ensures.filtered in
    keeps_dropped c.args.domain c.args.moments.now.entries c.take_view.new.moments.entries test (due_of dues)
    (due_of c.retain.new.self.entries) c.requires c.take_view.ensures.shaped c.take_view.ensures.filled c.take_view.ensures.taken
    (λ q. ap (λ (es : List (OwedKey × ℕ)). due_of es q) less ∙ looked_kept test dues q)

pub returns-clause-paid : goal.returns-clause-paid
returns-clause-paid c q =
    let test = is_of_view c.args.group in
    let less : c.retain.new.self.entries ≡ filter (λ e. not (test e.0)) c.args.dues.now.entries =
    filter_same_pairs _ _ _ (λ k v b w f' t. (search rules, search rules, search rules)) _ _ c.retain.ensures.filtered in
    ap (λ (es : List (OwedKey × ℕ)). due_of es q) less ∙ looked_kept test c.args.dues.now.entries q
