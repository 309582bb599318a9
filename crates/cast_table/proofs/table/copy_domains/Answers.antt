use Rattle.std.proofs.Common.{◌≡◌, ◌+◌, ◌++◌, ◌∷◌, [], take, sym, ap, subst, ◌∙◌}
use Rattle.std.specs.List.{AllZip}
use Rattle.std.proofs.lemmas.List.{take_more}
use Rattle.cast_types.proofs.Zips.{zip_push}
use Rattle.cast_domain.specs.declared.domain.Domain.{Domain}
use Rattle.cast_domain.specs.Copies.{IsCopyOf}
use Rattle.cast_table.proofs.table.copy_domains.Goals as goal

pub loop-domain-preserved : goal.loop-domain-preserved
loop-domain-preserved c =
    let i = c.loop-domain.domain-index in
    let items = c.deref-domain-items.result.now in
    let copied = c.loop-domain.copied.items in
    let one : take i items ++ c.domain-item.result ∷ [] ≡ take (i + 1) items =
    ap (λ (d : Domain). take i items ++ d ∷ []) c.domain-item.is ∙ sym (take_more items i c.domain-item.result c.loop-domain-test.true) in
    let before : AllZip IsCopyOf (take i items) copied =
    subst (λ xs. AllZip IsCopyOf (take i xs) copied) (sym c.deref-domain-items.ensures.value) c.loop-domain.invariant in
    subst (λ xs. AllZip IsCopyOf (take (i + 1) xs) c.push.new.self.items) c.deref-domain-items.ensures.value
    (subst (λ xs. AllZip IsCopyOf xs c.push.new.self.items) one
    (subst (AllZip IsCopyOf (take i items ++ c.domain-item.result ∷ [])) (sym c.in_ok-push.ensures.items)
    (zip_push IsCopyOf (take i items) copied c.domain-item.result c.in_ok-copy.field-0 before c.in_ok-copy.ensures)))
