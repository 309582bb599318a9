use Rattle.std.proofs.Common.{◌≡◌, ◌++◌, ◌∷◌, [], ◌+◌, take, sym, ap, subst, ◌∙◌}
use Rattle.std.specs.List.{AllZip, insert}
use Rattle.std.proofs.lemmas.List.{take_more, take_all}
use Rattle.std.proofs.lemmas.Result.{IfOk-weaker}
use Rattle.cast_types.specs.declared.names.DomainNo.{DomainNo}
use Rattle.cast_events.specs.declared.config.DomainConfig.{DomainConfig}
use Rattle.cast_table.specs.declared.table.Table.{Table}
use Rattle.cast_table.specs.Tables.{IsNew, SharesNothing, by_number, domains_of, place_for}
use Rattle.cast_table.proofs.Ordered.{put_more}
use Rattle.cast_table.proofs.table.Table.new.Goals as goal

pub loop-domain-preserved : goal.loop-domain-preserved
loop-domain-preserved c =
    let i = c.loop-domain.domain-index in
    let items = c.as_slice-domain-items.result.now in
    let domains = c.loop-domain.domains.items in
    let config = c.in_ok-copy.field-0 in
    let domain = c.in_ok-tenant.tenant in
    let is_new : IsNew c.args.config.now.site config domain =
    record {
      number = c.in_ok-tenant.ensures.number;
      running = c.in_ok-tenant.ensures.running;
      placed = c.in_ok-tenant.ensures.placed;
      begins = c.in_ok-tenant.ensures.begins;
    } in
    let more =
    put_more (IsNew c.args.config.now.site) (λ k d new. new.number) config domain is_new (take i items) domains c.loop-domain.invariant in
    let one : take i items ++ config ∷ [] ≡ take (i + 1) items =
    ap (λ (k : DomainConfig). take i items ++ k ∷ []) (c.in_ok-copy.ensures ∙ c.domain-item.is)
    ∙ sym (take_more items i c.domain-item.result c.loop-domain-test.true) in
    let put : c.put_in.new.domains.items ≡ insert domains (place_for config.domain domains) domain =
    c.in_ok-put_in.ensures ∙ ap (λ (n : DomainNo). insert domains (place_for n domains) domain) is_new.number in
    subst (λ xs. AllZip (IsNew c.args.config.now.site) (by_number xs) c.put_in.new.domains.items) one
    (subst (AllZip (IsNew c.args.config.now.site) (by_number (take i items ++ config ∷ []))) (sym put) more)

pub returns-clause-domains : goal.returns-clause-domains
returns-clause-domains c =
    let made : Table = record { domains = c.loop-domain.domains.items; shared = c.new-2.result } in
    let all : AllZip (IsNew c.args.config.now.site) (by_number c.args.config.now.domains) made.domains =
    subst (λ xs. AllZip (IsNew c.args.config.now.site) (by_number xs) made.domains)
    (take_all c.loop-domain.domain-index c.as_slice-domain-items.result.now c.loop-domain-test.false ∙ c.as_slice-domain-items.ensures)
    c.loop-domain.invariant in
    IfOk-weaker c.of.result (λ table. table ≡ made)
    (λ table. AllZip (IsNew c.args.config.now.site) (by_number c.args.config.now.domains) (domains_of table))
    (λ table is. subst (λ (t : Table). AllZip (IsNew c.args.config.now.site) (by_number c.args.config.now.domains) (domains_of t)) (sym is)
    all) c.of.ensures

pub returns-clause-unshared : goal.returns-clause-unshared
returns-clause-unshared c =
    let made : Table = record { domains = c.loop-domain.domains.items; shared = c.new-2.result } in
    IfOk-weaker c.of.result (λ table. table ≡ made) SharesNothing (λ table is. subst SharesNothing (sym is) c.new-2.ensures) c.of.ensures
